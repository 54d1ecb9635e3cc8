-- Drawn faults bring no node down that the script alone wouldn't.
use Rattle.std.proofs.Common.{ℕ, List, Option, Some, None, refl, subst}
use Rattle.ken_drive.specs.Sparing.{LetsGoDown}
use Rattle.ken_soak.specs.Tormenting.{TormentSpares}
use Rattle.ken_top.specs.declared.status.Status.{Status}
use Rattle.ken_top.specs.declared.status.Status.TheVariants as status
use Rattle.ken_top.specs.Headline.{IsComplete, IsLet, IsLetDown}
use Rattle.ken_top.specs.Programs.{Program, torment}

module _ (spares : TormentSpares) (seed : ℕ) (program : Program) where
  down : (left : Option (List ℕ)) (v : ℕ) → IsLetDown (torment seed program) left v → IsLetDown program left v
  down left v is = record {
    read = is.read;
    told = is.told;
    script = is.says.plain;
    says = is.says.says;
    lets = spares seed is.says.plain v (subst (λ s. LetsGoDown s v) is.says.drawn is.lets);
  }

  -- so a node that is down under them is one that the script lets go down
  pub plain_let : (left : Option (List ℕ)) (s : Status) → IsLet (torment seed program) left s → IsLet program left s
  plain_let left (status.Down v) is = down left v is
  plain_let left s is = tt

  -- and a script that lets none go down is run to its end
  pub plain_complete : (left : Option (List ℕ)) (s : Status) → IsComplete (torment seed program) left s → IsComplete program left s
  plain_complete None s is = tt
  plain_complete (Some b) s is = λ script says spared. is _ (record { plain = script; says = says; drawn = refl }) (λ v lets. spared v (spares seed script v lets))
