-- A script that a source tells is run to its end, unless it lets a node go down.
use Rattle.std.proofs.Common.{◌≡◌, ℕ, List, Option, Some, None, refl, subst}
use Rattle.ken_model.specs.declared.reports.Lines.{Lines}
use Rattle.ken_store.specs.declared.disks.Disks.{Disks}
use Rattle.ken_drive.specs.Driven.{Views}
use Rattle.ken_drive.specs.Sparing.{LetsGoDown}
use Rattle.ken_top.specs.declared.status.Status.{Status}
use Rattle.ken_top.specs.declared.status.Status.TheVariants as status
use Rattle.ken_top.specs.Programs.{Program, SaysTo, BreaksTo}
use Rattle.ken_top.proofs.Reported.{language}
use Rattle.ken_top.specs.Headline.{IsEnd, IsComplete, IsLet, IsLetDown, IsRefusal, IsOut}

pub ended : (program : Program) (left : Option (List ℕ)) (s : Status) → IsEnd s → IsComplete program left s
ended program None s end = tt
ended program (Some b) s end = λ script says spared. end

-- where a report is out
pub complete_written : (program : Program) (left old new : Option (List ℕ)) (l : Lines) (s : Status) (rose : Type 0) → IsOut old new l s → (s ≡ status.Write → rose) → (rose → ⊥) → IsComplete program left s
complete_written program left old new l status.Settled rose out failed none = ended program left status.Settled tt
complete_written program left old new l status.Cut rose out failed none = ended program left status.Cut tt
complete_written program left old new l status.Memory rose out failed none = ended program left status.Memory tt
complete_written program left old new l status.Write rose out failed none = absurd (none (failed refl))
complete_written program left old new l s rose out failed none = absurd out

-- no node is told as down there
pub let_written : (program : Program) (left old new : Option (List ℕ)) (l : Lines) (s : Status) → IsOut old new l s → IsLet program left s
let_written program left old new l (status.Down v) out = absurd out
let_written program left old new l s out = tt

-- a script that spares its nodes lets none go down, and a text says one script
spares : (program : Program) (left : Option (List ℕ)) (v : ℕ) → IsLetDown program left v → IsComplete program left (status.Down v)
spares program None v is = tt
spares program (Some b) v is = λ script says spared.
    let same = (language program).says_once b is.script script (subst (λ x. SaysTo program x is.script) is.told is.says) says in
    spared v (subst (λ x. LetsGoDown x v) same is.lets)

module _ {D O U : Type 0} (program : Program) (made : ℕ → ℕ) (views : Views D O U) (kept : ℕ → Option (Disks D × O × U)) where
  said : (left : Option (List ℕ)) (rule index : ℕ) → IsRefusal program made views kept left (status.Script rule index) → IsComplete program left (status.Script rule index)
  said None rule index refusal = tt
  said (Some b) rule index refusal = λ script says spared. (language program).says_or_breaks b script rule index says (subst (λ x. BreaksTo program x rule index) refusal.1 refusal.2)

  -- where there is none
  pub complete_refused : (left : Option (List ℕ)) (s : Status) (rose : Type 0) → IsRefusal program made views kept left s → IsLet program left s → (s ≡ status.Read → rose) → (rose → ⊥) → IsComplete program left s
  complete_refused left (status.Script rule index) rose refusal lets failed none = said left rule index refusal
  complete_refused left (status.Down v) rose refusal lets failed none = spares program left v lets
  complete_refused left status.Memory rose refusal lets failed none = ended program left status.Memory tt
  complete_refused left status.Read rose refusal lets failed none = absurd (none (failed refl))
  complete_refused left s rose refusal lets failed none = absurd refusal
