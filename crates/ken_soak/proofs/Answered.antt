-- What a soak run leaves, by what its run left.
use Rattle.std.proofs.Common.{◌≡◌, inl, inr, ℕ, ◌<◌, ◌≤◌, List, Option, Result, Ok, Err, refl, ap, subst}
use Rattle.ken_model.specs.declared.facts.TheConstants.{MAX_INPUTS, MAX_NODES}
use Rattle.ken_model.specs.declared.reports.Lines.{Lines}
use Rattle.ken_model.specs.Kinds.{handler_of}
use Rattle.ken_script.specs.declared.scripts.Script.{Script}
use Rattle.ken_store.specs.declared.disks.Disks.{Disks}
use Rattle.ken_run.specs.declared.faults.RunFault.{RunFault}
use Rattle.ken_run.specs.declared.faults.RunFault.TheVariants.{Damaged, Down, Memory}
use Rattle.ken_drive.specs.Driven.{Drives, Views}
use Rattle.ken_drive.specs.Sparing.{IsLetBy}
use Rattle.ken_drive.specs.Worlds.{HasKeptNothing}
use Rattle.ken_gen.specs.Generated.{script_of}
use Rattle.ken_gen.specs.Summary.{summary}
use Rattle.ken_soak.specs.Soaking.{HasSoaked, IsSoakRun, Soaked, SoaksBy}
use Rattle.ken_soak.proofs.Spared.{only_memory}
use Rattle.ken_soak.proofs.Summed.{driven_by, soaked_by}

module _ {D O U : Type 0} (views : Views D O U) (kept : ℕ → Option (Disks D × O × U)) (seed nodes inputs rounds : ℕ) where
  -- memory was short for the script
  pub no_script : HasKeptNothing kept → Soaked views kept seed nodes inputs rounds (Err Memory)
  no_script none = record { soaks = inl none; lets = λ scripted. refl }

  module _ (script : Script) (made : script ≡ script_of seed nodes inputs rounds) where
    abbrev Ran : Script → RunFault → Type 0
    Ran s fault = Drives views (handler_of s.facts.kind) s rounds kept (Err fault)

    -- it makes the rounds that the script asks for
    pub its_rounds : (result : Result Lines RunFault) → Drives views (handler_of script.facts.kind) script script.rounds kept result → Drives views (handler_of script.facts.kind) script rounds kept result
    its_rounds result drives = subst (λ (n : ℕ). Drives views (handler_of script.facts.kind) script n kept result) (ap (λ (s : Script). s.rounds) made) drives

    stops : (fault : RunFault) → Ran (script_of seed nodes inputs rounds) fault → SoaksBy views kept seed nodes inputs rounds (Err fault)
    stops (Down v) drives = drives.drives
    stops Memory drives = inl drives.drives
    stops (Damaged v disk place) drives = absurd drives.drives

    -- its run has no lines
    pub not_run : (fault : RunFault) → Drives views (handler_of script.facts.kind) script rounds kept (Err fault) → Soaked views kept seed nodes inputs rounds (Err fault)
    not_run fault drives = record {
      soaks = stops fault (subst (λ (s : Script). Ran s fault) made drives);
      lets = λ scripted. only_memory seed nodes inputs rounds fault (subst (λ (s : Script). IsLetBy s fault) made (drives.lets scripted));
    }

    -- or it has some
    module _ (some : 0 < nodes) (few_nodes : nodes ≤ MAX_NODES) (few_inputs : inputs ≤ MAX_INPUTS) (l : Lines) (drives : Drives views (handler_of script.facts.kind) script rounds kept (Ok l)) where
      pub has_run : IsSoakRun seed nodes inputs l
      has_run = record { some = some; few_nodes = few_nodes; few_inputs = few_inputs; run = (driven_by views rounds kept l script (script_of seed nodes inputs rounds) made drives.drives).run }

      has_soaked : HasSoaked views kept seed nodes inputs rounds
      has_soaked = soaked_by views kept seed nodes inputs rounds l script some few_nodes few_inputs made drives.drives

      pub summed : (text : List ℕ) → text ≡ summary seed nodes inputs → Soaked views kept seed nodes inputs rounds (Ok text)
      summed text is = record { soaks = (is, has_soaked); lets = λ scripted. tt }

      -- and memory was short for the summary
      pub not_summed : Soaked views kept seed nodes inputs rounds (Err Memory)
      not_summed = record { soaks = inr has_soaked; lets = λ scripted. refl }
