-- What a soak run leaves.
use Rattle.std.specs.Prelude.{◌≡◌, ◌⊎◌, ℕ, ◌<◌, ◌≤◌, List, true, Option, Result, Ok, Err, IfErr}
use Rattle.ken_model.specs.declared.facts.TheConstants.{MAX_INPUTS, MAX_NODES}
use Rattle.ken_model.specs.declared.kinds.Kind.TheVariants.{Share}
use Rattle.ken_model.specs.declared.reports.Ending.TheVariants.{Settled}
use Rattle.ken_model.specs.declared.reports.Lines.{Lines}
use Rattle.ken_model.specs.Kinds.{handler_of}
use Rattle.ken_script.specs.declared.scripts.TheConstants.{MAX_ROUNDS}
use Rattle.ken_store.specs.declared.disks.Disks.{Disks}
use Rattle.ken_run.specs.declared.faults.RunFault.{RunFault}
use Rattle.ken_run.specs.declared.faults.RunFault.TheVariants.{Damaged, Down, Memory}
use Rattle.ken_drive.specs.Driven.{HasDriven, HasGoneDown, Views}
use Rattle.ken_drive.specs.Ended.{IsRunOf}
use Rattle.ken_drive.specs.Starting.{game_by, terms_of}
use Rattle.ken_drive.specs.Worlds.{HasKeptNothing}
use Rattle.ken_gen.specs.Generated.{script_of}
use Rattle.ken_gen.specs.SoakLaws.{soak_game}
use Rattle.ken_gen.specs.Summary.{summary}

-- so many nodes, with so many inputs and rounds, may be soaked over a world that has kept nothing
pub record MaySoak {K : Type 0} (nodes inputs rounds : ℕ) (kept : ℕ → Option K) : Type 0 where
  pub some : 0 < nodes
  pub few_nodes : nodes ≤ MAX_NODES
  pub few_inputs : inputs ≤ MAX_INPUTS
  pub few_rounds : rounds ≤ MAX_ROUNDS
  pub none : HasKeptNothing kept

-- lines are those of a run of the script of these numbers
pub record IsSoakRun (seed nodes inputs : ℕ) (l : Lines) : Type 0 where
  pub some : 0 < nodes
  pub few_nodes : nodes ≤ MAX_NODES
  pub few_inputs : inputs ≤ MAX_INPUTS
  pub run : IsRunOf (soak_game seed nodes inputs) l

module _ {D O U : Type 0} (views : Views D O U) (kept : ℕ → Option (Disks D × O × U)) (seed nodes inputs rounds : ℕ) where
  -- the script of these numbers was run to its end, with its rounds, and it has settled; its lines are a report, and the
  -- devices that are kept show it
  pub record HasSoaked : Type 0 where
    pub lines : Lines
    pub driven : HasDriven views (handler_of Share) (script_of seed nodes inputs rounds) rounds kept lines
    pub settled : lines.ending ≡ Settled

  -- node v of that run has gone down, as its devices show
  abbrev pub IsSoakDown : ℕ → Type 0
  IsSoakDown v = HasGoneDown views (game_by (handler_of Share) (script_of seed nodes inputs rounds)) (terms_of views.scripted (script_of seed nodes inputs rounds)) v kept

  -- by the answer: the summary of the seed, for a run that has settled; or a node has gone down. Memory may be short before the run has ended,
  -- and then nothing is kept, or for the summary
  abbrev pub SoaksBy : Result (List ℕ) RunFault → Type 0
  SoaksBy (Ok text) = (text ≡ summary seed nodes inputs) × HasSoaked
  SoaksBy (Err (Down v)) = IsSoakDown v
  SoaksBy (Err Memory) = HasKeptNothing kept ⊎ HasSoaked
  SoaksBy (Err (Damaged v disk place)) = ⊥

  -- so after a soak, for which in a scripted world only memory may be short
  pub record Soaked (result : Result (List ℕ) RunFault) : Type 0 where
    pub soaks : SoaksBy result
    pub lets : views.scripted ≡ true → IfErr result (λ fault. fault ≡ Memory)
