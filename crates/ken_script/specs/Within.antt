-- What a run may take for granted of a script that was read.
use Rattle.std.specs.Prelude.{ℕ, ◌<◌, ◌≤◌, List, ⊤}
use Rattle.std.specs.List.{AllByRecursion}
use Rattle.ken_model.specs.Game.{game_of}
use Rattle.ken_model.specs.Limits.{IsPlainRun, IsWithinLimits}
use Rattle.ken_net.specs.declared.act.Act.{Act}
use Rattle.ken_net.specs.declared.act.Act.TheVariants.{Lose, Repeat, Hold}
use Rattle.ken_net.specs.declared.act.LinkAct.{LinkAct}
use Rattle.ken_script.specs.declared.scripts.TheConstants.{DISKS, MAX_COUNT, MAX_HOLD, MAX_RESTARTS, MAX_ROUNDS}
use Rattle.ken_script.specs.declared.scripts.DiskCut.{DiskCut}
use Rattle.ken_script.specs.declared.scripts.OutFail.{OutFail}
use Rattle.ken_script.specs.declared.scripts.Script.{Script}

-- each cut is of a disk of one of the nodes
abbrev pub AreCutsOf : ℕ → List DiskCut → Type 0
AreCutsOf nodes cuts = AllByRecursion (λ (c : DiskCut). (c.node < nodes) × (c.disk < DISKS)) cuts

-- an act holds no packet for longer than a script may say
abbrev pub IsShortAct : Act → Type 0
IsShortAct Lose = ⊤
IsShortAct Repeat = ⊤
IsShortAct (Hold puts) = puts ≤ MAX_HOLD

-- each act is on a put of a link between two of the nodes, within the range of counts
abbrev pub AreActsOf : ℕ → List LinkAct → Type 0
AreActsOf nodes acts = AllByRecursion (λ (a : LinkAct). (a.from < nodes) × (a.to < nodes) × (a.n ≤ MAX_COUNT) × IsShortAct a.act) acts

-- each failing call is of the outlet of one of the nodes, within the range of counts
abbrev pub AreOutFailsOf : ℕ → List OutFail → Type 0
AreOutFailsOf nodes fails = AllByRecursion (λ (f : OutFail). (f.node < nodes) × (f.call ≤ MAX_COUNT)) fails

-- the values of a script keep the rules
pub record KeepsRules (s : Script) : Type 0 where
  pub limits : IsWithinLimits (game_of s.facts)
  pub plain : IsPlainRun (game_of s.facts)
  pub rounds : s.rounds ≤ MAX_ROUNDS
  pub restarts : s.restarts ≤ MAX_RESTARTS
  pub cuts : AreCutsOf s.facts.nodes s.cuts
  pub mail : AreActsOf s.facts.nodes s.mail
  pub acks : AreActsOf s.facts.nodes s.acks
  pub outlets : AreOutFailsOf s.facts.nodes s.outlets
