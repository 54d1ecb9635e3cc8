-- A node's workers at the ends of a round's wires.
use Rattle.std.specs.Prelude.{◌≡◌, ◌+◌, ◌-◌, ◌<◌, ◌≤◌, ℕ, List, length, slice_index_or, Vec, vec_capacity, vec_len}
use Rattle.std.specs.Global.{Global}
use Rattle.ken_net.specs.declared.base.Base as base
use Rattle.ken_net.specs.declared.lossy.Lossy.{Lossy}
use Rattle.ken_wire.specs.declared.send_end.SendEnd.{SendEnd}
use Rattle.ken_wire.specs.declared.take_end.TakeEnd.{TakeEnd}
use Rattle.ken_wire.specs.declared.wire_net.WireNet.{WireNet}
use Rattle.ken_work.specs.declared.patcher.PatchWorker.{PatchWorker}
use Rattle.ken_threads.specs.declared.crew.Crew.{Crew}
use Rattle.ken_threads.specs.declared.crew.Faults.{Faults}
use Rattle.ken_threads.specs.declared.seats.HandlerSeat.{HandlerSeat}
use Rattle.ken_threads.specs.declared.seats.SenderSeat.{SenderSeat}
use Rattle.ken_threads.specs.declared.team.Team.{Team}
use Rattle.ken_threads.specs.declared.wiring.Ends.{Ends}
use Rattle.ken_threads.specs.declared.wiring.Wiring.{Wiring}

-- the workers of a node in a round
abbrev pub AtWork : (R D O U A : Type 0) → base.Ghosts (WireNet R) → Type 0
AtWork R D O U A b = Team (HandlerSeat D (Lossy (WireNet R) b) O A) (PatchWorker D) (SenderSeat (Lossy (WireNet R) b) U)

module _ {R D O U A : Type 0} {b : base.Ghosts (WireNet R)} where
  -- they work on what the crew has, over links and wires of their node: the handler takes mail and puts acknowledgements, the externaliser
  -- the other way round
  pub record IsSeated (c : Crew D O U) (mail acks : Ends) (team : AtWork R D O U A b) : Type 0 where
    pub turns : team.handler.worker.worker ≡ c.turns
    pub oracle : team.handler.worker.oracle ≡ c.oracle
    pub acks_links : team.handler.worker.net.links ≡ c.acks
    pub mail_take : team.handler.worker.net.base.take ≡ mail.take
    pub acks_sends : team.handler.worker.net.base.sends ≡ acks.sends
    pub patches : team.patcher.worker ≡ c.patches
    pub sends : team.externaliser.worker.worker ≡ c.sends
    pub outlet : team.externaliser.worker.outlet ≡ c.outlet
    pub mail_links : team.externaliser.worker.net.links ≡ c.mail
    pub acks_take : team.externaliser.worker.net.base.take ≡ acks.take
    pub mail_sends : team.externaliser.worker.net.base.sends ≡ mail.sends

  -- they are those of this node, and the handler makes turns of this application
  pub record IsAtNode (node : ℕ) (app : A) (team : AtWork R D O U A b) : Type 0 where
    pub handler : team.handler.worker.net.base.node ≡ node
    pub sender : team.externaliser.worker.net.base.node ≡ node
    pub app_is : team.handler.worker.app.now ≡ app

  -- the faults are those that the workers kept
  pub record KeepsFaults (team : AtWork R D O U A b) (faults : Faults) : Type 0 where
    pub handler : faults.handler ≡ team.handler.fault
    pub patcher : faults.patcher ≡ team.patcher.fault
    pub externaliser : faults.externaliser ≡ team.externaliser.fault

-- the crew of a node
abbrev pub crew_at : {D O U : Type 0} → ℕ → List (Crew D O U) → Crew D O U → Crew D O U
crew_at v crews none = slice_index_or crews v none

-- its links go from it to each node
pub record HasLinks {D O U : Type 0} (n v : ℕ) (c : Crew D O U) : Type 0 where
  pub mail : (c.mail.from ≡ v) × (length c.mail.links ≡ n)
  pub acks : (c.acks.from ≡ v) × (length c.acks.links ≡ n)

-- what it has of some wires
abbrev pub ends_at : ℕ → List TakeEnd → List (Vec SendEnd Global) → TakeEnd → Vec SendEnd Global → Ends
ends_at v takes sends t s = record { take = slice_index_or takes v t; sends = slice_index_or sends v s }

-- its team, in a list that has the last of n nodes' first
abbrev pub team_of : {T : Type 0} → ℕ → ℕ → List T → T → T
team_of n v teams none = slice_index_or teams (n - (v + 1)) none

module _ {R D O U A : Type 0} {b : base.Ghosts (WireNet R)} where
  -- each crew sits at its ends of the wires for mail and for acknowledgements
  pub record AreSeated (crews : List (Crew D O U)) (mail_takes : List TakeEnd) (mail_sends : List (Vec SendEnd Global)) (acks_takes : List TakeEnd) (acks_sends : List (Vec SendEnd Global))
      (teams : List (AtWork R D O U A b)) : Type 0 where
    pub count : length teams ≡ length crews
    pub each : (v : ℕ) (c : Crew D O U) (t : TakeEnd) (s : Vec SendEnd Global) (none : AtWork R D O U A b) → v < length crews
        → IsSeated (crew_at v crews c) (ends_at v mail_takes mail_sends t s) (ends_at v acks_takes acks_sends t s) (team_of (length crews) v teams none)

  -- each is its node's
  abbrev pub AreAtNodes : A → List (AtWork R D O U A b) → Type 0
  AreAtNodes app teams = (v : ℕ) (none : AtWork R D O U A b) → v < length teams → IsAtNode v app (team_of (length teams) v teams none)

  -- and each has its faults
  abbrev pub HaveFaults : List (AtWork R D O U A b) → List (Crew D O U) → Type 0
  HaveFaults teams crews = (v : ℕ) (c : Crew D O U) (none : AtWork R D O U A b) → v < length teams → KeepsFaults (team_of (length teams) v teams none) (crew_at v crews c).faults

-- wires of which all ends were handed out, with room for them
pub record IsVacant (old new : Wiring) : Type 0 where
  pub empty : (vec_len new.takes ≡ 0) × (vec_len new.sends ≡ 0)
  pub room : (vec_capacity new.takes ≡ vec_capacity old.takes) × (vec_capacity new.sends ≡ vec_capacity old.sends)

pub record HasRoom (n : ℕ) (w : Wiring) : Type 0 where
  pub empty : (vec_len w.takes ≡ 0) × (vec_len w.sends ≡ 0)
  pub takes : n ≤ vec_capacity w.takes
  pub sends : n ≤ vec_capacity w.sends
