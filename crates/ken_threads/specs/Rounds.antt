-- What a round made of the workers of all nodes.
use Rattle.std.specs.Prelude.{◌≡◌, ℕ, ◌*◌, ◌<◌, ◌≤◌, List, [], ◌++◌, length}
use Rattle.std.specs.List.{Contains}
use Rattle.ken_disk.specs.declared.disk.Disk as disk
use Rattle.ken_app.specs.declared.oracle.Oracle as oracle
use Rattle.ken_app.specs.Limits.{KeepsLimits}
use Rattle.ken_model.specs.Handler.{Handler}
use Rattle.ken_links.specs.Rings.{free}
use Rattle.ken_net.specs.declared.base.Base as base
use Rattle.ken_net.specs.declared.lossy.Lossy.{Lossy}
use Rattle.ken_net.specs.declared.net.Net as net
use Rattle.ken_net.specs.Puts.{MayPut, Put}
use Rattle.ken_net.specs.Standings.{PutOn}
use Rattle.ken_ship.specs.declared.outlet.Outlet as outlet
use Rattle.ken_store.specs.Patching.{TakesPatches}
use Rattle.ken_wire.specs.declared.send_end.SendEnd.{SendEnd}
use Rattle.ken_wire.specs.declared.wire_net.WireNet.{WireNet}
use Rattle.ken_wire.specs.Ends.{heard_of}
use Rattle.ken_wire.specs.Nets.{EndsGrew, Heard}
use Rattle.ken_work.specs.Workers.{Working}
use Rattle.ken_beside.specs.Seats.{Handling, Sending}
use Rattle.ken_beside.specs.Steps.{HandlerStep}
use Rattle.ken_threads.specs.declared.crew.Crew.{Crew}
use Rattle.ken_threads.specs.Ran.{Ran}
use Rattle.ken_threads.specs.Seating.{crew_at, HasLinks}
use Rattle.ken_threads.specs.Seats.{HandlerFails, PatcherFails, PatcherSteps, SenderFails, SenderSteps}
use Rattle.ken_threads.specs.Wires.{IsUnused, sent_at}

-- an end of a network that takes from a wire and puts on wires: what it is given it heard there, and of what is put its links passed on what
-- went by the sending ends
pub record AreWires {R : Type 0} {b : base.Ghosts (WireNet R)} (e : net.Ghosts (Lossy (WireNet R) b)) : Type 0 where
  pub node : (x : Lossy (WireNet R) b) → e.node x ≡ x.base.node
  pub nodes : (x : Lossy (WireNet R) b) → e.nodes x ≡ length x.base.sends.items
  pub width : (x : Lossy (WireNet R) b) → length x.base.sends.items ≡ length x.links.links
  pub hears : (x y : Lossy (WireNet R) b) (packets : List (List ℕ)) → e.given_between x y packets → Heard x.base.take y.base.take packets
  pub puts : (x y : Lossy (WireNet R) b) (ps : List Put) → e.put_between x y ps
      → PutOn (λ (k l : WireNet R) (qs : List Put). EndsGrew k.sends.items l.sends.items qs) x.links y.links x.base y.base ps
  pub put_still : (x : Lossy (WireNet R) b) → e.put_between x x []
  pub put_joins : (x y z : Lossy (WireNet R) b) (ps qs : List Put) → e.put_between x y ps → e.put_between y z qs → e.put_between x z (ps ++ qs)
  pub given_still : (x : Lossy (WireNet R) b) → e.given_between x x []
  pub given_joins : (x y z : Lossy (WireNet R) b) (xs ys : List (List ℕ)) → e.given_between x y xs → e.given_between y z ys → e.given_between x z (xs ++ ys)

module _ {D : Type 0} (d : disk.Ghosts D) (h : Handler) where
  -- a crew of node v of n whose workers may make sixteen steps each
  pub record IsReady {O U : Type 0} (n v : ℕ) (c : Crew D O U) : Type 0 where
    pub working : Working d.told d.size h c.turns
    pub keeps : KeepsLimits n (256 * c.turns.side.owner.pages) h
    pub handler : (c.turns.node ≡ v) × (c.turns.nodes ≡ n)
    pub pages : 16 ≤ free c.turns.pages
    pub sealed : 16 ≤ free c.turns.sealed
    pub patches : TakesPatches d.told d.size c.patches.side
    pub settled : 16 ≤ free c.patches.settled
    pub sender : (c.sends.backlog.node ≡ v) × (c.sends.nodes ≡ n)
    pub told : 48 ≤ free c.sends.told
    pub links : HasLinks n v c

  -- each of a list is one of its node
  abbrev pub AreReady : {O U : Type 0} → List (Crew D O U) → Type 0
  AreReady {O} {U} crews = (v : ℕ) (none : Crew D O U) → v < length crews → IsReady (length crews) v (crew_at v crews none)

-- a handler and an externaliser of a crew, each with its end of a network
abbrev pub handling_with : {D N O U : Type 0} → N → Crew D O U → Handling D N O
handling_with net c = record { worker = c.turns; net = net; oracle = c.oracle }

abbrev pub sending_with : {D N O U : Type 0} → N → Crew D O U → Sending N U
sending_with net c = record { worker = c.sends; net = net; outlet = c.outlet }

module _ {D N O U : Type 0} (d : disk.Ghosts D) (e : net.Ghosts N) (o : oracle.Ghosts O) (u : outlet.Ghosts U) (h : Handler) where
  -- what the workers of a node made, with the ends of two networks before and after it
  pub record CrewRan (old new : Crew D O U) (acks acks2 mail mail2 : N) : Type 0 where
    pub handler : Ran (HandlerStep d e o h) (HandlerFails d e o h) (handling_with acks old) (handling_with acks2 new) new.faults.handler
    pub patcher : Ran (PatcherSteps d) (PatcherFails d) old.patches new.patches new.faults.patcher
    pub externaliser : Ran (SenderSteps e u) (SenderFails e u) (sending_with mail old) (sending_with mail2 new) new.faults.externaliser

-- ends over the links of a node before a round and after it, by which nothing was taken or put before
pub record AreOver {R D O U : Type 0} {b : base.Ghosts (WireNet R)} (old new : Crew D O U) (acks acks2 mail mail2 : Lossy (WireNet R) b) : Type 0 where
  pub acks_links : (acks.links ≡ old.acks) × (acks2.links ≡ new.acks)
  pub mail_links : (mail.links ≡ old.mail) × (mail2.links ≡ new.mail)
  pub mail_unheard : heard_of acks.base.take ≡ []
  pub acks_unheard : heard_of mail.base.take ≡ []
  pub acks_unsent : IsUnused acks.base.sends.items
  pub mail_unsent : IsUnused mail.base.sends.items

-- each packet that was taken by an end of a node is one that may have been put for it by the other worker of some node, with what that one
-- handed in with its puts
abbrev pub CameFrom : {R : Type 0} {b : base.Ghosts (WireNet R)} → ℕ → (ℕ → Lossy (WireNet R) b) → (ℕ → Lossy (WireNet R) b) → Type 0
CameFrom n takers putters =
    (to : ℕ) (d : SendEnd) (bytes : List ℕ) → to < n → Contains (heard_of (takers to).base.take) bytes
    → (v : ℕ) × (v < n) × MayPut v to (sent_at to d (putters v).base.sends.items).sealed (sent_at to d (putters v).base.sends.items).consumed bytes

-- the workers of each node made their steps, with ends of the round's wires: the handler's takes mail and puts acknowledgements, the
-- externaliser's the other way round
pub record Rounded {R D O U : Type 0} {b : base.Ghosts (WireNet R)} (d : disk.Ghosts D) (e : net.Ghosts (Lossy (WireNet R) b)) (o : oracle.Ghosts O) (u : outlet.Ghosts U) (h : Handler) (old new : List (Crew D O U)) : Type 0 where
  pub acks : ℕ → Lossy (WireNet R) b
  pub acks2 : ℕ → Lossy (WireNet R) b
  pub mail : ℕ → Lossy (WireNet R) b
  pub mail2 : ℕ → Lossy (WireNet R) b
  pub wires : AreWires e
  pub count : length new ≡ length old
  pub ran : (v : ℕ) (none : Crew D O U) → v < length old → CrewRan d e o u h (crew_at v old none) (crew_at v new none) (acks v) (acks2 v) (mail v) (mail2 v)
  pub over : (v : ℕ) (none : Crew D O U) → v < length old → AreOver (crew_at v old none) (crew_at v new none) (acks v) (acks2 v) (mail v) (mail2 v)
  pub mail_came : CameFrom (length old) acks2 mail2
  pub acks_came : CameFrom (length old) mail2 acks2
