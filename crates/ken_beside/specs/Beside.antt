-- What a node's three workers make side by side, with no known order between steps of different workers.
use Rattle.std.specs.Prelude.{◌≡◌, ℕ, List, ◌++◌}
use Rattle.std.specs.List.{All, AllByRecursion, Contains}
use Rattle.ken_disk.specs.declared.disk.Disk as disk
use Rattle.ken_app.specs.declared.oracle.Oracle as oracle
use Rattle.ken_model.specs.Game.{Game}
use Rattle.ken_net.specs.declared.net.Net as net
use Rattle.ken_core.specs.declared.events.Event.{Event}
use Rattle.ken_core.specs.Clusters.{emissions_by}
use Rattle.ken_core.specs.Nodes.{Node}
use Rattle.ken_core.specs.Packets.{Packet, Outgoing}
use Rattle.ken_core.specs.Packets as core
use Rattle.ken_core.specs.Runs.{NodeRun}
use Rattle.ken_record.specs.declared.effects.Effects.{Effects}
use Rattle.ken_store.specs.Apart.{disks_apart}
use Rattle.ken_ship.specs.declared.outlet.Outlet as outlet
use Rattle.ken_ship.specs.Laws.{packets_from}
use Rattle.ken_ship.specs.Outlets.{also_took}
use Rattle.ken_ship.specs.Parts.{part_of}
use Rattle.ken_work.specs.declared.patcher.PatchWorker.{PatchWorker}
use Rattle.ken_work.specs.Meeting.{AreFronts}
use Rattle.ken_node.specs.Synced.{LeavesSynced}
use Rattle.ken_weave.specs.Workers.{Steps}
use Rattle.ken_beside.specs.Accounts.{DrewEach, Refuses}
use Rattle.ken_beside.specs.Calm.{IsCalm}
use Rattle.ken_beside.specs.On.{IsOn}
use Rattle.ken_beside.specs.Puts.{AreOf, IsAnswer, IsMail, Shuffled, WerePut}
use Rattle.ken_beside.specs.Seats.{Handling, Sending}
use Rattle.ken_beside.specs.Steps.{HandlerStep, IsSameEnd, PatcherCall, SenderCall}

module _ {D N O U : Type 0} (d : disk.Ghosts D) (e : net.Ghosts N) (o : oracle.Ghosts O) (u : outlet.Ghosts U) where
  -- what the workers of node v made: events that lead to a node for which they stand
  pub record RanBeside (g : Game) (v : ℕ) (n : Node) (t t2 : Handling D N O) (p p2 : PatchWorker D) (s s2 : Sending N U) : Type 0 where
    -- over the packets that the two networks gave
    pub handler_gave : List (List ℕ)
    pub handler_given : e.given_between t.net t2.net handler_gave
    pub sender_gave : List (List ℕ)
    pub sender_given : e.given_between s.net s2.net sender_gave
    pub events : List Event
    pub out : Outgoing
    pub after : Node
    pub run : NodeRun g (Contains (packets_from g.nodes (handler_gave ++ sender_gave))) v n events out after
    pub calm : AllByRecursion IsCalm events
    pub on : IsOn d.told d.size g v after t2.worker p2 s2.worker
    -- what it puts went to the two networks, and what it emits to the outlet
    pub by_handler : List core.Put
    pub by_sender : List core.Put
    pub all : Shuffled by_handler by_sender out.puts
    pub handler_puts : WerePut g.nodes (e.put_between t.net t2.net) by_handler
    pub sender_puts : WerePut g.nodes (e.put_between s.net s2.net) by_sender
    -- the handler put acknowledgements, and the externaliser mail
    pub handler_acks : AreOf IsAnswer by_handler
    pub sender_mails : AreOf IsMail by_sender
    pub emissions : (part_of s2.worker).emissions ≡ (part_of s.worker).emissions ++ emissions_by v out.outs
    pub took : u.took s2.outlet ≡ also_took out.outs (u.took s.outlet)
    pub refusals : Refuses u (part_of s.worker).refusals s.outlet (part_of s2.worker).refusals s2.outlet
    -- the turns that it sealed drew what the oracle answered, and the logs were synced as often as they take
    pub turns : List Effects
    pub sealed : after.turning.turns ≡ n.turning.turns ++ turns
    pub drew : DrewEach o.telling.clocks o.telling.words g.handler t.oracle turns t2.oracle
    pub origin : o.telling.origin t2.oracle ≡ o.telling.origin t.oracle
    pub synced : LeavesSynced d.told d.faults g v (disks_apart t.worker.side p.side) → LeavesSynced d.told d.faults g v (disks_apart t2.worker.side p2.side)
    -- the networks are those of the same node
    pub handler_end : IsSameEnd e t.net t2.net
    pub sender_end : IsSameEnd e s.net s2.net

  -- where the steps of each are known, also of a patcher or an externaliser that stopped at a fault, and of the rings that only what was
  -- pushed has left them
  abbrev pub SideBySide : Type 0
  SideBySide =
      (g : Game) (v : ℕ) (n : Node) (t t2 : Handling D N O) (p p2 : PatchWorker D) (s s2 : Sending N U) (ts : List (Handling D N O)) (ps : List (PatchWorker D)) (ss : List (Sending N U))
      → IsOn d.told d.size g v n t.worker p s.worker → Steps (HandlerStep d e o g.handler) t ts t2 → Steps (PatcherCall d) p ps p2 → Steps (SenderCall e u) s ss s2
      → AreFronts t2.worker p2 s2.worker → RanBeside g v n t t2 p p2 s s2

-- a run over packets is one over a kind that all of them are
abbrev pub RunIsOver : (Packet → Type 0) → Type 0
RunIsOver takes = (g : Game) (v : ℕ) (n : Node) (given : List Packet) (es : List Event) (out : Outgoing) (n2 : Node) → All takes given → NodeRun g (Contains given) v n es out n2 → NodeRun g takes v n es out n2
