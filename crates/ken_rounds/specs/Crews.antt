-- What a round and the meeting after it make of one node: a run over the packets that it took, with its accounts.
use Rattle.std.specs.Prelude.{◌≡◌, ◌⊎◌, ℕ, true, false, Some, List, ◌++◌, Err}
use Rattle.std.specs.List.{AllByRecursion, Contains}
use Rattle.ken_disk.specs.declared.disk.Disk as disk
use Rattle.ken_app.specs.declared.oracle.Oracle as oracle
use Rattle.ken_app.specs.Oracles.{HasAnswered}
use Rattle.ken_model.specs.Game.{Game}
use Rattle.ken_model.specs.Handler.{Handler}
use Rattle.ken_net.specs.declared.net.Net as net
use Rattle.ken_record.specs.declared.effects.Effects.{Effects}
use Rattle.ken_core.specs.declared.events.Event.{Event}
use Rattle.ken_core.specs.Calls.{Doubt, no_doubt, seal, turnover}
use Rattle.ken_core.specs.Clusters.{emissions_by}
use Rattle.ken_core.specs.Nodes.{Node}
use Rattle.ken_core.specs.Packets.{Packet, Outgoing}
use Rattle.ken_core.specs.Packets as core
use Rattle.ken_core.specs.Runs.{NodeRun}
use Rattle.ken_store.specs.declared.disks.Disks.{Disks}
use Rattle.ken_store.specs.Apart.{disks_apart}
use Rattle.ken_ship.specs.declared.faults.NodeFault.TheVariants.{Outlet}
use Rattle.ken_ship.specs.declared.faults.OutFault.TheVariants.{Failed}
use Rattle.ken_ship.specs.declared.outlet.Outlet as outlet
use Rattle.ken_ship.specs.declared.worker.SendWorker.{SendWorker}
use Rattle.ken_ship.specs.declared.worker.TheConstants.{MOST_REFUSALS}
use Rattle.ken_ship.specs.Causes.{HasCause}
use Rattle.ken_ship.specs.Fates.{Follows, Suffers}
use Rattle.ken_ship.specs.Laws.{packets_from}
use Rattle.ken_ship.specs.Outlets.{also_took}
use Rattle.ken_ship.specs.Parts.{part_of}
use Rattle.ken_work.specs.declared.patcher.PatchWorker.{PatchWorker}
use Rattle.ken_work.specs.declared.worker.TurnWorker.{TurnWorker}
use Rattle.ken_work.specs.Calls.{Drew}
use Rattle.ken_node.specs.declared.stage.Stage.TheVariants.{Created}
use Rattle.ken_node.specs.Down.{IsDown}
use Rattle.ken_node.specs.Restarts.{AreUnfailed, OneHasFailed}
use Rattle.ken_node.specs.Synced.{LeavesSynced}
use Rattle.ken_node.specs.Up.{IsUp}
use Rattle.ken_beside.specs.Accounts.{DrewEach, Refuses}
use Rattle.ken_beside.specs.Calm.{IsCalm}
use Rattle.ken_beside.specs.Puts.{AreAmong, AreOf, IsAnswer, IsMail, WerePut}
use Rattle.ken_threads.specs.declared.crew.Crew.{Crew}
use Rattle.ken_rounds.specs.Faults.{has_fallen}

module _ {D : Type 0} (d : disk.Ghosts D) where
  -- two disks failed, one after the other, or one failed twice
  pub record TwoHaveFailed (old new : Disks D) : Type 0 where
    pub between : Disks D
    pub first : OneHasFailed d.told d.faults d.fate old between
    pub second : OneHasFailed d.told d.faults d.fate between new

  -- after calls that ended well a disk failed, or two did
  pub record HaveFailed (old new : Disks D) : Type 0 where
    pub mid : Disks D
    pub before : AreUnfailed d.told d.faults d.fate old mid
    pub last : OneHasFailed d.told d.faults d.fate mid new ⊎ TwoHaveFailed mid new

module _ {O : Type 0} (o : oracle.Ghosts O) (h : Handler) where
  -- the turn in doubt drew what it has drawn
  abbrev pub DrewDoubted : O → O → Doubt → Type 0
  DrewDoubted old new no_doubt = Unit {0}
  DrewDoubted old new (seal from draws pages) = Drew o.telling.clocks o.telling.words h old new draws
  DrewDoubted old new (turnover told) = Unit {0}

  -- an oracle answered what was drawn at a call that failed
  pub record AnsweredLast (old new : O) (doubt : Doubt) : Type 0 where
    pub clocks : HasAnswered (o.telling.clocks old) (o.telling.clocks new)
    pub words : HasAnswered (o.telling.words old) (o.telling.words new)
    pub drew : DrewDoubted old new doubt

module _ {U : Type 0} (u : outlet.Ghosts U) where
  -- an outlet refused the output that is due 64 times running, and once more
  pub record IsWorn (refusals : ℕ) (old new : U) : Type 0 where
    pub mid : U
    pub refuses : Refuses u refusals old MOST_REFUSALS mid
    pub cause : HasCause {T = Unit {0}} (u.faults mid) (u.faults new) (Err Failed)
    pub fate : Follows (Suffers {T = Unit {0}} (Err Failed)) (u.fate mid) (u.fate new)

module _ {D N O U : Type 0} (d : disk.Ghosts D) (e : net.Ghosts N) (o : oracle.Ghosts O) (u : outlet.Ghosts U) where
  -- no disk failed: the node is up
  pub record StayedUp (g : Game) (v : ℕ) (after : Node) (middle luck : O) (old new : Disks D) (t : TurnWorker D) (p : PatchWorker D) (s : SendWorker) : Type 0 where
    pub up : IsUp d.told d.size g v after (Created t p s)
    pub unfailed : AreUnfailed d.told d.faults d.fate old new
    pub undrawn : luck ≡ middle

  -- one did, or two: the node is down, with something in doubt over packets that it took
  pub record WentDown (g : Game) (v : ℕ) (given : List Packet) (after : Node) (middle luck : O) (old new : Disks D) (t : TurnWorker D) (p : PatchWorker D) (s : SendWorker) : Type 0 where
    pub last : List Packet
    pub among : (packet : Packet) → Contains last packet → Contains given packet
    pub doubt : Doubt
    pub down : IsDown d.told g v last after doubt (Created t p s)
    pub drew : ((luck ≡ middle) × (doubt ≡ no_doubt)) ⊎ AnsweredLast o g.handler middle luck doubt
    pub failed : HaveFailed d old new

  -- node v of a run, which stood for n, with the ends of its networks before the round and after it, and its workers after the meeting
  pub record CrewPlayed (g : Game) (v : ℕ) (n : Node) (old new : Crew D O U) (acks acks2 mail mail2 : N) (t : TurnWorker D) (p : PatchWorker D) (s : SendWorker) : Type 0 where
    -- the packets that its handler and its externaliser took
    pub mail_gave : List (List ℕ)
    pub mail_given : e.given_between acks acks2 mail_gave
    pub acks_gave : List (List ℕ)
    pub acks_given : e.given_between mail mail2 acks_gave
    pub events : List Event
    pub out : Outgoing
    pub after : Node
    pub run : NodeRun g (Contains (packets_from g.nodes (mail_gave ++ acks_gave))) v n events out after
    pub calm : AllByRecursion IsCalm events
    -- what each of the two put: acknowledgements, and mail
    pub by_handler : List core.Put
    pub handler_puts : WerePut g.nodes (e.put_between acks acks2) by_handler
    pub handler_acks : AreOf IsAnswer by_handler
    pub by_sender : List core.Put
    pub sender_puts : WerePut g.nodes (e.put_between mail mail2) by_sender
    pub sender_mails : AreOf IsMail by_sender
    pub among : AreAmong by_handler by_sender out.puts
    -- what it emitted, and how its outlet refused
    pub emissions : (part_of s).emissions ≡ (part_of old.sends).emissions ++ emissions_by v out.outs
    pub took : u.took new.outlet ≡ also_took out.outs (u.took old.outlet)
    pub refusals : Refuses u (part_of old.sends).refusals old.outlet (part_of s).refusals new.outlet
    pub worn : new.faults.externaliser ≡ Some Outlet → IsWorn u (part_of old.sends).refusals old.outlet new.outlet
    -- the turns that it sealed, with what they drew
    pub turns : List Effects
    pub sealed : after.turning.turns ≡ n.turning.turns ++ turns
    pub middle : O
    pub drew : DrewEach o.telling.clocks o.telling.words g.handler old.oracle turns middle
    pub origin : o.telling.origin new.oracle ≡ o.telling.origin old.oracle
    pub synced : LeavesSynced d.told d.faults g v (disks_apart old.turns.side old.patches.side) → LeavesSynced d.told d.faults g v (disks_apart t.side p.side)
    pub up : has_fallen new.faults ≡ false
        → StayedUp g v after middle new.oracle (disks_apart old.turns.side old.patches.side) (disks_apart t.side p.side) t p s
    pub down : has_fallen new.faults ≡ true
        → WentDown g v (packets_from g.nodes (mail_gave ++ acks_gave)) after middle new.oracle (disks_apart old.turns.side old.patches.side) (disks_apart t.side p.side) t p s
