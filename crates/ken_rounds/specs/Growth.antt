-- What rounds add to the nodes of a run.
use Rattle.std.specs.Prelude.{◌≡◌, ℕ, ◌+◌, ◌-◌, ◌<◌, ◌≤◌, List, [], ◌∷◌, length, slice_get, slice_index_or, Some, Result, Ok, Err}
use Rattle.std.specs.List.{All}
use Rattle.ken_model.specs.declared.messages.Message.{Message}
use Rattle.ken_model.specs.History.{IsPrefixOf}
use Rattle.ken_net.specs.Puts.{Put}
use Rattle.ken_net.specs.Standings.{Leaving, after_puts}
use Rattle.ken_packet.specs.Reading.{packet_of}
use Rattle.ken_record.specs.declared.effects.Effects.{Effects}
use Rattle.ken_core.specs.Packets.{Answer, Mail, Packet, Receipt}
use Rattle.ken_core.specs.Turns.{consumed_from, mails_to}
use Rattle.ken_ship.specs.Laws.{packet_from}
use Rattle.ken_node.specs.NodeCalls.{receiver}
use Rattle.ken_node.specs.Stages.{turns_in}
use Rattle.ken_beside.specs.Puts.{IsAnswer, IsMail}
use Rattle.ken_run.specs.declared.faults.RunFault.{RunFault}
use Rattle.ken_run.specs.declared.faults.RunFault.TheVariants as run_faults
use Rattle.ken_run.specs.declared.run.Run.{Run}
use Rattle.ken_run.specs.declared.station.Station.{Station}

-- a list has what it had, and behind that so many more at most
pub record GrowsByFew {T : Type 0} (most : ℕ) (old new : List T) : Type 0 where
  pub front : IsPrefixOf old new
  pub few : length new ≤ length old + most

-- a turn of node v sent this message
pub record IsOwnMail (v : ℕ) (turns : List Effects) (m : Message) : Type 0 where
  pub from : m.from ≡ v
  pub number : 0 < m.number
  pub sent : slice_get (mails_to v m.to turns) (m.number - 1) ≡ Some m

-- the turns of node v consumed what this acknowledges
pub record IsOwnAnswer (v : ℕ) (turns : List Effects) (a : Receipt) : Type 0 where
  pub from : a.from ≡ v
  pub most : a.through ≤ consumed_from a.to turns

abbrev pub IsOwn : ℕ → List Effects → Packet → Type 0
IsOwn v turns (Mail m) = IsOwnMail v turns m
IsOwn v turns (Answer a) = IsOwnAnswer v turns a

-- a put of node v of so many: the bytes of a packet of this sort that its turns let it put, for the node that it is for
pub record IsOwnPut (sort : Packet → Type 0) (nodes v : ℕ) (turns : List Effects) (p : Put) : Type 0 where
  pub packet : Packet
  pub spelled : packet_from nodes (packet_of p.bytes) ≡ packet ∷ []
  pub is : sort packet
  pub to : p.to ≡ receiver packet
  pub own : IsOwn v turns packet

-- links go on: their node made puts of its own on them, all of this sort, and nothing else was done
pub record GoOn (sort : Packet → Type 0) (turns : List Effects) (old new : Leaving) : Type 0 where
  pub puts : List Put
  pub own : All (IsOwnPut sort (length old.links) old.from turns) puts
  pub after : new ≡ record old { links = after_puts puts old.links }

module _ {D O U : Type 0} (rounds : ℕ) where
  -- a node keeps its turns, and the lines of its restarts, of which each round adds one at most; and its links go on, the
  -- one by mail, the other by acknowledgements
  pub record HasGrown (old new : Station D O U) : Type 0 where
    pub turns : IsPrefixOf (turns_in old.node.stage) (turns_in new.node.stage)
    pub lines : GrowsByFew rounds old.lines.items new.lines.items
    pub mail : GoOn IsMail (turns_in new.node.stage) old.mail new.mail
    pub acks : GoOn IsAnswer (turns_in new.node.stage) old.acks new.acks

module _ {D O U A : Type 0} (rounds : ℕ) where
  -- so does each node of a run
  abbrev pub HaveGrown : Run D O U A → Run D O U A → Type 0
  HaveGrown old new =
      (v : ℕ) (d : Station D O U) → v < length old.stations.items
      → HasGrown rounds (slice_index_or old.stations.items v d) (slice_index_or new.stations.items v d)

  -- also one that is down, and each other one then. After want of memory nothing is said
  abbrev pub GrowsRounds : {T : Type 0} → Run D O U A → Result T RunFault → Run D O U A → Type 0
  GrowsRounds old (Ok x) new = HaveGrown old new
  GrowsRounds old (Err (run_faults.Down v)) new = HaveGrown old new
  GrowsRounds old (Err run_faults.Memory) new = Unit {0}
  GrowsRounds old (Err (run_faults.Damaged v disk place)) new = ⊥
