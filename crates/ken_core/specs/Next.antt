-- The message that a node takes next of a sender, and the turn that it may make of it.
use Rattle.std.specs.Prelude.{◌≡◌, ℕ, ◌+◌, List, Option, Some, None}
use Rattle.ken_model.specs.declared.messages.Message.{Message}
use Rattle.ken_model.specs.declared.reports.Emission.{Emission}
use Rattle.ken_model.specs.Game.{Game}
use Rattle.ken_model.specs.Network.{Turn}
use Rattle.ken_record.specs.declared.page.Page.{Page}
use Rattle.ken_core.specs.declared.machine.Machine.{Machine}
use Rattle.ken_core.specs.declared.sealing.Sealing.{Sealing}
use Rattle.ken_core.specs.Turns.{consumed_from}
use Rattle.ken_core.specs.Packets.{Packet}
use Rattle.ken_core.specs.Enabled.{Came, MaySeal}
use Rattle.ken_core.specs.Clusters.{WasPut}
use Rattle.ken_core.specs.Groups.{shown_at, group_of}
use Rattle.ken_core.specs.Sealings.{IsSealing}

-- a message of `from` to node v with the number after what v consumed, which came
pub record IsNext (g : Game) (put : Packet → Type 0) (v from count : ℕ) (m : Message) : Type 0 where
  pub sender : m.from ≡ from
  pub receiver : m.to ≡ v
  pub number : m.number ≡ count + 1
  pub came : Came g put v m

-- how many messages of a sender node v consumed
abbrev pub count_at : Game → List Machine → ℕ → ℕ → ℕ
count_at g ms v from = consumed_from from (shown_at g ms v).node.turning.turns

-- it is that message, or there is none
abbrev pub IsNextOf : Game → List Machine → ℕ → ℕ → Option Message → Type 0
IsNextOf g ms v from None = (es : List Emission) (m : Message) → IsNext g (WasPut (group_of g ms es)) v from (count_at g ms v from) m → ⊥
IsNextOf g ms v from (Some m) = (es : List Emission) → IsNext g (WasPut (group_of g ms es)) v from (count_at g ms v from) m × ((k : Message) → IsNext g (WasPut (group_of g ms es)) v from (count_at g ms v from) k → k ≡ m)

-- a turn that node v may seal
pub record IsReady (g : Game) (ms : List Machine) (es : List Emission) (v from : ℕ) (draws : List ℕ) (pages : List Page) (s : Sealing) : Type 0 where
  pub message : Message
  pub next : IsNext g (WasPut (group_of g ms es)) v from (count_at g ms v from) message
  pub sealing : IsSealing g v (shown_at g ms v).node message draws pages s

-- node v may seal none
abbrev pub IsUnready : Game → List Machine → List Emission → ℕ → ℕ → List ℕ → List Page → Type 0
IsUnready g ms es v from draws pages = (t : Turn) → MaySeal g (WasPut (group_of g ms es)) v (shown_at g ms v).node from draws pages t → ⊥
