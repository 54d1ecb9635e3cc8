-- Which of a node's two logs is current.
use Rattle.std.specs.Prelude.{◌≡◌, ℕ, ◌<◌, ◌==◌, ◌&&◌, nat_lt, if◌then◌else◌, List, take, drop, Bool, true, Option, Some, None}
use Rattle.ken_record.specs.declared.header.Header.{Header}
use Rattle.ken_record.specs.Reading.{header_at}
use Rattle.ken_log.specs.Mounts.{is_unformatted}
use Rattle.ken_store.specs.declared.owner.Owner.{Owner}
use Rattle.ken_store.specs.declared.disks.Which.{Which}
use Rattle.ken_store.specs.declared.disks.Which.TheVariants.{First, Second}
use Rattle.ken_store.specs.declared.heads.Front.{Front}
use Rattle.ken_store.specs.declared.heads.Front.TheVariants.{Absent, Wrong, Begins}
use Rattle.ken_store.specs.declared.state.Heads.{Heads}
use Rattle.ken_store.specs.declared.heads.Logs.{Logs}
use Rattle.ken_store.specs.declared.heads.Logs.TheVariants.{NoLogs, WrongHeader, Current}

-- what is read of a header
abbrev pub front_from : Option (Header × List ℕ) → Front
front_from (Some x) = Begins x.0
front_from None = Wrong

-- what a log's bytes begin with: behind the gate a header has 31
unfoldable pub front_of : List ℕ → Front
front_of bytes = if is_unformatted bytes then Absent else front_from (header_at (take 31 (drop 1 bytes)))

-- the disks of a node are numbered: its log, its image, and its second log
abbrev pub disk_number : Which → ℕ
disk_number First = 0
disk_number Second = 2

-- the log beside one
abbrev pub other_log : Which → Which
other_log First = Second
other_log Second = First

-- of two headers the greater generation is current, and equal ones are wrong in the second
abbrev pub greater : Header → Header → Logs
greater a b =
    if a.generation == b.generation
    then WrongHeader Second
    else Current (if nat_lt a.generation b.generation then Second else First) (Some a) (Some b)

-- what two logs are
abbrev pub logs_of : Front → Front → Logs
logs_of Wrong second = WrongHeader First
logs_of Absent Wrong = WrongHeader Second
logs_of Absent Absent = NoLogs
logs_of Absent (Begins b) = Current Second None (Some b)
logs_of (Begins a) Wrong = WrongHeader Second
logs_of (Begins a) Absent = Current First (Some a) None
logs_of (Begins a) (Begins b) = greater a b

-- of the bytes of two logs those of one
abbrev pub log_on : {A : Type 0} → Which → A → A → A
log_on First first second = first
log_on Second first second = second

-- what a log begins with that has this header, if it is a log
abbrev pub begun_by : Option Header → Front
begun_by None = Absent
begun_by (Some head) = Begins head

abbrev pub current_head : Heads → Option Header
current_head h = log_on h.which h.first h.second

abbrev pub other_head : Heads → Option Header
other_head h = log_on h.which h.second h.first

-- what was read of two logs, the current one and the other
pub record AreHeads (h : Heads) (current other : Front) : Type 0 where
  pub this : current ≡ begun_by (current_head h)
  pub that : other ≡ begun_by (other_head h)
  pub older : (head last : Header) → current_head h ≡ Some head → other_head h ≡ Some last → last.generation < head.generation

-- a header tells whose log it is
abbrev pub is_owned : Owner → Header → Bool
is_owned o head = (head.node == o.node) && (head.nodes == o.nodes) && (head.pages == o.pages)

-- so does one that isn't there
abbrev pub may_own : Owner → Option Header → Bool
may_own o (Some head) = is_owned o head
may_own o None = true
