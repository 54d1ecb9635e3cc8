-- The recovered state: what the bytes of a node's disks stand for.
use Rattle.std.specs.Prelude.{◌≡◌, ℕ, ◌+◌, ◌*◌, nat_lt, not, if◌then◌else◌, List, length, take, Option, Some, None, Result, Ok, Err}
use Rattle.ken_model.specs.declared.states.State.{State}
use Rattle.ken_model.specs.declared.values.Value.{Value}
use Rattle.ken_model.specs.Broken.{BreaksAt}
use Rattle.ken_model.specs.Reading.{read_value}
use Rattle.ken_record.specs.declared.header.Header.{Header}
use Rattle.ken_record.specs.declared.base.Base.{Base}
use Rattle.ken_record.specs.declared.record.Record.{Record}
use Rattle.ken_log.specs.Mounts.{Mounted, mount_of}
use Rattle.ken_log.specs.Mounts as mounts
use Rattle.ken_cover.specs.Overlay.{overlay}
use Rattle.ken_store.specs.declared.owner.Owner.{Owner}
use Rattle.ken_store.specs.declared.disks.Which.{Which}
use Rattle.ken_store.specs.declared.numbers.Numbers.{Numbers}
use Rattle.ken_store.specs.declared.heads.Logs.{Logs}
use Rattle.ken_store.specs.declared.heads.Logs.TheVariants.{NoLogs, WrongHeader, Current}
use Rattle.ken_store.specs.Logs.{front_of, logs_of, log_on, disk_number, may_own}
use Rattle.ken_store.specs.Numbers.{no_numbers, after_records}
use Rattle.ken_store.specs.Bases.{base_stands, base_numbers}
use Rattle.ken_store.specs.Kept.{messages_in, outs_in, pages_in}

pub data Recovery : Type 0 where
  -- there is no log
  Fresh : Recovery
  -- the item at this place of this disk is wrong
  Damaged : ℕ → ℕ → Recovery
  -- these bytes of the heap stand for no value: the image, disk 1, is damaged where they break first
  Broken : List ℕ → Recovery
  -- what the log tells, but for the heap; and the heap's value
  Whole : State → Value → Recovery

-- what the records of a log go on from: nothing where its base is refused
abbrev pub start_of : Owner → Header → Option Base → Option Numbers
start_of o head None = Some no_numbers
start_of o head (Some b) = if base_stands o head b then Some (base_numbers head b) else None

abbrev pub numbers_from : Owner → ℕ → Option Numbers → List Record → Result Numbers ℕ
numbers_from o place (Some n) records = after_records o place n records
numbers_from o place None records = Err 32

-- the numbers of a log, or the place of the first item that is refused
abbrev pub numbers_of : Owner → Header → Option Base → List Record → Result Numbers ℕ
numbers_of o head base records = numbers_from o (32 + head.base_len) (start_of o head base) records

-- with its messages and outputs
abbrev pub state_of : ℕ → Numbers → Option Base → List Record → State
state_of node n base records = record {
  turns = n.turns;
  stamp = n.stamp;
  consumed = n.consumed;
  sent = n.sent;
  outputs = n.outputs;
  messages = messages_in node base records;
  outs = outs_in base records;
}

-- the state of a log that mounts, or the disk and the place that is refused: the headers are held against their owner first
abbrev pub with_numbers : Owner → Which → Option Base → List Record → Result Numbers ℕ → Result State (ℕ × ℕ)
with_numbers o which base records (Ok n) = Ok (state_of o.node n base records)
with_numbers o which base records (Err place) = Err (disk_number which, place)

abbrev pub checked : Owner → Which → Option Header → Option Header → Header → Option Base → List Record → Result State (ℕ × ℕ)
checked o which first second head base records =
    if not (may_own o first) then Err (0, 0)
    else if not (may_own o second) then Err (2, 0)
    else with_numbers o which base records (numbers_of o head base records)

-- the heap is the last that is refused
abbrev pub with_value : State → List ℕ → Option Value → Recovery
with_value s heap (Some v) = Whole s v
with_value s heap None = Broken heap

-- the bytes of the heap: the image with the log's pages over it, oldest first
abbrev pub heap_of : Owner → Option Base → List Record → List ℕ → List ℕ
heap_of o base records image = overlay (take (256 * o.pages) image) (pages_in base records)

-- the image's length before it
abbrev pub with_image : Owner → State → Option Base → List Record → List ℕ → Recovery
with_image o s base records image =
    if nat_lt (length image) (256 * o.pages)
    then Damaged 1 (length image)
    else with_value s (heap_of o base records image) (read_value (heap_of o base records image))

abbrev pub with_state : Owner → Option Base → List Record → List ℕ → Result State (ℕ × ℕ) → Recovery
with_state o base records image (Ok s) = with_image o s base records image
with_state o base records image (Err at) = Damaged at.0 at.1

-- where its header stands, a log isn't unformatted
abbrev pub with_log : Owner → Which → Option Header → Option Header → List ℕ → Mounted → Recovery
with_log o which first second image mounts.Unformatted = Damaged (disk_number which) 0
with_log o which first second image (mounts.Damaged place) = Damaged (disk_number which) place
with_log o which first second image (mounts.Whole head base records) = with_state o base records image (checked o which first second head base records)

abbrev pub with_logs : Owner → List ℕ → List ℕ → List ℕ → Logs → Recovery
with_logs o log image second NoLogs = Fresh
with_logs o log image second (WrongHeader which) = Damaged (disk_number which) 0
with_logs o log image second (Current which a b) = with_log o which a b image (mount_of (log_on which log second))

-- of the bytes of the log, the image and the second log
abbrev pub recovered : Owner → List ℕ → List ℕ → List ℕ → Recovery
recovered o log image second = with_logs o log image second (logs_of (front_of log) (front_of second))

-- a recovery is refused at this place of this disk
abbrev pub IsRefusedAt : Recovery → ℕ → ℕ → Type 0
IsRefusedAt Fresh disk place = ⊥
IsRefusedAt (Damaged d p) disk place = (disk ≡ d) × (place ≡ p)
IsRefusedAt (Broken heap) disk place = (disk ≡ 1) × BreaksAt heap place
IsRefusedAt (Whole s v) disk place = ⊥
