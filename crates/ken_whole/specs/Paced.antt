-- How many records a node's log holds, and how many turns were made for each log before it.
use Rattle.std.specs.Prelude.{◌+◌, ◌*◌, ◌≤◌, List, length}
use Rattle.ken_record.specs.declared.header.Header.{Header}
use Rattle.ken_record.specs.declared.record.Record.{Record}
use Rattle.ken_work.specs.declared.renewing.TheConstants.{MOST_RECORDS}

-- a log holds at most 32 records, and each log before it was left with 32 at least: so logs are as few as turns let them be
pub record IsPaced (head : Header) (records : List Record) : Type 0 where
  pub few : length records ≤ MOST_RECORDS
  pub turns : MOST_RECORDS * head.generation ≤ head.turns + MOST_RECORDS
