-- How the handler's log goes on in a call: a turnover where it is full, and the seal of a turn.
use Rattle.std.specs.Prelude.{◌≡◌, ℕ, ◌+◌, nat_le, List, Bool, true, false, Option, Result, OnOk, OnErr, IsErrOf}
use Rattle.ken_disk.specs.Fates.{Fate}
use Rattle.ken_disk.specs.Story.{Story}
use Rattle.ken_record.specs.declared.effects.Effects.{Effects}
use Rattle.ken_record.specs.declared.page.Page.{Page}
use Rattle.ken_log.specs.Formats.{next_header}
use Rattle.ken_store.specs.declared.faults.StoreFault.{StoreFault}
use Rattle.ken_store.specs.declared.faults.StoreFault.TheVariants.{Disk, Memory}
use Rattle.ken_store.specs.declared.turning.TurnSide.{TurnSide}
use Rattle.ken_store.specs.Turning.{AreChangedPages, IsSameNode, IsSealed, IsStillBegun, IsUndone, MaySeal, SealsOn, Turning, changed_pages, coming_record, log_answer, turn_pages}
use Rattle.ken_store.specs.Turnovers.{IsTurned, IsUnturned, ReplacesOn, kept_disk, replaced_disk}
use Rattle.ken_work.specs.declared.renewing.TheConstants.{MOST_RECORDS}
use Rattle.ken_work.specs.declared.worker.TurnWorker.{TurnWorker}
use Rattle.ken_work.specs.Capped.{base_in}

-- the log holds as many records as one may
abbrev pub is_full : {D : Type 0} → TurnSide D → Bool
is_full side = nat_le MOST_RECORDS side.log.records

-- the number and the pages of the turn that is begun on a side
abbrev pub coming_turn : {D : Type 0} → TurnSide D → ℕ
coming_turn side = side.numbers.turns + 1

abbrev pub coming_pages : {D : Type 0} → TurnSide D → List Page
coming_pages side = changed_pages side.objects.begun side.objects.bytes

module _ {D : Type 0} (told : D → Option Story) (size count : D → ℕ) (fate : D → Option Fate) where
  -- a turnover with what the handler was told, by its answer
  pub record TurnsOver {T : Type 0} (result : Result T StoreFault) (w : TurnWorker D) (mid : TurnSide D) : Type 0 where
    pub turned : OnOk result (IsTurned w.told.settled w.told.progress.acked w.told.progress.emitted w.side mid)
    pub unturned : OnErr result (IsUnturned w.side mid)
    pub turning : OnOk result (Turning told size mid)
    pub goes_on : IsErrOf result Memory → Turning told size mid
    pub spent : IsErrOf result Disk → mid.log.spent ≡ true
    pub log : ReplacesOn told count fate (log_answer result) (next_header w.side.log (base_in w)) (base_in w) w.side.other (replaced_disk result mid)
    pub own : kept_disk result mid ≡ w.side.log.disk

  -- it is made where the log is full; else nothing happens
  abbrev pub RenewsBy : {T : Type 0} → Bool → Result T StoreFault → TurnWorker D → TurnSide D → Type 0
  RenewsBy true result w mid = TurnsOver result w mid
  RenewsBy false result w mid = OnErr result ⊥ × (mid ≡ w.side)

  abbrev pub Renews : {T : Type 0} → Result T StoreFault → TurnWorker D → TurnSide D → Type 0
  Renews result w mid = RenewsBy (is_full w.side) result w mid

  -- the seal of the turn that is begun on a side, by its answer
  pub record SealsTurn {T : Type 0} (result : Result T StoreFault) (e : Effects) (begun new : TurnSide D) : Type 0 where
    pub may : MaySeal begun e
    pub sealed : OnOk result (IsSealed e begun (coming_turn begun) (coming_pages begun) new)
    pub changed : OnOk result (AreChangedPages (turn_pages begun).heap (coming_pages begun))
    pub undone : IsErrOf result Memory → IsUndone begun new
    pub in_doubt : IsErrOf result Disk → IsStillBegun begun new
    pub turning : OnOk result (Turning told size new)
    pub goes_on : IsErrOf result Memory → Turning told size new
    pub spent : IsErrOf result Disk → new.log.spent ≡ true
    pub log : SealsOn told count fate (log_answer result) begun.log.end (coming_record begun e) begun.log.disk new.log.disk
    pub others : IsSameNode begun new
