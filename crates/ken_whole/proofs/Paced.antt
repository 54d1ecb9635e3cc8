-- A log stays paced.
use Rattle.std.proofs.Common.{◌≡◌, ℕ, ◌+◌, ◌*◌, ◌<◌, ◌≤◌, Bool, true, false, List, [], ◌∷◌, ◌++◌, length, Option, Ok, sym, ap, subst, ◌∙◌, arith}
use Rattle.std.proofs.lemmas.Bool.{leb-false, leb-true}
use Rattle.std.proofs.lemmas.List.{length_push}
use Rattle.ken_disk.specs.Fates.{Fate}
use Rattle.ken_disk.specs.Story.{Story}
use Rattle.ken_record.specs.declared.base.Base.{Base}
use Rattle.ken_record.specs.declared.effects.Effects.{Effects}
use Rattle.ken_record.specs.declared.header.Header.{Header}
use Rattle.ken_record.specs.declared.page.Page.{Page}
use Rattle.ken_record.specs.declared.record.Record.{Record}
use Rattle.ken_log.specs.Formats.{next_header}
use Rattle.ken_log.specs.declared.log.Log.{Log}
use Rattle.ken_store.specs.declared.owner.Owner.{Owner}
use Rattle.ken_store.specs.declared.turning.TurnSide.{TurnSide}
use Rattle.ken_store.specs.Creations.{IsNew, first_header}
use Rattle.ken_store.specs.Turning.{IsSealed, KeepsLog, Turning, record_of}
use Rattle.ken_store.specs.Turnovers.{IsTurned}
use Rattle.ken_work.specs.declared.worker.TurnWorker.{TurnWorker}
use Rattle.ken_whole.specs.Paced.{IsPaced}
use Rattle.ken_work.specs.Sealing.{RenewsBy, coming_turn, is_full}

-- the first log
pub paced-first : (o : Owner) → IsPaced (first_header o) []
paced-first o = record { few = omega arith; turns = omega arith }

-- one record more, where there is room
pub paced-more : (head : Header) (records : List Record) (r : Record) → IsPaced head records → length records < 32 → IsPaced head (records ++ r ∷ [])
paced-more head records r is room = record { few = let more : length (records ++ r ∷ []) ≤ 32 = let count = length_push records r in omega (arith, count, room) in more; turns = is.turns }

module _ {D : Type 0} where
  is-filled : (side : TurnSide D) → is_full side ≡ true → 32 ≤ side.log.records
  is-filled side full = leb-true 32 side.log.records full

  pub paced-new : (o : Owner) (side : TurnSide D) → IsNew o side → IsPaced side.log.header side.records.items
  paced-new o side new = subst (λ (h : Header). IsPaced h side.records.items) (sym new.head) (subst (IsPaced (first_header o)) (sym new.records) (paced-first o))

  pub paced-still : (old new : TurnSide D) → new.log.header ≡ old.log.header → new.records.items ≡ old.records.items → IsPaced old.log.header old.records.items → IsPaced new.log.header new.records.items
  paced-still old new head records is = subst (λ (h : Header). IsPaced h new.records.items) (sym head) (subst (IsPaced old.log.header) (sym records) is)

  -- after a seal
  pub paced-sealed : (old begun new : TurnSide D) (e : Effects) (pages : List Page) → IsPaced old.log.header old.records.items → length old.records.items < 32 → KeepsLog old begun → IsSealed e begun (coming_turn begun) pages new → IsPaced new.log.header new.records.items
  paced-sealed old begun new e pages is room same sealed =
      let r : Record = record_of (coming_turn begun) e pages in
      let head : new.log.header ≡ old.log.header = sealed.head ∙ ap (λ (x : Log D). x.header) same.log in
      let records : new.records.items ≡ old.records.items ++ r ∷ [] = sealed.records ∙ ap (λ (rs : List Record). rs ++ r ∷ []) same.records in
      subst (λ (h : Header). IsPaced h new.records.items) (sym head) (subst (IsPaced old.log.header) (sym records) (paced-more old.log.header old.records.items r is room))

  -- the next log, where this one is full
  pub paced-next : (side : TurnSide D) (base : Base) → IsPaced side.log.header side.records.items → is_full side ≡ true → IsPaced (next_header side.log base) []
  paced-next side base is full =
      let many = is-filled side full in
      let before : 32 * side.log.header.generation ≤ side.log.header.turns + 32 = is.turns in
      let after : 32 * (side.log.header.generation + 1) ≤ side.log.header.turns + side.log.records + 32 = omega (arith, before, many) in
      record { few = omega arith; turns = after }

  pub paced-turned : (side new : TurnSide D) (settled : ℕ) (acked : List ℕ) (emitted : ℕ) → IsPaced side.log.header side.records.items → is_full side ≡ true → IsTurned settled acked emitted side new → IsPaced new.log.header new.records.items
  paced-turned side new settled acked emitted is full turned =
      subst (λ (h : Header). IsPaced h new.records.items) (sym turned.head) (subst (IsPaced (next_header side.log _)) (sym turned.records) (paced-next side _ is full))

-- after a turnover where the log was full there is room for a record
pub renewed-room : {D : Type 0} (told : D → Option Story) (size count : D → ℕ) (fate : D → Option Fate) (full : Bool) (w : TurnWorker D) (mid : TurnSide D) → is_full w.side ≡ full → Turning told size w.side → RenewsBy told size count fate {T = Unit {0}} full (Ok tt) w mid → length mid.records.items < 32
renewed-room told size count fate true w mid is side renews = let none : length mid.records.items ≡ 0 = ap length renews.turned.records in omega (arith, none)
renewed-room {D} told size count fate false w mid is side renews =
    let low : w.side.log.records < 32 = let not = leb-false 32 w.side.log.records is in omega (arith, not) in
    let same : length mid.records.items ≡ length w.side.records.items = ap (λ (x : TurnSide D). length x.records.items) renews.1 in
    let count = side.count in
    omega (arith, low, same, count)
