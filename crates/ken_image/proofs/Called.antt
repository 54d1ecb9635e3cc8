-- Calls of a disk, by what they answer.
use Rattle.std.proofs.Common.{◌≡◌, ℕ, List, [], ◌∷◌, refl, subst, Option, Some, Result, Ok, Err}
use Rattle.ken_disk.specs.declared.faults.DiskFault.{DiskFault}
use Rattle.ken_disk.specs.declared.faults.DiskFault.TheVariants.{Failed, Memory}
use Rattle.ken_disk.specs.Story.{Story, Leaves, Follows}
use Rattle.ken_disk.specs.Moments.{Through}
use Rattle.ken_disk.specs.Steps.{went, written, made_safe, after_writing, after_write, after_sync}
use Rattle.ken_disk.proofs.Told.{by_step}
use Rattle.ken_disk.proofs.Since.{stays, moved}
use Rattle.ken_image.specs.Calls.{Call, Write, Sync, Called}
use Rattle.ken_image.specs.Faults.{as_fault, as_disk}

-- ---- one call

module _ (at : ℕ) (bytes : List ℕ) where
  one_write : {T : Type 0} (r : Result T DiskFault) (h : Story) → Called r (Write at bytes ∷ []) h (after_write at bytes r h)
  one_write (Ok x) h = refl
  one_write (Err Failed) h = (record { done = []; next = Write at bytes; left = []; parts = refl }, refl)
  one_write (Err Memory) h = (record { done = []; next = Write at bytes; left = []; parts = refl }, refl)

  pub wrote : {T : Type 0} (r : Result T DiskFault) (old new : Option Story) → new ≡ went (after_write at bytes r) old → Follows (Called r (Write at bytes ∷ [])) old new
  wrote r old new is = by_step (after_write at bytes r) (Called r (Write at bytes ∷ [])) old new is (λ h _. one_write r h)

  -- what a crash leaves meanwhile
  pub through_write : (P : Story → List ℕ → Type 0) {T : Type 0} (r : Result T DiskFault) (old new : Option Story) → new ≡ went (after_write at bytes r) old
      → ((h : Story) → old ≡ Some h → Leaves (P h) h.now) → ((h : Story) → old ≡ Some h → Leaves (P h) (written at bytes h.now)) → Follows (λ h s. Through (P h) h s) old new
  through_write P r old new is before after =
      by_step (after_write at bytes r) (λ h s. Through (P h) h s) old new is (λ h told. each r h told)
    where
      each : {T : Type 0} (r : Result T DiskFault) (h : Story) → old ≡ Some h → Through (P h) h (after_write at bytes r h)
      each (Ok x) h told = moved (P h) h (written at bytes h.now) (before h told) (after h told)
      each (Err Failed) h told = moved (P h) h (written at bytes h.now) (before h told) (after h told)
      each (Err Memory) h told = stays (P h) h (before h told)

one_sync : {T : Type 0} (r : Result T DiskFault) (h : Story) → Called r (Sync ∷ []) h (after_sync r h)
one_sync (Ok x) h = refl
one_sync (Err Failed) h = (record { done = []; next = Sync; left = []; parts = refl }, refl)
one_sync (Err Memory) h = (record { done = []; next = Sync; left = []; parts = refl }, refl)

pub synced : {T : Type 0} (r : Result T DiskFault) (old new : Option Story) → new ≡ went (after_sync r) old → Follows (Called r (Sync ∷ [])) old new
synced r old new is = by_step (after_sync r) (Called r (Sync ∷ [])) old new is (λ h _. one_sync r h)

pub through_sync : (P : Story → List ℕ → Type 0) {T : Type 0} (r : Result T DiskFault) (old new : Option Story) → new ≡ went (after_sync r) old
    → ((h : Story) → old ≡ Some h → Leaves (P h) h.now) → ((h : Story) → old ≡ Some h → Leaves (P h) (made_safe h.now)) → Follows (λ h s. Through (P h) h s) old new
through_sync P r old new is before after =
    by_step (after_sync r) (λ h s. Through (P h) h s) old new is (λ h told. each r h told)
  where
    each : {T : Type 0} (r : Result T DiskFault) (h : Story) → old ≡ Some h → Through (P h) h (after_sync r h)
    each (Ok x) h told = moved (P h) h (made_safe h.now) (before h told) (after h told)
    each (Err e) h told = stays (P h) h (before h told)

-- ---- an error, as the image answers it

module _ (calls : List Call) (T U : Type 0) where
  pub told_fault : (r : Result T DiskFault) (e : DiskFault) (old new : Option Story) → r ≡ Err e → Follows (Called r calls) old new → Follows (Called {T = U} (as_disk (Err (as_fault e))) calls) old new
  told_fault r e old new is follows = by_cases e (subst (λ (q : Result T DiskFault). Follows (Called q calls) old new) is follows)
    where
      by_cases : (e : DiskFault) → Follows (Called {T = T} (Err e) calls) old new → Follows (Called {T = U} (as_disk (Err (as_fault e))) calls) old new
      by_cases Failed f = f
      by_cases Memory f = f

-- ---- a write or a sync that answered Ok

module _ (R : Story → Story → Type 0) {T : Type 0} (x : T) (r : Result T DiskFault) (old new : Option Story) (ok : r ≡ Ok x) where
  pub wrote_ok : (at : ℕ) (bytes : List ℕ) → new ≡ went (after_write at bytes r) old → ((h : Story) → old ≡ Some h → R h (after_writing at bytes h)) → Follows R old new
  wrote_ok at bytes is holds = by_step (after_writing at bytes) R old new (subst (λ (q : Result T DiskFault). new ≡ went (after_write at bytes q) old) ok is) holds
