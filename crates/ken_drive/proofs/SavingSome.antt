-- The saving of some disks, of more, and of more still.
use Rattle.std.proofs.Common.{arith, ◌≡◌, ◌≢◌, ◌∙◌, ◌⊎◌, ⊎_elim, inl, inr, ℕ, suc, zero, ◌<◌, List, true, Option, Result, Ok, Err, refl, sym, subst}
use Rattle.ken_disk.specs.Causes.{Rose}
use Rattle.ken_disk.specs.Story.{Story}
use Rattle.ken_files.specs.declared.faults.SaveFault.{SaveFault}
use Rattle.ken_files.specs.declared.faults.SaveFault.TheVariants as save
use Rattle.ken_files.specs.Copies.{IsAsBefore, IsReadIn, IsSaved, Saves}
use Rattle.ken_files.specs.Filing.{FileViews, Filing, KeepsRoom, path_of}
use Rattle.ken_files.proofs.Apart.{paths_differ}
use Rattle.ken_store.specs.declared.disks.Disks.{Disks}
use Rattle.ken_run.specs.declared.faults.RunFault.TheVariants.{Damaged, Down, Memory}
use Rattle.ken_drive.specs.declared.saving.SavingFault.{SavingFault}
use Rattle.ken_drive.specs.declared.saving.SavingFault.TheVariants as saving
use Rattle.ken_drive.specs.Driven.{Views}
use Rattle.ken_drive.specs.Saving.{disk_at}
use Rattle.ken_drive.specs.SavingParts.{OthersStand, SavesDisk, SavesDisks, SavesSome, SavesSomeBy, fault_of}

-- ---- any of them

-- a copy stands where nothing changed
pub copy-stands : {F : Type 0} (files : FileViews F) (path : List ℕ) (disk : Option Story) (old new : Filing F) → (new.put path ≡ old.put path) × (new.bytes path ≡ old.bytes path) → IsSaved files path disk old → IsSaved files path disk new
copy-stands files path disk old new same is = record {
  file = is.file;
  put = same.0 ∙ is.put;
  bytes = λ h told. same.1 ∙ is.bytes h told;
  copy = is.copy;
}

abbrev err-of : SavingFault → Result (Unit {0}) SavingFault
err-of fault = Err fault

module _ {F : Type 0} (files : FileViews F) (prefix : List ℕ) where
  -- these disks are among others: what holds of these holds of those, which some calls before have left alone
  pub widened : (Among Among2 : ℕ → ℕ → Type 0) (Same Same2 Copied Copied2 : Type 0) (Failed Failed2 : ℕ → ℕ → Type 0) (old mid new : Filing F) (result : Result (Unit {0}) SavingFault)
      → mid.failures ≡ old.failures → KeepsRoom old mid → OthersStand prefix Among2 old mid
      → ((v disk : ℕ) → Among v disk → Among2 v disk) → (Same → Same2) → ((x : Unit {0}) → result ≡ Ok x → files.tells ≡ true → Copied → Copied2) → ((v disk : ℕ) → Among v disk → Failed v disk → Failed2 v disk)
      → SavesSome files prefix Among Same Copied Failed mid new result → SavesSome files prefix Among2 Same2 Copied2 Failed2 old new result
  widened Among Among2 Same Same2 Copied Copied2 Failed Failed2 old mid new result failures rooms others among same copied failed is = record {
    saves = by result copied is.saves;
    no_failed_opening = λ none. is.no_failed_opening none ∙ failures;
    rise = let rise = is.rise in omega (arith, rise, failures);
    rooms = λ p has. is.rooms p (rooms p has);
    others = λ p apart.
        let later = is.others p (λ v disk these. apart v disk (among v disk these)) in
        let first = others p apart in
        (later.0 ∙ first.0, later.1 ∙ first.1);
  }
    where
      by : (r : Result (Unit {0}) SavingFault) → ((x : Unit {0}) → r ≡ Ok x → files.tells ≡ true → Copied → Copied2) → SavesSomeBy files prefix Among Same Copied Failed mid new r → SavesSomeBy files prefix Among2 Same2 Copied2 Failed2 old new r
      by (Ok x) copy saves = (same saves.0, λ tells. copy x refl tells (saves.1 tells))
      by (Err (saving.Run Memory)) copy saves = same saves
      by (Err (saving.Run (Down v))) copy saves = absurd saves
      by (Err (saving.Run (Damaged v disk place))) copy saves = absurd saves
      by (Err (saving.Open v disk)) copy saves = (among v disk saves.0, same saves.1, subst (λ (n : ℕ). Rose n new.failures) failures saves.2)
      by (Err (saving.Device v disk)) copy saves = (among v disk saves.0, ⊎_elim (λ file. inl (same file.0, file.1)) (λ there. inr (failed v disk saves.0 there)) saves.1)

  -- none was saved
  pub none-saved : (Among : ℕ → ℕ → Type 0) (Same Copied : Type 0) (Failed : ℕ → ℕ → Type 0) (old : Filing F) → Same → Copied → SavesSome files prefix Among Same Copied Failed old old (Ok tt)
  none-saved Among Same Copied Failed old same copied = record {
    saves = (same, λ tells. copied);
    no_failed_opening = λ none. refl;
    rise = omega arith;
    rooms = λ p has. has;
    others = λ p apart. (refl, refl);
  }

  -- some were saved: no opening has failed
  pub none-failed : (Among : ℕ → ℕ → Type 0) (Same Copied : Type 0) (Failed : ℕ → ℕ → Type 0) (old new : Filing F) (x : Unit {0}) → SavesSome files prefix Among Same Copied Failed old new (Ok x) → new.failures ≡ old.failures
  none-failed Among Same Copied Failed old new x is = is.no_failed_opening (λ v disk no. absurd (cc))

-- ---- the disks of a node

-- a count that rose from somewhere rose from 0
pub rose-at-all : (before now : ℕ) → Rose before now → Rose 0 now
rose-at-all before now rose = omega (arith, rose)

module _ {D O U F : Type 0} (views : Views D O U) (files : FileViews F) (prefix : List ℕ) (v : ℕ) where
  disk-same : (disk : D) → IsAsBefore views.told views.faults views.fate disk disk
  disk-same disk = record { story = refl; count = refl; falls = refl }

  -- ---- one

  module _ (which : ℕ) where
    module _ (before now : D) (old new : Filing F) where
      pub disk-not : (fault : SaveFault) → Saves files (path_of prefix v which) (views.told before) old new (Err fault) → IsReadIn views.told views.faults views.fate {T = Unit {0}} (Err fault) before now → SavesDisk views files prefix v which before now old new (Err (fault_of v which fault))
      disk-not fault is read = record {
        saves = by fault is read;
        no_failed_opening = none-by fault is;
        rise = is.rise;
        rooms = is.rooms;
        others = λ p apart. is.others p (apart v which (refl, refl));
      }
        where
          by : (f : SaveFault) → Saves files (path_of prefix v which) (views.told before) old new (Err f) → IsReadIn views.told views.faults views.fate {T = Unit {0}} (Err f) before now
              → SavesSomeBy files prefix (λ u disk. (u ≡ v) × (disk ≡ which)) (IsAsBefore views.told views.faults views.fate before now) (IsSaved files (path_of prefix v which) (views.told now) new) (λ u disk. Rose 0 (views.faults now)) old new (Err (fault_of v which f))
          by save.Open saves as-before = ((refl, refl), as-before, saves.opening refl)
          by save.Kept saves failed = ((refl, refl), inr (rose-at-all (views.faults before) (views.faults now) failed.count.1))
          by save.File saves as-before = ((refl, refl), inl (as-before, λ tells. saves.spoilt tells refl))
          by save.Memory saves as-before = as-before

          none-by : (f : SaveFault) → Saves files (path_of prefix v which) (views.told before) old new (Err f) → ((u disk : ℕ) → err-of (fault_of v which f) ≡ err-of (saving.Open u disk) → ⊥) → new.failures ≡ old.failures
          none-by save.Open saves none = absurd (none v which refl)
          none-by save.Kept saves none = saves.no_failed_opening (λ no. absurd (cc))
          none-by save.File saves none = saves.no_failed_opening (λ no. absurd (cc))
          none-by save.Memory saves none = saves.no_failed_opening (λ no. absurd (cc))

  -- ---- all three

  -- one of the three is among them
  among-three : (which : ℕ) → which < 3 → (u disk : ℕ) → (u ≡ v) × (disk ≡ which) → (u ≡ v) × (disk < 3)
  among-three which few u disk these = (these.0, let at = these.1 in omega (arith, at, few))

  -- the one that failed
  failed-there : (which : ℕ) (now : Disks D) (u disk : ℕ) → (u ≡ v) × (disk ≡ which) → Rose 0 (views.faults (disk_at which now)) → Rose 0 (views.faults (disk_at disk now))
  failed-there which now u disk these rose = subst (λ (k : ℕ). Rose 0 (views.faults (disk_at k now))) (sym these.1) rose

  -- what leaves the path of one of them alone leaves all others alone
  others-of : (which : ℕ) → which < 3 → (old new : Filing F) → OthersStand prefix (λ u disk. (u ≡ v) × (disk ≡ which)) old new → OthersStand prefix (λ u disk. (u ≡ v) × (disk < 3)) old new
  others-of which few old new others = λ p apart. others p (λ u disk these. apart u disk (among-three which few u disk these))

  module _ (l l2 i i2 s s2 : D) (old one two new : Filing F) (first : SavesDisk views files prefix v 0 l l2 old one (Ok tt)) where
    -- they were, and its third was saved or not
    module _ (low : v < 8) (second : SavesDisk views files prefix v 1 i i2 one two (Ok tt)) (result : Result (Unit {0}) SavingFault) (third : SavesDisk views files prefix v 2 s s2 two new result) where
      abbrev all : Disks D
      all = record { log = l2; image = i2; second = s2 }

      -- the path of a disk isn't that of another
      apart-from : (a which : ℕ) → a < 3 → which < 3 → (a ≡ which → ⊥) → (u disk : ℕ) → (u ≡ v) × (disk ≡ which) → path_of prefix v a ≢ path_of prefix u disk
      apart-from a which few few2 other u disk these = paths_differ prefix v u a disk (omega (arith, low)) (let at = these.0 in omega (arith, at, low)) (omega (arith, few)) (let at = these.1 in omega (arith, at, few2)) (λ both. other (both.1 ∙ these.1))

      copies : files.tells ≡ true → IsSaved files (path_of prefix v 2) (views.told s2) new → (disk : ℕ) → disk < 3 → IsSaved files (path_of prefix v disk) (views.told (disk_at disk all)) new
      copies tells copied zero few =
          copy-stands files (path_of prefix v 0) (views.told l2) two new (third.others (path_of prefix v 0) (apart-from 0 2 (omega arith) (omega arith) (λ same. omega (arith, same))))
          (copy-stands files (path_of prefix v 0) (views.told l2) one two (second.others (path_of prefix v 0) (apart-from 0 1 (omega arith) (omega arith) (λ same. omega (arith, same)))) (first.saves.1 tells))
      copies tells copied (suc zero) few =
          copy-stands files (path_of prefix v 1) (views.told i2) two new (third.others (path_of prefix v 1) (apart-from 1 2 (omega arith) (omega arith) (λ same. omega (arith, same)))) (second.saves.1 tells)
      copies tells copied (suc (suc zero)) few = copied
      copies tells copied (suc (suc (suc k))) few = absurd (omega (arith, few))

      pub third-too : SavesDisks views files prefix v (record { log = l; image = i; second = s }) all old new result
      third-too = widened files prefix _ _ _ _ _ _ _ _ old two new result
          (none-failed files prefix _ _ _ _ one two tt second ∙ none-failed files prefix _ _ _ _ old one tt first)
          (λ p has. second.rooms p (first.rooms p has))
          (λ p apart. let b = others-of 1 (omega arith) one two second.others p apart in let a = others-of 0 (omega arith) old one first.others p apart in (b.0 ∙ a.0, b.1 ∙ a.1))
          (among-three 2 (omega arith))
          (λ same. record { log = first.saves.0; image = second.saves.0; second = same })
          (λ x ok tells copied. copies tells copied)
          (failed-there 2 all)
          third
