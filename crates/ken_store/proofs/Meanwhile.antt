-- What a crash leaves while the image of a store is written or synced.
use Rattle.std.proofs.Common.{◌≡◌, ℕ, ◌*◌, [], take, true, sym, subst, ◌∙◌, Bool, false, Option, Some, Result, Ok, Err}
use Rattle.ken_disk.specs.Moments.{Through}
use Rattle.ken_disk.specs.Story.{Story, Follows}
use Rattle.ken_model.specs.declared.values.Value.{Value}
use Rattle.ken_model.specs.Reading.{read_value}
use Rattle.ken_cover.specs.Covers.{IsPossible, Covers}
use Rattle.ken_cover.specs.Sides.{ImagePages, synced_pages}
use Rattle.ken_cover.proofs.Keeps.{patch_keeps_coverage, sync_keeps_coverage}
use Rattle.ken_store.specs.declared.store.Store.{Store}
use Rattle.ken_store.specs.declared.turning.TurnSide.{TurnSide}
use Rattle.ken_store.specs.Answers.{disks_in}
use Rattle.ken_store.specs.Apart.{Apart, disks_apart}
use Rattle.ken_store.specs.declared.faults.StoreFault.{StoreFault}
use Rattle.ken_store.specs.declared.faults.StoreFault.TheVariants as faults
use Rattle.ken_store.specs.Patching.{MayBePatched, Patched, Patching, PatchesBy, SettlesBy}
use Rattle.ken_store.specs.PatchLaws.{IsAheadOf}
use Rattle.ken_store.specs.Recovered.{Recovery, Whole}
use Rattle.ken_store.specs.Standing.{RecoversMeanwhile, Standing, is_one}
use Rattle.ken_store.specs.Turning.{turn_pages, state_in}
use Rattle.ken_store.proofs.AheadLaws.{patch_keeps_ahead, sync_keeps_ahead}
use Rattle.ken_store.proofs.ApartRecovers.{patch_recovers_apart, sync_recovers_apart}

-- the two sides of a store are apart, with nothing that waits
apart_of : {D : Type 0} (told : D → Option Story) (size : D → ℕ) (store : Store D) (i : ImagePages) → Standing told size store i → Apart told size store.turns store.patches [] i
apart_of told size store i stands = record {
  turns = stands.takes.turns;
  patches = stands.patches;
  count = stands.takes.count;
  waits = tt;
  known = stands.takes.known;
  covers = stands.covers;
  behind = stands.behind;
  before = stands.before;
}

module _ {D : Type 0} (told : D → Option Story) (size : D → ℕ) (old new : Store D) (i : ImagePages) (stands : Standing told size old i) (turns : new.turns ≡ old.turns) where
  -- the next page was written
  pub covers_patched : (i2 : ImagePages) → Patched i i2 → Covers old.turns.owner.pages true (turn_pages old.turns) i2
  covers_patched i2 patched =
      subst (λ (x : ImagePages). Covers old.turns.owner.pages true (turn_pages old.turns) x) (sym patched.is)
      (patch_keeps_coverage old.turns.owner.pages (turn_pages old.turns) i patched.page patched.first patched.rest patched.change patched.next stands.covers)

  pub stands_patched : (i2 : ImagePages) → Patched i i2 → Patching told size new.patches i2 → new.patches.image.pages ≡ old.patches.image.pages → new.patches.known ≡ old.patches.known → Standing told size new i2
  stands_patched i2 patched patching count known =
      with_turns new.turns turns
    where
      behind : IsAheadOf (turn_pages old.turns) i2
      behind =
          subst (λ (x : ImagePages). IsAheadOf (turn_pages old.turns) x) (sym patched.is)
          (patch_keeps_ahead (turn_pages old.turns) i patched.page patched.first patched.rest patched.change patched.next stands.behind)

      with_turns : (side : TurnSide D) → side ≡ old.turns → Standing told size (record { turns = side; patches = new.patches }) i2
      with_turns side is = subst (λ (x : TurnSide D). Standing told size (record { turns = x; patches = new.patches }) i2) (sym is) (record {
        takes = record { turns = stands.takes.turns; patches = patching.takes; count = count ∙ stands.takes.count; known = known ∙ stands.takes.known };
        patches = patching;
        covers = covers_patched i2 patched;
        behind = behind;
        before = stands.before;
      })

  pub stands_synced : Patching told size new.patches (synced_pages i) → new.patches.image.pages ≡ old.patches.image.pages → new.patches.known ≡ old.patches.known → Standing told size new (synced_pages i)
  stands_synced patching count known = subst (λ (x : TurnSide D). Standing told size (record { turns = x; patches = new.patches }) (synced_pages i)) (sym turns) (record {
    takes = record { turns = stands.takes.turns; patches = patching.takes; count = count ∙ stands.takes.count; known = known ∙ stands.takes.known };
    patches = patching;
    covers = sync_keeps_coverage old.turns.owner.pages (turn_pages old.turns) i stands.covers;
    behind = sync_keeps_ahead (turn_pages old.turns) i stands.behind;
    before = stands.before;
  })

  -- nothing that the pages stand for has changed
  pub stands_still : Patching told size new.patches i → new.patches.image.pages ≡ old.patches.image.pages → new.patches.known ≡ old.patches.known → Standing told size new i
  stands_still patching count known = subst (λ (x : TurnSide D). Standing told size (record { turns = x; patches = new.patches }) i) (sym turns) (record {
    takes = record { turns = stands.takes.turns; patches = patching.takes; count = count ∙ stands.takes.count; known = known ∙ stands.takes.known };
    patches = patching;
    covers = stands.covers;
    behind = stands.behind;
    before = stands.before;
  })

  module _ (v : Value) (reads : read_value (turn_pages old.turns).heap ≡ Some v) where
    abbrev kept : Recovery → Type 0
    kept = is_one (Whole (state_in old.turns) v)

    -- the handler's side is as it was
    with_turns : RecoversMeanwhile told old.turns.owner (disks_in old) (disks_apart old.turns new.patches) kept → RecoversMeanwhile told old.turns.owner (disks_in old) (disks_in new) kept
    with_turns = subst (λ (x : TurnSide D). RecoversMeanwhile told old.turns.owner (disks_in old) (disks_apart x new.patches) kept) (sym turns)

    pub patch_recovers : Follows (λ h s. Through (λ image. MayBePatched i (take (256 * old.patches.image.pages) image)) h s) (told old.patches.image.disk) (told new.patches.image.disk) → RecoversMeanwhile told old.turns.owner (disks_in old) (disks_in new) kept
    patch_recovers follows = with_turns (patch_recovers_apart told size old.turns old.patches new.patches [] i v (apart_of told size old i stands) reads follows)

    pub sync_recovers : Follows (λ h s. Through (λ image. IsPossible i (take (256 * old.patches.image.pages) image)) h s) (told old.patches.image.disk) (told new.patches.image.disk) → RecoversMeanwhile told old.turns.owner (disks_in old) (disks_in new) kept
    sync_recovers follows = with_turns (sync_recovers_apart told size old.turns old.patches new.patches [] i v (apart_of told size old i stands) reads follows)

-- by the answer of a patch
pub patches_by : {D : Type 0} (told : D → Option Story) (size : D → ℕ) (old new : Store D) (i : ImagePages) (result : Result Bool StoreFault) → Standing told size old i → new.turns ≡ old.turns
    → new.patches.image.pages ≡ old.patches.image.pages → new.patches.known ≡ old.patches.known → PatchesBy (told new.patches.image.disk) result (Patching told size new.patches) i → PatchesBy (told new.patches.image.disk) result (Standing told size new) i
patches_by told size old new i (Ok true) stands turns count known by = (by.0, (by.1.0, stands_patched told size old new i stands turns by.0 by.1.0 by.1.1 count known))
patches_by told size old new i (Ok false) stands turns count known by = (by.0, stands_still told size old new i stands turns by.1 count known)
patches_by told size old new i (Err faults.Disk) stands turns count known by = (by.0, (by.1.0, λ h now. stands_patched told size old new i stands turns by.0 by.1.0 (by.1.1 h now) count known))
patches_by told size old new i (Err faults.Memory) stands turns count known by = stands_still told size old new i stands turns by count known
patches_by told size old new i (Err (faults.Damaged disk place)) stands turns count known by = by

-- and of a sync
pub settles_by : {D T : Type 0} (told : D → Option Story) (size : D → ℕ) (old new : Store D) (i : ImagePages) (result : Result T StoreFault) → Standing told size old i → new.turns ≡ old.turns
    → new.patches.image.pages ≡ old.patches.image.pages → new.patches.known ≡ old.patches.known → SettlesBy (told new.patches.image.disk) result (Patching told size new.patches) i → SettlesBy (told new.patches.image.disk) result (Standing told size new) i
settles_by told size old new i (Ok x) stands turns count known by = stands_synced told size old new i stands turns by count known
settles_by told size old new i (Err faults.Disk) stands turns count known by = λ h now. stands_still told size old new i stands turns (by h now) count known
settles_by told size old new i (Err faults.Memory) stands turns count known by = stands_still told size old new i stands turns by count known
settles_by told size old new i (Err (faults.Damaged disk place)) stands turns count known by = by
