-- How the bytes of a disk in memory are kept.
use Rattle.std.specs.Prelude.{◌≡◌, ℕ, ◌^◌, ◌<◌, ◌≤◌, List, length, get_or, reverse}
use Rattle.ken_disk.specs.Bytes.{IsIn, furthest}
use Rattle.ken_disk.specs.Story.{DiskState, Story, IsImage}
use Rattle.ken_disk.specs.Steps.{written, made_safe, restarted, goes_to}
use Rattle.ken_memdisk.specs.Picks.{picked}
use Rattle.ken_memdisk.specs.declared.story.Step.{Step}
use Rattle.ken_memdisk.specs.declared.story.Step.TheVariants.{Wrote, Synced, Restarted}

-- the crash of a restart
abbrev pub restart_at : ℕ → Story → Story
restart_at pick h = goes_to (restarted (picked pick h.now) h.now) h

-- what a step makes of a disk
abbrev pub after_step : Story → Step → Story
after_step h (Wrote at bytes) = goes_to (written at bytes.now h.now) h
after_step h Synced = goes_to (made_safe h.now) h
after_step h (Restarted pick) = restart_at pick h

-- the synced bytes differ from those that a read gives only in these ranges, and past their end
pub record Differ (ranges : List (ℕ × ℕ)) (seen synced : List ℕ) : Type 0 where
  pub no_longer : length synced ≤ length seen
  pub within : furthest 0 ranges ≤ length seen
  pub same : (place : ℕ) → place < length synced → (IsIn place ranges → ⊥) → get_or seen place 0 ≡ get_or synced place 0

-- the bytes and ranges are those of the disk, the ranges oldest first
pub record IsKept (seen synced : List ℕ) (ranges : List (ℕ × ℕ)) (s : DiskState) : Type 0 where
  pub seen_is : s.seen ≡ seen
  pub synced_is : s.synced ≡ synced
  pub pending_is : s.pending ≡ reverse ranges
  -- what a read gives is one of the possible images, and no shorter than it may be
  pub sound : IsImage s s.seen
  pub longest : furthest (length s.synced) s.pending ≤ length s.seen
  pub bound : length s.seen ≤ 2 ^ 40
