-- Which calls of a disk in memory fail.
use Rattle.std.specs.Prelude.{ℕ, ◌||◌, ◌==◌, List, [], ◌∷◌, map, length, Bool, true, false, Option, is_some}
use Rattle.std.specs.List.{find}
use Rattle.std.specs.Option.{option_map, unwrap_or}
use Rattle.std.specs.Map.{lookup, remove_entry}
use Rattle.std.specs.BTreeMap.{is_at, insert_entry}
use Rattle.std.specs.Ordering.{nat_cmp}
use Rattle.ken_disk.specs.Causes.{risen}
use Rattle.ken_disk.specs.Fates.{Fate, Origin}
use Rattle.ken_memdisk.specs.declared.cut.Cut.{Cut}

-- the cuts ahead, and the writes and syncs so far
pub record CallCounts : Type 0 where
  -- the call and the pick of each cut that no call has met, calls rising
  pub cuts : List (ℕ × ℕ)
  -- how many writes and syncs were made, failed ones too
  pub made : ℕ
  -- a cut was met since the last restart
  pub down : Bool
  -- the pick of the cut that was met last, or 0
  pub hint : ℕ
  -- how many reads, writes and syncs failed
  pub faults : ℕ
  -- whose disk it is, and the picks of its restarts, newest first; nothing that runs keeps these
  pub origin : Origin
  pub picks : List ℕ

-- the pick of the first cut on the list that is at this call; calls are numbered from 1
abbrev pub first_pick : List Cut → ℕ → Option ℕ
first_pick cuts call = option_map (λ cut. cut.pick) (find (λ cut. cut.call == call) cuts)

-- the cuts of a list by their calls, of several at one call the first
abbrev pub by_call : List Cut → List (ℕ × ℕ)
by_call [] = []
by_call (cut ∷ cuts) = insert_entry nat_cmp (by_call cuts) cut.call cut.pick

-- a cut as its call and its pick
abbrev pub pair_of : Cut → ℕ × ℕ
pair_of cut = (cut.call, cut.pick)

-- that disk of a node, with these cuts
abbrev pub origin_of : ℕ → ℕ → List Cut → Origin
origin_of node which cuts = record { node = node; which = which; cuts = map pair_of cuts }

-- of that disk, before the first call
abbrev pub no_calls : ℕ → ℕ → List Cut → CallCounts
no_calls node which cuts = record {
  cuts = by_call cuts;
  made = 0;
  down = false;
  hint = 0;
  faults = 0;
  origin = origin_of node which cuts;
  picks = [];
}

-- the pick of the cut at this call, and the other cuts
abbrev pub pick_at : List (ℕ × ℕ) → ℕ → Option ℕ
pick_at cuts call = lookup (is_at (nat_cmp call)) cuts

abbrev pub without : List (ℕ × ℕ) → ℕ → List (ℕ × ℕ)
without cuts call = remove_entry (is_at (nat_cmp call)) cuts

-- whether the next write or sync fails: it is at a cut, or comes after one with no restart between
abbrev pub fails_next : CallCounts → Bool
fails_next c = c.down || is_some (pick_at c.cuts (risen c.made))

-- a write or sync was made
abbrev pub after_call : CallCounts → CallCounts
after_call c = record c { made = risen c.made }

-- one failed
abbrev pub after_cut : CallCounts → CallCounts
after_cut c = record c {
  cuts = without c.cuts (risen c.made);
  made = risen c.made;
  down = true;
  hint = unwrap_or (pick_at c.cuts (risen c.made)) c.hint;
  faults = risen c.faults;
}

-- a read failed
abbrev pub after_failed_read : CallCounts → CallCounts
after_failed_read c = record c { faults = risen c.faults }

-- a restart with this pick
abbrev pub after_restart : ℕ → CallCounts → CallCounts
after_restart pick c = record c { down = false; picks = pick ∷ c.picks }

-- its falls are the cuts ahead
abbrev pub fate_of : CallCounts → Fate
fate_of c = record { down = c.down; falls = length c.cuts; origin = c.origin; picks = c.picks }
