-- Which of its possible images a disk holds after a restart.
use Rattle.std.specs.Prelude.{ℕ, zero, suc, ◌+◌, ◌-◌, ◌%◌, List, [], ◌∷◌, ◌++◌, length, get_or, Bool, ◌&&◌, ◌==◌, nat_le, nat_lt, if◌then◌else◌}
use Rattle.std.specs.List.{list_any}
use Rattle.ken_num.specs.Generator.{next_state, answer_of}
use Rattle.ken_disk.specs.Story.{DiskState}

-- a place is in a range, and in one of some ranges
abbrev pub is_within : ℕ → ℕ × ℕ → Bool
is_within place range = nat_le range.0 place && nat_lt place (range.0 + range.1)

abbrev pub is_written : List (ℕ × ℕ) → ℕ → Bool
is_written ranges place = list_any (is_within place) ranges

-- the first, the second or else the third of three
abbrev pub one_of : ℕ → ℕ → ℕ → ℕ → ℕ
one_of which first second third = if which == 0 then first else (if which == 1 then second else third)

-- the byte that a generator gives a written place: its next answer says whether it is the synced byte, the written one
-- or a third, which is the answer after that
abbrev pub drawn : ℕ → ℕ → ℕ → ℕ
drawn safe new x = one_of (answer_of (next_state x) % 3) safe new (answer_of (next_state (next_state x)) % 256)

-- the generator after that
abbrev pub after_draw : ℕ → ℕ
after_draw x = one_of (answer_of (next_state x) % 3) (next_state x) (next_state x) (next_state (next_state x))

-- a generator, and the bytes of the places so far
pub record Drawing : Type 0 where
  pub generator : ℕ
  pub bytes : List ℕ

-- the byte of a place and the generator after it: a place that is in no range keeps the synced byte
abbrev pub byte_of : Bool → ℕ → ℕ → ℕ → ℕ
byte_of is_in safe new x = if is_in then drawn safe new x else safe

abbrev pub generator_after : Bool → ℕ → ℕ
generator_after is_in x = if is_in then after_draw x else x

module _ (seen synced : List ℕ) (ranges : List (ℕ × ℕ)) where
  -- one place more
  abbrev pub draw_place : ℕ → Drawing → Drawing
  draw_place place d = record {
    generator = generator_after (is_written ranges place) d.generator;
    bytes = d.bytes ++ byte_of (is_written ranges place) (get_or synced place 0) (get_or seen place 0) d.generator ∷ [];
  }

  -- the first places, in rising order
  abbrev pub draw_places : ℕ → ℕ → Drawing
  draw_places x zero = record { generator = x; bytes = [] }
  draw_places x (suc count) = draw_place count (draw_places x count)

  -- how long a torn image is: the first answer says
  abbrev pub torn_length : ℕ → ℕ
  torn_length pick = length synced + answer_of (next_state pick) % (length seen - length synced + 1)

  -- a torn image, by the generator that the pick starts
  abbrev pub torn : ℕ → List ℕ
  torn pick = (draw_places (next_state pick) (torn_length pick)).bytes

  -- the image of a pick: of 0 the written bytes, of 1 the synced bytes, and else a torn image
  abbrev pub image_of : ℕ → List ℕ
  image_of pick = if pick == 0 then seen else (if pick == 1 then synced else torn pick)

-- the image of a pick, of a disk
abbrev pub picked : ℕ → DiskState → List ℕ
picked pick s = image_of s.seen s.synced s.pending pick
