-- The image of a pick is one of those that a crash may leave.
use Rattle.std.proofs.Common.{◌≡◌, ℕ, zero, suc, ◌+◌, ◌-◌, ◌%◌, ◌<◌, ◌≤◌, List, [], ◌∷◌, ◌++◌, length, get_or, refl, sym, ap, subst, ◌∙◌, ⊎_elim, Bool, false, ◌==◌, cond, arith, add-one}
use Rattle.std.proofs.lemmas.List.{get_or_append_left, get_or_push, length_push}
use Rattle.std.proofs.lemmas.Bool.{cond_both, cases_order, false_from_ne_true}
use Rattle.ken_num.specs.Generator.{next_state, answer_of}
use Rattle.ken_disk.specs.Bytes.{IsIn}
use Rattle.ken_disk.specs.Story.{DiskState, IsImage}
use Rattle.ken_disk.proofs.Images.{image-synced}
use Rattle.ken_memdisk.specs.Picks.{is_written, byte_of, draw_place, draw_places, torn_length, torn, picked}
use Rattle.ken_memdisk.proofs.Ranges.{Decides-is_written}

module _ (seen synced : List ℕ) (ranges : List (ℕ × ℕ)) where
  -- one place more, as a loop comes to it
  pub draw_places-more : (x count : ℕ) → draw_places seen synced ranges x (count + 1) ≡ draw_place seen synced ranges count (draw_places seen synced ranges x count)
  draw_places-more x count = rw add-one refl

  pub length-draw_places : (x count : ℕ) → length (draw_places seen synced ranges x count).bytes ≡ count
  length-draw_places x zero = refl
  length-draw_places x (suc count) =
      let before = draw_places seen synced ranges x count in
      omega (arith, length_push before.bytes (byte_of (is_written ranges count) (get_or synced count 0) (get_or seen count 0) before.generator), length-draw_places x count)

  -- a place that is in no range keeps the synced byte
  pub get_or-draw_places : (x count place : ℕ) → place < count → (IsIn place ranges → ⊥) → get_or (draw_places seen synced ranges x count).bytes place 0 ≡ get_or synced place 0
  get_or-draw_places x zero place within outside = absurd (omega arith)
  get_or-draw_places x (suc count) place within outside =
      let before = draw_places seen synced ranges x count in
      let byte = byte_of (is_written ranges count) (get_or synced count 0) (get_or seen count 0) before.generator in
      let long = length-draw_places x count in
      ⊎_elim
      (λ same. let none : is_written ranges count ≡ false = false_from_ne_true (is_written ranges count) (λ is. outside (subst (λ (i : ℕ). IsIn i ranges) (sym same) ((Decides-is_written count ranges).0 is))) in
      ap (λ (i : ℕ). get_or (before.bytes ++ byte ∷ []) i 0) same
      ∙ get_or_push before.bytes byte 0 count long
      ∙ ap (λ (b : Bool). byte_of b (get_or synced count 0) (get_or seen count 0) before.generator) none
      ∙ ap (λ (i : ℕ). get_or synced i 0) (sym same))
      (λ apart. ⊎_elim
      (λ less. get_or_append_left before.bytes (byte ∷ []) 0 place (omega arith) ∙ get_or-draw_places x count place less outside)
      (λ more. absurd (let never : ⊥ = omega arith in never))
      apart)
      (cases_order place count)

-- the first answer gives a length between the two
pub torn_length-between : (seen synced : List ℕ) (ranges : List (ℕ × ℕ)) (pick : ℕ) → length synced ≤ length seen → (length synced ≤ torn_length seen synced ranges pick) × (torn_length seen synced ranges pick ≤ length seen)
torn_length-between seen synced ranges pick within =
    between (length synced) (length seen) (answer_of (next_state pick)) within
  where
    between : (a b word : ℕ) → a ≤ b → (a ≤ a + word % (b - a + 1)) × (a + word % (b - a + 1) ≤ b)
    between a b word up = (omega arith, omega arith)

pub image-torn : (pick : ℕ) (s : DiskState) → IsImage s s.seen → IsImage s (torn s.seen s.synced s.pending pick)
image-torn pick s sound =
    let long = length-draw_places s.seen s.synced s.pending (next_state pick) (torn_length s.seen s.synced s.pending pick) in
    let between = torn_length-between s.seen s.synced s.pending pick sound.no_shorter in
    record {
      no_shorter = omega (arith, long, between.0);
      no_longer = omega (arith, long, between.1, sound.no_longer);
      same = λ place within outside. get_or-draw_places s.seen s.synced s.pending (next_state pick) (torn_length s.seen s.synced s.pending pick) place (omega (arith, between.0)) outside;
    }

pub image-picked : (pick : ℕ) (s : DiskState) → IsImage s s.seen → IsImage s (picked pick s)
image-picked pick s sound =
    cond_both (pick == 0) s.seen (cond (pick == 1) s.synced (torn s.seen s.synced s.pending pick)) (IsImage s) (λ _. sound)
    (λ _. cond_both (pick == 1) s.synced (torn s.seen s.synced s.pending pick) (IsImage s) (λ _. image-synced s) (λ _. image-torn pick s sound))
