-- Bytes written over others, place by place.
use Rattle.std.proofs.Common.{◌≡◌, ℕ, ◌+◌, ◌-◌, ◌<◌, ◌≤◌, max, List, ◌++◌, length, get_or, take, drop, refl, ap, ◌∙◌, arith, length-append, length-take, length-drop}
use Rattle.std.proofs.lemmas.List.{get_or-append_right, get_or_append_left, get_or-take, get_or-drop}
use Rattle.ken_disk.specs.Bytes.{overwrite}

module _ (at : ℕ) (bytes old : List ℕ) (inside : at ≤ length old) where
  front : length (take at old) ≡ at
  front = omega (arith, length-take at old)

  pub length-overwrite : length (overwrite at bytes old) ≡ max (length old) (at + length bytes)
  length-overwrite =
      omega (arith, front, length-append (take at old) (bytes ++ drop (at + length bytes) old), length-append bytes (drop (at + length bytes) old), length-drop (at + length bytes) old)

  -- the places before the range
  pub get_or-overwrite_before : (place : ℕ) → place < at → get_or (overwrite at bytes old) place 0 ≡ get_or old place 0
  get_or-overwrite_before place before =
      get_or_append_left (take at old) (bytes ++ drop (at + length bytes) old) 0 place (omega (arith, front)) ∙ get_or-take at old place 0 before

  -- the places in it
  pub get_or-overwrite_in : (place : ℕ) → at ≤ place → place < at + length bytes → get_or (overwrite at bytes old) place 0 ≡ get_or bytes (place - at) 0
  get_or-overwrite_in place from to =
      get_or-append_right (take at old) (bytes ++ drop (at + length bytes) old) at place 0 front from
      ∙ get_or_append_left bytes (drop (at + length bytes) old) 0 (place - at) (omega arith)

  -- the places behind it
  pub get_or-overwrite_behind : (place : ℕ) → at + length bytes ≤ place → get_or (overwrite at bytes old) place 0 ≡ get_or old place 0
  get_or-overwrite_behind place behind =
      let same : at + length bytes + (place - at - length bytes) ≡ place = omega arith in
      get_or-append_right (take at old) (bytes ++ drop (at + length bytes) old) at place 0 front (omega arith)
      ∙ get_or-append_right bytes (drop (at + length bytes) old) (length bytes) (place - at) 0 refl (omega arith)
      ∙ get_or-drop (at + length bytes) old (place - at - length bytes) 0
      ∙ ap (λ (i : ℕ). get_or old i 0) same
