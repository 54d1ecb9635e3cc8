-- A page written over the bytes of an image.
use Rattle.std.proofs.Common.{◌≡◌, ℕ, ◌+◌, ◌<◌, ◌≤◌, List, length, get_or, take, drop, ap, sym, ◌∙◌, arith, length-take, length-drop, ⊎_elim}
use Rattle.std.proofs.lemmas.List.{get_or-take, get_or-drop, ext_get_or, take_at, drop_at, length-take-le}
use Rattle.std.proofs.lemmas.Bool.{cases_lt}
use Rattle.ken_disk.specs.Bytes.{overwrite}
use Rattle.ken_disk.proofs.Overwrites.{length-overwrite, get_or-overwrite_before, get_or-overwrite_behind}
use Rattle.ken_image.specs.Pages.{place_of, page_in, ChangesPage}

module _ (page : ℕ) (bytes old : List ℕ) (long : length bytes ≡ 256) (inside : place_of page + 256 ≤ length old) where
  new : List ℕ
  new = overwrite (place_of page) bytes old

  same_long : length new ≡ length old
  unfolding new
  same_long = omega (arith, long, length-overwrite (place_of page) bytes old (omega arith))

  page_in-here : page_in page new ≡ bytes
  unfolding new
  page_in-here =
      ap (take 256) (drop_at (take (place_of page) old) _ (place_of page) (length-take-le (place_of page) old (omega arith)))
      ∙ take_at bytes (drop (place_of page + length bytes) old) 256 long

  same_place : (place : ℕ) → (place_of page ≤ place → place < place_of page + 256 → ⊥) → get_or new place 0 ≡ get_or old place 0
  unfolding new
  same_place place outside =
      ⊎_elim
      (λ before. get_or-overwrite_before (place_of page) bytes old (omega arith) place before)
      (λ from. ⊎_elim (λ to. absurd (outside from to)) (λ behind. get_or-overwrite_behind (place_of page) bytes old (omega arith) place (omega (arith, long))) (cases_lt place (place_of page + 256)))
      (cases_lt place (place_of page))

  page_in-elsewhere : (other : ℕ) → (other ≡ page → ⊥) → page_in other new ≡ page_in other old
  page_in-elsewhere other not =
      ext_get_or 0 (page_in other new) (page_in other old)
      (omega (arith, same_long, length-take 256 (drop (place_of other) new), length-take 256 (drop (place_of other) old), length-drop (place_of other) new, length-drop (place_of other) old))
      (λ i lt.
      let near : i < 256 = omega (arith, length-take 256 (drop (place_of other) new)) in
      get_or-take 256 (drop (place_of other) new) i 0 near
      ∙ get_or-drop (place_of other) new i 0
      ∙ same_place (place_of other + i) (λ from to. not (omega (arith, near, from, to)))
      ∙ sym (get_or-drop (place_of other) old i 0)
      ∙ sym (get_or-take 256 (drop (place_of other) old) i 0 near))

  pub changes_page : ChangesPage page bytes old (overwrite (place_of page) bytes old)
  unfolding new
  changes_page = record { here = page_in-here; elsewhere = page_in-elsewhere; size = same_long }
