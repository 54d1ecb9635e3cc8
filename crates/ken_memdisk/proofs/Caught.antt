-- Bytes that catch up with others, range by range.
use Rattle.std.proofs.Common.{◌≡◌, ⊎_elim, ℕ, ◌+◌, ◌-◌, ◌≤◌, List, [], ◌∷◌, ◌++◌, length, get_or, take, drop, refl, sym, ap, ◌∙◌, arith, length-append, length-take, length-drop}
use Rattle.std.proofs.lemmas.List.{get_or_append_left, get_or-append_right, get_or-take, get_or-drop, ext_get_or}
use Rattle.std.proofs.lemmas.Bool.{cases_lt}
use Rattle.ken_disk.specs.Bytes.{overwrite}
use Rattle.ken_disk.proofs.Overwrites.{length-overwrite, get_or-overwrite_before, get_or-overwrite_in, get_or-overwrite_behind}
use Rattle.ken_memdisk.specs.Platters.{Differ}

-- what lies past the end is copied
pub differ_extended : (ranges : List (ℕ × ℕ)) (seen synced : List ℕ) → Differ ranges seen synced → Differ ranges seen (synced ++ drop (length synced) seen)
differ_extended ranges seen synced differ = record {
  no_longer = omega (arith, differ.no_longer, length-append synced (drop (length synced) seen), length-drop (length synced) seen);
  within = differ.within;
  same = λ place within outside. ⊎_elim
      (λ before. differ.same place before outside ∙ sym (get_or_append_left synced (drop (length synced) seen) 0 place before))
      (λ behind. let there : length synced + (place - length synced) ≡ place = omega arith in
      sym (get_or-append_right synced (drop (length synced) seen) (length synced) place 0 refl behind ∙ get_or-drop (length synced) seen (place - length synced) 0 ∙ ap (λ (i : ℕ). get_or seen i 0) there))
      (cases_lt place (length synced));
}

-- one range is copied
pub differ_copied : (range : ℕ × ℕ) (ranges : List (ℕ × ℕ)) (seen synced : List ℕ) → length synced ≡ length seen → Differ (range ∷ ranges) seen synced → Differ ranges seen (overwrite range.0 (take range.1 (drop range.0 seen)) synced)
differ_copied range ranges seen synced as_long differ =
    let part = take range.1 (drop range.0 seen) in
    let size : length part ≡ range.1 = omega (arith, differ.within, length-take range.1 (drop range.0 seen), length-drop range.0 seen) in
    let inside : range.0 ≤ length synced = omega (arith, differ.within) in
    let long = length-overwrite range.0 part synced inside in
    record {
      no_longer = omega (arith, differ.within);
      within = omega (arith, differ.within);
      same = λ place within outside. ⊎_elim
          (λ before. differ.same place (omega arith) (λ among. ⊎_elim (λ here. absurd (let never : ⊥ = omega (arith, here.0) in never)) outside among) ∙ sym (get_or-overwrite_before range.0 part synced inside place before))
          (λ from. ⊎_elim
          (λ to. let there : range.0 + (place - range.0) ≡ place = omega arith in
          sym (get_or-overwrite_in range.0 part synced inside place from (omega arith) ∙ get_or-take range.1 (drop range.0 seen) (place - range.0) 0 (omega arith) ∙ get_or-drop range.0 seen (place - range.0) 0 ∙ ap (λ (i : ℕ). get_or seen i 0) there))
          (λ behind. differ.same place (omega (arith, differ.within)) (λ among. ⊎_elim (λ here. absurd (let never : ⊥ = omega (arith, here.1) in never)) outside among) ∙ sym (get_or-overwrite_behind range.0 part synced inside place (omega arith)))
          (cases_lt place (range.0 + range.1)))
          (cases_lt place range.0);
    }

-- none is left
pub differ_nowhere : (seen synced : List ℕ) → length synced ≡ length seen → Differ [] seen synced → synced ≡ seen
differ_nowhere seen synced as_long differ = ext_get_or 0 synced seen as_long (λ place within. sym (differ.same place within (λ none. none)))
