-- A run of writes, of which the last one tells.
use Rattle.std.proofs.Common.{◌≡◌, ℕ, ◌+◌, ◌≤◌, List, [], ◌∷◌, ◌++◌, length, refl, sym, ap, subst, ◌∙◌, arith, length-append, inl, inr, ◌⊎◌, ⊎_elim, Result, Ok, Err}
use Rattle.std.specs.Prelude.{OnOk}
use Rattle.std.proofs.lemmas.List.{append-nil}
use Rattle.ken_disk.specs.declared.faults.DiskFault.{DiskFault}
use Rattle.ken_disk.specs.declared.faults.DiskFault.TheVariants.{Failed, Memory}
use Rattle.ken_disk.specs.Bytes.{overwrite}
use Rattle.ken_disk.specs.Story.{Story, IsImage, IsAtRest, Leaves}
use Rattle.ken_disk.specs.Moments.{Through}
use Rattle.ken_disk.specs.Steps.{written}
use Rattle.ken_disk.specs.Through.{Torn}
use Rattle.ken_disk.specs.Writes.{after_writes, Made}
use Rattle.ken_disk.proofs.Images.{at_rest_leaves, written_leaves}
use Rattle.ken_log.proofs.Overwritten.{Torn-overwrite}
use Rattle.ken_disk.proofs.Made.{over_all, over_all-append, seen-after_writes, syncs-after_writes, rests-after_writes, Tears, tears_on, through_all, through_some, through_made}

-- a front of all of them is one of those before the last, or these
front_of : (writes : List (ℕ × List ℕ)) (last : ℕ × List ℕ) (done : List (ℕ × List ℕ)) (next : ℕ × List ℕ) (left : List (ℕ × List ℕ)) → writes ++ last ∷ [] ≡ done ++ next ∷ left
    → ((done ≡ writes) × (next ≡ last)) ⊎ ((more : List (ℕ × List ℕ)) × (writes ≡ done ++ next ∷ more))
front_of [] last [] next left e = let same : last ≡ next = cc e in inl (refl, sym same)
front_of [] last (d ∷ done) next left e = absurd (omega (arith, ap length e, length-append done (next ∷ left)))
front_of (w ∷ ws) last [] next left e = let same : w ≡ next = cc e in inr (ws, ap (λ (x : ℕ × List ℕ). x ∷ ws) same)
front_of (w ∷ ws) last (d ∷ done) next left e =
    let first : w ≡ d = cc e in
    let others : ws ++ last ∷ [] ≡ done ++ next ∷ left = cc e in
    ⊎_elim
    (λ s. let both : d ∷ done ≡ w ∷ ws = cc (first, s.0) in inl (both, s.1))
    (λ m. let both : w ∷ ws ≡ d ∷ (done ++ next ∷ m.0) = cc (first, m.1) in inr (m.0, both))
    (front_of ws last done next left others)

-- each of them but the last may tear only into what has P, and the last one then into what has L; all of them leave what has A
module _ (P L A R : List ℕ → Type 0) (early : (image : List ℕ) → P image → R image) (late : (image : List ℕ) → L image → R image) (writes : List (ℕ × List ℕ)) (last : ℕ × List ℕ) (h : Story) (rests : IsAtRest h.now) (quiet : Tears P writes h.now.seen) (inside : last.0 ≤ length (over_all writes h.now.seen))
    (torn : (image : List ℕ) → Torn last.0 (length last.1) (over_all writes h.now.seen) image → L image) (holds : A (overwrite last.0 last.1 (over_all writes h.now.seen))) where
  abbrev before : List ℕ
  before = over_all writes h.now.seen

  last_image : (image : List ℕ) → IsImage (written last.0 last.1 (after_writes writes h).now) image → L image
  last_image image is =
      let seen : (after_writes writes h).now.seen ≡ before = seen-after_writes writes h in
      let within : last.0 ≤ length (after_writes writes h).now.seen = omega (arith, ap length seen, inside) in
      let t = written_leaves last.0 last.1 (after_writes writes h).now within (rests-after_writes writes h rests) image is in
      torn image (subst (λ (l : List ℕ). Torn last.0 (length last.1) l image) seen t)

  all_over : R (overwrite last.0 last.1 before)
  all_over =
      late (overwrite last.0 last.1 before) (torn (overwrite last.0 last.1 before) (Torn-overwrite last.0 last.1 before inside))

  loud : Tears R (writes ++ last ∷ []) h.now.seen
  loud = tears_on P R early writes (last ∷ []) h.now.seen quiet (inside, λ image t. late image (torn image t), all_over)

  pub changed_any : {T : Type 0} (r : Result T DiskFault) (new : Story) → Made r (writes ++ last ∷ []) h new → Through R h new
  changed_any r new made = through_made R r (writes ++ last ∷ []) h new rests loud made

  pub changed_ok : {T : Type 0} (r : Result T DiskFault) (new : Story) → Made r (writes ++ last ∷ []) h new → OnOk r (Leaves A new.now)
  changed_ok (Ok x) new made =
      let seen : new.now.seen ≡ overwrite last.0 last.1 before = ap (λ (s : Story). s.now.seen) made ∙ seen-after_writes (writes ++ last ∷ []) h ∙ over_all-append writes (last ∷ []) h.now.seen in
      let rest : IsAtRest new.now = subst (λ (s : Story). IsAtRest s.now) (sym made) (rests-after_writes (writes ++ last ∷ []) h rests) in
      at_rest_leaves A new.now rest (subst A (sym seen) holds)
  changed_ok (Err e) new made = tt

  quiet_all : Through P h (after_writes writes h)
  quiet_all =
      through_all P writes [] h rests (subst (λ (l : List (ℕ × List ℕ)). Tears P l h.now.seen) (sym (append-nil writes)) quiet)

  pub changed_memory : (T : Type 0) (new : Story) → Made {T = T} (Err Memory) (writes ++ last ∷ []) h new → Through P h new
  changed_memory T new made =
      let front = made.0 in
      subst (Through P h) (sym made.1) (⊎_elim
      (λ e. subst (λ (l : List (ℕ × List ℕ)). Through P h (after_writes l h)) (sym e.0) quiet_all)
      (λ m. through_all P front.done (front.next ∷ m.0) h rests (subst (λ (l : List (ℕ × List ℕ)). Tears P l h.now.seen) m.1 quiet))
      (front_of writes last front.done front.next front.left front.parts))

  pub changed_failed : (T : Type 0) (new : Story) → Made {T = T} (Err Failed) (writes ++ last ∷ []) h new → Through P h new ⊎ (Leaves L new.now × (new.now.syncs + 1 ≡ h.now.syncs + (length writes + 1)))
  changed_failed T new made =
      let front = made.0 in
      let is = ap (λ (s : Story). s.now.syncs) made.1 in
      ⊎_elim
      (λ e. let count = syncs-after_writes front.done h in
      let long = ap length e.0 in
      let state : new.now ≡ written last.0 last.1 (after_writes writes h).now = ap (λ (s : Story). s.now) made.1 ∙ ap (λ (w : ℕ × List ℕ). written w.0 w.1 (after_writes front.done h).now) e.1 ∙ ap (λ (l : List (ℕ × List ℕ)). written last.0 last.1 (after_writes l h).now) e.0 in
      inr (subst (Leaves L) (sym state) last_image, omega (arith, is, count, long)))
      (λ m. inl (subst (Through P h) (sym made.1) (through_some P front.done front.next m.0 h rests (subst (λ (l : List (ℕ × List ℕ)). Tears P l h.now.seen) m.1 quiet))))
      (front_of writes last front.done front.next front.left front.parts)
