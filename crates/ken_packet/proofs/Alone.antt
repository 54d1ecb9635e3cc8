-- What a form reads, where nothing follows it, and what is told by the front of bytes.
use Rattle.std.proofs.Common.{◌≡◌, ℕ, cond, ◌==◌, List, [], ◌++◌, length, Option, Some, None, refl, sym, ap, subst, ◌∙◌}
use Rattle.std.proofs.lemmas.Bool.{eqb-true}
use Rattle.std.proofs.lemmas.List.{append-nil, nil_from_length}
use Rattle.ken_record.proofs.Forms.{IsBytes, IsForm, bind_some, if_some, some_is, pair_is}
use Rattle.ken_packet.specs.Reading.{alone}

module _ {A : Type 0} {spell : A → List ℕ} {fits : A → Type 0} {reads : List ℕ → Option (A × List ℕ)} (form : IsForm spell fits reads) where
  pub alone_takes : (bytes : List ℕ) (x : A) → IsBytes bytes → alone (reads bytes) ≡ Some x → fits x × (bytes ≡ spell x)
  alone_takes bytes x are e =
      let a = bind_some (reads bytes) (λ x. cond (length x.1 == 0) (Some x.0) None) x e in
      let t = if_some (length a.0.1 == 0) (Some a.0.0) x a.2 in
      let same : a.0.0 ≡ x = some_is a.0.0 x t.1 in
      let p = form.takes bytes a.0.0 a.0.1 are a.1 in
      let none : a.0.1 ≡ [] = nil_from_length a.0.1 (eqb-true _ _ t.0) in
      (subst fits same p.fit, p.parts ∙ ap (λ (t : List ℕ). spell a.0.0 ++ t) none ∙ append-nil (spell a.0.0) ∙ ap spell same)

  pub alone_again : (x : A) → fits x → alone (reads (spell x)) ≡ Some x
  alone_again x fit =
      let whole : reads (spell x) ≡ Some (x, []) = ap reads (sym (append-nil (spell x))) ∙ form.again x [] fit in
      rw whole refl

  -- two spellings at the front of the same bytes
  pub one_front : (a b : A) (x y : List ℕ) → fits a → fits b → spell a ++ x ≡ spell b ++ y → (a ≡ b) × (x ≡ y)
  one_front a b x y fa fb same = pair_is a x b y (sym (form.again a x fa) ∙ ap reads same ∙ form.again b y fb)
