use Rattle.std.proofs.Common.{◌≡◌, ℕ, List, codes, Some, true, false, sym, ap, ◌∙◌}
use Rattle.std.proofs.lemmas.Slice.Eq.{bytes_eq-Decides}
use Rattle.ken_model.specs.Report.{sender_word}
use Rattle.ken_check.proofs.Wording.{same_word, sender_of_number, sender_of_out}
use Rattle.ken_check.proofs.words.sender_at.Goals as goal

pub returns-then-eq : goal.returns-then-eq
returns-then-eq c = λ n small at.
    let is_out = (bytes_eq-Decides c.in_ok-word.field-0.now c.as_slice.result.now).0 (sym c.eq.ensures ∙ c.if-eq.true) ∙ c.as_slice.ensures in
    ap (λ (k : ℕ). Some k) (sym (sender_of_out n small (same_word _ _ _ c.in_ok-word.ensures at ∙ is_out)))

pub returns-else-eq : goal.returns-else-eq
returns-else-eq c = λ n small at.
    let is = same_word _ _ _ c.in_ok-word.ensures at in
    let other : sender_word n ≡ codes "out" → ⊥ = λ out. (let differ : true ≡ false = sym ((bytes_eq-Decides c.in_ok-word.field-0.now c.as_slice.result.now).1 (sym is ∙ out ∙ sym c.as_slice.ensures)) ∙ sym c.eq.ensures ∙ c.if-eq.false in absurd cc) in
    c.node_at.ensures n small (at ∙ ap (λ (w : List ℕ). Some w) (sender_of_number n other))
