-- Words of emission lines and of restart lines.
use Rattle.std.proofs.Common.{◌≡◌, ℕ, List, [], ◌∷◌, ◌++◌, Some, codes, decimal, slice_get, ap, ◌∙◌, subst, arith}
use Rattle.ken_model.specs.declared.reports.Emission.{Emission}
use Rattle.ken_model.specs.declared.reports.RestartLine.{RestartLine}
use Rattle.ken_model.specs.Report.{IsOneLine, line, emit_words, restart_words}
use Rattle.ken_model.specs.Spelling.{IsPrintableEmission, IsWord, parts_at}
use Rattle.ken_model.proofs.Parts.{parts_at-join_with_byte, parts_at-join_before}
use Rattle.ken_model.proofs.WordsFree.{each_free, ink_emit_front, ink_restart_words}
use Rattle.ken_check.proofs.More.{all_rest}
use Rattle.ken_check.proofs.Naming.{text_of_line}

module _ (text : List ℕ) (e : Emission) (p : IsPrintableEmission e) (is : text ++ 10 ∷ [] ≡ line (emit_words e)) where
  -- the words of an emission line, with those of its text
  emission_parts : parts_at 32 text ≡ codes "emit" ∷ decimal e.node ∷ decimal e.out.number ∷ parts_at 32 e.out.text
  emission_parts =
      let front = codes "emit" ∷ decimal e.node ∷ decimal e.out.number ∷ [] in
      ap (parts_at 32) (text_of_line text (emit_words e) is) ∙ parts_at-join_before 32 front e.out.text (each_free 32 (omega arith) front (ink_emit_front e p))

  pub emission_node : slice_get (parts_at 32 text) 1 ≡ Some (decimal e.node)
  emission_node = ap (λ ps. slice_get ps 1) emission_parts

  pub emission_number : slice_get (parts_at 32 text) 2 ≡ Some (decimal e.out.number)
  emission_number = ap (λ ps. slice_get ps 2) emission_parts

-- an emission's text is part of its line
pub emission_text : (text : List ℕ) (e : Emission) → IsOneLine text → text ++ 10 ∷ [] ≡ line (emit_words e) → IsOneLine e.out.text
emission_text text e one is =
    let P : ℕ → Type 0 = λ b. (b ≡ 10) → ⊥ in
    let numbered = decimal e.out.number ++ 32 ∷ e.out.text in
    let named = decimal e.node ++ 32 ∷ numbered in
    let whole = subst IsOneLine (text_of_line text (emit_words e) is) one in
    let after_emit = all_rest P (codes "emit") (32 ∷ named) whole in
    let after_node = all_rest P (decimal e.node) (32 ∷ numbered) after_emit.1 in
    let after_number = all_rest P (decimal e.out.number) (32 ∷ e.out.text) after_node.1 in
    after_number.1

module _ (text : List ℕ) (r : RestartLine) (p : IsWord r.node × IsWord r.turns) (is : text ++ 10 ∷ [] ≡ line (restart_words r)) where
  -- the words of a restart line
  restart_parts : parts_at 32 text ≡ restart_words r
  restart_parts =
      let rest = decimal r.node ∷ codes "at" ∷ decimal r.turns ∷ [] in
      let free = each_free 32 (omega arith) (restart_words r) (ink_restart_words r p) in
      ap (parts_at 32) (text_of_line text (restart_words r) is) ∙ parts_at-join_with_byte 32 (codes "restart") rest free

  pub restart_node : slice_get (parts_at 32 text) 1 ≡ Some (decimal r.node)
  restart_node = ap (λ ps. slice_get ps 1) restart_parts

  pub restart_turns : slice_get (parts_at 32 text) 3 ≡ Some (decimal r.turns)
  restart_turns = ap (λ ps. slice_get ps 3) restart_parts
