use Rattle.std.proofs.Common.{◌≡◌, ℕ, List, [], ◌∷◌, ◌++◌, ap, ◌∙◌, append_assoc}
use Rattle.ken_leases.proofs.blocks.lease_bytes.Goals as goal

joined : (name none one two three four from until first last : List ℕ) (holder : ℕ) → none ≡ [] → one ≡ none ++ name → two ≡ one ++ 32 ∷ holder ∷ [] → three ≡ two ++ first → four ≡ three ++ last → first ≡ from → last ≡ until → four ≡ name ++ 32 ∷ holder ∷ (from ++ until)
joined name none one two three four from until first last holder e0 e1 e2 e3 e4 begins ends =
    let front : two ≡ name ++ 32 ∷ holder ∷ [] = e2 ∙ ap (λ (x : List ℕ). x ++ 32 ∷ holder ∷ []) (e1 ∙ ap (λ (x : List ℕ). x ++ name) e0) in
    let whole : three ≡ (name ++ 32 ∷ holder ∷ []) ++ from = e3 ∙ ap (λ (x : List ℕ). x ++ first) front ∙ ap (λ (x : List ℕ). (name ++ 32 ∷ holder ∷ []) ++ x) begins in
    e4 ∙ ap (λ (x : List ℕ). x ++ last) whole ∙ ap (λ (x : List ℕ). ((name ++ 32 ∷ holder ∷ []) ++ from) ++ x) ends ∙ append_assoc (name ++ 32 ∷ holder ∷ []) from until ∙ append_assoc name (32 ∷ holder ∷ []) (from ++ until)

pub returns : goal.returns
returns c = joined c.args.name.now c.new-bytes.result.items c.append.new.text.items c.append-2.new.text.items c.append-3.new.text.items c.append-4.new.text.items _ _ c.write_u64.new.buf c.write_u64-2.new.buf c.args.lease.holder c.new-bytes.ensures c.append.ensures c.append-2.ensures c.append-3.ensures c.append-4.ensures c.write_u64.ensures c.write_u64-2.ensures
