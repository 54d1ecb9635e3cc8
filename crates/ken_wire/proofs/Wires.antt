-- The ends of one wire.
use Rattle.std.proofs.Common.{◌≡◌, ℕ, ◌+◌, List, [], ◌∷◌, ◌++◌, length, map, sym, ap, subst, ◌∙◌, arith, add-zero, append_assoc}
use Rattle.std.proofs.lemmas.List.{length-append}
use Rattle.ken_wire.specs.declared.view.Sent.{Sent}
use Rattle.ken_wire.specs.declared.send_end.SendEnd.{SendEnd}
use Rattle.ken_wire.specs.declared.take_end.TakeEnd.{TakeEnd}
use Rattle.ken_wire.specs.Views.{nothing}
use Rattle.ken_wire.specs.Ends.{from_of, sent_of, refused_by, joined_of, SameTaker, IsEndOf, AreEnds, AreNew}

-- they are so of the same taking end
pub ends_same : (n : ℕ) (a b : TakeEnd) (es : List SendEnd) → SameTaker a b → AreEnds n a es → AreEnds n b es
ends_same n a b [] same are = tt
ends_same n a b (e ∷ es) same are = (are.0, (are.1.0 ∙ sym same.0, are.1.1 ∙ sym same.1), ends_same (n + 1) a b es same are.2)

-- one more end, of the next node
pub ends_added : (n : ℕ) (take : TakeEnd) (es : List SendEnd) (e : SendEnd) → AreEnds n take es → from_of e ≡ n + length es → IsEndOf take e → AreEnds n take (es ++ e ∷ [])
ends_added n take [] e are from is = (from ∙ add-zero n, is, tt)
ends_added n take (x ∷ xs) e are from is = (are.0, are.1, ends_added (n + 1) take xs e are.2 (omega (arith, from)) is)

pub new_added : (es : List SendEnd) (e : SendEnd) → AreNew es → sent_of e ≡ nothing → refused_by e ≡ 0 → AreNew (es ++ e ∷ [])
new_added [] e are new none = (new, none, tt)
new_added (x ∷ xs) e are new none = (are.0, are.1, new_added xs e are.2 new none)

-- the first of them comes back
pub ends_left : (a b : TakeEnd) (e : SendEnd) (all es : List SendEnd) → all ≡ e ∷ es → AreEnds (length (joined_of a)) a all → SameTaker a b → joined_of b ≡ joined_of a ++ sent_of e ∷ [] → AreEnds (length (joined_of b)) b es
ends_left a b e all es is are same joined =
    let split = subst (AreEnds (length (joined_of a)) a) is are in
    let one : length (joined_of a) + 1 ≡ length (joined_of b) = omega (arith, length-append (joined_of a) (sent_of e ∷ []), ap (λ (l : List Sent). length l) joined) in
    subst (λ (n : ℕ). AreEnds n b es) one (ends_same (length (joined_of a) + 1) a b es same split.2)

pub sents_left : (a b : TakeEnd) (e : SendEnd) (all es : List SendEnd) → all ≡ e ∷ es → joined_of b ≡ joined_of a ++ sent_of e ∷ [] → joined_of b ++ map sent_of es ≡ joined_of a ++ map sent_of all
sents_left a b e all es is joined = rw (joined, is) (append_assoc (joined_of a) (sent_of e ∷ []) (map sent_of es))
