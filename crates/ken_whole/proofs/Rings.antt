-- The ends of rings, and the queues between them.
use Rattle.std.proofs.Common.{◌≡◌, List, ◌++◌, sym, ap, subst, ◌∙◌, append_assoc}
use Rattle.std.proofs.lemmas.List.{append_cancel_left}
use Rattle.ken_links.specs.declared.push_end.PushEnd.{PushEnd}
use Rattle.ken_links.specs.declared.pop_end.PopEnd.{PopEnd}
use Rattle.ken_links.specs.Rings.{IsRing, SamePushEnd, SamePopEnd}
use Rattle.ken_work.specs.Meeting.{IsEmptied}

-- a ring stays one where an end of it stays the same
pub ring-popped : {T : Type 0} (push : PushEnd T) (old new : PopEnd T) → IsRing push old → SamePopEnd old new → IsRing push new
ring-popped push old new is same = (same.0.0 ∙ is.0, same.0.1 ∙ is.1, same.0.2 ∙ is.2, same.0.3 ∙ is.3)

pub ring-pushed : {T : Type 0} (old new : PushEnd T) (pop : PopEnd T) → IsRing old pop → SamePushEnd old new → IsRing new pop
ring-pushed old new pop is same = (is.0 ∙ sym same.0.0, is.1 ∙ sym same.0.1, is.2 ∙ sym same.0.2, is.3 ∙ sym same.0.3)

-- a ring that holds nothing
abbrev pub IsBare : {T : Type 0} → PushEnd T → PopEnd T → Type 0
IsBare push pop = IsRing push pop × IsEmptied push pop

pub bare_at : {T : Type 0} (push push2 : PushEnd T) (pop pop2 : PopEnd T) → push2 ≡ push → pop2 ≡ pop → IsBare push pop → IsBare push2 pop2
bare_at push push2 pop pop2 e f is = subst (λ x. IsBare x pop2) (sym e) (subst (IsBare push) (sym f) is)

-- what is popped next was at the front of the queue
pub queue-moved : {A : Type 0} (all old new queue moved rest : List A) → all ≡ old ++ queue → new ≡ old ++ moved → all ≡ new ++ rest → queue ≡ moved ++ rest
queue-moved {A} all old new queue moved rest was now is =
    append_cancel_left old queue (moved ++ rest) (sym was ∙ is ∙ ap (λ (xs : List A). xs ++ rest) now ∙ append_assoc old moved rest)
