-- What was told, item by item.
use Rattle.std.proofs.Common.{◌≡◌, List, [], ◌∷◌, ◌++◌, sym, ap, ◌∙◌, append_assoc}
use Rattle.ken_work.specs.Meeting.{WasTold}
use Rattle.ken_work.proofs.TakenNews.{latest_push}

pub told_more : {A B : Type 0} (says : A → B) (popped popped2 popped3 : List A) (old mid new : B) (x : A) → WasTold says popped popped2 old mid → popped3 ≡ popped2 ++ x ∷ [] → new ≡ says x → WasTold says popped popped3 old new
told_more {A} says popped popped2 popped3 old mid new x so_far pop said = record {
  items = so_far.items ++ x ∷ [];
  popped_are = pop ∙ ap (λ (xs : List A). xs ++ x ∷ []) so_far.popped_are ∙ append_assoc popped so_far.items (x ∷ []);
  known = said ∙ sym (latest_push says old so_far.items x);
}
