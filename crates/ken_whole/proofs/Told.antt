-- What a worker was told, and what is on its way to it.
use Rattle.std.proofs.Common.{◌≡◌, List, [], ◌∷◌, ◌++◌, sym, ap, ◌∙◌, append_assoc, subst}
use Rattle.std.specs.List.{AllByRecursion}
use Rattle.ken_model.specs.History.{IsPrefixOf}
use Rattle.ken_work.specs.Meeting.{WasTold}
use Rattle.ken_whole.specs.Whole.{WereTold}
use Rattle.ken_work.specs.Workers.{latest}
use Rattle.ken_whole.proofs.Rings.{queue-moved}

pub all_by : {A : Type 0} (P Q : A → Type 0) → ((x : A) → P x → Q x) → (xs : List A) → AllByRecursion P xs → AllByRecursion Q xs
all_by P Q by [] all = tt
all_by P Q by (x ∷ xs) all = (by x all.0, all_by P Q by xs all.1)

all_last : {A : Type 0} (P : A → Type 0) (xs : List A) (x : A) → AllByRecursion P xs → P x → AllByRecursion P (xs ++ x ∷ [])
all_last P [] x all is = (is, tt)
all_last P (y ∷ xs) x all is = (all.0, all_last P xs x all.1 is)

-- other facts of the same
pub told-by : {A B : Type 0} (says : A → B) (P Q : B → Type 0) (pushed popped : List A) (known : B) → ((x : B) → P x → Q x) → WereTold says P pushed popped known → WereTold says Q pushed popped known
told-by {A} says P Q pushed popped known by were = record {
  queue = were.queue;
  ring = were.ring;
  holds = by known were.holds;
  each = all_by (λ (x : A). P (says x)) (λ (x : A). Q (says x)) (λ x is. by (says x) is) were.queue were.each;
}

-- one more is told
pub told-last : {A B : Type 0} (says : A → B) (P : B → Type 0) (pushed pushed2 popped : List A) (known : B) (x : A) → pushed2 ≡ pushed ++ x ∷ [] → WereTold says P pushed popped known → P (says x) → WereTold says P pushed2 popped known
told-last {A} says P pushed pushed2 popped known x now were is = record {
  queue = were.queue ++ x ∷ [];
  ring = now ∙ ap (λ (xs : List A). xs ++ x ∷ []) were.ring ∙ append_assoc popped were.queue (x ∷ []);
  holds = were.holds;
  each = all_last (λ (y : A). P (says y)) were.queue x were.each is;
}

-- what the last of what came says is known
all_latest : {A B : Type 0} (says : A → B) (P : B → Type 0) (known : B) (items rest : List A) → P known → AllByRecursion (λ (x : A). P (says x)) (items ++ rest)
    → P (latest says known items) × AllByRecursion (λ (x : A). P (says x)) rest
all_latest says P known [] rest is all = (is, all)
all_latest says P known (x ∷ items) rest is all = all_latest says P (says x) items rest all.0 all.1

pub told-heard : {A B : Type 0} (says : A → B) (P : B → Type 0) (pushed popped popped2 items : List A) (known : B) → popped2 ≡ popped ++ items → IsPrefixOf popped2 pushed → WereTold says P pushed popped known
    → WereTold says P pushed popped2 (latest says known items)
told-heard {A} says P pushed popped popped2 items known now front were =
    let parts = queue-moved pushed popped popped2 were.queue items front.0 were.ring now front.1 in
    let all = all_latest says P known items front.0 were.holds (subst (AllByRecursion (λ (x : A). P (says x))) parts were.each) in
    record { queue = front.0; ring = front.1; holds = all.0; each = all.1 }

pub told-heard-by : {A B : Type 0} (says : A → B) (P : B → Type 0) (pushed popped popped2 : List A) (known known2 : B) → WereTold says P pushed popped known → WasTold says popped popped2 known known2 → IsPrefixOf popped2 pushed
    → WereTold says P pushed popped2 known2
told-heard-by says P pushed popped popped2 known known2 were heard front = subst (WereTold says P pushed popped2) (sym heard.known) (told-heard says P pushed popped popped2 heard.items known heard.popped_are front were)
