-- What a node keeps beside its turns.
use Rattle.std.proofs.Common.{◌≡◌, ℕ, zero, suc, ◌-◌, ◌<◌, ◌≤◌, List, [], ◌∷◌, ◌++◌, map, length, Option, Some, None, slice_get, refl, sym, ap, ◌∙◌, ◌==◌, subst, arith, ⊎_elim, eq-eqb, ne_eqb}
use Rattle.std.specs.Option.{option_copied, is_some}
use Rattle.std.specs.Borrow.{Bor}
use Rattle.std.proofs.Common.{true, false, slice_index, Vec, Global, slice_index_or, ◌^◌}
use Rattle.ken_model.specs.declared.messages.Message.{Message}
use Rattle.ken_record.specs.declared.effects.Effects.{Effects}
use Rattle.ken_core.specs.declared.ledger.Ledger.{Ledger}
use Rattle.ken_core.specs.Ledgers.{sent_to}
use Rattle.std.specs.List.{AllByRecursion, filter}
use Rattle.std.proofs.lemmas.Bool.{cases_eq}
use Rattle.ken_record.specs.declared.sent.Sent.{Sent}
use Rattle.ken_core.specs.Turns.{stamp_after, mail_of, mails_in, mails_to}

-- the last turn's stamp
pub stamp_last : (stamp : ℕ) (es : List Effects) (e : Effects) → slice_get es (length es - 1) ≡ Some e → stamp_after stamp es ≡ e.stamp
stamp_last stamp [] e is = absurd cc
stamp_last stamp (x ∷ []) e is = let same : x ≡ e = cc in ap (λ (y : Effects). y.stamp) same
stamp_last stamp (x ∷ y ∷ es) e is = stamp_last x.stamp (y ∷ es) e (let there : length (x ∷ y ∷ es) - 1 ≡ suc (length (y ∷ es) - 1) = omega arith in subst (λ k. slice_get (x ∷ y ∷ es) k ≡ Some e) there is)

-- no list is as long as a number can be
pub sent_short : (l : Ledger) (w : ℕ) → length (sent_to l w) < 2 ^ 63
sent_short l w = at l.sent.items w
  where
    at : (lists : List (Vec Message Global)) (w : ℕ) → length (slice_index_or (map (λ list. list.items) lists) w []) < 2 ^ 63
    at [] w = omega arith
    at (x ∷ xs) zero = omega (arith, x.ok, x.small)
    at (x ∷ xs) (suc w) = at xs w

-- whether there is an element, by whether one was found
some_copied : {A : Type 0} → (o : Option (Bor A)) → is_some (option_copied o) ≡ is_some o
some_copied None = refl
some_copied (Some x) = refl

pub found_within : {A : Type 0} → (xs : List A) (k : ℕ) (o : Option (Bor A)) → option_copied o ≡ slice_get xs k → is_some o ≡ true → k < length xs
found_within {A = A} xs k o is some = at xs k (ap is_some (sym is) ∙ some_copied o ∙ some)
  where
    at : (ys : List A) (i : ℕ) → is_some (slice_get ys i) ≡ true → i < length ys
    at [] i h = absurd cc
    at (y ∷ ys) zero h = omega arith
    at (y ∷ ys) (suc i) h = let e = at ys i h in omega arith

pub found_past : {A : Type 0} → (xs : List A) (k : ℕ) (o : Option (Bor A)) → option_copied o ≡ slice_get xs k → is_some o ≡ false → length xs ≤ k
found_past {A = A} xs k o is none = at xs k (ap is_some (sym is) ∙ some_copied o ∙ none)
  where
    at : (ys : List A) (i : ℕ) → is_some (slice_get ys i) ≡ false → length ys ≤ i
    at [] i h = omega arith
    at (y ∷ ys) zero h = absurd cc
    at (y ∷ ys) (suc i) h = let e = at ys i h in omega arith

-- what holds of each message that turns of v sent to w
each_join : {A : Type 0} → (P : A → Type 0) (xs ys : List A) → AllByRecursion P xs → AllByRecursion P ys → AllByRecursion P (xs ++ ys)
each_join P [] ys one other = other
each_join P (x ∷ xs) ys one other = (one.0, each_join P xs ys one.1 other)

mails_each : (P : Message → Type 0) (v w stamp : ℕ) (ss : List Sent) → ((s : Sent) → s.to ≡ w → P (mail_of v stamp s)) → AllByRecursion P (map (mail_of v stamp) (filter (λ (s : Sent). s.to == w) ss))
mails_each P v w stamp [] one = tt
mails_each P v w stamp (s ∷ ss) one = ⊎_elim (λ (same : s.to ≡ w). rw (eq-eqb s.to w same) (one s same, mails_each P v w stamp ss one)) (λ other. rw (ne_eqb s.to w other) (mails_each P v w stamp ss one)) (cases_eq s.to w)

pub each_mail : (P : Message → Type 0) (Q : Effects → Type 0) (v w : ℕ) (es : List Effects) → ((e : Effects) (s : Sent) → Q e → s.to ≡ w → P (mail_of v e.stamp s)) → AllByRecursion Q es → AllByRecursion P (mails_to v w es)
each_mail P Q v w [] one all = tt
each_mail P Q v w (e ∷ es) one all = each_join P (mails_in v w e) (mails_to v w es) (mails_each P v w e.stamp e.sends (λ s. one e s all.0)) (each_mail P Q v w es one all.1)

pub each_at : {A : Type 0} → (P : A → Type 0) (xs : List A) (k : ℕ) (x : A) → AllByRecursion P xs → slice_get xs k ≡ Some x → P x
each_at P [] k x all is = absurd cc
each_at P (y ∷ ys) zero x all is = let same : y ≡ x = cc in subst P same all.0
each_at P (y ∷ ys) (suc k) x all is = each_at P ys k x all.1 is

each_any : {A : Type 0} → (xs : List A) → AllByRecursion (λ x. Unit {0}) xs
each_any [] = tt
each_any (x ∷ xs) = (tt, each_any xs)

-- a message of v to w says so
pub mail_is : (v w k : ℕ) (es : List Effects) (m : Message) → slice_get (mails_to v w es) k ≡ Some m → (m.from ≡ v) × (m.to ≡ w)
mail_is v w k es m is = each_at (λ (x : Message). (x.from ≡ v) × (x.to ≡ w)) (mails_to v w es) k m (each_mail (λ (x : Message). (x.from ≡ v) × (x.to ≡ w)) (λ e. Unit {0}) v w es (λ e s any to. (refl, to)) (each_any es)) is

pub get_some : {A : Type 0} → (xs : List A) (k : ℕ) → k < length xs → (x : A) × (slice_get xs k ≡ Some x)
get_some [] k within = absurd (omega arith)
get_some (x ∷ xs) zero within = (x, refl)
get_some (x ∷ xs) (suc k) within = get_some xs k (omega arith)

-- how long each list is
pub count_long : (lists : List (Vec Message Global)) (w : ℕ) → slice_index (map (λ list. length list.items) lists) w ≡ length (slice_index_or (map (λ list. list.items) lists) w [])
count_long [] w = refl
count_long (x ∷ xs) zero = refl
count_long (x ∷ xs) (suc w) = count_long xs w
