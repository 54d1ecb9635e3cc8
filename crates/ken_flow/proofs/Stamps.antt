-- No stamp of a turn is past the number of all turns: each stamp but the first has the one before it on another turn.
use Rattle.std.proofs.Common.{◌≡◌, ℕ, zero, suc, ◌+◌, ◌*◌, ◌^◌, ◌<◌, ◌≤◌, max, ◌⊎◌, inl, inr, nat_le, if◌then◌else◌, List, [], ◌∷◌, ◌++◌, length, Contains, refl, sym, ap, ◌∙◌, subst, ⊎_elim, arith, length-append}
use Rattle.std.specs.List.{flat_map}
use Rattle.std.proofs.Math.Nat.{suc-mul}
use Rattle.std.proofs.lemmas.Bool.{cases_eq, cases_lt}
use Rattle.std.proofs.lemmas.Bool.Decides.{nat_tests}
use Rattle.std.proofs.lemmas.List.{length-map}
use Rattle.std.proofs.lemmas.List.Elements.{Contains-append_left, Contains-append_right, Contains-append_cases}
use Rattle.std.proofs.lemmas.List.FromFn.{length-range_with_len}
use Rattle.ken_model.specs.declared.facts.TheConstants.{MAX_NODES, MAX_TURNS}
use Rattle.ken_model.specs.declared.messages.Message.{Message}
use Rattle.ken_model.specs.Ending.{nodes_of}
use Rattle.ken_model.specs.Game.{Game}
use Rattle.ken_model.specs.History.{AreTurns}
use Rattle.ken_model.specs.Limits.{IsWithinLimits}
use Rattle.ken_model.specs.Network.{Place, Turn, first_place, place_after}
use Rattle.ken_record.specs.declared.effects.Effects.{Effects}
use Rattle.ken_net.proofs.Origins.{first_in, later_in, in_front}
use Rattle.ken_core.specs.Accord.{Accord}
use Rattle.ken_core.specs.Clusters.{Cluster}
use Rattle.ken_core.specs.Turns.{mails_to}
use Rattle.ken_core.proofs.Played.{turn_stamp}
use Rattle.ken_flow.specs.Groups.{group_of}
use Rattle.ken_flow.specs.StandstillLaws.{StampsAreLow, StandstillEnds}
use Rattle.ken_flow.proofs.Groups.{sent_by_node}
use Rattle.ken_flow.proofs.Ending.{has_ended}
use Rattle.ken_flow.proofs.Lists.{by_each, map_in, in_map, below_is}
use Rattle.ken_flow.proofs.Turns.{sent_in, taken_from, is_known, few_turns, stamps_of, effect_stamps, stamps_sealed, count_sealed}

-- ---- numbers that stand in a list

-- how many are at most s
abbrev one_upto : ℕ → ℕ → ℕ
one_upto s x = if nat_le x s then 1 else 0

upto : ℕ → List ℕ → ℕ
upto s [] = 0
upto s (x ∷ xs) = one_upto s x + upto s xs

one_most : (s x : ℕ) → one_upto s x ≤ 1
one_most s x = grind (arith, nat_tests)

one_rises : (s x : ℕ) → one_upto s x ≤ one_upto (s + 1) x
one_rises s x = grind (arith, nat_tests)

one_new : (s x : ℕ) → x ≡ s + 1 → one_upto s x + 1 ≤ one_upto (s + 1) x
one_new s x is = grind (arith, nat_tests)

upto_most : (s : ℕ) (xs : List ℕ) → upto s xs ≤ length xs
unfolding upto
upto_most s [] = omega arith
upto_most s (x ∷ xs) = omega (arith, upto_most s xs, one_most s x)

upto_rises : (s : ℕ) (xs : List ℕ) → upto s xs ≤ upto (s + 1) xs
unfolding upto
upto_rises s [] = omega arith
upto_rises s (x ∷ xs) = omega (arith, upto_rises s xs, one_rises s x)

upto_new : (s : ℕ) (xs : List ℕ) → Contains xs (s + 1) → upto s xs + 1 ≤ upto (s + 1) xs
unfolding upto
upto_new s [] (k, low, is) = absurd (omega (arith, low))
upto_new s (x ∷ xs) there = ⊎_elim (λ (is : x ≡ s + 1). omega (arith, one_new s x is, upto_rises s xs)) (λ on. omega (arith, upto_new s xs on, one_rises s x)) (in_front x xs (s + 1) there)

-- a list that has each number from 1 to s has so many
all_stand : (s : ℕ) (xs : List ℕ) → ((k : ℕ) → 0 < k → k ≤ s → Contains xs k) → s ≤ upto s xs
all_stand zero xs each = omega arith
all_stand (suc s) xs each =
    let rest : s ≤ upto s xs = all_stand s xs (λ k some few. each k some (omega (arith, few))) in
    let last : Contains xs (s + 1) = each (s + 1) (omega arith) (omega arith) in
    let more = upto_new s xs last in
    let count : suc s ≡ s + 1 = omega arith in
    subst (λ (n : ℕ). n ≤ upto n xs) (sym count) (omega (arith, rest, more))

-- each of these numbers is 1, or has the number before it among them
abbrev HasBefore : List ℕ → ℕ → Type 0
HasBefore xs s = (k : ℕ) × (s ≡ k + 1) × ((k ≡ 0) ⊎ Contains xs k)

module _ (xs : List ℕ) (before : (s : ℕ) → Contains xs s → HasBefore xs s) where
  down : (s : ℕ) → Contains xs s → (k : ℕ) → 0 < k → k ≤ s → Contains xs k
  down zero there k some few = absurd (omega (arith, some, few))
  down (suc s) there k some few =
      let b = before (suc s) there in
      let same : b.0 ≡ s = omega (arith, b.1) in
      ⊎_elim
      (λ (is : k ≡ suc s). subst (Contains xs) (sym is) there)
      (λ other. ⊎_elim (λ (first : b.0 ≡ 0). absurd (omega (arith, first, same, some, few, other))) (λ on. down s (subst (Contains xs) same on) k some (omega (arith, few, other))) b.2)
      (cases_eq k (suc s))

  pub no_past : (s : ℕ) → Contains xs s → s ≤ length xs
  no_past s there = omega (arith, all_stand s xs (down s there), upto_most s xs)

-- ---- the stamps of all turns

-- what several lists come to
joined_in : (f : ℕ → List ℕ) (vs : List ℕ) (v s : ℕ) → Contains vs v → Contains (f v) s → Contains (flat_map f vs) s
joined_in f [] v s (k, low, is) there = absurd (omega (arith, low))
joined_in f (u ∷ vs) v s one there = ⊎_elim
    (λ (is : u ≡ v). Contains-append_left (f u) (flat_map f vs) s (subst (λ (x : ℕ). Contains (f x) s) (sym is) there))
    (λ on. Contains-append_right (f u) (flat_map f vs) s (joined_in f vs v s on there))
    (in_front u vs v one)

joined_of : (P : ℕ → Type 0) (f : ℕ → List ℕ) (vs : List ℕ) → ((v s : ℕ) → Contains (f v) s → P s) → (s : ℕ) → Contains (flat_map f vs) s → P s
joined_of P f [] each s (k, low, is) = absurd (omega (arith, low))
joined_of P f (u ∷ vs) each s there = ⊎_elim (λ (now : Contains (f u) s). each u s now) (λ later. joined_of P f vs each s later) (Contains-append_cases (f u) (flat_map f vs) s there)

joined_most : (m : ℕ) (f : ℕ → List ℕ) (vs : List ℕ) → ((v : ℕ) → length (f v) ≤ m) → length (flat_map f vs) ≤ length vs * m
joined_most m f [] few = omega arith
joined_most m f (v ∷ vs) few =
    let both : length (f v ++ flat_map f vs) ≡ length (f v) + length (flat_map f vs) = length-append (f v) (flat_map f vs) in
    let rest : length (flat_map f vs) ≤ length vs * m = joined_most m f vs few in
    let product : length (v ∷ vs) * m ≡ length vs * m + m = suc-mul (length vs) m in
    omega (arith, both, rest, product, few v)

module _ (g : Game) (w : Cluster) (accord : Accord g w) (limits : IsWithinLimits g) where
  abbrev h : ℕ → List Turn
  h = accord.history

  abbrev all_stamps : List ℕ
  all_stamps = flat_map (λ (v : ℕ). stamps_of (h v)) (nodes_of g)

  turns_few : (v : ℕ) → length (h v) ≤ g.turns
  turns_few v = omega (arith, few_turns g v (first_place g) (h v) (accord.made.nodes v).own (omega arith))

  stands : (v : ℕ) (t : Turn) → Contains (h v) t → Contains all_stamps t.stamp
  stands v t there = joined_in (λ (x : ℕ). stamps_of (h x)) (nodes_of g) v t.stamp (below_is g.nodes v (is_known g w accord v t there)) (map_in (λ (x : Turn). x.stamp) (h v) t there)

  message_stands : (v : ℕ) (t : Turn) → Contains (h v) t → (t.message.stamp ≡ 0) ⊎ Contains all_stamps t.message.stamp
  message_stands v t there = elim (taken_from g w accord v t there) [
    | inl input ↦ inl input.stamp
    | inr sent ↦ inr (subst (Contains all_stamps) (sym sent.stamp) (stands t.message.from sent.turn sent.one))
  ]

  -- along the turns of a node
  each_before : (v : ℕ) (p : Place) (ts : List Turn) → AreTurns g v p ts → (p.stamp ≡ 0) ⊎ Contains all_stamps p.stamp → ((t : Turn) → Contains ts t → Contains (h v) t) → (t : Turn) → Contains ts t → HasBefore all_stamps t.stamp
  unfolding AreTurns
  each_before v p [] are at own t (k, low, is) = absurd (omega (arith, low))
  each_before v p (x ∷ ts) are at own t there = ⊎_elim
      (λ (is : x ≡ t). subst (λ (y : Turn). HasBefore all_stamps y.stamp) is (
        max p.stamp x.message.stamp,
        turn_stamp g v p x.draws x.message x are.1,
        ⊎_elim
            (λ (less : p.stamp < x.message.stamp). subst (λ (k : ℕ). (k ≡ 0) ⊎ Contains all_stamps k) (larger p.stamp x.message.stamp less) (message_stands v x (own x (first_in x ts))))
            (λ more. subst (λ (k : ℕ). (k ≡ 0) ⊎ Contains all_stamps k) (as_large p.stamp x.message.stamp more) at)
            (cases_lt p.stamp x.message.stamp),
      ))
      (λ on. each_before v (place_after p x) ts are.2 (inr (stands v x (own x (first_in x ts)))) (λ y one. own y (later_in x ts y one)) t on)
      (in_front x ts t there)
    where
      larger : (a b : ℕ) → a < b → b ≡ max a b
      larger a b less = omega arith

      as_large : (a b : ℕ) → b ≤ a → a ≡ max a b
      as_large a b more = omega arith

  before : (s : ℕ) → Contains all_stamps s → HasBefore all_stamps s
  before = joined_of (HasBefore all_stamps) (λ (v : ℕ). stamps_of (h v)) (nodes_of g) (λ v s there.
      let t = in_map (λ (x : Turn). x.stamp) (h v) s there in
      subst (HasBefore all_stamps) t.2 (each_before v (first_place g) (h v) (accord.made.nodes v).own (inl refl) (λ y one. one) t.0 t.1))

  count : length all_stamps ≤ MAX_NODES * MAX_TURNS
  count = omega (arith, joined_most MAX_TURNS (λ (v : ℕ). stamps_of (h v)) (nodes_of g) (λ v. omega (arith, length-map (h v) (λ (x : Turn). x.stamp), turns_few v, limits.few_turns)), length-range_with_len 0 g.nodes, limits.few_nodes)

  pub early : (v : ℕ) (t : Turn) → Contains (h v) t → t.stamp ≤ MAX_NODES * MAX_TURNS
  early v t there = omega (arith, no_past all_stamps before t.stamp (stands v t there), count)

  -- of the turns as a node keeps them
  kept_stamps : (v : ℕ) → effect_stamps (w.node v).turning.turns ≡ stamps_of (h v)
  kept_stamps v = ap effect_stamps (accord.made.nodes v).turns ∙ stamps_sealed v (h v)

  pub kept_early : (v : ℕ) (e : Effects) → Contains (w.node v).turning.turns e → e.stamp ≤ MAX_NODES * MAX_TURNS
  kept_early v e there =
      let t = in_map (λ (x : Turn). x.stamp) (h v) e.stamp (subst (λ (l : List ℕ). Contains l e.stamp) (kept_stamps v) (map_in (λ (x : Effects). x.stamp) (w.node v).turning.turns e there)) in
      omega (arith, early v t.0 t.1, t.2)

  pub mail_early : (u v : ℕ) (m : Message) → Contains (mails_to u v (w.node u).turning.turns) m → m.stamp ≤ MAX_NODES * MAX_TURNS
  mail_early u v m there =
      let is = sent_in u v 0 (h u) m (subst (λ (ms : List Message). Contains ms m) (sent_by_node g w accord u v) there) in
      omega (arith, early u is.turn is.one, is.stamp)

  pub kept_few : (v : ℕ) → length (w.node v).turning.turns ≤ g.turns
  kept_few v = omega (arith, ap length (accord.made.nodes v).turns, count_sealed v (h v), turns_few v)

-- ---- the laws

pub stamps_are_low : StampsAreLow
stamps_are_low g nodes emissions limits accord =
    let w = group_of g nodes emissions in
    record {
      turns = kept_few g w accord limits;
      stamps = λ v. by_each (λ (e : Effects). e.stamp ≤ MAX_NODES * MAX_TURNS) (nodes v).turning.turns (kept_early g w accord limits v);
      mails = λ u v low. by_each (λ (m : Message). m.stamp < 2 ^ 63) (mails_to u v (nodes u).turning.turns) (λ m one. omega (arith, mail_early g w accord limits u v m one));
    }

pub standstill_ends : StandstillEnds
standstill_ends g emissions f a b c limits places mail acks accord s = has_ended g emissions f a b c limits places mail accord (stamps_are_low g f.nodes emissions limits accord).mails s
