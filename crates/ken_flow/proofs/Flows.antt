-- What is on its way between nodes is known.
use Rattle.std.proofs.Common.{◌≡◌, ℕ, inl, inr, Bool, true, false, nat_lt, if◌then◌else◌, List, [], ◌∷◌, ◌++◌, length, replicate, All, Contains, slice_index_or, slice_set, refl, sym, subst, ⊎_elim, arith}
use Rattle.std.proofs.lemmas.Bool.{cases_eq, ltb-true, ltb-false}
use Rattle.std.proofs.lemmas.List.{get_or-replicate, get_or_past, length-replicate}
use Rattle.std.proofs.lemmas.List.Elements.{All-nil, All-cons, All-head, All-tail, All-append, All-push, All-weaker, All-contains, All-contains_itself, Contains-append_left, Contains-append_right}
use Rattle.ken_model.specs.Game.{Game}
use Rattle.ken_packet.specs.Reading.{packet_of}
use Rattle.ken_net.specs.declared.inbox.TheConstants.{MAX_INBOX}
use Rattle.ken_net.specs.declared.link.Kept.{Kept}
use Rattle.ken_net.specs.Inboxes.{filed, all_filed}
use Rattle.ken_net.specs.Origins.{WasThere, ComesFrom}
use Rattle.ken_net.specs.Puts.{Put}
use Rattle.ken_net.specs.Standings.{Standing, link_to, after_puts, all_passed}
use Rattle.ken_net.proofs.Origins.{comes_from, was_there}
use Rattle.ken_core.specs.Clusters.{Cluster, WasPut}
use Rattle.ken_ship.specs.Laws.{packet_from, packets_from}
use Rattle.ken_flow.specs.Flows.{IsKnown, AreKnown, KeepKnown, PutsAreKnown}
use Rattle.ken_flow.proofs.Lists.{set_cases}
use Rattle.ken_flow.specs.Laws.{KnownStays, GivenAreKnown, PassedAreKnown, FirstAreKnown, SpelledAreKnown}

-- ---- lists

module _ {X : Type 0} (P : X → Type 0) where
  each : (xs : List X) → ((x : X) → Contains xs x → P x) → All P xs
  each xs f = All-weaker (Contains xs) P f xs (All-contains_itself xs)

  left : (xs ys : List X) → All P (xs ++ ys) → All P xs
  left xs ys all = each xs (λ x one. All-contains P (xs ++ ys) x all (Contains-append_left xs ys x one))

  right : (xs ys : List X) → All P (xs ++ ys) → All P ys
  right xs ys all = each ys (λ x one. All-contains P (xs ++ ys) x all (Contains-append_right xs ys x one))

-- each element of a list of one element over and over is that, and so is what is past it
all_same : {A : Type 0} (x : A) (n v : ℕ) → slice_index_or (replicate n x) v x ≡ x
all_same x n v = by (nat_lt v n) refl
  where
    by : (b : Bool) → nat_lt v n ≡ b → slice_index_or (replicate n x) v x ≡ x
    by true is = get_or-replicate n v x x (ltb-true v n is)
    by false is = get_or_past (replicate n x) v x (omega (arith, length-replicate n x, ltb-false v n is))

-- ---- what is known stays known

pub known_stays : KnownStays
known_stays g w w2 stays =
    let bytes : (bytes : List ℕ) → IsKnown g w bytes → IsKnown g w2 bytes = λ bytes. All-weaker (WasPut w) (WasPut w2) stays (packet_from g.nodes (packet_of bytes)) in
    record {
      bytes = bytes;
      boxes = λ boxes are v. All-weaker (IsKnown g w) (IsKnown g w2) bytes (slice_index_or boxes v []) (are v);
      links = λ links keep v. All-weaker (λ (k : Kept). IsKnown g w k.bytes) (λ (k : Kept). IsKnown g w2 k.bytes) (λ k. bytes k.bytes) (link_to v links).kept (keep v);
    }

module _ (g : Game) (w : Cluster) where
  -- ---- what inboxes give

  pub packets_were_put : (given : List (List ℕ)) → All (IsKnown g w) given → All (WasPut w) (packets_from g.nodes given)
  packets_were_put [] are = All-nil (WasPut w)
  packets_were_put (bytes ∷ given) are =
      All-append (WasPut w) (packet_from g.nodes (packet_of bytes)) (packets_from g.nodes given)
      (All-head (IsKnown g w) bytes given are) (packets_were_put given (All-tail (IsKnown g w) bytes given are))

  -- ---- what links pass on and keep

  module _ (puts : List Put) (links : List Standing) (known : PutsAreKnown g w puts) (keep : KeepKnown g w links) where
    was_known : (v : ℕ) (bytes : List ℕ) → WasThere v bytes puts links → IsKnown g w bytes
    was_known v bytes (inl (p, one, to, is)) = subst (IsKnown g w) is (All-contains (λ (p : Put). IsKnown g w p.bytes) puts p known one)
    was_known v bytes (inr (k, one, is)) = subst (IsKnown g w) is (All-contains (λ (k : Kept). IsKnown g w k.bytes) (link_to v links).kept k (keep v) one)

    one_known : (x : Put) → ComesFrom x puts links → IsKnown g w x.bytes
    one_known x (inl one) = All-contains (λ (p : Put). IsKnown g w p.bytes) puts x known one
    one_known x (inr (alone, was)) = was_known x.to x.bytes was

    pub all_passed_known : PutsAreKnown g w (all_passed puts links)
    all_passed_known = each (λ (p : Put). IsKnown g w p.bytes) (all_passed puts links) (λ x one. one_known x (comes_from links puts x one))

    pub kept_are_known : KeepKnown g w (after_puts puts links)
    kept_are_known v = each (λ (k : Kept). IsKnown g w k.bytes) (link_to v (after_puts puts links)).kept (λ k one. was_known v k.bytes (was_there links puts v k.bytes (k, one, refl)))

  -- ---- what is filed in inboxes

  filed_known : (bytes : List ℕ) (box : List (List ℕ)) → IsKnown g w bytes → All (IsKnown g w) box → All (IsKnown g w) (filed bytes box)
  filed_known bytes box is are = by (nat_lt (length box) MAX_INBOX)
    where
      by : (b : Bool) → All (IsKnown g w) (if b then box ++ bytes ∷ [] else box)
      by true = All-push (IsKnown g w) box bytes are is
      by false = are

  one_filed_known : (p : Put) (boxes : List (List (List ℕ))) → IsKnown g w p.bytes → AreKnown g w boxes → AreKnown g w (slice_set boxes p.to (filed p.bytes (slice_index_or boxes p.to [])))
  one_filed_known p boxes is are v = elim (set_cases boxes p.to (filed p.bytes (slice_index_or boxes p.to [])) v []) [
    | inl here ↦ subst (All (IsKnown g w)) (sym here.1) (filed_known p.bytes (slice_index_or boxes p.to []) is (are p.to))
    | inr other ↦ subst (All (IsKnown g w)) (sym other) (are v)
  ]

  pub filed_are_known : (puts : List Put) (boxes : List (List (List ℕ))) → PutsAreKnown g w puts → AreKnown g w boxes → AreKnown g w (all_filed puts boxes)
  filed_are_known [] boxes known are = are
  filed_are_known (p ∷ ps) boxes known are =
      let P : Put → Type 0 = λ (p : Put). IsKnown g w p.bytes in
      filed_are_known ps (slice_set boxes p.to (filed p.bytes (slice_index_or boxes p.to []))) (All-tail P p ps known) (one_filed_known p boxes (All-head P p ps known) are)

pub given_are_known : GivenAreKnown
given_are_known g w v old new given are gave =
    let whole : All (IsKnown g w) (given ++ slice_index_or new v []) = subst (All (IsKnown g w)) gave.front (are v) in (
      λ u. ⊎_elim
          (λ (same : u ≡ v). subst (λ x. All (IsKnown g w) (slice_index_or new x [])) (sym same) (right (IsKnown g w) given (slice_index_or new v []) whole))
          (λ other. subst (All (IsKnown g w)) (sym (gave.others u other)) (are u))
          (cases_eq u v),
      packets_were_put g w given (left (IsKnown g w) given (slice_index_or new v []) whole),
    )

pub passed_are_known : PassedAreKnown
passed_are_known g w puts links known keep =
    let passed = all_passed_known g w puts links known keep in
    record {
      passed = passed;
      kept = kept_are_known g w puts links known keep;
      filed = λ boxes are. filed_are_known g w (all_passed puts links) boxes passed are;
    }

pub first_are_known : FirstAreKnown
first_are_known g w = record {
  boxes = λ n v. subst (All (IsKnown g w)) (sym (all_same [] n v)) (All-nil (IsKnown g w));
  links = λ from nodes acts l new v. subst (All (λ (k : Kept). IsKnown g w k.bytes)) (sym (new.no_kept v)) (All-nil (λ (k : Kept). IsKnown g w k.bytes));
}

pub spelled_are_known : SpelledAreKnown
spelled_are_known g w p q spells was = subst (All (WasPut w)) (sym spells) (All-cons (WasPut w) q.packet [] was (All-nil (WasPut w)))
