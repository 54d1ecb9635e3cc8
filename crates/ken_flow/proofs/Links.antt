-- What a link still has to do falls with each put, until it passes each packet on once.
use Rattle.std.proofs.Common.{◌≡◌, ℕ, ◌+◌, ◌-◌, ◌*◌, ◌^◌, ◌<◌, ◌≤◌, ◌==◌, min, ◌⊎◌, inl, inr, Bool, true, false, if◌then◌else◌, nat_le, List, [], ◌∷◌, ◌++◌, length, sum_by, slice_set, Option, Some, None, refl, sym, ap, ◌∙◌, subst, ⊎_elim, arith, length-append}
use Rattle.std.specs.Prelude.{map}
use Rattle.std.specs.Map.{lookup}
use Rattle.std.specs.BTreeMap.{is_at}
use Rattle.std.specs.Ordering.{nat_cmp}
use Rattle.std.specs.Cmp.{Equal-is}
use Rattle.std.proofs.lemmas.Bool.{cases_lt, leb-false, eqb-true, cases_Bool}
use Rattle.std.proofs.lemmas.Grind.{get_or-set_at}
use Rattle.std.proofs.lemmas.List.{length-set}
use Rattle.std.proofs.lemmas.List.Elements.{filter-append}
use Rattle.std.proofs.lemmas.List.Sums.{sum_by-cons, sum_by-append}
use Rattle.std.proofs.lemmas.Map.Lookups.{exact_unsigned}
use Rattle.ken_net.specs.declared.act.Act.{Act}
use Rattle.ken_net.specs.declared.act.Act.TheVariants.{Lose, Repeat, Hold}
use Rattle.ken_net.specs.declared.link.Kept.{Kept}
use Rattle.ken_net.specs.Acts.{copies, held}
use Rattle.ken_net.specs.Counts.{risen}
use Rattle.ken_net.specs.History.{puts_for}
use Rattle.ken_net.specs.Puts.{Put, alone}
use Rattle.ken_net.specs.Standings.{Standing, no_link, link_to, act_at, next_act, due, still, after_put, passed, after_puts, all_passed}
use Rattle.ken_flow.proofs.Lists.{set_cases, filter_yes, filter_no}
use Rattle.ken_flow.specs.Standstill.{AreModestActs, last_act, left_on}

-- ---- acts

-- an act that is found is no later than the last one
found_or : (b : Bool) (n : ℕ) (a : ℕ × Act) (acts : List (ℕ × Act)) (x : Act) → is_at (nat_cmp n) a.0 ≡ b → (lookup (is_at (nat_cmp n)) acts ≡ Some x → n ≤ last_act acts) → lookup (is_at (nat_cmp n)) (a ∷ acts) ≡ Some x → n ≤ last_act (a ∷ acts)
unfolding last_act
found_or true n a acts x e later is = let same : n ≡ a.0 = exact_unsigned n a.0 ((Equal-is (nat_cmp n a.0)).0 e) in omega (arith, same)
found_or false n a acts x e later is = let rest : n ≤ last_act acts = later (rw e at is) in omega (arith, rest)

pub found_in : (n : ℕ) (acts : List (ℕ × Act)) (x : Act) → lookup (is_at (nat_cmp n)) acts ≡ Some x → n ≤ last_act acts
found_in n [] x is = absurd cc
found_in n (a ∷ acts) x is = found_or (is_at (nat_cmp n) a.0) n a acts x refl (found_in n acts x) is

-- ---- what is kept

abbrev waits : List Kept → ℕ
waits ks = sum_by (λ (k : Kept). k.wait + 1) ks

still_one : (b : Bool) (k : Kept) (ks : List Kept) → nat_le k.wait 1 ≡ b → waits (still ks) + length ks ≤ waits ks → waits (if b then still ks else record k { wait = k.wait - 1 } ∷ still ks) + length (k ∷ ks) ≤ waits (k ∷ ks)
still_one true k ks e rest = omega (arith, rest, sum_by-cons (λ (x : Kept). x.wait + 1) k ks)
still_one false k ks e rest =
    let more : 1 < k.wait = omega (arith, leb-false k.wait 1 e) in
    omega (arith, more, rest, sum_by-cons (λ (x : Kept). x.wait + 1) k ks, sum_by-cons (λ (x : Kept). x.wait + 1) (record k { wait = k.wait - 1 }) (still ks))

-- each packet has one put less to wait for
pub still_falls : (ks : List Kept) → waits (still ks) + length ks ≤ waits ks
still_falls [] = omega arith
still_falls (k ∷ ks) = still_one (nat_le k.wait 1) k ks refl (still_falls ks)

none_or_some : (ks : List Kept) → (ks ≡ []) ⊎ (0 < length ks)
none_or_some [] = inl refl
none_or_some (k ∷ ks) = inr (omega arith)

nothing_left : (ks : List Kept) → waits ks ≤ 0 → ks ≡ []
nothing_left ks none = ⊎_elim (λ is. is) (λ (some : 0 < length ks). absurd (omega (arith, some, none, still_falls ks))) (none_or_some ks)

-- what is held of a packet
held_waits : (a : Option Act) (bytes : List ℕ) → ((k : ℕ) → a ≡ Some (Hold k) → k < 256) → waits (held a bytes) ≤ 257
held_waits None bytes few = omega arith
held_waits (Some Lose) bytes few = omega arith
held_waits (Some Repeat) bytes few = omega arith
held_waits (Some (Hold k)) bytes few = omega (arith, few k refl)

-- ---- one put

-- a put on a link that has something to do leaves it less; on another it is passed on, and nothing else is
pub data OnePut (p : Put) (s : Standing) : Type 0 where
  less : left_on (after_put p s) < left_on s → OnePut p s
  once : left_on (after_put p s) ≡ left_on s → passed p s ≡ p ∷ [] → OnePut p s

-- the count goes on by one, where an act is ahead
ahead : (last top puts : ℕ) → 0 < min last top - puts → min last top - min (puts + 1) top + 1 ≤ min last top - puts
ahead last top puts some = omega arith

no_further : (last top puts : ℕ) → min last top - min (puts + 1) top ≤ min last top - puts
no_further last top puts = omega arith

is_ahead : (last top puts : ℕ) → min (puts + 1) top ≤ last → (min (puts + 1) top ≡ top → ⊥) → 0 < min last top - puts
is_ahead last top puts low other = by (cases_lt (puts + 1) top)
  where
    by : (puts + 1 < top) ⊎ (top ≤ puts + 1) → 0 < min last top - puts
    by (inl small) = omega (arith, small, low)
    by (inr big) = let last : min (puts + 1) top ≡ top = omega (arith, big) in absurd (other last)

module _ (p : Put) (s : Standing) (modest : AreModestActs s) where
  abbrev anew : List Kept
  anew = held (next_act s) p.bytes

  kept_after : waits (still (s.kept ++ anew)) + (length s.kept + length anew) ≤ waits s.kept + waits anew
  kept_after = omega (arith, still_falls (s.kept ++ anew), length-append s.kept anew, sum_by-append (λ (k : Kept). k.wait + 1) s.kept anew)

  abbrev count : ℕ
  count = min (last_act s.acts) (2 ^ 64 - 1) - s.puts

  abbrev count2 : ℕ
  count2 = min (last_act s.acts) (2 ^ 64 - 1) - risen s.puts

  -- a put with an act
  acts : (a : Act) → next_act s ≡ Some a → left_on (after_put p s) < left_on s
  acts a is =
      let last : risen s.puts ≤ last_act s.acts = found_in (risen s.puts) s.acts a is in
      let early : risen s.puts ≡ 2 ^ 64 - 1 → ⊥ = λ e. absurd (none_some (sym modest.none_last ∙ ap (λ (n : ℕ). act_at n s) (sym e) ∙ is)) in
      let few : waits anew ≤ 257 = held_waits (next_act s) p.bytes (λ k e. modest.holds (risen s.puts) k e) in
      let falls : count2 + 1 ≤ count = ahead (last_act s.acts) (2 ^ 64 - 1) s.puts (is_ahead (last_act s.acts) (2 ^ 64 - 1) s.puts last early) in
      sums count count2 (waits s.kept) (waits (still (s.kept ++ anew))) (waits anew) falls few (omega (arith, kept_after))
    where
      none_some : None ≡ Some a → ⊥
      none_some e = cc

      sums : (a b k k2 w : ℕ) → b + 1 ≤ a → w ≤ 257 → k2 ≤ k + w → 300 * b + k2 < 300 * a + k
      sums a b k k2 w x y z = omega arith

  -- a put with none
  module _ (is : next_act s ≡ None) where
    none_anew : anew ≡ []
    none_anew = ap (λ (a : Option Act). held a p.bytes) is

    kept_none : waits (still (s.kept ++ anew)) + length s.kept ≤ waits s.kept
    kept_none =
        let none : waits anew ≡ 0 = ap waits none_anew in
        omega (arith, kept_after, none)

    count_falls : count2 ≤ count
    count_falls = no_further (last_act s.acts) (2 ^ 64 - 1) s.puts

    when_some : 0 < length s.kept → left_on (after_put p s) < left_on s
    when_some some = sums count count2 (waits s.kept) (waits (still (s.kept ++ anew))) (length s.kept) count_falls some kept_none
      where
        sums : (a b k k2 l : ℕ) → b ≤ a → 0 < l → k2 + l ≤ k → 300 * b + k2 < 300 * a + k
        sums a b k k2 l x y z = omega arith

    when_ahead : 0 < count → left_on (after_put p s) < left_on s
    when_ahead some = sums count count2 (waits s.kept) (waits (still (s.kept ++ anew))) (ahead (last_act s.acts) (2 ^ 64 - 1) s.puts some) (omega (arith, kept_none))
      where
        sums : (a b k k2 : ℕ) → b + 1 ≤ a → k2 ≤ k → 300 * b + k2 < 300 * a + k
        sums a b k k2 x z = omega arith

    module _ (none : s.kept ≡ []) (still_none : count ≤ 0) where
      passed_once : passed p s ≡ p ∷ []
      passed_once =
          ap (λ (a : Option Act). map (λ (bytes : List ℕ). record p { bytes = bytes }) (copies a p.bytes) ++ map (alone p.to) (due (s.kept ++ held a p.bytes))) is
          ∙ ap (λ (ks : List Kept). p ∷ map (alone p.to) (due (ks ++ []))) none

      as_left : left_on (after_put p s) ≡ left_on s
      as_left =
          let old : waits s.kept ≡ 0 = ap waits none in
          sums count count2 (waits s.kept) (waits (still (s.kept ++ anew))) count_falls still_none old (omega (arith, kept_none))
        where
          sums : (a b k k2 : ℕ) → b ≤ a → a ≤ 0 → k ≡ 0 → k2 ≤ k → 300 * b + k2 ≡ 300 * a + k
          sums a b k k2 x y z w = omega arith

  pub one_put : OnePut p s
  one_put = by (next_act s) refl
    where
      by : (a : Option Act) → next_act s ≡ a → OnePut p s
      by (Some a) is = less (acts a is)
      by None is =
          ⊎_elim
          (λ none. ⊎_elim (λ some. less (when_ahead is some)) (λ (still_none : count ≤ 0). once (as_left is none still_none) (passed_once is none still_none)) (cases_lt 0 count))
          (λ some. less (when_some is some))
          (none_or_some s.kept)

  pub never_more : left_on (after_put p s) ≤ left_on s
  never_more = elim one_put [ less l ↦ omega (arith, l) | once e _ ↦ omega (arith, e) ]

-- ---- links after puts

abbrev pub AllModest : List Standing → Type 0
AllModest links = (v : ℕ) → AreModestActs (link_to v links)

abbrev one : Put → List Standing → List Standing
one p links = slice_set links p.to (after_put p (link_to p.to links))

-- the link to v after one put: it had it, or it is as it was
one_link : (p : Put) (links : List Standing) (v : ℕ) → ((p.to ≡ v) × (link_to v (one p links) ≡ after_put p (link_to v links))) ⊎ (link_to v (one p links) ≡ link_to v links)
one_link p links v = elim (set_cases links p.to (after_put p (link_to p.to links)) v no_link) [
  | inl same ↦ inl (same.0, same.1 ∙ ap (λ (u : ℕ). after_put p (link_to u links)) same.0)
  | inr other ↦ inr other
]

modest_after : (p : Put) (s : Standing) → AreModestActs s → AreModestActs (after_put p s)
modest_after p s modest = record { none_last = modest.none_last; holds = modest.holds }

modest_one : (p : Put) (links : List Standing) → AllModest links → AllModest (one p links)
modest_one p links modest v = elim (one_link p links v) [
  | inl here ↦ subst AreModestActs (sym here.1) (modest_after p (link_to v links) (modest v))
  | inr other ↦ subst AreModestActs (sym other) (modest v)
]

pub modest_stays : (puts : List Put) (links : List Standing) → AllModest links → AllModest (after_puts puts links)
modest_stays [] links modest = modest
modest_stays (p ∷ ps) links modest = modest_stays ps (one p links) (modest_one p links modest)

one_more : (p : Put) (links : List Standing) (v : ℕ) → AllModest links → left_on (link_to v (one p links)) ≤ left_on (link_to v links)
one_more p links v modest = elim (one_link p links v) [
  | inl here ↦ omega (arith, never_more p (link_to v links) (modest v), ap left_on here.1)
  | inr other ↦ omega (arith, ap left_on other)
]

-- no link has more to do
pub links_fall : (puts : List Put) (links : List Standing) (v : ℕ) → AllModest links → left_on (link_to v (after_puts puts links)) ≤ left_on (link_to v links)
links_fall [] links v modest = omega arith
links_fall (p ∷ ps) links v modest = omega (arith, links_fall ps (one p links) v (modest_one p links modest), one_more p links v modest)

pub links_width : (puts : List Put) (links : List Standing) → length (after_puts puts links) ≡ length links
links_width [] links = refl
links_width (p ∷ ps) links = links_width ps (one p links) ∙ length-set links p.to (after_put p (link_to p.to links))

-- all that a put passes on goes where it goes
none_for : (v : ℕ) (p : Put) (xs : List (List ℕ)) (ys : List (List ℕ)) → (p.to == v) ≡ false → puts_for v (map (λ (bytes : List ℕ). record p { bytes = bytes }) xs ++ map (alone p.to) ys) ≡ []
none_for v p [] [] e = refl
none_for v p [] (y ∷ ys) e = rw e (none_for v p [] ys e)
none_for v p (x ∷ xs) ys e = rw e (none_for v p xs ys e)

module _ (v : ℕ) (p : Put) (ps : List Put) (links : List Standing) (modest : AllModest links) (low : v < length links) where
  -- where a link doesn't have less to do after puts, they are passed on, and nothing else is
  module _ (rest : puts_for v (all_passed ps (one p links)) ≡ puts_for v ps) where
    other_first : (p.to == v) ≡ false → puts_for v (all_passed (p ∷ ps) links) ≡ puts_for v (p ∷ ps)
    other_first e =
        filter-append (λ (q : Put). q.to == v) (passed p (link_to p.to links)) (all_passed ps (one p links))
        ∙ ap (λ (qs : List Put). qs ++ puts_for v (all_passed ps (one p links))) (none_for v p (copies (next_act (link_to p.to links)) p.bytes) (due ((link_to p.to links).kept ++ held (next_act (link_to p.to links)) p.bytes)) e)
        ∙ rest
        ∙ sym (filter_no (λ (q : Put). q.to == v) p ps e)

    own_first : (p.to == v) ≡ true → passed p (link_to p.to links) ≡ p ∷ [] → puts_for v (all_passed (p ∷ ps) links) ≡ puts_for v (p ∷ ps)
    own_first e single =
        ap (λ (qs : List Put). puts_for v (qs ++ all_passed ps (one p links))) single
        ∙ filter_yes (λ (q : Put). q.to == v) p (all_passed ps (one p links)) e
        ∙ ap (λ (qs : List Put). p ∷ qs) rest
        ∙ sym (filter_yes (λ (q : Put). q.to == v) p ps e)

pub all_passed_once : (v : ℕ) (puts : List Put) (links : List Standing) → AllModest links → v < length links → left_on (link_to v links) ≤ left_on (link_to v (after_puts puts links)) → puts_for v (all_passed puts links) ≡ puts_for v puts
all_passed_once v [] links modest low same = refl
all_passed_once v (p ∷ ps) links modest low same =
    let later : left_on (link_to v (after_puts ps (one p links))) ≤ left_on (link_to v (one p links)) = links_fall ps (one p links) v (modest_one p links modest) in
    let first : left_on (link_to v (one p links)) ≤ left_on (link_to v links) = one_more p links v modest in
    let rest = all_passed_once v ps (one p links) (modest_one p links modest) (omega (arith, low, length-set links p.to (after_put p (link_to p.to links)))) (omega (arith, same, later, first)) in
    ⊎_elim
    (λ (e : (p.to == v) ≡ true). own_first v p ps links modest low rest e (once_at (eqb-true p.to v e) (omega (arith, same, later))))
    (λ e. other_first v p ps links modest low rest e)
    (cases_Bool (p.to == v))
  where
    once_at : p.to ≡ v → left_on (link_to v links) ≤ left_on (link_to v (one p links)) → passed p (link_to p.to links) ≡ p ∷ []
    once_at is stays =
        let there : link_to v (one p links) ≡ after_put p (link_to v links) = get_or-set_at links p.to v (after_put p (link_to p.to links)) no_link (sym is) (omega (arith, is, low)) ∙ ap (λ (u : ℕ). after_put p (link_to u links)) is in
        elim (one_put p (link_to v links) (modest v)) [
          | less l ↦ absurd (omega (arith, l, stays, ap left_on there))
          | once _ single ↦ ap (λ (u : ℕ). passed p (link_to u links)) is ∙ single
        ]
