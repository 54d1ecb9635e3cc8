-- What links do put by put is what the numbers of the puts say.
use Rattle.std.proofs.Common.{◌≡◌, ◌∙◌, ℕ, ◌+◌, ◌-◌, ◌<◌, ◌≤◌, ◌^◌, Bool, true, false, cond, ◌==◌, nat_lt, List, [], ◌∷◌, ◌++◌, length, slice_set, Option, Some, None, refl, sym, ap, subst, append_assoc, arith, length-append, eq-eqb}
use Rattle.std.specs.Prelude.{map}
use Rattle.std.proofs.lemmas.Bool.{eqb-true, eqb-false}
use Rattle.std.proofs.lemmas.Bool.Decides.{nat_tests}
use Rattle.std.proofs.lemmas.List.{append-nil, get_or-set_other, length-set}
use Rattle.std.proofs.lemmas.Grind.{get_or-set_at}
use Rattle.ken_net.specs.declared.act.Act.{Act}
use Rattle.ken_net.specs.declared.act.Act.TheVariants.{Lose, Repeat, Hold}
use Rattle.ken_net.specs.declared.act.LinkAct.{LinkAct}
use Rattle.ken_net.specs.declared.link.Kept.{Kept}
use Rattle.ken_net.specs.Acts.{act_of, copies, held}
use Rattle.ken_net.specs.Counts.{risen}
use Rattle.ken_net.specs.Puts.{Put, alone}
use Rattle.ken_net.specs.Standings.{Standing, Leaving, no_link, link_to, act_at, next_act, due, still, after_put, passed, after_puts, all_passed}
use Rattle.ken_net.specs.History.{is_until, held_until, puts_for, passed_at, passed_by, AreNew, AreFor}
use Rattle.ken_net.proofs.Turns.{now, still_append, due_append}

-- ---- what a link keeps

-- what is kept of put number n after j puts
abbrev waits : Option Act → ℕ → ℕ → List ℕ → List Kept
waits None j n bytes = []
waits (Some Lose) j n bytes = []
waits (Some Repeat) j n bytes = []
waits (Some (Hold k)) j n bytes = cond (nat_lt j (n + k)) (record { wait = n + k - j; bytes = bytes } ∷ []) []

-- of the puts numbered from n
abbrev waiting : (ℕ → Option Act) → ℕ → ℕ → List Put → List Kept
waiting act j n [] = []
waiting act j n (p ∷ ps) = waits (act n) j n p.bytes ++ waiting act j (n + 1) ps

due_now : (j e : ℕ) (bytes : List ℕ) → due (cond (nat_lt j e) (record { wait = e - j; bytes = bytes } ∷ []) []) ≡ cond (e == j + 1) (bytes ∷ []) []
due_now j e bytes = grind (arith, nat_tests)

still_now : (j e : ℕ) (bytes : List ℕ) → still (cond (nat_lt j e) (record { wait = e - j; bytes = bytes } ∷ []) []) ≡ cond (nat_lt (j + 1) e) (record { wait = e - (j + 1); bytes = bytes } ∷ []) []
still_now j e bytes = grind (arith, nat_tests)

due_one : (a : Option Act) (j n : ℕ) (bytes : List ℕ) → due (waits a j n bytes) ≡ cond (is_until a n (j + 1)) (bytes ∷ []) []
due_one None j n bytes = refl
due_one (Some Lose) j n bytes = refl
due_one (Some Repeat) j n bytes = refl
due_one (Some (Hold k)) j n bytes = due_now j (n + k) bytes

still_one : (a : Option Act) (j n : ℕ) (bytes : List ℕ) → still (waits a j n bytes) ≡ waits a (j + 1) n bytes
still_one None j n bytes = refl
still_one (Some Lose) j n bytes = refl
still_one (Some Repeat) j n bytes = refl
still_one (Some (Hold k)) j n bytes = still_now j (n + k) bytes

-- one item in front, or none
in_front : {A : Type 0} (b : Bool) (x : A) (rest : List A) → cond b (x ∷ []) [] ++ rest ≡ cond b (x ∷ rest) rest
in_front {A = A} true x rest = refl
in_front {A = A} false x rest = refl

due_waiting : (act : ℕ → Option Act) (j n : ℕ) (ps : List Put) → due (waiting act j n ps) ≡ held_until act (j + 1) n ps
due_waiting act j n [] = refl
due_waiting act j n (p ∷ ps) =
    due_append (waits (act n) j n p.bytes) (waiting act j (n + 1) ps)
    ∙ ap (λ (l : List (List ℕ)). l ++ due (waiting act j (n + 1) ps)) (due_one (act n) j n p.bytes)
    ∙ ap (λ (l : List (List ℕ)). cond (is_until (act n) n (j + 1)) (p.bytes ∷ []) [] ++ l) (due_waiting act j (n + 1) ps)
    ∙ in_front (is_until (act n) n (j + 1)) p.bytes (held_until act (j + 1) (n + 1) ps)

still_waiting : (act : ℕ → Option Act) (j n : ℕ) (ps : List Put) → still (waiting act j n ps) ≡ waiting act (j + 1) n ps
still_waiting act j n [] = refl
still_waiting act j n (p ∷ ps) =
    still_append (waits (act n) j n p.bytes) (waiting act j (n + 1) ps)
    ∙ ap (λ (l : List Kept). l ++ still (waiting act j (n + 1) ps)) (still_one (act n) j n p.bytes)
    ∙ ap (λ (l : List Kept). waits (act n) (j + 1) n p.bytes ++ l) (still_waiting act j (n + 1) ps)

waiting_append : (act : ℕ → Option Act) (j n m : ℕ) (ps qs : List Put) → n + length ps ≡ m → waiting act j n (ps ++ qs) ≡ waiting act j n ps ++ waiting act j m qs
waiting_append act j n m [] qs e = ap (λ (k : ℕ). waiting act j k qs) (omega (arith, e))
waiting_append act j n m (p ∷ ps) qs e =
    ap (λ (l : List Kept). waits (act n) j n p.bytes ++ l) (waiting_append act j (n + 1) m ps qs (omega (arith, e)))
    ∙ sym (append_assoc (waits (act n) j n p.bytes) (waiting act j (n + 1) ps) (waiting act j m qs))

-- what is kept of the put after j puts
held_new : (a : Option Act) (j : ℕ) (bytes : List ℕ) → held a bytes ≡ waits a j (j + 1) bytes
held_new None j bytes = refl
held_new (Some Lose) j bytes = refl
held_new (Some Repeat) j bytes = refl
held_new (Some (Hold k)) j bytes = grind (arith, nat_tests)

-- ---- one link

-- a link after these puts on it
record IsAfter (act : ℕ → Option Act) (ps : List Put) (s : Standing) : Type 0 where
  pub acts_are : (n : ℕ) → act_at n s ≡ act n
  pub puts_are : s.puts ≡ length ps
  pub kept_are : s.kept ≡ waiting act (length ps) 1 ps

module _ (act : ℕ → Option Act) (ps : List Put) (s : Standing) (after : IsAfter act ps s) (few : length ps + 1 < 2 ^ 64) where
  number : risen s.puts ≡ length ps + 1
  number = let is : s.puts ≡ length ps = after.puts_are in omega (arith, is, few)

  the_act : next_act s ≡ act (length ps + 1)
  the_act = ap (λ (n : ℕ). act_at n s) number ∙ after.acts_are (length ps + 1)

  kept_with : (p : Put) → s.kept ++ held (next_act s) p.bytes ≡ waiting act (length ps) 1 (ps ++ p ∷ [])
  kept_with p =
      ap (λ (l : List Kept). l ++ held (next_act s) p.bytes) after.kept_are
      ∙ ap (λ (a : Option Act). waiting act (length ps) 1 ps ++ held a p.bytes) the_act
      ∙ ap (λ (l : List Kept). waiting act (length ps) 1 ps ++ l) (held_new (act (length ps + 1)) (length ps) p.bytes ∙ sym (append-nil (waits (act (length ps + 1)) (length ps) (length ps + 1) p.bytes)))
      ∙ sym (waiting_append act (length ps) 1 (length ps + 1) ps (p ∷ []) (omega arith))

  one_after : (p : Put) → IsAfter act (ps ++ p ∷ []) (after_put p s)
  one_after p = let long : length (ps ++ p ∷ []) ≡ length ps + 1 = length-append ps (p ∷ []) in record {
    acts_are = after.acts_are;
    puts_are = number ∙ sym long;
    kept_are = ap still (kept_with p) ∙ still_waiting act (length ps) 1 (ps ++ p ∷ []) ∙ ap (λ (j : ℕ). waiting act j 1 (ps ++ p ∷ [])) (sym long);
  }

  one_passed : (p : Put) → passed p s ≡ map (λ (bytes : List ℕ). record p { bytes = bytes }) (copies (act (length ps + 1)) p.bytes) ++ map (alone p.to) (held_until act (length ps + 1) 1 (ps ++ p ∷ []))
  one_passed p =
      ap (λ (a : Option Act). map (λ (bytes : List ℕ). record p { bytes = bytes }) (copies a p.bytes) ++ map (alone p.to) (due (s.kept ++ held (next_act s) p.bytes))) the_act
      ∙ ap (λ (l : List (List ℕ)). map (λ (bytes : List ℕ). record p { bytes = bytes }) (copies (act (length ps + 1)) p.bytes) ++ map (alone p.to) l) (ap due (kept_with p) ∙ due_waiting act (length ps) 1 (ps ++ p ∷ []))

-- ---- all links

puts_more : (v : ℕ) (ps : List Put) (p : Put) → puts_for v (ps ++ p ∷ []) ≡ puts_for v ps ++ cond (p.to == v) (p ∷ []) []
puts_more v [] p = refl
puts_more v (q ∷ qs) p = now (q.to == v) q (puts_for v (qs ++ p ∷ [])) (puts_for v qs) (cond (p.to == v) (p ∷ []) []) (puts_more v qs p)

no_longer : (b : Bool) (q : Put) (rest : List Put) (n : ℕ) → length rest ≤ n → length (cond b (q ∷ rest) rest) ≤ n + 1
no_longer true q rest n few = omega (arith, few)
no_longer false q rest n few = omega (arith, few)

fewer : (v : ℕ) (ps : List Put) → length (puts_for v ps) ≤ length ps
fewer v [] = omega arith
fewer v (q ∷ qs) = let more = no_longer (q.to == v) q (puts_for v qs) (length qs) (fewer v qs) in omega (arith, more)

-- the links of a node after these puts
record AllAfter (act : ℕ → ℕ → Option Act) (nodes : ℕ) (so_far : List Put) (links : List Standing) : Type 0 where
  pub count : length links ≡ nodes
  pub each : (v : ℕ) → v < nodes → IsAfter (act v) (puts_for v so_far) (link_to v links)

abbrev one : Put → List Standing → List Standing
one p links = slice_set links p.to (after_put p (link_to p.to links))

module _ (act : ℕ → ℕ → Option Act) (nodes : ℕ) (so_far : List Put) (links : List Standing) (after : AllAfter act nodes so_far links) (few : length so_far + 1 < 2 ^ 64) (p : Put) (low : p.to < nodes) where
  few_for : (v : ℕ) → length (puts_for v so_far) + 1 < 2 ^ 64
  few_for v = omega (arith, few, fewer v so_far)

  on_link : (v : ℕ) → v < nodes → (b : Bool) → (p.to == v) ≡ b → IsAfter (act v) (puts_for v (so_far ++ p ∷ [])) (link_to v (one p links))
  on_link v small true e =
      let same : p.to ≡ v = eqb-true p.to v e in
      let there : p.to < length links = let count : length links ≡ nodes = after.count in omega (arith, count, low) in
      let stands : link_to v (one p links) ≡ after_put p (link_to v links) =
      get_or-set_at links p.to v (after_put p (link_to p.to links)) no_link (sym same) there ∙ ap (λ (u : ℕ). after_put p (link_to u links)) same in
      let puts : puts_for v (so_far ++ p ∷ []) ≡ puts_for v so_far ++ p ∷ [] = puts_more v so_far p ∙ ap (λ (b : Bool). puts_for v so_far ++ cond b (p ∷ []) []) e in
      subst (λ (ps : List Put). IsAfter (act v) ps (link_to v (one p links))) (sym puts)
      (subst (IsAfter (act v) (puts_for v so_far ++ p ∷ [])) (sym stands) (one_after (act v) (puts_for v so_far) (link_to v links) (after.each v small) (few_for v) p))
  on_link v small false e =
      let stands : link_to v (one p links) ≡ link_to v links = get_or-set_other links p.to v (after_put p (link_to p.to links)) no_link (λ same. eqb-false p.to v e (sym same)) in
      let puts : puts_for v (so_far ++ p ∷ []) ≡ puts_for v so_far = puts_more v so_far p ∙ ap (λ (b : Bool). puts_for v so_far ++ cond b (p ∷ []) []) e ∙ append-nil (puts_for v so_far) in
      subst (λ (ps : List Put). IsAfter (act v) ps (link_to v (one p links))) (sym puts)
      (subst (IsAfter (act v) (puts_for v so_far)) (sym stands) (after.each v small))

  after_one : AllAfter act nodes (so_far ++ p ∷ []) (one p links)
  after_one = record {
    count = length-set links p.to (after_put p (link_to p.to links)) ∙ after.count;
    each = λ v small. on_link v small (p.to == v) refl;
  }

  passed_one : passed p (link_to p.to links) ≡ passed_at (act p.to) (length (puts_for p.to so_far) + 1) so_far p
  passed_one =
      let puts : puts_for p.to (so_far ++ p ∷ []) ≡ puts_for p.to so_far ++ p ∷ [] = puts_more p.to so_far p ∙ ap (λ (b : Bool). puts_for p.to so_far ++ cond b (p ∷ []) []) (eq-eqb p.to p.to refl) in
      let n : ℕ = length (puts_for p.to so_far) + 1 in
      one_passed (act p.to) (puts_for p.to so_far) (link_to p.to links) (after.each p.to low) (few_for p.to) p
      ∙ ap (λ (ps : List Put). map (λ (bytes : List ℕ). record p { bytes = bytes }) (copies (act p.to n) p.bytes) ++ map (alone p.to) (held_until (act p.to) n 1 ps)) (sym puts)

-- ---- all puts

longer : (so_far : List Put) (p : Put) (k : ℕ) → length so_far + (1 + k) < 2 ^ 64 → length (so_far ++ p ∷ []) + k < 2 ^ 64
longer so_far p k few = omega (arith, few, length-append so_far (p ∷ []))

all_after : (act : ℕ → ℕ → Option Act) (nodes : ℕ) (so_far ps : List Put) (links : List Standing) → AllAfter act nodes so_far links → AreFor nodes ps → length so_far + length ps < 2 ^ 64
    → AllAfter act nodes (so_far ++ ps) (after_puts ps links)
all_after act nodes so_far [] links after known few = subst (λ (l : List Put). AllAfter act nodes l links) (sym (append-nil so_far)) after
all_after act nodes so_far (p ∷ ps) links after known few =
    subst (λ (l : List Put). AllAfter act nodes l (after_puts ps (one p links))) (append_assoc so_far (p ∷ []) ps)
    (all_after act nodes (so_far ++ p ∷ []) ps (one p links) (after_one act nodes so_far links after (omega (arith, few)) p known.0) known.1 (longer so_far p (length ps) (omega (arith, few))))

all_by : (act : ℕ → ℕ → Option Act) (nodes : ℕ) (so_far ps : List Put) (links : List Standing) → AllAfter act nodes so_far links → AreFor nodes ps → length so_far + length ps < 2 ^ 64
    → all_passed ps links ≡ passed_by act so_far ps
all_by act nodes so_far [] links after known few = refl
all_by act nodes so_far (p ∷ ps) links after known few =
    ap (λ (l : List Put). l ++ all_passed ps (one p links)) (passed_one act nodes so_far links after (omega (arith, few)) p known.0)
    ∙ ap (λ (l : List Put). passed_at (act p.to) (length (puts_for p.to so_far) + 1) so_far p ++ l)
    (all_by act nodes (so_far ++ p ∷ []) ps (one p links) (after_one act nodes so_far links after (omega (arith, few)) p known.0) known.1 (longer so_far p (length ps) (omega (arith, few))))

for_both : (nodes : ℕ) (ps qs : List Put) → AreFor nodes (ps ++ qs) → AreFor nodes ps × AreFor nodes qs
for_both nodes [] qs known = (tt, known)
for_both nodes (p ∷ ps) qs known = let rest = for_both nodes ps qs known.1 in ((known.0, rest.0), rest.1)

pub by_number : (from nodes : ℕ) (acts : List LinkAct) (l : Leaving) (so_far puts : List Put) → AreNew from nodes acts l → AreFor nodes (so_far ++ puts) → length (so_far ++ puts) < 2 ^ 64
    → all_passed puts (after_puts so_far l.links) ≡ passed_by (act_of acts from) so_far puts
by_number from nodes acts l so_far puts new known few =
    let start : AllAfter (act_of acts from) nodes [] l.links = record {
      count = new.count;
      each = λ v low. record { acts_are = λ n. new.acts_are v n low; puts_are = new.no_puts v; kept_are = new.no_kept v };
    } in
    let both = for_both nodes so_far puts known in
    let long = length-append so_far puts in
    all_by (act_of acts from) nodes so_far puts (after_puts so_far l.links) (all_after (act_of acts from) nodes [] so_far l.links start both.0 (omega (arith, few, long))) both.1 (omega (arith, few, long))
