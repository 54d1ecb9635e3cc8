-- A run of kind share that leaves nothing to wait comes to what its inputs' paths count.
use Rattle.std.proofs.Common.{◌≡◌, ℕ, ◌+◌, ◌/◌, ◌%◌, ◌^◌, ◌<◌, ◌≤◌, inl, inr, List, [], ◌∷◌, ◌++◌, length, max, decimal, length-append, Bool, true, false, ◌==◌, ◌&&◌, nat_lt, if◌then◌else◌, Option, Some, None, option_map, option_and_then, slice_get, refl, sym, ap, subst, ◌∙◌, ⊎_elim, arith, eq-eqb, ne_eqb, eqb-true}
use Rattle.std.specs.List.{AllByRecursion}
use Rattle.std.proofs.Math.Nat.{mod-lt}
use Rattle.std.proofs.lemmas.Bool.{cases_eq}
use Rattle.std.proofs.lemmas.Option.{slice_get_within}
use Rattle.ken_model.specs.declared.facts.Input.{Input}
use Rattle.ken_model.specs.declared.kinds.Kind.TheVariants.{Share}
use Rattle.ken_model.specs.declared.messages.Message.{Message}
use Rattle.ken_model.specs.declared.messages.Step.{Step}
use Rattle.ken_model.specs.declared.values.Value.{Value}
use Rattle.ken_model.specs.Effects.{Effect}
use Rattle.ken_model.specs.Ending.{IsSettled}
use Rattle.ken_model.specs.Game.{Game}
use Rattle.ken_model.specs.Handler.{Handler}
use Rattle.ken_model.specs.Kinds.{after, handler_of, share, without_draws}
use Rattle.ken_model.specs.Network.{Network, Place, Turn, outside, start, inputs_for, inputs_from, numbered, handled, are_words, turn_at, turn_of, applied, applied_or_same}
use Rattle.ken_model.specs.Schedule.{IsLegal, IsLegalFrom, play, played}
use Rattle.ken_num.specs.Numbers.{num}
use Rattle.ken_num.proofs.Small.{num-lt}
use Rattle.ken_gen.specs.Shares.{Visit, counted_of, left, visits}
use Rattle.ken_gen.specs.ShareLaws.{IsShareGame, SharesComeOut}
use Rattle.ken_gen.proofs.Sums.{IsLink, total-zero}
use Rattle.ken_gen.proofs.Links.{ahead, ahead-settled, ahead-start, ahead-step, taken-few}
use Rattle.ken_gen.proofs.Paths.{GoesOn, kept, share-goes, share-root, visit, weight}

-- ---- a turn of kind share

record IsShareTurn (g : Game) (w : Network) (s : Step) (t : Turn) : Type 0 where
  next : slice_get (w.link s.from s.node).sent (w.link s.from s.node).taken ≡ Some t.message
  effect : share s.node g.nodes (w.place s.node).value (num t.message.bytes) ≡ t.effect

drawless : (draws : List ℕ) (made e : Effect) → without_draws draws made ≡ Some e → made ≡ e
drawless [] made e is = cc
drawless (d ∷ ds) made e is = absurd cc

chosen : (b : Bool) (h : Option Effect) (e : Effect) → (if b then h else None) ≡ Some e → h ≡ Some e
chosen true h e is = is
chosen false h e is = absurd cc

shared : (g : Game) (node : ℕ) (value : Value) (m : Message) (draws : List ℕ) (e : Effect) → g.handler ≡ handler_of Share → handled g node value m draws ≡ Some e → share node g.nodes value (num m.bytes) ≡ e
unfolding after
shared g node value m draws e handler is =
    let by : (if are_words draws then (handler_of Share).after node g.nodes value m draws else None) ≡ Some e = subst (λ (h : Handler). (if are_words draws then h.after node g.nodes value m draws else None) ≡ Some e) handler is in
    drawless draws (share node g.nodes value (num m.bytes)) e (chosen (are_words draws) (without_draws draws (share node g.nodes value (num m.bytes))) e by)

record IsMade (p : Place) (m : Message) (draws : List ℕ) (o : Option Effect) (t : Turn) : Type 0 where
  message : m ≡ t.message
  effect : o ≡ Some t.effect

made_of : (p : Place) (m : Message) (draws : List ℕ) (o : Option Effect) (t : Turn) → option_map (λ (e : Effect). record { message = m; draws = draws; stamp = max p.stamp m.stamp + 1; effect = e }) o ≡ Some t → IsMade p m draws o t
made_of p m draws None t is = absurd cc
made_of p m draws (Some e) t is =
    let same : record { message = m; draws = draws; stamp = max p.stamp m.stamp + 1; effect = e } ≡ t = cc in
    record { message = ap (λ (x : Turn). x.message) same; effect = ap (λ (x : Turn). Some x.effect) same }

share_turn : (g : Game) (w : Network) (s : Step) (t : Turn) → g.handler ≡ handler_of Share → turn_of g w s ≡ Some t → IsShareTurn g w s t
unfolding turn_at
share_turn g w s t handler is = few (nat_lt (w.place s.node).turns g.turns) is
  where
    at : (o : Option Message) → slice_get (w.link s.from s.node).sent (w.link s.from s.node).taken ≡ o → option_and_then (turn_at g s.node (w.place s.node) s.draws) o ≡ Some t → IsShareTurn g w s t
    at None next made = absurd cc
    at (Some m) next made =
        let parts = made_of (w.place s.node) m s.draws (handled g s.node (w.place s.node).value m s.draws) t made in
        record {
          next = next ∙ ap (λ x. Some x) parts.message;
          effect = ap (λ (x : Message). share s.node g.nodes (w.place s.node).value (num x.bytes)) (sym parts.message) ∙ shared g s.node (w.place s.node).value m s.draws t.effect handler parts.effect;
        }

    few : (b : Bool) → (if b then option_and_then (turn_at g s.node (w.place s.node) s.draws) (slice_get (w.link s.from s.node).sent (w.link s.from s.node).taken) else None) ≡ Some t → IsShareTurn g w s t
    few true made = at (slice_get (w.link s.from s.node).sent (w.link s.from s.node).taken) refl made
    few false made = absurd cc

-- ---- midway: what a node has come to, with what is still ahead of it, is what all paths count

abbrev to_come : (Visit → ℕ) → Game → ℕ → Network → ℕ
to_come f g x w = ahead (weight f x g.nodes) g.nodes w

pub record IsMidway (g : Game) (x : ℕ) (w : Network) : Type 0 where
  pub turns : (w.place x).turns + to_come (λ v. 1) g x w ≡ visits g.nodes x g.inputs
  pub made : ℕ
  pub root : (w.place x).value.root ≡ made % 2 ^ 64
  pub roots : made + to_come (λ v. v.left) g x w ≡ left g.nodes x g.inputs
  pub fit : (u v : ℕ) → (w.link u v).taken ≤ length (w.link u v).sent
  pub links : (u v : ℕ) → 0 < length (w.link u v).sent → IsLink g.nodes u v

-- ---- the start

either : {A : Type 0} (P : A → Type 0) (b : Bool) (x y : A) → P x → P y → P (if b then x else y)
either P true x y px py = px
either P false x y px py = py

inputs-known : (nodes v n : ℕ) (is : List Input) → AllByRecursion (λ (i : Input). i.node < nodes) is → 0 < length (inputs_from v n is) → v < nodes
inputs-known nodes v n [] known some = absurd (omega (arith, some))
inputs-known nodes v n (i ∷ is) known some = by (i.node == v) refl some (inputs-known nodes v n is known.1)
  where
    by : (b : Bool) → (i.node == v) ≡ b → 0 < length {A = Message} (if b then record { from = outside; to = i.node; number = n + 1; stamp = 0; bytes = i.text } ∷ inputs_from v (n + 1) is else inputs_from v n is) → (0 < length (inputs_from v n is) → v < nodes) → v < nodes
    by true e some rest = omega (arith, eqb-true i.node v e, known.0)
    by false e some rest = rest some

midway_start : (g : Game) (x : ℕ) → IsShareGame g → IsMidway g x (start g)
unfolding counted_of
midway_start g x game = record {
  turns = omega (arith, ahead-start (weight (λ v. 1) x g.nodes) g.nodes g.inputs game.few game.inputs);
  made = 0;
  root = omega arith;
  roots = omega (arith, ahead-start (weight (λ v. v.left) x g.nodes) g.nodes g.inputs game.few game.inputs);
  fit = λ u v. omega arith;
  links = λ u v some. by u v (u == outside) refl some;
}
  where
    by : (u v : ℕ) (b : Bool) → (u == outside) ≡ b → 0 < length (if b then inputs_for g v else []) → IsLink g.nodes u v
    by u v true e some = record { receiver = inputs-known g.nodes v 0 g.inputs game.inputs some; sender = inr (eqb-true u outside e) }
    by u v false e some = absurd (omega (arith, some))

-- ---- a step

next-on : (w : Network) (s : Step) (u v : ℕ) (m : Message) → slice_get (w.link s.from s.node).sent (w.link s.from s.node).taken ≡ Some m → ((u == s.from) && (v == s.node)) ≡ true → slice_get (w.link u v).sent (w.link u v).taken ≡ Some m
next-on w s u v m next both = by (u == s.from) (v == s.node) refl refl both
  where
    by : (a b : Bool) → (u == s.from) ≡ a → (v == s.node) ≡ b → (a && b) ≡ true → slice_get (w.link u v).sent (w.link u v).taken ≡ Some m
    by true true e f both = rw (eqb-true u s.from e, eqb-true v s.node f) next
    by true false e f both = absurd cc
    by false b e f both = absurd cc

-- what is sent goes to nodes of the game
sent-known : (nodes node : ℕ) (value : Value) (o : Option ℕ) (u v n stamp : ℕ) → node < nodes → 0 < length (numbered u v n stamp (share node nodes value o).sends) → v < nodes
sent-known nodes node value None u v n stamp known some = absurd (omega (arith, some))
sent-known nodes node value (Some k) u v n stamp known some = by (nat_lt 0 (k / 2)) some
  where
    next : ℕ
    next = (node + 1) % nodes

    to : (b : Bool) → (next == v) ≡ b → 0 < length {A = Message} (if b then record { from = u; to = v; number = n + 1; stamp = stamp; bytes = decimal (k / 2) } ∷ [] else []) → v < nodes
    to true e some = let lt : next < nodes = mod-lt (node + 1) (omega (arith, known)) in omega (arith, lt, eqb-true next v e)
    to false e some = absurd (omega (arith, some))

    by : (b : Bool) → 0 < length (numbered u v n stamp (if b then record { to = next; bytes = decimal (k / 2) } ∷ [] else [])) → v < nodes
    by true some = to (next == v) refl some
    by false some = absurd (omega (arith, some))

module _ (g : Game) (x : ℕ) (w : Network) (s : Step) (t : Turn) (game : IsShareGame g) (known : s.node < g.nodes) (is : IsShareTurn g w s t) (mid : IsMidway g x w) where
  link : IsLink g.nodes s.from s.node
  link = mid.links s.from s.node (omega (arith, slice_get_within (w.link s.from s.node).sent (w.link s.from s.node).taken t.message is.next))

  goes : (f : Visit → ℕ) → GoesOn f x g.nodes s.node (num t.message.bytes) t.effect
  goes f = subst (GoesOn f x g.nodes s.node (num t.message.bytes)) is.effect (share-goes f x g.nodes s.node (w.place s.node).value (num t.message.bytes) known (num-lt t.message.bytes))

  -- what is to come is less by the visit
  less : (f : Visit → ℕ) → to_come f g x (applied w s t) + (if s.node == x then f (visit s.node (num t.message.bytes)) else 0) ≡ to_come f g x w
  less f =
      let on = goes f in
      let there : IsLink g.nodes s.node on.to = record { receiver = on.known; sender = inl known } in
      let moved = ahead-step (weight f x g.nodes) g.nodes w s t on.to on.cost game.few link there mid.fit is.next on.sends in
      let whole = on.whole in
      omega (arith, moved, whole)

  -- a turn more at its node
  turns_after : ((applied w s t).place x).turns ≡ (w.place x).turns + (if s.node == x then 1 else 0)
  turns_after = ⊎_elim
      (λ (e : x ≡ s.node). let a = eq-eqb x s.node e in let b = eq-eqb s.node x (sym e) in rw (a, b) refl)
      (λ ne. let a = ne_eqb x s.node ne in let b = ne_eqb s.node x (λ e. ne (sym e)) in rw (a, b) (omega arith))
      (cases_eq x s.node)

  -- and what it leaves
  root_after : ((applied w s t).place x).value.root ≡ (mid.made + (if s.node == x then kept (num t.message.bytes) else 0)) % 2 ^ 64
  root_after = ⊎_elim
      (λ (e : x ≡ s.node).
      let a = eq-eqb x s.node e in
      let b = eq-eqb s.node x (sym e) in
      let root : (w.place s.node).value.root ≡ mid.made % 2 ^ 64 = ap (λ v. (w.place v).value.root) (sym e) ∙ mid.root in
      let made : t.effect.value.root ≡ (mid.made + kept (num t.message.bytes)) % 2 ^ 64 = ap (λ (e : Effect). e.value.root) (sym is.effect) ∙ share-root s.node g.nodes mid.made (w.place s.node).value (num t.message.bytes) root in
      rw (a, b) made)
      (λ ne. let a = ne_eqb x s.node ne in let b = ne_eqb s.node x (λ e. ne (sym e)) in rw (a, b) (omega (arith, mid.root)))
      (cases_eq x s.node)

  -- what the turn sends goes to nodes of the game
  numbered-known : (u v n stamp : ℕ) → 0 < length (numbered u v n stamp t.effect.sends) → v < g.nodes
  numbered-known u v n stamp = subst (λ (e : Effect). 0 < length (numbered u v n stamp e.sends) → v < g.nodes) is.effect (sent-known g.nodes s.node (w.place s.node).value (num t.message.bytes) u v n stamp known)

  midway_step : IsMidway g x (applied w s t)
  midway_step = record {
    turns = omega (arith, mid.turns, less (λ v. 1), turns_after);
    made = mid.made + (if s.node == x then kept (num t.message.bytes) else 0);
    root = root_after;
    roots = omega (arith, mid.roots, less (λ v. v.left));
    fit = λ u v. taken-few (u == s.node) ((u == s.from) && (v == s.node)) (w.link u v).sent (numbered u v (length (w.link u v).sent) t.stamp t.effect.sends) (w.link u v).taken t.message (mid.fit u v) (next-at u v);
    links = λ u v some. by u v (u == s.node) refl some;
  }
    where
      next-at : (u v : ℕ) → ((u == s.from) && (v == s.node)) ≡ true → slice_get (w.link u v).sent (w.link u v).taken ≡ Some t.message
      next-at u v both = next-on w s u v t.message is.next both

      by : (u v : ℕ) (b : Bool) → (u == s.node) ≡ b → 0 < length (if b then (w.link u v).sent ++ numbered u v (length (w.link u v).sent) t.stamp t.effect.sends else (w.link u v).sent) → IsLink g.nodes u v
      by u v true e some = ⊎_elim
          (λ (none : length (w.link u v).sent ≡ 0).
          let new = numbered-known u v (length (w.link u v).sent) t.stamp (omega (arith, some, none, length-append (w.link u v).sent (numbered u v (length (w.link u v).sent) t.stamp t.effect.sends))) in
          record { receiver = new; sender = inl (omega (arith, eqb-true u s.node e, known)) })
          (λ ne. mid.links u v (omega arith))
          (cases_eq (length (w.link u v).sent) 0)
      by u v false e some = mid.links u v some

-- ---- a schedule

midway_played : (g : Game) (x : ℕ) → IsShareGame g → (schedule : List Step) (w : Network) (stamp node : ℕ) → IsLegalFrom g w stamp node schedule → IsMidway g x w → IsMidway g x (played g w schedule)
unfolding IsLegalFrom played
midway_played g x game [] w stamp node legal mid = mid
midway_played g x game (s ∷ ss) w stamp node legal mid =
    let t = legal.0 in
    let after = midway_step g x w s t game legal.2 (share_turn g w s t game.handler legal.1) mid in
    let rest = midway_played g x game ss (applied w s t) t.stamp s.node legal.4 after in
    subst (λ (o : Option Turn). IsMidway g x (played g (applied_or_same w s o) ss)) (sym legal.1) rest

pub midway : (g : Game) (x : ℕ) (schedule : List Step) → IsShareGame g → IsLegal g schedule → IsMidway g x (play g schedule)
midway g x schedule game legal = midway_played g x game schedule (start g) 0 0 legal (midway_start g x game)

-- ---- the end

nothing_ahead : (f : Visit → ℕ) (g : Game) (x : ℕ) (w : Network) → IsSettled w → to_come f g x w ≡ 0
nothing_ahead f g x w settled = total-zero g.nodes _ (ahead-settled (weight f x g.nodes) g.nodes w settled)

pub shares_come_out : SharesComeOut
shares_come_out g schedule game legal settled = record {
  turns = λ v known. let mid = midway g v schedule game legal in omega (arith, mid.turns, nothing_ahead (λ v. 1) g v (play g schedule) settled);
  roots = λ v known.
      let mid = midway g v schedule game legal in
      let made : mid.made ≡ left g.nodes v g.inputs = omega (arith, mid.roots, nothing_ahead (λ v. v.left) g v (play g schedule) settled) in
      mid.root ∙ ap (λ k. k % 2 ^ 64) made;
}
