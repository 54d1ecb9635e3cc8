-- What a reader knows after a turn.
use Rattle.std.proofs.Common.{◌≡◌, ◌↔◌, ℕ, ◌+◌, ◌-◌, ◌*◌, ◌<◌, ◌≤◌, List, [], ◌∷◌, ◌++◌, length, sum_by, count_by, get_or, Bool, true, false, ◌==◌, ◌&&◌, if◌then◌else◌, nat_lt, suc, zero, ◌⊎◌, inl, inr, ⊎_elim, ◌^◌, Option, Some, None, option_and_then, option_map, Result, Ok, Err, IfOk, IsErrOf, ◌≢◌, refl, sym, ap, ap₂, subst, ◌∙◌, arith, eq-eqb, ne_eqb, eqb-true, ltb-true, length-append}
use Rattle.std.specs.declared.alloc.AllocError.{AllocError}
use Rattle.ken_model.specs.declared.reports.Emission.{Emission}
use Rattle.ken_model.specs.declared.reports.RestartLine.{RestartLine}
use Rattle.ken_model.specs.Emissions.{AreByNode, AreEmitted}
use Rattle.ken_model.specs.Ending.{nodes_of, waiting_on}
use Rattle.ken_model.specs.Restarts.{AreRestartsByNode}
use Rattle.ken_model.specs.declared.facts.TheConstants.{MAX_INPUTS}
use Rattle.ken_model.specs.declared.messages.Done.{Done}
use Rattle.ken_model.specs.declared.messages.Message.{Message}
use Rattle.std.specs.List.{AllByRecursion}
use Rattle.std.proofs.lemmas.Bool.{cases_eq, cases_lt}
use Rattle.std.proofs.lemmas.List.Sums.{count_by-le-length, sum_by-cons}
use Rattle.std.proofs.lemmas.Option.{slice_get_within}
use Rattle.std.specs.List.{range_with_len}
use Rattle.ken_model.specs.Spelling.{IsWord}
use Rattle.ken_model.specs.declared.messages.Out.{Out}
use Rattle.ken_model.specs.declared.messages.Send.{Send}
use Rattle.ken_model.specs.declared.messages.Step.{Step}
use Rattle.ken_actors.specs.Actors.{AreAlike, HasNoMessage, HasWrongDraws, IsCapped, IsStep}
use Rattle.ken_actors.specs.Decided.{IsDecided}
use Rattle.ken_actors.specs.Playing.{Playing, game_for}
use Rattle.ken_model.specs.Game.{Game}
use Rattle.ken_model.specs.Handler.{Handler}
use Rattle.ken_model.specs.Posted.{posted_after}
use Rattle.ken_model.specs.Network.{Link, Network, Place, Turn, applied, applied_or_same, are_words, front, handled, link_after, numbered, outputs_from, outside, place_after, start, stepped, turn_at, turn_of}
use Rattle.ken_model.specs.Schedule.{ComesBefore, IsLegalFrom, play, played}
use Rattle.ken_actors.specs.declared.faults.StepFault.{StepFault}
use Rattle.ken_actors.specs.declared.faults.StepFault.TheVariants.{Capped, Draws, Memory, NoMessage}
use Rattle.ken_model.specs.Effects.{Effect}
use Rattle.ken_check.specs.declared.checker.Checker.{Checker}
use Rattle.ken_check.specs.declared.known.Known.{Known}
use Rattle.ken_check.specs.Counts.{HaveTurned}
use Rattle.ken_check.specs.Kinds.{IsTurnOf}
use Rattle.ken_check.specs.declared.reader.Reader.{Reader}
use Rattle.ken_check.specs.Knowing.{Follows, HasOnlyNodes, IsAnswered, IsLegalTo, Knows, KnowsNode}
use Rattle.ken_check.specs.Right.{AreEmissionsSoFar, AreRestartsSoFar, Told}
use Rattle.ken_check.proofs.Beyond.{AreKnown, known_sent, only_after_step}

-- a step that is defined
pub stepped_is : (g : Game) (w : Network) (s : Step) (t : Turn) → turn_of g w s ≡ Some t → stepped g w s ≡ applied w s t
stepped_is g w s t made = ap (applied_or_same w s) made

-- the network after one more step
pub played_push : (g : Game) (w : Network) (ss : List Step) (s : Step) → played g w (ss ++ s ∷ []) ≡ stepped g (played g w ss) s
unfolding played
played_push g w [] s = refl
played_push g w (x ∷ ss) s = played_push g (stepped g w x) ss s

pub legal_whole : (g : Game) (w : Network) (a b : ℕ) (ss : List Step) (c d : ℕ) → IsLegalTo g w a b ss c d → IsLegalFrom g w a b ss
unfolding IsLegalTo IsLegalFrom
legal_whole g w a b [] c d legal = tt
legal_whole g w a b (x ∷ ss) c d (t, made, known, before, rest) = (t, made, known, before, legal_whole g (applied w x t) t.stamp x.node ss c d rest)

-- a legal schedule goes on with a step that is defined, of a node of the game, after the last
pub legal_push : (g : Game) (w : Network) (a b : ℕ) (ss : List Step) (c d : ℕ) (s : Step) (t : Turn) → IsLegalTo g w a b ss c d → turn_of g (played g w ss) s ≡ Some t → s.node < g.nodes → ComesBefore c d t.stamp s.node → IsLegalTo g w a b (ss ++ s ∷ []) t.stamp s.node
unfolding IsLegalTo played
legal_push g w a b [] c d s t (same, also) made known before = (t, made, known, subst (λ (n : ℕ). ComesBefore a n t.stamp s.node) (sym also) (subst (λ (n : ℕ). ComesBefore n d t.stamp s.node) (sym same) before), (refl, refl))
legal_push g w a b (x ∷ ss) c d s t (u, makes, of_game, first, rest) made known before =
    (u, makes, of_game, first, legal_push g (applied w x u) u.stamp x.node ss c d s t rest (subst (λ (n : Network). turn_of g (played g n ss) s ≡ Some t) (stepped_is g w x u makes) made) known before)

-- and with no other
pub legal_last : (g : Game) (w : Network) (a b : ℕ) (ss : List Step) (c d : ℕ) (s : Step) (t : Turn) → IsLegalTo g w a b ss c d → turn_of g (played g w ss) s ≡ Some t → IsLegalFrom g w a b (ss ++ s ∷ []) → (s.node < g.nodes) × ComesBefore c d t.stamp s.node
unfolding IsLegalTo IsLegalFrom played
legal_last g w a b [] c d s t (same, also) made (t2, made2, known, before, rest) =
    let one : t2 ≡ t = cc in
    (known, subst (λ (x : Turn). ComesBefore c d x.stamp s.node) one (subst (λ (n : ℕ). ComesBefore c n t2.stamp s.node) also (subst (λ (n : ℕ). ComesBefore n b t2.stamp s.node) same before)))
legal_last g w a b (x ∷ ss) c d s t (u, makes, of_game, first, rest) made (u2, makes2, of_game2, first2, rest2) =
    let one : u2 ≡ u = cc in
    let later = subst (λ (y : Turn). IsLegalFrom g (applied w x y) y.stamp x.node (ss ++ s ∷ [])) one rest2 in
    legal_last g (applied w x u) u.stamp x.node ss c d s t rest (subst (λ (n : Network). turn_of g (played g n ss) s ≡ Some t) (stepped_is g w x u makes) made) later

-- networks that agree have the same turns, and agree after them
pub alike_turn : (g : Game) (w w2 : Network) (s : Step) → AreAlike w w2 → turn_of g w s ≡ turn_of g w2 s
alike_turn g w w2 s alike = ap₂ (λ (p : Place) (l : Link). if nat_lt p.turns g.turns then option_and_then (turn_at g s.node p s.draws) (front l) else None) (alike.place s.node) (alike.link s.from s.node)

pub alike_applied : (w w2 : Network) (s : Step) (t : Turn) → AreAlike w w2 → AreAlike (applied w s t) (applied w2 s t)
alike_applied w w2 s t alike = record {
  place = λ v. ap (λ (p : Place). if v == s.node then place_after p t else p) (alike.place v);
  link = λ u v. ap (λ (l : Link). link_after s t u v l) (alike.link u v);
}

pub alike_trans : (a b c : Network) → AreAlike a b → AreAlike b c → AreAlike a c
alike_trans a b c first second = record { place = λ v. first.place v ∙ second.place v; link = λ u v. first.link u v ∙ second.link u v }

pub alike_same : (a b c : Network) → AreAlike a b → b ≡ c → AreAlike a c
alike_same a b c alike same = subst (AreAlike a) same alike

-- outputs of a turn come after those before
pub outputs_append : (n m : ℕ) (xs ys : List (List ℕ)) → n + length xs ≡ m → outputs_from n xs ++ outputs_from m ys ≡ outputs_from n (xs ++ ys)
unfolding outputs_from
outputs_append n m [] ys same = ap (λ (k : ℕ). outputs_from k ys) (omega (arith, same))
outputs_append n m (x ∷ xs) ys same = ap (λ os. record { number = n + 1; text = x } ∷ os) (outputs_append (n + 1) m xs ys (omega (arith, same)))

-- a step that is defined took a message that waits
opened : {X Y : Type 0} (b : Bool) (f : X → Option Y) (o : Option X) (y : Y) → (if b then option_and_then f o else None) ≡ Some y → (b ≡ true) × ((x : X) × (o ≡ Some x))
opened true f (Some x) y e = (refl, (x, refl))
opened true f None y e = absurd cc
opened false f o y e = absurd cc

pub turn_opened : (g : Game) (w : Network) (s : Step) (t : Turn) → turn_of g w s ≡ Some t → ((w.place s.node).turns < g.turns) × ((m : Message) × (front (w.link s.from s.node) ≡ Some m))
turn_opened g w s t made = let o = opened (nat_lt (w.place s.node).turns g.turns) (turn_at g s.node (w.place s.node) s.draws) (front (w.link s.from s.node)) t made in (ltb-true (w.place s.node).turns g.turns o.0, o.1)

-- a step that is defined took a message
no_turn : (b : Bool) (f : Message → Option Turn) (o : Option Message) (t : Turn) → (if b then option_and_then f o else None) ≡ Some t → (m : Message) × (o ≡ Some m) × (f m ≡ Some t)
no_turn true f (Some m) t e = (m, refl, e)
no_turn true f None t e = absurd cc
no_turn false f o t e = absurd cc

-- the actors' turn of a step is that of the schedule
pub same_turn : (g : Game) (p : Playing) (w : Network) (s : Step) → p.game ≡ g → AreAlike p.network w → turn_of p.game p.network s ≡ turn_of g w s
same_turn g p w s game alike = ap (λ (h : Game). turn_of h p.network s) game ∙ alike_turn g p.network w s alike

-- a right turn line of a step, and what it says of the step
pub record IsNext (g : Game) (c : Checker) (told : Told) (s : Step) (t : Turn) : Type 0 where
  pub made : turn_of g (play g told.schedule) s ≡ Some t
  pub known : s.node < g.nodes
  pub before : ComesBefore c.stamp c.node t.stamp s.node

pub is_next : (g : Game) (most : ℕ) (c : Checker) (told : Told) (s : Step) (bytes : List ℕ) (told2 : Told) → Knows g most c told → (of_step : IsTurnOf g s told bytes told2) → IsNext g c told s of_step.0.turn
is_next g most c told s bytes told2 knows (l, is) =
    let last = legal_last g (start g) 0 0 told.schedule c.stamp c.node l.step l.turn knows.legal l.made l.legal in
    subst (λ (x : Step). IsNext g c told x l.turn) is (record { made = l.made; known = last.0; before = last.1 })

-- a node that is none of the run makes no turn
pub wrong_node : (g : Game) (most : ℕ) (c : Checker) (told : Told) (s : Step) (bytes : List ℕ) (told2 : Told) → c.facts.now.nodes ≤ s.node → Knows g most c told → IsTurnOf g s told bytes told2 → ⊥
wrong_node g most c told s bytes told2 past knows of_step =
    let known = (is_next g most c told s bytes told2 knows of_step).known in
    let nodes : c.facts.now.nodes ≡ g.nodes = ap (λ (h : Game). h.nodes) knows.game in
    omega (arith, past, known, nodes)

-- a step that the actors refuse isn't defined
by_effect : (o : Option Effect) (f : Effect → Turn) (t : Turn) → o ≡ None → option_map f o ≡ Some t → ⊥
by_effect None f t none e = absurd cc
by_effect (Some x) f t none e = absurd cc

pub refused_turn : (p : Playing) (s : Step) (t : Turn) (r : Result Done StepFault) (fault : StepFault) → r ≡ Err fault → fault ≢ Memory → (IsErrOf r Capped ↔ IsCapped p s) → (IsErrOf r NoMessage ↔ HasNoMessage p s) → (IsErrOf r Draws → HasWrongDraws p s) → turn_of p.game p.network s ≡ Some t → ⊥
unfolding turn_at
refused_turn p s t r Capped is other capped no_message draws made =
    let past = capped.0 (subst (λ (x : Result Done StepFault). IsErrOf x Capped) (sym is) refl) in
    let few = (turn_opened p.game p.network s t made).0 in
    omega (arith, past, few)
refused_turn p s t r NoMessage is other capped no_message draws made =
    let none = (no_message.0 (subst (λ (x : Result Done StepFault). IsErrOf x NoMessage) (sym is) refl)).1 in
    let some = (turn_opened p.game p.network s t made).1.1 in
    absurd cc
refused_turn p s t r Draws is other capped no_message draws made =
    let wrong = draws (subst (λ (x : Result Done StepFault). IsErrOf x Draws) (sym is) refl) in
    let o = no_turn (nat_lt (p.network.place s.node).turns p.game.turns) (turn_at p.game s.node (p.network.place s.node) s.draws) (front (p.network.link s.from s.node)) t made in
    let one : o.0 ≡ wrong.message = (let waits = wrong.waits in let found = o.1 in cc) in
    let undefined = ap (λ (m : Message). handled p.game s.node (p.network.place s.node).value m s.draws) one ∙ wrong.undefined in
    by_effect _ _ t undefined o.2
refused_turn p s t r Memory is other capped no_message draws made = absurd (other refl)

-- the turn that the actors made is the step's
pub one_turn : (g : Game) (p now : Playing) (w : Network) (s : Step) (done : Done) (t : Turn) → p.game ≡ g → AreAlike p.network w → (made : IsStep p now s done) → turn_of g w s ≡ Some t → made.turn ≡ t
one_turn g p now w s done t game alike made is = let same : Some made.turn ≡ Some t = sym made.defined ∙ same_turn g p w s game alike ∙ is in cc

-- the answer where a step isn't made
pub heard_refusal : {A H : Type 0} (h : A → Handler) (g : Game) (most : ℕ) (IsKind : Told → List ℕ → Told → Type 0) (P : Type 0) (old new : Reader A H) (text : List ℕ) (r : Result Bool AllocError)
    → IfOk r (λ right. (right ≡ false) × P) → (IsDecided g.handler → (told : Told) → Follows h g most old told → (told2 : Told) → IsKind told (text ++ 10 ∷ []) told2 → P → ⊥) → IsAnswered h g most IsKind old new text r
heard_refusal h g most IsKind P old new text (Ok true) (is, p) never = (let differ : true ≡ false = is in absurd cc)
heard_refusal h g most IsKind P old new text (Ok false) (is, p) never = λ decided told follows told2 line. never decided told follows told2 line p
heard_refusal h g most IsKind P old new text (Err e) ok never = tt

-- a checker after the turn of a step
pub record IsAfterTurn (s : Step) (done : Done) (before now : Playing) (c c2 : Checker) : Type 0 where
  pub facts : c2.facts.now ≡ c.facts.now
  pub limit : c2.most ≡ c.most
  pub actors : IsStep before now s done
  pub nodes : HaveTurned s.node done c.nodes.items c2.nodes.items
  pub turns : c2.turns ≡ c.turns + 1
  pub stamp : c2.stamp ≡ done.stamp
  pub node : c2.node ≡ s.node
  pub has_emissions : c2.has_emissions ≡ c.has_emissions
  pub emitter : c2.emitter ≡ c.emitter
  pub has_restarts : c2.has_restarts ≡ c.has_restarts
  pub restarted : c2.restarted ≡ c.restarted
  pub heaps : c2.heaps ≡ c.heaps
  pub ended : c2.ended ≡ c.ended

no_emissions_so_far : (g : Game) (schedule : List Step) (es : List Emission) → es ≡ [] → AreEmissionsSoFar g schedule es
unfolding AreByNode AreEmitted
no_emissions_so_far g schedule es none = subst (AreEmissionsSoFar g schedule) (sym none) (record { known = tt; by_node = tt; each = λ v known. tt })

no_restarts_so_far : (g : Game) (most : ℕ) (schedule : List Step) (rs : List RestartLine) → rs ≡ [] → AreRestartsSoFar g most schedule rs
unfolding AreRestartsByNode
no_restarts_so_far g most schedule rs none = subst (AreRestartsSoFar g most schedule) (sym none) (record { by_node = tt; few = λ v known. omega arith; rise = λ v known. omega arith })

both : (a b : Bool) → (a && b) ≡ true → (a ≡ true) × (b ≡ true)
both true b e = (refl, e)
both false b e = absurd cc

all_words : (ds : List ℕ) → are_words ds ≡ true → AllByRecursion IsWord ds
all_words [] e = tt
all_words (d ∷ ds) e = let parts = both (nat_lt d (2 ^ 64)) (are_words ds) e in (ltb-true d (2 ^ 64) parts.0, all_words ds parts.1)

if_words : (b : Bool) (o : Option Effect) (f : Effect → Turn) (t : Turn) → option_map f (if b then o else None) ≡ Some t → b ≡ true
if_words true o f t e = refl
if_words false o f t e = absurd cc

-- the draws of a step that is defined are words
pub draws_are_words : (g : Game) (w : Network) (s : Step) (t : Turn) → turn_of g w s ≡ Some t → AllByRecursion IsWord s.draws
unfolding turn_at
draws_are_words g w s t made =
    let o = no_turn (nat_lt (w.place s.node).turns g.turns) (turn_at g s.node (w.place s.node) s.draws) (front (w.link s.from s.node)) t made in
    all_words s.draws (if_words (are_words s.draws) _ _ t o.2)

eqb_turned : (a b : ℕ) → (a == b) ≡ (b == a)
eqb_turned a b = ⊎_elim (λ (e : a ≡ b). eq-eqb a b e ∙ sym (eq-eqb b a (sym e))) (λ (ne : a ≡ b → ⊥). ne_eqb a b ne ∙ sym (ne_eqb b a (λ e. ne (sym e)))) (cases_eq a b)

outs_by : (a b : Bool) → a ≡ b → (old done new : List Out) (p : Place) (t : Turn) → new ≡ (if a then old ++ done else old) → old ≡ outputs_from 0 p.outs → (a ≡ true → done ≡ outputs_from (length p.outs) t.effect.outs) → new ≡ outputs_from 0 (if b then place_after p t else p).outs
outs_by true true same old done new p t is before more = is ∙ ap₂ (λ (x y : List Out). x ++ y) before (more refl) ∙ outputs_append 0 (length p.outs) p.outs t.effect.outs (omega arith)
outs_by false false same old done new p t is before more = is ∙ before
outs_by true false same old done new p t is before more = absurd cc
outs_by false true same old done new p t is before more = absurd cc

turns_by : (a b : Bool) → a ≡ b → (old new : ℕ) (p : Place) (t : Turn) → new ≡ (if a then old + 1 else old) → old ≡ p.turns → new ≡ (if b then place_after p t else p).turns
turns_by true true same old new p t is before = is ∙ ap (λ (n : ℕ). n + 1) before
turns_by false false same old new p t is before = is ∙ before
turns_by true false same old new p t is before = absurd cc
turns_by false true same old new p t is before = absurd cc

-- a link's count of what waits, after a turn
waits_by : (a b c : Bool) (sent taken more : ℕ) → taken ≤ sent → ((b && c) ≡ true → taken < sent) → ((if a then sent + more else sent) - (if b && c then taken + 1 else taken)) + (if c then (if b then 1 else 0) else 0) ≡ (sent - taken) + (if a then more else 0)
waits_by true true true sent taken more few waits = omega (arith, few, waits refl)
waits_by true true false sent taken more few waits = omega (arith, few)
waits_by true false true sent taken more few waits = omega (arith, few)
waits_by true false false sent taken more few waits = omega (arith, few)
waits_by false true true sent taken more few waits = omega (arith, few, waits refl)
waits_by false true false sent taken more few waits = omega (arith, few)
waits_by false false true sent taken more few waits = omega (arith, few)
waits_by false false false sent taken more few waits = omega (arith, few)

length_if : (a : Bool) (xs ys : List Message) → length (if a then xs ++ ys else xs) ≡ (if a then length xs + length ys else length xs)
length_if true xs ys = length-append xs ys
length_if false xs ys = refl

-- how many of a turn's sends are for node v
abbrev pub sends_for : ℕ → List Send → ℕ
sends_for v ss = count_by (λ (x : Send). x.to == v) ss

length_next : (b : Bool) (m : Message) (xs ys : List Message) (n : ℕ) → length xs ≡ n → length ys ≡ n → length (if b then m ∷ xs else ys) ≡ (if b then 1 else 0) + n
length_next true m xs ys n a b = omega (arith, a)
length_next false m xs ys n a b = omega (arith, b)

length_numbered : (u v n stamp : ℕ) (ss : List Send) → length (numbered u v n stamp ss) ≡ sends_for v ss
length_numbered u v n stamp [] = refl
length_numbered u v n stamp (x ∷ ss) =
    let more = length_numbered u v (n + 1) stamp ss in
    let same = length_numbered u v n stamp ss in
    length_next (x.to == v) _ (numbered u v (n + 1) stamp ss) (numbered u v n stamp ss) (sends_for v ss) more same ∙ sym (sum_by-cons (λ (y : Send). if y.to == v then 1 else 0) x ss)

posted_for : (u v stamp : ℕ) (counts : ℕ → ℕ) (ss : List Send) → count_by (λ (m : Message). m.to == v) (posted_after u stamp counts ss) ≡ sends_for v ss
posted_for u v stamp counts [] = refl
posted_for u v stamp counts (x ∷ ss) =
    let next = λ (w : ℕ). if w == x.to then counts w + 1 else counts w in
    sum_by-cons (λ (m : Message). if m.to == v then 1 else 0) (record { from = u; to = x.to; number = counts x.to + 1; stamp = stamp; bytes = x.bytes }) (posted_after u stamp next ss) ∙ ap (λ (n : ℕ). (if x.to == v then 1 else 0) + n) (posted_for u v stamp next ss) ∙ sym (sum_by-cons (λ (y : Send). if y.to == v then 1 else 0) x ss)

link_waits : (s : Step) (t : Turn) (u v : ℕ) (l : Link) → l.taken ≤ length l.sent → (((u == s.from) && (v == s.node)) ≡ true → l.taken < length l.sent)
    → waiting_on (link_after s t u v l) + (if v == s.node then (if u == s.from then 1 else 0) else 0) ≡ waiting_on l + (if u == s.node then sends_for v t.effect.sends else 0)
link_waits s t u v l few waits =
    let d = if v == s.node then (if u == s.from then 1 else 0) else 0 in
    let taken = if (u == s.from) && (v == s.node) then l.taken + 1 else l.taken in
    ap (λ (n : ℕ). (n - taken) + d) (length_if (u == s.node) l.sent (numbered u v (length l.sent) t.stamp t.effect.sends) ∙ ap (λ (n : ℕ). if u == s.node then length l.sent + n else length l.sent) (length_numbered u v (length l.sent) t.stamp t.effect.sends))
    ∙ waits_by (u == s.node) (u == s.from) (v == s.node) (length l.sent) l.taken (sends_for v t.effect.sends) few waits

-- sums of two functions
pub sum_two : (f d h e : ℕ → ℕ) (xs : List ℕ) → ((u : ℕ) → f u + d u ≡ h u + e u) → sum_by f xs + sum_by d xs ≡ sum_by h xs + sum_by e xs
sum_two f d h e [] each = refl
sum_two f d h e (x ∷ xs) each = omega (arith, sum_two f d h e xs each, each x, sum_by-cons f x xs, sum_by-cons d x xs, sum_by-cons h x xs, sum_by-cons e x xs)

-- a sum that has one place
sum_out : (k c a n : ℕ) → ((u : ℕ) → a ≤ u → u < a + n → u ≡ k → ⊥) → sum_by (λ u. if u == k then c else 0) (range_with_len a n) ≡ 0
sum_out k c a zero out = refl
sum_out k c a (suc n) out =
    let here = ne_eqb a k (λ e. out a (omega arith) (omega arith) e) in
    let head = rw here at (sum_by-cons (λ u. if u == k then c else 0) a (range_with_len (a + 1) n)) in
    omega (arith, head, sum_out k c (a + 1) n (λ u low high. out u (omega (arith, low)) (omega (arith, high))))

pub sum_in : (k c a n : ℕ) → a ≤ k → k < a + n → sum_by (λ u. if u == k then c else 0) (range_with_len a n) ≡ c
sum_in k c a zero low high = absurd (omega (arith, low, high))
sum_in k c a (suc n) low high =
    let head = sum_by-cons (λ u. if u == k then c else 0) a (range_with_len (a + 1) n) in
    ⊎_elim
    (λ (e : a ≡ k). head ∙ rw (eq-eqb a k e) (omega (arith, sum_out k c (a + 1) n (λ u past within same. omega (arith, past, same, e)))))
    (λ (ne : a ≡ k → ⊥). (let there = rw (ne_eqb a k ne) at head in omega (arith, there, sum_in k c (a + 1) n (omega (arith, low, ne)) (omega (arith, high)))))
    (cases_eq a k)

-- what every network of a schedule keeps: no more was taken than sent, and nobody but nodes and the outside sends
pub record IsTidy (g : Game) (w : Network) : Type 0 where
  pub taken : (u v : ℕ) → (w.link u v).taken ≤ length (w.link u v).sent
  pub strangers : (u v : ℕ) → (u ≡ outside → ⊥) → g.nodes ≤ u → length (w.link u v).sent ≡ 0

taken_by : (a b c : Bool) (xs ys : List Message) (taken : ℕ) → taken ≤ length xs → ((b && c) ≡ true → taken < length xs) → (if b && c then taken + 1 else taken) ≤ length (if a then xs ++ ys else xs)
taken_by true true true xs ys taken few waits = omega (arith, waits refl, length-append xs ys)
taken_by true true false xs ys taken few waits = omega (arith, few, length-append xs ys)
taken_by true false c xs ys taken few waits = omega (arith, few, length-append xs ys)
taken_by false true true xs ys taken few waits = omega (arith, waits refl)
taken_by false true false xs ys taken few waits = omega (arith, few)
taken_by false false c xs ys taken few waits = omega (arith, few)

-- the message of a step waits
pub step_waits : (g : Game) (w : Network) (s : Step) (t : Turn) → turn_of g w s ≡ Some t → (u v : ℕ) → ((u == s.from) && (v == s.node)) ≡ true → (w.link u v).taken < length (w.link u v).sent
step_waits g w s t made u v here =
    let parts = both (u == s.from) (v == s.node) here in
    let o = (turn_opened g w s t made).1 in
    let there : (w.link s.from s.node).taken < length (w.link s.from s.node).sent = slice_get_within (w.link s.from s.node).sent (w.link s.from s.node).taken o.0 o.1 in
    subst (λ (n : ℕ). (w.link n v).taken < length (w.link n v).sent) (sym (eqb-true u s.from parts.0)) (subst (λ (n : ℕ). (w.link s.from n).taken < length (w.link s.from n).sent) (sym (eqb-true v s.node parts.1)) there)

tidy_applied : (g : Game) (w : Network) (s : Step) (t : Turn) → IsTidy g w → turn_of g w s ≡ Some t → s.node < g.nodes → IsTidy g (applied w s t)
tidy_applied g w s t tidy made known = record {
  taken = λ u v. taken_by (u == s.node) (u == s.from) (v == s.node) (w.link u v).sent (numbered u v (length (w.link u v).sent) t.stamp t.effect.sends) (w.link u v).taken (tidy.taken u v) (step_waits g w s t made u v);
  strangers = λ u v other past. rw (ne_eqb u s.node (λ e. omega (arith, past, known, e))) (tidy.strangers u v other past);
}

pub tidy_played : (g : Game) (w : Network) (a b : ℕ) (ss : List Step) (c d : ℕ) → IsLegalTo g w a b ss c d → IsTidy g w → IsTidy g (played g w ss)
unfolding IsLegalTo played
tidy_played g w a b [] c d legal tidy = tidy
tidy_played g w a b (x ∷ ss) c d (t, made, known, before, rest) tidy =
    subst (λ (n : Network). IsTidy g (played g n ss)) (sym (stepped_is g w x t made)) (tidy_played g (applied w x t) t.stamp x.node ss c d rest (tidy_applied g w x t tidy made known))

pub tidy_start : (g : Game) → IsTidy g (start g)
tidy_start g = record { taken = λ u v. omega arith; strangers = λ u v other past. rw (ne_eqb u outside other) refl }

-- who sent the message of a step
pub sender_of_turn : (g : Game) (w : Network) (s : Step) (t : Turn) → IsTidy g w → turn_of g w s ≡ Some t → (s.from ≡ outside) ⊎ (s.from < g.nodes)
sender_of_turn g w s t tidy made =
    let o = (turn_opened g w s t made).1 in
    let there : (w.link s.from s.node).taken < length (w.link s.from s.node).sent = slice_get_within (w.link s.from s.node).sent (w.link s.from s.node).taken o.0 o.1 in
    ⊎_elim (λ (e : s.from ≡ outside). inl e) (λ (ne : s.from ≡ outside → ⊥). ⊎_elim (λ (node : s.from < g.nodes). inr node) (λ (past : g.nodes ≤ s.from). absurd (omega (arith, there, tidy.strangers s.from s.node ne past))) (cases_lt s.from g.nodes)) (cases_eq s.from outside)

pub sum_none : (xs : List ℕ) → sum_by (λ u. 0) xs ≡ 0
sum_none [] = refl
sum_none (x ∷ xs) = sum_by-cons (λ u. 0) x xs ∙ omega (arith, sum_none xs)

-- a sender is counted once
sum_once : (k c n : ℕ) → n ≤ 8 → (k ≡ outside) ⊎ (k < n) → sum_by (λ u. if u == k then c else 0) (outside ∷ range_with_len 0 n) ≡ c
sum_once k c n few from =
    let head = sum_by-cons (λ u. if u == k then c else 0) outside (range_with_len 0 n) in
    ⊎_elim
    (λ (e : k ≡ outside). (let there = rw (eq-eqb outside k (sym e)) at head in omega (arith, there, sum_out k c 0 n (λ u low high same. omega (arith, high, same, e, few)))))
    (λ (node : k < n). (let there = rw (ne_eqb outside k (λ e. omega (arith, e, node, few))) at head in omega (arith, there, sum_in k c 0 n (omega arith) (omega (arith, node)))))
    from

sum_from : (k n : ℕ) (b : Bool) → n ≤ 8 → (k ≡ outside) ⊎ (k < n) → sum_by (λ u. if b then (if u == k then 1 else 0) else 0) (outside ∷ range_with_len 0 n) ≡ (if b then 1 else 0)
sum_from k n true few from = sum_once k 1 n few from
sum_from k n false few from = sum_none (outside ∷ range_with_len 0 n)

came_by : (a b : Bool) → a ≡ b → (old_turns turns came old_came more waits old_waits : ℕ) → turns ≡ (if a then old_turns + 1 else old_turns) → came ≡ old_came + more → old_came ≡ old_turns + old_waits → waits + (if b then 1 else 0) ≡ old_waits + more → came ≡ turns + waits
came_by true true same old_turns turns came old_came more waits old_waits t c o e = omega (arith, t, c, o, e)
came_by false false same old_turns turns came old_came more waits old_waits t c o e = omega (arith, t, c, o, e)
came_by true false same old_turns turns came old_came more waits old_waits t c o e = absurd cc
came_by false true same old_turns turns came old_came more waits old_waits t c o e = absurd cc

-- the schedule with the step, and what its network is
module _ (g : Game) (most : ℕ) (p p2 : Playing) (c c2 : Checker) (told : Told) (s : Step) (done : Done) (knows : Knows g most c told) (game : p.game ≡ g) (alike : AreAlike p.network (play g told.schedule))
    (after : IsAfterTurn s done p p2 c c2) (few_sent : length done.sends < 2 ^ 32) (known_sends : AllByRecursion (λ (m : Message). m.to < g.nodes) done.sends)
    (known : s.node < g.nodes) (before : ComesBefore c.stamp c.node after.actors.turn.stamp s.node) (no_emission : told.emissions ≡ []) (no_restart : told.restarts ≡ []) where
  abbrev t : Turn
  t = after.actors.turn

  abbrev w : Network
  w = play g told.schedule

  abbrev told2 : Told
  told2 = record told { schedule = told.schedule ++ s ∷ [] }

  turn_is : turn_of g w s ≡ Some t
  turn_is = sym (same_turn g p w s game alike) ∙ after.actors.defined

  network_is : play g told2.schedule ≡ applied w s t
  network_is = played_push g (start g) told.schedule s ∙ stepped_is g w s t turn_is

  pub alike_now : AreAlike p2.network (play g told2.schedule)
  alike_now =
      let first = alike_trans p2.network (applied p.network s t) (applied w s t) after.actors.network (alike_applied p.network w s t alike) in
      alike_same p2.network (applied w s t) (play g told2.schedule) first (sym network_is)

  sent_known : AreKnown g.nodes t.effect.sends
  sent_known = known_sent g.nodes s.node t.stamp _ t.effect.sends (subst (λ (ms : List Message). AllByRecursion (λ (m : Message). m.to < g.nodes) ms) after.actors.sends known_sends)

  only_now : HasOnlyNodes g (play g told2.schedule)
  only_now = subst (HasOnlyNodes g) (sym network_is) (only_after_step g w s t knows.only sent_known known)

  legal_now : IsLegalTo g (start g) 0 0 told2.schedule c2.stamp c2.node
  legal_now =
      let there = legal_push g (start g) 0 0 told.schedule c.stamp c.node s t knows.legal turn_is known before in
      subst (λ (n : ℕ). IsLegalTo g (start g) 0 0 told2.schedule c2.stamp n) (sym after.node) (subst (λ (n : ℕ). IsLegalTo g (start g) 0 0 told2.schedule n s.node) (sym (after.stamp ∙ after.actors.stamp)) there)

  sender_now : (s.from ≡ outside) ⊎ (s.from < g.nodes)
  sender_now = sender_of_turn g w s t (tidy_played g (start g) 0 0 told.schedule c.stamp c.node knows.legal (tidy_start g)) turn_is

  came_now : (v : ℕ) → v < g.nodes → (none : Known) → (get_or c2.nodes.items v none).came ≡ (get_or c2.nodes.items v none).turns + sum_by (λ u. waiting_on ((play g told2.schedule).link u v)) (outside ∷ nodes_of g)
  came_now v of_game none =
      let old = knows.each v of_game none in
      let moved = after.nodes.each v (omega (arith, of_game, knows.width)) none in
      let tidy = tidy_played g (start g) 0 0 told.schedule c.stamp c.node knows.legal (tidy_start g) in
      let few : g.nodes ≤ 8 = knows.limits.few_nodes in
      let more = sends_for v t.effect.sends in
      let from : (s.from ≡ outside) ⊎ (s.from < g.nodes) = sender_now in
      let moves = sum_two (λ u. waiting_on ((applied w s t).link u v)) (λ u. if v == s.node then (if u == s.from then 1 else 0) else 0) (λ u. waiting_on (w.link u v)) (λ u. if u == s.node then more else 0) (outside ∷ nodes_of g) (λ u. link_waits s t u v (w.link u v) (tidy.taken u v) (step_waits g w s t turn_is u v)) in
      let taken = sum_from s.from g.nodes (v == s.node) few from in
      let sent = sum_once s.node more g.nodes few (inr known) in
      let waits = sum_by (λ u. waiting_on ((applied w s t).link u v)) (outside ∷ nodes_of g) in
      let old_waits = sum_by (λ u. waiting_on (w.link u v)) (outside ∷ nodes_of g) in
      let counts : waits + (if v == s.node then 1 else 0) ≡ old_waits + more = ap (λ (n : ℕ). waits + n) (sym taken) ∙ moves ∙ ap (λ (n : ℕ). old_waits + n) sent in
      let posted = ap (count_by (λ (m : Message). m.to == v)) after.actors.sends ∙ posted_for s.node v t.stamp _ t.effect.sends in
      let here = came_by (s.node == v) (v == s.node) (eqb_turned s.node v) _ _ _ _ more waits old_waits moved.turns (moved.came ∙ ap (λ (n : ℕ). (get_or c.nodes.items v none).came + n) posted) old.came counts in
      here ∙ ap (λ (n : Network). (get_or c2.nodes.items v none).turns + sum_by (λ u. waiting_on (n.link u v)) (outside ∷ nodes_of g)) (sym network_is)

  few_now : (v : ℕ) → v < g.nodes → (none : Known) → (get_or c2.nodes.items v none).came ≤ MAX_INPUTS + 2 ^ 32 * length told2.schedule
  few_now v of_game none =
      let old = knows.each v of_game none in
      let moved = after.nodes.each v (omega (arith, of_game, knows.width)) none in
      omega (arith, moved.came, old.few, few_sent, count_by-le-length (λ (m : Message). m.to == v) done.sends, length-append told.schedule (s ∷ []))

  outs_here : (v : ℕ) → (s.node == v) ≡ true → done.outs ≡ outputs_from (length (w.place v).outs) t.effect.outs
  outs_here v here = after.actors.outs ∙ ap (λ (p : Place). outputs_from (length p.outs) t.effect.outs) (alike.place s.node ∙ ap w.place (eqb-true s.node v here))

  node_now : (v : ℕ) → v < g.nodes → (none : Known) → KnowsNode g told2 v (get_or c2.nodes.items v none)
  node_now v of_game none =
      let old = knows.each v of_game none in
      let moved = after.nodes.each v (omega (arith, of_game, knows.width)) none in
      let place : (play g told2.schedule).place v ≡ (if v == s.node then place_after (w.place v) t else w.place v) = ap (λ (n : Network). n.place v) network_is in
      record {
        outs = outs_by (s.node == v) (v == s.node) (eqb_turned s.node v) _ done.outs _ (w.place v) t moved.outs old.outs (λ here. outs_here v here) ∙ ap (λ (p : Place). outputs_from 0 p.outs) (sym place);
        turns = turns_by (s.node == v) (v == s.node) (eqb_turned s.node v) _ _ (w.place v) t moved.turns old.turns ∙ ap (λ (p : Place). p.turns) (sym place);
        few = few_now v of_game none;
        came = came_now v of_game none;
        emitted = moved.emitted ∙ old.emitted;
        restarts = moved.restarts ∙ old.restarts;
        recovered = moved.recovered ∙ old.recovered;
      }

  pub turn_known : Knows g most c2 told2
  turn_known = record {
    limits = knows.limits;
    game = ap (game_for g.handler) after.facts ∙ knows.game;
    limit = after.limit ∙ knows.limit;
    width = after.nodes.width ∙ knows.width;
    each = node_now;
    turns = after.turns ∙ ap (λ (n : ℕ). n + 1) knows.turns ∙ sym (length-append told.schedule (s ∷ []));
    only = only_now;
    legal = legal_now;
    no_emission = (λ is. knows.no_emission.0 (sym after.has_emissions ∙ is), λ is. after.has_emissions ∙ knows.no_emission.1 is);
    emitter = after.emitter ∙ knows.emitter;
    emissions = no_emissions_so_far g told2.schedule told.emissions no_emission;
    no_restart = (λ is. knows.no_restart.0 (sym after.has_restarts ∙ is), λ is. after.has_restarts ∙ knows.no_restart.1 is);
    restarted = after.restarted ∙ knows.restarted;
    restarts = no_restarts_so_far g most told2.schedule told.restarts no_restart;
    heaps = after.heaps ∙ knows.heaps;
    ended = after.ended ∙ knows.ended;
  }
