-- Turns that agree with each other are a legal schedule, in the order of stamps and nodes.
use Rattle.std.proofs.Common.{◌≡◌, ℕ, ◌<◌, ◌≤◌, List, [], ◌∷◌, ◌++◌, map, length, ◌==◌, if◌then◌else◌, All, Some, slice_get, drop, refl, sym, ap, ◌∙◌, subst, ⊎_elim, arith, lt-ltb, eq-eqb, ne_eqb, le_refl, append_assoc, append-nil, length-append}
use Rattle.std.proofs.lemmas.List.{length-map, nil_from_length}
use Rattle.std.proofs.lemmas.List.Elements.{All-cons, All-filter, All-same}
use Rattle.std.proofs.lemmas.Bool.{cases_lt}
use Rattle.ken_model.specs.declared.messages.Message.{Message}
use Rattle.ken_model.specs.declared.reports.TurnLine.{TurnLine}
use Rattle.ken_model.specs.Game.{Game}
use Rattle.ken_model.specs.Network.{Network, Turn, outside, first_place, start, turn_of, applied}
use Rattle.ken_model.specs.Schedule.{IsLegalFrom, played, turn_lines}
use Rattle.ken_model.specs.History.{AreTurns, consumed, messages, InAccord, line_at, lines_by, Rises, Shows, step_at}
use Rattle.ken_model.specs.Laws.{steps_of, AgreementIsLegal}
use Rattle.ken_model.proofs.Elements.{slice_get-front, All-unmap, mapped_to, with_others}
use Rattle.ken_model.proofs.Turns.{AreTurns-append, consumed-append, turn_at-later, Rises-stamps, messages-split}
use Rattle.ken_model.proofs.Shows.{Shows-start, Shows-same, Shows-one_more, one_more}

-- a schedule in the middle: the turns that were made, those that are ahead, and the lines of those ahead
record IsMidway (g : Game) (h made ahead : ℕ → List Turn) (w : Network) (stamp node : ℕ) (lines : List TurnLine) : Type 0 where
  whole : (v : ℕ) → h v ≡ made v ++ ahead v
  shows : Shows g made w
  parts : (v : ℕ) → lines_by v lines ≡ map (line_at v) (ahead v)
  rises : Rises stamp node lines

-- what IsPlayed says of a whole schedule, for the rest of one
record IsPlayedFrom (g : Game) (h : ℕ → List Turn) (w : Network) (stamp node : ℕ) (lines : List TurnLine) : Type 0 where
  legal : IsLegalFrom g w stamp node (steps_of lines)
  lines_are : turn_lines g w (steps_of lines) ≡ lines
  shows : Shows g h (played g w (steps_of lines))

-- the turns ahead, when the first of node v was made
abbrev one_less : (ℕ → List Turn) → ℕ → ℕ → List Turn
one_less ahead v x = if x == v then drop 1 (ahead x) else ahead x

-- the turn t of node v comes next, and ts are the node's turns after it
module _ (g : Game) (h made ahead : ℕ → List Turn) (w : Network) (stamp node v : ℕ) (t : Turn) (ts : List Turn) (ls : List TurnLine) (accord : InAccord g h) (mid : IsMidway g h made ahead w stamp node (line_at v t ∷ ls)) (first : ahead v ≡ t ∷ ts) where
  -- the turns of node v
  history : h v ≡ made v ++ t ∷ ts
  history = mid.whole v ∙ ap (λ l. made v ++ l) first

  -- the outside makes no turn
  is_node : v ≡ outside → ⊥
  is_node e =
      let nothing : [] ≡ made v ++ t ∷ ts = sym (accord.nobody v (omega (arith, e, accord.few))) ∙ history in
      omega (arith, ap length nothing, length-append (made v) (t ∷ ts))

  -- it is a node of the game
  known : v < g.nodes
  known = ⊎_elim (λ (low : v < g.nodes). low) (λ past. absurd (omega (arith, ap length (sym (accord.nobody v past) ∙ history), length-append (made v) (t ∷ ts)))) (cases_lt v g.nodes)

  -- they are the node's turns after its place
  turns_ahead : AreTurns g v (w.place v) (t ∷ ts)
  turns_ahead =
      let all = subst (λ l. AreTurns g v (first_place g) l) history (accord.turns v) in
      subst (λ p. AreTurns g v p (t ∷ ts)) (sym (mid.shows.place v)) (AreTurns-append g v (first_place g) (made v) (t ∷ ts) all)

  -- no turn ahead has a smaller stamp, of whichever node
  stamps_ahead : (u : ℕ) → All (λ (x : Turn). t.stamp ≤ x.stamp) (ahead u)
  unfolding Rises
  stamps_ahead u =
      let P : TurnLine → Type 0 = λ l. t.stamp ≤ l.stamp in
      let lines = line_at v t ∷ ls in
      let all = All-cons P (line_at v t) ls (le_refl t.stamp) (Rises-stamps t.stamp t.stamp v ls (le_refl t.stamp) mid.rises.1) in
      All-unmap P (line_at u) (ahead u) (All-same P (map (line_at u) (ahead u)) (lines_by u lines) (sym (mid.parts u)) (All-filter (λ (l : TurnLine). l.step.node == u) P lines all))

  -- the turn's message comes next on its link: it was sent, since it has a smaller stamp than the turns ahead
  next : slice_get (w.link t.message.from v).sent (w.link t.message.from v).taken ≡ Some t.message
  unfolding AreTurns
  next =
      let u = t.message.from in
      let earlier = turn_at-later g v (w.place v) t.draws t.message t turns_ahead.1 in
      let split = messages-split g h made u v t.stamp (ahead u) (mid.whole u) (stamps_ahead u) in
      let order = accord.order u v in
      let itself : consumed u (t ∷ ts) ≡ t.message ∷ consumed u ts = rw (eq-eqb u u refl) refl in
      let took : consumed u (h v) ≡ consumed u (made v) ++ t.message ∷ consumed u ts = ap (consumed u) history ∙ consumed-append u (made v) (t ∷ ts) ∙ ap (λ l. consumed u (made v) ++ l) itself in
      let joined : messages g made u v ++ split.later ≡ consumed u (made v) ++ t.message ∷ (consumed u ts ++ order.0) = sym split.parts ∙ order.1 ∙ ap (λ l. l ++ order.0) took ∙ append_assoc (consumed u (made v)) (t.message ∷ consumed u ts) order.0 in
      rw (mid.shows.sent u v, mid.shows.taken u v) (slice_get-front (λ (m : Message). t.stamp ≤ m.stamp) (messages g made u v) split.later (consumed u (made v)) _ t.message joined split.stamps (λ le. omega arith))

  -- the turn is that of its step
  makes : turn_of g w (line_at v t).step ≡ Some t
  unfolding AreTurns
  makes =
      let few = lt-ltb (w.place v).turns g.turns turns_ahead.0 in
      rw (few, next) turns_ahead.1

  -- the middle after the turn
  moved : IsMidway g h (one_more made v t) (one_less ahead v) (applied w (step_at v t) t) t.stamp v ls
  unfolding Rises
  moved =
      let same = eq-eqb v v refl in
      let here : h v ≡ (made v ++ t ∷ []) ++ ts = history ∙ sym (append_assoc (made v) (t ∷ []) ts) in
      let others : (x : ℕ) → (x ≡ v → ⊥) → lines_by x ls ≡ map (line_at x) (ahead x) = λ x ne. rw (ne_eqb v x (λ e. ne (sym e))) at (mid.parts x) in
      record {
        whole = with_others (λ x. h x ≡ one_more made v t x ++ one_less ahead v x) v (rw (same, first) here) (λ x ne. rw (ne_eqb x v ne) (mid.whole x));
        shows = Shows-one_more g made w v t is_node mid.shows;
        parts = with_others (λ x. lines_by x ls ≡ map (line_at x) (one_less ahead v x)) v (rw (same, first) (ap (drop 1) (rw (same, first) at (mid.parts v)))) (λ x ne. rw (ne_eqb x v ne) (others x ne));
        rises = mid.rises.1;
      }

  -- so the turn is the next step, and what is said of the rest is said of all
  goes_on : (IsMidway g h (one_more made v t) (one_less ahead v) (applied w (step_at v t) t) t.stamp v ls → IsPlayedFrom g h (applied w (step_at v t) t) t.stamp v ls) → IsPlayedFrom g h w stamp node (line_at v t ∷ ls)
  unfolding Rises IsLegalFrom turn_lines played
  goes_on rest =
      let later = rest moved in
      record {
        legal = (t, makes, known, mid.rises.0, later.legal);
        lines_are = rw makes (ap (λ l. line_at v t ∷ l) later.lines_are);
        shows = rw (makes, played) later.shows;
      }

-- by induction over the lines ahead
played_from : (g : Game) (h : ℕ → List Turn) → InAccord g h → (lines : List TurnLine) (made ahead : ℕ → List Turn) (w : Network) (stamp node : ℕ) → IsMidway g h made ahead w stamp node lines → IsPlayedFrom g h w stamp node lines
unfolding IsLegalFrom turn_lines played
played_from g h accord [] made ahead w stamp node mid =
    let none : (v : ℕ) → ahead v ≡ [] = λ v. nil_from_length (ahead v) (omega (arith, ap length (mid.parts v), length-map (ahead v) (line_at v))) in
    record { legal = tt; lines_are = refl; shows = Shows-same g made h w (λ v. sym (mid.whole v ∙ ap (λ l. made v ++ l) (none v) ∙ append-nil (made v))) mid.shows }
played_from g h accord (l ∷ ls) made ahead w stamp node mid =
    let v = l.step.node in
    let m = mapped_to (line_at v) l (lines_by v ls) (ahead v) (rw (eq-eqb v v refl) at (mid.parts v)) in
    let P : TurnLine → Type 0 = λ x. IsPlayedFrom g h w stamp node (x ∷ ls) in
    let Q : TurnLine → Type 0 = λ x. IsMidway g h made ahead w stamp node (x ∷ ls) in
    let rest = played_from g h accord ls (one_more made v m.head) (one_less ahead v) (applied w (step_at v m.head) m.head) m.head.stamp v in
    subst P (sym m.gives) (goes_on g h made ahead w stamp node v m.head m.tail ls accord (subst Q m.gives mid) m.whole rest)

-- the law
pub agreement_is_legal : AgreementIsLegal
agreement_is_legal g h lines accord history =
    let p = played_from g h accord lines (λ _. []) h (start g) 0 0 (record { whole = λ v. refl; shows = Shows-start g; parts = history.parts; rises = history.rises }) in
    record { legal = p.legal; lines_are = p.lines_are; shows = p.shows }
