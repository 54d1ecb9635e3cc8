-- Each message that a turn takes is an input, or a turn with its stamp sent it.
use Rattle.std.proofs.Common.{◌≡◌, ℕ, ◌+◌, ◌<◌, ◌≤◌, ◌⊎◌, inl, inr, ◌==◌, Bool, true, false, if◌then◌else◌, List, [], ◌∷◌, ◌++◌, map, length, Contains, sym, ap, ◌∙◌, subst, ⊎_elim, arith, append_assoc, append-nil, eq-eqb, ne_eqb}
use Rattle.std.proofs.lemmas.Bool.{cases_eq, cases_lt, cases_Bool}
use Rattle.std.proofs.lemmas.List.{map-append, length-map}
use Rattle.std.proofs.lemmas.List.Elements.{Contains-append_left, Contains-append_cases}
use Rattle.ken_model.specs.declared.messages.Message.{Message}
use Rattle.ken_model.specs.declared.messages.Send.{Send}
use Rattle.ken_model.specs.declared.facts.Input.{Input}
use Rattle.ken_model.specs.Game.{Game}
use Rattle.ken_model.specs.Network.{Place, Turn, outside, inputs_from, inputs_for, numbered, place_after}
use Rattle.ken_model.specs.History.{AreTurns, consumed, sent_by, messages}
use Rattle.ken_record.specs.declared.effects.Effects.{Effects}
use Rattle.ken_net.proofs.Origins.{first_in, later_in, in_front}
use Rattle.ken_core.specs.Accord.{Accord}
use Rattle.ken_core.specs.Clusters.{Cluster}
use Rattle.ken_core.specs.Turns.{effects_of, sealed_after, sealed}
use Rattle.ken_flow.proofs.Lists.{filter_yes, filter_no, if_yes, if_no}

-- ---- where messages come from

pub record IsInput (g : Game) (m : Message) : Type 0 where
  pub from : m.from ≡ outside
  pub stamp : m.stamp ≡ 0
  pub input : Input
  pub one : Contains g.inputs input
  pub bytes : m.bytes ≡ input.text

-- these turns have one that sent it
pub record IsSentIn (ts : List Turn) (m : Message) : Type 0 where
  pub turn : Turn
  pub one : Contains ts turn
  pub stamp : m.stamp ≡ turn.stamp
  pub send : Send
  pub among : Contains turn.effect.sends send
  pub bytes : m.bytes ≡ send.bytes

none_in : {A : Type 0} (x : A) → Contains [] x → ⊥
none_in x (k, low, is) = omega (arith, low)

-- a message that is kept is the first, or one of the others
either : {A : Type 0} (b : Bool) (x : A) (more less : List A) (y : A) → Contains (if b then x ∷ more else less) y → (x ≡ y) ⊎ (Contains more y ⊎ Contains less y)
either true x more less y there = ⊎_elim (λ (is : x ≡ y). inl is) (λ on. inr (inl on)) (in_front x more y there)
either false x more less y there = inr (inr there)

-- a turn's message has its stamp, and the bytes of one of its sends
pub record IsNumbered (stamp : ℕ) (ss : List Send) (m : Message) : Type 0 where
  pub same : m.stamp ≡ stamp
  pub send : Send
  pub among : Contains ss send
  pub bytes : m.bytes ≡ send.bytes

numbered_later : (stamp : ℕ) (s : Send) (ss : List Send) (m : Message) → IsNumbered stamp ss m → IsNumbered stamp (s ∷ ss) m
numbered_later stamp s ss m is = record { same = is.same; send = is.send; among = later_in s ss is.send is.among; bytes = is.bytes }

numbered_in : (u v n stamp : ℕ) (ss : List Send) (m : Message) → Contains (numbered u v n stamp ss) m → IsNumbered stamp ss m
numbered_in u v n stamp [] m there = absurd (none_in m there)
numbered_in u v n stamp (s ∷ ss) m there =
    let first : Message = record { from = u; to = v; number = n + 1; stamp = stamp; bytes = s.bytes } in
    ⊎_elim
    (λ (is : first ≡ m). record { same = sym (ap (λ (x : Message). x.stamp) is); send = s; among = first_in s ss; bytes = sym (ap (λ (x : Message). x.bytes) is) })
    (⊎_elim (λ more. numbered_later stamp s ss m (numbered_in u v (n + 1) stamp ss m more)) (λ less. numbered_later stamp s ss m (numbered_in u v n stamp ss m less)))
    (either (s.to == v) first (numbered u v (n + 1) stamp ss) (numbered u v n stamp ss) m there)

pub sent_in : (u v n : ℕ) (ts : List Turn) (m : Message) → Contains (sent_by u v n ts) m → IsSentIn ts m
unfolding sent_by
sent_in u v n [] m there = absurd (none_in m there)
sent_in u v n (t ∷ ts) m there =
    let sent = numbered u v n t.stamp t.effect.sends in
    ⊎_elim
    (λ (now : Contains sent m). let is = numbered_in u v n t.stamp t.effect.sends m now in record { turn = t; one = first_in t ts; stamp = is.same; send = is.send; among = is.among; bytes = is.bytes })
    (λ later. let is = sent_in u v (n + length sent) ts m later in record { turn = is.turn; one = later_in t ts is.turn is.one; stamp = is.stamp; send = is.send; among = is.among; bytes = is.bytes })
    (Contains-append_cases sent (sent_by u v (n + length sent) ts) m there)

-- an input's message, by its place on the list
pub record IsOfInput (is : List Input) (m : Message) : Type 0 where
  pub from : m.from ≡ outside
  pub stamp : m.stamp ≡ 0
  pub input : Input
  pub one : Contains is input
  pub bytes : m.bytes ≡ input.text

input_later : (i : Input) (is : List Input) (m : Message) → IsOfInput is m → IsOfInput (i ∷ is) m
input_later i is m it = record { from = it.from; stamp = it.stamp; input = it.input; one = later_in i is it.input it.one; bytes = it.bytes }

input_in : (v n : ℕ) (is : List Input) (m : Message) → Contains (inputs_from v n is) m → IsOfInput is m
input_in v n [] m there = absurd (none_in m there)
input_in v n (i ∷ is) m there =
    let first : Message = record { from = outside; to = i.node; number = n + 1; stamp = 0; bytes = i.text } in
    ⊎_elim
    (λ (same : first ≡ m). record { from = sym (ap (λ (x : Message). x.from) same); stamp = sym (ap (λ (x : Message). x.stamp) same); input = i; one = first_in i is; bytes = sym (ap (λ (x : Message). x.bytes) same) })
    (⊎_elim (λ more. input_later i is m (input_in v (n + 1) is m more)) (λ less. input_later i is m (input_in v n is m less)))
    (either (i.node == v) first (inputs_from v (n + 1) is) (inputs_from v n is) m there)

pub message_in : (g : Game) (h : ℕ → List Turn) (u v : ℕ) (m : Message) → Contains (messages g h u v) m → IsInput g m ⊎ IsSentIn (h u) m
unfolding messages
message_in g h u v m there =
    ⊎_elim
    (λ (out : u ≡ outside).
    let it = input_in v 0 g.inputs m (subst (λ (ms : List Message). Contains ms m) (if_yes (u == outside) (inputs_for g v) (sent_by u v 0 (h u)) (eq-eqb u outside out)) there) in
    inl (record { from = it.from; stamp = it.stamp; input = it.input; one = it.one; bytes = it.bytes }))
    (λ node. inr (sent_in u v 0 (h u) m (subst (λ (ms : List Message). Contains ms m) (if_no (u == outside) (inputs_for g v) (sent_by u v 0 (h u)) (ne_eqb u outside node)) there)))
    (cases_eq u outside)

-- a turn's message is among those that turns took of its sender
took : (ts : List Turn) (t : Turn) → Contains ts t → Contains (consumed t.message.from ts) t.message
took [] t there = absurd (none_in t there)
took (x ∷ ts) t there =
    let from_it : Message → Bool = λ m. m.from == t.message.from in
    let rest = map (λ (y : Turn). y.message) ts in
    ⊎_elim
    (λ (is : x ≡ t).
    let first : consumed t.message.from (x ∷ ts) ≡ x.message ∷ consumed t.message.from ts = filter_yes from_it x.message rest (eq-eqb x.message.from t.message.from (ap (λ (y : Turn). y.message.from) is)) in
    subst (λ (ms : List Message). Contains ms t.message) (sym first) (subst (λ (m : Message). Contains (m ∷ consumed t.message.from ts) t.message) (sym (ap (λ (y : Turn). y.message) is)) (first_in t.message (consumed t.message.from ts))))
    (λ on.
    ⊎_elim
    (λ (e : (x.message.from == t.message.from) ≡ true). subst (λ (ms : List Message). Contains ms t.message) (sym (filter_yes from_it x.message rest e)) (later_in x.message (consumed t.message.from ts) t.message (took ts t on)))
    (λ e. subst (λ (ms : List Message). Contains ms t.message) (sym (filter_no from_it x.message rest e)) (took ts t on))
    (cases_Bool (x.message.from == t.message.from)))
    (in_front x ts t there)

module _ (g : Game) (w : Cluster) (accord : Accord g w) where
  abbrev h : ℕ → List Turn
  h = accord.history

  -- so is what a turn took
  pub taken_from : (v : ℕ) (t : Turn) → Contains (h v) t → IsInput g t.message ⊎ IsSentIn (h t.message.from) t.message
  taken_from v t there =
      let u : ℕ = t.message.from in
      let front = (accord.made.nodes v).order u in
      message_in g h u v t.message (subst (λ (ms : List Message). Contains ms t.message) (sym front.1) (Contains-append_left (consumed u (h v)) front.0 t.message (took (h v) t there)))

  -- a node that has made a turn is one of the run
  pub is_known : (v : ℕ) (t : Turn) → Contains (h v) t → v < g.nodes
  is_known v t there = ⊎_elim (λ (low : v < g.nodes). low) (λ past. absurd (none_in t (subst (λ (ts : List Turn). Contains ts t) (accord.made.nobody v past) there))) (cases_lt v g.nodes)

-- ---- how many turns a node made, and their stamps

pub few_turns : (g : Game) (v : ℕ) (p : Place) (ts : List Turn) → AreTurns g v p ts → p.turns ≤ g.turns → p.turns + length ts ≤ g.turns
unfolding AreTurns
few_turns g v p [] are few = omega (arith, few)
few_turns g v p (t ∷ ts) are few = omega (arith, few_turns g v (place_after p t) ts are.2 (omega (arith, are.0)))

abbrev pub stamps_of : List Turn → List ℕ
stamps_of ts = map (λ (t : Turn). t.stamp) ts

abbrev pub effect_stamps : List Effects → List ℕ
effect_stamps es = map (λ (e : Effects). e.stamp) es

stamps_after : (v : ℕ) (es : List Effects) (ts : List Turn) → effect_stamps (sealed_after v es ts) ≡ effect_stamps es ++ stamps_of ts
stamps_after v es [] = sym (append-nil (effect_stamps es))
stamps_after v es (t ∷ ts) =
    stamps_after v (es ++ effects_of v es t ∷ []) ts
    ∙ ap (λ (l : List ℕ). l ++ stamps_of ts) (map-append (λ (e : Effects). e.stamp) es (effects_of v es t ∷ []))
    ∙ append_assoc (effect_stamps es) (t.stamp ∷ []) (stamps_of ts)

pub stamps_sealed : (v : ℕ) (ts : List Turn) → effect_stamps (sealed v ts) ≡ stamps_of ts
stamps_sealed v ts = stamps_after v [] ts

pub count_sealed : (v : ℕ) (ts : List Turn) → length (sealed v ts) ≡ length ts
count_sealed v ts = sym (length-map (sealed v ts) (λ (e : Effects). e.stamp)) ∙ ap length (stamps_sealed v ts) ∙ length-map ts (λ (t : Turn). t.stamp)
