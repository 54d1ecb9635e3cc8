-- What a node takes note of where it takes acknowledgements.
use Rattle.std.proofs.Common.{◌≡◌, ℕ, zero, suc, ◌<◌, ◌≤◌, ◌==◌, if◌then◌else◌, max, ⊎_elim, List, [], ◌∷◌, ◌++◌, length, Contains, Bool, true, false, sym, ap, subst, ◌∙◌, arith, eq-eqb}
use Rattle.std.specs.Prelude.{slice_index, slice_set}
use Rattle.std.specs.List.{flat_map}
use Rattle.std.proofs.lemmas.Bool.{cases_eq}
use Rattle.std.proofs.lemmas.List.{get_or-set_other, get_or-set_same, length-set}
use Rattle.ken_model.specs.Game.{Game}
use Rattle.ken_core.specs.declared.events.Event.{Event}
use Rattle.ken_core.specs.declared.events.Event.TheVariants.{TakeAck}
use Rattle.ken_core.specs.Calls.{AreTaken, taken_from}
use Rattle.ken_core.specs.Nodes.{Node}
use Rattle.ken_core.specs.Packets.{Packet, Mail, Answer, Outgoing, Receipt}
use Rattle.ken_core.specs.Runs.{NodeRun}
use Rattle.ken_core.specs.Steps.{acked_node}

-- how far the acknowledged numbers of a node rise by these packets
pub record Rises (v : ℕ) (packets : List Packet) (n n2 : Node) : Type 0 where
  pub turns : n2.turning.turns ≡ n.turning.turns
  pub emitted : n2.sending.emitted ≡ n.sending.emitted
  pub width : length n2.sending.acked ≡ length n.sending.acked
  pub rises : (w : ℕ) → slice_index n.sending.acked w ≤ slice_index n2.sending.acked w
  pub taken : (a : Receipt) → Contains packets (Answer a) → a.to ≡ v → a.through ≤ slice_index n2.sending.acked a.from

-- a number is raised
raised-rises : (acked : List ℕ) (from through w : ℕ) → from < length acked → slice_index acked w ≤ slice_index (slice_set acked from (max (slice_index acked from) through)) w
raised-rises acked from through w low = ⊎_elim
    (λ (same : from ≡ w).
    let is : slice_index (slice_set acked from (max (slice_index acked from) through)) from ≡ max (slice_index acked from) through = get_or-set_same acked from (max (slice_index acked from) through) 0 low in
    subst (λ (x : ℕ). slice_index acked x ≤ slice_index (slice_set acked from (max (slice_index acked from) through)) x) same (omega (arith, is)))
    (λ other.
    let is : slice_index (slice_set acked from (max (slice_index acked from) through)) w ≡ slice_index acked w = get_or-set_other acked from w (max (slice_index acked from) through) 0 (λ same. other (sym same)) in
    omega (arith, is))
    (cases_eq from w)

raised-to : (acked : List ℕ) (from through : ℕ) → from < length acked → through ≤ slice_index (slice_set acked from (max (slice_index acked from) through)) from
raised-to acked from through low =
    let is : slice_index (slice_set acked from (max (slice_index acked from) through)) from ≡ max (slice_index acked from) through = get_or-set_same acked from (max (slice_index acked from) through) 0 low in
    omega (arith, is)

one-of : (p q : Packet) (ps : List Packet) → Contains (p ∷ ps) q → (p ≡ q → ⊥) → Contains ps q
one-of p q ps (zero, low, is) other = absurd (other is)
one-of p q ps (suc k, low, is) other = (k, omega (arith, low), is)

module _ (g : Game) (put : Packet → Type 0) (v : ℕ) where
  none-taken : (p : Packet) (ps : List Packet) (n n2 : Node) → ((a : Receipt) → p ≡ Answer a → a.to ≡ v → a.through ≤ slice_index n2.sending.acked a.from) → Rises v ps n n2 → Rises v (p ∷ ps) n n2
  none-taken p ps n n2 first is = record {
    turns = is.turns;
    emitted = is.emitted;
    width = is.width;
    rises = is.rises;
    taken = λ a one to. by a one to;
  }
    where
      by : (a : Receipt) → Contains (p ∷ ps) (Answer a) → a.to ≡ v → a.through ≤ slice_index n2.sending.acked a.from
      by a (zero, low, same) to = first a same to
      by a (suc k, low, same) to = is.taken a (k, omega (arith, low), same) to

  -- one acknowledgement and then others
  one-taken : (a : Receipt) (ps : List Packet) (n n2 : Node) → a.from < length n.sending.acked → Rises v ps (acked_node a.from a.through n) n2 → Rises v (Answer a ∷ ps) n n2
  one-taken a ps n n2 low is =
      let acked = n.sending.acked in
      let through = raised-to acked a.from a.through low in
      let later = is.rises a.from in
      none-taken (Answer a) ps n n2
      (λ b same to.
      let one : a ≡ b = cc in
      subst (λ (x : Receipt). x.through ≤ slice_index n2.sending.acked x.from) one (omega (arith, through, later)))
      (record {
        turns = is.turns;
        emitted = is.emitted;
        width = is.width ∙ length-set acked a.from (max (slice_index acked a.from) a.through);
        rises = λ w. let here = raised-rises acked a.from a.through w low in let rest = is.rises w in omega (arith, here, rest);
        taken = is.taken;
      })

  -- or an acknowledgement to another node
  answered : (b : Bool) (a : Receipt) (ps : List Packet) (n n2 : Node) (out : Outgoing) → length n.sending.acked ≡ g.nodes → (a.to ≡ v → b ≡ true)
      → ((m : Node) (out2 : Outgoing) → length m.sending.acked ≡ g.nodes → NodeRun g put v m (flat_map (taken_from v) ps) out2 n2 → Rises v ps m n2)
      → NodeRun g put v n ((if b then TakeAck v a.from a.through ∷ [] else []) ++ flat_map (taken_from v) ps) out n2 → Rises v (Answer a ∷ ps) n n2
  answered true a ps n n2 out wide is rest run =
      let step = run.1.1.1 in
      let low : a.from < length n.sending.acked = subst (λ (k : ℕ). a.from < k) (sym wide) step.1 in
      one-taken a ps n n2 low
      (rest (acked_node a.from a.through n) run.1.0 (length-set n.sending.acked a.from (max (slice_index n.sending.acked a.from) a.through) ∙ wide) (subst (λ (x : Node). NodeRun g put v x (flat_map (taken_from v) ps) run.1.0 n2) step.3 run.1.1.3))
  answered false a ps n n2 out wide is rest run =
      none-taken (Answer a) ps n n2
      (λ b same to. let one : a ≡ b = cc in let no : false ≡ true = is (ap (λ (x : Receipt). x.to) one ∙ to) in absurd (cc))
      (rest n out wide run)

  taken-run : (ps : List Packet) (n n2 : Node) (out : Outgoing) → length n.sending.acked ≡ g.nodes → NodeRun g put v n (flat_map (taken_from v) ps) out n2 → Rises v ps n n2
  taken-run [] n n2 out wide run = record {
    turns = ap (λ (x : Node). x.turning.turns) run.1;
    emitted = ap (λ (x : Node). x.sending.emitted) run.1;
    width = ap (λ (x : Node). length x.sending.acked) run.1;
    rises = λ w. let same = ap (λ (x : Node). slice_index x.sending.acked w) run.1 in omega (arith, same);
    taken = λ a one to. let low = one.1 in absurd (omega (arith, low));
  }
  taken-run (Mail m ∷ ps) n n2 out wide run = none-taken (Mail m) ps n n2 (λ a same to. absurd (cc)) (taken-run ps n n2 out wide run)
  taken-run (Answer a ∷ ps) n n2 out wide run =
      answered (a.to == v) a ps n n2 out wide (λ to. eq-eqb a.to v to) (λ m out2 wide2 run2. taken-run ps m n2 out2 wide2 run2) run

module _ (g : Game) (put : Packet → Type 0) (v : ℕ) (n n2 : Node) (packets : List Packet) (events : List Event) (out : Outgoing) (wide : length n.sending.acked ≡ g.nodes) (which : AreTaken v packets events) (run : NodeRun g put v n events out n2) where
  pub hears : Rises v packets n n2
  hears = taken-run g put v packets n n2 out wide (subst (λ (es : List Event). NodeRun g put v n es out n2) which run)
