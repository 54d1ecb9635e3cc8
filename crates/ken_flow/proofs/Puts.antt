-- What a run of one node puts was put, and what was put stays put.
use Rattle.std.proofs.Common.{◌≡◌, ℕ, ◌+◌, ◌-◌, ◌<◌, ◌≤◌, List, [], ◌∷◌, ◌++◌, length, if◌then◌else◌, Bool, true, false, count_by, Contains, Some, slice_get, refl, sym, ap, ◌∙◌, subst, ⊎_elim, arith, append-nil, length-append, eq-eqb, ne_eqb}
use Rattle.std.proofs.lemmas.Bool.{cases_eq}
use Rattle.std.proofs.lemmas.Grind.{flat_map-append}
use Rattle.std.proofs.lemmas.List.Elements.{All-weaker, All-contains_itself}
use Rattle.std.proofs.lemmas.List.Sums.{sum_by-append}
use Rattle.ken_model.specs.declared.messages.Message.{Message}
use Rattle.ken_model.specs.declared.reports.Emission.{Emission}
use Rattle.ken_model.specs.Game.{Game}
use Rattle.ken_model.specs.History.{consumed, messages, IsPrefixOf}
use Rattle.ken_model.specs.Network.{Turn}
use Rattle.ken_core.specs.declared.events.Event.{Event}
use Rattle.ken_core.specs.declared.events.Event.TheVariants.{Seal, SealCut, Patch, SyncImage, Turnover, Send, Ack, TakeAck, Emit, Crash, Recover}
use Rattle.ken_core.specs.declared.events.Outcome.TheVariants.{Whole, Landed, Lost}
use Rattle.ken_core.specs.Accord.{Accord}
use Rattle.ken_core.specs.Clusters.{WasPut}
use Rattle.ken_core.specs.Nodes.{Node}
use Rattle.ken_core.specs.Packets.{Packet, Mail, Answer, Put, Outgoing}
use Rattle.ken_core.specs.Runs.{NodeRun, IsPut}
use Rattle.ken_core.specs.Steps.{NodeStep}
use Rattle.ken_core.specs.Turns.{consumed_from, mails_in, mails_to, effects_of, sealed}
use Rattle.ken_core.proofs.Made.{run_turns, run_keeps_turns, run_puts_true}
use Rattle.ken_core.proofs.Numbers.{mails_to-sealed, consumed-sealed}
use Rattle.ken_core.proofs.Sent.{slice_get-append, front-longer, messages-node}
use Rattle.ken_flow.specs.Groups.{group_of, with_node}
use Rattle.ken_flow.specs.Laws.{PutStaysPut, PutsArePut, AcksGoNoFurther}
use Rattle.ken_flow.proofs.Groups.{sealed_from, sealed_to, consumed_in, consumed_to, with_node-same, sent_by_node, is_inside, consumed_by_node}

-- ---- turns only grow

-- a node has its turns still, and maybe more after them
abbrev pub Grows : Node → Node → Type 0
Grows n n2 = IsPrefixOf n.turning.turns n2.turning.turns

still : (n : Node) → Grows n n
still n = ([], sym (append-nil n.turning.turns))

into : (n m n2 : Node) → n2 ≡ m → Grows n m → Grows n n2
into n m n2 is grows = subst (Grows n) (sym is) grows

pub step_grows : (g : Game) (put : Packet → Type 0) (v : ℕ) (n : Node) (e : Event) (n2 : Node) → NodeStep g put v n e n2 → Grows n n2
step_grows g put v n (Seal node from draws pages) n2 s = into n _ n2 s.1.1 (effects_of v n.turning.turns s.0 ∷ [], refl)
step_grows g put v n (SealCut node from draws pages true) n2 s = into n _ n2 s.1.1 (effects_of v n.turning.turns s.0 ∷ [], refl)
step_grows g put v n (SealCut node from draws pages false) n2 s = into n _ n2 s.1.1 (still n)
step_grows g put v n (Patch node page) n2 s = into n _ n2 s.1.1.1.2 (still n)
step_grows g put v n (SyncImage node) n2 s = into n _ n2 s.1 (still n)
step_grows g put v n (Turnover node Whole told) n2 s = into n _ n2 s.1 (still n)
step_grows g put v n (Turnover node Landed told) n2 s = into n _ n2 s.1 (still n)
step_grows g put v n (Turnover node Lost told) n2 s = into n _ n2 s.1 (still n)
step_grows g put v n (Send node to i) n2 s = into n _ n2 s.1.3 (still n)
step_grows g put v n (Ack node from) n2 s = into n _ n2 s.3 (still n)
step_grows g put v n (TakeAck node from through) n2 s = into n _ n2 s.3 (still n)
step_grows g put v n (Emit node) n2 s = into n _ n2 s.1.2 (still n)
step_grows g put v n (Crash node pages) n2 s = into n _ n2 s.1 (still n)
step_grows g put v n (Recover node) n2 s = into n _ n2 s.2 (still n)

pub run_grows : (g : Game) (put : Packet → Type 0) (v : ℕ) (n : Node) (es : List Event) (out : Outgoing) (n2 : Node) → NodeRun g put v n es out n2 → Grows n n2
run_grows g put v n [] out n2 r = into n n n2 r.1 (still n)
run_grows g put v n (e ∷ es) out n2 r =
    front-longer n.turning.turns (r.0).turning.turns n2.turning.turns (step_grows g put v n e r.0 r.1.1.1) (run_grows g put v r.0 es r.1.0 n2 r.1.1.3)

-- where one node has, each has
pub with_node-grows : (v : ℕ) (after : Node) (nodes : ℕ → Node) → Grows (nodes v) after → (u : ℕ) → Grows (nodes u) (with_node v after nodes u)
with_node-grows v after nodes grows u =
    ⊎_elim
    (λ (same : u ≡ v). rw (eq-eqb u v same) (subst (λ x. Grows (nodes x) after) (sym same) grows))
    (λ other. rw (ne_eqb u v other) (still (nodes u)))
    (cases_eq u v)

-- what was sealed stands at its number still, and no less was consumed
mails_stay : (u v k : ℕ) (m : Message) (n n2 : Node) → Grows n n2 → slice_get (mails_to u v n.turning.turns) k ≡ Some m → slice_get (mails_to u v n2.turning.turns) k ≡ Some m
mails_stay u v k m n n2 grows e =
    ap (λ es. slice_get (mails_to u v es) k) grows.1
    ∙ ap (λ ms. slice_get ms k) (flat_map-append (mails_in u v) n.turning.turns grows.0)
    ∙ slice_get-append (mails_to u v n.turning.turns) (mails_to u v grows.0) k m e

count_grows : {A : Type 0} (p : A → Bool) (xs whole : List A) → IsPrefixOf xs whole → count_by p xs ≤ count_by p whole
count_grows p xs whole front =
    let parts : count_by p (xs ++ front.0) ≡ count_by p xs + count_by p front.0 = sum_by-append (λ x. if p x then 1 else 0) xs front.0 in
    omega (arith, parts, ap (count_by p) front.1)

-- ---- what was put stays put

-- where each node has its turns still
pub stays_put : (g : Game) (nodes nodes2 : ℕ → Node) (emissions emissions2 : List Emission) → ((u : ℕ) → Grows (nodes u) (nodes2 u)) → (p : Packet) → WasPut (group_of g nodes emissions) p → WasPut (group_of g nodes2 emissions2) p
stays_put g nodes nodes2 emissions emissions2 grow (Mail m) was =
    let is = sealed_from g nodes m.from m.to m.number m was in
    sealed_to g nodes2 m.from m.to m.number m
    (record { known = is.known; some = is.some; stands = mails_stay m.from m.to (m.number - 1) m (nodes m.from) (nodes2 m.from) (grow m.from) is.stands })
stays_put g nodes nodes2 emissions emissions2 grow (Answer a) was =
    let is = consumed_in g nodes a.from a.to a.through was in
    let more : consumed_from a.to (nodes a.from).turning.turns ≤ consumed_from a.to (nodes2 a.from).turning.turns = count_grows _ (nodes a.from).turning.turns (nodes2 a.from).turning.turns (grow a.from) in
    consumed_to g nodes2 a.from a.to a.through (record { known = is.known; most = omega (arith, is.most) })

pub put_stays_put : PutStaysPut
put_stays_put g nodes emissions emissions2 v given es out after run =
    stays_put g nodes (with_node v after nodes) emissions emissions2 (with_node-grows v after nodes (run_grows g (Contains given) v (nodes v) es out after run))

-- ---- what is put was put

module _ (g : Game) (put : Packet → Type 0) (nodes : ℕ → Node) (emissions : List Emission) (v : ℕ) (es : List Event) (out : Outgoing) (after : Node) (accord : Accord g (group_of g nodes emissions)) (known : v < g.nodes) (run : NodeRun g put v (nodes v) es out after) where
  -- the turns in the end
  abbrev turns : List Turn
  turns = accord.history v ++ run_turns g put v (nodes v) es out after run

  now : (with_node v after nodes v).turning.turns ≡ sealed v turns
  now = ap (λ (n : Node). n.turning.turns) (with_node-same v after nodes) ∙ run_keeps_turns g put v (accord.history v) (nodes v) es out after run (accord.made.nodes v).turns

  pub one_was_put : (emissions2 : List Emission) (packet : Packet) → IsPut packet out.puts → WasPut (group_of g (with_node v after nodes) emissions2) packet
  one_was_put emissions2 (Mail m) is =
      let by = run_puts_true g put v (accord.history v) (nodes v) es out after run (Mail m) (accord.made.nodes v).turns is in
      sealed_to g (with_node v after nodes) m.from m.to m.number m (record {
        known = subst (λ x. x < g.nodes) (sym by.from) known;
        some = by.number;
        stands =
            ap (λ x. slice_get (mails_to x m.to (with_node v after nodes x).turning.turns) (m.number - 1)) by.from
            ∙ ap (λ ms. slice_get ms (m.number - 1)) (ap (mails_to v m.to) now ∙ mails_to-sealed v m.to turns)
            ∙ by.stands;
      })
  one_was_put emissions2 (Answer a) is =
      let by = run_puts_true g put v (accord.history v) (nodes v) es out after run (Answer a) (accord.made.nodes v).turns is in
      let count : consumed_from a.to (with_node v after nodes a.from).turning.turns ≡ length (consumed a.to turns) =
      ap (λ x. consumed_from a.to (with_node v after nodes x).turning.turns) by.from ∙ ap (consumed_from a.to) now ∙ consumed-sealed a.to v turns in
      consumed_to g (with_node v after nodes) a.from a.to a.through (record { known = subst (λ x. x < g.nodes) (sym by.from) known; most = omega (arith, by.most) })

pub puts_are_put : PutsArePut
puts_are_put g nodes emissions emissions2 v given es out after accord known run =
    All-weaker (Contains out.puts) (λ (p : Put). WasPut (group_of g (with_node v after nodes) emissions2) p.packet)
    (λ p one. one_was_put g (Contains given) nodes emissions v es out after accord known run emissions2 p.packet (record { put = p; one = one; is = refl }))
    out.puts (All-contains_itself out.puts)

-- ---- acknowledgements

-- a front is no longer
longer : {A : Type 0} (xs whole : List A) → IsPrefixOf xs whole → length xs ≤ length whole
longer xs whole front = let parts : length (xs ++ front.0) ≡ length xs + length front.0 = length-append xs front.0 in omega (arith, ap length front.1)

pub acks_go_no_further : AcksGoNoFurther
acks_go_no_further g nodes emissions v a accord known was to =
    let w = group_of g nodes emissions in
    let h = accord.history in
    let is = consumed_in g nodes a.from a.to a.through was in
    let count : consumed_from a.to (nodes a.from).turning.turns ≡ length (consumed v (h a.from)) = consumed_by_node g w accord a.from a.to ∙ ap (λ x. length (consumed x (h a.from))) to in
    let front = longer (consumed v (h a.from)) (messages g h v a.from) ((accord.made.nodes a.from).order v) in
    let sent : length (messages g h v a.from) ≡ length (mails_to v a.from (nodes v).turning.turns) = ap length (messages-node g h v a.from (is_inside g w accord v known) ∙ sym (sent_by_node g w accord v a.from)) in
    omega (arith, is.most)
