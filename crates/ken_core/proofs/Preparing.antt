-- The turn that a handler makes of a message.
use Rattle.std.proofs.Common.{◌≡◌, ℕ, ◌+◌, ◌<◌, ◌^◌, max, List, [], ◌∷◌, map, length, true, Option, Some, None, option_map, if◌then◌else◌, refl, sym, ap, ◌∙◌, subst}
use Rattle.std.specs.List.{All, AllByRecursion}
use Rattle.std.proofs.lemmas.Bool.{lt-ltb}
use Rattle.std.proofs.lemmas.List.Elements.{recursion_from_All}
use Rattle.ken_model.specs.declared.messages.Message.{Message}
use Rattle.ken_model.specs.declared.values.Value.{Value}
use Rattle.ken_model.specs.Effects.{Effect}
use Rattle.ken_model.specs.Game.{Game}
use Rattle.ken_model.specs.Network.{Turn, turn_at, are_words}
use Rattle.ken_model.specs.Reading.{read_value}
use Rattle.ken_record.specs.declared.page.Page.{Page}
use Rattle.ken_cover.specs.Overlay.{overlay}
use Rattle.ken_model.specs.declared.messages.Send.{Send}
use Rattle.ken_model.specs.Network.{outputs_from}
use Rattle.ken_model.specs.Posted.{posted_after}
use Rattle.ken_record.specs.declared.effects.Effects.{Effects}
use Rattle.ken_core.specs.declared.machine.Machine.{Machine}
use Rattle.ken_core.specs.declared.sealing.Sealing.{Sealing}
use Rattle.ken_core.specs.Turns.{stamp_after, mails_to, outs_of, sent_of}
use Rattle.ken_core.specs.Ledgers.{sent_to}
use Rattle.ken_core.specs.Groups.{node_in, IsKept}
use Rattle.ken_core.proofs.Mailing.{posted_known, posted_to_known}
use Rattle.ken_core.specs.Nodes.{Node}
use Rattle.ken_core.specs.Enabled.{place_at}
use Rattle.ken_core.specs.Sealings.{MakesTurn, IsSealing, Keeps}

words : (ds : List ℕ) → AllByRecursion (λ d. d < 2 ^ 64) ds → are_words ds ≡ true
words [] all = refl
words (d ∷ ds) all = rw (lt-ltb d (2 ^ 64) all.0) (words ds all.1)

-- a turn with that effect
abbrev pub turn_with : Node → List ℕ → Message → Effect → Turn
turn_with n draws m e = record { message = m; draws = draws; stamp = max (stamp_after 0 n.turning.turns) m.stamp + 1; effect = e }

pub reacts : (g : Game) (v : ℕ) (n : Node) (value : Value) (m : Message) (draws : List ℕ) (o : Option Effect) → o ≡ g.handler.after v g.nodes value m draws → All (λ d. d < 2 ^ 64) draws → turn_at g v (place_at n value) draws m ≡ option_map (turn_with n draws m) o
unfolding turn_at
reacts g v n value m draws o is all =
    let small : are_words draws ≡ true = words draws (recursion_from_All (λ d. d < 2 ^ 64) draws all) in
    ap (λ b. option_map (turn_with n draws m) (if b then g.handler.after v g.nodes value m draws else None)) small ∙ ap (option_map (turn_with n draws m)) (sym is)

module _ (g : Game) (v : ℕ) (n : Node) (m : Message) (draws : List ℕ) (pages : List Page) (t : Turn) (makes : MakesTurn g v n m draws pages t) where
  pub unread : read_value n.turning.pages.heap ≡ None → ⊥
  unread none = let e : None ≡ Some makes.value = sym none ∙ makes.reads in cc

  same_value : (value : Value) → read_value n.turning.pages.heap ≡ Some value → makes.value ≡ value
  same_value value reads = let e : Some makes.value ≡ Some value = sym makes.reads ∙ reads in cc

  turn_is : (value : Value) (o : Option Effect) → read_value n.turning.pages.heap ≡ Some value → o ≡ g.handler.after v g.nodes value m draws → All (λ d. d < 2 ^ 64) draws → option_map (turn_with n draws m) o ≡ Some t
  turn_is value o reads is all = sym (reacts g v n value m draws o is all) ∙ ap (λ x. turn_at g v (place_at n x) draws m) (sym (same_value value reads)) ∙ makes.made

  pub unreacted : (value : Value) → read_value n.turning.pages.heap ≡ Some value → None ≡ g.handler.after v g.nodes value m draws → All (λ d. d < 2 ^ 64) draws → ⊥
  unreacted value reads is all = let e : None ≡ Some t = turn_is value None reads is all in cc

  pub unlaid : read_value (overlay n.turning.pages.heap pages) ≡ None → ⊥
  unlaid none = let e : None ≡ Some t.effect.value = sym none ∙ makes.stands in cc

  pub differing : (value now : Value) (e : Effect) → read_value n.turning.pages.heap ≡ Some value → Some e ≡ g.handler.after v g.nodes value m draws → All (λ d. d < 2 ^ 64) draws → read_value (overlay n.turning.pages.heap pages) ≡ Some now → (now ≡ e.value → ⊥) → ⊥
  differing value now e reads is all laid ne =
      let turn : Some (turn_with n draws m e) ≡ Some t = turn_is value (Some e) reads is all in
      let same : turn_with n draws m e ≡ t = cc in
      let both : Some now ≡ Some t.effect.value = sym laid ∙ makes.stands in
      let at : now ≡ t.effect.value = cc in
      ne (at ∙ ap (λ (x : Turn). x.effect.value) (sym same))

each_below : (a b : ℕ) (ss : List Send) → a ≡ b → AllByRecursion (λ (s : Send). s.to < a) ss → AllByRecursion (λ (s : Send). s.to < b) ss
each_below a b ss same all = subst (λ n. AllByRecursion (λ (s : Send). s.to < n) ss) same all

pub known_sends : (a b : ℕ) (ss rs : List Send) → a ≡ b → ss ≡ rs → AllByRecursion (λ (s : Send). s.to < a) rs → AllByRecursion (λ (s : Send). s.to < b) ss
known_sends a b ss rs same lists all = subst (λ (xs : List Send). AllByRecursion (λ (s : Send). s.to < b) xs) (sym lists) (each_below a b rs same all)

-- what the code keeps of a turn is that turn
pub sealing_is : (g : Game) (made v : ℕ) (k : Machine) (m : Message) (draws : List ℕ) (pages : List Page) (value : Value) (sends : List Send) (outs : List (List ℕ)) (e : Effect) (s : Sealing) → IsKept g made v k → Keeps v k m draws pages value sends outs s
    → sends ≡ e.sends → outs ≡ e.outs → value ≡ e.value → AllByRecursion (λ (x : Send). x.to < g.nodes) e.sends → max (stamp_after 0 k.ledger.turns.items) m.stamp + 1 < 2 ^ 64
    → MakesTurn g v (node_in k) m draws pages (turn_with (node_in k) draws m e) → IsSealing g v (node_in k) m draws pages s
sealing_is g made v k m draws pages value sends outs e s kept keeps sends_are outs_are value_is known early makes =
    let t : Turn = turn_with (node_in k) draws m e in
    let es : List Effects = k.ledger.turns.items in
    let mails : s.mails.items ≡ posted_after v t.stamp (λ w. length (mails_to v w es)) e.sends =
    keeps.mails ∙ ap (λ x. posted_after v x (λ w. length (sent_to k.ledger w)) sends) keeps.is_stamp ∙ ap (posted_after v t.stamp (λ w. length (sent_to k.ledger w))) sends_are
    ∙ posted_known v t.stamp g.nodes (λ w. length (sent_to k.ledger w)) (λ w. length (mails_to v w es)) e.sends known (λ w within. ap length (kept.ledger.sent w within)) in
    let outputs : s.outs.items ≡ outputs_from (length (outs_of es)) e.outs = keeps.outputs ∙ ap (outputs_from (length k.ledger.outs.items)) outs_are ∙ ap (λ os. outputs_from (length os) e.outs) kept.ledger.outs in
    record {
      turn = t;
      makes = makes;
      effects = keeps.effects
          ∙ ap (λ x. record { from = m.from; number = m.number; stamp = x; draws = draws; sends = map sent_of s.mails.items; outs = s.outs.items }) keeps.is_stamp
          ∙ ap (λ ms. record { from = m.from; number = m.number; stamp = t.stamp; draws = draws; sends = map sent_of ms; outs = s.outs.items }) mails
          ∙ ap (λ os. record { from = m.from; number = m.number; stamp = t.stamp; draws = draws; sends = map sent_of (posted_after v t.stamp (λ w. length (mails_to v w es)) e.sends); outs = os }) outputs;
      value = keeps.value ∙ value_is;
      live = keeps.live;
      ahead = keeps.ahead;
      mails = mails;
      outs = outputs;
      receivers = subst (λ (ms : List Message). AllByRecursion (λ (x : Message). x.to < g.nodes) ms) (sym mails) (posted_to_known v t.stamp g.nodes (λ w. length (mails_to v w es)) e.sends known);
      early = early;
    }
