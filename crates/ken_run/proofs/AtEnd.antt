-- Whether a run has ended, as its nodes tell it.
use Rattle.std.proofs.Common.{◌≡◌, ◌≢◌, ℕ, ◌+◌, ◌-◌, ◌<◌, ◌≤◌, inl, inr, ⊎_elim, nat_lt, if◌then◌else◌, List, [], ◌∷◌, length, Bool, true, false, Option, refl, sym, ap, subst, ◌∙◌, arith}
use Rattle.std.proofs.lemmas.Bool.{cases_lt, ltb-false, ltb-true, ne_eqb}
use Rattle.ken_disk.specs.Story.{Story}
use Rattle.ken_model.specs.declared.messages.Out.{Out}
use Rattle.ken_model.specs.declared.reports.Emission.{Emission}
use Rattle.ken_model.specs.Emissions.{emitted_by, largest_of}
use Rattle.ken_model.specs.Game.{Game}
use Rattle.ken_model.specs.Handler.{Handler}
use Rattle.ken_model.specs.Network.{inputs_for, outside}
use Rattle.ken_core.specs.Clusters.{emissions_by}
use Rattle.ken_core.specs.Nodes.{Node}
use Rattle.ken_core.specs.Turns.{consumed_from, mails_to, outs_of}
use Rattle.ken_ship.specs.Last.{last_of, outs_emitted}
use Rattle.ken_node.specs.declared.stage.Stage.{Stage}
use Rattle.ken_node.specs.declared.watched.Watched.{Watched}
use Rattle.ken_node.specs.Stages.{IsCreated}
use Rattle.ken_node.specs.Up.{IsUp}
use Rattle.ken_flow.specs.Standstill.{HasEnded, waits_on}
use Rattle.ken_run.specs.declared.run.Run.{Run}
use Rattle.ken_run.specs.Endings.{HasNoneWaiting, HasWaiting, IsDone}
use Rattle.ken_run.specs.Running.{IsRunning, MayGoOn, MayWork}

pub up-created : {D : Type 0} (told : D → Option Story) (size : D → ℕ) (g : Game) (v : ℕ) (n : Node) (stage : Stage D) → IsUp told size g v n stage → IsCreated stage
up-created told size g v n stage up = record { turns = up.handler; patches = up.patcher; sends = up.sender; stage_is = up.stage_is }

-- ---- what waits on one link

module _ (g : Game) (nodes : ℕ → Node) where
  mail-waits : (u v : ℕ) → u ≢ outside → waits_on g nodes u v ≡ length (mails_to u v (nodes u).turning.turns) - consumed_from u (nodes v).turning.turns
  mail-waits u v other =
      ap (λ (b : Bool). length (if b then inputs_for g v else mails_to u v (nodes u).turning.turns) - consumed_from u (nodes v).turning.turns) (ne_eqb u outside other)

  pub message-waits : (u v got sent : ℕ) → u < 8 → got ≡ consumed_from u (nodes v).turning.turns → sent ≡ length (mails_to u v (nodes u).turning.turns) → nat_lt got sent ≡ true → 0 < waits_on g nodes u v
  message-waits u v got sent few got_is sent_is less =
      let waits = mail-waits u v (λ same. absurd (omega (arith, same, few))) in
      let low = ltb-true got sent less in
      omega (arith, waits, low, got_is, sent_is)

  pub no-message : (u v got sent : ℕ) → u < 8 → got ≡ consumed_from u (nodes v).turning.turns → sent ≡ length (mails_to u v (nodes u).turning.turns) → nat_lt got sent ≡ false → waits_on g nodes u v ≡ 0
  no-message u v got sent few got_is sent_is less =
      let waits = mail-waits u v (λ same. absurd (omega (arith, same, few))) in
      let high = ltb-false got sent less in
      omega (arith, waits, high, got_is, sent_is)

  pub input-waits : (v got given : ℕ) → got ≡ consumed_from outside (nodes v).turning.turns → given ≡ length (inputs_for g v) → nat_lt got given ≡ true → 0 < waits_on g nodes outside v
  input-waits v got given got_is given_is less = let low = ltb-true got given less in omega (arith, low, got_is, given_is)

  pub no-input : (v got given : ℕ) → got ≡ consumed_from outside (nodes v).turning.turns → given ≡ length (inputs_for g v) → nat_lt got given ≡ false → waits_on g nodes outside v ≡ 0
  no-input v got given got_is given_is less = let high = ltb-false got given less in omega (arith, high, got_is, given_is)

  -- ---- of one node

  pub none-waits : (v count : ℕ) → g.nodes ≤ count → waits_on g nodes outside v ≡ 0 → ((u : ℕ) → u < count → u < g.nodes → waits_on g nodes u v ≡ 0) → HasNoneWaiting g nodes v
  none-waits v count all input each u (inl low) = let none = each u (omega (arith, low, all)) low in omega (arith, none)
  none-waits v count all input each u (inr is) = subst (λ (x : ℕ). waits_on g nodes x v ≤ 0) (sym is) (omega (arith, input))

module _ (g : Game) (emissions : List Emission) (nodes : ℕ → Node) where
  -- the last output that node v emitted is not its last
  abbrev pub IsUnemitted : ℕ → Type 0
  IsUnemitted v = largest_of 0 (emitted_by v emissions) < length (outs_of (nodes v).turning.turns)

  pub unemitted-busy : (v last : ℕ) → last ≡ largest_of 0 (emitted_by v emissions) → last < length (outs_of (nodes v).turning.turns) → IsDone g emissions nodes v → ⊥
  unemitted-busy v last is due done = let past = done.emitted in absurd (omega (arith, due, past, is))

  pub none-unemitted : (v last : ℕ) → last ≡ largest_of 0 (emitted_by v emissions) → (last < length (outs_of (nodes v).turning.turns) → ⊥) → IsUnemitted v → ⊥
  none-unemitted v last is none due = none (omega (arith, due, is))

  all-emitted : (v : ℕ) → (IsUnemitted v → ⊥) → length (outs_of (nodes v).turning.turns) ≤ largest_of 0 (emitted_by v emissions)
  all-emitted v none = ⊎_elim
      (λ (due : largest_of 0 (emitted_by v emissions) < length (outs_of (nodes v).turning.turns)). absurd (none due))
      (λ (past : length (outs_of (nodes v).turning.turns) ≤ largest_of 0 (emitted_by v emissions)). past)
      (cases_lt (largest_of 0 (emitted_by v emissions)) (length (outs_of (nodes v).turning.turns)))

  pub full-done : (v : ℕ) → (IsUnemitted v → ⊥) → g.turns ≤ length (nodes v).turning.turns → IsDone g emissions nodes v
  full-done v none full = record { emitted = all-emitted v none; waits = λ u known some. full }

  pub waiting-busy : (v : ℕ) → (g.turns ≤ length (nodes v).turning.turns → ⊥) → HasWaiting g nodes v → IsDone g emissions nodes v → ⊥
  waiting-busy v more has done = more (done.waits has.from has.known has.waits)

  pub idle-done : (v : ℕ) → (IsUnemitted v → ⊥) → HasNoneWaiting g nodes v → IsDone g emissions nodes v
  idle-done v none waits = record {
    emitted = all-emitted v none;
    waits = λ u known some. let nothing = waits u known in absurd (omega (arith, some, nothing));
  }

  -- ---- of all

  pub all-done : (count : ℕ) → g.nodes ≤ count → ((v : ℕ) → v < count → v < g.nodes → IsDone g emissions nodes v) → HasEnded g emissions nodes
  all-done count all each = record {
    emitted = λ v low. let done = each v (omega (arith, low, all)) low in done.emitted;
    waits = λ u v known low some. let done = each v (omega (arith, low, all)) low in done.waits u known some;
  }

  pub ended-done : (v : ℕ) → v < g.nodes → HasEnded g emissions nodes → IsDone g emissions nodes v
  ended-done v low ended = record { emitted = ended.emitted v low; waits = λ u known some. ended.waits u v known low some }

module _ {D O U A : Type 0} (told : Watched D → Option Story) (size : Watched D → ℕ) (took : U → Option (List Out)) (handles : A → Handler) (r : Run D O U A) where
  pub below-eight : (g : Game) (made v : ℕ) → IsRunning told size took handles g made r → v < made → v < 8
  below-eight g made v is low =
      let few = is.stands.few in
      let most = is.stands.limits.few_nodes in
      omega (arith, low, few, most)

  -- a node below the count works
  pub may-work : (v : ℕ) → v < r.nodes → MayGoOn told size took handles r → MayWork told size took handles v r
  may-work v low may = record { game = may.game; made = may.made; running = may.running; known = subst (λ (n : ℕ). v < n) may.running.stands.count low }

  pub may-work-too : (u v : ℕ) → v < r.nodes → MayWork told size took handles u r → MayWork told size took handles v r
  may-work-too u v low may = record { game = may.game; made = may.made; running = may.running; known = subst (λ (n : ℕ). v < n) may.running.stands.count low }

  pub below-made : (g : Game) (made v : ℕ) → IsRunning told size took handles g made r → v < r.nodes → v < made
  below-made g made v is low = subst (λ (n : ℕ). v < n) is.stands.count low

  pub all-nodes : (g : Game) (made : ℕ) → IsRunning told size took handles g made r → made ≡ g.nodes → r.nodes ≡ g.nodes
  all-nodes g made is all = is.stands.count ∙ all

-- a fact of each number below one more
pub one-more : (P : ℕ → Type 0) (n : ℕ) → ((u : ℕ) → u < n → P u) → P n → (u : ℕ) → u < n + 1 → P u
one-more P n each last u low = ⊎_elim
    (λ (below : u < n). each u below)
    (λ (high : n ≤ u). let same : n ≡ u = omega (arith, low, high) in subst P same last)
    (cases_lt u n)

-- what a node keeps of its emissions is what it emitted
pub emitted-of-node : (v : ℕ) (os : List Out) → outs_emitted (emissions_by v os) ≡ os
emitted-of-node v [] = refl
emitted-of-node v (o ∷ os) = ap (λ xs. o ∷ xs) (emitted-of-node v os)

pub last-of-node : (v : ℕ) (os : List Out) (es : List Emission) → es ≡ emissions_by v os → last_of es ≡ largest_of 0 os
last-of-node v os es is = ap last_of is ∙ ap (largest_of 0) (emitted-of-node v os)
