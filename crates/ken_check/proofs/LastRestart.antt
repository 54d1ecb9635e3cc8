-- Restarts and one more.
use Rattle.std.proofs.Common.{◌≡◌, ℕ, ◌+◌, ◌<◌, ◌≤◌, List, [], ◌∷◌, ◌++◌, length, refl, ap, ap₂, ◌∙◌, subst, arith, append-nil, length-append, eq-eqb, ne_eqb}
use Rattle.ken_model.specs.declared.messages.Step.{Step}
use Rattle.ken_model.specs.declared.reports.RestartLine.{RestartLine}
use Rattle.ken_model.specs.Game.{Game}
use Rattle.ken_model.specs.Restarts.{AreRestartsByNode, NeverFall, restarts_of}
use Rattle.ken_model.specs.Schedule.{play}
use Rattle.ken_model.proofs.Elements.{with_others}
use Rattle.ken_check.specs.Knowing.{last_of, last_restarted}
use Rattle.ken_check.specs.Right.{AreRestartsSoFar}
use Rattle.ken_check.proofs.Fronts.{restarts_of-append}

NeverFall-more : (low : ℕ) (xs : List ℕ) (x high : ℕ) → NeverFall low xs high → last_of low xs ≤ x → x ≤ high → NeverFall low (xs ++ x ∷ []) high
NeverFall-more low [] x high rise from to = (from, to)
NeverFall-more low (y ∷ xs) x high rise from to = (rise.0, NeverFall-more y xs x high rise.1 from to)

NeverFall-last : (low : ℕ) (xs : List ℕ) (x high : ℕ) → NeverFall low (xs ++ x ∷ []) high → (last_of low xs ≤ x) × (x ≤ high)
NeverFall-last low [] x high rise = rise
NeverFall-last low (y ∷ xs) x high rise = NeverFall-last y xs x high rise.1

last_of-more : (last : ℕ) (xs : List ℕ) (x : ℕ) → last_of last (xs ++ x ∷ []) ≡ x
last_of-more last [] x = refl
last_of-more last (y ∷ xs) x = last_of-more y xs x

ByNode-more : (nodes node : ℕ) (rs : List RestartLine) (r : RestartLine)
    → AreRestartsByNode nodes node rs → last_restarted node rs ≤ r.node → r.node < nodes → AreRestartsByNode nodes node (rs ++ r ∷ [])
unfolding AreRestartsByNode
ByNode-more nodes node [] r are after known = (after, known, tt)
ByNode-more nodes node (s ∷ rs) r are after known = (are.0, are.1, ByNode-more nodes s.node rs r are.2 after known)

ByNode-last : (nodes node : ℕ) (rs : List RestartLine) (r : RestartLine)
    → AreRestartsByNode nodes node (rs ++ r ∷ []) → (last_restarted node rs ≤ r.node) × (r.node < nodes)
unfolding AreRestartsByNode
ByNode-last nodes node [] r are = (are.0, are.1)
ByNode-last nodes node (s ∷ rs) r are = ByNode-last nodes s.node rs r are.2

pub last_restarted-more : (node : ℕ) (rs : List RestartLine) (r : RestartLine) → last_restarted node (rs ++ r ∷ []) ≡ r.node
last_restarted-more node [] r = refl
last_restarted-more node (s ∷ rs) r = last_restarted-more s.node rs r

-- restarts of a node with one more restart
restarts_of-same : (rs : List RestartLine) (r : RestartLine) → restarts_of r.node (rs ++ r ∷ []) ≡ restarts_of r.node rs ++ r.turns ∷ []
restarts_of-same rs r = restarts_of-append r.node rs (r ∷ []) ∙ ap (λ ts. restarts_of r.node rs ++ ts) (rw (eq-eqb r.node r.node refl) refl)

pub restarts_of-other : (v : ℕ) (rs : List RestartLine) (r : RestartLine) → (v ≡ r.node → ⊥) → restarts_of v (rs ++ r ∷ []) ≡ restarts_of v rs
restarts_of-other v rs r other =
    let none : restarts_of v (r ∷ []) ≡ [] = rw (ne_eqb r.node v (λ is. other (cc))) refl in
    restarts_of-append v rs (r ∷ []) ∙ ap (λ ts. restarts_of v rs ++ ts) none ∙ append-nil (restarts_of v rs)

pub count-same : (rs : List RestartLine) (r : RestartLine) → length (restarts_of r.node (rs ++ r ∷ [])) ≡ length (restarts_of r.node rs) + 1
count-same rs r = ap length (restarts_of-same rs r) ∙ length-append (restarts_of r.node rs) (r.turns ∷ [])

pub last-same : (rs : List RestartLine) (r : RestartLine) → last_of 0 (restarts_of r.node (rs ++ r ∷ [])) ≡ r.turns
last-same rs r = ap (last_of 0) (restarts_of-same rs r) ∙ last_of-more 0 (restarts_of r.node rs) r.turns

module _ (g : Game) (most : ℕ) (schedule : List Step) (rs : List RestartLine) (r : RestartLine) where
  -- a restart may come next
  pub record IsNextRestart : Type 0 where
    pub known : r.node < g.nodes
    pub after : last_restarted 0 rs ≤ r.node
    pub few : length (restarts_of r.node rs) < most
    pub from : last_of 0 (restarts_of r.node rs) ≤ r.turns
    pub to : r.turns ≤ ((play g schedule).place r.node).turns

  -- then those so far and it are restarts so far
  pub restarts_more : AreRestartsSoFar g most schedule rs → IsNextRestart → AreRestartsSoFar g most schedule (rs ++ r ∷ [])
  restarts_more are is = record {
    by_node = ByNode-more g.nodes 0 rs r are.by_node is.after is.known;
    few = λ v known. with_others (λ v. v < g.nodes → length (restarts_of v (rs ++ r ∷ [])) ≤ most)
        r.node
        (λ known. omega (arith, count-same rs r, is.few))
        (λ v other known. rw (restarts_of-other v rs r other) (are.few v known))
        v known;
    rise = λ v known. with_others (λ v. v < g.nodes → NeverFall 0 (restarts_of v (rs ++ r ∷ [])) ((play g schedule).place v).turns)
        r.node
        (λ known. rw (restarts_of-same rs r) (NeverFall-more 0 (restarts_of r.node rs) r.turns ((play g schedule).place r.node).turns (are.rise r.node known) is.from is.to))
        (λ v other known. rw (restarts_of-other v rs r other) (are.rise v known))
        v known;
  }

  -- and only then
  pub restarts_last : AreRestartsSoFar g most schedule (rs ++ r ∷ []) → IsNextRestart
  restarts_last are =
      let by_node = ByNode-last g.nodes 0 rs r are.by_node in
      let high = ((play g schedule).place r.node).turns in
      let last = NeverFall-last 0 (restarts_of r.node rs) r.turns high (subst (λ (ts : List ℕ). NeverFall 0 ts high) (restarts_of-same rs r) (are.rise r.node by_node.1)) in
      record {
        known = by_node.1;
        after = by_node.0;
        few = omega (arith, count-same rs r, are.few r.node by_node.1);
        from = last.0;
        to = last.1;
      }

pub same_restart : (r : RestartLine) (node turns : ℕ) → r.node ≡ node → r.turns ≡ turns → r ≡ record { node = node; turns = turns }
same_restart r node turns nodes counts = ap₂ (λ v n. record { node = v; turns = n }) nodes counts
