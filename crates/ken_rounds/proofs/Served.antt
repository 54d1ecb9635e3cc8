-- What the turns that a handler made come to at its node, after the meeting.
use Rattle.std.proofs.Common.{◌≡◌, ◌∙◌, ℕ, ◌+◌, ◌*◌, ◌^◌, ◌≤◌, ◌⊎◌, inl, inr, List, [], ◌∷◌, length, Option, refl, sym, ap, subst, arith}
use Rattle.std.specs.List.{AllByRecursion}
use Rattle.ken_disk.specs.declared.disk.Disk as disk
use Rattle.ken_disk.specs.Story.{Story}
use Rattle.ken_model.specs.declared.facts.TheConstants.{MAX_NODES, MAX_TURNS}
use Rattle.ken_model.specs.declared.reports.Emission.{Emission}
use Rattle.ken_model.specs.Game.{Game}
use Rattle.ken_model.specs.Handler.{Handler}
use Rattle.ken_model.specs.Limits.{IsWithinLimits}
use Rattle.ken_core.specs.Accord.{Accord}
use Rattle.ken_core.specs.Nodes.{Node}
use Rattle.ken_core.specs.Turns.{stamp_after}
use Rattle.ken_flow.specs.Groups.{group_of}
use Rattle.ken_flow.proofs.Stamps.{stamps_are_low}
use Rattle.ken_record.specs.declared.effects.Effects.{Effects}
use Rattle.ken_ship.specs.declared.worker.SendWorker.{SendWorker}
use Rattle.ken_work.specs.declared.patcher.PatchWorker.{PatchWorker}
use Rattle.ken_work.specs.declared.worker.TurnWorker.{TurnWorker}
use Rattle.ken_node.specs.declared.stage.Stage.{Stage}
use Rattle.ken_node.specs.declared.stage.Stage.TheVariants.{Uncreated, Created, Moved}
use Rattle.ken_node.specs.declared.watched.Watched.{Watched}
use Rattle.ken_node.specs.Stages.{turns_in}
use Rattle.ken_node.specs.Up.{IsUp}
use Rattle.ken_node.proofs.Over.{capped_over}
use Rattle.ken_run.specs.Counts.{KeepCounts}
use Rattle.ken_run.specs.Patched.{HasNoInput}
use Rattle.ken_run.proofs.AccountsCalls.{HasSome}
use Rattle.ken_run.proofs.Counts.{counts-same, counts-then}
use Rattle.ken_beside.specs.Meetings.{HaveEmptied}
use Rattle.ken_beside.proofs.On.{up_is_on}
use Rattle.ken_run.specs.declared.station.Station.{Station}
use Rattle.ken_rounds.specs.Quota.{all, CountsRose, IsServed, MeetsQuota, more, none_waits}
use Rattle.ken_rounds.proofs.Counts.{counts-rose-then, then-counts-rose}
use Rattle.ken_rounds.proofs.Turns.{Makes, NoneWaits, Stuck, stuck-capped}

module _ {D : Type 0} where
  -- the handler of a node has come to an end of its turns
  abbrev pub IsAtEnd : Stage D → Type 0
  IsAtEnd (Uncreated disks parts) = ⊥
  IsAtEnd (Created t p s) = Stuck t
  IsAtEnd Moved = ⊥

  -- it made so many turns, or has come to an end of them, or no input waits for it
  pub record HasMade (count : ℕ) (old new : Stage D) : Type 0 where
    pub made : (length (turns_in new) ≡ length (turns_in old) + count) ⊎ (HasNoInput new ⊎ IsAtEnd new)
    pub quiet : HasNoInput old → HasNoInput new

-- a meeting leaves its turns and its inputs
pub has-made : {D : Type 0} (d : disk.Ghosts D) (h : Handler) (count : ℕ) (t t2 t3 : TurnWorker D) (p p2 p3 : PatchWorker D) (s s2 s3 : SendWorker) → Makes d h count t t2 → HaveEmptied d t2 t3 p2 p3 s2 s3
    → HasMade count (Created t p s) (Created t3 p3 s3)
has-made d h count t t2 t3 p p2 p3 s s2 s3 makes meets =
    let same = meets.met.handler in
    record {
      made = subst (λ w. (length w.turns.items ≡ length t.turns.items + count) ⊎ (NoneWaits w ⊎ Stuck w)) (sym same) makes.made;
      quiet = λ x. subst NoneWaits (sym same) (makes.quiet x);
    }

stamp-low : (most stamp : ℕ) (es : List Effects) → stamp ≤ most → AllByRecursion (λ (e : Effects). e.stamp ≤ most) es → stamp_after stamp es ≤ most
stamp-low most stamp [] low each = low
stamp-low most stamp (e ∷ es) low each = stamp-low most e.stamp es each.0 each.1

module _ {D : Type 0} (told : D → Option Story) (size : D → ℕ) (g : Game) (nodes : ℕ → Node) (emissions : List Emission) (limits : IsWithinLimits g) (accord : Accord g (group_of g nodes emissions)) (v : ℕ) where
  -- no stamp is high
  over-turns : (g.turns ≤ length (nodes v).turning.turns) ⊎ (2 ^ 63 ≤ stamp_after 0 (nodes v).turning.turns) → g.turns ≤ length (nodes v).turning.turns
  over-turns (inl made) = made
  over-turns (inr high) =
      let early = stamps_are_low g nodes emissions limits accord in
      let low = stamp-low (MAX_NODES * MAX_TURNS) 0 (nodes v).turning.turns (omega arith) (early.stamps v) in
      absurd (omega (arith, low, high))

  -- so a node that has come to an end of its turns has made all
  end-all : (stage : Stage D) → IsUp told size g v (nodes v) stage → IsAtEnd stage → g.turns ≤ length (turns_in stage)
  end-all (Uncreated disks parts) up stuck = absurd stuck
  end-all Moved up stuck = absurd stuck
  end-all (Created t p s) up stuck =
      let on = (up_is_on told size g v (nodes v) t p s).on up in
      let over = over-turns (capped_over told size g v (nodes v) t p s on.whole on.tell (stuck-capped t stuck)) in
      let kept = ap length on.whole.workers.turns.kept in
      omega (arith, over, kept)

  pub meets-quota : (count : ℕ) (old new : Stage D) → IsUp told size g v (nodes v) new → HasMade count old new → MeetsQuota g count old new
  meets-quota count old new up has = by has.made
    where
      by : (length (turns_in new) ≡ length (turns_in old) + count) ⊎ (HasNoInput new ⊎ IsAtEnd new) → MeetsQuota g count old new
      by (inl made) = more (omega (arith, made))
      by (inr (inl waits)) = none_waits waits
      by (inr (inr stuck)) = all (end-all new up stuck)

-- ---- one round after others

module _ {D : Type 0} (g : Game) where
  quota-then : (rounds : ℕ) (a b c : Stage (Watched D)) → MeetsQuota g (16 * rounds) a b → MeetsQuota g (16 * 1) b c → (HasNoInput b → HasNoInput c) → MeetsQuota g (16 * (rounds + 1)) a c
  quota-then rounds a b c (more x) (more y) quiet = more (omega (arith, x, y))
  quota-then rounds a b c (all x) (more y) quiet = all (omega (arith, x, y))
  quota-then rounds a b c (none_waits x) (more y) quiet = none_waits (quiet x)
  quota-then rounds a b c x (all y) quiet = all y
  quota-then rounds a b c x (none_waits y) quiet = none_waits y

  quota-fewer : (some many : ℕ) (a b : Stage (Watched D)) → some ≤ many → MeetsQuota g many a b → MeetsQuota g some a b
  quota-fewer some many a b low (more x) = more (omega (arith, low, x))
  quota-fewer some many a b low (all x) = all x
  quota-fewer some many a b low (none_waits x) = none_waits x

module _ {D O U : Type 0} (count : Watched D → ℕ) (g : Game) where
  -- a node was restarted only where a count of its disks rose, so where none did it meets the quota
  unfailed-meets : (turns : ℕ) (a b : Station D O U) → (b.restarts ≡ a.restarts) ⊎ CountsRose count a.node.stage b.node.stage → (b.restarts ≡ a.restarts → MeetsQuota g turns a.node.stage b.node.stage)
      → (CountsRose count a.node.stage b.node.stage → ⊥) → MeetsQuota g turns a.node.stage b.node.stage
  unfailed-meets turns a b (inl same) quota none = quota same
  unfailed-meets turns a b (inr rose) quota none = absurd (none rose)

  caused-then : (a b c : Station D O U) → HasSome b.node.stage → KeepCounts count a.node.stage b.node.stage → KeepCounts count b.node.stage c.node.stage
      → (b.restarts ≡ a.restarts) ⊎ CountsRose count a.node.stage b.node.stage → (c.restarts ≡ b.restarts) ⊎ CountsRose count b.node.stage c.node.stage → (c.restarts ≡ a.restarts) ⊎ CountsRose count a.node.stage c.node.stage
  caused-then a b c mid one two (inl same) (inl still) = inl (still ∙ same)
  caused-then a b c mid one two (inr rose) later = inr (counts-rose-then count a.node.stage b.node.stage c.node.stage mid rose two)
  caused-then a b c mid one two (inl same) (inr rose) = inr (then-counts-rose count a.node.stage b.node.stage c.node.stage mid one rose)

  pub served-none : (a : Station D O U) → IsServed count g (16 * 0) a a
  served-none a = record {
    unfailed = λ none. more (omega arith);
    caused = inl refl;
    counts = counts-same count a.node.stage;
    tries = omega arith;
    quota = λ same. more (omega arith);
    quiet = λ same x. x;
  }

  pub served-then : (rounds : ℕ) (a b c : Station D O U) → HasSome b.node.stage → IsServed count g (16 * rounds) a b → IsServed count g (16 * 1) b c → IsServed count g (16 * (rounds + 1)) a c
  served-then rounds a b c mid one two =
      let first = one.tries in
      let second = two.tries in
      let one_same : c.restarts ≡ a.restarts → b.restarts ≡ a.restarts = λ same. omega (arith, first, second, same) in
      let two_same : c.restarts ≡ a.restarts → c.restarts ≡ b.restarts = λ same. omega (arith, first, second, same) in
      let quota : c.restarts ≡ a.restarts → MeetsQuota g (16 * (rounds + 1)) a.node.stage c.node.stage =
      λ same. quota-then g rounds a.node.stage b.node.stage c.node.stage (one.quota (one_same same)) (two.quota (two_same same)) (two.quiet (two_same same)) in
      let caused = caused-then a b c mid one.counts two.counts one.caused two.caused in
      record {
        unfailed = unfailed-meets (16 * (rounds + 1)) a c caused quota;
        caused = caused;
        counts = counts-then count a.node.stage b.node.stage c.node.stage mid one.counts two.counts;
        tries = omega (arith, first, second);
        quota = quota;
        quiet = λ same x. two.quiet (two_same same) (one.quiet (one_same same) x);
      }

  -- fewer turns than it made
  pub served-fewer : (some many : ℕ) (a b : Station D O U) → some ≤ many → IsServed count g many a b → IsServed count g some a b
  served-fewer some many a b low is = record {
    unfailed = λ none. quota-fewer g some many a.node.stage b.node.stage low (is.unfailed none);
    caused = is.caused;
    counts = is.counts;
    tries = is.tries;
    quota = λ same. quota-fewer g some many a.node.stage b.node.stage low (is.quota same);
    quiet = is.quiet;
  }
