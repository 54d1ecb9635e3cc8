-- Passes until a run has ended.
use Rattle.std.proofs.Common.{◌≡◌, ℕ, ◌<◌, ◌≤◌, ⊎_elim, List, length, Bool, true, false, Option, Result, Ok, Err, refl, sym, subst, ◌∙◌, arith}
use Rattle.std.specs.Result.{IsErrAnd}
use Rattle.std.proofs.lemmas.Bool.{cases_lt}
use Rattle.ken_disk.specs.Story.{Story}
use Rattle.ken_model.specs.declared.messages.Out.{Out}
use Rattle.ken_model.specs.Game.{Game}
use Rattle.ken_model.specs.Handler.{Handler}
use Rattle.ken_node.specs.declared.watched.Watched.{Watched}
use Rattle.ken_flow.specs.Standstill.{HasEnded, Passed, open_in}
use Rattle.ken_flow.proofs.Stamps.{standstill_ends}
use Rattle.ken_run.specs.declared.drain.PassOutcome.{PassOutcome}
use Rattle.ken_run.specs.declared.drain.PassOutcome.TheVariants.{Ended, Progressed, Idle}
use Rattle.ken_run.specs.declared.faults.RunFault.{RunFault}
use Rattle.ken_run.specs.declared.run.Run.{Run}
use Rattle.ken_run.specs.Draining.{ProgressesBy, PassesBy, DrainsBy, HasRun, Idled, LessIsOpen, MayDrain, PassedIdly, StaysWhole}
use Rattle.ken_run.specs.Flowing.{AllMoved, flow_of, work_left}
use Rattle.ken_run.specs.Open.{open_left}
use Rattle.ken_run.specs.Running.{IsRunning, LeavesRunFault, MayGoOn}
use Rattle.ken_run.proofs.Opening.{has-places, open-is}

module _ {D O U A : Type 0} (told : Watched D → Option Story) (size : Watched D → ℕ) (took : U → Option (List Out)) (handles : A → Handler) where
  pub may-go-on : (r : Run D O U A) → MayDrain told size took handles r → MayGoOn told size took handles r
  may-go-on r may = record { game = may.game; made = may.made; running = may.running }

  pub may-still : (old new : Run D O U A) → StaysWhole told size took handles old new → MayDrain told size took handles old → MayDrain told size took handles new
  may-still old new stays may = record { game = may.game; made = may.made; running = stays may.game may.made may.running may.all; all = may.all }

  pub stays-whole : (r : Run D O U A) → StaysWhole told size took handles r r
  stays-whole r g made is all = is

  -- ---- one pass

  module _ (old new : Run D O U A) (leaves : (g : Game) (made : ℕ) → IsRunning told size took handles g made old → IsRunning told size took handles g made new) (moves : AllMoved told size took handles Passed old new) where
    pub passed-whole : StaysWhole told size took handles old new
    passed-whole g made is all = leaves g made is

    pub passed-ended : ((g : Game) (made : ℕ) (is : IsRunning told size took handles g made new) → made ≡ g.nodes → HasEnded g is.emissions is.nodes) → PassesBy told size took handles (PassedIdly told size took handles) (Ok Ended) old new
    passed-ended ended g made is all = (leaves g made is, ended g made (leaves g made is) all)

    -- as much work is left, and the run goes on
    pub passed-idly : work_left old ≤ work_left new → ((g : Game) (made : ℕ) (is : IsRunning told size took handles g made new) → made ≡ g.nodes → HasEnded g is.emissions is.nodes → ⊥) → PassedIdly told size took handles old new
    passed-idly same goes_on g made was all =
        let m = moves g made was all in
        ⊎_elim
        (λ (less : work_left new < work_left old). absurd (omega (arith, less, same)))
        (λ (x : (work_left new ≡ work_left old) × Passed g (flow_of was.nodes old) (flow_of m.now.nodes new)). let i : Idled told size took handles g made old new was = record { now = m.now; passed = x.1; goes_on = goes_on g made m.now all } in i)
        m.moved

    pub passed-same : MayDrain told size took handles old → work_left old ≤ work_left new → work_left new ≡ work_left old
    passed-same may same =
        let m = moves may.game may.made may.running may.all in
        ⊎_elim
        (λ (less : work_left new < work_left old). absurd (omega (arith, less, same)))
        (λ (x : (work_left new ≡ work_left old) × Passed may.game (flow_of may.running.nodes old) (flow_of m.now.nodes new)). x.0)
        m.moved

  -- ---- several

  -- less is open after three in which nothing happened
  pub three-less : (old m1 m2 new : Run D O U A) → MayDrain told size took handles old → PassedIdly told size took handles old m1 → PassedIdly told size took handles m1 m2 → PassedIdly told size took handles m2 new → LessIsOpen old new
  three-less old m1 m2 new may one two three =
      let g = may.game in
      let made = may.made in
      let was = may.running in
      let all = may.all in
      let a = one may.game may.made may.running may.all in
      let b = two may.game may.made a.now may.all in
      let c = three may.game may.made b.now may.all in
      let before : open_in may.game (flow_of may.running.nodes old) ≡ open_left old = open-is told size took handles may.game may.made old may.running may.all in
      let after : open_in may.game (flow_of c.now.nodes new) ≡ open_left new = open-is told size took handles may.game may.made new c.now may.all in
      ⊎_elim
      (λ (less : open_left new < open_left old). less)
      (λ (more : open_left old ≤ open_left new).
      absurd (c.goes_on (standstill_ends may.game may.running.emissions (flow_of may.running.nodes old) (flow_of a.now.nodes m1) (flow_of b.now.nodes m2) (flow_of c.now.nodes new)
      may.running.stands.limits (has-places told size took handles may.game may.made old may.running may.all) may.running.stands.short.0 may.running.stands.short.1 may.running.stands.accord
      (record { first = a.passed; second = b.passed; third = c.passed; same = omega (arith, before, after, more) }) c.now.emissions c.now.stands.accord)))
      (cases_lt (open_left new) (open_left old))

  -- passes after idle ones
  pub outcome-then : (one two : Run D O U A → Run D O U A → Type 0) (old mid new : Run D O U A) (result : Result PassOutcome RunFault) → (one mid new → two old new) → StaysWhole told size took handles old mid → work_left mid ≡ work_left old → PassesBy told size took handles one result mid new → PassesBy told size took handles two result old new
  outcome-then one two old mid new (Ok Ended) joins stays same c = λ g made is all. c g made (stays g made is all) all
  outcome-then one two old mid new (Ok Progressed) joins stays same c = (λ g made is all. c.0 g made (stays g made is all) all, let less = c.1 in omega (arith, same, less))
  outcome-then one two old mid new (Ok Idle) joins stays same c = (joins c.0, λ g made is all. c.1 g made (stays g made is all) all, c.2 ∙ same)
  outcome-then one two old mid new (Err fault) joins stays same c = λ g made is all. c g made (stays g made is all) all

  -- an outcome that ends them
  pub outcome-done : (one two : Run D O U A → Run D O U A → Type 0) (old new : Run D O U A) (outcome : PassOutcome) → (outcome ≡ Idle → ⊥) → PassesBy told size took handles one (Ok outcome) old new → PassesBy told size took handles two (Ok outcome) old new
  outcome-done one two old new Ended other c = c
  outcome-done one two old new Progressed other c = c
  outcome-done one two old new Idle other c = absurd (other refl)

  -- a fault that is handed on
  pub outcome-failed : (two : Run D O U A → Run D O U A → Type 0) (old new : Run D O U A) (result : Result PassOutcome RunFault) (fault : RunFault) → IsErrAnd result (λ e. e ≡ fault)
      → ((g : Game) (made : ℕ) → IsRunning told size took handles g made old → made ≡ g.nodes → LeavesRunFault told size took handles fault g made new) → PassesBy told size took handles two result old new
  outcome-failed two old new (Ok x) fault same leaves = absurd same
  outcome-failed two old new (Err e) fault same leaves = λ g made is all. subst (λ (x : RunFault). LeavesRunFault told size took handles x g made new) (sym same) (leaves g made is all)

  pub until_progress-failed : (old new : Run D O U A) (result : Result Bool RunFault) (fault : RunFault) → IsErrAnd result (λ e. e ≡ fault)
      → ((g : Game) (made : ℕ) → IsRunning told size took handles g made old → made ≡ g.nodes → LeavesRunFault told size took handles fault g made new) → ProgressesBy told size took handles result old new
  until_progress-failed old new (Ok x) fault same leaves = absurd same
  until_progress-failed old new (Err e) fault same leaves = λ g made is all. subst (λ (x : RunFault). LeavesRunFault told size took handles x g made new) (sym same) (leaves g made is all)

  pub drain-failed : (g : Game) (made : ℕ) (new : Run D O U A) (result : Result (Unit {0}) RunFault) (fault : RunFault) → IsErrAnd result (λ e. e ≡ fault) → LeavesRunFault told size took handles fault g made new → DrainsBy told size took handles result g made new
  drain-failed g made new (Ok x) fault same leaves = absurd same
  drain-failed g made new (Err e) fault same leaves = subst (λ (x : RunFault). LeavesRunFault told size took handles x g made new) (sym same) leaves

  -- passes until one makes progress: the run has ended, or less work is left
  pub drain-on : (old mid new : Run D O U A) (ended : Bool) → StaysWhole told size took handles old mid → ProgressesBy told size took handles (Ok ended) mid new → StaysWhole told size took handles old new
  drain-on old mid new true stays c g made is all = (c g made (stays g made is all) all).0
  drain-on old mid new false stays c g made is all = c.0 g made (stays g made is all) all

  pub few-stations : (r : Run D O U A) → MayDrain told size took handles r → length r.stations.items ≤ 8
  few-stations r may =
      let width = may.running.stands.width in
      let all = may.all in
      let few = may.running.stands.limits.few_nodes in
      omega (arith, width, all, few)

  pub stays-then : (old mid new : Run D O U A) → StaysWhole told size took handles old mid → StaysWhole told size took handles mid new → StaysWhole told size took handles old new
  stays-then old mid new one two g made is all = two g made (one g made is all) all

  pub drain-done : (old mid new : Run D O U A) (ended : Bool) → ended ≡ true → StaysWhole told size took handles old mid → ProgressesBy told size took handles (Ok ended) mid new → (g : Game) (made : ℕ) → IsRunning told size took handles g made old → made ≡ g.nodes → HasRun told size took handles g made new
  drain-done old mid new true same stays c = λ g made is all. c g made (stays g made is all) all
  drain-done old mid new false same stays c = absurd (cc)

  -- an outcome by another name
  pub outcome-is : (one : Run D O U A → Run D O U A → Type 0) (old new : Run D O U A) (outcome outcome2 : PassOutcome) → outcome ≡ outcome2 → PassesBy told size took handles one (Ok outcome) old new → PassesBy told size took handles one (Ok outcome2) old new
  outcome-is one old new outcome outcome2 same c = subst (λ (x : PassOutcome). PassesBy told size took handles one (Ok x) old new) same c
