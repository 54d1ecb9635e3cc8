use Rattle.std.proofs.Common.{◌≡◌, ◌-◌, ◌<◌, ◌^◌, ℕ, List, [], ◌∷◌, ◌++◌, length, sum_by, Bool, true, false, Option, Some, None, Vec, Global, refl, sym, ap, subst, ◌∙◌}
use Rattle.ken_model.specs.declared.reports.Ending.{Ending}
use Rattle.ken_model.specs.Ending.{Ends, waiting}
use Rattle.ken_model.specs.Game.{Game}
use Rattle.ken_model.specs.Report.{end_words, line}
use Rattle.ken_model.specs.Schedule.{play}
use Rattle.ken_check.specs.declared.checker.Checker.{Checker}
use Rattle.ken_check.specs.declared.known.Known.{Known}
use Rattle.ken_check.specs.Endings.{EndsBy}
use Rattle.ken_check.specs.Kinds.{IsEndLine}
use Rattle.ken_check.specs.Knowing.{Knows}
use Rattle.ken_check.specs.Right.{Told}
use Rattle.ken_check.proofs.Counting.{few_wait}
use Rattle.ken_check.proofs.Ended.{ended, not_ended, one_ending, waiting-is}
use Rattle.ken_check.proofs.checker.Checker.end.Goals as goal

module _ (c : Checker) (g : Game) (most : ℕ) (told : Told) (knows : Knows g most c told) where
  by_game : (ks : List Known) (o : Option Ending) → ks ≡ c.nodes.items → EndsBy c.facts.now.turns ks o → EndsBy g.turns c.nodes.items o
  by_game ks o is by = subst (λ (n : ℕ). EndsBy n c.nodes.items o) (ap (λ (x : Game). x.turns) knows.game) (subst (λ (xs : List Known). EndsBy c.facts.now.turns xs o) is by)

  not_by : (ks : List Known) (e : Ending) → ks ≡ c.nodes.items → EndsBy c.facts.now.turns ks None → Ends g (play g told.schedule) told.emissions e → ⊥
  not_by ks e is by ends = not_ended g told c.nodes.items knows.width knows.each (by_game ks None is by) e ends

  ends_by : (ks : List Known) (e : Ending) → ks ≡ c.nodes.items → EndsBy c.facts.now.turns ks (Some e) → Ends g (play g told.schedule) told.emissions e
  ends_by ks e is by = ended g told c.nodes.items knows.width knows.each knows.only e (by_game ks (Some e) is by)

  -- what is put into the buffer
  spelled : (before now slice : List ℕ) (ks : List Known) (e : Ending) (count : ℕ) → slice ≡ now → now ≡ before ++ line (end_words e c.turns count) → before ≡ [] → ks ≡ c.nodes.items
      → count ≡ sum_by (λ (k : Known). k.came - k.turns) ks → slice ≡ line (end_words e (length told.schedule) (waiting g (play g told.schedule)))
  spelled before now slice ks e count is put none items counted =
      let all : count ≡ waiting g (play g told.schedule) = counted ∙ ap (sum_by (λ (k : Known). k.came - k.turns)) items ∙ waiting-is g told c.nodes.items knows.width knows.each in
      is ∙ put ∙ ap (λ (bs : List ℕ). bs ++ line (end_words e c.turns count)) none ∙ ap (λ n. line (end_words e n count)) knows.turns ∙ ap (λ n. line (end_words e (length told.schedule) n)) all

  -- nothing is known otherwise after the end line
  known_after : (buffer : Vec ℕ Global) → Knows g most (record c { ended = true; buffer = buffer }) (record told { ended = true })
  known_after buffer = record {
    game = knows.game;
    limits = knows.limits;
    limit = knows.limit;
    width = knows.width;
    each = λ v known none. let k = knows.each v known none in record { outs = k.outs; turns = k.turns; few = k.few; came = k.came; emitted = k.emitted; restarts = k.restarts; recovered = k.recovered };
    turns = knows.turns;
    only = knows.only;
    legal = knows.legal;
    no_emission = knows.no_emission;
    emitter = knows.emitter;
    emissions = knows.emissions;
    no_restart = knows.no_restart;
    restarted = knows.restarted;
    restarts = knows.restarts;
    heaps = knows.heaps;
    ended = refl;
  }

pub waiting-waiting-requires-clause-few : goal.waiting-waiting-requires-clause-few
waiting-waiting-requires-clause-few c =
    let r = c.requires.reading in
    subst (λ (ks : List Known). sum_by (λ (k : Known). k.came - k.turns) ks < 2 ^ 64) (sym c.as_slice.ensures.value) (few_wait r.game r.most c.args.self.now r.told r.knows)

pub returns-in_default : goal.returns-in_default
returns-in_default c g most told knows told2 right =
    not_by c.args.self.now g most told knows c.as_slice-2.result.now right.ending c.as_slice-2.ensures.value c.in_default.ensures right.ends

pub returns-then-not-is_line : goal.returns-then-not-is_line
returns-then-not-is_line c g most told knows told2 right =
    let self : Checker = c.args.self.now in
    let slice : List ℕ = c.as_slice-3.result.now in
    let text : List ℕ = c.args.text.now ++ 10 ∷ [] in
    let put = spelled self g most told knows c.clear.new.self.items c.put_end.new.out.items slice c.as_slice.result.now c.in-Some.ending c.waiting-waiting.result
    c.as_slice-3.ensures.value c.in_ok-put_end.ensures c.clear.ensures.items c.as_slice.ensures.value c.waiting-waiting.ensures in
    let one = one_ending g (play g told.schedule) told.emissions c.in-Some.ending right.ending
    (ends_by self g most told knows c.as_slice-2.result.now c.in-Some.ending c.as_slice-2.ensures.value c.in-Some.ensures) right.ends in
    let same : slice ≡ text = put ∙ ap (λ e. line (end_words e (length told.schedule) (waiting g (play g told.schedule)))) one ∙ sym right.text in
    let both : ◌≡◌ {A = Bool} false true = c.if-not-is_line.ensures.1 same in
    absurd cc

pub returns : goal.returns
returns c g most told knows =
    let self : Checker = c.args.self.now in
    let slice : List ℕ = c.as_slice-3.result.now in
    let text : List ℕ = c.args.text.now ++ 10 ∷ [] in
    let put = spelled self g most told knows c.clear.new.self.items c.put_end.new.out.items slice c.as_slice.result.now c.in-Some.ending c.waiting-waiting.result
    c.as_slice-3.ensures.value c.in_ok-put_end.ensures c.clear.ensures.items c.as_slice.ensures.value c.waiting-waiting.ensures in
    let same : slice ≡ text = c.if-not-is_line.ensures.0 refl in
    let right : IsEndLine g told text (record told { ended = true }) = record {
      ending = c.in-Some.ending;
      comes = record { open_yet = sym knows.ended ∙ c.if-self.false };
      heaps = sym knows.heaps ∙ c.if-self-2.false ∙ ap (λ (x : Game). x.nodes) knows.game;
      ends = ends_by self g most told knows c.as_slice-2.result.now c.in-Some.ending c.as_slice-2.ensures.value c.in-Some.ensures;
      text = sym same ∙ put;
      tells = refl;
    } in
    (record told { ended = true }, right, known_after self g most told knows c.put_end.new.out)
