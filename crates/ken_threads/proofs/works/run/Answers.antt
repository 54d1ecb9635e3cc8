use Rattle.std.proofs.Common.{◌≡◌, ◌+◌, ◌-◌, ◌∷◌, [], ◌++◌, ℕ, length, Option, refl, sym, subst, ap, ◌∙◌, arith}
use Rattle.std.proofs.lemmas.List.{length-append}
use Rattle.ken_ship.specs.declared.faults.NodeFault.{NodeFault}
use Rattle.ken_weave.specs.Workers.{none}
use Rattle.ken_threads.specs.Ran.{EndsBy}
use Rattle.ken_threads.proofs.Following.{one_more}
use Rattle.ken_threads.proofs.works.run.Goals as goal

pub loop-step-init : goal.loop-step-init
loop-step-init g c = record {
  made = ([], (none, refl));
  may = λ count all.
      let sixteen : 16 ≡ count = omega (arith, all) in
      subst (λ (n : ℕ). g.W.Works.may n c.args.seat.now.worker) sixteen c.requires;
  node = refl;
  fault = refl;
}

pub step-requires : goal.step-requires
step-requires g c = record {
  may = (15 - c.loop-step.step, c.loop-step.invariant.may (15 - c.loop-step.step + 1) (omega (arith, c.loop-step-test.true)));
}

pub loop-step-preserved : goal.loop-step-preserved
loop-step-preserved g c =
    let made = c.loop-step.invariant.made in
    record {
      made = (made.0 ++ c.step.new.self ∷ [], (one_more made.1.0 c.in_default.ensures.step, length-append made.0 (c.step.new.self ∷ []) ∙ ap (λ (n : ℕ). n + 1) made.1.1));
      may = λ count all. c.in_default.ensures.more count (c.loop-step.invariant.may (count + 1) (omega (arith, all)));
      node = c.loop-step.invariant.node;
      fault = c.loop-step.invariant.fault;
    }

pub returns-in-Err-clause-ran : goal.returns-in-Err-clause-ran
returns-in-Err-clause-ran g c =
    let made = c.loop-step.invariant.made in
    record {
      states = made.0;
      mid = c.loop-step.seat.worker;
      made = made.1.0;
      ends = (omega (arith, made.1.1, c.loop-step-test.true), c.in-Err.ensures.fault);
    }

pub returns-clause-ran : goal.returns-clause-ran
returns-clause-ran g c =
    let made = c.loop-step.invariant.made in
    record {
      states = made.0;
      mid = c.loop-step.seat.worker;
      made = made.1.0;
      ends =
          subst (λ (fault : Option NodeFault). EndsBy g.W.Works.fails (length made.0) c.loop-step.seat.worker c.loop-step.seat.worker fault) (sym c.loop-step.invariant.fault)
          (omega (arith, made.1.1, c.loop-step-test.false, c.loop-step.auto.step-end), refl);
    }
