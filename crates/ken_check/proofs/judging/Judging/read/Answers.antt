use Rattle.std.proofs.Common.{◌++◌, ℕ, List, OnOk, sym, ap, subst, ◌∙◌, append_assoc}
use Rattle.ken_check.specs.Incoming.{HasRead}
use Rattle.ken_check.proofs.Pieces.{cut_at, one_line, read_on, read_past}
use Rattle.ken_check.proofs.judging.Judging.read.Goals as goal

pub keep-requires : goal.keep-requires
keep-requires gen c = record { open_yet = record { right = c.loop-self-test.true; one_line = one_line c.loop-self.rest.now (sym c.line_feed_in.ensures ∙ c.in_default.is) } }

pub returns-in_default : goal.returns-in_default
returns-in_default gen c = λ g most seen read.
    let on = c.loop-self.invariant.read in
    let whole = append_assoc seen on.front c.loop-self.rest.now ∙ ap (λ (l : List ℕ). seen ++ l) (sym on.parts) in
    subst (λ (l : List ℕ). OnOk c.keep.result (HasRead gen.P.Player.handler g most l c.keep.new.self)) whole (c.keep.ensures g most (seen ++ on.front) (on.read g most seen read))

pub end_line-requires : goal.end_line-requires
end_line-requires gen c = record { open_yet = record { right = c.loop-self-test.true; one_line = (cut_at c.loop-self.rest.now c.in-Some.end (sym c.in-Some.ensures)).one_line; under_way = c.loop-self.invariant.under_way } }

pub loop-self-preserved : goal.loop-self-preserved
loop-self-preserved gen c =
    let u = c.loop-self.invariant.under_way in
    let cut = cut_at c.loop-self.rest.now c.in-Some.end (sym c.in-Some.ensures) in
    record {
      under_way = record { game = u.game; most = u.most; seen = _; read = c.in_ok-end_line.ensures u.game u.most u.seen u.read };
      read = read_on gen.P.Player.handler c.args.bytes.now c.loop-self.rest.now c.in-Some.end c.args.self.now c.loop-self.self c.end_line.new.self c.loop-self.invariant.read cut c.in_ok-end_line.ensures;
    }

pub returns : goal.returns
returns gen c = λ g most seen read.
    let on = c.loop-self.invariant.read in
    let whole = append_assoc seen on.front c.loop-self.rest.now ∙ ap (λ (l : List ℕ). seen ++ l) (sym on.parts) in
    subst (λ (l : List ℕ). HasRead gen.P.Player.handler g most l c.loop-self.self) whole (read_past c.loop-self.rest.now (on.read g most seen read) c.loop-self-test.false)
