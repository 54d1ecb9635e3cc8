use Rattle.std.proofs.Common.{◌∙◌, ◌++◌, List, ℕ, ap, subst}
use Rattle.std.specs.Prelude.{map}
use Rattle.ken_net.specs.declared.link.Kept.{Kept}
use Rattle.ken_net.specs.Acts.{copies}
use Rattle.ken_net.specs.Puts.{Put, alone, handing}
use Rattle.ken_net.specs.Standings.{Standing, next_act, due}
use Rattle.ken_net.specs.Went.{Went}
use Rattle.ken_net.proofs.Joins.{went_joins}
use Rattle.ken_net.proofs.Made.{keeps}
use Rattle.ken_net.proofs.Turns.{between_still}
use Rattle.ken_net.proofs.link.Link.put.Goals as goal

pub pass_due-requires-clause-own : goal.pass_due-requires-clause-own
pass_due-requires-clause-own g c =
    let kept = ap (λ (s : Standing). s.kept) (c.self-2.view_is ∙ c.in_ok-copies.ensures.ok) in
    rw (c.pass.ensures.node_is, kept) (keeps (next_act c.args.self.now) c.args.self.now.kept c.requires.may c.requires.own)

pub returns-clause-passed : goal.returns-clause-passed
returns-clause-passed g c =
    let joined = went_joins g.met.B.Base.put_joins g.met.B.Base.given_joins c.pass.ensures c.pass_due.ensures.passed in
    let kept = ap (λ (s : Standing). s.kept) (c.self-2.view_is ∙ c.in_ok-copies.ensures.ok) in
    let hand : List ℕ → Put = handing c.args.to g.H.Handed.sealed g.H.Handed.consumed in
    let same =
    ap (λ (cs : List (List ℕ)). map hand cs ++ map (alone c.args.to) (due c.self-2.inside.kept.items)) c.in_ok-copies.ensures.copies
    ∙ ap (λ (ks : List Kept). map hand (copies (next_act c.args.self.now) c.args.bytes) ++ map (alone c.args.to) (due ks)) kept in
    subst (λ (ps : List Put). Went g.B.Base.node g.B.Base.nodes g.B.Base.nones g.B.Base.put_between g.B.Base.given_between c.args.base.now c.pass_due.new.base ps) same joined

pub returns-clause-own : goal.returns-clause-own
returns-clause-own g c =
    let kept = ap (λ (s : Standing). s.kept) (c.self-2.view_is ∙ c.in_ok-copies.ensures.ok) in
    rw (c.pass_due.ensures.kept, kept) (between_still _ _ _ (keeps (next_act c.args.self.now) c.args.self.now.kept c.requires.may c.requires.own))
