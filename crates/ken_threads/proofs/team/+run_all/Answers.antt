use Rattle.std.proofs.Common.{List, subst, sym}
use Rattle.ken_threads.specs.declared.team.Team.{Team}
use Rattle.ken_threads.specs.Teams.{HaveTeamsRun, TeamHasRun}
use Rattle.ken_threads.proofs.Teams.{one_more_ran}
use Rattle.ken_threads.proofs.team.+run_all.Goals as goal

pub returns-clause-ran : goal.returns-clause-ran
returns-clause-ran g t c =
    let have = HaveTeamsRun g.T.Works.steps g.T.Works.fails g.P.Works.steps g.P.Works.fails g.S.Works.steps g.S.Works.fails in
    let last : TeamHasRun g.T.Works.steps g.T.Works.fails g.P.Works.steps g.P.Works.fails g.S.Works.steps g.S.Works.fails c.in-Some.team _ = record {
      handler = c.finish.ensures c.in-Some.team.handler c.start-handler.ensures;
      patcher = c.finish-2.ensures c.in-Some.team.patcher c.start-patcher.ensures;
      externaliser = c.finish-3.ensures c.in-Some.team.externaliser c.start-externaliser.ensures;
    } in
    subst (λ (olds : List (Team g.row.T.Denot g.row.P.Denot g.row.S.Denot)). have olds c.push_reserved.new.self.items) (sym c.in-Some.ensures.items)
    (subst (have _) (sym c.push_reserved.ensures.items) (one_more_ran _ _ _ _ c.run_all.ensures.ran last))
