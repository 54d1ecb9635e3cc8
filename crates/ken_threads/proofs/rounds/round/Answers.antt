use Rattle.std.proofs.Common.{◌≡◌, ◌∙◌, ℕ, length, subst, arith}
use Rattle.ken_threads.specs.Wires.{AreNew, ends_of}
use Rattle.ken_threads.proofs.Rounding.{acks_served, has_room, HasBegun, HasEnded, mail_served, net_of, rounded, teams_ready}
use denote.Exit.{no}
use denote.Param.Send.{arg_send, param_send}
use Rattle.ken_threads.proofs.Sent.{handler_seat_sends, lossy_sends, patch_worker_sends, wire_net_sends}
use Rattle.ken_threads.proofs.rounds.round.Given.{Over}
use Rattle.ken_threads.proofs.rounds.round.Goals as goal
use Rattle.ken_threads.proofs.rounds.round.Goals.{After-seat_all, After-run_teams-teams, After-unseat_all}

begun : (g : Over) (c : After-seat_all g) → HasBegun c.args.app.now c.args.crews.now.items c.in_ok-mail.mail c.in_ok-acks.acks c.seat_all.new.teams.items
begun g c =
    let size : c.len-nodes.result ≡ length c.args.crews.now.items = omega (arith, c.len-nodes.ensures, c.args.crews.now.ok.0) in
    record {
      some = c.requires.few.0;
      seated = c.seat_all.ensures.seated;
      nodes = c.seat_all.ensures.nodes;
      mail_new = subst (λ (k : ℕ). AreNew k c.in_ok-mail.mail.takes.items (ends_of c.in_ok-mail.mail.sends.items)) size c.in_ok-mail.ensures;
      acks_new = subst (λ (k : ℕ). AreNew k c.in_ok-acks.acks.takes.items (ends_of c.in_ok-acks.acks.sends.items)) size c.in_ok-acks.ensures;
    }

count : (g : Over) (c : After-run_teams-teams g) → length c.run_teams-teams.result.items ≡ length c.args.crews.now.items
count g c = c.run_teams-teams.ensures.count ∙ c.seat_all.ensures.seated.count

pub run_teams-teams-requires-after_bounds : goal.run_teams-teams-requires-after_bounds
run_teams-teams-requires-after_bounds g c κs within =
    teams_ready c.ends_over_wires.ensures g.D.Disk g.O.Oracle g.U.Outlet g.A.App.handler (begun g (goal.at.run_teams-teams-requires-after_bounds g c).After-seat_all) c.requires.ready

pub unseat_all-requires-clause-crews : goal.unseat_all-requires-clause-crews
unseat_all-requires-clause-crews g c =
    let all = count g (goal.at.unseat_all-requires-clause-crews g c).After-run_teams-teams in
    (c.seat_all.ensures.empty.0, omega (arith, all, c.seat_all.ensures.room, c.args.crews.now.ok.0, c.args.crews.now.ok.1))

pub unseat_all-requires-clause-mail : goal.unseat_all-requires-clause-mail
unseat_all-requires-clause-mail g c =
    let at = goal.at.unseat_all-requires-clause-mail g c in
    has_room (length c.args.crews.now.items) _ c.in_ok-mail.mail c.seat_all.new.mail (begun g at.After-seat_all).mail_new c.seat_all.ensures.empty.1 (count g at.After-run_teams-teams)

pub unseat_all-requires-clause-acks : goal.unseat_all-requires-clause-acks
unseat_all-requires-clause-acks g c =
    let at = goal.at.unseat_all-requires-clause-acks g c in
    has_room (length c.args.crews.now.items) _ c.in_ok-acks.acks c.seat_all.new.acks (begun g at.After-seat_all).acks_new c.seat_all.ensures.empty.2 (count g at.After-run_teams-teams)

ended : (g : Over) (c : After-unseat_all g)
    → HasEnded g.D.Disk (net_of c.ends_over_wires.ensures) g.O.Oracle g.U.Outlet g.A.App.handler c.unseat_all.new.crews.items c.unseat_all.new.mail c.unseat_all.new.acks c.seat_all.new.teams.items c.run_teams-teams.result.items
ended g c = record {
  seated = c.unseat_all.ensures.seated;
  faults = c.unseat_all.ensures.faults;
  run = c.run_teams-teams.ensures;
  mail = c.unseat_all.ensures.mail;
  acks = c.unseat_all.ensures.acks;
}

pub close-requires : goal.close-requires
close-requires g c =
    let at = goal.at.close-requires g c in
    (length c.args.crews.now.items, (mail_served c.ends_over_wires.ensures g.D.Disk g.O.Oracle g.U.Outlet g.A.App.handler (begun g at.After-seat_all) (ended g at.After-unseat_all)).wired)

pub close-requires-2 : goal.close-requires-2
close-requires-2 g c =
    let at = goal.at.close-requires-2 g c in
    (length c.args.crews.now.items, (acks_served c.ends_over_wires.ensures g.D.Disk g.O.Oracle g.U.Outlet g.A.App.handler (begun g at.After-seat_all) (ended g at.After-unseat_all)).wired)

pub returns-clause-ok : goal.returns-clause-ok
returns-clause-ok g c =
    let at = goal.at.returns-clause-ok g c in
    let n = length c.args.crews.now.items in
    let from = begun g at.After-seat_all in
    let to = ended g at.After-unseat_all in
    let mail = mail_served c.ends_over_wires.ensures g.D.Disk g.O.Oracle g.U.Outlet g.A.App.handler from to in
    let acks = acks_served c.ends_over_wires.ensures g.D.Disk g.O.Oracle g.U.Outlet g.A.App.handler from to in
    rounded c.ends_over_wires.ensures g.D.Disk g.O.Oracle g.U.Outlet g.A.App.handler from to (c.close.ensures n mail.wired) (c.close-2.ensures n acks.wired)

-- the workers may go to other threads
pub run_teams-teams-requires-send-T : goal.run_teams-teams-requires-send-T
run_teams-teams-requires-send-T g c κs within =
    let net = lossy_sends _ _ (wire_net_sends _ _ c.type_bounds.sync-R) in
    param_send _ _ (arg_send _ no _ (handler_seat_sends _ _ _ _ _ c.type_bounds.send-D net c.type_bounds.send-O c.type_bounds.sync-A))

pub run_teams-teams-requires-send-P : goal.run_teams-teams-requires-send-P
run_teams-teams-requires-send-P g c κs within = param_send _ _ (arg_send _ no _ (patch_worker_sends _ c.type_bounds.send-D))
