-- One round.
use Rattle.std.proofs.Common.{◌≡◌, ◌∙◌, ℕ, ◌<◌, List, length, Option, sym, ap, subst, arith}
use Rattle.ken_model.specs.Game.{Game}
use Rattle.ken_ship.specs.declared.faults.NodeFault.{NodeFault}
use Rattle.ken_node.specs.contracts.watched.WatchedDisk.TheImpl as watched_disk
use Rattle.ken_run.specs.Clauses.{Up}
use Rattle.ken_threads.proofs.Rows.{some_at}
use Rattle.ken_rounds.specs.Lending.{AreLent, HaveCome}
use Rattle.ken_rounds.proofs.Asked as asked
use Rattle.ken_rounds.proofs.Ends as ends
use Rattle.ken_rounds.proofs.rounds.one_round.Given as given
use Rattle.ken_rounds.proofs.rounds.one_round.Goals as goal

pub lend_all-requires-clause-created : goal.lend_all-requires-clause-created
lend_all-requires-clause-created g c = asked.all-created (watched_disk.ghosts g.row.D g.D.Disk g.D.Disk-dict) g.U.Outlet g.A.App.handler c.requires.game c.requires.made c.args.run.now c.requires.running c.requires.all c.take_stations.result.items (ap (λ l. l.items) c.take_stations.ensures.taken)

-- lists of which each has room for all nodes
pub lend_all-requires-clause-crews : goal.lend_all-requires-clause-crews
lend_all-requires-clause-crews g c =
    let count = asked.stations-count (watched_disk.ghosts g.row.D g.D.Disk g.D.Disk-dict) g.U.Outlet g.A.App.handler c.requires.game c.requires.made c.args.run.now c.requires.running c.requires.all c.take_stations.result.items (ap (λ l. l.items) c.take_stations.ensures.taken) in
    (c.in_ok-crews.ensures.len, omega (arith, count, c.in_ok-crews.ensures.capacity, c.from-nodes.ensures, c.nodes.ensures, c.requires.running.stands.count))

pub lend_all-requires-clause-tallies : goal.lend_all-requires-clause-tallies
lend_all-requires-clause-tallies g c =
    let count = asked.stations-count (watched_disk.ghosts g.row.D g.D.Disk g.D.Disk-dict) g.U.Outlet g.A.App.handler c.requires.game c.requires.made c.args.run.now c.requires.running c.requires.all c.take_stations.result.items (ap (λ l. l.items) c.take_stations.ensures.taken) in
    (c.in_ok-tallies.ensures.len, omega (arith, count, c.in_ok-tallies.ensures.capacity, c.from-nodes.ensures, c.nodes.ensures, c.requires.running.stands.count))

pub round-ran-requires-clause-few : goal.round-ran-requires-clause-few
round-ran-requires-clause-few g c κs within = asked.few-crews (watched_disk.ghosts g.row.D g.D.Disk g.D.Disk-dict) g.U.Outlet g.A.App.handler c.requires.game c.requires.made c.args.run.now c.requires.running c.requires.all c.take_stations.result.items (ap (λ l. l.items) c.take_stations.ensures.taken) c.lend_all.new.crews.items c.lend_all.new.tallies.items c.lend_all.ensures

pub round-ran-requires-clause-ready : goal.round-ran-requires-clause-ready
round-ran-requires-clause-ready g c κs within = asked.all-ready (watched_disk.ghosts g.row.D g.D.Disk g.D.Disk-dict) g.U.Outlet g.A.App.handler c.requires.game c.requires.made c.args.run.now c.requires.running c.requires.all c.take_stations.result.items (ap (λ l. l.items) c.take_stations.ensures.taken) c.lend_all.new.crews.items c.lend_all.new.tallies.items c.lend_all.ensures (g.A.App.handler c.app.result.now) (ap g.A.App.handler (c.app.ensures ∙ ap (λ r. r.app) c.take_stations.ensures.rest) ∙ c.requires.running.stands.handler)

pub bring_all_back-requires-clause-joined : goal.bring_all_back-requires-clause-joined
bring_all_back-requires-clause-joined g c = asked.all-joined (watched_disk.ghosts g.row.D g.D.Disk g.D.Disk-dict) g.U.Outlet g.A.App.handler c.requires.game c.requires.made c.args.run.now c.requires.running c.requires.all c.take_stations.result.items (ap (λ l. l.items) c.take_stations.ensures.taken) c.lend_all.new.crews.items c.lend_all.new.tallies.items c.lend_all.ensures _ g.O.Oracle (g.A.App.handler c.app.result.now) (ap g.A.App.handler (c.app.ensures ∙ ap (λ r. r.app) c.take_stations.ensures.rest) ∙ c.requires.running.stands.handler) c.round-ran.new.crews.items c.round-ran.result c.round-ran.ensures.ok c.round-ran.ensures.err

pub bring_all_back-requires-clause-tallies : goal.bring_all_back-requires-clause-tallies
bring_all_back-requires-clause-tallies g c =
    let as_many = asked.as-many (watched_disk.ghosts g.row.D g.D.Disk g.D.Disk-dict) g.U.Outlet g.A.App.handler c.requires.game c.requires.made c.args.run.now c.requires.running c.requires.all c.take_stations.result.items (ap (λ l. l.items) c.take_stations.ensures.taken) c.lend_all.new.crews.items c.lend_all.new.tallies.items c.lend_all.ensures _ g.O.Oracle (g.A.App.handler c.app.result.now) (ap g.A.App.handler (c.app.ensures ∙ ap (λ r. r.app) c.take_stations.ensures.rest) ∙ c.requires.running.stands.handler) c.round-ran.new.crews.items c.round-ran.result c.round-ran.ensures.ok c.round-ran.ensures.err in
    c.lend_all.ensures.tallied ∙ sym c.lend_all.ensures.count ∙ sym as_many

pub bring_all_back-requires-clause-stations : goal.bring_all_back-requires-clause-stations
bring_all_back-requires-clause-stations g c =
    let as_many = asked.as-many (watched_disk.ghosts g.row.D g.D.Disk g.D.Disk-dict) g.U.Outlet g.A.App.handler c.requires.game c.requires.made c.args.run.now c.requires.running c.requires.all c.take_stations.result.items (ap (λ l. l.items) c.take_stations.ensures.taken) c.lend_all.new.crews.items c.lend_all.new.tallies.items c.lend_all.ensures _ g.O.Oracle (g.A.App.handler c.app.result.now) (ap g.A.App.handler (c.app.ensures ∙ ap (λ r. r.app) c.take_stations.ensures.rest) ∙ c.requires.running.stands.handler) c.round-ran.new.crews.items c.round-ran.result c.round-ran.ensures.ok c.round-ran.ensures.err in
    let count = asked.crews-count (watched_disk.ghosts g.row.D g.D.Disk g.D.Disk-dict) g.U.Outlet g.A.App.handler c.requires.game c.requires.made c.args.run.now c.requires.running c.requires.all c.take_stations.result.items (ap (λ l. l.items) c.take_stations.ensures.taken) c.lend_all.new.crews.items c.lend_all.new.tallies.items c.lend_all.ensures in
    (c.in_ok-stations.ensures.len, omega (arith, as_many, count, c.in_ok-stations.ensures.capacity, c.from-nodes.ensures, c.nodes.ensures, c.requires.running.stands.count))

pub bring_all_back-requires-clause-faults : goal.bring_all_back-requires-clause-faults
bring_all_back-requires-clause-faults g c =
    let as_many = asked.as-many (watched_disk.ghosts g.row.D g.D.Disk g.D.Disk-dict) g.U.Outlet g.A.App.handler c.requires.game c.requires.made c.args.run.now c.requires.running c.requires.all c.take_stations.result.items (ap (λ l. l.items) c.take_stations.ensures.taken) c.lend_all.new.crews.items c.lend_all.new.tallies.items c.lend_all.ensures _ g.O.Oracle (g.A.App.handler c.app.result.now) (ap g.A.App.handler (c.app.ensures ∙ ap (λ r. r.app) c.take_stations.ensures.rest) ∙ c.requires.running.stands.handler) c.round-ran.new.crews.items c.round-ran.result c.round-ran.ensures.ok c.round-ran.ensures.err in
    let count = asked.crews-count (watched_disk.ghosts g.row.D g.D.Disk g.D.Disk-dict) g.U.Outlet g.A.App.handler c.requires.game c.requires.made c.args.run.now c.requires.running c.requires.all c.take_stations.result.items (ap (λ l. l.items) c.take_stations.ensures.taken) c.lend_all.new.crews.items c.lend_all.new.tallies.items c.lend_all.ensures in
    (c.in_ok-faults.ensures.len, omega (arith, as_many, count, c.in_ok-faults.ensures.capacity, c.from-nodes.ensures, c.nodes.ensures, c.requires.running.stands.count))

pub answer_for-answer-requires-clause-few : goal.answer_for-answer-requires-clause-few
answer_for-answer-requires-clause-few g c =
    let as_many = asked.as-many (watched_disk.ghosts g.row.D g.D.Disk g.D.Disk-dict) g.U.Outlet g.A.App.handler c.requires.game c.requires.made c.args.run.now c.requires.running c.requires.all c.take_stations.result.items (ap (λ l. l.items) c.take_stations.ensures.taken) c.lend_all.new.crews.items c.lend_all.new.tallies.items c.lend_all.ensures _ g.O.Oracle (g.A.App.handler c.app.result.now) (ap g.A.App.handler (c.app.ensures ∙ ap (λ r. r.app) c.take_stations.ensures.rest) ∙ c.requires.running.stands.handler) c.round-ran.new.crews.items c.round-ran.result c.round-ran.ensures.ok c.round-ran.ensures.err in
    let few = (asked.few-crews (watched_disk.ghosts g.row.D g.D.Disk g.D.Disk-dict) g.U.Outlet g.A.App.handler c.requires.game c.requires.made c.args.run.now c.requires.running c.requires.all c.take_stations.result.items (ap (λ l. l.items) c.take_stations.ensures.taken) c.lend_all.new.crews.items c.lend_all.new.tallies.items c.lend_all.ensures).1 in
    omega (arith, as_many, few, c.bring_all_back.ensures.count)

pub answer_for-answer-requires-clause-may : goal.answer_for-answer-requires-clause-may
answer_for-answer-requires-clause-may g c =
    asked.may-answer (watched_disk.ghosts g.row.D g.D.Disk g.D.Disk-dict) g.U.Outlet g.A.App.handler c.requires.game c.requires.made c.args.run.now c.requires.running c.requires.all c.take_stations.result.items (ap (λ l. l.items) c.take_stations.ensures.taken) c.lend_all.new.crews.items c.lend_all.new.tallies.items c.lend_all.ensures _ g.O.Oracle (g.A.App.handler c.app.result.now) (ap g.A.App.handler (c.app.ensures ∙ ap (λ r. r.app) c.take_stations.ensures.rest) ∙ c.requires.running.stands.handler) c.round-ran.new.crews.items g.D.Disk (λ s may. may) c.bring_all_back.new.stations.items c.as_slice.result.now
    (subst (λ (fs : List (Option NodeFault)). HaveCome (watched_disk.ghosts g.row.D g.D.Disk g.D.Disk-dict) c.round-ran.new.crews.items c.lend_all.new.tallies.items c.bring_all_back.new.stations.items fs) (sym c.as_slice.ensures.value) c.bring_all_back.ensures)
    c.round-ran.result c.round-ran.ensures.ok

-- ---- what it says

module _ (g : given.Over) (c : goal.After-drop-faults g) where
  lent : AreLent c.args.run.now.stations.items c.lend_all.new.crews.items c.lend_all.new.tallies.items
  lent = subst (λ l. AreLent l.items c.lend_all.new.crews.items c.lend_all.new.tallies.items) c.take_stations.ensures.taken c.lend_all.ensures

  come : HaveCome (watched_disk.ghosts g.row.D g.D.Disk g.D.Disk-dict) c.round-ran.new.crews.items c.lend_all.new.tallies.items c.bring_all_back.new.stations.items c.as_slice.result.now
  come = subst (λ (fs : List (Option NodeFault)). HaveCome (watched_disk.ghosts g.row.D g.D.Disk g.D.Disk-dict) c.round-ran.new.crews.items c.lend_all.new.tallies.items c.bring_all_back.new.stations.items fs) (sym c.as_slice.ensures.value) c.bring_all_back.ensures

  rest : (c.put_stations.new.self.nodes ≡ c.args.run.now.nodes) × (c.put_stations.new.self.app ≡ c.args.run.now.app) × (c.put_stations.new.self.waiting ≡ c.args.run.now.waiting)
  rest = (
    ap (λ r. r.nodes) c.put_stations.ensures ∙ ap (λ r. r.nodes) c.take_stations.ensures.rest,
    ap (λ r. r.app) c.put_stations.ensures ∙ ap (λ r. r.app) c.take_stations.ensures.rest,
    ap (λ r. r.waiting) c.put_stations.ensures ∙ ap (λ r. r.waiting) c.take_stations.ensures.rest,
  )

  restarts : c.put_stations.new.self.restarts ≡ c.args.run.now.restarts
  restarts = ap (λ r. r.restarts) c.put_stations.ensures ∙ ap (λ r. r.restarts) c.take_stations.ensures.rest

  put : c.put_stations.new.self.stations.items ≡ c.answer_for-answer.new.stations.items
  put = ap (λ r. r.stations.items) c.put_stations.ensures

  own_most : c.restarts.result ≡ c.args.run.now.restarts
  own_most = c.restarts.ensures ∙ ap (λ r. r.restarts) c.take_stations.ensures.rest

  module _ (game : Game) (made : ℕ) (up : Up g.D.Disk g.U.Outlet g.A.App game made c.args.run.now) (whole : made ≡ game.nodes) where
    stations-some : 0 < length c.args.run.now.stations.items
    stations-some = let width = up.stands.width in let some = up.stands.limits.some_node in omega (arith, width, some, whole)

    crews-some : 0 < length c.lend_all.new.crews.items
    crews-some = let count = lent.count in let some = stations-some in omega (arith, count, some)

    tallies-some : 0 < length c.lend_all.new.tallies.items
    tallies-some = let tallied = lent.tallied in let some = stations-some in omega (arith, tallied, some)

    of-game : g.A.App.handler c.app.result.now ≡ game.handler
    of-game = ap g.A.App.handler (c.app.ensures ∙ ap (λ r. r.app) c.take_stations.ensures.rest) ∙ up.stands.handler

pub returns-clause-leaves : goal.returns-clause-leaves
returns-clause-leaves g c = λ game made up whole.
    ends.leaves g.D.Disk (watched_disk.ghosts g.row.D g.D.Disk g.D.Disk-dict) _ g.O.Oracle g.U.Outlet g.A.App.handler c.restarts.result
    (λ result old new r. record { back = r.back; accounts = r.accounts; counts = r.counts; emissions = r.emissions; refusals = r.refusals; rest = r.rest })
    game made c.args.run.now c.put_stations.new.self up whole c.lend_all.new.crews.items c.round-ran.new.crews.items c.lend_all.new.tallies.items c.bring_all_back.new.stations.items c.answer_for-answer.new.stations.items c.as_slice.result.now
    (some_at c.lend_all.new.crews.items 0 (crews-some g c game made up whole)) (some_at c.lend_all.new.tallies.items 0 (tallies-some g c game made up whole)) (some_at c.args.run.now.stations.items 0 (stations-some g c game made up whole))
    (lent g c) (come g c) (rest g c) (restarts g c) (put g c) c.round-ran.result (asked.it-ran (watched_disk.ghosts g.row.D g.D.Disk g.D.Disk-dict) _ g.O.Oracle g.U.Outlet c.lend_all.new.crews.items c.round-ran.new.crews.items (g.A.App.handler c.app.result.now) game.handler (of-game g c game made up whole) c.round-ran.result c.round-ran.ensures.ok)
    c.answer_for-answer.result c.answer_for-answer.ensures

pub returns-clause-accounts : goal.returns-clause-accounts
returns-clause-accounts g c = λ terms game made up whole accounted.
    ends.accounts g.D.Disk (watched_disk.ghosts g.row.D g.D.Disk g.D.Disk-dict) _ g.O.Oracle g.U.Outlet g.A.App.handler c.restarts.result
    (λ result old new r. record { back = r.back; accounts = r.accounts; counts = r.counts; emissions = r.emissions; refusals = r.refusals; rest = r.rest })
    game made c.args.run.now c.put_stations.new.self up whole c.lend_all.new.crews.items c.round-ran.new.crews.items c.lend_all.new.tallies.items c.bring_all_back.new.stations.items c.answer_for-answer.new.stations.items c.as_slice.result.now
    (some_at c.lend_all.new.crews.items 0 (crews-some g c game made up whole)) (some_at c.lend_all.new.tallies.items 0 (tallies-some g c game made up whole)) (some_at c.args.run.now.stations.items 0 (stations-some g c game made up whole))
    (lent g c) (come g c) (rest g c) (restarts g c) (put g c) c.round-ran.result (asked.it-ran (watched_disk.ghosts g.row.D g.D.Disk g.D.Disk-dict) _ g.O.Oracle g.U.Outlet c.lend_all.new.crews.items c.round-ran.new.crews.items (g.A.App.handler c.app.result.now) game.handler (of-game g c game made up whole) c.round-ran.result c.round-ran.ensures.ok)
    terms (own_most g c ∙ accounted.most) accounted c.answer_for-answer.result c.answer_for-answer.ensures

pub returns-clause-refused : goal.returns-clause-refused
returns-clause-refused g c = λ terms game made up whole are.
    ends.refuses g.D.Disk (watched_disk.ghosts g.row.D g.D.Disk g.D.Disk-dict) _ g.O.Oracle g.U.Outlet g.A.App.handler c.restarts.result
    (λ result old new r. record { back = r.back; accounts = r.accounts; counts = r.counts; emissions = r.emissions; refusals = r.refusals; rest = r.rest })
    game made c.args.run.now c.put_stations.new.self up whole c.lend_all.new.crews.items c.round-ran.new.crews.items c.lend_all.new.tallies.items c.bring_all_back.new.stations.items c.answer_for-answer.new.stations.items c.as_slice.result.now
    (some_at c.lend_all.new.crews.items 0 (crews-some g c game made up whole)) (some_at c.lend_all.new.tallies.items 0 (tallies-some g c game made up whole)) (some_at c.args.run.now.stations.items 0 (stations-some g c game made up whole))
    (lent g c) (come g c) (rest g c) (restarts g c) (put g c) c.round-ran.result (asked.it-ran (watched_disk.ghosts g.row.D g.D.Disk g.D.Disk-dict) _ g.O.Oracle g.U.Outlet c.lend_all.new.crews.items c.round-ran.new.crews.items (g.A.App.handler c.app.result.now) game.handler (of-game g c game made up whole) c.round-ran.result c.round-ran.ensures.ok)
    terms are (own_most g c) c.answer_for-answer.result c.answer_for-answer.ensures

pub returns-clause-stops : goal.returns-clause-stops
returns-clause-stops g c = λ terms game made up whole accounted are.
    ends.stops g.D.Disk (watched_disk.ghosts g.row.D g.D.Disk g.D.Disk-dict) _ g.O.Oracle g.U.Outlet g.A.App.handler c.restarts.result
    (λ result old new r. record { back = r.back; accounts = r.accounts; counts = r.counts; emissions = r.emissions; refusals = r.refusals; rest = r.rest })
    game made c.args.run.now c.put_stations.new.self up whole c.lend_all.new.crews.items c.round-ran.new.crews.items c.lend_all.new.tallies.items c.bring_all_back.new.stations.items c.answer_for-answer.new.stations.items c.as_slice.result.now
    (some_at c.lend_all.new.crews.items 0 (crews-some g c game made up whole)) (some_at c.lend_all.new.tallies.items 0 (tallies-some g c game made up whole)) (some_at c.args.run.now.stations.items 0 (stations-some g c game made up whole))
    (lent g c) (come g c) (rest g c) (restarts g c) (put g c) c.round-ran.result (asked.it-ran (watched_disk.ghosts g.row.D g.D.Disk g.D.Disk-dict) _ g.O.Oracle g.U.Outlet c.lend_all.new.crews.items c.round-ran.new.crews.items (g.A.App.handler c.app.result.now) game.handler (of-game g c game made up whole) c.round-ran.result c.round-ran.ensures.ok)
    terms (own_most g c ∙ accounted.most) accounted c.answer_for-answer.result c.answer_for-answer.ensures are

pub returns-clause-heeds : goal.returns-clause-heeds
returns-clause-heeds g c =
    ends.heeds g.D.Disk (watched_disk.ghosts g.row.D g.D.Disk g.D.Disk-dict) _ g.O.Oracle g.U.Outlet g.A.App.handler c.restarts.result
    (λ result old new r. record { back = r.back; accounts = r.accounts; counts = r.counts; emissions = r.emissions; refusals = r.refusals; rest = r.rest })
    c.requires.game c.requires.made c.args.run.now c.put_stations.new.self c.requires.running c.requires.all c.lend_all.new.crews.items c.round-ran.new.crews.items c.lend_all.new.tallies.items c.bring_all_back.new.stations.items c.answer_for-answer.new.stations.items c.as_slice.result.now
    (some_at c.lend_all.new.crews.items 0 (crews-some g c c.requires.game c.requires.made c.requires.running c.requires.all)) (some_at c.lend_all.new.tallies.items 0 (tallies-some g c c.requires.game c.requires.made c.requires.running c.requires.all)) (some_at c.args.run.now.stations.items 0 (stations-some g c c.requires.game c.requires.made c.requires.running c.requires.all))
    (lent g c) (come g c) (rest g c) (restarts g c) (put g c) c.round-ran.result (asked.it-ran (watched_disk.ghosts g.row.D g.D.Disk g.D.Disk-dict) _ g.O.Oracle g.U.Outlet c.lend_all.new.crews.items c.round-ran.new.crews.items (g.A.App.handler c.app.result.now) c.requires.game.handler (of-game g c c.requires.game c.requires.made c.requires.running c.requires.all) c.round-ran.result c.round-ran.ensures.ok)
    (own_most g c) c.answer_for-answer.result c.answer_for-answer.ensures

pub returns-clause-quota : goal.returns-clause-quota
returns-clause-quota g c = λ game made up whole.
    ends.serves g.D.Disk (watched_disk.ghosts g.row.D g.D.Disk g.D.Disk-dict) _ g.O.Oracle g.U.Outlet g.A.App.handler c.restarts.result
    (λ result old new r. record { back = r.back; accounts = r.accounts; counts = r.counts; emissions = r.emissions; refusals = r.refusals; rest = r.rest })
    game made c.args.run.now c.put_stations.new.self up whole c.lend_all.new.crews.items c.round-ran.new.crews.items c.lend_all.new.tallies.items c.bring_all_back.new.stations.items c.answer_for-answer.new.stations.items c.as_slice.result.now
    (some_at c.lend_all.new.crews.items 0 (crews-some g c game made up whole)) (some_at c.lend_all.new.tallies.items 0 (tallies-some g c game made up whole)) (some_at c.args.run.now.stations.items 0 (stations-some g c game made up whole))
    (lent g c) (come g c) (rest g c) (restarts g c) (put g c) c.round-ran.result (asked.it-ran (watched_disk.ghosts g.row.D g.D.Disk g.D.Disk-dict) _ g.O.Oracle g.U.Outlet c.lend_all.new.crews.items c.round-ran.new.crews.items (g.A.App.handler c.app.result.now) game.handler (of-game g c game made up whole) c.round-ran.result c.round-ran.ensures.ok)
    c.answer_for-answer.result c.answer_for-answer.ensures

pub returns-clause-growth : goal.returns-clause-growth
returns-clause-growth g c =
    ends.grows g.D.Disk (watched_disk.ghosts g.row.D g.D.Disk g.D.Disk-dict) _ g.O.Oracle g.U.Outlet g.A.App.handler c.restarts.result
    (λ result old new r. record { back = r.back; accounts = r.accounts; counts = r.counts; emissions = r.emissions; refusals = r.refusals; rest = r.rest })
    c.requires.game c.requires.made c.args.run.now c.put_stations.new.self c.requires.running c.requires.all c.lend_all.new.crews.items c.round-ran.new.crews.items c.lend_all.new.tallies.items c.bring_all_back.new.stations.items c.answer_for-answer.new.stations.items c.as_slice.result.now
    (some_at c.lend_all.new.crews.items 0 (crews-some g c c.requires.game c.requires.made c.requires.running c.requires.all)) (some_at c.lend_all.new.tallies.items 0 (tallies-some g c c.requires.game c.requires.made c.requires.running c.requires.all)) (some_at c.args.run.now.stations.items 0 (stations-some g c c.requires.game c.requires.made c.requires.running c.requires.all))
    (lent g c) (come g c) (rest g c) (restarts g c) (put g c) c.round-ran.result (asked.it-ran (watched_disk.ghosts g.row.D g.D.Disk g.D.Disk-dict) _ g.O.Oracle g.U.Outlet c.lend_all.new.crews.items c.round-ran.new.crews.items (g.A.App.handler c.app.result.now) c.requires.game.handler (of-game g c c.requires.game c.requires.made c.requires.running c.requires.all) c.round-ran.result c.round-ran.ensures.ok)
    c.answer_for-answer.result c.answer_for-answer.ensures

pub returns-clause-states : goal.returns-clause-states
returns-clause-states g c =
    ends.adds g.D.Disk (watched_disk.ghosts g.row.D g.D.Disk g.D.Disk-dict) _ g.O.Oracle g.U.Outlet g.A.App.handler c.restarts.result
    (λ result old new r. record { back = r.back; accounts = r.accounts; counts = r.counts; emissions = r.emissions; refusals = r.refusals; rest = r.rest })
    c.requires.game c.requires.made c.args.run.now c.put_stations.new.self c.requires.running c.requires.all c.lend_all.new.crews.items c.round-ran.new.crews.items c.lend_all.new.tallies.items c.bring_all_back.new.stations.items c.answer_for-answer.new.stations.items c.as_slice.result.now
    (some_at c.lend_all.new.crews.items 0 (crews-some g c c.requires.game c.requires.made c.requires.running c.requires.all)) (some_at c.lend_all.new.tallies.items 0 (tallies-some g c c.requires.game c.requires.made c.requires.running c.requires.all)) (some_at c.args.run.now.stations.items 0 (stations-some g c c.requires.game c.requires.made c.requires.running c.requires.all))
    (lent g c) (come g c) (rest g c) (restarts g c) (put g c) c.round-ran.result (asked.it-ran (watched_disk.ghosts g.row.D g.D.Disk g.D.Disk-dict) _ g.O.Oracle g.U.Outlet c.lend_all.new.crews.items c.round-ran.new.crews.items (g.A.App.handler c.app.result.now) c.requires.game.handler (of-game g c c.requires.game c.requires.made c.requires.running c.requires.all) c.round-ran.result c.round-ran.ensures.ok)
    c.answer_for-answer.result c.answer_for-answer.ensures

pub returns-clause-rest : goal.returns-clause-rest
returns-clause-rest g c = record { nodes = (rest g c).0; app = (rest g c).1; restarts = restarts g c; waiting = (rest g c).2 }
