-- What a round and the calls after it ask.
use Rattle.std.proofs.Common.{◌≡◌, ◌∙◌, ℕ, ◌<◌, ◌≤◌, List, length, slice_index_or, Option, Result, Ok, Err, OnErr, OnOk, refl, sym, ap, subst, arith}
use Rattle.std.specs.declared.alloc.AllocError.{AllocError}
use Rattle.ken_disk.specs.declared.disk.Disk as disk
use Rattle.ken_app.specs.declared.oracle.Oracle as oracle
use Rattle.ken_model.specs.Game.{Game}
use Rattle.ken_model.specs.Handler.{Handler}
use Rattle.ken_net.specs.declared.base.Base as base
use Rattle.ken_net.specs.declared.lossy.Lossy.{Lossy}
use Rattle.ken_net.specs.declared.net.Net as net
use Rattle.ken_ship.specs.declared.faults.NodeFault.{NodeFault}
use Rattle.ken_ship.specs.declared.outlet.Outlet as outlet
use Rattle.ken_node.specs.Down.{MayRestart}
use Rattle.ken_node.specs.Stages.{IsCreated}
use Rattle.ken_node.specs.Up.{IsUp}
use Rattle.ken_node.specs.declared.watched.Watched.{Watched}
use Rattle.ken_run.specs.declared.run.Run.{Run}
use Rattle.ken_run.specs.declared.station.Station.{Station}
use Rattle.ken_run.specs.Running.{IsRunning}
use Rattle.ken_run.specs.StationClauses.{MayComeBack}
use Rattle.ken_work.specs.Meeting.{AreJoined}
use Rattle.ken_wire.specs.declared.wire_net.WireNet.{WireNet}
use Rattle.ken_threads.specs.declared.crew.Crew.{Crew}
use Rattle.ken_threads.proofs.Rows.{some_at}
use Rattle.ken_threads.specs.Rounds.{AreReady, IsReady, Rounded}
use Rattle.ken_rounds.specs.declared.lending.Tally.{Tally}
use Rattle.ken_rounds.specs.Lending.{AreAllCreated, AreAllJoined, AreLent, HaveCome, station_at}
use Rattle.ken_rounds.specs.Manned.{IsMannedBy}
use Rattle.ken_rounds.specs.Raising.{MayAnswer}
use Rattle.ken_rounds.proofs.Joined.{joined-after}
use Rattle.ken_rounds.proofs.Ready.{crew-joined, crew-ready, up-created}
use Rattle.ken_rounds.proofs.Round as round

module _ {D O U A : Type 0} (d : disk.Ghosts (Watched D)) (u : outlet.Ghosts U) (handles : A → Handler) (g : Game) (made : ℕ) (r : Run D O U A)
    (running : IsRunning d.told d.size u.took handles g made r) (whole : made ≡ g.nodes) (stations : List (Station D O U)) (taken : stations ≡ r.stations.items) where
  pub stations-count : length stations ≡ made
  stations-count = ap (λ (ss : List (Station D O U)). length ss) taken ∙ running.stands.width

  pub all-created : AreAllCreated stations
  all-created v none low =
      subst (λ (ss : List (Station D O U)). IsCreated (station_at v ss none).node.stage) (sym taken)
      (up-created d g v (running.nodes v) _ (running.up v none (let count = stations-count in omega (arith, low, count))))

  module _ (crews : List (Crew (Watched D) O U)) (tallies : List Tally) (lent : AreLent stations crews tallies) where
    pub crews-count : length crews ≡ made
    crews-count = lent.count ∙ stations-count

    pub few-crews : (0 < length crews) × (length crews ≤ 8)
    few-crews =
        let count = crews-count in
        let some = running.stands.limits.some_node in
        let few = running.stands.limits.few_nodes in
        (omega (arith, count, some, whole), omega (arith, count, few, whole))

    module _ (v : ℕ) (c : Crew (Watched D) O U) (low : v < length crews) where
      in-run : v < made
      in-run = let count = crews-count in omega (arith, low, count)

      in-stations : v < length stations
      in-stations = let count = lent.count in omega (arith, low, count)

      in-tallies : v < length tallies
      in-tallies = let count = lent.count in let tallied = lent.tallied in omega (arith, low, count, tallied)

      abbrev station : Station D O U
      station = station_at v stations (some_at stations v in-stations)

      manned : IsMannedBy (slice_index_or crews v c) station
      manned = (lent.each v (some_at stations v in-stations) c (some_at tallies v in-tallies) in-stations).0

      of-run : (P : Station D O U → Type 0) → P (station_at v r.stations.items (some_at stations v in-stations)) → P station
      of-run P = subst (λ (ss : List (Station D O U)). P (station_at v ss (some_at stations v in-stations))) (sym taken)

      is-up : IsUp d.told d.size g v (running.nodes v) station.node.stage
      is-up = of-run (λ s. IsUp d.told d.size g v (running.nodes v) s.node.stage) (running.up v (some_at stations v in-stations) in-run)

      pub ready-at : (h : Handler) → h ≡ g.handler → IsReady d h (length crews) v (slice_index_or crews v c)
      ready-at h of_game =
          let each = running.stands.each v (some_at stations v in-stations) in-run in
          subst (λ (n : ℕ). IsReady d h n v (slice_index_or crews v c)) (sym crews-count)
          (crew-ready d g made v whole (running.nodes v) h of_game station (slice_index_or crews v c) manned is-up running.stands.keeps
          (of-run (λ s. (s.mail.from ≡ v) × (length s.mail.links ≡ g.nodes)) (each.mail.from, each.mail.to_each))
          (of-run (λ s. (s.acks.from ≡ v) × (length s.acks.links ≡ g.nodes)) (each.acks.from, each.acks.to_each)))

      pub joined-at : AreJoined (slice_index_or crews v c).turns (slice_index_or crews v c).patches (slice_index_or crews v c).sends
      joined-at = crew-joined d g made v whole (running.nodes v) g.handler refl station (slice_index_or crews v c) manned is-up

    pub all-ready : (h : Handler) → h ≡ g.handler → AreReady d h crews
    all-ready h of_game v c low = ready-at v c low h of_game

    module _ {R : Type 0} {b : base.Ghosts (WireNet R)} (e : net.Ghosts (Lossy (WireNet R) b)) (o : oracle.Ghosts O) (h : Handler) (of_game : h ≡ g.handler) (crews2 : List (Crew (Watched D) O U)) where
      -- whether it ran or not
      pub as-many : (ran : Result (Unit {0}) AllocError) → OnOk ran (Rounded d e o u h crews crews2) → OnErr ran (crews2 ≡ crews) → length crews2 ≡ length crews
      as-many (Ok x) ok err = ok.count
      as-many (Err error) ok err = ap (λ (cs : List (Crew (Watched D) O U)). length cs) err

      pub all-joined : (ran : Result (Unit {0}) AllocError) → OnOk ran (Rounded d e o u h crews crews2) → OnErr ran (crews2 ≡ crews) → AreAllJoined crews2
      all-joined (Ok x) ok err v c low =
          let before : v < length crews = (let count = ok.count in omega (arith, low, count)) in
          joined-after d e o u h (slice_index_or crews v c) (slice_index_or crews2 v c) (ok.acks v) (ok.acks2 v) (ok.mail v) (ok.mail2 v) (ok.ran v c before) (joined-at v c before)
      all-joined (Err error) ok err v c low = subst (λ (cs : List (Crew (Watched D) O U)). AreAllJoined cs) (sym err) joined-at v c low

      pub may-answer : (inner : disk.Ghosts D) → ((s : Station D O U) → MayRestart d.told s.node.stage → MayComeBack inner s) → (now : List (Station D O U)) (faults : List (Option NodeFault)) → HaveCome d crews2 tallies now faults
          → (ran : Result (Unit {0}) AllocError) → OnOk ran (Rounded d e o u h crews crews2) → MayAnswer inner ran faults now
      may-answer inner seen now faults come (Ok x) ok = λ had v none low disk.
          let in-crews : v < length crews = (let count = ok.count in let came = come.count in omega (arith, low, count, came)) in
          let rounded : Rounded d e o u g.handler crews crews2 = subst (λ (x : Handler). Rounded d e o u x crews crews2) of_game ok in
          seen (station_at v now none)
          (round.may-rise d e o u handles rounded.wires g made r running whole crews crews2 tallies now faults (some_at crews v in-crews) (some_at tallies v (in-tallies v (some_at crews v in-crews) in-crews)) none
          (subst (λ (ss : List (Station D O U)). AreLent ss crews tallies) taken lent) rounded come had v (in-run v (some_at crews v in-crews) in-crews) disk)
      may-answer inner seen now faults come (Err error) ok = tt

-- a round that ran, of the game's handler
pub it-ran : {R D O U : Type 0} {b : base.Ghosts (WireNet R)} (d : disk.Ghosts (Watched D)) (e : net.Ghosts (Lossy (WireNet R) b)) (o : oracle.Ghosts O) (u : outlet.Ghosts U) (crews crews2 : List (Crew (Watched D) O U)) (h h2 : Handler) → h ≡ h2
    → (ran : Result (Unit {0}) AllocError) → OnOk ran (Rounded d e o u h crews crews2) → ran ≡ Ok tt → Rounded d e o u h2 crews crews2
it-ran d e o u crews crews2 h h2 of_game ran ok is =
    subst (λ (x : Handler). Rounded d e o u x crews crews2) of_game (subst (λ (r : Result (Unit {0}) AllocError). OnOk r (Rounded d e o u h crews crews2)) is ok)
