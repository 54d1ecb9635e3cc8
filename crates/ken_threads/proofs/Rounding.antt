-- What a round leaves, by what its teams made.
use Rattle.std.proofs.Common.{◌≡◌, ◌∙◌, ℕ, ◌+◌, ◌-◌, ◌<◌, List, length, Vec, Global, sym, ap, subst, arith}
use Rattle.std.specs.Prelude.{slice_index_or}
use Rattle.ken_disk.specs.declared.disk.Disk as disk
use Rattle.ken_app.specs.declared.oracle.Oracle as oracle
use Rattle.ken_model.specs.Handler.{Handler}
use Rattle.ken_net.specs.declared.base.Base as base
use Rattle.ken_net.specs.declared.lossy.Lossy.{Lossy}
use Rattle.ken_net.specs.declared.net.Net as net
use Rattle.ken_ship.specs.declared.outlet.Outlet as outlet
use Rattle.ken_wire.specs.declared.send_end.SendEnd.{SendEnd}
use Rattle.ken_wire.specs.declared.take_end.TakeEnd.{TakeEnd}
use Rattle.ken_wire.specs.declared.wire_net.WireNet.{WireNet}
use Rattle.ken_threads.specs.declared.crew.Crew.{Crew}
use Rattle.ken_threads.specs.declared.wiring.Wiring.{Wiring}
use Rattle.ken_threads.specs.Rounds.{AreOver, AreReady, AreWires, CrewRan, Rounded}
use Rattle.ken_threads.specs.Seating.{AreAtNodes, AreSeated, AtWork, crew_at, ends_at, HasRoom, HaveFaults, IsAtNode, IsSeated, IsVacant, KeepsFaults}
use Rattle.ken_threads.specs.Seats.{handling_of, MayHandle, MayPatch, MayShip, PatcherFails, PatcherSteps, sending_of}
use Rattle.ken_threads.specs.Teams.{HaveTeamsRun, MayTeamRun}
use Rattle.ken_threads.specs.Wires.{AreNew, Carry, ends_of}
use Rattle.ken_threads.proofs.Between.{HasEnds, rows_count, Served, they_served}
use Rattle.ken_threads.proofs.CrewRan.{crew_ran, SeatFails, SeatSteps, ShipFails, ShipSteps}
use Rattle.ken_threads.proofs.Ready.{team_ready}
use Rattle.ken_threads.proofs.Rows.{row_items, some_at}
use Rattle.ken_threads.proofs.Went.{handler-ran-went, sender-ran-went, Went}

-- a round has begun: its crews are seated at new wires
pub record HasBegun {R D O U A : Type 0} {b : base.Ghosts (WireNet R)} (app : A) (crews : List (Crew D O U)) (mail acks : Wiring) (teams : List (AtWork R D O U A b)) : Type 0 where
  pub some : 0 < length crews
  pub seated : AreSeated crews mail.takes.items mail.sends.items acks.takes.items acks.sends.items teams
  pub nodes : AreAtNodes app teams
  pub mail_new : AreNew (length crews) mail.takes.items (ends_of mail.sends.items)
  pub acks_new : AreNew (length crews) acks.takes.items (ends_of acks.sends.items)

-- and has ended: the teams made their steps, and the crews were brought back
pub record HasEnded {R D O U A : Type 0} {b : base.Ghosts (WireNet R)} (d : disk.Ghosts D) (e : net.Ghosts (Lossy (WireNet R) b)) (o : oracle.Ghosts O) (u : outlet.Ghosts U) (handler : A → Handler)
    (crews2 : List (Crew D O U)) (mail2 acks2 : Wiring) (teams teams2 : List (AtWork R D O U A b)) : Type 0 where
  pub seated : AreSeated crews2 mail2.takes.items mail2.sends.items acks2.takes.items acks2.sends.items teams2
  pub faults : HaveFaults teams2 crews2
  pub run : HaveTeamsRun (SeatSteps d e o u handler) (SeatFails d e o u handler) (PatcherSteps d) (PatcherFails d) (ShipSteps d e o u handler) (ShipFails d e o u handler) teams teams2
  pub mail : (length mail2.takes.items ≡ length teams2) × (length mail2.sends.items ≡ length teams2)
  pub acks : (length acks2.takes.items ≡ length teams2) × (length acks2.sends.items ≡ length teams2)

-- the network of ends over wires
abbrev pub net_of : {R : Type 0} {b : base.Ghosts (WireNet R)} {e : net.Ghosts (Lossy (WireNet R) b)} → AreWires e → net.Ghosts (Lossy (WireNet R) b)
net_of {e = e} over_wires = e

-- wires of which all ends were handed out have room for them
pub has_room : (n k : ℕ) (old new : Wiring) → AreNew n old.takes.items (ends_of old.sends.items) → IsVacant old new → k ≡ n → HasRoom k new
has_room n k old new all is count =
    let takers = all.wired.takers_count in
    let senders = all.wired.senders_count in
    let rows = rows_count old.sends.items in
    let takes_room = is.room.0 in
    let sends_room = is.room.1 in
    record {
      empty = is.empty;
      takes = omega (arith, count, takers, takes_room, old.takes.ok.0, old.takes.ok.1);
      sends = omega (arith, count, senders, rows, sends_room, old.sends.ok.0, old.sends.ok.1);
    }

module _ {R D O U A : Type 0} {b : base.Ghosts (WireNet R)} {e : net.Ghosts (Lossy (WireNet R) b)} (over_wires : AreWires e) (d : disk.Ghosts D) (o : oracle.Ghosts O) (u : outlet.Ghosts U) (handler : A → Handler) {app : A}
    {crews : List (Crew D O U)} {mail acks : Wiring} {teams : List (AtWork R D O U A b)} (begun : HasBegun app crews mail acks teams) where
  -- each team is ready, by its place in the list
  pub teams_ready : AreReady d (handler app) crews → (i : ℕ) (none : AtWork R D O U A b) → i < length teams
      → MayTeamRun (λ count s. MayHandle d e o (handler s.app.now) count (handling_of s)) (λ count p. MayPatch d count p) (λ count s. MayShip e u count (sending_of s)) (slice_index_or teams i none)
  teams_ready ready i none low =
      let n : ℕ = length crews in
      let v : ℕ = n - (i + 1) in
      let size = begun.seated.count in
      let there : v < n = omega (arith, low, size) in
      let takes = begun.mail_new.wired.takers_count in
      let rows = rows_count mail.sends.items in
      let mail_rows = begun.mail_new.wired.senders_count in
      let ack_rows_are = rows_count acks.sends.items in
      let acks_rows = begun.acks_new.wired.senders_count in
      let c = some_at crews v there in
      let t = some_at mail.takes.items v (omega (arith, there, takes)) in
      let s = some_at mail.sends.items v (omega (arith, there, rows, mail_rows)) in
      let place : n - (v + 1) ≡ i = omega (arith, low, size) in
      let place2 : length teams - (v + 1) ≡ i = omega (arith, low, size) in
      let is = subst (λ (k : ℕ). IsSeated (crew_at v crews c) (ends_at v mail.takes.items mail.sends.items t s) (ends_at v acks.takes.items acks.sends.items t s) (slice_index_or teams k none)) place (begun.seated.each v c t s none there) in
      let at = subst (λ (k : ℕ). IsAtNode v app (slice_index_or teams k none)) place2 (begun.nodes v none (omega (arith, there, size))) in
      team_ready d e o u handler over_wires.node over_wires.nodes n v app (crew_at v crews c) (ends_at v mail.takes.items mail.sends.items t s) (ends_at v acks.takes.items acks.sends.items t s) (slice_index_or teams i none) (ready v c there) is at
      (ap (λ (l : List SendEnd). length l) (sym (row_items mail.sends.items v s (omega (arith, there, rows, mail_rows)))) ∙ (begun.mail_new.wired.rows v there).count)
      (ap (λ (l : List SendEnd). length l) (sym (row_items acks.sends.items v s (omega (arith, there, ack_rows_are, acks_rows)))) ∙ (begun.acks_new.wired.rows v there).count)

  module _ {crews2 : List (Crew D O U)} {mail2 acks2 : Wiring} {teams2 : List (AtWork R D O U A b)} (ended : HasEnded d e o u handler crews2 mail2 acks2 teams teams2) where
    -- what a list of teams gives past its end
    pub none : AtWork R D O U A b
    none = some_at teams 0 (let some = begun.some in let size = begun.seated.count in omega (arith, some, size))

    -- the team of a node, before and after
    abbrev team_at : ℕ → AtWork R D O U A b
    team_at v = slice_index_or teams (length crews - (v + 1)) none

    abbrev team2_at : ℕ → AtWork R D O U A b
    team2_at v = slice_index_or teams2 (length crews - (v + 1)) none

    after : length teams2 ≡ length crews
    after = ended.run.count ∙ begun.seated.count

    same : length crews2 ≡ length crews
    same = sym ended.seated.count ∙ after

    -- the ends of its two networks
    abbrev handler_end : ℕ → Lossy (WireNet R) b
    handler_end v = (team_at v).handler.worker.net

    abbrev handler_end2 : ℕ → Lossy (WireNet R) b
    handler_end2 v = (team2_at v).handler.worker.net

    abbrev sender_end : ℕ → Lossy (WireNet R) b
    sender_end v = (team_at v).externaliser.worker.net

    abbrev sender_end2 : ℕ → Lossy (WireNet R) b
    sender_end2 v = (team2_at v).externaliser.worker.net

    seated_at : (v : ℕ) (c : Crew D O U) (t : TakeEnd) (s : Vec SendEnd Global) → v < length crews → IsSeated (crew_at v crews c) (ends_at v mail.takes.items mail.sends.items t s) (ends_at v acks.takes.items acks.sends.items t s) (team_at v)
    seated_at v c t s low = begun.seated.each v c t s none low

    seated2_at : (v : ℕ) (c : Crew D O U) (t : TakeEnd) (s : Vec SendEnd Global) → v < length crews → IsSeated (crew_at v crews2 c) (ends_at v mail2.takes.items mail2.sends.items t s) (ends_at v acks2.takes.items acks2.sends.items t s) (team2_at v)
    seated2_at v c t s low =
        subst (λ (k : ℕ). IsSeated (crew_at v crews2 c) (ends_at v mail2.takes.items mail2.sends.items t s) (ends_at v acks2.takes.items acks2.sends.items t s) (slice_index_or teams2 (k - (v + 1)) none)) same (ended.seated.each v c t s none (omega (arith, low, same)))

    faults_at : (v : ℕ) (c : Crew D O U) → v < length crews → KeepsFaults (team2_at v) (crew_at v crews2 c).faults
    faults_at v c low = subst (λ (k : ℕ). KeepsFaults (slice_index_or teams2 (k - (v + 1)) none) (crew_at v crews2 c).faults) after (ended.faults v c none (omega (arith, low, after)))

    node_at : (v : ℕ) → v < length crews → IsAtNode v app (team_at v)
    node_at v low = let size = begun.seated.count in subst (λ (k : ℕ). IsAtNode v app (slice_index_or teams (k - (v + 1)) none)) size (begun.nodes v none (omega (arith, low, size)))

    ran_at : (v : ℕ) (c : Crew D O U) → v < length crews → CrewRan d e o u (handler app) (crew_at v crews c) (crew_at v crews2 c) (handler_end v) (handler_end2 v) (sender_end v) (sender_end2 v)
    ran_at v c low =
        let t = (handler_end v).base.take in
        let s = (handler_end v).base.sends in
        let size = begun.seated.count in
        crew_ran d e o u handler v app (crew_at v crews c) (crew_at v crews2 c) (ends_at v mail.takes.items mail.sends.items t s) (ends_at v acks.takes.items acks.sends.items t s) (ends_at v mail2.takes.items mail2.sends.items t s) (ends_at v acks2.takes.items acks2.sends.items t s) (team_at v) (team2_at v)
        (seated_at v c t s low) (seated2_at v c t s low) (faults_at v c low) (node_at v low) (ended.run.each (length crews - (v + 1)) none (omega (arith, low, size)))

    handler_went : (v : ℕ) → v < length crews → Went e (handler_end v) (handler_end2 v)
    handler_went v low = let c = some_at crews v low in handler-ran-went e over_wires.put_still over_wires.put_joins over_wires.given_still over_wires.given_joins d o (handler app) _ _ _ (ran_at v c low).handler

    sender_went : (v : ℕ) → v < length crews → Went e (sender_end v) (sender_end2 v)
    sender_went v low = let c = some_at crews v low in sender-ran-went e over_wires.put_still over_wires.put_joins over_wires.given_still over_wires.given_joins u _ _ _ (ran_at v c low).externaliser

    -- ---- the wires

    mail_ends : (v : ℕ) → v < length crews → HasEnds e mail mail2 v (handler_end v) (sender_end v) (handler_end2 v) (sender_end2 v)
    mail_ends v low =
        let c = some_at crews v low in
        let take = (handler_end v).base.take in
        let sends = (handler_end v).base.sends in
        record {
          take = λ t. (seated_at v c t sends low).mail_take;
          take2 = λ t. (seated2_at v c t sends low).mail_take;
          sends = λ s. (seated_at v c take s low).mail_sends;
          sends2 = λ s. (seated2_at v c take s low).mail_sends;
          took = handler_went v low;
          put = sender_went v low;
        }

    acks_ends : (v : ℕ) → v < length crews → HasEnds e acks acks2 v (sender_end v) (handler_end v) (sender_end2 v) (handler_end2 v)
    acks_ends v low =
        let c = some_at crews v low in
        let take = (handler_end v).base.take in
        let sends = (handler_end v).base.sends in
        record {
          take = λ t. (seated_at v c t sends low).acks_take;
          take2 = λ t. (seated2_at v c t sends low).acks_take;
          sends = λ s. (seated_at v c take s low).acks_sends;
          sends2 = λ s. (seated2_at v c take s low).acks_sends;
          took = sender_went v low;
          put = handler_went v low;
        }

    pub mail_served : Served (length crews) mail2 handler_end sender_end handler_end2 sender_end2
    mail_served = they_served over_wires (length crews) mail mail2 handler_end sender_end handler_end2 sender_end2 begun.mail_new (ended.mail.0 ∙ after, ended.mail.1 ∙ after) mail_ends

    pub acks_served : Served (length crews) acks2 sender_end handler_end sender_end2 handler_end2
    acks_served = they_served over_wires (length crews) acks acks2 sender_end handler_end sender_end2 handler_end2 begun.acks_new (ended.acks.0 ∙ after, ended.acks.1 ∙ after) acks_ends

    over_at : (v : ℕ) (c : Crew D O U) → v < length crews → AreOver (crew_at v crews c) (crew_at v crews2 c) (handler_end v) (handler_end2 v) (sender_end v) (sender_end2 v)
    over_at v c low =
        let t = (handler_end v).base.take in
        let s = (handler_end v).base.sends in
        let was = seated_at v c t s low in
        let is = seated2_at v c t s low in
        record {
          acks_links = (was.acks_links, is.acks_links);
          mail_links = (was.mail_links, is.mail_links);
          mail_unheard = mail_served.unheard v low;
          acks_unheard = acks_served.unheard v low;
          acks_unsent = acks_served.unsent v low;
          mail_unsent = mail_served.unsent v low;
        }

    pub rounded : Carry (length crews) mail2.takes.items (ends_of mail2.sends.items) → Carry (length crews) acks2.takes.items (ends_of acks2.sends.items) → Rounded d e o u (handler app) crews crews2
    rounded mail_carry acks_carry = record {
      acks = handler_end;
      acks2 = handler_end2;
      mail = sender_end;
      mail2 = sender_end2;
      wires = over_wires;
      count = same;
      ran = ran_at;
      over = over_at;
      mail_came = mail_served.came mail_carry;
      acks_came = acks_served.came acks_carry;
    }
