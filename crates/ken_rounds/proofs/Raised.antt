-- One node of a round after its fault was looked at.
use Rattle.std.proofs.Common.{◌≡◌, ◌∙◌, ℕ, ◌≤◌, ◌⊎◌, List, ◌++◌, Contains, Bool, true, false, Option, Some, None, Result, Ok, Err, inl, inr, refl, sym, ap, subst, arith}
use Rattle.ken_disk.specs.declared.disk.Disk as disk
use Rattle.ken_app.specs.declared.oracle.Oracle as oracle
use Rattle.ken_model.specs.Game.{Game}
use Rattle.ken_model.specs.History.{IsPrefixOf}
use Rattle.ken_net.specs.declared.base.Base as base
use Rattle.ken_net.specs.declared.lossy.Lossy.{Lossy}
use Rattle.ken_core.specs.declared.events.Event.{Event}
use Rattle.ken_core.specs.Calls.{Doubt}
use Rattle.ken_core.specs.Nodes.{Node}
use Rattle.ken_core.specs.Packets.{nothing, Outgoing, Packet}
use Rattle.ken_core.specs.Packets as core
use Rattle.ken_core.specs.Runs.{NodeRun}
use Rattle.ken_record.specs.declared.effects.Effects.{Effects}
use Rattle.ken_ship.specs.declared.faults.NodeFault.{NodeFault}
use Rattle.ken_ship.specs.declared.faults.NodeFault.TheVariants.{Disk, Outlet}
use Rattle.ken_ship.specs.declared.outlet.Outlet as outlet
use Rattle.ken_ship.specs.Fates.{Fate}
use Rattle.ken_flow.proofs.Puts.{run_grows}
use Rattle.ken_whole.proofs.Runs.{after-nothing, run-append}
use Rattle.ken_node.specs.declared.watched.Watched.{Watched}
use Rattle.ken_node.specs.Down.{IsDown}
use Rattle.ken_work.specs.Parts.{CountsAnew}
use Rattle.ken_node.specs.Stages.{refusals_in, turns_in}
use Rattle.ken_run.proofs.CountsAnew.{counts-less}
use Rattle.ken_node.specs.Up.{IsUp}
use Rattle.ken_run.specs.declared.station.Station.{Station}
use Rattle.ken_run.specs.Accounts.{AccountsStation, IsAccounted, IsHeld, Terms}
use Rattle.ken_run.specs.Counts.{KeepCounts}
use Rattle.ken_run.specs.Creating.{RaisesStation}
use Rattle.ken_run.specs.Refusals.{HasFailedLast, IsRefused}
use Rattle.ken_run.specs.Devices.{MayFailAt}
use Rattle.ken_run.specs.StationClauses.{IsRestartOf, KeepsEmissions}
use Rattle.ken_run.proofs.AccountsCalls.{up-turns}
use Rattle.ken_wire.specs.declared.wire_net.WireNet.{WireNet}
use Rattle.ken_beside.proofs.Over.{run-over}
use Rattle.ken_threads.specs.declared.crew.Faults.{Faults}
use Rattle.ken_rounds.specs.Faults.{ComeTo, has_fallen}
use Rattle.ken_rounds.specs.Growth.{GrowsByFew}
use Rattle.ken_rounds.specs.Raising.{GoesOn, IsOut, again, as_it_was, refused, used_up, WasRaised}
use Rattle.ken_rounds.proofs.Growth.{few-one, few-same}
use Rattle.ken_rounds.proofs.Node.{HasGoneDown, NodeIs, StateIs}

-- a node was restarted until a restart answered, or so often, by the answer: in words of what its disks tell
pub record RaisedAs {D O U : Type 0} (d : disk.Ghosts (Watched D)) (o : oracle.Ghosts O) (most : ℕ) (result : Result (Unit {0}) NodeFault) (old new : Station D O U) : Type 0 where
  pub back : (g : Game) (v : ℕ) (given : List Packet) (n : Node) (doubt : Doubt) → IsDown d.told g v given n doubt old.node.stage → RaisesStation d.told d.size result g v given n doubt most old new
  pub accounts : (terms : Terms) (g : Game) (v : ℕ) → IsHeld d.told d.faults d.fate o.telling terms g v old → most ≤ terms.most → AccountsStation d.told d.faults d.fate o.telling terms g result v new
  pub counts : KeepCounts d.faults old.node.stage new.node.stage
  pub emissions : KeepsEmissions old new
  pub refusals : CountsAnew result (refusals_in old.node.stage) (refusals_in new.node.stage)
  pub rest : IsRestartOf old new

-- what became of a node: it goes on, or it is down for good, or its fault wasn't looked at
abbrev pub WentOn : {D O U : Type 0} → disk.Ghosts (Watched D) → oracle.Ghosts O → ℕ → Option NodeFault → Station D O U → Station D O U → Type 0
WentOn d o most fault old new = ((fault ≡ None) × (new ≡ old)) ⊎ ((fault ≡ Some Disk) × RaisedAs d o most (Ok tt) old new)

abbrev pub WentOut : {D O U : Type 0} → disk.Ghosts (Watched D) → oracle.Ghosts O → ℕ → Option NodeFault → Station D O U → Station D O U → Type 0
WentOut d o most fault old new = ((fault ≡ Some Outlet) × (new ≡ old)) ⊎ ((fault ≡ Some Disk) × RaisedAs d o most (Err Disk) old new)

module _ {R D O U : Type 0} {b : base.Ghosts (WireNet R)} (d : disk.Ghosts (Watched D)) (o : oracle.Ghosts O) (u : outlet.Ghosts U) (g : Game) (v : ℕ) (n : Node) (acks2 mail2 : Lossy (WireNet R) b) where
  -- a node after the round and the meeting
  pub record NodePlayed (faults : Faults) (old new : Station D O U) : Type 0 where
    pub given : List Packet
    pub events : List Event
    pub out : Outgoing
    pub after_it : Node
    pub run : NodeRun g (Contains given) v n events out after_it
    pub by_handler : List core.Put
    pub by_sender : List core.Put
    pub node : NodeIs d u g v acks2 mail2 given out by_handler by_sender old new
    pub state : StateIs d u g v acks2 mail2 given after_it faults new

  module _ (faults : Faults) (fault : Option NodeFault) (come_to : ComeTo faults fault) (a c e : Station D O U) (played : NodePlayed faults a c) where
    -- and after it was looked at, with a state that it is in then
    pub record NodeThen (State : Node → Type 0) : Type 0 where
      pub events : List Event
      pub after_it : Node
      pub run : NodeRun g (Contains played.given) v n events played.out after_it
      pub node : NodeIs d u g v acks2 mail2 played.given played.out played.by_handler played.by_sender a e
      pub state : State after_it

    abbrev pub Up : Node → Type 0
    Up m = IsUp d.told d.size g v m e.node.stage

    abbrev pub Either : Node → Type 0
    Either m = Up m ⊎ HasGoneDown d u g v acks2 mail2 played.given m e

    pub or-either : NodeThen Up → NodeThen Either
    or-either t = record { events = t.events; after_it = t.after_it; run = t.run; node = t.node; state = inl t.state }

    -- its station is as it was
    as-before : (State : Node → Type 0) → e ≡ c → State played.after_it → NodeThen State
    as-before State same state = record { events = played.events; after_it = played.after_it; run = played.run; node = subst (NodeIs d u g v acks2 mail2 played.given played.out played.by_handler played.by_sender a) (sym same) played.node; state = state }

    is-either : (t : Bool) → has_fallen faults ≡ t → e ≡ c → Either played.after_it
    is-either false none same = inl (subst (λ (x : Station D O U). IsUp d.told d.size g v played.after_it x.node.stage) (sym same) (played.state.up none))
    is-either true some same = inr (subst (HasGoneDown d u g v acks2 mail2 played.given played.after_it) (sym same) (played.state.down some))

    pub not-looked-at : e ≡ c → NodeThen Either
    not-looked-at same = as-before Either same (is-either (has_fallen faults) refl same)

    -- a restart leaves all but the node and its counts
    restarted : {result : Result (Unit {0}) NodeFault} (most : ℕ) → RaisedAs d o most result c e → NodeIs d u g v acks2 mail2 played.given played.out played.by_handler played.by_sender a e
    restarted most raised =
        let node = played.node in
        record {
          mail_gave = node.mail_gave;
          acks_gave = node.acks_gave;
          given_is = node.given_is;
          mail_heard = node.mail_heard;
          acks_heard = node.acks_heard;
          hands_mail = node.hands_mail;
          hands_acks = node.hands_acks;
          among = node.among;
          handler_spelled = node.handler_spelled;
          sender_spelled = node.sender_spelled;
          handler_acks = node.handler_acks;
          sender_mails = node.sender_mails;
          mail = ap (λ (x : Station D O U). x.mail) raised.rest ∙ node.mail;
          acks = ap (λ (x : Station D O U). x.acks) raised.rest ∙ node.acks;
          emissions = raised.emissions ∙ node.emissions;
          took = ap (λ (x : Station D O U). u.took x.out) raised.rest ∙ node.took;
        }

    fell : fault ≡ Some Disk → HasGoneDown d u g v acks2 mail2 played.given played.after_it c
    fell is = played.state.down (let so = subst (ComeTo faults) is come_to in so.1)

    up-again : (most : ℕ) → fault ≡ Some Disk → RaisedAs d o most (Ok tt) c e → NodeThen Up
    up-again most is raised =
        let down = fell is in
        let again = (raised.back g v down.last played.after_it down.doubt down.down).1.0 in
        record {
          events = played.events ++ again.call.events;
          after_it = again.after;
          run =
              subst (λ (out : Outgoing). NodeRun g (Contains played.given) v n (played.events ++ again.call.events) out again.after) (after-nothing played.out)
              (run-append g (Contains played.given) v n played.after_it again.after played.events again.call.events played.out nothing played.run
              (run-over g (Contains down.last) (Contains played.given) down.among v played.after_it again.after again.call.events nothing again.call.run));
          node = restarted most raised;
          state = record {
            limits = down.down.limits;
            known = down.down.known;
            handler = again.handler;
            patcher = again.patcher;
            sender = again.sender;
            stage_is = again.stage_is;
            whole = again.whole;
            empty = again.empty;
            unspent = again.unspent;
            tell = again.tell;
          };
        }

    pub went-on : (most : ℕ) → WentOn d o most fault c e → NodeThen Up
    went-on most (inl (none, same)) =
        as-before Up same (subst (λ (x : Station D O U). IsUp d.told d.size g v played.after_it x.node.stage) (sym same) (played.state.up (let so = subst (ComeTo faults) none come_to in so.1)))
    went-on most (inr (is, raised)) = up-again most is raised

    pub went-out : (most : ℕ) → WentOut d o most fault c e → NodeThen Either
    went-out most (inl (out, same)) = not-looked-at same
    went-out most (inr (is, raised)) =
        let down = fell is in
        record {
          events = played.events;
          after_it = played.after_it;
          run = played.run;
          node = restarted most raised;
          state = inr (record { last = down.last; among = down.among; doubt = down.doubt; down = (raised.back g v down.last played.after_it down.doubt down.down).0 });
        }

    -- its turns begin with those that it had
    pub turns-then : (m : Node) → Either m → turns_in e.node.stage ≡ m.turning.turns
    turns-then m (inl is_up) = up-turns d.told d.size g v m e.node.stage is_up
    turns-then m (inr gone) = gone.down.turns

    pub turns-go-on : IsUp d.told d.size g v n a.node.stage → NodeThen Either → IsPrefixOf (turns_in a.node.stage) (turns_in e.node.stage)
    turns-go-on was_up t =
        subst (λ (ts : List Effects). IsPrefixOf ts (turns_in e.node.stage)) (sym (up-turns d.told d.size g v n a.node.stage was_up))
        (subst (IsPrefixOf n.turning.turns) (sym (turns-then t.after_it t.state)) (run_grows g (Contains played.given) v n t.events played.out t.after_it t.run))

    -- its restart lines are as they were, with one more where a restart answered
    same-lines : e ≡ c → GrowsByFew 1 c.lines.items e.lines.items
    same-lines same = few-same c.lines.items e.lines.items (ap (λ (x : Station D O U). x.lines.items) same)

    lines-on : (most : ℕ) → WentOn d o most fault c e → GrowsByFew 1 c.lines.items e.lines.items
    lines-on most (inl (none, same)) = same-lines same
    lines-on most (inr (is, raised)) =
        let down = fell is in
        let answered = raised.back g v down.last played.after_it down.doubt down.down in
        few-one c.lines.items e.lines.items answered.0 answered.1.1

    lines-out : (most : ℕ) → WentOut d o most fault c e → GrowsByFew 1 c.lines.items e.lines.items
    lines-out most (inl (out, same)) = same-lines same
    lines-out most (inr (is, raised)) =
        let down = fell is in
        few-same c.lines.items e.lines.items (raised.back g v down.last played.after_it down.doubt down.down).1

    pub lines-grow : (most : ℕ) → WentOn d o most fault c e ⊎ (WentOut d o most fault c e ⊎ (e ≡ c)) → GrowsByFew 1 c.lines.items e.lines.items
    lines-grow most (inl on) = lines-on most on
    lines-grow most (inr (inl out)) = lines-out most out
    lines-grow most (inr (inr same)) = same-lines same

-- ---- accounts

module _ {D O U : Type 0} (d : disk.Ghosts (Watched D)) (o : oracle.Ghosts O) (terms : Terms) (g : Game) (v most : ℕ) (faults : Faults) (fault : Option NodeFault) (come_to : ComeTo faults fault) (few : most ≡ terms.most) (c e : Station D O U)
    (up : has_fallen faults ≡ false → IsAccounted d.told d.faults d.fate o.telling terms g v c) (down : has_fallen faults ≡ true → IsHeld d.told d.faults d.fate o.telling terms g v c) where
  abbrev Kept : Station D O U → Type 0
  Kept x = IsAccounted d.told d.faults d.fate o.telling terms g v x ⊎ IsHeld d.told d.faults d.fate o.telling terms g v x

  by-faults : (t : Bool) → has_fallen faults ≡ t → Kept c
  by-faults false none = inl (up none)
  by-faults true some = inr (down some)

  pub kept-not-looked-at : e ≡ c → Kept e
  kept-not-looked-at same = subst Kept (sym same) (by-faults (has_fallen faults) refl)

  held : fault ≡ Some Disk → IsHeld d.told d.faults d.fate o.telling terms g v c
  held is = down (let so = subst (ComeTo faults) is come_to in so.1)

  pub accounted-on : WentOn d o most fault c e → IsAccounted d.told d.faults d.fate o.telling terms g v e
  accounted-on (inl (none, same)) = subst (IsAccounted d.told d.faults d.fate o.telling terms g v) (sym same) (up (let so = subst (ComeTo faults) none come_to in so.1))
  accounted-on (inr (is, raised)) = raised.accounts terms g v (held is) (omega (arith, few))

  pub kept-out : WentOut d o most fault c e → Kept e
  kept-out (inl (out, same)) = kept-not-looked-at same
  kept-out (inr (is, raised)) = inr (raised.accounts terms g v (held is) (omega (arith, few)))

-- ---- refusals

-- an outlet that failed so often at the last failed less often too
fewer-failed : {U : Type 0} (faults : U → ℕ) (fate : U → Option Fate) (often less : ℕ) (out : U) → less ≤ often → HasFailedLast faults fate often out → HasFailedLast faults fate less out
fewer-failed faults fate often less out low is = record {
  counted = let counted = is.counted in omega (arith, low, counted);
  running = λ f told room.
      let last = is.running f told room in
      record { made = let made = last.made in omega (arith, low, made); each = λ call late most. last.each call (omega (arith, low, late)) most };
  listed = λ some f told. is.listed (omega (arith, some, low)) f told;
}

module _ {D O U : Type 0} (d : disk.Ghosts (Watched D)) (o : oracle.Ghosts O) (u : outlet.Ghosts U) (terms : Terms) (v most : ℕ) (fault : Option NodeFault) (c e : Station D O U) (was : IsRefused u.faults u.fate terms v c) where
  restart-refused : {result : Result (Unit {0}) NodeFault} → RaisedAs d o most result c e → IsRefused u.faults u.fate terms v e
  restart-refused {result} raised =
      let out : e.out ≡ c.out = ap (λ (x : Station D O U). x.out) raised.rest in
      let fewer = counts-less result (refusals_in c.node.stage) (refusals_in e.node.stage) raised.refusals in
      record {
        few = let few = was.few in omega (arith, few, fewer);
        failed = fewer-failed u.faults u.fate (refusals_in c.node.stage) (refusals_in e.node.stage) e.out fewer (subst (HasFailedLast u.faults u.fate (refusals_in c.node.stage)) (sym out) was.failed);
        fails = subst (λ (x : U). MayFailAt terms.scripted v (terms.fails v) (u.fate x)) (sym out) was.fails;
      }

  pub refused-same : e ≡ c → IsRefused u.faults u.fate terms v e
  refused-same same = subst (IsRefused u.faults u.fate terms v) (sym same) was

  pub refused-on : WentOn d o most fault c e → IsRefused u.faults u.fate terms v e
  refused-on (inl (none, same)) = refused-same same
  refused-on (inr (is, raised)) = restart-refused raised

  pub refused-out : WentOut d o most fault c e → IsRefused u.faults u.fate terms v e
  refused-out (inl (out, same)) = refused-same same
  refused-out (inr (is, raised)) = restart-refused raised

-- ---- from what a look says

module _ {D O U : Type 0} (d : disk.Ghosts D) (w : disk.Ghosts (Watched D)) (o : oracle.Ghosts O) (most : ℕ) (means : (result : Result (Unit {0}) NodeFault) (old new : Station D O U) → WasRaised d o most result old new → RaisedAs w o most result old new) where
  pub goes-on : (fault : Option NodeFault) (old new : Station D O U) → GoesOn d o most fault old new → WentOn w o most fault old new
  goes-on fault old new (as_it_was none same) = inl (none, same)
  goes-on fault old new (again is raised) = inr (is, means (Ok tt) old new raised)

  pub is-out : (fault : Option NodeFault) (old new : Station D O U) → IsOut d o most fault old new → WentOut w o most fault old new
  is-out fault old new (refused is same) = inl (is, same)
  is-out fault old new (used_up is raised) = inr (is, means (Err Disk) old new raised)
