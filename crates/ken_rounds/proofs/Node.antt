-- One node of a round, as the run sees it: a run of events over packets that others may have put, and what became of its links.
use Rattle.std.proofs.Common.{◌≡◌, ◌∙◌, ℕ, ◌<◌, List, [], ◌++◌, length, Contains, true, false, refl, sym, ap, subst, arith}
use Rattle.std.specs.Prelude.{slice_index_or}
use Rattle.ken_disk.specs.declared.disk.Disk as disk
use Rattle.ken_app.specs.declared.oracle.Oracle as oracle
use Rattle.ken_model.specs.Game.{Game}
use Rattle.ken_net.specs.declared.base.Base as base
use Rattle.ken_net.specs.declared.lossy.Lossy.{Lossy}
use Rattle.ken_net.specs.declared.net.Net as net
use Rattle.ken_net.specs.Puts.{MayPut, Put}
use Rattle.ken_net.specs.Standings.{after_puts, all_passed, Leaving}
use Rattle.ken_core.specs.Calls.{Doubt}
use Rattle.ken_core.specs.Clusters.{emissions_by}
use Rattle.ken_core.specs.Nodes.{Node}
use Rattle.ken_core.specs.Packets.{Outgoing, Packet}
use Rattle.ken_core.specs.Packets as core
use Rattle.ken_ship.specs.declared.outlet.Outlet as outlet
use Rattle.ken_ship.specs.declared.worker.SendWorker.{SendWorker}
use Rattle.ken_ship.specs.Laws.{packets_from}
use Rattle.ken_ship.specs.Outlets.{also_took}
use Rattle.ken_work.specs.declared.patcher.PatchWorker.{PatchWorker}
use Rattle.ken_work.specs.declared.worker.TurnWorker.{TurnWorker}
use Rattle.ken_node.specs.declared.watched.Watched.{Watched}
use Rattle.ken_node.specs.Down.{IsDown}
use Rattle.ken_node.specs.NodeCalls.{AreSpelled}
use Rattle.ken_node.specs.Stages.{emissions_in}
use Rattle.ken_node.specs.Up.{IsUp}
use Rattle.ken_run.specs.declared.station.Station.{Station}
use Rattle.ken_wire.specs.declared.send_end.SendEnd.{SendEnd}
use Rattle.ken_wire.specs.declared.view.Sent.{Sent as Carried}
use Rattle.ken_wire.specs.declared.wire_net.WireNet.{WireNet}
use Rattle.ken_wire.specs.Ends.{heard_of, refused_by}
use Rattle.ken_wire.specs.Nets.{consumed_to, EndsGrew, Grew, sealed_to}
use Rattle.ken_wire.specs.Views.{nothing}
use Rattle.ken_wire.proofs.Came.{handed}
use Rattle.ken_beside.specs.Puts.{AreAmong, AreOf, IsAnswer, IsMail, puts_of}
use Rattle.ken_threads.specs.declared.crew.Crew.{Crew}
use Rattle.ken_threads.specs.declared.crew.Faults.{Faults}
use Rattle.ken_threads.specs.Rounds.{AreOver, AreWires}
use Rattle.ken_threads.specs.Wires.{IsUnused, sent_at}
use Rattle.ken_rounds.specs.Crews.{CrewPlayed}
use Rattle.ken_rounds.specs.Faults.{has_fallen}
use Rattle.ken_rounds.specs.Manned.{CameBack, IsMannedBy}

-- links after these puts
abbrev pub after : List core.Put → Leaving → Leaving
after by links = record links { links = after_puts (puts_of by) links.links }

-- what they passed on
abbrev pub passed : List core.Put → Leaving → List Put
passed by links = all_passed (puts_of by) links.links

-- what a node handed in with its puts, where it was handed in by its ends
abbrev pub HandsIn : {R : Type 0} {b : base.Ghosts (WireNet R)} → ℕ → List Put → Lossy (WireNet R) b → Type 0
HandsIn v qs end =
    (to : ℕ) (d : SendEnd) (bytes : List ℕ) → to < length end.base.sends.items → MayPut v to (sent_at to d end.base.sends.items).sealed (sent_at to d end.base.sends.items).consumed bytes
    → MayPut v to (sealed_to to qs) (consumed_to to qs) bytes

-- the ends of a network that weren't used before have what was handed in with the puts
pub hands_in : {R : Type 0} {b : base.Ghosts (WireNet R)} (v : ℕ) (qs : List Put) (old new : Lossy (WireNet R) b) → EndsGrew old.base.sends.items new.base.sends.items qs → IsUnused old.base.sends.items → HandsIn v qs new
hands_in v qs old new grew unused to d bytes low may =
    let count = grew.count in
    let below : to < length old.base.sends.items = omega (arith, low, count) in
    let each = grew.each to d below in
    let was = unused to d below in
    let now : Carried = sent_at to d new.base.sends.items in
    let refused : ℕ = refused_by (slice_index_or new.base.sends.items to d) in
    let from_new : Grew to qs nothing 0 now refused =
    subst (λ (x : Carried). Grew to qs x 0 now refused) was.0 (subst (λ (k : ℕ). Grew to qs (sent_at to d old.base.sends.items) k now refused) was.1 each.1) in
    record { packet = may.packet; is = may.is; of_node = may.of_node; for_node = may.for_node; handed = handed to qs now refused may.packet from_new may.handed }

module _ {R D O U : Type 0} {b : base.Ghosts (WireNet R)} (d : disk.Ghosts (Watched D)) (u : outlet.Ghosts U) (g : Game) (v : ℕ) (acks2 mail2 : Lossy (WireNet R) b) where
  -- it is down, with something in doubt over packets that it was given
  pub record HasGoneDown (given : List Packet) (after_it : Node) (new : Station D O U) : Type 0 where
    pub last : List Packet
    pub among : (packet : Packet) → Contains last packet → Contains given packet
    pub doubt : Doubt
    pub down : IsDown d.told g v last after_it doubt new.node.stage

  -- it is up, or it isn't, by its faults
  pub record StateIs (given : List Packet) (after_it : Node) (faults : Faults) (new : Station D O U) : Type 0 where
    pub up : has_fallen faults ≡ false → IsUp d.told d.size g v after_it new.node.stage
    pub down : has_fallen faults ≡ true → HasGoneDown given after_it new

  -- what is known of a node after a round, over the packets that it was given
  pub record NodeIs (given : List Packet) (out : Outgoing) (by_handler by_sender : List core.Put) (old new : Station D O U) : Type 0 where
    pub mail_gave : List (List ℕ)
    pub acks_gave : List (List ℕ)
    pub given_is : given ≡ packets_from g.nodes (mail_gave ++ acks_gave)
    pub mail_heard : heard_of acks2.base.take ≡ mail_gave
    pub acks_heard : heard_of mail2.base.take ≡ acks_gave
    pub hands_mail : HandsIn v (passed by_sender old.mail) mail2
    pub hands_acks : HandsIn v (passed by_handler old.acks) acks2
    pub among : AreAmong by_handler by_sender out.puts
    pub handler_spelled : AreSpelled g.nodes (puts_of by_handler) by_handler
    pub sender_spelled : AreSpelled g.nodes (puts_of by_sender) by_sender
    pub handler_acks : AreOf IsAnswer by_handler
    pub sender_mails : AreOf IsMail by_sender
    pub mail : new.mail ≡ after by_sender old.mail
    pub acks : new.acks ≡ after by_handler old.acks
    pub emissions : emissions_in new.node.stage ≡ emissions_in old.node.stage ++ emissions_by v out.outs
    pub took : u.took new.out ≡ also_took out.outs (u.took old.out)

module _ {R D O U : Type 0} {b : base.Ghosts (WireNet R)} (d : disk.Ghosts (Watched D)) (e : net.Ghosts (Lossy (WireNet R) b)) (o : oracle.Ghosts O) (u : outlet.Ghosts U) (wires : AreWires e)
    (g : Game) (v : ℕ) (n : Node) (old new : Crew (Watched D) O U) (acks acks2 mail mail2 : Lossy (WireNet R) b) (over : AreOver old new acks acks2 mail mail2)
    (t : TurnWorker (Watched D)) (p : PatchWorker (Watched D)) (s : SendWorker) (a c : Station D O U) (manned : IsMannedBy old a) (back : CameBack new t p s a c)
    (played : CrewPlayed d e o u g v n old new acks acks2 mail mail2 t p s) where
  -- links that leave a station are those of its crew, before the round and after
  links-after : (links links2 : Leaving) (x y : Lossy (WireNet R) b) (by : List core.Put) → x.links ≡ links → y.links ≡ links2 → e.put_between x y (puts_of by) → links2 ≡ after by links
  links-after links links2 x y by was now put = sym now ∙ (wires.puts x y (puts_of by) put).links_are ∙ ap (after by) was

  ends-after : (links : Leaving) (x y : Lossy (WireNet R) b) (by : List core.Put) → x.links ≡ links → IsUnused x.base.sends.items → e.put_between x y (puts_of by) → HandsIn v (passed by links) y
  ends-after links x y by was unused put = subst (λ (l : Leaving). HandsIn v (passed by l) y) was (hands_in v (passed by x.links) x y (wires.puts x y (puts_of by) put).passed_on unused)

  heard-all : (x y : Lossy (WireNet R) b) (packets : List (List ℕ)) → heard_of x.base.take ≡ [] → e.given_between x y packets → heard_of y.base.take ≡ packets
  heard-all x y packets none given = (wires.hears x y packets given).more ∙ ap (λ (l : List (List ℕ)). l ++ packets) none

  pub node-is : NodeIs d u g v acks2 mail2 (packets_from g.nodes (played.mail_gave ++ played.acks_gave)) played.out played.by_handler played.by_sender a c
  node-is = record {
    mail_gave = played.mail_gave;
    acks_gave = played.acks_gave;
    given_is = refl;
    mail_heard = heard-all acks acks2 played.mail_gave over.mail_unheard played.mail_given;
    acks_heard = heard-all mail mail2 played.acks_gave over.acks_unheard played.acks_given;
    hands_mail = ends-after a.mail mail mail2 played.by_sender (over.mail_links.0 ∙ sym manned.mail) over.mail_unsent played.sender_puts.were_put;
    hands_acks = ends-after a.acks acks acks2 played.by_handler (over.acks_links.0 ∙ sym manned.acks) over.acks_unsent played.handler_puts.were_put;
    among = played.among;
    handler_spelled = played.handler_puts.spelled;
    sender_spelled = played.sender_puts.spelled;
    handler_acks = played.handler_acks;
    sender_mails = played.sender_mails;
    mail = links-after a.mail c.mail mail mail2 played.by_sender (over.mail_links.0 ∙ sym manned.mail) (over.mail_links.1 ∙ sym back.mail) played.sender_puts.were_put;
    acks = links-after a.acks c.acks acks acks2 played.by_handler (over.acks_links.0 ∙ sym manned.acks) (over.acks_links.1 ∙ sym back.acks) played.handler_puts.were_put;
    emissions = ap emissions_in back.stage ∙ played.emissions ∙ ap (λ es. es ++ emissions_by v played.out.outs) (sym (ap emissions_in manned.stage));
    took = ap u.took back.out ∙ played.took ∙ ap (λ x. also_took played.out.outs (u.took x)) (sym manned.out);
  }

  pub state-is : StateIs d u g v acks2 mail2 (packets_from g.nodes (played.mail_gave ++ played.acks_gave)) played.after new.faults c
  state-is = record {
    up = λ none. subst (IsUp d.told d.size g v played.after) (sym back.stage) (played.up none).up;
    down = λ some.
        let went = played.down some in
        record { last = went.last; among = went.among; doubt = went.doubt; down = subst (IsDown d.told g v went.last played.after went.doubt) (sym back.stage) went.down };
  }
