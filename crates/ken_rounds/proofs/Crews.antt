-- What a round and the meeting after it make of one node.
use Rattle.std.proofs.Common.{◌≡◌, ◌⊎◌, ◌∙◌, ℕ, Bool, true, false, ◌||◌, List, [], ◌++◌, Some, None, inl, inr, ⊎_elim, refl, sym, ap, subst, append-nil, arith}
use Rattle.ken_disk.specs.declared.disk.Disk as disk
use Rattle.ken_app.specs.declared.oracle.Oracle as oracle
use Rattle.ken_model.specs.declared.messages.Out.{Out}
use Rattle.ken_model.specs.Game.{Game}
use Rattle.ken_net.specs.declared.net.Net as net
use Rattle.ken_net.specs.Puts.{Put}
use Rattle.ken_core.specs.Calls.{Doubt, no_doubt, seal, turnover}
use Rattle.ken_core.specs.Clusters.{emissions_by}
use Rattle.ken_core.specs.Nodes.{Node}
use Rattle.ken_core.specs.Packets.{one_after_other}
use Rattle.ken_store.specs.declared.disks.Disks.{Disks}
use Rattle.ken_store.specs.Apart.{disks_apart}
use Rattle.ken_ship.specs.declared.faults.NodeFault.TheVariants.{Outlet}
use Rattle.ken_ship.specs.declared.outlet.Outlet as outlet
use Rattle.ken_ship.specs.declared.worker.SendWorker.{SendWorker}
use Rattle.ken_ship.specs.Laws.{packets_from}
use Rattle.ken_ship.specs.Outlets.{also_took}
use Rattle.ken_ship.specs.Parts.{part_of}
use Rattle.ken_work.specs.declared.patcher.PatchWorker.{PatchWorker}
use Rattle.ken_work.specs.declared.worker.TurnWorker.{TurnWorker}
use Rattle.ken_work.specs.Calls.{Drew}
use Rattle.ken_node.specs.Restarts.{AreUnfailed, OneHasFailed}
use Rattle.ken_node.proofs.GoesDown.{whole_goes_down}
use Rattle.ken_node.proofs.MeetingDown.{meeting_stays_down}
use Rattle.ken_node.proofs.Up.{met-disks}
use Rattle.ken_beside.specs.Accounts.{Refuses}
use Rattle.ken_beside.specs.Failing.{IsInDoubt}
use Rattle.ken_beside.specs.Meetings.{HaveEmptied, IsDownAfter, IsUpAfter}
use Rattle.ken_beside.specs.On.{IsOn}
use Rattle.ken_beside.specs.Puts.{IsAnswer}
use Rattle.ken_beside.specs.Seats.{Handling, Sending}
use Rattle.ken_beside.proofs.Accounts.{has-sent}
use Rattle.ken_beside.proofs.Calm.{calm-append}
use Rattle.ken_beside.proofs.Disks.{fault-fell, steps-unfailed}
use Rattle.ken_beside.proofs.HandedIn.{shuffled_are_among}
use Rattle.ken_beside.proofs.Lists.{shuffled-first}
use Rattle.ken_beside.proofs.Meetings.{failure_and_meeting, steps_and_meeting}
use Rattle.ken_beside.proofs.Sorts.{of-then}
use Rattle.ken_beside.proofs.On.{steps-unspent}
use Rattle.ken_beside.proofs.Spelled.{put-then}
use Rattle.ken_beside.proofs.Taken.{packets-left, packets-right}
use Rattle.ken_threads.specs.declared.crew.Crew.{Crew}
use Rattle.ken_threads.specs.Rounds.{CrewRan, handling_with, sending_with}
use Rattle.ken_rounds.specs.Crews.{CrewPlayed, DrewDoubted, HaveFailed, IsWorn}
use Rattle.ken_rounds.specs.Faults.{HadMemory, has_fallen, is_disk}
use Rattle.ken_rounds.proofs.Steps.{handler-ends, patched-badly, patched-well, Patched, PatchedBadly, PatchedWell, patcher-ends, sender-ends, sent-badly, Sent, SentBadly, TurnedBadly, TurnedWell}

module _ {D N O U : Type 0} (d : disk.Ghosts D) (e : net.Ghosts N) (o : oracle.Ghosts O) (u : outlet.Ghosts U)
    (put_still : (a : N) → e.put_between a a []) (put_joins : (a b c : N) (ps qs : List Put) → e.put_between a b ps → e.put_between b c qs → e.put_between a c (ps ++ qs))
    (given_still : (a : N) → e.given_between a a []) (given_joins : (a b c : N) (xs ys : List (List ℕ)) → e.given_between a b xs → e.given_between b c ys → e.given_between a c (xs ++ ys))
    (g : Game) (v : ℕ) (n : Node) (old new : Crew D O U) (acks acks2 mail mail2 : N) (t : TurnWorker D) (p : PatchWorker D) (s : SendWorker)
    (on : IsOn d.told d.size g v n old.turns old.patches old.sends) (meets : HaveEmptied d new.turns t new.patches p new.sends s) where
  abbrev before : Handling D N O
  before = handling_with acks old

  abbrev after : Handling D N O
  after = handling_with acks2 new

  abbrev sends : Sending N U
  sends = sending_with mail old

  abbrev sent : Sending N U
  sent = sending_with mail2 new

  abbrev disks : Disks D
  disks = disks_apart old.turns.side old.patches.side

  abbrev disks2 : Disks D
  disks2 = disks_apart t.side p.side

  -- a meeting calls no disk
  met : disks2 ≡ disks_apart new.turns.side new.patches.side
  met = met-disks d.told d.size new.turns t new.patches p new.sends s meets.met

  -- ---- the outlet

  -- where the last output was refused once too often
  worn-at : SentBadly e u sends sent → IsWorn u (part_of old.sends).refusals old.outlet new.outlet
  worn-at badly =
      let so = has-sent e u sends badly.mid badly.well.states badly.well.calls in
      record {
        mid = badly.mid.outlet;
        refuses = subst (λ (k : ℕ). Refuses u (part_of old.sends).refusals old.outlet k badly.mid.outlet) badly.last.part.1 so.refusals;
        cause = badly.last.cause;
        fate = badly.last.fate;
      }

  abbrev Worn : Type 0
  Worn = new.faults.externaliser ≡ Some Outlet → IsWorn u (part_of old.sends).refusals old.outlet new.outlet

  -- ---- the handler's calls ended well

  module _ (worn : Worn) (turned : TurnedWell d e o g.handler before after) (patched : Patched d old.patches new.patches) (posted : Sent e u sends sent) where
    up-after : IsUpAfter d e o u g v n before after old.patches new.patches sends sent t p s
    up-after =
        steps_and_meeting d e o u put_still put_joins given_still given_joins g v n before after old.patches new.patches sends sent turned.states patched.states posted.states t p s
        on turned.steps patched.calls posted.calls meets

    played-well : (has_fallen new.faults ≡ false → AreUnfailed d.told d.faults d.fate disks (disks_apart new.turns.side new.patches.side))
        → (has_fallen new.faults ≡ false → new.patches.side.image.spent ≡ false)
        → (has_fallen new.faults ≡ true → HaveFailed d disks (disks_apart new.turns.side new.patches.side)) → CrewPlayed d e o u g v n old new acks acks2 mail mail2 t p s
    played-well unfailed unspent failed =
        let ran = up-after.ran in
        record {
          mail_gave = ran.handler_gave;
          mail_given = ran.handler_given;
          acks_gave = ran.sender_gave;
          acks_given = ran.sender_given;
          events = ran.events;
          out = ran.out;
          after = ran.after;
          run = ran.run;
          calm = ran.calm;
          by_handler = ran.by_handler;
          handler_puts = ran.handler_puts;
          handler_acks = ran.handler_acks;
          by_sender = ran.by_sender;
          sender_puts = ran.sender_puts;
          sender_mails = ran.sender_mails;
          among = shuffled_are_among ran.by_handler ran.by_sender ran.out.puts ran.all;
          emissions = up-after.accounts.emissions ∙ ran.emissions;
          took = ran.took;
          refusals = up-after.accounts.refusals;
          worn = worn;
          turns = ran.turns;
          sealed = ran.sealed;
          middle = new.oracle;
          drew = ran.drew;
          origin = ran.origin;
          synced = up-after.accounts.synced;
          up = λ none. record { up = up-after.up (unspent none); unfailed = subst (AreUnfailed d.told d.faults d.fate disks) (sym met) (unfailed none); undrawn = refl };
          down = λ some. record {
            last = [];
            among = λ packet there. let low = there.1 in absurd (omega (arith, low));
            doubt = no_doubt;
            down =
                meeting_stays_down d.told d.size g v [] ran.after no_doubt new.turns t new.patches p new.sends s
                (whole_goes_down d.told d.size g v [] ran.after new.turns new.patches new.sends ran.on.limits ran.on.known ran.on.whole ran.on.tell) meets.same meets.joined meets.met;
            drew = inl (refl, refl);
            failed = subst (HaveFailed d disks) (sym met) (failed some);
          };
        }

  -- ---- a disk failed at its last

  doubted : (doubt : Doubt) (a b : O) → IsInDoubt (Drew o.telling.clocks o.telling.words g.handler a b) doubt → DrewDoubted o g.handler a b doubt
  doubted no_doubt a b is = absurd is
  doubted (seal from draws pages) a b is = is
  doubted (turnover told) a b is = tt

  module _ (worn : Worn) (fallen : has_fallen new.faults ≡ true) (turned : TurnedBadly d e o g.handler before after) (patched : Patched d old.patches new.patches) (posted : Sent e u sends sent)
      (failed : OneHasFailed d.told d.faults d.fate (disks_apart turned.mid.worker.side new.patches.side) (disks_apart new.turns.side new.patches.side) → HaveFailed d disks (disks_apart new.turns.side new.patches.side)) where
    down-after : IsDownAfter d e o u g v n before turned.mid after old.patches new.patches sends sent t p s
    down-after =
        failure_and_meeting d e o u put_still put_joins given_still given_joins g v n before turned.mid after old.patches new.patches sends sent turned.well.states patched.states posted.states t p s
        on turned.well.steps turned.last patched.calls posted.calls meets

    no-more-outs : (xs ys : List Out) → ys ≡ [] → xs ≡ xs ++ ys
    no-more-outs xs ys none = sym (ap (λ (zs : List Out). xs ++ zs) none ∙ append-nil xs)

    played-badly : CrewPlayed d e o u g v n old new acks acks2 mail mail2 t p s
    played-badly =
        let f = down-after.failed in
        let ran = f.ran in
        let outs : ran.out.outs ≡ ran.out.outs ++ f.out.outs = no-more-outs ran.out.outs f.out.outs f.outs in
        record {
          mail_gave = ran.handler_gave ++ f.gave;
          mail_given = given_joins acks turned.mid.net acks2 ran.handler_gave f.gave ran.handler_given f.given;
          acks_gave = ran.sender_gave;
          acks_given = ran.sender_given;
          events = ran.events ++ f.events;
          out = one_after_other ran.out f.out;
          after = f.after;
          run = f.all_run;
          calm = calm-append ran.events f.events ran.calm f.calm;
          by_handler = ran.by_handler ++ f.out.puts;
          handler_puts =
              put-then g.nodes (e.put_between acks turned.mid.net) (e.put_between turned.mid.net acks2) (e.put_between acks acks2) ran.by_handler f.out.puts
              (λ xs ys one two. put_joins acks turned.mid.net acks2 xs ys one two) ran.handler_puts f.puts;
          handler_acks = of-then IsAnswer ran.by_handler f.out.puts ran.handler_acks f.acks;
          by_sender = ran.by_sender;
          sender_puts = ran.sender_puts;
          sender_mails = ran.sender_mails;
          among =
              shuffled_are_among (ran.by_handler ++ f.out.puts) ran.by_sender (ran.out.puts ++ f.out.puts)
              (shuffled-first ran.by_handler ran.by_sender ran.out.puts f.out.puts ran.all);
          emissions = down-after.accounts.emissions ∙ ran.emissions ∙ ap (λ (os : List Out). (part_of old.sends).emissions ++ emissions_by v os) outs;
          took = ran.took ∙ ap (λ (os : List Out). also_took os (u.took old.outlet)) outs;
          refusals = down-after.accounts.refusals;
          worn = worn;
          turns = ran.turns;
          sealed = f.turns ∙ ran.sealed;
          middle = turned.mid.oracle;
          drew = ran.drew;
          origin = turned.last.origin ∙ ran.origin;
          synced = down-after.accounts.synced;
          up = λ none. let both : true ≡ false = sym fallen ∙ none in absurd (cc);
          down = λ some. record {
            last = packets_from g.nodes f.gave;
            among = λ packet there. packets-left g.nodes (ran.handler_gave ++ f.gave) ran.sender_gave packet (packets-right g.nodes ran.handler_gave f.gave packet there);
            doubt = f.doubt;
            down = down-after.down;
            drew = inr (record { clocks = turned.last.clocks_go_on; words = turned.last.words_go_on; drew = doubted f.doubt turned.mid.oracle new.oracle f.drew });
            failed = subst (HaveFailed d disks) (sym met) (failed f.failed);
          };
        }

  -- ---- by the faults

  module _ (unspent : old.patches.side.image.spent ≡ false) (had : HadMemory new.faults) (ran : CrewRan d e o u g.handler old new acks acks2 mail mail2) where
    abbrev Played : Type 0
    Played = CrewPlayed d e o u g v n old new acks acks2 mail mail2 t p s

    by-patcher : Worn → Sent e u sends sent
        → ((is_disk new.faults.handler ≡ false) × TurnedWell d e o g.handler before after) ⊎ ((is_disk new.faults.handler ≡ true) × TurnedBadly d e o g.handler before after)
        → ((is_disk new.faults.patcher ≡ false) × PatchedWell d old.patches new.patches) ⊎ ((is_disk new.faults.patcher ≡ true) × PatchedBadly d old.patches new.patches) → Played
    by-patcher worn posted (inl (isnt, turned)) (inl (well, patched)) =
        let none : has_fallen new.faults ≡ false = ap (λ (b : Bool). b || is_disk new.faults.patcher) isnt ∙ well in
        played-well worn turned (patched-well d old.patches new.patches patched) posted
        (λ still. steps-unfailed d e o g.handler before after old.patches new.patches turned.states patched.states turned.steps patched.steps)
        (λ still. steps-unspent d old.patches new.patches patched.states patched.steps unspent)
        (λ some. let both : false ≡ true = sym none ∙ some in absurd (cc))
    by-patcher worn posted (inl (isnt, turned)) (inr (is, patched)) =
        let some : has_fallen new.faults ≡ true = ap (λ (b : Bool). b || is_disk new.faults.patcher) isnt ∙ is in
        played-well worn turned (patched-badly d old.patches new.patches patched) posted
        (λ none. let both : true ≡ false = sym some ∙ none in absurd (cc))
        (λ none. let both : true ≡ false = sym some ∙ none in absurd (cc))
        (λ fell. record {
          mid = disks_apart new.turns.side patched.mid.side;
          before = steps-unfailed d e o g.handler before after old.patches patched.mid turned.states patched.well.states turned.steps patched.well.steps;
          last = inl (fault-fell d new.turns patched.mid new.patches patched.last);
        })
    by-patcher worn posted (inr (is, turned)) (inl (well, patched)) =
        played-badly worn (ap (λ (b : Bool). b || is_disk new.faults.patcher) is) turned (patched-well d old.patches new.patches patched) posted
        (λ one. record {
          mid = disks_apart turned.mid.worker.side new.patches.side;
          before = steps-unfailed d e o g.handler before turned.mid old.patches new.patches turned.well.states patched.states turned.well.steps patched.steps;
          last = inl one;
        })
    by-patcher worn posted (inr (is, turned)) (inr (also, patched)) =
        played-badly worn (ap (λ (b : Bool). b || is_disk new.faults.patcher) is) turned (patched-badly d old.patches new.patches patched) posted
        (λ one. record {
          mid = disks_apart turned.mid.worker.side patched.mid.side;
          before = steps-unfailed d e o g.handler before turned.mid old.patches patched.mid turned.well.states patched.well.states turned.well.steps patched.well.steps;
          last = inr (record {
            between = disks_apart turned.mid.worker.side new.patches.side;
            first = fault-fell d turned.mid.worker patched.mid new.patches patched.last;
            second = one;
          });
        })

    pub crew-played : Played
    crew-played =
        let turned = handler-ends d e o g.handler new.faults.handler before after had.handler ran.handler in
        let patched = patcher-ends d new.faults.patcher old.patches new.patches had.patcher ran.patcher in
        ⊎_elim
        (λ (well : (new.faults.externaliser ≡ None) × Sent e u sends sent).
        by-patcher (λ out. let both : None ≡ Some Outlet = sym well.0 ∙ out in absurd (cc)) well.1 turned patched)
        (λ (badly : (new.faults.externaliser ≡ Some Outlet) × SentBadly e u sends sent).
        by-patcher (λ out. worn-at badly.1) (sent-badly e u sends sent badly.1) turned patched)
        (sender-ends e u new.faults.externaliser sends sent had.externaliser ran.externaliser)
