-- What a round leaves of what a run keeps account of, of a node that stayed up or went down.
use Rattle.std.proofs.Common.{◌≡◌, ◌∙◌, ℕ, suc, ◌+◌, ◌-◌, ◌^◌, ◌<◌, ◌≤◌, min, inl, inr, ⊎_elim, ◌⊎◌, List, [], ◌∷◌, ◌++◌, length, Bool, true, false, Some, slice_get, refl, sym, ap, subst, arith, add-zero, append-nil, append_assoc, length-append}
use Rattle.std.proofs.lemmas.List.{map-append}
use Rattle.ken_disk.specs.declared.disk.Disk as disk
use Rattle.ken_disk.specs.Fates.{Fate, Origin}
use Rattle.ken_app.specs.declared.oracle.Oracle as oracle
use Rattle.ken_model.specs.declared.messages.Out.{Out}
use Rattle.ken_model.specs.declared.reports.Emission.{Emission}
use Rattle.ken_model.specs.Game.{Game}
use Rattle.ken_model.specs.Handler.{Handler}
use Rattle.ken_model.specs.History.{place_of}
use Rattle.ken_model.specs.Network.{Turn, outputs_from}
use Rattle.ken_net.specs.declared.net.Net as net
use Rattle.ken_record.specs.declared.effects.Effects.{Effects}
use Rattle.ken_core.specs.Calls.{Doubt, no_doubt, seal, turnover}
use Rattle.ken_core.specs.Clusters.{emissions_by}
use Rattle.ken_core.specs.Nodes.{Node}
use Rattle.ken_core.specs.Turns.{outs_of, sealed}
use Rattle.ken_core.proofs.Made.{run_keeps_turns, run_turns}
use Rattle.ken_core.proofs.Numbers.{IsPlace-sealed, output_at}
use Rattle.ken_store.specs.declared.disks.Disks.{Disks}
use Rattle.ken_store.specs.Apart.{disks_apart}
use Rattle.ken_store.specs.Creations.{HasFailed, IsUnfailed}
use Rattle.ken_ship.specs.declared.outlet.Outlet as outlet
use Rattle.ken_ship.specs.declared.worker.SendWorker.{SendWorker}
use Rattle.ken_work.specs.declared.patcher.PatchWorker.{PatchWorker}
use Rattle.ken_work.specs.declared.worker.TurnWorker.{TurnWorker}
use Rattle.ken_node.specs.declared.watched.Watched.{Watched}
use Rattle.ken_node.specs.Down.{IsDown}
use Rattle.ken_node.specs.Restarts.{AreUnfailed, OneHasFailed}
use Rattle.ken_node.specs.Stages.{HasDisks, emissions_in, turns_in}
use Rattle.ken_node.specs.Synced.{IsSynced, LeavesSynced}
use Rattle.ken_node.specs.Up.{IsUp}
use Rattle.ken_beside.specs.Accounts.{DrewEach, no_turn, one_turn}
use Rattle.ken_beside.specs.Calm.{EmitsInOrder}
use Rattle.ken_beside.proofs.Calm.{calm_emits_in_order}
use Rattle.ken_threads.specs.declared.crew.Crew.{Crew}
use Rattle.ken_run.specs.declared.station.Station.{Station}
use Rattle.ken_run.specs.Accounts.{AreFated, AreOwnDisks, AreRaised, HasDrawn, HaveFallen, IsAccounted, IsHeld, TellsAll, Terms, draws_of, doubted, emitted_through, faults_of, numbers_of}
use Rattle.ken_run.specs.Sequences.{descents}
use Rattle.ken_run.proofs.AccountsCalls.{accounted-still, books-still, draws-push, drew-more, drew-on, failed-sum, tells-more, tells-still, unfailed-sum, up-emitted, up-turns}
use Rattle.ken_run.proofs.AccountsFates.{failed-fated, failed-tell, own-one-failed, own-unfailed, told-before, unfailed-fated}
use Rattle.ken_run.proofs.AccountsLists.{descents-front, descents-next}
use Rattle.ken_rounds.specs.Crews.{AnsweredLast, CrewPlayed, HaveFailed, TwoHaveFailed}
use Rattle.ken_rounds.specs.Faults.{has_fallen}
use Rattle.ken_rounds.specs.Manned.{CameBack, IsMannedBy}

-- ---- what it emitted

-- outputs whose numbers go on one by one rise, and so does the number after them
descents-rising : (v from : ℕ) (outs : List Out) → ((k : ℕ) (x : Out) → k < length outs → slice_get outs k ≡ Some x → x.number ≡ from + k + 1)
    → (before : ℕ) (xs : List ℕ) → descents before ((xs ++ numbers_of (emissions_by v outs)) ++ (from + length outs + 1) ∷ []) ≡ descents before (xs ++ (from + 1) ∷ [])
descents-rising v from [] are before xs = ap (λ (ns : List ℕ). descents before (ns ++ (from + 0 + 1) ∷ [])) (append-nil xs) ∙ ap (λ k. descents before (xs ++ (k + 1) ∷ [])) (add-zero from)
descents-rising v from (x ∷ outs) are before xs =
    let later : List ℕ = numbers_of (emissions_by v outs) in
    let first = are 0 x (omega arith) refl in let number : x.number ≡ from + 1 = omega (arith, first) in
    let parts : xs ++ x.number ∷ later ≡ (xs ++ (from + 1) ∷ []) ++ later = ap (λ k. xs ++ k ∷ later) number ∙ sym (append_assoc xs ((from + 1) ∷ []) later) in
    let last : from + length (x ∷ outs) + 1 ≡ from + 1 + length outs + 1 = omega arith in
    ap (λ (ns : List ℕ). descents before (ns ++ (from + length (x ∷ outs) + 1) ∷ [])) parts
    ∙ ap (λ k. descents before (((xs ++ (from + 1) ∷ []) ++ later) ++ k ∷ [])) last
    ∙ descents-rising v (from + 1) outs (λ k y low at. let one = are (suc k) y (omega (arith, low)) at in omega (arith, one)) before (xs ++ (from + 1) ∷ [])
    ∙ descents-next before xs (from + 1)

-- ---- what it drew

module _ {O : Type 0} (o : oracle.Ghosts O) (h : Handler) where
  -- turn by turn
  drawn-each : (x y : O) (turns ts : List Effects) → DrewEach o.telling.clocks o.telling.words h x turns y → HasDrawn o.telling h x (draws_of ts) → HasDrawn o.telling h y (draws_of (ts ++ turns))
  drawn-each _ y _ ts no_turn was = subst (λ (es : List Effects). HasDrawn o.telling h y (draws_of es)) (sym (append-nil ts)) was
  drawn-each x y _ ts (one_turn {b = mid} {turn = turn} {turns = turns} drew clocks words rest) was =
      let now : HasDrawn o.telling h mid (draws_of (ts ++ turn ∷ [])) = subst (HasDrawn o.telling h mid) (sym (draws-push ts turn)) (drew-more o.telling h x mid (draws_of ts) was turn.draws drew.0 drew.1) in
      subst (λ (es : List Effects). HasDrawn o.telling h y (draws_of es)) (append_assoc ts (turn ∷ []) turns) (drawn-each mid y turns (ts ++ turn ∷ []) rest now)

  tells-each : (scripted : Bool) (begun : ℕ) (x y : O) (turns : List Effects) → DrewEach o.telling.clocks o.telling.words h x turns y → TellsAll scripted o.telling x begun → TellsAll scripted o.telling y (begun + length turns)
  tells-each scripted begun _ y _ no_turn was = tells-still scripted o.telling y begun was y (begun + 0) refl (omega arith)
  tells-each scripted begun x y _ (one_turn {b = mid} {turn = turn} {turns = turns} drew clocks words rest) was =
      let last : begun + 1 + length turns ≡ begun + length (turn ∷ turns) = omega arith in
      subst (TellsAll scripted o.telling y) last (tells-each scripted (begun + 1) mid y turns rest (tells-more scripted o.telling x begun was mid clocks words))

  -- and the turn in doubt, where there is one
  abbrev DrewLast : O → O → Doubt → Type 0
  DrewLast x y doubt = ((y ≡ x) × (doubt ≡ no_doubt)) ⊎ AnsweredLast o h x y doubt

  drawn-last : (x y : O) (draws : List (List ℕ)) (doubt : Doubt) → DrewLast x y doubt → HasDrawn o.telling h x draws → HasDrawn o.telling h y (draws ++ doubted doubt)
  drawn-last x y draws doubt (inl same) was =
      let none : draws ++ doubted doubt ≡ draws = ap (λ (z : Doubt). draws ++ doubted z) same.1 ∙ append-nil draws in
      subst (HasDrawn o.telling h y) (sym none) (subst (λ (z : O). HasDrawn o.telling h z draws) (sym same.0) was)
  drawn-last x y draws no_doubt (inr is) was = subst (HasDrawn o.telling h y) (sym (append-nil draws)) (drew-on o.telling h x y draws was is.clocks is.words)
  drawn-last x y draws (turnover told) (inr is) was = subst (HasDrawn o.telling h y) (sym (append-nil draws)) (drew-on o.telling h x y draws was is.clocks is.words)
  drawn-last x y draws (seal from ds pages) (inr is) was = drew-more o.telling h x y draws was ds is.drew.0 is.drew.1

  tells-last : (scripted : Bool) (begun : ℕ) (x y : O) (doubt : Doubt) → DrewLast x y doubt → TellsAll scripted o.telling x begun → TellsAll scripted o.telling y (begun + 1)
  tells-last scripted begun x y doubt (inl same) was = tells-still scripted o.telling x begun was y (begun + 1) same.0 (omega arith)
  tells-last scripted begun x y doubt (inr is) was = tells-more scripted o.telling x begun was y is.clocks is.words

-- ---- a disk failed, or two did

module _ {D : Type 0} (d : disk.Ghosts D) where
  -- what a disk tells after a call it told before, with as many falls ahead or more
  abbrev Falls : D → D → Type 0
  Falls old new = (x : Fate) → d.fate new ≡ Some x → (y : Fate) × ((d.fate old ≡ Some y) × (x.falls ≤ y.falls))

  falls-still : (old new : D) → IsUnfailed d.faults d.fate old new → Falls old new
  falls-still old new is x tells = (x, (sym is.falls ∙ tells, omega arith))

  falls-failed : (old new : D) → HasFailed d.faults d.fate old new → Falls old new
  falls-failed old new is x tells = let was = told-before _ (d.fate old) (d.fate new) x is.falls tells in let less = was.1.1.1 in (was.0, (was.1.0, omega (arith, less)))

  one-falls : (a b : Disks D) → OneHasFailed d.told d.faults d.fate a b → Falls a.log b.log × Falls a.image b.image × Falls a.second b.second
  one-falls a b (inl f) = (falls-failed a.log b.log f.0, falls-still a.image b.image f.1, falls-still a.second b.second f.2)
  one-falls a b (inr (inl f)) = (falls-still a.log b.log f.0, falls-failed a.image b.image f.1, falls-still a.second b.second f.2)
  one-falls a b (inr (inr f)) = (falls-still a.log b.log f.0, falls-still a.image b.image f.1, falls-failed a.second b.second f.2)

  -- so falls that were met are met still
  fallen-still : (scripted : Bool) (cuts often : ℕ) (a b : Disks D) → OneHasFailed d.told d.faults d.fate a b → AreFated d.fate scripted (HaveFallen cuts often) a → AreFated d.fate scripted (HaveFallen cuts often) b
  fallen-still scripted cuts often a b failed was = record {
    tell = λ tells. failed-tell d.told d.faults d.fate scripted a b failed (was.tell tells);
    falls = λ l i s x y z.
        let each = one-falls a b failed in
        let log = each.0 l x in let image = each.1 i y in let second = each.2 s z in
        let most = was.falls log.0 image.0 second.0 log.1.0 image.1.0 second.1.0 in
        let fewer = log.1.1 in let fewer2 = image.1.1 in let fewer3 = second.1.1 in
        omega (arith, most, fewer, fewer2, fewer3);
  }

  module _ (old new : Disks D) (failed : HaveFailed d old new) where
    -- what a first failure makes of P, and a second one keeps
    after-failed : (P Q : Disks D → Type 0) → ((a b : Disks D) → AreUnfailed d.told d.faults d.fate a b → P a → P b) → ((a b : Disks D) → OneHasFailed d.told d.faults d.fate a b → P a → Q b)
        → ((a b : Disks D) → OneHasFailed d.told d.faults d.fate a b → Q a → Q b) → P old → Q new
    after-failed P Q still first second was =
        let mid : P failed.mid = still old failed.mid failed.before was in ⊎_elim
        (λ (one : OneHasFailed d.told d.faults d.fate failed.mid new). first failed.mid new one mid)
        (λ (two : TwoHaveFailed d failed.mid new). second two.between new two.second (first failed.mid two.between two.first mid))
        failed.last

    own-failed : (scripted : Bool) (origins : ℕ → Origin) (often : ℕ) → AreOwnDisks d.fate scripted origins often old → AreOwnDisks d.fate scripted origins often new
    own-failed scripted origins often =
        let one = own-one-failed d.told d.faults d.fate scripted origins often in after-failed (AreOwnDisks d.fate scripted origins often) (AreOwnDisks d.fate scripted origins often) (own-unfailed d.told d.faults d.fate scripted origins often) one one

    counts-failed : (often : ℕ) → min often (2 ^ 64 - 1) ≤ faults_of d.faults old → min (often + 1) (2 ^ 64 - 1) ≤ faults_of d.faults new
    counts-failed often = after-failed (λ (x : Disks D). min often (2 ^ 64 - 1) ≤ faults_of d.faults x) (λ (x : Disks D). min (often + 1) (2 ^ 64 - 1) ≤ faults_of d.faults x)
        (λ a b is was. let same = unfailed-sum d.told d.faults d.fate a b is in omega (arith, same, was))
        (λ a b is was. failed-sum d.told d.faults d.fate often a b is was)
        (λ a b is was. let more = failed-sum d.told d.faults d.fate (often + 1) a b is was in omega (arith, more))

    fates-failed : (scripted : Bool) (cuts often : ℕ) → AreFated d.fate scripted (AreRaised cuts often) old → AreFated d.fate scripted (HaveFallen cuts (often + 1)) new
    fates-failed scripted cuts often = after-failed (AreFated d.fate scripted (AreRaised cuts often)) (AreFated d.fate scripted (HaveFallen cuts (often + 1)))
        (unfailed-fated d.told d.faults d.fate scripted (AreRaised cuts often)) (failed-fated d.told d.faults d.fate scripted cuts often) (fallen-still scripted cuts (often + 1))

-- ---- a node of a round

module _ {D N O U : Type 0} (d : disk.Ghosts (Watched D)) (e : net.Ghosts N) (o : oracle.Ghosts O) (u : outlet.Ghosts U) (terms : Terms) (g : Game) (v : ℕ) (n : Node)
    (old new : Crew (Watched D) O U) (acks acks2 mail mail2 : N) (t : TurnWorker (Watched D)) (p : PatchWorker (Watched D)) (s : SendWorker) (a b : Station D O U)
    (played : CrewPlayed d e o u g v n old new acks acks2 mail mail2 t p s) (manned : IsMannedBy old a) (back : CameBack new t p s a b) (up : IsUp d.told d.size g v n a.node.stage) where
  -- its disks before and after
  abbrev lent : Disks (Watched D)
  lent = disks_apart old.turns.side old.patches.side

  abbrev returned : Disks (Watched D)
  returned = disks_apart t.side p.side

  has : HasDisks lent a.node.stage
  has = subst (HasDisks lent) (sym manned.stage) refl

  are-returned : (x : Disks (Watched D)) → HasDisks x b.node.stage → x ≡ returned
  are-returned x h = subst (HasDisks x) back.stage h

  synced : IsSynced d.told d.faults g v a.node.stage → IsSynced d.told d.faults g v b.node.stage
  synced was x h = subst (LeavesSynced d.told d.faults g v) (sym (are-returned x h)) (played.synced (was lent has))

  -- its turns, and what it drew for them
  turned : turns_in b.node.stage ≡ played.after.turning.turns → turns_in b.node.stage ≡ turns_in a.node.stage ++ played.turns
  turned is = is ∙ played.sealed ∙ ap (λ (es : List Effects). es ++ played.turns) (sym (up-turns d.told d.size g v n a.node.stage up))

  drew : DrewEach o.telling.clocks o.telling.words g.handler a.luck played.turns played.middle
  drew = subst (λ (x : O). DrewEach o.telling.clocks o.telling.words g.handler x played.turns played.middle) (sym manned.luck) played.drew

  drawn : turns_in b.node.stage ≡ turns_in a.node.stage ++ played.turns → HasDrawn o.telling g.handler a.luck (draws_of (turns_in a.node.stage)) → HasDrawn o.telling g.handler played.middle (draws_of (turns_in b.node.stage))
  drawn is was = subst (λ (es : List Effects). HasDrawn o.telling g.handler played.middle (draws_of es)) (sym is) (drawn-each o g.handler a.luck played.middle played.turns (turns_in a.node.stage) drew was)

  origin : o.telling.origin b.luck ≡ o.telling.origin a.luck
  origin = ap o.telling.origin back.luck ∙ played.origin ∙ sym (ap o.telling.origin manned.luck)

  -- what it emitted
  emits : EmitsInOrder n played.out played.after
  emits = calm_emits_in_order _ g v n played.events played.out played.after played.run played.calm

  numbered : (k : ℕ) (x : Out) → k < length played.out.outs → slice_get played.out.outs k ≡ Some x → x.number ≡ n.sending.emitted + k + 1
  numbered k x low at =
      let due = up.whole.workers.sends.due in
      let ts : List Turn = due.own ++ run_turns g _ v n played.events played.out played.after played.run in
      let turns : played.after.turning.turns ≡ sealed v ts = run_keeps_turns g _ v due.own n played.events played.out played.after played.run due.turns in
      let outs : outs_of played.after.turning.turns ≡ outputs_from 0 (place_of g ts).outs = ap (λ (es : List Effects). outs_of es) turns ∙ (IsPlace-sealed g v ts).outs in
      let there : slice_get (outputs_from 0 (place_of g ts).outs) (n.sending.emitted + k) ≡ Some x = ap (λ (os : List Out). slice_get os (n.sending.emitted + k)) (sym outs) ∙ emits.outs k low ∙ at in
      let number = (output_at 0 (place_of g ts).outs (n.sending.emitted + k) x there).number in omega (arith, number)

  -- no more of it again
  again : (next : ℕ) → next ≡ n.sending.emitted + length played.out.outs → descents 0 (numbers_of (emissions_in b.node.stage) ++ (next + 1) ∷ []) ≡ descents 0 (numbers_of (emissions_in a.node.stage) ++ (emitted_through a.node.stage + 1) ∷ [])
  again next is =
      let was : List Emission = emissions_in a.node.stage in let more : List Emission = emissions_by v played.out.outs in
      let numbers : numbers_of (emissions_in b.node.stage) ≡ numbers_of was ++ numbers_of more =
      ap (λ (es : List Emission). numbers_of es) (ap emissions_in back.stage ∙ played.emissions ∙ ap (λ (es : List Emission). es ++ more) (sym (ap emissions_in manned.stage))) ∙ map-append (λ (x : Emission). x.out.number) was more in
      ap (λ k. descents 0 (numbers_of (emissions_in b.node.stage) ++ (k + 1) ∷ [])) is
      ∙ ap (λ (ns : List ℕ). descents 0 (ns ++ (n.sending.emitted + length played.out.outs + 1) ∷ [])) numbers
      ∙ descents-rising v n.sending.emitted played.out.outs numbered 0 (numbers_of was)
      ∙ ap (λ k. descents 0 (numbers_of was ++ (k + 1) ∷ [])) (sym (up-emitted d.told d.size g v n a.node.stage up))

  -- where no disk failed it is up
  pub accounted : has_fallen new.faults ≡ false → IsAccounted d.told d.faults d.fate o.telling terms g v a → IsAccounted d.told d.faults d.fate o.telling terms g v b
  accounted none was =
      let stayed = played.up none in
      let up2 : IsUp d.told d.size g v played.after b.node.stage = subst (IsUp d.told d.size g v played.after) (sym back.stage) stayed.up in
      let turns = turned (up-turns d.told d.size g v played.after b.node.stage up2) in
      let long : length (turns_in b.node.stage) ≡ length (turns_in a.node.stage) + length played.turns = ap (λ (es : List Effects). length es) turns ∙ length-append (turns_in a.node.stage) played.turns in
      let tries = back.restarts in let begun : ℕ = length (turns_in a.node.stage) + a.restarts in
      let luck : b.luck ≡ played.middle = back.luck ∙ stayed.undrawn in
      let fewer = again (emitted_through b.node.stage) (up-emitted d.told d.size g v played.after b.node.stage up2 ∙ emits.emitted) in
      accounted-still d.told d.faults d.fate o.telling terms g v a b (synced was.books.synced) origin (ap (λ ls. ls.items) back.lines) tries (omega (arith, long)) (lent, has) was
      (subst (λ (x : O). HasDrawn o.telling g.handler x (draws_of (turns_in b.node.stage))) (sym luck) (drawn turns was.drew))
      (tells-still terms.scripted o.telling played.middle (begun + length played.turns) (tells-each o g.handler terms.scripted begun a.luck played.middle played.turns drew was.tells)
      b.luck (length (turns_in b.node.stage) + b.restarts) luck (omega (arith, long, tries)))
      (λ x y h h2. subst (λ (z : Disks (Watched D)). AreUnfailed d.told d.faults d.fate z y) (sym (subst (HasDisks x) manned.stage h)) (subst (AreUnfailed d.told d.faults d.fate lent) (sym (are-returned y h2)) stayed.unfailed))
      (omega (arith, fewer))

  -- and where one did it is down
  pub held : has_fallen new.faults ≡ true → IsAccounted d.told d.faults d.fate o.telling terms g v a → IsHeld d.told d.faults d.fate o.telling terms g v b
  held fell was =
      let went = played.down fell in
      let down : IsDown d.told g v went.last played.after went.doubt b.node.stage = subst (IsDown d.told g v went.last played.after went.doubt) (sym back.stage) went.down in
      let turns = turned down.turns in
      let long : length (turns_in b.node.stage) ≡ length (turns_in a.node.stage) + length played.turns = ap (λ (es : List Effects). length es) turns ∙ length-append (turns_in a.node.stage) played.turns in
      let tries = back.restarts in let begun : ℕ = length (turns_in a.node.stage) + a.restarts in
      record {
        books = books-still d.told d.faults d.fate o.telling terms g v a b (synced was.books.synced) origin (ap (λ ls. ls.items) back.lines) tries (omega (arith, long))
            (λ x h. subst (AreOwnDisks d.fate terms.scripted (terms.origins v) a.restarts) (sym (are-returned x h)) (own-failed d lent returned went.failed terms.scripted (terms.origins v) a.restarts (was.books.own lent has))) was.books;
        given = went.last;
        stood_for = played.after;
        doubt = went.doubt;
        down = down;
        drew = subst (λ (x : O). HasDrawn o.telling g.handler x (draws_of (turns_in b.node.stage) ++ doubted went.doubt)) (sym back.luck)
            (drawn-last o g.handler played.middle new.oracle (draws_of (turns_in b.node.stage)) went.doubt went.drew (drawn turns was.drew));
        tells = tells-still terms.scripted o.telling new.oracle (begun + length played.turns + 1)
            (tells-last o g.handler terms.scripted (begun + length played.turns) played.middle new.oracle went.doubt went.drew (tells-each o g.handler terms.scripted begun a.luck played.middle played.turns drew was.tells))
            b.luck (length (turns_in b.node.stage) + b.restarts + 1) back.luck (omega (arith, long, tries));
        causes = λ x h.
            let counted = counts-failed d lent returned went.failed a.restarts (was.causes lent has) in
            let same : faults_of d.faults x ≡ faults_of d.faults returned = ap (λ (y : Disks (Watched D)). faults_of d.faults y) (are-returned x h) in
            omega (arith, counted, same, tries);
        fates = λ x h. subst (AreFated d.fate terms.scripted (HaveFallen (terms.cuts v) (b.restarts + 1))) (sym (are-returned x h))
            (subst (λ (k : ℕ). AreFated d.fate terms.scripted (HaveFallen (terms.cuts v) (k + 1)) returned) (sym tries) (fates-failed d lent returned went.failed terms.scripted (terms.cuts v) a.restarts (was.fates lent has)));
        again =
            let bound = was.again in let same = again (n.sending.emitted + length played.out.outs) refl in
            let front = descents-front 0 (numbers_of (emissions_in b.node.stage)) (n.sending.emitted + length played.out.outs + 1) in
            let size = ap (λ ls. length ls.items) back.lines in
            omega (arith, bound, front, same, size);
      }
