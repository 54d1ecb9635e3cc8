-- What each call of a node leaves of what a run keeps account of.
use Rattle.std.proofs.Common.{◌≡◌, ◌≢◌, ◌∙◌, ℕ, ◌+◌, ◌-◌, ◌^◌, ◌<◌, ◌≤◌, min, inl, inr, ⊎_elim, ◌⊎◌, List, [], ◌∷◌, ◌++◌, length, Bool, true, false, Option, Some, None, Result, Ok, Err, slice_get, slice_index_or, slice_set, refl, sym, ap, subst, arith, append-nil, length-append}
use Rattle.std.specs.Prelude.{◌*◌, IfOk, IfSome}
use Rattle.std.specs.List.{AllByRecursion, Contains, flat_map}
use Rattle.std.proofs.lemmas.Bool.{cases_eq}
use Rattle.std.proofs.lemmas.List.{flat_map_more, get_or-set_other, get_or-set_same, length_push, map-append}
use Rattle.ken_disk.specs.Fates.{Fate}
use Rattle.ken_disk.specs.Story.{Story}
use Rattle.ken_model.specs.declared.messages.Out.{Out}
use Rattle.ken_model.specs.declared.reports.Emission.{Emission}
use Rattle.ken_model.specs.Game.{Game}
use Rattle.ken_model.specs.Handler.{Handler}
use Rattle.ken_model.specs.History.{place_of}
use Rattle.ken_model.specs.Network.{outputs_from}
use Rattle.ken_model.specs.Network as net
use Rattle.ken_model.specs.Restarts.{NeverFall}
use Rattle.ken_record.specs.declared.effects.Effects.{Effects}
use Rattle.ken_app.specs.Oracles.{Answers, HasAnswered, Telling}
use Rattle.ken_net.specs.Puts.{Put}
use Rattle.ken_core.specs.declared.events.Event.{Event}
use Rattle.ken_core.specs.declared.events.Event.TheVariants.{Emit}
use Rattle.ken_core.specs.Calls.{Doubt, no_doubt, seal, turnover}
use Rattle.ken_core.specs.Nodes.{Node}
use Rattle.ken_core.specs.Packets.{Packet, Outgoing, due, nothing}
use Rattle.ken_core.specs.Runs.{NodeRun}
use Rattle.ken_core.specs.Steps.{emitted_node}
use Rattle.ken_core.specs.Turns.{outs_of}
use Rattle.ken_core.proofs.Numbers.{IsPlace-sealed, output_at}
use Rattle.ken_store.specs.declared.disks.Disks.{Disks}
use Rattle.ken_store.specs.Apart.{disks_apart}
use Rattle.ken_ship.specs.declared.faults.NodeFault.{NodeFault}
use Rattle.ken_ship.specs.declared.faults.NodeFault.TheVariants.{Disk, Damaged, Outlet, Memory}
use Rattle.ken_ship.specs.declared.emit.Emit as emits
use Rattle.ken_ship.specs.declared.emit.Emit.TheVariants.{Done, Refused, Nothing}
use Rattle.ken_ship.specs.declared.items.Sealed.{Sealed}
use Rattle.ken_ship.specs.Handing.{with_turns}
use Rattle.ken_ship.specs.Laws.{IsDueOf, packets_from}
use Rattle.ken_ship.specs.Parts.{part_of}
use Rattle.ken_node.specs.declared.stage.Stage.{Stage}
use Rattle.ken_work.specs.declared.took.Took.{Took}
use Rattle.ken_work.specs.declared.took.Took.TheVariants.{Turn, Idle, Capped}
use Rattle.ken_node.specs.declared.watched.Watched.{Watched}
use Rattle.ken_work.specs.declared.worker.TurnWorker.{TurnWorker}
use Rattle.ken_node.specs.Down.{IsDown}
use Rattle.ken_node.specs.NodeCalls.{DisksFailBy, EmitSteps, EmitStepsBy, EmitsNone, GoesNoFurther, HearSteps, PatchStepsBy, SendSteps, SettleStepsBy, UnlessMemory}
use Rattle.ken_node.specs.NodeTurns.{SealFails, TurnStepsBy, TurnoverFails}
use Rattle.ken_node.specs.Restarts.{AreUnfailed, OneHasFailed}
use Rattle.ken_work.specs.Sealing.{is_full}
use Rattle.ken_node.specs.Stages.{HasDisks, emissions_in, turns_in}
use Rattle.ken_node.specs.Synced.{IsSynced}
use Rattle.ken_node.specs.Up.{IsUp}
use Rattle.ken_flow.specs.Groups.{group_of}
use Rattle.ken_flow.proofs.Flows.{given_are_known}
use Rattle.ken_run.specs.declared.run.Run.{Run}
use Rattle.ken_run.specs.declared.station.Station.{Station}
use Rattle.ken_run.specs.Accounts.{AccountsBy, AreAccounted, AreRaised, HasBooks, HasDrawn, HasFailedOften, HasFates, HasNotFailed, HasOwnDisks, HaveFallen, IsAccounted, IsHeld, OneIsHeld, TellsAll, TellsAtMost, Terms, draws_of, doubted, emitted_through, faults_of, numbers_of}
use Rattle.ken_run.specs.Ends.{WereGiven}
use Rattle.ken_run.specs.Running.{IsRunning}
use Rattle.ken_run.specs.Sequences.{IsSubsequence, descents}
use Rattle.ken_app.specs.declared.turn.TheConstants.{MAX_DRAWS}
use Rattle.ken_run.specs.Devices.{IsTold}
use Rattle.ken_run.proofs.AccountsFates.{fates-failed, fates-still, own-after, own-still}
use Rattle.ken_run.proofs.AccountsLists.{descents-front, descents-next, never-more, sub-both, sub-more}
use Rattle.ken_run.proofs.AccountsRuns.{CountsNone, SealsNone, idle-counts-none, idle-seals-none, none-all, patch-counts-none, patch-seals-none, run-emitted, run-turns, sends-count-none, sends-seal-none, sync-counts-none, sync-seals-none, taken-count-none, taken-seal-none, turn-counts-none}
use Rattle.ken_run.proofs.Calls.{no-further}
use Rattle.ken_run.proofs.Fewer.{no-queue}

-- ---- what an oracle told

-- it told what one turn more drew
answered-more : (f : List ℕ → List ℕ) (draws : List (List ℕ)) (ds : List ℕ) (old new : Option (List ℕ)) → Answers old new (f ds) → IfSome old (IsSubsequence (flat_map f draws)) → IfSome new (IsSubsequence (flat_map f (draws ++ ds ∷ [])))
answered-more f draws ds (Some xs) (Some ys) answers sub =
    subst (IsSubsequence (flat_map f (draws ++ ds ∷ []))) (sym answers) (subst (λ (zs : List ℕ). IsSubsequence zs (xs ++ f ds)) (flat_map_more f [] draws ds) (sub-both (f ds) sub))
answered-more f draws ds (Some xs) None answers sub = tt
answered-more f draws ds None (Some ys) answers sub = absurd answers
answered-more f draws ds None None answers sub = tt

-- or what is lost
answered-on : (all : List ℕ) (old new : Option (List ℕ)) → HasAnswered old new → IfSome old (IsSubsequence all) → IfSome new (IsSubsequence all)
answered-on all (Some xs) (Some ys) h sub = subst (IsSubsequence all) (sym h.answers) (sub-more h.more sub)
answered-on all (Some xs) None h sub = tt
answered-on all None (Some ys) h sub = absurd h.answers
answered-on all None None h sub = tt

module _ {O : Type 0} (telling : Telling O) (h : Handler) (luck luck2 : O) (draws : List (List ℕ)) (drew : HasDrawn telling h luck draws) where
  pub drew-more : (ds : List ℕ) → Answers (telling.clocks luck) (telling.clocks luck2) (h.clocks ds) → Answers (telling.words luck) (telling.words luck2) (h.words ds) → HasDrawn telling h luck2 (draws ++ ds ∷ [])
  drew-more ds clocks words = record {
    clocks = answered-more h.clocks draws ds (telling.clocks luck) (telling.clocks luck2) clocks drew.clocks;
    words = answered-more h.words draws ds (telling.words luck) (telling.words luck2) words drew.words;
  }

  pub drew-on : HasAnswered (telling.clocks luck) (telling.clocks luck2) → HasAnswered (telling.words luck) (telling.words luck2) → HasDrawn telling h luck2 draws
  drew-on clocks words = record {
    clocks = answered-on (flat_map h.clocks draws) (telling.clocks luck) (telling.clocks luck2) clocks drew.clocks;
    words = answered-on (flat_map h.words draws) (telling.words luck) (telling.words luck2) words drew.words;
  }

pub draws-push : (ts : List Effects) (t : Effects) → draws_of (ts ++ t ∷ []) ≡ draws_of ts ++ t.draws ∷ []
draws-push ts t = map-append (λ (x : Effects). x.draws) ts (t ∷ [])

-- it tells all that it has answered, after a turn more

more-told : (most : ℕ) (old new : Option (List ℕ)) → HasAnswered old new → most + MAX_DRAWS < 2 ^ 64 - 1 → IsTold true old (λ xs. length xs ≤ most) → IsTold true new (λ xs. length xs ≤ most + MAX_DRAWS)
more-told most (Some xs) (Some ys) h room is =
    let long : length ys ≡ length xs + length h.more = ap (λ (zs : List ℕ). length zs) h.answers ∙ length-append xs h.more in
    let few = h.few in
    omega (arith, long, few, is)
more-told most (Some xs) None h room is = let full : 2 ^ 64 - 1 ≤ length xs + length h.more = h.answers in let few = h.few in absurd (omega (arith, full, few, is, room))
more-told most None new h room is = absurd is

wider : (most more : ℕ) (told : Option (List ℕ)) → most ≤ more → IsTold true told (λ xs. length xs ≤ most) → IsTold true told (λ xs. length xs ≤ more)
wider most more (Some xs) up is = omega (arith, is, up)
wider most more None up is = is

module _ {O : Type 0} (scripted : Bool) (telling : Telling O) (luck : O) (begun : ℕ) (all : TellsAll scripted telling luck begun) where
  pub tells-more : (luck2 : O) → HasAnswered (telling.clocks luck) (telling.clocks luck2) → HasAnswered (telling.words luck) (telling.words luck2) → TellsAll scripted telling luck2 (begun + 1)
  tells-more luck2 clocks words tells room =
      let was = all tells (omega (arith, room)) in
      let enough : MAX_DRAWS * begun + MAX_DRAWS < 2 ^ 64 - 1 = omega (arith, room) in
      let same : MAX_DRAWS * begun + MAX_DRAWS ≤ MAX_DRAWS * (begun + 1) = omega arith in
      record {
        clocks = wider (MAX_DRAWS * begun + MAX_DRAWS) (MAX_DRAWS * (begun + 1)) (telling.clocks luck2) same (more-told (MAX_DRAWS * begun) (telling.clocks luck) (telling.clocks luck2) clocks enough was.clocks);
        words = wider (MAX_DRAWS * begun + MAX_DRAWS) (MAX_DRAWS * (begun + 1)) (telling.words luck2) same (more-told (MAX_DRAWS * begun) (telling.words luck) (telling.words luck2) words enough was.words);
      }

  pub tells-still : (luck2 : O) (begun2 : ℕ) → luck2 ≡ luck → begun ≤ begun2 → TellsAll scripted telling luck2 begun2
  tells-still luck2 begun2 same up tells room =
      let was = all tells (omega (arith, room, up)) in
      let wide : MAX_DRAWS * begun ≤ MAX_DRAWS * begun2 = omega (arith, up) in
      subst (λ (o : O). TellsAtMost telling o (MAX_DRAWS * begun2)) (sym same)
      (record { clocks = wider (MAX_DRAWS * begun) (MAX_DRAWS * begun2) (telling.clocks luck) wide was.clocks; words = wider (MAX_DRAWS * begun) (MAX_DRAWS * begun2) (telling.words luck) wide was.words })

-- ---- what the disks of a node counted

module _ {D : Type 0} (told : D → Option Story) (count : D → ℕ) (fate : D → Option Fate) where
  pub unfailed-sum : (a b : Disks D) → AreUnfailed told count fate a b → faults_of count b ≡ faults_of count a
  unfailed-sum a b u = let l = u.log.count in let i = u.image.count in let s = u.second.count in omega (arith, l, i, s)

  pub failed-sum : (often : ℕ) (a b : Disks D) → OneHasFailed told count fate a b → min often (2 ^ 64 - 1) ≤ faults_of count a → min (often + 1) (2 ^ 64 - 1) ≤ faults_of count b
  failed-sum often a b (inl f) so = let l0 = f.0.count.0 in let l1 = f.0.count.1 in let i = f.1.count in let s = f.2.count in omega (arith, l0, l1, i, s, so)
  failed-sum often a b (inr (inl f)) so = let l = f.0.count in let i0 = f.1.count.0 in let i1 = f.1.count.1 in let s = f.2.count in omega (arith, l, i0, i1, s, so)
  failed-sum often a b (inr (inr f)) so = let l = f.0.count in let i = f.1.count in let s0 = f.2.count.0 in let s1 = f.2.count.1 in omega (arith, l, i, s0, s1, so)

-- the disks of a stage
abbrev pub HasSome : {D : Type 0} → Stage D → Type 0
HasSome {D} stage = (disks : Disks D) × HasDisks disks stage

-- no call of them failed
abbrev pub Unfailed : {D : Type 0} → (D → Option Story) → (D → ℕ) → (D → Option Fate) → Stage D → Stage D → Type 0
Unfailed {D} told count fate stage stage2 = (d d2 : Disks D) → HasDisks d stage → HasDisks d2 stage2 → AreUnfailed told count fate d d2

module _ {D : Type 0} (told : D → Option Story) (count : D → ℕ) (fate : D → Option Fate) (often : ℕ) (stage stage2 : Stage D) (has : HasSome stage) where
  pub often-still : Unfailed told count fate stage stage2 → HasFailedOften count often stage → HasFailedOften count often stage2
  often-still unfailed so = λ d2 h2. let same : faults_of count d2 ≡ faults_of count has.0 = unfailed-sum told count fate has.0 d2 (unfailed has.0 d2 has.1 h2) in let was : min often (2 ^ 64 - 1) ≤ faults_of count has.0 = so has.0 has.1 in omega (arith, same, was)

  pub none-still : Unfailed told count fate stage stage2 → HasNotFailed count stage → HasNotFailed count stage2
  none-still unfailed so = λ d2 h2. unfailed-sum told count fate has.0 d2 (unfailed has.0 d2 has.1 h2) ∙ so has.0 has.1

  -- one did
  pub often-more : ((d d2 : Disks D) → HasDisks d stage → HasDisks d2 stage2 → OneHasFailed told count fate d d2) → HasFailedOften count often stage → HasFailedOften count (often + 1) stage2
  often-more failed so = λ d2 h2. failed-sum told count fate often has.0 d2 (failed has.0 d2 has.1 h2) (so has.0 has.1)

-- ---- a node that is up

module _ {D : Type 0} (told : D → Option Story) (size : D → ℕ) (g : Game) (v : ℕ) (n : Node) (stage : Stage D) (up : IsUp told size g v n stage) where
  pub up-has : HasSome stage
  up-has = (disks_apart up.handler.side up.patcher.side, subst (HasDisks (disks_apart up.handler.side up.patcher.side)) (sym up.stage_is) refl)

  pub up-turns : turns_in stage ≡ n.turning.turns
  up-turns = ap turns_in up.stage_is ∙ up.whole.workers.turns.kept

  pub up-emitted : emitted_through stage ≡ n.sending.emitted
  up-emitted =
      let sends = up.whole.workers.sends in
      let none : sends.queue ≡ [] = no-queue sends.ring up.empty.sealed.all in
      let due : IsDueOf g v n (part_of up.sender).due = subst (λ (queue : List Sealed). IsDueOf g v n (with_turns v queue (part_of up.sender).due)) none sends.due in
      ap emitted_through up.stage_is ∙ due.emitted

-- the output that is due has the next number
due-number : {D : Type 0} (told : D → Option Story) (size : D → ℕ) (g : Game) (v : ℕ) (n : Node) (stage : Stage D) → IsUp told size g v n stage → (out : Out) → due n ≡ Some out → out.number ≡ n.sending.emitted + 1
due-number told size g v n stage up out was_due =
    let sent = up.whole.workers.sends.due in
    let ts : List net.Turn = sent.own in
    let outs : outs_of n.turning.turns ≡ outputs_from 0 (place_of g ts).outs = ap (λ (es : List Effects). outs_of es) sent.turns ∙ (IsPlace-sealed g v ts).outs in
    let at : slice_get (outputs_from 0 (place_of g ts).outs) n.sending.emitted ≡ Some out = ap (λ (os : List Out). slice_get os n.sending.emitted) (sym outs) ∙ was_due in
    let number = (output_at 0 (place_of g ts).outs n.sending.emitted out at).number in
    omega (arith, number)

-- ---- a station whose node was called

module _ {D O U : Type 0} (told : Watched D → Option Story) (count : Watched D → ℕ) (fate : Watched D → Option Fate) (telling : Telling O) (terms : Terms) (g : Game) (v : ℕ) (s s2 : Station D O U)
    (synced : IsSynced told count g v s2.node.stage) (origin : telling.origin s2.luck ≡ telling.origin s.luck) (lines : s2.lines.items ≡ s.lines.items) (tries : s2.restarts ≡ s.restarts)
    (longer : length (turns_in s.node.stage) ≤ length (turns_in s2.node.stage)) where
  pub books-still : HasOwnDisks fate terms.scripted (terms.origins v) s.restarts s2.node.stage → HasBooks told count fate telling terms g v s → HasBooks told count fate telling terms g v s2
  books-still own books = record {
    synced = synced;
    own = subst (λ (k : ℕ). HasOwnDisks fate terms.scripted (terms.origins v) k s2.node.stage) (sym tries) own;
    origin = subst (λ o. IsTold terms.scripted o (λ x. x ≡ record { node = v; seed = terms.seed })) (sym origin) books.origin;
    lines = subst (λ (ls : List ℕ). NeverFall 0 ls (length (turns_in s2.node.stage))) (sym lines) (never-more 0 s.lines.items (length (turns_in s.node.stage)) (length (turns_in s2.node.stage)) books.lines longer);
    few = let few = books.few in let long : length s2.lines.items ≡ length s.lines.items = ap length lines in omega (arith, few, long, tries);
    most = let most = books.most in omega (arith, most, tries);
  }

  module _ (has : HasSome s.node.stage) (was : IsAccounted told count fate telling terms g v s) where
    pub accounted-still : HasDrawn telling g.handler s2.luck (draws_of (turns_in s2.node.stage)) → TellsAll terms.scripted telling s2.luck (length (turns_in s2.node.stage) + s2.restarts) → Unfailed told count fate s.node.stage s2.node.stage
        → descents 0 (numbers_of (emissions_in s2.node.stage) ++ (emitted_through s2.node.stage + 1) ∷ []) ≤ descents 0 (numbers_of (emissions_in s.node.stage) ++ (emitted_through s.node.stage + 1) ∷ []) → IsAccounted told count fate telling terms g v s2
    accounted-still drew tells unfailed fewer = record {
      books = books-still (own-still told count fate terms.scripted s.node.stage s2.node.stage has.0 has.1 (terms.origins v) s.restarts was.books.own unfailed) was.books;
      drew = drew;
      tells = tells;
      causes = subst (λ (k : ℕ). HasFailedOften count k s2.node.stage) (sym tries) (often-still told count fate s.restarts s.node.stage s2.node.stage has unfailed was.causes);
      fates = subst (λ (k : ℕ). HasFates fate terms.scripted (AreRaised (terms.cuts v) k) s2.node.stage) (sym tries) (fates-still told count fate terms.scripted s.node.stage s2.node.stage has.0 has.1 (AreRaised (terms.cuts v) s.restarts) unfailed was.fates);
      calm = λ none. none-still told count fate s.restarts s.node.stage s2.node.stage has unfailed (was.calm (sym lines ∙ none));
      again = let again = was.again in let long : length s2.lines.items ≡ length s.lines.items = ap length lines in omega (arith, again, fewer, long);
    }

    pub held-after : (given : List Packet) (n : Node) (doubt : Doubt) → IsDown told g v given n doubt s2.node.stage → HasDrawn telling g.handler s2.luck (draws_of (turns_in s2.node.stage) ++ doubted doubt)
        → TellsAll terms.scripted telling s2.luck (length (turns_in s2.node.stage) + s2.restarts + 1) → ((d d2 : Disks (Watched D)) → HasDisks d s.node.stage → HasDisks d2 s2.node.stage → OneHasFailed told count fate d d2) → emissions_in s2.node.stage ≡ emissions_in s.node.stage → IsHeld told count fate telling terms g v s2
    held-after given n doubt down drew tells failed same = record {
      books = books-still (own-after told count fate terms.scripted s.node.stage s2.node.stage has.0 has.1 (terms.origins v) s.restarts was.books.own failed) was.books;
      given = given;
      stood_for = n;
      doubt = doubt;
      down = down;
      drew = drew;
      tells = tells;
      causes = subst (λ (k : ℕ). HasFailedOften count (k + 1) s2.node.stage) (sym tries) (often-more told count fate s.restarts s.node.stage s2.node.stage has failed was.causes);
      fates = subst (λ (k : ℕ). HasFates fate terms.scripted (HaveFallen (terms.cuts v) (k + 1)) s2.node.stage) (sym tries) (fates-failed told count fate terms.scripted s.node.stage s2.node.stage has.0 has.1 (terms.cuts v) s.restarts failed was.fates);
      again =
          let again = was.again in
          let front = descents-front 0 (numbers_of (emissions_in s.node.stage)) (emitted_through s.node.stage + 1) in
          let is : descents 0 (numbers_of (emissions_in s2.node.stage)) ≡ descents 0 (numbers_of (emissions_in s.node.stage)) = ap (λ (es : List Emission). descents 0 (numbers_of es)) same in
          let long : length s2.lines.items ≡ length s.lines.items = ap length lines in
          omega (arith, again, front, is, long);
    }

-- nothing was emitted, and the node knows as much to be
pub again-same : {D : Type 0} (a b : Stage D) → emissions_in b ≡ emissions_in a → emitted_through b ≡ emitted_through a
    → descents 0 (numbers_of (emissions_in b) ++ (emitted_through b + 1) ∷ []) ≤ descents 0 (numbers_of (emissions_in a) ++ (emitted_through a + 1) ∷ [])
again-same a b emissions emitted =
    let both : numbers_of (emissions_in b) ++ (emitted_through b + 1) ∷ [] ≡ numbers_of (emissions_in a) ++ (emitted_through a + 1) ∷ [] =
    ap (λ (es : List Emission). numbers_of es ++ (emitted_through b + 1) ∷ []) emissions ∙ ap (λ (k : ℕ). numbers_of (emissions_in a) ++ (k + 1) ∷ []) emitted in
    let is : descents 0 (numbers_of (emissions_in b) ++ (emitted_through b + 1) ∷ []) ≡ descents 0 (numbers_of (emissions_in a) ++ (emitted_through a + 1) ∷ []) = ap (λ (ns : List ℕ). descents 0 ns) both in
    omega (arith, is)

-- ---- a run of which one station changed

module _ {D O U A : Type 0} (told : Watched D → Option Story) (count : Watched D → ℕ) (fate : Watched D → Option Fate) (telling : Telling O) (terms : Terms) (g : Game) (made : ℕ) (r r2 : Run D O U A) (v : ℕ) (s2 : Station D O U)
    (width : length r.stations.items ≡ made) (low : v < made) (stations : r2.stations.items ≡ slice_set r.stations.items v s2) (most : r2.restarts ≡ terms.most)
    (others : (u : ℕ) (d : Station D O U) → u < made → u ≢ v → IsAccounted told count fate telling terms g u (slice_index_or r.stations.items u d)) where
  here : (d : Station D O U) → slice_index_or r2.stations.items v d ≡ s2
  here d = ap (λ xs. slice_index_or xs v d) stations ∙ get_or-set_same r.stations.items v s2 d (subst (λ (k : ℕ). v < k) (sym width) low)

  other : (u : ℕ) (d : Station D O U) → u ≢ v → slice_index_or r2.stations.items u d ≡ slice_index_or r.stations.items u d
  other u d ne = ap (λ xs. slice_index_or xs u d) stations ∙ get_or-set_other r.stations.items v u s2 d ne

  others-after : (u : ℕ) (d : Station D O U) → u < made → u ≢ v → IsAccounted told count fate telling terms g u (slice_index_or r2.stations.items u d)
  others-after u d below ne = subst (IsAccounted told count fate telling terms g u) (sym (other u d ne)) (others u d below ne)

  pub run-accounted : IsAccounted told count fate telling terms g v s2 → AreAccounted told count fate telling terms g made r2
  run-accounted is = record {
    most = most;
    each = λ u d below. ⊎_elim
        (λ (at : u ≡ v). subst (λ (x : ℕ). IsAccounted told count fate telling terms g x (slice_index_or r2.stations.items x d)) (sym at) (subst (IsAccounted told count fate telling terms g v) (sym (here d)) is))
        (λ ne. others-after u d below ne)
        (cases_eq u v);
  }

  pub run-held : IsHeld told count fate telling terms g v s2 → OneIsHeld told count fate telling terms g made v r2
  run-held is = record {
    most = most;
    held = λ d. subst (IsHeld told count fate telling terms g v) (sym (here d)) is;
    others = others-after;
  }

-- ---- each call

module _ {D O U A : Type 0} (told : Watched D → Option Story) (size : Watched D → ℕ) (count : Watched D → ℕ) (fate : Watched D → Option Fate) (telling : Telling O) (terms : Terms) (g : Game) (made : ℕ) (r r2 : Run D O U A) (v : ℕ) (s s2 : Station D O U)
    (n : Node) (up : IsUp told size g v n s.node.stage) (width : length r.stations.items ≡ made) (low : v < made) (is : slice_index_or r.stations.items v s ≡ s)
    (stations : r2.stations.items ≡ slice_set r.stations.items v s2) (kept : r2.restarts ≡ r.restarts) (accounted : AreAccounted told count fate telling terms g made r) where
  was : IsAccounted told count fate telling terms g v s
  was = subst (IsAccounted told count fate telling terms g v) is (accounted.each v s low)

  pub synced-before : IsSynced told count g v s.node.stage
  synced-before = was.books.synced

  has : HasSome s.node.stage
  has = up-has told size g v n s.node.stage up

  still-up : IsAccounted told count fate telling terms g v s2 → AreAccounted told count fate telling terms g made r2
  still-up = run-accounted told count fate telling terms g made r r2 v s2 width low stations (kept ∙ accounted.most) (λ u d below ne. accounted.each u d below)

  now-held : IsHeld told count fate telling terms g v s2 → OneIsHeld told count fate telling terms g made v r2
  now-held = run-held told count fate telling terms g made r r2 v s2 width low stations (kept ∙ accounted.most) (λ u d below ne. accounted.each u d below)

  module _ (luck-is : s2.luck ≡ s.luck) (lines : s2.lines.items ≡ s.lines.items) (tries : s2.restarts ≡ s.restarts) (synced : IsSynced told count g v s2.node.stage) where
    -- a call that seals nothing and after which the node is up
    pub calls-accounted : (after : Node) → IsUp told size g v after s2.node.stage → after.turning.turns ≡ n.turning.turns → Unfailed told count fate s.node.stage s2.node.stage
        → descents 0 (numbers_of (emissions_in s2.node.stage) ++ (emitted_through s2.node.stage + 1) ∷ []) ≤ descents 0 (numbers_of (emissions_in s.node.stage) ++ (emitted_through s.node.stage + 1) ∷ []) → AreAccounted told count fate telling terms g made r2
    calls-accounted after up2 same unfailed fewer =
        let turns : turns_in s2.node.stage ≡ turns_in s.node.stage = up-turns told size g v after s2.node.stage up2 ∙ same ∙ sym (up-turns told size g v n s.node.stage up) in
        let long : length (turns_in s2.node.stage) ≡ length (turns_in s.node.stage) = ap (λ (ts : List Effects). length ts) turns in
        still-up (accounted-still told count fate telling terms g v s s2 synced (ap telling.origin luck-is) lines tries (omega (arith, long)) has was
        (subst (λ (ts : List Effects). HasDrawn telling g.handler s2.luck (draws_of ts)) (sym turns) (subst (λ (o : O). HasDrawn telling g.handler o (draws_of (turns_in s.node.stage))) (sym luck-is) was.drew))
        (tells-still terms.scripted telling s.luck (length (turns_in s.node.stage) + s.restarts) was.tells s2.luck (length (turns_in s2.node.stage) + s2.restarts) luck-is (omega (arith, long, tries))) unfailed fewer)

    -- and emits nothing
    pub quiet-accounted : (put : Packet → Type 0) (es : List Event) (out : Outgoing) (after : Node) → NodeRun g put v n es out after → AllByRecursion SealsNone es → AllByRecursion CountsNone es → IsUp told size g v after s2.node.stage
        → Unfailed told count fate s.node.stage s2.node.stage → emissions_in s2.node.stage ≡ emissions_in s.node.stage → AreAccounted told count fate telling terms g made r2
    quiet-accounted put es out after run seals counts up2 unfailed emissions =
        calls-accounted after up2 (run-turns g put v n es out after seals run) unfailed
        (again-same s.node.stage s2.node.stage emissions (up-emitted told size g v after s2.node.stage up2 ∙ run-emitted g put v n es out after counts run ∙ sym (up-emitted told size g v n s.node.stage up)))

    -- one after which it is down
    pub calls-held : (put : Packet → Type 0) (es : List Event) (out : Outgoing) (given : List Packet) (after : Node) → NodeRun g put v n es out after → AllByRecursion SealsNone es → IsDown told g v given after no_doubt s2.node.stage
        → ((d d2 : Disks (Watched D)) → HasDisks d s.node.stage → HasDisks d2 s2.node.stage → OneHasFailed told count fate d d2) → emissions_in s2.node.stage ≡ emissions_in s.node.stage → OneIsHeld told count fate telling terms g made v r2
    calls-held put es out given after run seals down failed emissions =
        let turns : turns_in s2.node.stage ≡ turns_in s.node.stage = down.turns ∙ run-turns g put v n es out after seals run ∙ sym (up-turns told size g v n s.node.stage up) in
        let long : length (turns_in s2.node.stage) ≡ length (turns_in s.node.stage) = ap (λ (ts : List Effects). length ts) turns in
        now-held (held-after told count fate telling terms g v s s2 synced (ap telling.origin luck-is) lines tries (omega (arith, long)) has was given after no_doubt down
        (subst (λ (ds : List (List ℕ)). HasDrawn telling g.handler s2.luck ds) (sym (append-nil (draws_of (turns_in s2.node.stage)))) (subst (λ (ts : List Effects). HasDrawn telling g.handler s2.luck (draws_of ts)) (sym turns) (subst (λ (o : O). HasDrawn telling g.handler o (draws_of (turns_in s.node.stage))) (sym luck-is) was.drew)))
        (tells-still terms.scripted telling s.luck (length (turns_in s.node.stage) + s.restarts) was.tells s2.luck (length (turns_in s2.node.stage) + s2.restarts + 1) luck-is (omega (arith, long, tries))) failed emissions)

    -- ---- the patcher

    module _ (emissions : emissions_in s2.node.stage ≡ emissions_in s.node.stage) where
      pub patch-accounts : (result : Result Bool NodeFault) → PatchStepsBy told size result g v n s2.node.stage → ((d d2 : Disks (Watched D)) → HasDisks d s.node.stage → HasDisks d2 s2.node.stage → DisksFailBy told count fate result d d2) → AccountsBy told count fate telling terms g result made v r2
      patch-accounts (Ok true) p disks =
          quiet-accounted (Contains []) p.call.events nothing p.after p.call.run (patch-seals-none v p.call.events p.call.which) (patch-counts-none v p.call.events p.call.which) p.up disks emissions
      patch-accounts (Ok false) p disks =
          let steps = p.0 in
          quiet-accounted (Contains []) steps.call.events nothing steps.after steps.call.run (none-all SealsNone steps.call.events steps.call.which) (none-all CountsNone steps.call.events steps.call.which) steps.up disks emissions
      patch-accounts (Err Disk) p disks = calls-held (Contains []) p.call.events nothing [] p.after p.call.run (patch-seals-none v p.call.events p.call.which) p.down disks emissions
      patch-accounts (Err Memory) p disks = tt
      patch-accounts (Err Outlet) p disks = absurd p
      patch-accounts (Err (Damaged disk place)) p disks = absurd p

      pub settle-accounts : (result : Result (Unit {0}) NodeFault) → SettleStepsBy told size result g v n s2.node.stage → ((d d2 : Disks (Watched D)) → HasDisks d s.node.stage → HasDisks d2 s2.node.stage → DisksFailBy told count fate result d d2) → AccountsBy told count fate telling terms g result made v r2
      settle-accounts (Ok x) p disks =
          quiet-accounted (Contains []) p.call.events nothing p.after p.call.run (sync-seals-none v p.call.events p.call.which) (sync-counts-none v p.call.events p.call.which) p.up disks emissions
      settle-accounts (Err Disk) p disks = calls-held (Contains []) p.call.events nothing [] p.after p.call.run (none-all SealsNone p.call.events p.call.which) p.down disks emissions
      settle-accounts (Err Memory) p disks = tt
      settle-accounts (Err Outlet) p disks = absurd p
      settle-accounts (Err (Damaged disk place)) p disks = absurd p

    -- ---- the externaliser

    module _ (disks : (d d2 : Disks (Watched D)) → HasDisks d s.node.stage → HasDisks d2 s2.node.stage → d2 ≡ d) where
      untouched : Unfailed told count fate s.node.stage s2.node.stage
      untouched d d2 h h2 =
          let same = disks d d2 h h2 in
          record {
            log = record { count = ap (λ (x : Disks (Watched D)). count x.log) same; falls = ap (λ (x : Disks (Watched D)). fate x.log) same };
            image = record { count = ap (λ (x : Disks (Watched D)). count x.image) same; falls = ap (λ (x : Disks (Watched D)). fate x.image) same };
            second = record { count = ap (λ (x : Disks (Watched D)). count x.second) same; falls = ap (λ (x : Disks (Watched D)). fate x.second) same };
          }

      pub send-accounts : (put : List Put → Type 0) → SendSteps told size g v n put s2.node.stage → emissions_in s2.node.stage ≡ emissions_in s.node.stage → AreAccounted told count fate telling terms g made r2
      send-accounts put p emissions =
          let call = p.steps.call in
          quiet-accounted _ call.events p.out p.steps.after call.run (sends-seal-none g v n call.events call.which) (sends-count-none g v n call.events call.which) p.steps.up untouched emissions

      pub hear-accounts : (gave : List (List ℕ) → Type 0) (nones nones2 : ℕ) → (p : HearSteps told size g v n gave nones nones2 s2.node.stage) → AllByRecursion (GoesNoFurther v n) (packets_from g.nodes p.given) → emissions_in s2.node.stage ≡ emissions_in s.node.stage
          → AreAccounted told count fate telling terms g made r2
      hear-accounts gave nones nones2 p further emissions =
          let steps = p.steps further in
          quiet-accounted _ steps.call.events nothing steps.after steps.call.run (taken-seal-none v (packets_from g.nodes p.given) steps.call.events steps.call.which) (taken-count-none v (packets_from g.nodes p.given) steps.call.events steps.call.which) steps.up untouched emissions

      -- ---- an output

      nothing-accounts : (took : List Out → Type 0) → EmitsNone told size g v n took s.node.stage s2.node.stage → AreAccounted told count fate telling terms g made r2
      nothing-accounts took e =
          quiet-accounted _ e.steps.call.events nothing e.steps.after e.steps.call.run (none-all SealsNone e.steps.call.events e.steps.call.which) (none-all CountsNone e.steps.call.events e.steps.call.which) e.steps.up untouched e.emitted

      output-accounts : (number : ℕ) (took : List Out → Type 0) → EmitSteps told size number g v n took s.node.stage s2.node.stage → AreAccounted told count fate telling terms g made r2
      output-accounts number took e =
          let steps = e.steps in
          let events : steps.call.events ≡ Emit v ∷ [] = steps.call.which in
          let run = subst (λ (es : List Event). NodeRun g (Contains []) v n es (record { puts = []; outs = e.out ∷ [] }) steps.after) events steps.call.run in
          let made_of : steps.after ≡ emitted_node n = run.1.1.3.1 ∙ run.1.1.1.1.2 in
          let emitted : emitted_through s2.node.stage ≡ n.sending.emitted + 1 = up-emitted told size g v steps.after s2.node.stage steps.up ∙ ap (λ (x : Node). x.sending.emitted) made_of in
          let before : emitted_through s.node.stage ≡ n.sending.emitted = up-emitted told size g v n s.node.stage up in
          let numbered : e.out.number ≡ n.sending.emitted + 1 = due-number told size g v n s.node.stage up e.out e.was_due in
          let numbers : numbers_of (emissions_in s2.node.stage) ≡ numbers_of (emissions_in s.node.stage) ++ (n.sending.emitted + 1) ∷ [] =
          ap (λ (es : List Emission). numbers_of es) e.emitted ∙ map-append (λ (x : Emission). x.out.number) (emissions_in s.node.stage) (record { node = v; out = e.out } ∷ []) ∙ ap (λ (k : ℕ). numbers_of (emissions_in s.node.stage) ++ k ∷ []) numbered in
          let now : numbers_of (emissions_in s2.node.stage) ++ (emitted_through s2.node.stage + 1) ∷ [] ≡ (numbers_of (emissions_in s.node.stage) ++ (n.sending.emitted + 1) ∷ []) ++ (n.sending.emitted + 1 + 1) ∷ [] =
          ap (λ (ns : List ℕ). ns ++ (emitted_through s2.node.stage + 1) ∷ []) numbers ∙ ap (λ (k : ℕ). (numbers_of (emissions_in s.node.stage) ++ (n.sending.emitted + 1) ∷ []) ++ (k + 1) ∷ []) emitted in
          let same : descents 0 (numbers_of (emissions_in s2.node.stage) ++ (emitted_through s2.node.stage + 1) ∷ []) ≡ descents 0 (numbers_of (emissions_in s.node.stage) ++ (emitted_through s.node.stage + 1) ∷ []) =
          ap (λ (ns : List ℕ). descents 0 ns) now ∙ descents-next 0 (numbers_of (emissions_in s.node.stage)) (n.sending.emitted + 1) ∙ ap (λ (k : ℕ). descents 0 (numbers_of (emissions_in s.node.stage) ++ (k + 1) ∷ [])) (sym before) in
          calls-accounted steps.after steps.up (ap (λ (x : Node). x.turning.turns) made_of) untouched (omega (arith, same))

      pub emit-accounts : (took : List Out → Type 0) (result : Result emits.Emit NodeFault) → EmitStepsBy told size result g v n took s.node.stage s2.node.stage → AccountsBy told count fate telling terms g result made v r2
      emit-accounts took (Ok (Done number)) e = output-accounts number took e
      emit-accounts took (Ok Refused) e = nothing-accounts took e.0
      emit-accounts took (Ok Nothing) e = nothing-accounts took e.0
      emit-accounts took (Err Outlet) e = nothing-accounts took e.0
      emit-accounts took (Err Memory) e = tt
      emit-accounts took (Err Disk) e = absurd e
      emit-accounts took (Err (Damaged disk place)) e = absurd e

  -- ---- a turn

  module _ (lines : s2.lines.items ≡ s.lines.items) (tries : s2.restarts ≡ s.restarts) (origin : telling.origin s2.luck ≡ telling.origin s.luck) (clocks : HasAnswered (telling.clocks s.luck) (telling.clocks s2.luck)) (words : HasAnswered (telling.words s.luck) (telling.words s2.luck))
      (emissions : emissions_in s2.node.stage ≡ emissions_in s.node.stage) (h : Handler) (of_game : h ≡ g.handler) (gave : List (List ℕ) → Type 0) (put : List Put → Type 0) (nones nones2 : ℕ) (handler : TurnWorker (Watched D)) where
    abbrev pub DrewOf : List ℕ → Type 0
    DrewOf draws = Answers (telling.clocks s.luck) (telling.clocks s2.luck) (h.clocks draws) × Answers (telling.words s.luck) (telling.words s2.luck) (h.words draws)

    -- what was drawn is drawn by the game's handler
    drew-one : (draws : List ℕ) → DrewOf draws → HasDrawn telling g.handler s2.luck (draws_of (turns_in s.node.stage) ++ draws ∷ [])
    drew-one draws drawn =
        let by = subst (λ (x : Handler). Answers (telling.clocks s.luck) (telling.clocks s2.luck) (x.clocks draws) × Answers (telling.words s.luck) (telling.words s2.luck) (x.words draws)) of_game drawn in
        drew-more telling g.handler s.luck s2.luck (draws_of (turns_in s.node.stage)) was.drew draws by.0 by.1

    begun-more : TellsAll terms.scripted telling s2.luck (length (turns_in s.node.stage) + s.restarts + 1)
    begun-more = tells-more terms.scripted telling s.luck (length (turns_in s.node.stage) + s.restarts) was.tells s2.luck clocks words

    -- no turn was sealed
    idle-accounted : s2.luck ≡ s.luck → (put2 : Packet → Type 0) (es : List Event) (out : Outgoing) (after : Node) → NodeRun g put2 v n es out after → AllByRecursion SealsNone es → AllByRecursion CountsNone es → IsUp told size g v after s2.node.stage
        → Unfailed told count fate s.node.stage s2.node.stage → IsSynced told count g v s2.node.stage → AreAccounted told count fate telling terms g made r2
    idle-accounted luck-is put2 es out after run seals counts up2 unfailed synced =
        let turns : turns_in s2.node.stage ≡ turns_in s.node.stage = up-turns told size g v after s2.node.stage up2 ∙ run-turns g put2 v n es out after seals run ∙ sym (up-turns told size g v n s.node.stage up) in
        let long : length (turns_in s2.node.stage) ≡ length (turns_in s.node.stage) = ap (λ (ts : List Effects). length ts) turns in
        still-up (accounted-still told count fate telling terms g v s s2 synced origin lines tries (omega (arith, long)) has was
        (subst (λ (ts : List Effects). HasDrawn telling g.handler s2.luck (draws_of ts)) (sym turns) (drew-on telling g.handler s.luck s2.luck (draws_of (turns_in s.node.stage)) was.drew clocks words))
        (tells-still terms.scripted telling s.luck (length (turns_in s.node.stage) + s.restarts) was.tells s2.luck (length (turns_in s2.node.stage) + s2.restarts) luck-is (omega (arith, long, tries))) unfailed
        (again-same s.node.stage s2.node.stage emissions (up-emitted told size g v after s2.node.stage up2 ∙ run-emitted g put2 v n es out after counts run ∙ sym (up-emitted told size g v n s.node.stage up))))

    -- the node is down, with this in doubt
    turn-held : (put2 : Packet → Type 0) (es : List Event) (out : Outgoing) (given : List Packet) (after : Node) (doubt : Doubt) → NodeRun g put2 v n es out after → AllByRecursion SealsNone es → IsDown told g v given after doubt s2.node.stage
        → HasDrawn telling g.handler s2.luck (draws_of (turns_in s.node.stage) ++ doubted doubt) → ((d d2 : Disks (Watched D)) → HasDisks d s.node.stage → HasDisks d2 s2.node.stage → OneHasFailed told count fate d d2) → IsSynced told count g v s2.node.stage → OneIsHeld told count fate telling terms g made v r2
    turn-held put2 es out given after doubt run seals down drew failed synced =
        let turns : turns_in s2.node.stage ≡ turns_in s.node.stage = down.turns ∙ run-turns g put2 v n es out after seals run ∙ sym (up-turns told size g v n s.node.stage up) in
        let long : length (turns_in s2.node.stage) ≡ length (turns_in s.node.stage) = ap (λ (ts : List Effects). length ts) turns in
        now-held (held-after told count fate telling terms g v s s2 synced origin lines tries (omega (arith, long)) has was given after doubt down
        (subst (λ (ts : List Effects). HasDrawn telling g.handler s2.luck (draws_of ts ++ doubted doubt)) (sym turns) drew)
        (subst (TellsAll terms.scripted telling s2.luck) (let same : length (turns_in s.node.stage) + s.restarts + 1 ≡ length (turns_in s2.node.stage) + s2.restarts + 1 = omega (arith, long, tries) in same) begun-more) failed emissions)

    pub turn-accounts : (result : Result Took NodeFault) → TurnStepsBy told size g v n gave put result DrewOf nones nones2 handler s2.node.stage → ((d d2 : Disks (Watched D)) → HasDisks d s.node.stage → HasDisks d2 s2.node.stage → DisksFailBy told count fate result d d2)
        → UnlessMemory result (IsSynced told count g v s2.node.stage) → IfOk result (λ took. (took ≡ Turn) ⊎ (s2.luck ≡ s.luck)) → AccountsBy told count fate telling terms g result made v r2
    turn-accounts (Ok Turn) t disks synced undrawn =
        let after = t.call.steps.after in
        let call = t.call.steps.call in
        let up2 = t.call.steps.up in
        let turns : turns_in s2.node.stage ≡ turns_in s.node.stage ++ t.turn ∷ [] = up-turns told size g v after s2.node.stage up2 ∙ t.last ∙ ap (λ (ts : List Effects). ts ++ t.turn ∷ []) (sym (up-turns told size g v n s.node.stage up)) in
        let long : length (turns_in s2.node.stage) ≡ length (turns_in s.node.stage) + 1 = ap (λ (ts : List Effects). length ts) turns ∙ length_push (turns_in s.node.stage) t.turn in
        still-up (accounted-still told count fate telling terms g v s s2 synced origin lines tries (omega (arith, long)) has was
        (subst (λ (ts : List Effects). HasDrawn telling g.handler s2.luck (draws_of ts)) (sym turns) (subst (λ (ds : List (List ℕ)). HasDrawn telling g.handler s2.luck ds) (sym (draws-push (turns_in s.node.stage) t.turn)) (drew-one t.turn.draws t.drawn)))
        (subst (TellsAll terms.scripted telling s2.luck) (let same : length (turns_in s.node.stage) + s.restarts + 1 ≡ length (turns_in s2.node.stage) + s2.restarts = omega (arith, long, tries) in same) begun-more)
        disks
        (again-same s.node.stage s2.node.stage emissions (up-emitted told size g v after s2.node.stage up2 ∙ run-emitted g _ v n call.events t.call.out after (turn-counts-none v (is_full handler.side) call.events call.which) call.run ∙ sym (up-emitted told size g v n s.node.stage up))))
    turn-accounts (Ok Idle) t disks synced undrawn =
        let call = t.call.steps.call in
        idle-accounted (⊎_elim (λ (is : Idle ≡ Turn). absurd (cc)) (λ (same : s2.luck ≡ s.luck). same) undrawn) _ call.events t.call.out t.call.steps.after call.run (idle-seals-none v (is_full handler.side) call.events call.which) (idle-counts-none v (is_full handler.side) call.events call.which) t.call.steps.up disks synced
    turn-accounts (Ok Capped) t disks synced undrawn =
        let call = t.steps.call in
        idle-accounted (⊎_elim (λ (is : Capped ≡ Turn). absurd (cc)) (λ (same : s2.luck ≡ s.luck). same) undrawn) _ call.events nothing t.steps.after call.run (none-all SealsNone call.events call.which) (none-all CountsNone call.events call.which) t.steps.up disks synced
    turn-accounts (Err Disk) t disks synced undrawn = ⊎_elim
        (λ (f : TurnoverFails told size g v n gave put s2.node.stage).
        let call = f.down.call in
        turn-held _ call.events nothing _ f.down.after (turnover f.with_news) call.run (none-all SealsNone call.events call.which) f.down.down
        (subst (λ (ds : List (List ℕ)). HasDrawn telling g.handler s2.luck ds) (sym (append-nil (draws_of (turns_in s.node.stage)))) (drew-on telling g.handler s.luck s2.luck (draws_of (turns_in s.node.stage)) was.drew clocks words)) disks synced)
        (λ (f : SealFails told size g v n gave put DrewOf handler s2.node.stage).
        let call = f.down.call in
        turn-held _ call.events f.out _ f.down.after (seal f.from f.draws f.pages) call.run (idle-seals-none v (is_full handler.side) call.events call.which) f.down.down (drew-one f.draws f.drawn) disks synced)
        t
    turn-accounts (Err Memory) t disks synced undrawn = tt
    turn-accounts (Err Outlet) t disks synced undrawn = absurd t
    turn-accounts (Err (Damaged disk place)) t disks synced undrawn = absurd t

-- ---- what a call needs to know

pub own-accounts : {D O U A : Type 0} (told : Watched D → Option Story) (count : Watched D → ℕ) (fate : Watched D → Option Fate) (telling : Telling O) (terms : Terms) (g : Game) (made : ℕ) (r : Run D O U A) (v : ℕ) (s : Station D O U) → v < made → slice_index_or r.stations.items v s ≡ s
    → AreAccounted told count fate telling terms g made r → IsAccounted told count fate telling terms g v s
own-accounts told count fate telling terms g made r v s low is accounted = subst (IsAccounted told count fate telling terms g v) is (accounted.each v s low)

-- acknowledgements that were given go no further than what the node has sent
pub heard-no-further : {D O U A : Type 0} (told : Watched D → Option Story) (size : Watched D → ℕ) (took : U → Option (List Out)) (handles : A → Handler) (g : Game) (made : ℕ) (r : Run D O U A) (v : ℕ) (running : IsRunning told size took handles g made r) → v < made → (acks : List (List (List ℕ))) (nones nones2 : ℕ) (stage : Stage (Watched D))
    → (p : HearSteps told size g v (running.nodes v) (WereGiven v nones r.waiting.acks acks) nones2 nones stage) → AllByRecursion (GoesNoFurther v (running.nodes v)) (packets_from g.nodes p.given)
heard-no-further told size took handles g made r v running low acks nones nones2 stage p =
    let few = running.stands.few in
    no-further g running.nodes running.emissions v (packets_from g.nodes p.given) running.stands.accord (omega (arith, few, low)) (given_are_known g (group_of g running.nodes running.emissions) v r.waiting.acks acks p.given running.stands.acks p.was_given.gave).1
