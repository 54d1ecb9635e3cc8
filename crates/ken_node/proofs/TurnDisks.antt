-- What a call of a node's handler makes of its disks.
use Rattle.std.proofs.Common.{◌≡◌, ℕ, List, Option, Bool, true, false, IsSome, Result, Ok, Err, inl, inr, ⊎_elim, refl, sym, ap, subst, ◌∙◌}
use Rattle.ken_disk.specs.declared.faults.DiskFault.TheVariants as disk
use Rattle.ken_disk.specs.Causes.{HasCause}
use Rattle.ken_disk.specs.Fates.{Fate, Suffers}
use Rattle.ken_disk.specs.Story.{Story, Follows}
use Rattle.ken_model.specs.declared.messages.Message.{Message}
use Rattle.ken_model.specs.Handler.{Handler}
use Rattle.ken_record.specs.declared.base.Base.{Base}
use Rattle.ken_record.specs.declared.effects.Effects.{Effects}
use Rattle.ken_record.specs.declared.header.Header.{Header}
use Rattle.ken_record.specs.declared.record.Record.{Record}
use Rattle.ken_net.specs.Puts.{Put}
use Rattle.ken_store.specs.declared.disks.Disks.{Disks}
use Rattle.ken_store.specs.declared.disks.Which.{Which}
use Rattle.ken_store.specs.declared.disks.Which.TheVariants.{First, Second}
use Rattle.ken_store.specs.declared.faults.StoreFault.{StoreFault}
use Rattle.ken_store.specs.declared.faults.StoreFault.TheVariants as store
use Rattle.ken_store.specs.declared.turning.TurnSide.{TurnSide}
use Rattle.ken_store.specs.Answers.{disks_from}
use Rattle.ken_store.specs.Creations.{HasFailed, IsUnfailed}
use Rattle.ken_store.specs.Logs.{other_log}
use Rattle.ken_store.specs.Turning.{KeepsLog, SealsOn, log_answer}
use Rattle.ken_store.specs.Turnovers.{ReplacesOn}
use Rattle.ken_ship.specs.declared.faults.NodeFault.{NodeFault}
use Rattle.ken_ship.specs.declared.faults.NodeFault.TheVariants.{Disk, Damaged, Outlet, Memory}
use Rattle.ken_work.specs.declared.took.Took.{Took}
use Rattle.ken_work.specs.declared.took.Took.TheVariants.{Turn, Idle, Capped}
use Rattle.ken_work.specs.declared.worker.TurnWorker.{TurnWorker}
use Rattle.ken_work.specs.Calls.{IsTurnInDoubt, IsTurnoverInDoubt, RanTurn, TakesTurn}
use Rattle.ken_node.specs.Down.{AreTold}
use Rattle.ken_node.specs.NodeCalls.{DisksFailBy}
use Rattle.ken_node.specs.Restarts.{AreUnfailed, OneHasFailed}
use Rattle.ken_work.specs.Sealing.{RenewsBy, SealsTurn, is_full}
use Rattle.ken_node.proofs.Up.{follows-same, still-told, unfailed-still}

-- ---- the two logs of a side: the current one and the other, as the first and the second

abbrev first_of : {D : Type 0} → Which → D → D → D
first_of First log other = log
first_of Second log other = other

abbrev second_of : {D : Type 0} → Which → D → D → D
second_of First log other = other
second_of Second log other = log

module _ {D : Type 0} (R : D → D → Type 0) where
  -- each of the two went on so
  abbrev pub LogsGo : TurnSide D → TurnSide D → Type 0
  LogsGo old new = R (first_of old.which old.log.disk old.other) (first_of new.which new.log.disk new.other) × R (second_of old.which old.log.disk old.other) (second_of new.which new.log.disk new.other)

  in-place : (w : Which) (log other log2 other2 : D) → R log log2 → R other other2 → R (first_of w log other) (first_of w log2 other2) × R (second_of w log other) (second_of w log2 other2)
  in-place First log other log2 other2 one two = (one, two)
  in-place Second log other log2 other2 one two = (two, one)

  in-turn : (w : Which) (log other log2 other2 : D) → R log other2 → R other log2 → R (first_of w log other) (first_of (other_log w) log2 other2) × R (second_of w log other) (second_of (other_log w) log2 other2)
  in-turn First log other log2 other2 one two = (one, two)
  in-turn Second log other log2 other2 one two = (two, one)

  -- they stay in their places
  pub logs-stay : (old new : TurnSide D) → new.which ≡ old.which → R old.log.disk new.log.disk → R old.other new.other → LogsGo old new
  logs-stay old new which one two =
      subst (λ (w : Which). R (first_of old.which old.log.disk old.other) (first_of w new.log.disk new.other) × R (second_of old.which old.log.disk old.other) (second_of w new.log.disk new.other)) (sym which)
      (in-place old.which old.log.disk old.other new.log.disk new.other one two)

  -- or they change them
  pub logs-change : (old new : TurnSide D) → new.which ≡ other_log old.which → R old.log.disk new.other → R old.other new.log.disk → LogsGo old new
  logs-change old new which one two =
      subst (λ (w : Which). R (first_of old.which old.log.disk old.other) (first_of w new.log.disk new.other) × R (second_of old.which old.log.disk old.other) (second_of w new.log.disk new.other)) (sym which)
      (in-turn old.which old.log.disk old.other new.log.disk new.other one two)

  module _ (next : (a b c : D) → R a b → R b c → R a c) where
    pub logs-next : (a b c : TurnSide D) → LogsGo a b → LogsGo b c → LogsGo a c
    logs-next a b c one two = (next _ _ _ one.0 two.0, next _ _ _ one.1 two.1)

-- ---- a call that no disk failed

module _ {D : Type 0} (told : D → Option Story) (size count : D → ℕ) (fate : D → Option Fate) (R : D → D → Type 0) (still : (d : D) → R d d) (next : (a b c : D) → R a b → R b c → R a c)
    (seals : (place : ℕ) (item : Record) (a b : D) → SealsOn told count fate (log_answer {T = Unit {0}} (Ok tt)) place item a b → R a b)
    (replaces : (head : Header) (base : Base) (a b : D) → ReplacesOn told count fate (log_answer {T = Unit {0}} (Ok tt)) head base a b → R a b) where
  renews-go : (full : Bool) (w : TurnWorker D) (mid : TurnSide D) → RenewsBy told size count fate {T = Unit {0}} full (Ok tt) w mid → LogsGo R w.side mid
  renews-go true w mid is = logs-change R w.side mid is.turned.which (subst (R w.side.log.disk) (sym is.own) (still w.side.log.disk)) (replaces _ _ w.side.other mid.log.disk is.log)
  renews-go false w mid is = logs-stay R w.side mid (ap (λ (x : TurnSide D). x.which) is.1) (subst (λ (x : TurnSide D). R w.side.log.disk x.log.disk) (sym is.1) (still w.side.log.disk)) (subst (λ (x : TurnSide D). R w.side.other x.other) (sym is.1) (still w.side.other))

  keeps-go : (old new : TurnSide D) → KeepsLog old new → LogsGo R old new
  keeps-go old new is = logs-stay R old new is.which (subst (λ x. R old.log.disk x.disk) (sym is.log) (still old.log.disk)) (subst (R old.other) (sym is.other) (still old.other))

  seals-go : (e : Effects) (begun new : TurnSide D) → SealsTurn told size count fate {T = Unit {0}} (Ok tt) e begun new → LogsGo R begun new
  seals-go e begun new is = logs-stay R begun new is.others.which (seals _ _ begun.log.disk new.log.disk is.log) (subst (R begun.other) (sym is.others.other) (still begun.other))

  module _ (h : Handler) (drew : List ℕ → Type 0) where
    ran-go : (m : Message) (old new : TurnWorker D) → RanTurn told size count fate h drew m old new → LogsGo R old.side new.side
    ran-go m old new ran = logs-next R next old.side ran.begun new.side (keeps-go old.side ran.begun ran.made.same) (seals-go ran.effects ran.begun new.side ran.seals)

    pub turn-go : (took : Took) (gave : List (List ℕ) → Type 0) (put : List Put → Type 0) (nones nones2 : ℕ) (old new : TurnWorker D) → TakesTurn told size count fate h drew (Ok took) old new gave put nones nones2 → LogsGo R old.side new.side
    turn-go Turn gave put nones nones2 old new is =
        logs-next R next old.side is.mid.side new.side (renews-go (is_full old.side) old is.mid.side is.came.renews) (ran-go is.message is.mid new is.ran)
    turn-go Idle gave put nones nones2 old new is = renews-go (is_full old.side) old new.side is.came.renews
    turn-go Capped gave put nones nones2 old new is = subst (λ (x : TurnWorker D). LogsGo R old.side x.side) (sym is.same) (logs-stay R old.side old.side refl (still old.side.log.disk) (still old.side.other))

-- ---- the disks of the node

module _ {D : Type 0} (told : D → Option Story) (size count : D → ℕ) (fate : D → Option Fate) where
  abbrev GoesTold : D → D → Type 0
  GoesTold a b = IsSome (told a) → IsSome (told b)

  told-by : (w w2 : Which) (log other log2 other2 image : D) → GoesTold (first_of w log other) (first_of w2 log2 other2) × GoesTold (second_of w log other) (second_of w2 log2 other2) → AreTold told (disks_from w log image other) → AreTold told (disks_from w2 log2 image other2)
  told-by First First log other log2 other2 image goes tell = (goes.0 tell.0, tell.1, goes.1 tell.2)
  told-by First Second log other log2 other2 image goes tell = (goes.0 tell.0, tell.1, goes.1 tell.2)
  told-by Second First log other log2 other2 image goes tell = (goes.0 tell.0, tell.1, goes.1 tell.2)
  told-by Second Second log other log2 other2 image goes tell = (goes.0 tell.0, tell.1, goes.1 tell.2)

  unfailed-by : (w w2 : Which) (log other log2 other2 image : D) → IsUnfailed count fate (first_of w log other) (first_of w2 log2 other2) × IsUnfailed count fate (second_of w log other) (second_of w2 log2 other2)
      → AreUnfailed told count fate (disks_from w log image other) (disks_from w2 log2 image other2)
  unfailed-by First First log other log2 other2 image goes = record { log = goes.0; image = unfailed-still told count fate image; second = goes.1 }
  unfailed-by First Second log other log2 other2 image goes = record { log = goes.0; image = unfailed-still told count fate image; second = goes.1 }
  unfailed-by Second First log other log2 other2 image goes = record { log = goes.0; image = unfailed-still told count fate image; second = goes.1 }
  unfailed-by Second Second log other log2 other2 image goes = record { log = goes.0; image = unfailed-still told count fate image; second = goes.1 }

  -- one of the two logs failed
  log-failed : (w : Which) (log log2 other image : D) → HasFailed count fate log log2 → OneHasFailed told count fate (disks_from w log image other) (disks_from w log2 image other)
  log-failed First log log2 other image has = inl (has, unfailed-still told count fate image, unfailed-still told count fate other)
  log-failed Second log log2 other image has = inr (inr (unfailed-still told count fate other, unfailed-still told count fate image, has))

  other-failed : (w : Which) (log other other2 image : D) → HasFailed count fate other other2 → OneHasFailed told count fate (disks_from w log image other) (disks_from w log image other2)
  other-failed First log other other2 image has = inr (inr (unfailed-still told count fate log, unfailed-still told count fate image, has))
  other-failed Second log other other2 image has = inl (has, unfailed-still told count fate image, unfailed-still told count fate log)

  unfailed-next : (a b c : D) → IsUnfailed count fate a b → IsUnfailed count fate b c → IsUnfailed count fate a c
  unfailed-next a b c one two = record { count = two.count ∙ one.count; falls = two.falls ∙ one.falls }

  failed-next : (a b c : D) → IsUnfailed count fate a b → HasFailed count fate b c → HasFailed count fate a c
  failed-next a b c one two = record {
    count = subst (λ (k : ℕ). HasCause {T = Unit {0}} k (count c) (Err disk.Failed)) one.count two.count;
    falls = subst (λ (f : Option Fate). Follows (Suffers {T = Unit {0}} (Err disk.Failed)) f (fate c)) one.falls two.falls;
  }

  one-next : (a b c : Disks D) → AreUnfailed told count fate a b → OneHasFailed told count fate b c → OneHasFailed told count fate a c
  one-next a b c un one =
      ⊎_elim
      (λ (log : HasFailed count fate b.log c.log × IsUnfailed count fate b.image c.image × IsUnfailed count fate b.second c.second).
      inl (failed-next a.log b.log c.log un.log log.0, unfailed-next a.image b.image c.image un.image log.1, unfailed-next a.second b.second c.second un.second log.2))
      (λ rest.
      ⊎_elim
      (λ (image : IsUnfailed count fate b.log c.log × HasFailed count fate b.image c.image × IsUnfailed count fate b.second c.second).
      inr (inl (unfailed-next a.log b.log c.log un.log image.0, failed-next a.image b.image c.image un.image image.1, unfailed-next a.second b.second c.second un.second image.2)))
      (λ (second : IsUnfailed count fate b.log c.log × IsUnfailed count fate b.image c.image × HasFailed count fate b.second c.second).
      inr (inr (unfailed-next a.log b.log c.log un.log second.0, unfailed-next a.image b.image c.image un.image second.1, failed-next a.second b.second c.second un.second second.2)))
      rest)
      one

  -- what the log's calls say of a disk
  seal-told : (result : Result (Unit {0}) StoreFault) (place : ℕ) (item : Record) (a b : D) → SealsOn told count fate (log_answer result) place item a b → GoesTold a b
  seal-told result place item a b is some = still-told _ (told a) (told b) is.calls some

  replace-told : (result : Result (Unit {0}) StoreFault) (head : Header) (base : Base) (a b : D) → ReplacesOn told count fate (log_answer result) head base a b → GoesTold a b
  replace-told result head base a b is some = still-told _ (told a) (told b) is.story some

  seal-unfailed : (place : ℕ) (item : Record) (a b : D) → SealsOn told count fate (log_answer {T = Unit {0}} (Ok tt)) place item a b → IsUnfailed count fate a b
  seal-unfailed place item a b is = record { count = is.cause; falls = follows-same (Suffers {T = Unit {0}} (Ok tt)) (fate a) (fate b) (λ x y suffers. suffers.1) is.fate }

  replace-unfailed : (head : Header) (base : Base) (a b : D) → ReplacesOn told count fate (log_answer {T = Unit {0}} (Ok tt)) head base a b → IsUnfailed count fate a b
  replace-unfailed head base a b is = record { count = is.cause; falls = follows-same (Suffers {T = Unit {0}} (Ok tt)) (fate a) (fate b) (λ x y suffers. suffers.1) is.fate }

  module _ (h : Handler) (drew : List ℕ → Type 0) (gave : List (List ℕ) → Type 0) (put : List Put → Type 0) (nones nones2 : ℕ) (image : D) where
    abbrev disks_with : TurnSide D → Disks D
    disks_with side = disks_from side.which side.log.disk image side.other

    -- ---- after a call that no disk failed

    pub turn-told : (took : Took) (old new : TurnWorker D) → TakesTurn told size count fate h drew (Ok took) old new gave put nones nones2 → AreTold told (disks_with old.side) → AreTold told (disks_with new.side)
    turn-told took old new is tell =
        told-by old.side.which new.side.which old.side.log.disk old.side.other new.side.log.disk new.side.other image
        (turn-go told size count fate GoesTold (λ d some. some) (λ a b c one two some. two (one some)) (λ place item a b. seal-told (Ok tt) place item a b) (λ head base a b. replace-told (Ok tt) head base a b) h drew took gave put nones nones2 old new is) tell

    pub turn-unfailed : (took : Took) (old new : TurnWorker D) → TakesTurn told size count fate h drew (Ok took) old new gave put nones nones2 → AreUnfailed told count fate (disks_with old.side) (disks_with new.side)
    turn-unfailed took old new is =
        unfailed-by old.side.which new.side.which old.side.log.disk old.side.other new.side.log.disk new.side.other image
        (turn-go told size count fate (IsUnfailed count fate) (unfailed-still told count fate) unfailed-next seal-unfailed replace-unfailed h drew took gave put nones nones2 old new is)

    -- ---- after one in which a disk failed

    turnover-failed : (full : Bool) (old : TurnWorker D) (mid : TurnSide D) → RenewsBy told size count fate {T = Unit {0}} full (Err store.Disk) old mid
        → (AreTold told (disks_with old.side) → AreTold told (disks_with mid)) × OneHasFailed told count fate (disks_with old.side) (disks_with mid)
    turnover-failed false old mid is = absurd is.0
    turnover-failed true old mid is = (
      told-by old.side.which mid.which old.side.log.disk old.side.other mid.log.disk mid.other image
          (logs-stay GoesTold old.side mid is.unturned.which (subst (GoesTold old.side.log.disk) (sym is.own) (λ some. some)) (replace-told (Err store.Disk) _ _ old.side.other mid.other is.log)),
      subst (λ (w : Which). OneHasFailed told count fate (disks_with old.side) (disks_from w mid.log.disk image mid.other)) (sym is.unturned.which)
          (subst (λ (d : D). OneHasFailed told count fate (disks_with old.side) (disks_from old.side.which d image mid.other)) (sym is.own)
          (other-failed old.side.which old.side.log.disk old.side.other mid.other image (record { count = is.log.cause; falls = is.log.fate }))),
    )

    seal-failed : (e : Effects) (begun new : TurnSide D) → SealsTurn told size count fate {T = Unit {0}} (Err store.Disk) e begun new
        → (AreTold told (disks_with begun) → AreTold told (disks_with new)) × OneHasFailed told count fate (disks_with begun) (disks_with new)
    seal-failed e begun new is = (
      told-by begun.which new.which begun.log.disk begun.other new.log.disk new.other image
          (logs-stay GoesTold begun new is.others.which (seal-told (Err store.Disk) _ _ begun.log.disk new.log.disk is.log) (subst (GoesTold begun.other) (sym is.others.other) (λ some. some))),
      subst (λ (w : Which). OneHasFailed told count fate (disks_with begun) (disks_from w new.log.disk image new.other)) (sym is.others.which)
          (subst (λ (d : D). OneHasFailed told count fate (disks_with begun) (disks_from begun.which new.log.disk image d)) (sym is.others.other)
          (log-failed begun.which begun.log.disk new.log.disk begun.other image (record { count = is.log.cause; falls = is.log.fate }))),
    )

    doubt-failed : (old new : TurnWorker D) → IsTurnInDoubt told size count fate h drew old new gave put nones nones2
        → (AreTold told (disks_with old.side) → AreTold told (disks_with new.side)) × OneHasFailed told count fate (disks_with old.side) (disks_with new.side)
    doubt-failed old new is =
        let begun : TurnSide D = is.doubt.begun in
        let fails = seal-failed is.doubt.effects begun new.side is.doubt.seals in
        let tells : LogsGo GoesTold old.side begun =
        logs-next GoesTold (λ a b c one two some. two (one some)) old.side is.mid.side begun
        (renews-go told size count fate GoesTold (λ d some. some) (λ a b c one two some. two (one some)) (λ place item a b. seal-told (Ok tt) place item a b) (λ head base a b. replace-told (Ok tt) head base a b) (is_full old.side) old is.mid.side is.came.renews)
        (keeps-go told size count fate GoesTold (λ d some. some) (λ a b c one two some. two (one some)) (λ place item a b. seal-told (Ok tt) place item a b) (λ head base a b. replace-told (Ok tt) head base a b) is.mid.side begun is.doubt.made.same) in
        let unfailed : LogsGo (IsUnfailed count fate) old.side begun =
        logs-next (IsUnfailed count fate) unfailed-next old.side is.mid.side begun
        (renews-go told size count fate (IsUnfailed count fate) (unfailed-still told count fate) unfailed-next seal-unfailed replace-unfailed (is_full old.side) old is.mid.side is.came.renews)
        (keeps-go told size count fate (IsUnfailed count fate) (unfailed-still told count fate) unfailed-next seal-unfailed replace-unfailed is.mid.side begun is.doubt.made.same) in (
          λ tell. fails.0 (told-by old.side.which begun.which old.side.log.disk old.side.other begun.log.disk begun.other image tells tell),
          one-next (disks_with old.side) (disks_with begun) (disks_with new.side) (unfailed-by old.side.which begun.which old.side.log.disk old.side.other begun.log.disk begun.other image unfailed) fails.1,
        )

    pub disk-failed : (old new : TurnWorker D) → TakesTurn told size count fate h drew (Err Disk) old new gave put nones nones2
        → (AreTold told (disks_with old.side) → AreTold told (disks_with new.side)) × OneHasFailed told count fate (disks_with old.side) (disks_with new.side)
    disk-failed old new is =
        ⊎_elim
        (λ (turnover : IsTurnoverInDoubt told size count fate h drew old new gave put). turnover-failed (is_full old.side) old new.side turnover.renews)
        (λ (turn : IsTurnInDoubt told size count fate h drew old new gave put nones nones2). doubt-failed old new turn)
        is

    pub turn-disks : (result : Result Took NodeFault) (old new : TurnWorker D) → TakesTurn told size count fate h drew result old new gave put nones nones2 → DisksFailBy told count fate result (disks_with old.side) (disks_with new.side)
    turn-disks (Ok took) old new is = turn-unfailed took old new is
    turn-disks (Err Disk) old new is = (disk-failed old new is).1
    turn-disks (Err Memory) old new is = tt
    turn-disks (Err Outlet) old new is = absurd is
    turn-disks (Err (Damaged disk place)) old new is = absurd is
