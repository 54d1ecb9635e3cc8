-- The creation of a node on empty disks, and restarts until one answers.
use Rattle.std.proofs.Common.{◌≡◌, ℕ, ◌+◌, ◌<◌, ◌≤◌, List, [], ◌∷◌, ◌++◌, length, inl, inr, ⊎_elim, Contains, Option, Some, Result, Ok, Err, refl, sym, ap, subst, ◌∙◌, arith}
use Rattle.std.specs.Prelude.{IsSome}
use Rattle.std.proofs.lemmas.Option.{same_Some}
use Rattle.ken_disk.specs.Fates.{Fate}
use Rattle.ken_disk.specs.Story.{Story, IsAtRest, Tells, blank, empty}
use Rattle.ken_log.specs.Mounts.{mount_of}
use Rattle.ken_log.specs.Mounts as mounts
use Rattle.ken_model.specs.Game.{Game}
use Rattle.ken_record.specs.declared.page.Page.{Page}
use Rattle.ken_core.specs.declared.events.Event.{Event}
use Rattle.ken_core.specs.declared.events.Event.TheVariants.{Crash, Recover}
use Rattle.ken_core.specs.Calls.{Doubt, IsRestart, no_doubt}
use Rattle.ken_core.specs.Nodes.{Node, first_node}
use Rattle.ken_core.specs.Packets.{Packet, Outgoing, nothing}
use Rattle.ken_core.specs.Runs.{NodeRun}
use Rattle.ken_ship.specs.declared.faults.NodeFault.{NodeFault}
use Rattle.ken_ship.specs.declared.faults.NodeFault.TheVariants.{Disk, Damaged, Outlet, Memory}
use Rattle.ken_ship.specs.Parts.{Part}
use Rattle.ken_store.specs.declared.disks.Disks.{Disks}
use Rattle.ken_store.specs.Answers.{AreAtRest, AreUnformatted}
use Rattle.ken_node.specs.declared.stage.Stage.{Stage}
use Rattle.ken_node.specs.declared.watched.Watched.{Watched}
use Rattle.ken_node.specs.Created.{IsCreation}
use Rattle.ken_node.specs.Down.{AreTold, IsDown, MayRestart}
use Rattle.ken_node.specs.Restarts.{IsUpAgain}
use Rattle.ken_node.specs.Stages.{HasDisks, IsUncreated, MayBeCreated, emissions_in, refusals_in, turns_in}
use Rattle.ken_node.specs.Synced.{IsSynced}
use Rattle.ken_app.specs.Oracles.{Telling}
use Rattle.ken_node.proofs.Fresh.{anew-down, anew-emissions, anew-refusals, anew-up, has-one}
use Rattle.ken_run.specs.declared.station.Station.{Station}
use Rattle.ken_run.specs.Accounts.{IsAccounted, IsHeld, Terms}
use Rattle.ken_run.specs.Creating.{CreatesStation, IsBlank, IsBorn, IsCreatedStation, IsFresh, MayBeBorn, RaisesStation}
use Rattle.ken_run.specs.Stations.{RestartsStation}
use Rattle.ken_run.specs.Devices.{IsNewOracle}
use Rattle.ken_run.proofs.AccountsFirst.{creation-failed, creation-unfailed, first-accounted, first-held}

-- ---- empty disks

empty-rests : IsAtRest empty
empty-rests = record { safe = refl; none = λ place is. is; within = omega arith }

empty-is-none : mount_of [] ≡ mounts.Unformatted
unfolding mount_of
empty-is-none = refl

-- what is told is the blank story
told-blank : (told : Option Story) (h : Story) → told ≡ Some blank → told ≡ Some h → blank ≡ h
told-blank told h is says = same_Some blank h (sym is ∙ says)

blank-rests : (told : Option Story) → told ≡ Some blank → Tells told (λ h. IsAtRest h.now)
blank-rests told is = λ h says. subst (λ (s : Story). IsAtRest s.now) (told-blank told h is says) empty-rests

blank-none : (told : Option Story) (h : Story) → told ≡ Some blank → told ≡ Some h → mount_of h.now.seen ≡ mounts.Unformatted
blank-none told h is says = subst (λ (s : Story). mount_of s.now.seen ≡ mounts.Unformatted) (told-blank told h is says) empty-is-none

blank-told : (told : Option Story) → told ≡ Some blank → IsSome told
blank-told told is = subst IsSome (sym is) refl

module _ {D : Type 0} (told : D → Option Story) (disks : Disks D) (log : told disks.log ≡ Some blank) (image : told disks.image ≡ Some blank) (second : told disks.second ≡ Some blank) where
  pub blank-at-rest : AreAtRest told disks
  blank-at-rest = record { log = blank-rests (told disks.log) log; image = blank-rests (told disks.image) image; second = blank-rests (told disks.second) second }

  pub blank-unformatted : AreUnformatted told disks
  blank-unformatted = λ l tl s ts. (blank-none (told disks.log) l log tl, blank-none (told disks.second) s second ts)

  pub blank-are-told : AreTold told disks
  blank-are-told = (blank-told (told disks.log) log, blank-told (told disks.image) image, blank-told (told disks.second) second)

-- ---- fresh disks

-- the disks of a stage are fresh, whichever way they are named
pub fresh-blank : {D : Type 0} (told : Watched D → Option Story) (count : Watched D → ℕ) (fate : Watched D → Option Fate) (terms : Terms) (g : Game) (v : ℕ) (disks : Disks (Watched D)) (stage : Stage (Watched D)) → IsUncreated g v disks stage → IsFresh count fate terms v disks → (b : IsBlank told g v stage) → IsFresh count fate terms v b.disks
fresh-blank told count fate terms g v disks stage is fresh b =
    subst (IsFresh count fate terms v) (has-one disks b.disks stage (subst (HasDisks disks) (sym is.stage_is) refl) (subst (HasDisks b.disks) (sym b.uncreated.stage_is) refl)) fresh

-- ---- a restart of a node that made no turn

crash-quiet : (g : Game) (put : Packet → Type 0) (v : ℕ) (n n2 : Node) (torn : List Page) (out : Outgoing) → NodeRun g put v n (Crash v torn ∷ Recover v ∷ []) out n2 → n2.turning.turns ≡ n.turning.turns
crash-quiet g put v n n2 torn out run =
    let mid = run.0 in
    let later = run.1.1.3 in
    ap (λ (x : Node). x.turning.turns) later.1.1.3.1 ∙ ap (λ (x : Node). x.turning.turns) later.1.1.1.2 ∙ ap (λ (x : Node). x.turning.turns) run.1.1.1.1

module _ {D : Type 0} (told : D → Option Story) (size : D → ℕ) (g : Game) (v : ℕ) (given : List Packet) (turns : ℕ) where
  pub still-none : (stage : Stage D) → (up : IsUpAgain told size g v given (first_node g) no_doubt turns stage) → up.after.turning.turns ≡ []
  still-none stage up = ⊎_elim
      (λ (is : IsRestart v no_doubt up.call.events). crash-quiet g (Contains given) v (first_node g) up.after is.torn nothing (subst (λ (es : List Event). NodeRun g (Contains given) v (first_node g) es nothing up.after) is.parts up.call.run))
      (λ (is : (first_node g ≡ first_node g) × (up.call.events ≡ [])).
      let none : (nothing ≡ nothing) × (up.after ≡ first_node g) = subst (λ (es : List Event). NodeRun g (Contains given) v (first_node g) es nothing up.after) is.1 up.call.run in
      ap (λ (x : Node). x.turning.turns) none.1)
      up.call.which

  pub no-turns : (stage : Stage D) → IsUpAgain told size g v given (first_node g) no_doubt turns stage → turns ≡ 0
  no-turns stage up = up.count ∙ ap length (still-none stage up)

-- ---- its creation

module _ {D O U : Type 0} (told : Watched D → Option Story) (size : Watched D → ℕ) where
  pub may-be-created : (s : Station D O U) → MayBeBorn told s → MayBeCreated told s.node.stage
  may-be-created s may =
      let born = may.born in
      record {
        game = may.game;
        node = may.node;
        disks = born.over.disks;
        uncreated = born.over.uncreated;
        rests = blank-at-rest told born.over.disks born.over.log born.over.image born.over.second;
        none = blank-unformatted told born.over.disks born.over.log born.over.image born.over.second;
      }

  module _ (count : Watched D → ℕ) (fate : Watched D → Option Fate) (g : Game) (v most : ℕ) (s s2 : Station D O U) (born : IsBorn told g v s) (rest : s2 ≡ record s { node = s2.node }) where
    abbrev Creation : Result (Unit {0}) NodeFault → Type 0
    Creation answer = IsCreation told size count fate g v answer born.over.disks s2.node.stage

    quiet-after : (answer : Result (Unit {0}) NodeFault) → Creation answer → emissions_in s2.node.stage ≡ []
    quiet-after answer creation =
        anew-emissions told size count fate g v [] born.over.disks s2.node.stage born.over.uncreated.limits born.over.uncreated.parts born.over.uncreated.first answer creation
        ∙ ap (λ (y : Part). y.emissions) born.over.uncreated.first.part

    pub unrefused-after : (answer : Result (Unit {0}) NodeFault) → Creation answer → refusals_in s2.node.stage ≡ 0
    unrefused-after answer creation =
        anew-refusals told size count fate g v [] born.over.disks s2.node.stage born.over.uncreated.limits born.over.uncreated.parts born.over.uncreated.first answer creation
        ∙ ap (λ (y : Part). y.refusals) born.over.uncreated.first.part

    none-made-yet : (answer : Result (Unit {0}) NodeFault) → Creation answer → turns_in s2.node.stage ≡ []
    none-made-yet (Ok x) c = ap turns_in c.ok.stage_is ∙ c.ok.new.turns
    none-made-yet (Err fault) c = ap turns_in c.err.stage_is ∙ c.err.first.turns

    no-restart-yet : s2.restarts ≡ 0
    no-restart-yet = ap (λ (x : Station D O U). x.restarts) rest ∙ born.no_restart

    no-line-yet : s2.lines.items ≡ []
    no-line-yet = ap (λ (x : Station D O U). x.lines.items) rest ∙ born.no_line

    -- it was created at once
    pub created-at-once : Creation (Ok tt) → IsCreatedStation told size g v most s2
    created-at-once creation = record {
      turns = 0;
      up = anew-up told size count fate g v [] born.over.disks s2.node.stage born.over.uncreated.limits (first_node g) no_doubt refl (Ok tt) creation
          (blank-unformatted told born.over.disks born.over.log born.over.image born.over.second) (blank-are-told told born.over.disks born.over.log born.over.image born.over.second);
      quiet = quiet-after (Ok tt) creation;
      tried = record { few = let none = no-restart-yet in omega (arith, none); lines = inl (no-restart-yet, no-line-yet) };
    }

    -- or a disk failed, and it is down
    pub failed-creation : Creation (Err Disk) → IsDown told g v [] (first_node g) no_doubt s2.node.stage
    failed-creation creation =
        anew-down told size count fate g v [] born.over.disks s2.node.stage born.over.uncreated.limits (first_node g) no_doubt refl refl (Err Disk) creation
        (blank-at-rest told born.over.disks born.over.log born.over.image born.over.second) (blank-unformatted told born.over.disks born.over.log born.over.image born.over.second) (blank-are-told told born.over.disks born.over.log born.over.image born.over.second)

    -- and either way it is accounted for
    module _ (telling : Telling O) (terms : Terms) (fresh : IsFresh count fate terms v born.over.disks) (oracle : IsNewOracle terms.scripted telling s.luck v terms.seed) (synced : IsSynced told count g v s2.node.stage) where
      own : IsNewOracle terms.scripted telling s2.luck v terms.seed
      own = subst (λ (o : O). IsNewOracle terms.scripted telling o v terms.seed) (sym (ap (λ (x : Station D O U). x.luck) rest)) oracle

      pub accounted-at-once : Creation (Ok tt) → IsAccounted told count fate telling terms g v s2
      accounted-at-once creation =
          first-accounted told count fate telling terms g v s2 born.over.disks no-line-yet no-restart-yet own synced (none-made-yet (Ok tt) creation) (quiet-after (Ok tt) creation) fresh.none fresh.fated fresh.own
          (creation-unfailed told size count fate g v born.over.disks s2.node.stage tt creation)

      pub held-at-once : Creation (Err Disk) → IsHeld told count fate telling terms g v s2
      held-at-once creation =
          first-held told count fate telling terms g v s2 born.over.disks no-line-yet no-restart-yet own synced (none-made-yet (Err Disk) creation) (quiet-after (Err Disk) creation) fresh.none fresh.fated fresh.own
          [] (first_node g) (failed-creation creation) (creation-failed told size count fate g v born.over.disks s2.node.stage creation)

    -- and is raised
    pub created-by-restarts : (s3 : Station D O U) (result : Result (Unit {0}) NodeFault) → Creation (Err Disk) → emissions_in s3.node.stage ≡ emissions_in s2.node.stage
        → RaisesStation told size result g v [] (first_node g) no_doubt most s2 s3 → CreatesStation told size result g v most s3
    created-by-restarts s3 (Ok x) creation same raised =
        let none = no-restart-yet in
        let some = raised.1.2 in
        record {
          turns = raised.0;
          up = raised.1.0;
          quiet = same ∙ quiet-after (Err Disk) creation;
          tried = record {
            few = raised.1.3;
            lines = inr (omega (arith, some), raised.1.1 ∙ ap (λ (xs : List ℕ). xs ++ raised.0 ∷ []) no-line-yet ∙ ap (λ (k : ℕ). k ∷ []) (no-turns told size g v [] raised.0 s3.node.stage raised.1.0));
          };
        }
    created-by-restarts s3 (Err Disk) creation same raised = raised.2
    created-by-restarts s3 (Err Memory) creation same raised = tt
    created-by-restarts s3 (Err Outlet) creation same raised = absurd raised
    created-by-restarts s3 (Err (Damaged disk place)) creation same raised = absurd raised

-- ---- restarts until one answers

module _ {D O U : Type 0} (told : Watched D → Option Story) where
  -- a station that was down is down still, after some restarts
  pub record IsDownStill (old new : Station D O U) : Type 0 where
    pub down : (g : Game) (v : ℕ) (given : List Packet) (n : Node) (doubt : Doubt) → IsDown told g v given n doubt old.node.stage → IsDown told g v given n doubt new.node.stage
    pub lines : new.lines.items ≡ old.lines.items
    pub tries : old.restarts ≤ new.restarts
    pub emissions : emissions_in new.node.stage ≡ emissions_in old.node.stage
    pub rest : new ≡ record old { node = new.node; restarts = new.restarts; lines = new.lines }

  -- and one that was held, with as many refusals
  pub record IsHeldStill (count : Watched D → ℕ) (fate : Watched D → Option Fate) (telling : Telling O) (most : ℕ) (old new : Station D O U) : Type 0 where
    pub held : (terms : Terms) (g : Game) (v : ℕ) → most ≤ terms.most → IsHeld told count fate telling terms g v old → IsHeld told count fate telling terms g v new
    pub refusals : refusals_in new.node.stage ≡ refusals_in old.node.stage

  pub held-at-first : (count : Watched D → ℕ) (fate : Watched D → Option Fate) (telling : Telling O) (most : ℕ) (s : Station D O U) → IsHeldStill count fate telling most s s
  held-at-first count fate telling most s = record { held = λ terms g v few is. is; refusals = refl }

  pub down-at-first : (s : Station D O U) → IsDownStill s s
  down-at-first s = record { down = λ g v given n doubt is. is; lines = refl; tries = omega arith; emissions = refl; rest = refl }

  -- so it may be restarted
  pub may-restart-still : (old new : Station D O U) → MayRestart told old.node.stage → IsDownStill old new → MayRestart told new.node.stage
  may-restart-still old new may is = record {
    game = may.game;
    node = may.node;
    given = may.given;
    stood_for = may.stood_for;
    doubt = may.doubt;
    down = is.down may.game may.node may.given may.stood_for may.doubt may.down;
  }

  module _ (size : Watched D → ℕ) (old mid new : Station D O U) (may : MayRestart told old.node.stage) (is : IsDownStill old mid) (same : emissions_in new.node.stage ≡ emissions_in mid.node.stage)
      (rest : new ≡ record mid { node = new.node; restarts = new.restarts; lines = new.lines }) where
    pub rest-still : new ≡ record old { node = new.node; restarts = new.restarts; lines = new.lines }
    rest-still = rest ∙ ap (λ (x : Station D O U). record x { node = new.node; restarts = new.restarts; lines = new.lines }) is.rest

    pub same-still : emissions_in new.node.stage ≡ emissions_in old.node.stage
    same-still = same ∙ is.emissions

    -- a restart that failed leaves it so
    pub down-again : ((g : Game) (v : ℕ) (given : List Packet) (n : Node) (doubt : Doubt) → IsDown told g v given n doubt mid.node.stage → RestartsStation told size (Err Disk) g v given n doubt mid new) → IsDownStill old new × (new.restarts ≡ mid.restarts + 1)
    down-again back =
        let b = back may.game may.node may.given may.stood_for may.doubt (is.down may.game may.node may.given may.stood_for may.doubt may.down) in (
          record {
            down = λ g v given n doubt was. (back g v given n doubt (is.down g v given n doubt was)).0;
            lines = b.1 ∙ is.lines;
            tries = let before = is.tries in let more = b.2 in omega (arith, before, more);
            emissions = same-still;
            rest = rest-still;
          },
          b.2,
        )

    -- and one that answers raises it
    pub raised : (most : ℕ) → mid.restarts < most → ((g : Game) (v : ℕ) (given : List Packet) (n : Node) (doubt : Doubt) → IsDown told g v given n doubt mid.node.stage → RestartsStation told size (Ok tt) g v given n doubt mid new)
        → (g : Game) (v : ℕ) (given : List Packet) (n : Node) (doubt : Doubt) → IsDown told g v given n doubt old.node.stage → RaisesStation told size (Ok tt) g v given n doubt most old new
    raised most left back g v given n doubt was =
        let b = back g v given n doubt (is.down g v given n doubt was) in
        let before = is.tries in
        let more = b.1.2 in
        (b.0, (b.1.0, b.1.1 ∙ ap (λ (xs : List ℕ). xs ++ b.0 ∷ []) is.lines, omega (arith, before, more), omega (arith, left, more)))

-- a creation that was given up leaves a node that is held, with its restarts used up
pub created-held : {D O U : Type 0} (told : Watched D → Option Story) (size : Watched D → ℕ) (count : Watched D → ℕ) (fate : Watched D → Option Fate) (telling : Telling O) (terms : Terms) (g : Game) (v most : ℕ) (s : Station D O U) → most ≡ terms.most
    → most ≤ s.restarts → IsHeld told count fate telling terms g v s → IsHeld told count fate telling terms g v s × (s.restarts ≡ terms.most)
created-held told size count fate telling terms g v most s is many held = let few = held.books.most in (held, omega (arith, is, many, few))
