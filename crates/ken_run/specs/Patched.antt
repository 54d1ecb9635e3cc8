-- What the calls of a visit make of a node's station and of its image: its pages are written there and synced, or it is restarted.
use Rattle.std.specs.Prelude.{◌≡◌, ◌≢◌, ◌⊎◌, ℕ, ◌+◌, ◌<◌, ◌≤◌, [], ◌∷◌, ◌++◌, length, slice_index_or, Option, Result, Ok, Err, OnOk}
use Rattle.std.specs.List.{AllByRecursion}
use Rattle.ken_disk.specs.Story.{Story, Follows, IsAtRest, Tells}
use Rattle.ken_model.specs.Network.{outside}
use Rattle.ken_order.specs.Consumed.{consumed_from}
use Rattle.ken_ship.specs.declared.faults.NodeFault.{NodeFault}
use Rattle.ken_ship.specs.declared.faults.NodeFault.TheVariants.{Disk, Damaged, Outlet, Memory}
use Rattle.ken_node.specs.declared.stage.Stage.{Stage}
use Rattle.ken_node.specs.declared.stage.Stage.TheVariants.{Uncreated, Created, Moved}
use Rattle.ken_node.specs.declared.watched.Watched.{Watched}
use Rattle.ken_node.specs.Stages.{image_told, turns_in}
use Rattle.ken_node.specs.Synced.{HasMadeSync, KeepsStory}
use Rattle.ken_run.specs.declared.run.Run.{Run}
use Rattle.ken_run.specs.declared.station.Station.{Station}
use Rattle.ken_run.specs.Left.{left_at, turns_left}

module _ {D : Type 0} where
  -- no page waits to be written to its image
  abbrev pub IsPatched : Stage D → Type 0
  IsPatched (Uncreated disks parts) = ⊥
  IsPatched (Created t p s) = p.side.ahead.items ≡ []
  IsPatched Moved = ⊥

  -- no input waits for it
  abbrev pub HasNoInput : Stage D → Type 0
  HasNoInput (Uncreated disks parts) = ⊥
  HasNoInput (Created t p s) = length t.inputs.items ≤ consumed_from t.order outside
  HasNoInput Moved = ⊥

module _ {D O U : Type 0} where
  -- node v can't make a turn now: it has made all its turns, or neither mail nor an input waits for it
  abbrev pub MakesNone : {A : Type 0} → ℕ → Run D O U A → Type 0
  MakesNone v r =
      (left_at turns_left r.stations.items v ≡ 0)
      ⊎ ((slice_index_or r.waiting.mail v [] ≡ []) × ((d : Station D O U) → HasNoInput (slice_index_or r.stations.items v d).node.stage))

  -- no page waits to be written to the image of node v
  abbrev pub IsPatchedAt : {A : Type 0} → ℕ → Run D O U A → Type 0
  IsPatchedAt v r = (d : Station D O U) → IsPatched (slice_index_or r.stations.items v d).node.stage

  -- the station of node v changed so, and no other
  pub record Changes {A : Type 0} (how : Station D O U → Station D O U → Type 0) (v : ℕ) (old new : Run D O U A) : Type 0 where
    pub width : length new.stations.items ≡ length old.stations.items
    pub others : (u : ℕ) (d : Station D O U) → u ≢ v → slice_index_or new.stations.items u d ≡ slice_index_or old.stations.items u d
    pub own : (d : Station D O U) → how (slice_index_or old.stations.items v d) (slice_index_or new.stations.items v d)

  -- it wasn't restarted
  pub record IsNotRestarted (old new : Station D O U) : Type 0 where
    pub tries : new.restarts ≡ old.restarts
    pub lines : new.lines.items ≡ old.lines.items

  -- a call of node v that is no restart, by its answer
  abbrev pub IsCall : {A T E : Type 0} → Result T E → (Station D O U → Station D O U → Type 0) → ℕ → Run D O U A → Run D O U A → Type 0
  IsCall result how v old new = Changes (λ a b. IsNotRestarted a b × OnOk result (how a b)) v old new

  -- it was restarted, and is up again, with the number of turns that its last line has
  pub record WasRestarted (old new : Station D O U) : Type 0 where
    pub tries : old.restarts < new.restarts
    pub line : new.lines.items ≡ old.lines.items ++ length (turns_in new.node.stage) ∷ []

  -- it made a turn after its last restart, or was never restarted
  abbrev pub HasGoneOn : Station D O U → Type 0
  HasGoneOn s = AllByRecursion (λ n. n < length (turns_in s.node.stage)) s.lines.items

  -- by the answer of a restart
  abbrev pub TriesBy : Result (Unit {0}) NodeFault → Station D O U → Station D O U → Type 0
  TriesBy (Ok x) old new = WasRestarted old new
  TriesBy (Err Disk) old new = (old.restarts < new.restarts) × (new.lines.items ≡ old.lines.items)
  TriesBy (Err Memory) old new = Unit {0}
  TriesBy (Err Outlet) old new = Unit {0}
  TriesBy (Err (Damaged disk place)) old new = Unit {0}

-- it synced, after other calls or none: it has more syncs and more past states, and nothing is pending
abbrev pub SyncsOn : Story → Story → Type 0
SyncsOn a b = IsAtRest b.now × (a.now.syncs < b.now.syncs) × (length a.past < length b.past)

module _ {D O U : Type 0} (told : Watched D → Option Story) where
  -- the disk of its image counts as many syncs as before and has as many past states, or more
  abbrev pub MaySync : Station D O U → Station D O U → Type 0
  MaySync old new = KeepsStory (image_told told old.node.stage) (image_told told new.node.stage)

  -- and all its pages are there
  pub record HasPatched (old new : Station D O U) : Type 0 where
    pub syncs : MaySync old new
    pub patched : IsPatched new.node.stage

  -- the disk of its image made a sync, and no page waits for the image where none did
  pub record HasSettled (old new : Station D O U) : Type 0 where
    pub synced : HasMadeSync (image_told told old.node.stage) (image_told told new.node.stage)
    pub patched : IsPatched old.node.stage → IsPatched new.node.stage

  -- nothing was written to its image
  pub record KeepsImage (old new : Station D O U) : Type 0 where
    pub same : image_told told new.node.stage ≡ image_told told old.node.stage
    pub patched : IsPatched old.node.stage → IsPatched new.node.stage

  -- all its pages are in its image, where the disk of the image made a sync since; so nothing is pending there, and a crash leaves them
  pub record IsSettledSince (old new : Station D O U) : Type 0 where
    pub patched : IsPatched new.node.stage
    pub synced : Follows SyncsOn (image_told told old.node.stage) (image_told told new.node.stage)

  -- all its pages are in its image, and nothing is pending there
  pub record HasItsImage (s : Station D O U) : Type 0 where
    pub patched : IsPatched s.node.stage
    pub rests : Tells (image_told told s.node.stage) (λ h. IsAtRest h.now)

  -- so it is of each node that made a turn after its last restart, if any
  abbrev pub HaveImages : {A : Type 0} → Run D O U A → Type 0
  HaveImages r = (v : ℕ) (d : Station D O U) → v < length r.stations.items → HasGoneOn (slice_index_or r.stations.items v d) → HasItsImage (slice_index_or r.stations.items v d)

  -- it was visited: it was restarted, or it wasn't and did all that there was to do
  abbrev pub WasVisited : Station D O U → Station D O U → Type 0
  WasVisited old new = WasRestarted old new ⊎ (IsNotRestarted old new × IsSettledSince old new)

  -- each node of a run was
  pub record AllVisited {A : Type 0} (old new : Run D O U A) : Type 0 where
    pub width : length new.stations.items ≡ length old.stations.items
    pub each : (v : ℕ) (d : Station D O U) → v < length old.stations.items → WasVisited (slice_index_or old.stations.items v d) (slice_index_or new.stations.items v d)

  -- no restart line was lost; where none came, the story of its image has at least so many past states more, if its
  -- disk tells
  pub record AddsStates (many : ℕ) (old new : Station D O U) : Type 0 where
    pub lines : length old.lines.items ≤ length new.lines.items
    pub states : length new.lines.items ≡ length old.lines.items
        → Follows (λ (a b : Story). length a.past + many ≤ length b.past)
        (image_told told old.node.stage) (image_told told new.node.stage)

  -- so it is of each node of a run
  pub record AllAdd {A : Type 0} (many : ℕ) (old new : Run D O U A) : Type 0 where
    pub width : length new.stations.items ≡ length old.stations.items
    pub each : (v : ℕ) (d : Station D O U) → v < length old.stations.items
        → AddsStates many (slice_index_or old.stations.items v d) (slice_index_or new.stations.items v d)

  -- by the answer of a call
  abbrev pub AddStates : {A T E : Type 0} → ℕ → Run D O U A → Result T E → Run D O U A → Type 0
  AddStates many old result new = OnOk result (AllAdd many old new)
