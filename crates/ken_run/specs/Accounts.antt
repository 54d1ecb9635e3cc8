-- What a run keeps account of, for each of its nodes: the syncs of its logs, what its oracle answered, its restarts with their causes, and
-- what it emitted again.
use Rattle.std.specs.Prelude.{◌≡◌, ◌≢◌, ℕ, ◌+◌, ◌-◌, ◌*◌, ◌^◌, ◌<◌, ◌≤◌, min, ◌⊎◌, List, [], ◌∷◌, ◌++◌, length, map, slice_index_or, Bool, true, false, Option, Some, IfSome, Result, Ok, Err}
use Rattle.std.specs.List.{flat_map}
use Rattle.ken_disk.specs.Fates.{Fate, Origin}
use Rattle.ken_disk.specs.Story.{Story}
use Rattle.ken_model.specs.declared.messages.Out.{Out}
use Rattle.ken_model.specs.declared.reports.Emission.{Emission}
use Rattle.ken_model.specs.Game.{Game}
use Rattle.ken_model.specs.Handler.{Handler}
use Rattle.ken_model.specs.Restarts.{NeverFall}
use Rattle.ken_record.specs.declared.effects.Effects.{Effects}
use Rattle.ken_app.specs.Oracles.{Telling}
use Rattle.ken_app.specs.declared.turn.TheConstants.{MAX_DRAWS}
use Rattle.ken_core.specs.Calls.{Doubt, no_doubt, seal, turnover}
use Rattle.ken_core.specs.Nodes.{Node}
use Rattle.ken_core.specs.Packets.{Packet}
use Rattle.ken_store.specs.declared.disks.Disks.{Disks}
use Rattle.ken_ship.specs.declared.faults.NodeFault.{NodeFault}
use Rattle.ken_ship.specs.declared.faults.NodeFault.TheVariants.{Disk, Damaged, Outlet, Memory}
use Rattle.ken_ship.specs.Parts.{part_of}
use Rattle.ken_node.specs.declared.stage.Stage.{Stage}
use Rattle.ken_node.specs.declared.stage.Stage.TheVariants.{Uncreated, Created, Moved}
use Rattle.ken_node.specs.declared.watched.Watched.{Watched}
use Rattle.ken_node.specs.Down.{IsDown}
use Rattle.ken_node.specs.Stages.{HasDisks, emissions_in, turns_in}
use Rattle.ken_node.specs.Synced.{IsSynced}
use Rattle.ken_run.specs.declared.faults.RunFault.{RunFault}
use Rattle.ken_run.specs.declared.faults.RunFault.TheVariants.{Down}
use Rattle.ken_run.specs.declared.faults.RunFault.TheVariants as run_faults
use Rattle.ken_run.specs.declared.run.Run.{Run}
use Rattle.ken_run.specs.declared.station.Station.{Station}
use Rattle.ken_run.specs.Running.{IsRunning, IsStopped}
use Rattle.ken_run.specs.Sequences.{IsSubsequence, descents}
use Rattle.ken_run.specs.Devices.{IsOf, IsTold}

-- the terms of a run: its seed, how often a node may be restarted, how many cuts were handed to the disks of each node, whose each of these
-- is and with which cuts, and at which calls its outlet may fail; in a scripted world disks and outlets tell what becomes of them
pub record Terms : Type 0 where
  pub seed : ℕ
  pub most : ℕ
  pub scripted : Bool
  pub cuts : ℕ → ℕ
  pub origins : ℕ → ℕ → Origin
  pub fails : ℕ → List ℕ

-- ---- of one node

-- the draws of turns, those of each by themselves
abbrev pub draws_of : List Effects → List (List ℕ)
draws_of turns = map (λ (t : Effects). t.draws) turns

-- and those of a turn whose seal is in doubt
abbrev pub doubted : Doubt → List (List ℕ)
doubted no_doubt = []
doubted (seal from draws pages) = draws ∷ []
doubted (turnover told) = []

-- the numbers of what was emitted
abbrev pub numbers_of : List Emission → List ℕ
numbers_of es = map (λ (e : Emission). e.out.number) es

-- through which number the node knows its outputs to be emitted
abbrev pub emitted_through : {D : Type 0} → Stage D → ℕ
emitted_through (Uncreated disks parts) = (part_of parts.sends).due.emitted
emitted_through (Created t p s) = (part_of s).due.emitted
emitted_through Moved = 0

-- how many calls of a node's disks failed, as the disks count them
abbrev pub faults_of : {D : Type 0} → (D → ℕ) → Disks D → ℕ
faults_of count disks = count disks.log + count disks.image + count disks.second

-- at least so many calls of the disks of a stage failed, up to the end of a count's range
abbrev pub HasFailedOften : {D : Type 0} → (D → ℕ) → ℕ → Stage D → Type 0
HasFailedOften {D} count often stage = (disks : Disks D) → HasDisks disks stage → min often (2 ^ 64 - 1) ≤ faults_of count disks

-- none did
abbrev pub HasNotFailed : {D : Type 0} → (D → ℕ) → Stage D → Type 0
HasNotFailed {D} count stage = (disks : Disks D) → HasDisks disks stage → faults_of count disks ≡ 0

-- a disk has this origin and was restarted so often, as far as it tells
abbrev pub IsOwnDisk : Bool → Origin → ℕ → Option Fate → Type 0
IsOwnDisk scripted origin often fate = IsTold scripted fate (λ f. (f.origin ≡ origin) × (length f.picks ≡ often))

-- three disks are those with these origins: the log is disk 0, the image disk 1 and the second log disk 2
pub record AreOwnDisks {D : Type 0} (fate : D → Option Fate) (scripted : Bool) (origins : ℕ → Origin) (often : ℕ) (disks : Disks D) : Type 0 where
  pub log : IsOwnDisk scripted (origins 0) often (fate disks.log)
  pub image : IsOwnDisk scripted (origins 1) often (fate disks.image)
  pub second : IsOwnDisk scripted (origins 2) often (fate disks.second)

-- so of the disks of a stage
abbrev pub HasOwnDisks : {D : Type 0} → (D → Option Fate) → Bool → (ℕ → Origin) → ℕ → Stage D → Type 0
HasOwnDisks {D} fate scripted origins often stage = (disks : Disks D) → HasDisks disks stage → AreOwnDisks fate scripted origins often disks

-- three disks tell of their falls
pub record AreTelling {D : Type 0} (fate : D → Option Fate) (disks : Disks D) : Type 0 where
  pub log : Fate
  pub image : Fate
  pub second : Fate
  pub log_is : fate disks.log ≡ Some log
  pub image_is : fate disks.image ≡ Some image
  pub second_is : fate disks.second ≡ Some second

-- this holds of what three disks tell of their falls, where all do; in a scripted world they do
pub record AreFated {D : Type 0} (fate : D → Option Fate) (scripted : Bool) (P : Fate → Fate → Fate → Type 0) (disks : Disks D) : Type 0 where
  pub falls : (l i s : Fate) → fate disks.log ≡ Some l → fate disks.image ≡ Some i → fate disks.second ≡ Some s → P l i s
  pub tell : scripted ≡ true → AreTelling fate disks

-- so of the disks of a stage
abbrev pub HasFates : {D : Type 0} → (D → Option Fate) → Bool → (Fate → Fate → Fate → Type 0) → Stage D → Type 0
HasFates {D} fate scripted P stage = (disks : Disks D) → HasDisks disks stage → AreFated fate scripted P disks

-- three disks have so few falls left that with so many that were met they are no more than the cuts
abbrev pub HaveFallen : ℕ → ℕ → Fate → Fate → Fate → Type 0
HaveFallen cuts often l i s = l.falls + i.falls + s.falls + often ≤ cuts

-- and none of them is down
abbrev pub AreRaised : ℕ → ℕ → Fate → Fate → Fate → Type 0
AreRaised cuts often l i s = (l.down ≡ false) × (i.down ≡ false) × (s.down ≡ false) × HaveFallen cuts often l i s

-- what an oracle tells has in it what turns with these draws drew, in order: those of a turn that was lost drew for nothing
pub record HasDrawn {O : Type 0} (telling : Telling O) (h : Handler) (luck : O) (draws : List (List ℕ)) : Type 0 where
  pub clocks : IfSome (telling.clocks luck) (IsSubsequence (flat_map h.clocks draws))
  pub words : IfSome (telling.words luck) (IsSubsequence (flat_map h.words draws))

-- an oracle tells all that it has answered, so much at most of each sort
pub record TellsAtMost {O : Type 0} (telling : Telling O) (luck : O) (most : ℕ) : Type 0 where
  pub clocks : IsTold true (telling.clocks luck) (λ told. length told ≤ most)
  pub words : IsTold true (telling.words luck) (λ told. length told ≤ most)

-- in a scripted world an oracle tells all that it has answered as long as so many turns may have been begun, which draw 16 times at most
abbrev pub TellsAll : {O : Type 0} → Bool → Telling O → O → ℕ → Type 0
TellsAll scripted telling luck begun = scripted ≡ true → MAX_DRAWS * begun < 2 ^ 64 - 1 → TellsAtMost telling luck (MAX_DRAWS * begun)

module _ {D O U : Type 0} (told : Watched D → Option Story) (count : Watched D → ℕ) (fate : Watched D → Option Fate) (telling : Telling O) (terms : Terms) (g : Game) where
  -- of node v, up or down: its syncs, whose its oracle and its disks are, its restarts, which its disks tell too, and with how many turns it
  -- went on each time that one answered
  pub record HasBooks (v : ℕ) (s : Station D O U) : Type 0 where
    pub synced : IsSynced told count g v s.node.stage
    pub own : HasOwnDisks fate terms.scripted (terms.origins v) s.restarts s.node.stage
    pub origin : IsOf terms.scripted telling s.luck v terms.seed
    pub lines : NeverFall 0 s.lines.items (length (turns_in s.node.stage))
    pub few : length s.lines.items ≤ s.restarts
    pub most : s.restarts ≤ terms.most

  -- it is up: each restart had its cause, a call of one of its disks that failed; and with the number after the last one that it knows
  -- to be emitted, what it emitted fails to rise at most as often as a restart answered
  pub record IsAccounted (v : ℕ) (s : Station D O U) : Type 0 where
    pub books : HasBooks v s
    pub drew : HasDrawn telling g.handler s.luck (draws_of (turns_in s.node.stage))
    pub tells : TellsAll terms.scripted telling s.luck (length (turns_in s.node.stage) + s.restarts)
    pub causes : HasFailedOften count s.restarts s.node.stage
    pub fates : HasFates fate terms.scripted (AreRaised (terms.cuts v) s.restarts) s.node.stage
    pub calm : s.lines.items ≡ [] → HasNotFailed count s.node.stage
    pub again : descents 0 (numbers_of (emissions_in s.node.stage) ++ (emitted_through s.node.stage + 1) ∷ []) ≤ length s.lines.items

  -- it is down: the next restart has its cause too, and what a turn drew whose seal is in doubt stands behind what the others drew
  pub record IsHeld (v : ℕ) (s : Station D O U) : Type 0 where
    pub books : HasBooks v s
    pub given : List Packet
    pub stood_for : Node
    pub doubt : Doubt
    pub down : IsDown told g v given stood_for doubt s.node.stage
    pub drew : HasDrawn telling g.handler s.luck (draws_of (turns_in s.node.stage) ++ doubted doubt)
    pub tells : TellsAll terms.scripted telling s.luck (length (turns_in s.node.stage) + s.restarts + 1)
    pub causes : HasFailedOften count (s.restarts + 1) s.node.stage
    pub fates : HasFates fate terms.scripted (HaveFallen (terms.cuts v) (s.restarts + 1)) s.node.stage
    pub again : descents 0 (numbers_of (emissions_in s.node.stage)) ≤ length s.lines.items

  -- what a restart of node v leaves of it, by the answer
  abbrev pub AccountsStation : Result (Unit {0}) NodeFault → ℕ → Station D O U → Type 0
  AccountsStation (Ok x) v s = IsAccounted v s
  AccountsStation (Err Disk) v s = IsHeld v s
  AccountsStation (Err Memory) v s = Unit {0}
  AccountsStation (Err Outlet) v s = ⊥
  AccountsStation (Err (Damaged disk place)) v s = Unit {0}

  -- ---- of a run

  -- all nodes that were made are up
  pub record AreAccounted {A : Type 0} (made : ℕ) (r : Run D O U A) : Type 0 where
    pub most : r.restarts ≡ terms.most
    pub each : (v : ℕ) (d : Station D O U) → v < made → IsAccounted v (slice_index_or r.stations.items v d)

  -- node v is down, and the others are up
  pub record OneIsHeld {A : Type 0} (made v : ℕ) (r : Run D O U A) : Type 0 where
    pub most : r.restarts ≡ terms.most
    pub held : (d : Station D O U) → IsHeld v (slice_index_or r.stations.items v d)
    pub others : (u : ℕ) (d : Station D O U) → u < made → u ≢ v → IsAccounted u (slice_index_or r.stations.items u d)

  -- by the answer of a call of node v, or several. After want of memory nothing is said
  abbrev pub AccountsFault : {A : Type 0} → NodeFault → ℕ → ℕ → Run D O U A → Type 0
  AccountsFault Disk made v r = OneIsHeld made v r
  AccountsFault Memory made v r = Unit {0}
  AccountsFault Outlet made v r = AreAccounted made r
  AccountsFault (Damaged disk place) made v r = Unit {0}

  abbrev pub AccountsBy : {A T : Type 0} → Result T NodeFault → ℕ → ℕ → Run D O U A → Type 0
  AccountsBy (Ok x) made v r = AreAccounted made r
  AccountsBy (Err fault) made v r = AccountsFault fault made v r

  -- node v is down and has used up its restarts, so its disks failed more often than it may be restarted
  pub record IsUsedUp {A : Type 0} (made v : ℕ) (r : Run D O U A) : Type 0 where
    pub held : OneIsHeld made v r
    pub none_left : (d : Station D O U) → (slice_index_or r.stations.items v d).restarts ≡ terms.most

  -- by the answer of visits
  abbrev pub AccountsRunFault : {A : Type 0} → RunFault → ℕ → Run D O U A → Type 0
  AccountsRunFault (run_faults.Damaged v disk place) made r = Unit {0}
  AccountsRunFault (Down v) made r = IsUsedUp made v r ⊎ AreAccounted made r
  AccountsRunFault run_faults.Memory made r = Unit {0}

  abbrev pub AccountsRunBy : {A T : Type 0} → Result T RunFault → ℕ → Run D O U A → Type 0
  AccountsRunBy (Ok x) made r = AreAccounted made r
  AccountsRunBy (Err fault) made r = AccountsRunFault fault made r

-- where all were up and accounted for, they still are; and where node v was down
module _ {D O U A : Type 0} (told : Watched D → Option Story) (size : Watched D → ℕ) (took : U → Option (List Out)) (handles : A → Handler) (count : Watched D → ℕ) (fate : Watched D → Option Fate) (telling : Telling O) where
  abbrev pub StaysAccounted : ℕ → Run D O U A → Run D O U A → Type 0
  StaysAccounted v old new = (terms : Terms) (g : Game) (made : ℕ) → IsRunning told size took handles g made old → v < made → AreAccounted told count fate telling terms g made old → AreAccounted told count fate telling terms g made new

  abbrev pub StayAccounted : Run D O U A → Run D O U A → Type 0
  StayAccounted old new = (terms : Terms) (g : Game) (made : ℕ) → IsRunning told size took handles g made old → AreAccounted told count fate telling terms g made old → AreAccounted told count fate telling terms g made new

  abbrev pub StaysHeld : ℕ → Run D O U A → Run D O U A → Type 0
  StaysHeld v old new = (terms : Terms) (g : Game) (made : ℕ) → IsStopped told size took handles g made v old → OneIsHeld told count fate telling terms g made v old → OneIsHeld told count fate telling terms g made v new
