-- What is to patch is behind the live records, and what was told as settled holds for ever after.
use Rattle.std.specs.Prelude.{◌≡◌, ℕ, ◌<◌, ◌≤◌, List, [], ◌∷◌, map, true, Some}
use Rattle.std.specs.List.{AllByRecursion}
use Rattle.ken_record.specs.declared.page.Page.{Page}
use Rattle.ken_cover.specs.declared.layers.Change.{Change}
use Rattle.ken_cover.specs.declared.layers.Layer.{Layer}
use Rattle.ken_cover.specs.Overlay.{numbers, among}
use Rattle.ken_cover.specs.Sides.{TurnPages, ImagePages, changes_at, first_turn_pages, first_image_pages, sealed_pages, handed_pages, IsPatch, patched_page, synced_pages, turned_pages, recovered_turn_pages, recovered_image_pages, last_change}
use Rattle.ken_cover.specs.Covers.{Covers, MayLeaveOut}
use Rattle.ken_store.specs.declared.patching.Ahead.{Ahead}
use Rattle.ken_store.specs.Ahead.{ahead_layers}
use Rattle.ken_store.specs.Patching.{IsInOrder, settled_turn}

-- each page of a layer last changed in the layer's turn, or later
abbrev pub layer_pages : Layer → List Page
layer_pages l = map (λ (c : Change). c.page) l.changes

abbrev pub IsBehind : List Layer → Layer → Type 0
IsBehind live l = (p : ℕ) → among (numbers (layer_pages l)) p ≡ true → (c : Change) × (last_change p live ≡ Some c) × (l.turn ≤ c.turn)

-- so it is of all that is to patch
abbrev pub IsAheadOf : TurnPages → ImagePages → Type 0
IsAheadOf t i = AllByRecursion (IsBehind t.live) i.ahead

-- after a sync, a base may leave out what is told as settled
abbrev pub SettledPagesAreClean : Type 0
SettledPagesAreClean = (known : ℕ) (items : List Ahead) (t : TurnPages) (i : ImagePages) → IsInOrder known items → ahead_layers items ≡ i.ahead → IsAheadOf t i → MayLeaveOut (settled_turn known items) t (synced_pages i)

-- ---- what is to patch stays behind, whatever happens

-- live pages last changed before this turn
abbrev pub LastChangedBefore : ℕ → TurnPages → Type 0
LastChangedBefore turn t = (p : ℕ) (c : Change) → last_change p t.live ≡ Some c → c.turn < turn

-- the turns of layers never fall
abbrev pub LayersRise : ℕ → List Layer → Type 0
LayersRise least [] = Unit {0}
LayersRise least (l ∷ ls) = (least ≤ l.turn) × LayersRise l.turn ls

abbrev pub StartIsAhead : Type 0
StartIsAhead = (heap : List ℕ) → IsAheadOf (first_turn_pages heap) (first_image_pages heap)

-- a turn that comes after all others is sealed, and its record handed
abbrev pub SealKeepsAhead : Type 0
SealKeepsAhead = (turn : ℕ) (pages : List Page) (t : TurnPages) (i : ImagePages) → LastChangedBefore turn t → IsAheadOf t i → IsAheadOf (sealed_pages turn pages t) (handed_pages turn pages i)

-- sealed, and not handed yet
abbrev pub SealAloneKeepsAhead : Type 0
SealAloneKeepsAhead = (turn : ℕ) (pages : List Page) (t : TurnPages) (i : ImagePages) → LastChangedBefore turn t → IsAheadOf t i → IsAheadOf (sealed_pages turn pages t) i

-- and handed later
abbrev pub HandKeepsAhead : Type 0
HandKeepsAhead = (turn : ℕ) (pages : List Page) (t : TurnPages) (i : ImagePages) → IsBehind t.live (record { turn = turn; changes = changes_at turn pages }) → IsAheadOf t i → IsAheadOf t (handed_pages turn pages i)

abbrev pub PatchKeepsAhead : Type 0
PatchKeepsAhead = (t : TurnPages) (i : ImagePages) (p : ℕ) (first : Layer) (rest : List Layer) (c : Change) → IsPatch i p first rest c → IsAheadOf t i → IsAheadOf t (patched_page first rest c i)

abbrev pub SyncKeepsAhead : Type 0
SyncKeepsAhead = (t : TurnPages) (i : ImagePages) → IsAheadOf t i → IsAheadOf t (synced_pages i)

abbrev pub TurnoverKeepsAhead : Type 0
TurnoverKeepsAhead = (n settled turn : ℕ) (t : TurnPages) (i : ImagePages) → MayLeaveOut settled t i → Covers n true t i → IsAheadOf t i → IsAheadOf (turned_pages n settled turn t) i

abbrev pub RecoveryIsAhead : Type 0
RecoveryIsAhead = (image : List ℕ) (t : TurnPages) (i : ImagePages) → LayersRise 0 t.live → IsAheadOf (recovered_turn_pages image t) (recovered_image_pages t.live i)

-- ---- what was told as settled holds for ever after

abbrev pub SealKeepsSettled : Type 0
SealKeepsSettled = (settled turn : ℕ) (pages : List Page) (t : TurnPages) (i : ImagePages) → settled < turn → MayLeaveOut settled t i → MayLeaveOut settled (sealed_pages turn pages t) (handed_pages turn pages i)

abbrev pub SealAloneKeepsSettled : Type 0
SealAloneKeepsSettled = (settled turn : ℕ) (pages : List Page) (t : TurnPages) (i : ImagePages) → settled < turn → MayLeaveOut settled t i → MayLeaveOut settled (sealed_pages turn pages t) i

abbrev pub HandKeepsSettled : Type 0
HandKeepsSettled = (settled turn : ℕ) (pages : List Page) (t : TurnPages) (i : ImagePages) → settled < turn → IsBehind t.live (record { turn = turn; changes = changes_at turn pages }) → MayLeaveOut settled t i → MayLeaveOut settled t (handed_pages turn pages i)

abbrev pub PatchKeepsSettled : Type 0
PatchKeepsSettled = (settled : ℕ) (t : TurnPages) (i : ImagePages) (p : ℕ) (first : Layer) (rest : List Layer) (c : Change) → IsPatch i p first rest c → MayLeaveOut settled t i → MayLeaveOut settled t (patched_page first rest c i)

abbrev pub SyncKeepsSettled : Type 0
SyncKeepsSettled = (n settled : ℕ) (t : TurnPages) (i : ImagePages) → Covers n true t i → MayLeaveOut settled t i → MayLeaveOut settled t (synced_pages i)

-- a base that left out what was told before
abbrev pub TurnoverKeepsSettled : Type 0
TurnoverKeepsSettled = (n settled turn told : ℕ) (t : TurnPages) (i : ImagePages) → MayLeaveOut told t i → MayLeaveOut told (turned_pages n settled turn t) i
