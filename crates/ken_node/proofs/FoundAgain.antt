-- What a crash leaves of a node's disks is found again.
use Rattle.std.proofs.Common.{◌≡◌, ℕ, List, [], ◌∷◌, ◌++◌, length, map, replicate, take, Bool, true, refl, sym, ap, subst, ◌∙◌, Option, Some, None}
use Rattle.std.specs.List.{flat_map, zip}
use Rattle.std.proofs.lemmas.List.Concat.{flat_map-cons}
use Rattle.ken_model.specs.declared.states.State.{State}
use Rattle.ken_model.specs.declared.values.Value.{Value}
use Rattle.ken_model.specs.Game.{Game}
use Rattle.ken_model.specs.Limits.{IsWithinLimits}
use Rattle.ken_record.specs.declared.base.Base.{Base}
use Rattle.ken_record.specs.declared.header.Header.{Header}
use Rattle.ken_record.specs.declared.page.Page.{Page}
use Rattle.ken_record.specs.declared.record.Record.{Record}
use Rattle.ken_log.specs.Mounts.{mount_of}
use Rattle.ken_log.specs.Mounts as mounts
use Rattle.ken_cover.specs.Covers.{IsPossible}
use Rattle.ken_cover.specs.Sides.{pages_of}
use Rattle.ken_cover.proofs.Bases.{page_in, pages_of-first, pages_of-recounted, pages-changes_at}
use Rattle.ken_core.specs.Calls.{Doubt, no_doubt}
use Rattle.ken_core.specs.Nodes.{Node, first_node}
use Rattle.ken_core.specs.Packets.{Packet}
use Rattle.ken_store.specs.declared.disks.Which.{Which}
use Rattle.ken_store.specs.declared.disks.Which.TheVariants.{First, Second}
use Rattle.ken_store.specs.declared.owner.Owner.{Owner}
use Rattle.ken_store.specs.Kept.{base_pages, pages_in, record_pages}
use Rattle.ken_store.specs.Logs.{log_on, other_log}
use Rattle.ken_store.specs.Recovered.{Recovery, Fresh, Whole, IsRefusedAt, recovered, state_of}
use Rattle.ken_store.specs.Turning.{changed_in, live_layers, record_layer}
use Rattle.ken_store.proofs.Creating.{fresh}
use Rattle.ken_store.proofs.Standing.{found_over, recovered_by}
use Rattle.ken_whole.specs.New.{owner_of}
use Rattle.ken_node.specs.Down.{ComesOut, Finds, HasLanded, IsSound, Left, MountedLog, TellsNode, a_log, nothing}
use Rattle.ken_node.proofs.Creation.{size_is}

-- ---- the pages that the log tells

records-pages : (records : List Record) → pages_of (map record_layer records) ≡ flat_map record_pages records
records-pages [] = refl
records-pages (r ∷ rs) =
    pages_of-first (record_layer r) (map record_layer rs)
    ∙ ap (λ es. es ++ pages_of (map record_layer rs)) (pages-changes_at r.turn r.pages)
    ∙ ap (λ es. r.pages ++ es) (records-pages rs)
    ∙ sym (flat_map-cons record_pages r rs)

base-changes : (turn : ℕ) (pages : List Page) → map page_in (map changed_in (zip (replicate (length pages) turn) pages)) ≡ pages
base-changes turn [] = refl
base-changes turn (e ∷ es) = ap (λ l. e ∷ l) (base-changes turn es)

live-pages : (head : Header) (base : Option Base) (records : List Record) → pages_of (live_layers head base (replicate (length (base_pages base)) head.turns) records) ≡ pages_in base records
live-pages head None records = records-pages records
live-pages head (Some b) records =
    pages_of-first (record { turn = head.turns; changes = map changed_in (zip (replicate (length b.pages) head.turns) b.pages) }) (map record_layer records)
    ∙ ap (λ es. es ++ pages_of (map record_layer records)) (base-changes head.turns b.pages)
    ∙ ap (λ es. b.pages ++ es) (records-pages records)

-- ---- what is found

-- a log was left, over an image that is possible of it
pub record HasLog (g : Game) (v : ℕ) (given : List Packet) (n : Node) (doubt : Doubt) (log image second : List ℕ) : Type 0 where
  pub landed : Bool
  pub node : Node
  pub mounted : MountedLog
  pub comes : ComesOut g v given n doubt landed node
  pub newest : HasLanded doubt landed n node mounted.records
  pub sound : IsSound g v node
  pub tells : TellsNode g v node mounted
  pub finds : Finds (owner_of g v) log second mounted
  pub possible : IsPossible node.patching (take g.size image)

-- by which log is current
by-which : (which : Which) (o : Owner) (log image second : List ℕ) → recovered_by which o (log_on which log second) image (log_on (other_log which) log second) ≡ recovered o log image second
by-which First o log image second = refl
by-which Second o log image second = refl

module _ (g : Game) (v : ℕ) (limits : IsWithinLimits g) where
  -- what such disks recover to: the state that the log tells, and the value of the node's heap
  pub log-is-found : (m : Node) (k : MountedLog) (log image second : List ℕ) (sound : IsSound g v m) (tells : TellsNode g v m k) → Finds (owner_of g v) log second k → IsPossible m.patching (take g.size image)
      → recovered (owner_of g v) log image second ≡ Whole (state_of v tells.numbers k.base k.records) sound.value
  log-is-found m k log image second sound tells finds possible =
      let o : Owner = owner_of g v in
      let size = size_is g limits in
      let pages : pages_of m.turning.pages.live ≡ pages_in k.base k.records =
      sym (pages_of-recounted m.turning.pages.live) ∙ ap pages_of tells.live ∙ live-pages k.head k.base k.records in
      sym (by-which finds.which o log image second)
      ∙ found_over o k.head k.base k.records tells.numbers tells.numbers_are true m.turning.pages m.patching sound.covers pages sound.value sound.reads finds.which
      (log_on finds.which log second) image (log_on (other_log finds.which) log second) finds.mounts finds.owned finds.other
      (subst (λ (n : ℕ). IsPossible m.patching (take n image)) (sym size) possible)

  module _ (given : List Packet) (n : Node) (doubt : Doubt) (log image second : List ℕ) where
    -- so nothing is refused
    pub left-is-sound : Left g v given n doubt log image second → (disk place : ℕ) → IsRefusedAt (recovered (owner_of g v) log image second) disk place → ⊥
    left-is-sound (nothing first calm no_log no_second) disk place refused = subst (λ (r : Recovery). IsRefusedAt r disk place) (fresh (owner_of g v) log image second no_log no_second) refused
    left-is-sound (a_log landed m k comes newest sound tells finds possible) disk place refused = subst (λ (r : Recovery). IsRefusedAt r disk place) (log-is-found m k log image second sound tells finds possible) refused

    -- where nothing is found, the node was being created
    pub fresh-is-first : Left g v given n doubt log image second → recovered (owner_of g v) log image second ≡ Fresh → (n ≡ first_node g) × (doubt ≡ no_doubt) × (mount_of log ≡ mounts.Unformatted) × (mount_of second ≡ mounts.Unformatted)
    fresh-is-first (nothing first calm no_log no_second) is = (first, calm, no_log, no_second)
    fresh-is-first (a_log landed m k comes newest sound tells finds possible) is =
        let whole = log-is-found m k log image second sound tells finds possible in
        let none : ⊥ = cc (is, whole) in absurd none

    -- and where a state is found, there was a log
    pub whole-has-log : (state : State) (value : Value) → Left g v given n doubt log image second → recovered (owner_of g v) log image second ≡ Whole state value → HasLog g v given n doubt log image second
    whole-has-log state value (nothing first calm no_log no_second) is =
        let none = fresh (owner_of g v) log image second no_log no_second in
        let no : ⊥ = cc (is, none) in absurd no
    whole-has-log state value (a_log landed m k comes newest sound tells finds possible) is =
        record { landed = landed; node = m; mounted = k; comes = comes; newest = newest; sound = sound; tells = tells; finds = finds; possible = possible }
