-- A node that is up may be restarted.
use Rattle.std.proofs.Common.{◌≡◌, ℕ, ◌*◌, ◌<◌, List, [], ◌∷◌, length, map, replicate, take, Bool, true, false, inr, refl, sym, ap, subst, ◌∙◌, arith, Option, Some, None}
use Rattle.std.specs.List.{zip}
use Rattle.ken_disk.specs.Story.{Story, IsImage, Tells}
use Rattle.ken_disk.proofs.Images.{image_at_rest, image-synced}
use Rattle.ken_model.specs.Game.{Game}
use Rattle.ken_model.specs.Limits.{IsWithinLimits}
use Rattle.ken_model.specs.Reading.{read_value}
use Rattle.ken_record.specs.declared.base.Base.{Base}
use Rattle.ken_record.specs.declared.header.Header.{Header}
use Rattle.ken_record.specs.declared.page.Page.{Page}
use Rattle.ken_record.specs.declared.record.Record.{Record}
use Rattle.ken_log.specs.Mounts.{mount_of}
use Rattle.ken_log.specs.Mounts as mounts
use Rattle.ken_cover.specs.declared.layers.Change.{Change}
use Rattle.ken_cover.specs.declared.layers.Layer.{Layer}
use Rattle.ken_cover.specs.Covers.{Covers, IsPossible}
use Rattle.ken_cover.specs.Sides.{ImagePages, TurnPages, changes_at, recounted}
use Rattle.ken_core.specs.Calls.{Doubt, no_doubt}
use Rattle.ken_core.specs.Nodes.{Node, heap_pages}
use Rattle.ken_core.specs.Packets.{Packet}
use Rattle.ken_core.specs.Steps.{recovered_node}
use Rattle.ken_store.specs.declared.disks.Which.{Which}
use Rattle.ken_store.specs.declared.disks.Which.TheVariants.{First, Second}
use Rattle.ken_store.specs.declared.owner.Owner.{Owner}
use Rattle.ken_store.specs.declared.disks.Disks.{Disks}
use Rattle.ken_store.specs.Answers.{TellsAll, disks_from}
use Rattle.ken_store.specs.Apart.{disks_apart, hand_all}
use Rattle.ken_store.specs.Kept.{base_pages}
use Rattle.ken_store.specs.Logs.{front_of, is_owned, log_on}
use Rattle.ken_store.specs.Patching.{HoldsImage}
use Rattle.ken_store.specs.Recovered.{numbers_of, state_of}
use Rattle.ken_store.specs.Turning.{IsPassed, PassesOver, changed_in, live_layers, record_layer, state_in, turn_pages}
use Rattle.ken_store.proofs.ApartPages.{hand_all-possible}
use Rattle.ken_ship.specs.declared.worker.SendWorker.{SendWorker}
use Rattle.ken_ship.specs.Laws.{IsStateOf}
use Rattle.ken_work.specs.declared.patcher.PatchWorker.{PatchWorker}
use Rattle.ken_node.specs.declared.stage.Stage.TheVariants.{Created}
use Rattle.ken_work.specs.declared.worker.TurnWorker.{TurnWorker}
use Rattle.ken_whole.specs.New.{owner_of}
use Rattle.ken_node.specs.Down.{AreTold, ComesOut, Finds, HasLanded, IsDown, IsSound, LeavesLog, LeavesNode, MountedLog, TellsNode, a_log}
use Rattle.ken_node.specs.DownLaws.{WholeGoesDown}
use Rattle.ken_work.specs.Meeting.{AreJoined}
use Rattle.ken_work.specs.Patches.{waits_of}
use Rattle.ken_whole.specs.Whole.{AreOfRun, AreWorkersOf, IsWhole}
use Rattle.ken_app.specs.Limits.{ComesTo}
use Rattle.ken_whole.proofs.PatchesWhole.{covers-node}

-- ---- which of two logs is current

module _ (o : Owner) (k : MountedLog) (owned : is_owned o k.head ≡ true) where
  pub finds-current : (which : Which) (log other : List ℕ) → mount_of log ≡ mounts.Whole k.head k.base k.records → IsPassed o k.head (front_of other) → Finds o (log_on which log other) (log_on which other log) k
  finds-current First log other is older = record { which = First; mounts = is; owned = owned; other = older }
  finds-current Second log other is older = record { which = Second; mounts = is; owned = owned; other = older }

  -- the log on the other disk
  pub finds-other : (which : Which) (log other : List ℕ) → mount_of other ≡ mounts.Whole k.head k.base k.records → IsPassed o k.head (front_of log) → Finds o (log_on which log other) (log_on which other log) k
  finds-other First log other is older = record { which = Second; mounts = is; owned = owned; other = older }
  finds-other Second log other is older = record { which = First; mounts = is; owned = owned; other = older }

-- ---- what a crash leaves, where a log is there

pub record FoundLog (g : Game) (v : ℕ) (given : List Packet) (n : Node) (doubt : Doubt) (log image second : List ℕ) : Type 0 where
  pub landed : Bool
  pub node : Node
  pub holds : MountedLog
  pub comes_out : ComesOut g v given n doubt landed node
  pub last : HasLanded doubt landed n node holds.records
  pub sound : IsSound g v node
  pub tells : TellsNode g v node holds
  pub finds : Finds (owner_of g v) log second holds
  pub possible : IsPossible node.patching (take g.size image)

-- a log that mounts isn't unformatted
one-there : (o : Owner) (which : Which) (log second : List ℕ) (k : MountedLog) → mount_of (log_on which log second) ≡ mounts.Whole k.head k.base k.records → mount_of log ≡ mounts.Unformatted → mount_of second ≡ mounts.Unformatted → ⊥
one-there o First log second k is first other = let both = sym is ∙ first in absurd cc
one-there o Second log second k is first other = let both = sym is ∙ other in absurd cc

module _ {D : Type 0} (told : D → Option Story) (g : Game) (v : ℕ) (given : List Packet) (n : Node) (doubt : Doubt) where
  abbrev pub LeavesLogs : Disks D → Type 0
  LeavesLogs disks = TellsAll told disks (λ l i s. (log image second : List ℕ) → IsImage l.now log → IsImage i.now image → IsImage s.now second → FoundLog g v given n doubt log image second)

  -- by which log is current
  pub leaves-by : (log image other : D) (which : Which)
      → ((l i s : Story) → told log ≡ Some l → told image ≡ Some i → told other ≡ Some s → (a b c : List ℕ) → IsImage l.now a → IsImage i.now b → IsImage s.now c → FoundLog g v given n doubt (log_on which a c) b (log_on which c a))
      → LeavesLogs (disks_from which log image other)
  leaves-by log image other First each l tl i ti s ts = λ a b c la ib sc. each l i s tl ti ts a b c la ib sc
  leaves-by log image other Second each s ts i ti l tl = λ c b a sc ib la. each l i s tl ti ts a b c la ib sc

  leaves-node : (disks : Disks D) → LeavesLogs disks → LeavesNode told g v given n doubt disks
  leaves-node disks leaves l tl i ti s ts = λ log image second in_log in_image in_second.
      let found = leaves l tl i ti s ts log image second in_log in_image in_second in
      a_log found.landed found.node found.holds found.comes_out found.last found.sound found.tells found.finds found.possible

  leaves-log : (disks : Disks D) → LeavesLogs disks → LeavesLog told disks
  leaves-log disks leaves l tl i ti s ts = λ log second in_log in_second first other.
      let found = leaves l tl i ti s ts log i.now.synced second in_log (image-synced i.now) in_second in
      one-there (owner_of g v) found.finds.which log second found.holds found.finds.mounts first other

  -- so the node may be restarted
  pub is-down : (t : TurnWorker D) (p : PatchWorker D) (s : SendWorker) → IsWithinLimits g → v < g.nodes → AreOfRun g v t s → AreJoined t p s → t.turns.items ≡ n.turning.turns → AreTold told (disks_apart t.side p.side) → LeavesLogs (disks_apart t.side p.side)
      → IsDown told g v given n doubt (Created t p s)
  is-down t p s limits known of_run joined turns tell leaves = record {
    limits = limits;
    known = known;
    of_node = (of_run, joined);
    turns = turns;
    disks = disks_apart t.side p.side;
    has = refl;
    tell = tell;
    leaves = leaves-node (disks_apart t.side p.side) leaves;
    either = inr (leaves-log (disks_apart t.side p.side) leaves);
  }

-- ---- a recovery counts each page of a base as changed by the base's last turn

recount-zip : (turn : ℕ) (turns : List ℕ) (pages : List Page) → length turns ≡ length pages
    → map (λ (c : Change). record c { turn = turn }) (map changed_in (zip turns pages)) ≡ map changed_in (zip (replicate (length pages) turn) pages)
recount-zip turn [] [] same = refl
recount-zip turn [] (e ∷ es) same = absurd (let none : ⊥ = cc same in none)
recount-zip turn (t ∷ ts) [] same = absurd (let none : ⊥ = cc same in none)
recount-zip turn (t ∷ ts) (e ∷ es) same = ap (λ (cs : List Change). record { turn = turn; page = e } ∷ cs) (recount-zip turn ts es (cc same))

-- those of a record do already
recount-at : (turn : ℕ) (pages : List Page) → map (λ (c : Change). record c { turn = turn }) (changes_at turn pages) ≡ changes_at turn pages
recount-at turn [] = refl
recount-at turn (e ∷ es) = ap (λ (cs : List Change). record { turn = turn; page = e } ∷ cs) (recount-at turn es)

recount-records : (records : List Record) → map recounted (map record_layer records) ≡ map record_layer records
recount-records [] = refl
recount-records (r ∷ rs) =
    ap (λ (cs : List Change). record { turn = r.turn; changes = cs } ∷ map recounted (map record_layer rs)) (recount-at r.turn r.pages)
    ∙ ap (λ (ls : List Layer). record_layer r ∷ ls) (recount-records rs)

pub live-recounted : (head : Header) (base : Option Base) (turns : List ℕ) (records : List Record) → length turns ≡ length (base_pages base)
    → map recounted (live_layers head base turns records) ≡ live_layers head base (replicate (length (base_pages base)) head.turns) records
live-recounted head None turns records same = recount-records records
live-recounted head (Some b) turns records same =
    ap (λ (cs : List Change). record { turn = head.turns; changes = cs } ∷ map recounted (map record_layer records)) (recount-zip head.turns turns b.pages same)
    ∙ ap (λ (ls : List Layer). record { turn = head.turns; changes = map changed_in (zip (replicate (length b.pages) head.turns) b.pages) } ∷ ls) (recount-records records)

-- ---- the workers of a node, whatever its image is

module _ {D : Type 0} (told : D → Option Story) (size : D → ℕ) (g : Game) (v : ℕ) (n : Node) (t : TurnWorker D) (p : PatchWorker D) (s : SendWorker) (w : AreWorkersOf told size g v n t p s) (pages : n.turning.pages ≡ turn_pages t.side) where
  pub owner-is : t.side.owner ≡ owner_of g v
  owner-is =
      let node : t.side.owner.node ≡ v = w.working.node ∙ w.of_run.node in
      let nodes : t.side.owner.nodes ≡ g.nodes = w.working.nodes ∙ w.of_run.nodes in
      let count : t.side.owner.pages ≡ heap_pages g = let sized = w.of_run.size in omega (arith, sized) in
      ap (λ (k : ℕ). record { node = k; nodes = t.side.owner.nodes; pages = t.side.owner.pages }) node
      ∙ ap (λ (k : ℕ). record { node = v; nodes = k; pages = t.side.owner.pages }) nodes
      ∙ ap (λ (k : ℕ). record { node = v; nodes = g.nodes; pages = k }) count

  -- what the current log holds
  abbrev pub log-of : MountedLog
  log-of = record { head = t.side.log.header; base = t.side.log.base; records = t.side.records.items }

  pub comes : ComesTo g.handler v g.nodes g.size t.side.objects.value
  comes =
      subst (λ (k : ℕ). ComesTo g.handler v g.nodes k t.side.objects.value) w.of_run.size
      (subst (λ (k : ℕ). ComesTo g.handler v k (256 * t.side.owner.pages) t.side.objects.value) w.of_run.nodes (subst (λ (k : ℕ). ComesTo g.handler k t.nodes (256 * t.side.owner.pages) t.side.objects.value) w.of_run.node w.working.heap))

  module _ (image : ImagePages) where
    abbrev over : Node
    over = record n { patching = image }

    pub sound-over : Covers (heap_pages g) true n.turning.pages image → IsSound g v over
    sound-over covers = record {
      up = w.sends.due.up;
      own = w.sends.due.own;
      turns = w.sends.due.turns;
      covers = covers;
      value = t.side.objects.value;
      reads = ap (λ (x : TurnPages). read_value x.heap) pages ∙ w.turns.reads;
      comes = comes;
    }

    pub tells-over : TellsNode g v over log-of
    tells-over =
        let tells = w.log.state in
        let node : t.side.owner.node ≡ v = w.working.node ∙ w.of_run.node in
        let state : IsStateOf g v (recovered_node over) (state_in t.side) = record { width = tells.width; sent = tells.sent; messages = tells.messages; outputs = tells.outputs; outs = tells.outs } in
        record {
          numbers = t.side.numbers;
          numbers_are = ap (λ (o : Owner). numbers_of o t.side.log.header t.side.log.base t.side.records.items) (sym owner-is) ∙ w.working.side.numbers;
          counted = w.turns.counted;
          live = ap (λ (x : TurnPages). map recounted x.live) pages ∙ live-recounted t.side.log.header t.side.log.base t.side.base_turns.items t.side.records.items w.working.side.turns;
          state = subst (λ (k : ℕ). IsStateOf g v (recovered_node over) (state_of k t.side.numbers t.side.log.base t.side.records.items)) node state;
          sent = record { acked = w.log.sent.acked; emitted = w.log.sent.emitted };
          width = w.log.width;
          paced = w.log.paced;
        }

    -- where nothing landed, the log tells the node as it was
    pub found-over : (given : List Packet) (doubt : Doubt) (log bytes second : List ℕ) → Covers (heap_pages g) true n.turning.pages image → ComesOut g v given over doubt false over → HasLanded doubt false over over t.side.records.items
        → Finds (owner_of g v) log second log-of → IsPossible image (take g.size bytes) → FoundLog g v given over doubt log bytes second
    found-over given doubt log bytes second covers comes_out last finds possible = record {
      landed = false;
      node = over;
      holds = log-of;
      comes_out = comes_out;
      last = last;
      sound = sound-over covers;
      tells = tells-over;
      finds = finds;
      possible = possible;
    }

  -- the disks of the logs are at rest: a crash leaves what they show
  pub finds-now : (l o : Story) → told t.side.log.disk ≡ Some l → told t.side.other ≡ Some o → (log other : List ℕ) → IsImage l.now log → IsImage o.now other → Finds (owner_of g v) (log_on t.side.which log other) (log_on t.side.which other log) log-of
  finds-now l o tl to log other in_log in_other =
      let log_is : log ≡ l.now.seen = image_at_rest l.now (w.working.side.log.rests l tl) log in_log in
      let other_is : other ≡ o.now.seen = image_at_rest o.now (w.working.side.rests o to) other in_other in
      let passes : PassesOver (owner_of g v) t.side.log.header (front_of o.now.seen) = subst (λ (x : Owner). PassesOver x t.side.log.header (front_of o.now.seen)) owner-is (w.working.side.other l tl o to) in
      finds-current (owner_of g v) log-of passes.owned t.side.which log other (ap mount_of log_is ∙ w.working.side.mounts l tl) (subst (λ (x : List ℕ). IsPassed (owner_of g v) t.side.log.header (front_of x)) (sym other_is) passes.passed)

  -- so they leave a node that is sound, whatever is possible of its image
  pub leaves-now : (given : List Packet) (image : ImagePages) (disk : D) → Covers (heap_pages g) true n.turning.pages image → Tells (told disk) (λ h. (b : List ℕ) → IsImage h.now b → IsPossible image (take g.size b))
      → LeavesLogs told g v given (record n { patching = image }) no_doubt (disks_from t.side.which t.side.log.disk disk t.side.other)
  leaves-now given image disk covers possible =
      leaves-by told g v given (record n { patching = image }) no_doubt t.side.log.disk disk t.side.other t.side.which
      (λ l i o tl ti to a b c la ib oc.
      found-over image given no_doubt (log_on t.side.which a c) b (log_on t.side.which c a) covers refl tt (finds-now l o tl to a c la oc) (possible i ti b ib))

-- an image that a crash leaves is possible also of what the handler has sealed and not handed over
pub possible-all : (g : Game) (waiting : List (ℕ × List Page)) (image : ImagePages) (pages : ℕ) (h : Story) → HoldsImage pages image h.now → 256 * pages ≡ g.size → (b : List ℕ) → IsImage h.now b → IsPossible (hand_all waiting image) (take g.size b)
possible-all g waiting image pages h holds sized b is = hand_all-possible waiting image (take g.size b) (subst (λ (k : ℕ). IsPossible image (take k b)) sized (holds.left b is))

-- and of the image of a whole node
pub possible-now : {D : Type 0} (told : D → Option Story) (size : D → ℕ) (g : Game) (v : ℕ) (n : Node) (t : TurnWorker D) (p : PatchWorker D) (s : SendWorker) → IsWhole told size g v n t p s
    → Tells (told p.side.image.disk) (λ h. (b : List ℕ) → IsImage h.now b → IsPossible n.patching (take g.size b))
possible-now told size g v n t p s whole h th b is =
    let pages = whole.pages in
    let sized : 256 * p.side.image.pages ≡ g.size = ap (λ (k : ℕ). 256 * k) pages.apart.count ∙ whole.workers.of_run.size in
    subst (λ (x : ImagePages). IsPossible x (take g.size b)) (sym pages.patching) (possible-all g (waits_of pages.queue) pages.image p.side.image.pages h (pages.apart.patches.holds h th) sized b is)

module _ {D : Type 0} (told : D → Option Story) (size : D → ℕ) where
  pub whole_goes_down : WholeGoesDown told size
  whole_goes_down g v given n t p s limits known whole tell =
      let w = whole.workers in
      let h = whole.pages in
      is-down told g v given n no_doubt t p s limits known w.of_run w.joined w.turns.kept tell
      (leaves-now told size g v n t p s w h.turning given n.patching p.side.image.disk (covers-node told size g v n t p w.of_run.size h) (possible-now told size g v n t p s whole))
