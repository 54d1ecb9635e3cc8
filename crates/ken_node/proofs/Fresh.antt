-- A node on whose disks nothing was found, and which is created.
use Rattle.std.proofs.Common.{◌≡◌, ℕ, List, [], inl, inr, ⊎_elim, refl, sym, ap, subst, ◌∙◌, arith, Option, Result, Ok, Err}
use Rattle.std.specs.Prelude.{IfErr, IfOk, IsSome, OnErr}
use Rattle.ken_disk.specs.declared.faults.DiskFault.TheVariants as disk
use Rattle.ken_disk.specs.Causes.{HasCause}
use Rattle.ken_disk.specs.Fates.{Fate, Suffers}
use Rattle.ken_disk.specs.Story.{Story, Follows}
use Rattle.ken_model.specs.Game.{Game}
use Rattle.ken_model.specs.Limits.{IsWithinLimits}
use Rattle.ken_core.specs.Calls.{Doubt, no_doubt}
use Rattle.ken_core.specs.Nodes.{Node, first_node}
use Rattle.ken_core.specs.Packets.{Packet}
use Rattle.ken_links.specs.declared.pop_end.PopEnd.{PopEnd}
use Rattle.ken_links.specs.declared.push_end.PushEnd.{PushEnd}
use Rattle.ken_store.specs.declared.disks.Disks.{Disks}
use Rattle.ken_store.specs.declared.disks.Which.{Which}
use Rattle.ken_store.specs.declared.owner.Owner.{Owner}
use Rattle.ken_store.specs.declared.disks.Which.TheVariants.{First}
use Rattle.ken_store.specs.Answers.{AreAtRest, AreUnformatted, TellsAll, disks_from}
use Rattle.ken_store.specs.Apart.{disks_apart}
use Rattle.ken_store.specs.Creations.{FailsBy, HasFailed, IsUnfailed}
use Rattle.ken_store.specs.Reads.{AreSame, IsSame}
use Rattle.ken_store.specs.Recovered.{Fresh, recovered}
use Rattle.ken_ship.specs.declared.faults.NodeFault.{NodeFault}
use Rattle.ken_ship.specs.declared.faults.NodeFault.TheVariants.{Disk, Damaged, Outlet, Memory}
use Rattle.ken_ship.specs.Parts.{Part, part_of}
use Rattle.ken_work.specs.declared.parts.Parts.{Parts}
use Rattle.ken_node.specs.declared.stage.Stage.{Stage}
use Rattle.ken_node.specs.declared.stage.Stage.TheVariants.{Created, Moved, Uncreated}
use Rattle.ken_whole.specs.New.{owner_of}
use Rattle.ken_node.specs.Created.{CallsDisks, IsCreation}
use Rattle.ken_node.specs.Down.{AreTold, IsDown}
use Rattle.ken_work.specs.Faults.{IsFaultOfWorker, store_answer}
use Rattle.ken_work.specs.First.{AreFirst, IsNewRing}
use Rattle.ken_work.specs.Meeting.{IsEmptied}
use Rattle.ken_work.specs.Parts.{CountsAnew}
use Rattle.ken_node.specs.Restarting.{IsCreatedAnew, RecoversBy, none_made}
use Rattle.ken_node.specs.Restarts.{AreUnfailed, IsUpAgain, WereFormatted}
use Rattle.ken_node.specs.Stages.{HasDisks, IsUncreated, emissions_in, owner_in, refusals_in}
use Rattle.ken_node.proofs.CreationCalls.{calls-since}
use Rattle.ken_node.proofs.CreationDown.{creation_goes_down}
use Rattle.ken_whole.proofs.NewWhole.{new_are_whole}
use Rattle.ken_node.proofs.Recovered.{fresh-first, owner-ready, some-is, tell-now}

-- a new ring holds nothing
new-empty : {T : Type 0} (push : PushEnd T) (pop : PopEnd T) → IsNewRing push pop → IsEmptied push pop
new-empty push pop is = let free = is.all_free in record { all = is.none_popped ∙ sym is.none_pushed; free_now = omega (arith, free) }

-- a stage has one set of disks
pub has-one : {D : Type 0} (a b : Disks D) (stage : Stage D) → HasDisks a stage → HasDisks b stage → a ≡ b
has-one a b (Uncreated disks x) one two = one ∙ sym two
has-one a b (Created t p s) one two = one ∙ sym two
has-one a b Moved one two = absurd one

-- which of the disks has the other log
second-of : {D : Type 0} (which : Which) (current image other : D) → which ≡ First → (disks_from which current image other).second ≡ other
second-of {D} which current image other is = ap (λ (w : Which). (disks_from w current image other).second) is

module _ {D : Type 0} (told : D → Option Story) (size count : D → ℕ) (fate : D → Option Fate) (g : Game) (v : ℕ) (given : List Packet) (old : Disks D) (stage : Stage D) (limits : IsWithinLimits g) where
  -- the node stands as one that made no turn
  pub anew-up : (n : Node) (doubt : Doubt) → n ≡ first_node g → (answer : Result (Unit {0}) NodeFault) → IsCreation told size count fate g v answer old stage → AreUnformatted told old → AreTold told old
      → IfOk (none_made answer) (λ turns. IsUpAgain told size g v given n doubt turns stage)
  anew-up n doubt first (Err fault) c none tell = tt
  anew-up n doubt first (Ok x) c none tell =
      let made = c.ok in
      let t = made.turns in
      let p = made.patches in
      let new = made.new in
      let at : c.disks ≡ disks_apart t.side p.side = subst (HasDisks c.disks) made.stage_is c.has in
      let other : t.side.other ≡ old.second = sym (second-of t.side.which t.side.log.disk p.side.image.disk t.side.other new.new.which) ∙ sym (ap (λ (y : Disks D). y.second) at) ∙ c.second in
      let log = some-is (told old.log) tell.0 in
      record {
        after = first_node g;
        call = record { events = []; run = (refl, sym first); which = inr (first, refl) };
        count = refl;
        handler = t;
        patcher = p;
        sender = made.sends;
        stage_is = made.stage_is;
        whole = new_are_whole told size g v t p made.sends limits new;
        empty = record {
          pages = new-empty t.pages p.pages new.pages;
          sealed = new-empty t.sealed made.sends.sealed new.sealed;
          settled = new-empty p.settled t.settled new.settled;
          progress = new-empty made.sends.told t.progress new.progress;
        };
        unspent = new.unspent;
        tell = subst (AreTold told) at (c.tells.0 tell.0, c.tells.1 tell.1, subst (λ (y : D). IsSome (told y)) (sym c.second) tell.2);
      }

  -- or, after an error, is down as it was
  pub anew-down : (n : Node) (doubt : Doubt) → n ≡ first_node g → doubt ≡ no_doubt → (answer : Result (Unit {0}) NodeFault) → IsCreation told size count fate g v answer old stage → AreAtRest told old → AreUnformatted told old → AreTold told old
      → OnErr (none_made answer) (IsDown told g v given n doubt stage)
  anew-down n doubt first calm (Ok x) c rests none tell = tt
  anew-down n doubt first calm (Err fault) c rests none tell =
      let after : AreTold told c.disks = (c.tells.0 tell.0, c.tells.1 tell.1, subst (λ (y : D). IsSome (told y)) (sym c.second) tell.2) in
      subst (λ (m : Node). IsDown told g v given m doubt stage) (sym first)
      (subst (λ (e : Doubt). IsDown told g v given (first_node g) e stage) (sym calm)
      (creation_goes_down told size count fate g v given fault old stage c rests none tell after))

  -- it emitted nothing
  pub anew-emissions : (x : Parts) → AreFirst g v x → (answer : Result (Unit {0}) NodeFault) → IsCreation told size count fate g v answer old stage → emissions_in stage ≡ (part_of x.sends).emissions
  anew-emissions x first (Ok y) c =
      ap emissions_in c.ok.stage_is ∙ ap (λ (y : Part). y.emissions) c.ok.new.part ∙ sym (ap (λ (y : Part). y.emissions) first.part)
  anew-emissions x first (Err fault) c =
      ap emissions_in c.err.stage_is ∙ ap (λ (y : Part). y.emissions) c.err.first.part ∙ sym (ap (λ (y : Part). y.emissions) first.part)

  -- and none of its outputs was refused
  pub anew-refusals : (x : Parts) → AreFirst g v x → (answer : Result (Unit {0}) NodeFault) → IsCreation told size count fate g v answer old stage → refusals_in stage ≡ (part_of x.sends).refusals
  anew-refusals x first (Ok y) c =
      ap refusals_in c.ok.stage_is ∙ ap (λ (y : Part). y.refusals) c.ok.new.part ∙ sym (ap (λ (y : Part). y.refusals) first.part)
  anew-refusals x first (Err fault) c =
      ap refusals_in c.err.stage_is ∙ ap (λ (y : Part). y.refusals) c.err.first.part ∙ sym (ap (λ (y : Part). y.refusals) first.part)

  -- so the count of refusals begins anew, or is as it was
  pub anew-counts : (x : Parts) → AreFirst g v x → (answer : Result (Unit {0}) NodeFault) → IsCreation told size count fate g v answer old stage → CountsAnew (none_made answer) (part_of x.sends).refusals (refusals_in stage)
  anew-counts x first (Ok y) c = ap refusals_in c.ok.stage_is ∙ ap (λ (y : Part). y.refusals) c.ok.new.part
  anew-counts x first (Err fault) c = anew-refusals x first (Err fault) c

  -- what becomes of the disks
  unfailed-since : (a b e : D) → IsSame told count fate a b → IsUnfailed count fate b e → IsUnfailed count fate a e
  unfailed-since a b e same un = record { count = un.count ∙ same.count; falls = un.falls ∙ same.falls }

  failed-since : (a b e : D) → IsSame told count fate a b → HasFailed count fate b e → HasFailed count fate a e
  failed-since a b e same failed = record {
    count = subst (λ (k : ℕ). HasCause {T = Unit {0}} k (count e) (Err disk.Failed)) same.count failed.count;
    falls = subst (λ (f : Option Fate). Follows (Suffers {T = Unit {0}} (Err disk.Failed)) f (fate e)) same.falls failed.falls;
  }

  second-since : (before new : Disks D) → AreSame told count fate before old → new.second ≡ old.second → IsUnfailed count fate before.second new.second
  second-since before new same is = record { count = ap count is ∙ same.second.count; falls = ap fate is ∙ same.second.falls }

  none-since : (before : Disks D) → AreSame told count fate before old → AreUnformatted told old → AreUnformatted told before
  none-since before same none l tl s ts = none l (same.log.story ∙ tl) s (same.second.story ∙ ts)

  formatted-since : (before new : Disks D) → AreSame told count fate before old → AreUnformatted told old → CallsDisks {T = Unit {0}} told count (owner_of g v) (Ok tt) old new → new.second ≡ old.second → WereFormatted told count fate (owner_of g v) before new
  formatted-since before new same none calls is = record {
    none = none-since before same none;
    calls = calls-since {T = Unit {0}} told count fate (owner_of g v) (Ok tt) before old new same calls;
    second = ap told is ∙ same.second.story;
  }

  unfailed-all : (before new : Disks D) → AreSame told count fate before old → IsUnfailed count fate old.log new.log × IsUnfailed count fate old.image new.image → new.second ≡ old.second → AreUnfailed told count fate before new
  unfailed-all before new same un is = record {
    log = unfailed-since before.log old.log new.log same.log un.0;
    image = unfailed-since before.image old.image new.image same.image un.1;
    second = second-since before new same is;
  }

  pub anew-by : (before new : Disks D) → AreSame told count fate before old → AreUnformatted told old → HasDisks new stage → (answer : Result (Unit {0}) NodeFault) → IsFaultOfWorker (none_made answer) → IsCreation told size count fate g v answer old stage
      → RecoversBy told count fate (owner_of g v) (none_made answer) before new
  anew-by before new same none has answer sound c =
      subst (λ (y : Disks D). RecoversBy told count fate (owner_of g v) (none_made answer) before y) (has-one c.disks new stage c.has has) (by answer sound c.faults c.calls c.second)
    where
      by : (r : Result (Unit {0}) NodeFault) → IsFaultOfWorker (none_made r) → FailsBy count fate (store_answer r) old c.disks → CallsDisks told count (owner_of g v) (store_answer r) old c.disks → c.disks.second ≡ old.second
          → RecoversBy told count fate (owner_of g v) (none_made r) before c.disks
      by (Ok x) fine fails calls is = record { unfailed = unfailed-all before c.disks same fails is; stories = inr (formatted-since before c.disks same none calls is) }
      by (Err Memory) fine fails calls is = unfailed-all before c.disks same fails is
      by (Err Disk) fine fails calls is = ⊎_elim
          (λ a. inl (failed-since before.log old.log c.disks.log same.log a.0, unfailed-since before.image old.image c.disks.image same.image a.1, second-since before c.disks same is))
          (λ a. inr (inl (unfailed-since before.log old.log c.disks.log same.log a.0, failed-since before.image old.image c.disks.image same.image a.1, second-since before c.disks same is)))
          fails
      by (Err (Damaged n place)) fine fails calls is = absurd fine
      by (Err Outlet) fine fails calls is = absurd fine

-- a node that is down, on whose disks nothing was found
module _ {D : Type 0} (told : D → Option Story) (size count : D → ℕ) (fate : D → Option Fate) (g : Game) (v : ℕ) (given : List Packet) (n : Node) (doubt : Doubt) (disks new : Disks D) (x : Parts) (d : IsDown told g v given n doubt (Uncreated disks x)) (rests : AreAtRest told disks)
    (answers : TellsAll told disks (λ l i s. recovered (owner_in x) l.now.seen i.now.seen s.now.seen ≡ Fresh)) (same : AreSame told count fate disks new) where
  found : (n ≡ first_node g) × (doubt ≡ no_doubt) × AreFirst g v x
  found = fresh-first told g v given n doubt disks x d rests answers

  pub uncreated : IsUncreated g v new (Uncreated new x)
  uncreated = record { limits = d.limits; known = d.known; parts = x; stage_is = refl; first = found.2 }

  tell : AreTold told new
  tell =
      let was = tell-now told g v given n doubt disks x d in
      (subst (λ (o : Option Story). IsSome o) (sym same.log.story) was.0, subst (λ (o : Option Story). IsSome o) (sym same.image.story) was.1, subst (λ (o : Option Story). IsSome o) (sym same.second.story) was.2)

  module _ (ready : AreAtRest told new × AreUnformatted told new) (stage : Stage D) (answer : Result ℕ NodeFault) (made : IsCreatedAnew told size count fate g v answer new stage) where
    pub found-up : IfOk answer (λ turns. IsUpAgain told size g v given n doubt turns stage)
    found-up =
        subst (λ (r : Result ℕ NodeFault). IfOk r (λ turns. IsUpAgain told size g v given n doubt turns stage)) (sym made.is)
        (anew-up told size count fate g v given new stage d.limits n doubt found.0 made.answer made.creation ready.1 tell)

    pub found-down : OnErr answer (IsDown told g v given n doubt stage)
    found-down =
        subst (λ (r : Result ℕ NodeFault). OnErr r (IsDown told g v given n doubt stage)) (sym made.is)
        (anew-down told size count fate g v given new stage d.limits n doubt found.0 found.1 made.answer made.creation ready.0 ready.1 tell)

    pub found-emissions : emissions_in stage ≡ (part_of x.sends).emissions
    found-emissions = anew-emissions told size count fate g v given new stage d.limits x found.2 made.answer made.creation

    pub found-counts : CountsAnew answer (part_of x.sends).refusals (refusals_in stage)
    found-counts =
        subst (λ (r : Result ℕ NodeFault). CountsAnew r (part_of x.sends).refusals (refusals_in stage)) (sym made.is)
        (anew-counts told size count fate g v given new stage d.limits x found.2 made.answer made.creation)

    pub found-by : (after : Disks D) → HasDisks after stage → IsFaultOfWorker answer → RecoversBy told count fate (owner_in x) answer disks after
    found-by after has sound =
        subst (λ (o : Owner). RecoversBy told count fate o answer disks after) (sym (owner-ready g v x d.of_node))
        (subst (λ (r : Result ℕ NodeFault). RecoversBy told count fate (owner_of g v) r disks after) (sym made.is)
        (anew-by told size count fate g v given new stage d.limits disks after same ready.1 has made.answer (subst (λ (r : Result ℕ NodeFault). IsFaultOfWorker r) made.is sound) made.creation))

-- a node that was recovered only read its disks; so it is after an error, which is want of memory
pub whole-by : {D : Type 0} (told : D → Option Story) (count : D → ℕ) (fate : D → Option Fate) (o : Owner) (answer : Result ℕ NodeFault) (old new : Disks D) → IfErr answer (λ fault. fault ≡ Memory) → AreSame told count fate old new
    → RecoversBy told count fate o answer old new
whole-by told count fate o answer old new sound same = by answer sound
  where
    unfailed : AreUnfailed told count fate old new
    unfailed = record {
      log = record { count = same.log.count; falls = same.log.falls };
      image = record { count = same.image.count; falls = same.image.falls };
      second = record { count = same.second.count; falls = same.second.falls };
    }

    by : (r : Result ℕ NodeFault) → IfErr r (λ fault. fault ≡ Memory) → RecoversBy told count fate o r old new
    by (Ok x) fine = record { unfailed = unfailed; stories = inl (record { log = same.log.story; image = same.image.story; second = same.second.story }) }
    by (Err Memory) fine = unfailed
    by (Err Disk) fine = absurd (let no : ⊥ = cc fine in no)
    by (Err Outlet) fine = absurd (let no : ⊥ = cc fine in no)
    by (Err (Damaged n place)) fine = absurd (let no : ⊥ = cc fine in no)
