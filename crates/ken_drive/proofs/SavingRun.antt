-- A run of a script whose disks are saved, from its start to its end.
use Rattle.std.proofs.Common.{arith, ◌≡◌, ◌∙◌, ◌⊎◌, ⊎_elim, inl, inr, ℕ, suc, zero, ◌*◌, ◌<◌, ◌≤◌, List, [], ◌∷◌, length, slice_index_or, nat_lt, Bool, true, false, Option, Some, Result, Ok, Err, refl, sym, ap, subst}
use Rattle.std.specs.Prelude.{OnOk}
use Rattle.std.proofs.lemmas.Bool.{ltb-false, ltb-true}
use Rattle.ken_disk.specs.declared.disk.Disk as disk
use Rattle.ken_files.specs.Filing.{FileViews, Filing}
use Rattle.ken_app.specs.declared.app.App as app
use Rattle.ken_app.specs.declared.oracle.Oracle as oracle
use Rattle.ken_model.specs.declared.reports.Lines.{Lines}
use Rattle.ken_model.specs.Handler.{Handler}
use Rattle.ken_script.specs.declared.scripts.Script.{Script}
use Rattle.ken_script.specs.Within.{KeepsRules}
use Rattle.ken_ship.specs.declared.outlet.Outlet as outlet
use Rattle.ken_store.specs.declared.disks.Disks.{Disks}
use Rattle.ken_run.specs.declared.faults.RunFault.{RunFault}
use Rattle.ken_run.specs.declared.faults.RunFault.TheVariants.{Damaged, Down, Memory}
use Rattle.ken_run.specs.declared.run.Run.{Run}
use Rattle.ken_run.specs.declared.station.Station.{Station}
use Rattle.ken_run.specs.Patched.{AddStates, HaveImages}
use Rattle.ken_drive.specs.declared.saving.SavingFault.{SavingFault}
use Rattle.ken_drive.specs.declared.saving.SavingFault.TheVariants as saving
use Rattle.ken_drive.specs.Clauses.{AccountsStarted, RefusesStarted, StartsRun, TellsRun, views_of}
use Rattle.ken_drive.specs.Driven.{Drives, EndedRunsKeep, HasDriven, Views}
use Rattle.ken_drive.specs.Finishing.{WasKept, WereKept, unwatched}
use Rattle.ken_drive.specs.Saving.{HasEnded, SavesBy, SavesRun, by_disk, by_file}
use Rattle.ken_drive.specs.SavingParts.{EndsSavingBy, SavesStations, WasRead, WereRead}
use Rattle.ken_drive.proofs.Answering.{driven, ends}
use Rattle.ken_drive.proofs.Keeping.{element-at}
use Rattle.ken_drive.proofs.Rereading.{HasRead, driven-read}

-- ---- what was given before it was read

-- an element of a list is there whatever stands for one past its end
same-at : {X : Type 0} (xs : List X) (v : ℕ) (d e : X) → slice_index_or xs v e ≡ e → v < length xs → slice_index_or xs v d ≡ e
same-at [] v d e is low = absurd (omega (arith, low))
same-at (x ∷ xs) zero d e is low = is
same-at (x ∷ xs) (suc v) d e is low = same-at xs v d e is (omega (arith, low))

module _ {D O U A : Type 0} (views : Views D O U) (r : Run D O U A) (before kept : ℕ → Option (Disks D × O × U)) (were : WereRead views r before kept) where
  -- the devices of a station as they were given
  record GivenAt (v : ℕ) : Type 0 where
    given : Option (Disks D × O × U)
    was : (d : Station D O U) → v < length r.stations.items → WasKept (slice_index_or r.stations.items v d) given
    none : length r.stations.items ≤ v → given ≡ before v
    read : (kept v ≡ given) ⊎ HasRead views given (kept v)

  given-by : (v : ℕ) (b : Bool) → nat_lt v (length r.stations.items) ≡ b → GivenAt v
  given-by v true is =
      let low : v < length r.stations.items = ltb-true v (length r.stations.items) is in
      let at = element-at r.stations.items v low in
      let was = subst (λ (x : Station D O U). WasRead views x (kept v)) at.is (were.each v at.element low) in
      record {
        given = Some (unwatched was.disks, at.element.luck, at.element.out);
        was = λ d there. subst (λ (x : Station D O U). WasKept x (Some (unwatched was.disks, at.element.luck, at.element.out))) (sym (same-at r.stations.items v d at.element at.is low)) (record { disks = was.disks; has = was.has; is = refl });
        none = λ high. absurd (omega (arith, low, high));
        read = inr (record { before = unwatched was.disks; now = was.now; luck = at.element.luck; out = at.element.out; is_given = refl; is_kept = was.is; same = was.same });
      }
  given-by v false is =
      let high : length r.stations.items ≤ v = ltb-false v (length r.stations.items) is in
      record {
        given = before v;
        was = λ d low. absurd (omega (arith, low, high));
        none = λ past. refl;
        read = inl (were.others v high);
      }

  abbrev given-at : (v : ℕ) → GivenAt v
  given-at v = given-by v (nat_lt v (length r.stations.items)) refl

  abbrev given : ℕ → Option (Disks D × O × U)
  given v = (given-at v).given

  were-given : WereKept r before given
  were-given = record { given = λ v d low. (given-at v).was d low; others = λ v high. (given-at v).none high }

  given-read : (v : ℕ) → (kept v ≡ given v) ⊎ HasRead views (given v) (kept v)
  given-read v = (given-at v).read

-- ---- a fault of the run

module _ {D O U F : Type 0} (views : Views D O U) (files : FileViews F) (prefix : List ℕ) (old new : Filing F) (kept : ℕ → Option (Disks D × O × U)) (h : Handler) (script : Script) (made : ℕ) where
  -- there is no run to save
  pub not-saved : (fault : RunFault) → new ≡ old → Drives views h script made kept (Err fault) → SavesRun views files prefix old new kept h script made (Err (saving.Run fault))
  not-saved fault same drives = record {
    saves = by fault drives;
    lets = drives.lets;
    no_failed_opening = λ none. ap (λ (f : Filing F). f.failures) same;
    rise = let same-count : new.failures ≡ old.failures = ap (λ (f : Filing F). f.failures) same in omega (arith, same-count);
    rooms = λ p has. subst (λ (f : Filing F). f.room p ≡ true) (sym same) has;
  }
    where
      by : (f : RunFault) → Drives views h script made kept (Err f) → SavesBy views files prefix old new kept h script made (Err (saving.Run f))
      by Memory is = inl is.drives
      by (Down v) is = (is.drives, same)
      by (Damaged v disk place) is = absurd is.drives

-- ---- a run that started

abbrev err-of : RunFault → Result Lines RunFault
err-of fault = Err fault

abbrev ok-of : Lines → Result Lines RunFault
ok-of l = Ok l

module _ {D O U A : Type 0} (d : disk.Ghosts D) (o : oracle.Ghosts O) (u : outlet.Ghosts U) (a : app.Ghosts A) (scripted : Bool) (h : Handler) (script : Script) (rules : KeepsRules script) (first : Run D O U A) (before : ℕ → Option (Disks D × O × U))
    (starts : StartsRun d o u a scripted h script (Ok first) before) (accounts : AccountsStarted d o u a scripted h script (Ok first) before) (refused : RefusesStarted u scripted script first) where
  abbrev views : Views D O U
  views = views_of d o u scripted

  module _ {F : Type 0} (files : FileViews F) (prefix : List ℕ) (made : ℕ) (r : Run D O U A) (keep : EndedRunsKeep {A = A} views d.size a.handler) (old new : Filing F) (kept : ℕ → Option (Disks D × O × U)) where
    abbrev Saves : Result Lines SavingFault → Type 0
    Saves result = SavesRun views files prefix old new kept h script made result

    module _ (l : Lines) (tells : TellsRun d o u a first (Ok l) r) (images : HaveImages (λ w. d.told w.disk) r) (states : AddStates (λ w. d.told w.disk) (16 * made) first (ok-of l) r) where
      -- it has ended, and its devices are kept
      has-driven : WereRead views r before kept → HasDriven views h script made kept l
      has-driven were =
          let is = driven d o u a scripted h script rules first before starts accounts refused (Ok l) r tells made (given views r before kept were) keep images states (λ long. were-given views r before kept were) (λ short. absurd (cc)) (Ok l) refl in
          driven-read views (given views r before kept were) kept (given-read views r before kept were) h script made l is.drives

      ended : WereRead views r before kept → HasEnded views files prefix old new kept h script made
      ended were = record { lines = l; driven = has-driven were }

      width : length r.stations.items ≡ script.facts.nodes
      width = let is = ends d o u a scripted h script rules first before starts accounts refused (Ok l) r tells in is.ended.running.stands.width ∙ is.ended.all

      -- what is kept is of its stations
      kept-at : WereRead views r before kept → (v : ℕ) (x : Disks D × O × U) → kept v ≡ Some x → v < length r.stations.items
      kept-at were v x is = by (nat_lt v (length r.stations.items)) refl
        where
          by : (b : Bool) → nat_lt v (length r.stations.items) ≡ b → v < length r.stations.items
          by true low = ltb-true v (length r.stations.items) low
          by false high = let no = sym is ∙ were.others v (ltb-false v (length r.stations.items) high) ∙ starts.1 v in absurd (cc)

      -- all its disks were saved
      saved : SavesStations views files prefix r before kept old new (Ok tt) → Saves (Ok l)
      saved is = record {
        saves = (has-driven is.saves.0, λ tells. λ v disks luck out kept-is. is.saves.1 tells v (kept-at is.saves.0 v (disks, luck, out) kept-is) disks luck out kept-is);
        lets = λ scripted. tt;
        no_failed_opening = λ none. is.no_failed_opening (λ v disk no. absurd (cc));
        rise = is.rise;
        rooms = is.rooms;
      }

      -- or one wasn't
      unsaved : (fault : SavingFault) → SavesStations views files prefix r before kept old new (Err fault) → Saves (Err fault)
      unsaved (saving.Run Memory) is = record {
        saves = inr (ended is.saves);
        lets = λ scripted. tt;
        no_failed_opening = λ none. is.no_failed_opening (λ v disk no. absurd (cc));
        rise = is.rise;
        rooms = is.rooms;
      }
      unsaved (saving.Run (Down v)) is = absurd is.saves
      unsaved (saving.Run (Damaged v disk place)) is = absurd is.saves
      unsaved (saving.Open v disk) is = record {
        saves = (let low = is.saves.0.0 in omega (arith, low, width), is.saves.0.1, ended is.saves.1, is.saves.2);
        lets = λ scripted. tt;
        no_failed_opening = λ none. absurd (none v disk refl);
        rise = is.rise;
        rooms = is.rooms;
      }
      unsaved (saving.Device v disk) is = record {
        saves = (let low = is.saves.0.0 in omega (arith, low, width), is.saves.0.1, ⊎_elim (λ file. by_file (ended file.0) file.1) (λ there. by_disk there) is.saves.1);
        lets = λ scripted. tt;
        no_failed_opening = λ none. is.no_failed_opening (λ u which no. absurd (cc));
        rise = is.rise;
        rooms = is.rooms;
      }

      by-lines : (result : Result Lines SavingFault) → EndsSavingBy views files prefix r before kept (Ok l) old new result → Saves result
      by-lines (Ok lines) is = subst (λ (x : Lines). Saves (Ok x)) (sym is.0) (saved is.1)
      by-lines (Err fault) is = unsaved fault is

    -- so by its answer
    pub run-saved : (answer : Result Lines RunFault) → TellsRun d o u a first answer r → OnOk answer (HaveImages (λ w. d.told w.disk) r) → AddStates (λ w. d.told w.disk) (16 * made) first answer r
        → (result : Result Lines SavingFault) → EndsSavingBy views files prefix r before kept answer old new result → Saves result
    run-saved (Ok l) tells images states result is = by-lines l tells images states result is
    run-saved (Err fault) tells images states result is =
        subst Saves (sym is.0)
        (not-saved views files prefix old new kept h script made fault is.1
        (driven d o u a scripted h script rules first before starts accounts refused (Err fault) r tells made kept keep images states (λ long. is.2 (λ short. long (ap Err short))) (λ short. is.3 (same-fault short)) (Err fault) refl))
      where
        same-fault : err-of fault ≡ err-of Memory → fault ≡ Memory
        same-fault short = cc
