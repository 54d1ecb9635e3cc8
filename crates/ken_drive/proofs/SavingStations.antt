-- The disks of a run are saved, one station after the other.
use Rattle.std.proofs.Common.{arith, ◌≡◌, ◌≢◌, ◌∙◌, ◌⊎◌, ⊎_elim, ℕ, ◌+◌, ◌<◌, ◌≤◌, List, ◌∷◌, length, true, false, is_ok, Option, Some, Result, Ok, Err, refl, sym, ap, subst}
use Rattle.std.proofs.lemmas.Bool.{cases_eq}
use Rattle.std.proofs.lemmas.Option.{same_Some}
use Rattle.ken_files.specs.Copies.{IsSaved}
use Rattle.ken_files.specs.Filing.{FileViews, Filing, path_of}
use Rattle.ken_files.proofs.Apart.{paths_differ}
use Rattle.ken_store.specs.declared.disks.Disks.{Disks}
use Rattle.ken_run.specs.declared.run.Run.{Run}
use Rattle.ken_run.specs.declared.station.Station.{Station}
use Rattle.ken_drive.specs.declared.saving.SavingFault.{SavingFault}
use Rattle.ken_drive.specs.Driven.{Views}
use Rattle.ken_drive.specs.Finishing.{WasKept, unwatched}
use Rattle.ken_drive.specs.Saving.{HasFailedThere, disk_at}
use Rattle.ken_drive.specs.SavingParts.{AreAsBefore, IsCopied, SavesDisks, SavesSome, SavesStation, SavesStations, WasRead}
use Rattle.ken_drive.proofs.Giving.{AreGiven, none-given, one-given, room-left}
use Rattle.ken_drive.proofs.SavingSome.{copy-stands, none-failed, none-saved, widened}

-- an answer is Ok, or has a fault
ok-is : (answer : Result (Unit {0}) SavingFault) → is_ok answer ≡ true → answer ≡ Ok tt
ok-is (Ok x) ok = refl
ok-is (Err fault) ok = absurd (cc)

fault-is : (answer : Result (Unit {0}) SavingFault) → is_ok answer ≡ false → (fault : SavingFault) × (answer ≡ Err fault)
fault-is (Ok x) failed = absurd (cc)
fault-is (Err fault) failed = (fault, refl)

module _ {D O U : Type 0} (views : Views D O U) where
  -- disks that were not read are as before
  kept-read : (s : Station D O U) (kept : Option (Disks D × O × U)) → WasKept s kept → WasRead views s kept
  kept-read s kept was = record {
    disks = was.disks;
    has = was.has;
    now = unwatched was.disks;
    same = record {
      log = record { story = refl; count = refl; falls = refl };
      image = record { story = refl; count = refl; falls = refl };
      second = record { story = refl; count = refl; falls = refl };
    };
    is = was.is;
  }

  -- the disks of a station were released, and read since
  read-since : (s : Station D O U) (disks now : Disks D) (luck : O) (out : U) (kept : Option (Disks D × O × U)) → WasKept s (Some (disks, luck, out)) → AreAsBefore views disks now → kept ≡ Some (now, luck, out) → WasRead views s kept
  read-since s disks now luck out kept was same is =
      let one : (disks, luck, out) ≡ (unwatched was.disks, s.luck, s.out) = same_Some (disks, luck, out) (unwatched was.disks, s.luck, s.out) was.is in
      record {
        disks = was.disks;
        has = was.has;
        now = now;
        same = subst (λ (ds : Disks D). AreAsBefore views ds now) (ap (λ (x : Disks D × O × U). x.0) one) same;
        is = is ∙ ap (λ (x : Disks D × O × U). Some (now, x.1, x.2)) one;
      }

module _ {D O U F : Type 0} (views : Views D O U) (files : FileViews F) (prefix : List ℕ) where
  -- ---- a station

  pub station-saved : (v : ℕ) (s : Station D O U) (disks now : Disks D) (luck : O) (out : U) (kept : ℕ → Option (Disks D × O × U)) (old mid new : Filing F) (result : Result (Unit {0}) SavingFault)
      → WasKept s (Some (disks, luck, out)) → kept v ≡ Some (now, luck, out) → new ≡ mid → SavesDisks views files prefix v disks now old mid result → SavesStation views files prefix v s kept old new result
  station-saved v s disks now luck out kept old mid new result was is same saves =
      subst (λ (f : Filing F). SavesStation views files prefix v s kept old f result) (sym same)
      (widened files prefix _ _ _ _ _ _ _ _ old old mid result refl (λ p has. has) (λ p apart. (refl, refl))
      (λ u disk these. these)
      (λ before. read-since views s disks now luck out (kept v) was before is)
      (λ x ok tells copied. λ ds l o kept-is disk low.
      let one : (now, luck, out) ≡ (ds, l, o) = same_Some (now, luck, out) (ds, l, o) (sym is ∙ kept-is) in
      subst (λ (k : Disks D). IsSaved files (path_of prefix v disk) (views.told (disk_at disk k)) mid) (ap (λ (x : Disks D × O × U). x.0) one) (copied disk low))
      (λ u disk these rose. record { disks = now; luck = luck; out = out; is = ap kept these.0 ∙ is; count = rose })
      saves)

  -- ---- one station after the other

  -- the first so many stations were saved, by the answer so far
  abbrev pub SavesSoFar : (all rest : List (Station D O U)) → ℕ → (ℕ → Option (Disks D × O × U)) → (ℕ → Option (Disks D × O × U)) → Filing F → Filing F → Result (Unit {0}) SavingFault → Type 0
  SavesSoFar all rest count before kept old new result =
      SavesSome files prefix (λ u disk. (u < count) × (disk < 3)) (AreGiven (WasRead views) all rest count before kept)
      ((v : ℕ) → v < count → IsCopied views files prefix old new kept v) (HasFailedThere views files prefix old new kept) old new result

  pub none-so-far : (all : List (Station D O U)) (kept : ℕ → Option (Disks D × O × U)) (old : Filing F) → SavesSoFar all all 0 kept kept old old (Ok tt)
  none-so-far all kept old = none-saved files prefix _ _ _ _ old (none-given (WasRead views) all kept) (λ v below. absurd (omega (arith, below)))

  module _ (all rest : List (Station D O U)) (s : Station D O U) (count : ℕ) (before mid kept : ℕ → Option (Disks D × O × U)) (others : (v : ℕ) → v ≢ count → kept v ≡ mid v) where
    -- one more was saved
    pub one-saved : (old one new : Filing F) (result : Result (Unit {0}) SavingFault) → count < 8 → SavesSoFar all (s ∷ rest) count before mid old one (Ok tt) → SavesStation views files prefix count s kept one new result
        → SavesSoFar all rest (count + 1) before kept old new result
    one-saved old one new result low first is = widened files prefix _ _ _ _ _ _ _ _ old one new result (none-failed files prefix _ _ _ _ old one tt first) first.rooms
        (λ p apart. first.others p (λ u disk these. apart u disk (let below = these.0 in omega (arith, below), these.1)))
        (λ u disk these. (let at = these.0 in omega (arith, at), these.1))
        (λ read. one-given (WasRead views) all s rest count before mid kept first.saves.0 read others)
        (λ x ok tells copied. λ v below.
        ⊎_elim
        (λ (same : v ≡ count). subst (IsCopied views files prefix old new kept) (sym same) copied)
        (λ (other : v ≢ count). stands v (omega (arith, below, other)) (first.saves.1 tells v (omega (arith, below, other))))
        (cases_eq v count))
        (λ u disk these failed. record { disks = failed.disks; luck = failed.luck; out = failed.out; is = failed.is; count = failed.count })
        is
      where
        -- the copies of those before stand
        stands : (v : ℕ) → v < count → IsCopied views files prefix old one mid v → IsCopied views files prefix old new kept v
        stands v below copied = λ ds l o kept-is disk few.
            copy-stands files (path_of prefix v disk) (views.told (disk_at disk ds)) one new
            (is.others (path_of prefix v disk) (λ u d these. paths_differ prefix v u disk d (omega (arith, below, low)) (let at = these.0 in omega (arith, at, low)) (omega (arith, few)) (let at = these.1 in omega (arith, at)) (λ both. let a = both.0 in let b = these.0 in omega (arith, a, b, below))))
            (copied ds l o (sym (others v (λ same. omega (arith, same, below))) ∙ kept-is) disk few)

    -- one more was given back, behind a fault
    pub one-kept : (old one new : Filing F) (fault : SavingFault) → SavesSoFar all (s ∷ rest) count before mid old one (Err fault) → WasKept s (kept count) → new ≡ one → SavesSoFar all rest (count + 1) before kept old new (Err fault)
    one-kept old one new fault first was same =
        subst (λ (f : Filing F). SavesSoFar all rest (count + 1) before kept old f (Err fault)) (sym same)
        (widened files prefix _ _ _ _ _ _ _ _ old old one (Err fault) refl (λ p has. has) (λ p apart. (refl, refl))
        (λ u disk these. (let below = these.0 in omega (arith, below), these.1))
        (λ given. one-given (WasRead views) all s rest count before mid kept given (kept-read views s (kept count) was) others)
        (λ x no tells copied. absurd (cc))
        (λ u disk these failed. record { disks = failed.disks; luck = failed.luck; out = failed.out; is = others u (λ same. let below = these.0 in omega (arith, same, below)) ∙ failed.is; count = failed.count })
        first)

  -- so behind a step of the loop
  module _ (all xs rest : List (Station D O U)) (s : Station D O U) (start node next : ℕ) (before mid kept : ℕ → Option (Disks D × O × U)) (others : (v : ℕ) → v ≢ node → kept v ≡ mid v) (old one new : Filing F) (answer : Result (Unit {0}) SavingFault)
      (taken : xs ≡ s ∷ rest) (at : node ≡ start) (after : next ≡ node + 1) (given : AreGiven (λ s k. Unit {0}) all xs start before mid) (is : SavesSoFar all xs start before mid old one answer) where
    given-here : AreGiven (λ s k. Unit {0}) all (s ∷ rest) node before mid
    given-here = subst (λ (ys : List (Station D O U)). AreGiven (λ s k. Unit {0}) all ys node before mid) taken (subst (λ (n : ℕ). AreGiven (λ s k. Unit {0}) all xs n before mid) (sym at) given)

    is-here : (r : Result (Unit {0}) SavingFault) → answer ≡ r → SavesSoFar all (s ∷ rest) node before mid old one r
    is-here r same =
        subst (λ (ys : List (Station D O U)). SavesSoFar all ys node before mid old one r) taken
        (subst (λ (n : ℕ). SavesSoFar all xs n before mid old one r) (sym at) (subst (λ (a : Result (Unit {0}) SavingFault). SavesSoFar all xs start before mid old one a) same is))

    given-next : AreGiven (λ s k. Unit {0}) all rest next before kept
    given-next = subst (λ (n : ℕ). AreGiven (λ s k. Unit {0}) all rest n before kept) (sym after) (one-given (λ s k. Unit {0}) all s rest node before mid kept given-here tt others)

    pub next-saved : (result : Result (Unit {0}) SavingFault) → length all ≤ 8 → is_ok answer ≡ true → SavesStation views files prefix node s kept one new result → AreGiven (λ s k. Unit {0}) all rest next before kept × SavesSoFar all rest next before kept old new result
    next-saved result few ok saves = (
      given-next,
      subst (λ (n : ℕ). SavesSoFar all rest n before kept old new result) (sym after)
          (one-saved all rest s node before mid kept others old one new result (room-left (λ s k. Unit {0}) all s rest node 8 before mid given-here few) (is-here (Ok tt) (ok-is answer ok)) saves),
    )

    pub next-kept : is_ok answer ≡ false → WasKept s (kept node) → new ≡ one → AreGiven (λ s k. Unit {0}) all rest next before kept × SavesSoFar all rest next before kept old new answer
    next-kept failed was same =
        let fault = fault-is answer failed in (
          given-next,
          subst (λ (a : Result (Unit {0}) SavingFault). SavesSoFar all rest next before kept old new a) (sym fault.1)
              (subst (λ (n : ℕ). SavesSoFar all rest n before kept old new (Err fault.0)) (sym after)
              (one-kept all rest s node before mid kept others old one new fault.0 (is-here (Err fault.0) fault.1) was same)),
        )

  -- all were
  pub all-saved : {A : Type 0} (r : Run D O U A) (rest : List (Station D O U)) (count : ℕ) (before kept : ℕ → Option (Disks D × O × U)) (old new : Filing F) (result : Result (Unit {0}) SavingFault)
      → length r.stations.items ≡ count → SavesSoFar r.stations.items rest count before kept old new result → SavesStations views files prefix r before kept old new result
  all-saved r rest count before kept old new result all is = widened files prefix _ _ _ _ _ _ _ _ old old new result refl (λ p has. has) (λ p apart. (refl, refl))
      (λ u disk these. (let below = these.0 in omega (arith, below, all), these.1))
      (λ given. record {
        each = λ v d low. given.given v d (omega (arith, low, all));
        others = λ v high. given.others v (omega (arith, high, all));
      })
      (λ x ok tells copied. λ v low. copied v (omega (arith, low, all)))
      (λ u disk these failed. failed)
      is
