-- A disk that is copied piece by piece.
use Rattle.std.proofs.Common.{◌≡◌, ℕ, ◌+◌, ◌≤◌, List, length, take, drop, min, subst, Option, Some, None, Result, Ok, Err, OnOk, is_ok, refl, sym, ap, ◌∙◌, arith, length-take, length-drop}
use Rattle.std.proofs.lemmas.List.{append-nil, drop_all, take_all, take_min}
use Rattle.std.proofs.Math.Seq.{take-add}
use Rattle.ken_disk.specs.declared.faults.DiskFault.{DiskFault}
use Rattle.ken_disk.specs.Bytes.{overwrite}
use Rattle.ken_disk.specs.Steps.{went, after_write, after_sync, after_syncing}
use Rattle.ken_disk.specs.declared.disk.TheConstants.{MAX_LEN}
use Rattle.ken_disk.specs.Fates.{Fate}
use Rattle.ken_disk.specs.Story.{Story, Tells, Follows}
use Rattle.ken_disk.proofs.Told.{some_is}
use Rattle.ken_files.specs.Copies.{HasFront, IsCopy, IsAsBefore, IsNotSynced}

-- an answer that is Ok where another is
pub ok_alike : {T E F : Type 0} (r : Result T E) (s : Result T F) (P : Type 0) → is_ok s ≡ is_ok r → OnOk r P → OnOk s P
ok_alike (Ok x) (Ok y) P e p = p
ok_alike (Err x) (Ok y) P e p = absurd (let no : ⊥ = cc e in no)
ok_alike r (Err y) P e p = tt

-- the next bytes behind the first ones
pub overwrite-front : (at n : ℕ) (l : List ℕ) → at + n ≤ length l → overwrite at (take n (drop at l)) (take at l) ≡ take (at + n) l
overwrite-front at n l within =
    let front : length (take at l) ≤ at = omega (arith, length-take at l) in
    let count : length (take n (drop at l)) ≡ n = omega (arith, length-take n (drop at l), length-drop at l) in
    rw (count, take_all at (take at l) front, drop_all (at + n) (take at l) (omega arith), append-nil (take n (drop at l))) (sym (take-add at n l))

-- a piece was written
pub front_written : (at n : ℕ) (bytes : List ℕ) (result : Result (Unit {0}) DiskFault) (disk old new : Option Story)
    → new ≡ went (after_write at bytes result) old
    → Tells disk (λ h. at + n ≤ length h.now.seen)
    → Tells disk (λ h. bytes ≡ take n (drop at h.now.seen))
    → HasFront at disk old
    → OnOk result (HasFront (at + n) disk new)
front_written at n bytes (Err fault) disk old new is within read front = tt
front_written at n bytes (Ok done) disk None new is within read front = λ h told f telling. absurd (let no : ⊥ = cc (is, telling) in no)
front_written at n bytes (Ok done) disk (Some s) new is within read front = λ h told f telling.
    let same = some_is _ _ (sym telling ∙ is) in
    ap (λ (h : Story). h.now.seen) same
    ∙ rw (read h told, front h told s refl) (overwrite-front at n h.now.seen (within h told))

-- the first bytes of a disk are copied
pub record IsCopied {D F : Type 0} (told : D → Option Story) (size faults : D → ℕ) (fate : D → Option Fate) (told_file : F → Option Story) (size_file faults_file : F → ℕ)
    (count : ℕ) (old new : D) (before after : F) : Type 0 where
  pub same : IsAsBefore told faults fate old new
  pub long : size new ≡ size old
  pub front : HasFront count (told new) (told_file after)
  pub end : size_file after ≡ count
  pub unsynced : Follows IsNotSynced (told_file before) (told_file after)
  pub none : faults_file after ≡ faults_file before

-- all is copied, and the file was synced
pub copied_whole : (at : ℕ) (result : Result (Unit {0}) DiskFault) (disk old new : Option Story)
    → new ≡ went (after_sync result) old
    → Tells disk (λ h. at ≡ min MAX_LEN (length h.now.seen))
    → HasFront at disk old
    → OnOk result (Tells disk (λ h. Tells new (IsCopy h)))
copied_whole at (Err fault) disk old new is end front = tt
copied_whole at (Ok done) disk None new is end front = λ h told f telling. absurd (let no : ⊥ = cc (is, telling) in no)
copied_whole at (Ok done) disk (Some s) new is end front = λ h told f telling.
    let same : f ≡ after_syncing s = some_is _ _ (sym telling ∙ is) in
    subst (IsCopy h) (sym same) (record {
      same = front h told s refl ∙ rw (end h told) (take_min MAX_LEN h.now.seen);
      safe = record { safe = refl; none = λ place no. no; within = omega arith };
      synced = omega arith;
    })
