-- How often the disks of a node's logs were synced with Ok, or failed.
use Rattle.std.proofs.Common.{◌≡◌, ℕ, ◌+◌, ◌≤◌, ◌⊎◌, ⊎_elim, List, [], refl, sym, ap, subst, ◌∙◌, arith, Option, Some, None, Result, Ok, Err}
use Rattle.ken_disk.specs.declared.faults.DiskFault.{DiskFault}
use Rattle.ken_disk.specs.declared.faults.DiskFault.TheVariants as disk
use Rattle.ken_disk.specs.Causes.{Rose}
use Rattle.ken_disk.specs.Fates.{Fate}
use Rattle.ken_disk.specs.Moments.{Through}
use Rattle.ken_disk.specs.Story.{Story, Follows, IsImage}
use Rattle.ken_disk.specs.Writes.{Made}
use Rattle.ken_disk.proofs.Images.{image_at_rest}
use Rattle.ken_disk.proofs.Made.{syncs-after_writes}
use Rattle.ken_disk.proofs.Told.{some_is, told_both}
use Rattle.ken_record.specs.Versions.{One}
use Rattle.ken_log.specs.declared.faults.SealFault.{SealFault}
use Rattle.ken_log.specs.declared.faults.SealFault.TheVariants.{Disk, Memory}
use Rattle.ken_log.specs.Calls.{MadeAfterRead, log_writes, seal_writes}
use Rattle.ken_log.specs.Mounts.{mount_of, with_record}
use Rattle.ken_log.specs.Mounts as mounts
use Rattle.ken_log.specs.Seals.{Changes, HasLogCause, MountsAs, MountsAsEither, as_disk}
use Rattle.ken_store.specs.declared.faults.StoreFault.TheVariants as store
use Rattle.ken_store.specs.Creations.{MayFormat, first_header}
use Rattle.ken_store.specs.Work.{CreationWorks, SealWorks, TurnoverWorks, WorksMore, WorksOn}

-- no call takes a sync away
syncs_stay : (r : Result (Unit {0}) DiskFault) (writes : List (ℕ × List ℕ)) (h s : Story) → Made r writes h s → h.now.syncs ≤ s.now.syncs
syncs_stay (Ok x) writes h s made = let n = syncs-after_writes writes h in omega (arith, n, ap (λ (y : Story). y.now.syncs) made)
syncs_stay (Err disk.Failed) writes h s made = let n = syncs-after_writes made.0.done h in omega (arith, n, ap (λ (y : Story). y.now.syncs) made.1)
syncs_stay (Err disk.Memory) writes h s made = let n = syncs-after_writes made.0.done h in omega (arith, n, ap (λ (y : Story). y.now.syncs) made.1)

stay_after_read : (r : Result (Unit {0}) DiskFault) (writes : List (ℕ × List ℕ)) (h s : Story) → MadeAfterRead r writes h s → h.now.syncs ≤ s.now.syncs
stay_after_read (Ok x) writes h s made = syncs_stay (Ok x) writes h s made
stay_after_read (Err disk.Failed) writes h s made = ⊎_elim (λ same. omega (arith, ap (λ (y : Story). y.now.syncs) same)) (syncs_stay (Err disk.Failed) writes h s) made
stay_after_read (Err disk.Memory) writes h s made = syncs_stay (Err disk.Memory) writes h s made

faults_stay : (r : Result (Unit {0}) SealFault) (before now : ℕ) → HasLogCause before now r → before ≤ now
faults_stay (Ok x) before now cause = omega (arith, cause)
faults_stay (Err Disk) before now cause = cause.0
faults_stay (Err Memory) before now cause = omega (arith, cause)

-- where it is in doubt what a crash leaves, and it may leave another log, all syncs but the last have answered Ok
in_doubt : (h s : Story) (P : List ℕ → Type 0) (n : ℕ) → ((image : List ℕ) → P image → mount_of image ≡ mount_of h.now.seen) → Through P h s ⊎ (s.now.syncs + 1 ≡ h.now.syncs + n)
    → (image : List ℕ) × (IsImage s.now image × (mount_of image ≡ mount_of h.now.seen → ⊥)) → s.now.syncs + 1 ≡ h.now.syncs + n
in_doubt h s P n same either changed =
    ⊎_elim (λ through. absurd (changed.1.1 (same changed.0 (through.each changed.0 (record { moment = s; since = through.on; until = record { steps = []; grown = refl }; is = changed.1.0 }))))) (λ is. is) either

module _ {D : Type 0} (told : D → Option Story) (count : D → ℕ) (old new other : D) where
  -- the story before, where the one after is told
  before : (R : Story → Story → Type 0) (s : Story) → Follows R (told old) (told new) → told new ≡ Some s → (h : Story) × ((told old ≡ Some h) × R h s)
  before R s follows is = by_old (told old) refl
    where
      by_old : (o : Option Story) → told old ≡ o → (h : Story) × ((told old ≡ Some h) × R h s)
      by_old None was = absurd (let no : ⊥ = cc (subst (λ (o : Option Story). Follows R o (told new)) was follows, is) in no)
      by_old (Some h) was =
          let both = told_both R h (told old) (told new) was follows in
          (h, (was, subst (R h) (some_is both.0 s (sym both.1 ∙ is)) both.2))

  works_on : (R : Story → Story → Type 0) → Follows R (told old) (told new) → ((h s : Story) → R h s → h.now.syncs ≤ s.now.syncs) → count old ≤ count new → WorksOn told count old new other
  works_on R follows syncs faults n worked s is x ix =
      let was = before R s follows is in
      omega (arith, worked was.0 was.1.0 x ix, syncs was.0 s was.1.1, faults)

  more_syncs : (R : Story → Story → Type 0) (more : ℕ) → Follows R (told old) (told new) → ((h s : Story) → R h s → s.now.syncs ≡ h.now.syncs + more) → count new ≡ count old → WorksMore told count more old new other
  more_syncs R more follows syncs faults n small worked s is x ix =
      let was = before R s follows is in
      omega (arith, worked was.0 was.1.0 x ix, syncs was.0 s was.1.1, faults)

  -- a fault counts as much as a sync
  syncs_and_fault : (R : Story → Story → Type 0) (more : ℕ) → Follows R (told old) (told new) → ((h s : Story) → told old ≡ Some h → told new ≡ Some s → R h s → s.now.syncs + 1 ≡ h.now.syncs + more) → Rose (count old) (count new) → WorksMore told count more old new other
  syncs_and_fault R more follows syncs rose n small worked s is x ix =
      let was = before R s follows is in
      omega (arith, small, worked was.0 was.1.0 x ix, syncs was.0 s was.1.0 is was.1.1, rose)

module _ {D : Type 0} (told : D → Option Story) (count : D → ℕ) where
  pub seal_works : (fate : D → Option Fate) → SealWorks told count fate
  seal_works fate (Ok x) place item old new other seals = record {
    still = works_on told count old new other _ seals.calls (λ h s made. syncs_stay (Ok x) (seal_writes One place item) h s made) (faults_stay (Ok x) _ _ seals.cause);
    ok = more_syncs told count old new other _ 2 seals.calls (λ h s made. ap (λ (y : Story). y.now.syncs) made ∙ syncs-after_writes (seal_writes One place item) h) seals.cause;
    landed = λ no. absurd (let none : ⊥ = cc no in none);
  }
  seal_works fate (Err Disk) place item old new other seals = record {
    still = works_on told count old new other _ seals.calls (λ h s made. syncs_stay (Err disk.Failed) (seal_writes One place item) h s made) (faults_stay (Err Disk) _ _ seals.cause);
    ok = tt;
    landed = λ _ changed.
        syncs_and_fault told count old new other (λ (h s : Story). Changes {T = Unit {0}} (mount_of h.now.seen) (with_record item (mount_of h.now.seen)) 2 (Err Disk) h s) 2 seals.story
        (λ h s th ts changes. in_doubt h s (MountsAs (mount_of h.now.seen)) 2 (λ image p. p) (changes.in_doubt refl) (changed h th s ts)) seals.cause.1;
  }
  seal_works fate (Err Memory) place item old new other seals = record {
    still = works_on told count old new other _ seals.calls (λ h s made. syncs_stay (Err disk.Memory) (seal_writes One place item) h s made) (faults_stay (Err Memory) _ _ seals.cause);
    ok = tt;
    landed = λ no. absurd (let none : ⊥ = cc no in none);
  }

  pub turnover_works : (fate : D → Option Fate) → TurnoverWorks told count fate
  turnover_works fate result head base old new other replaces =
      works_on told count old new other _ replaces.calls (λ h s made. stay_after_read (as_disk result) (log_writes head (Some base) h.now.seen) h s made) (faults_stay result _ _ replaces.cause)

  pub creation_works : CreationWorks told count
  creation_works (Ok x) o old new other none formats cause = record {
    still = works_on told count old new other (MayFormat {T = Unit {0}} o (Ok x)) formats (λ h s made. stay_after_read (Ok x) (log_writes (first_header o) None h.now.seen) h s made.calls) (faults_stay (Ok x) _ _ cause);
    ok = more_syncs told count old new other (MayFormat {T = Unit {0}} o (Ok x)) 3 formats (λ h s made. ap (λ (y : Story). y.now.syncs) made.calls ∙ syncs-after_writes (log_writes (first_header o) None h.now.seen) h) cause;
    landed = λ no. absurd (let none : ⊥ = cc no in none);
  }
  creation_works (Err store.Disk) o old new other none formats cause = record {
    still =
        works_on told count old new other (MayFormat {T = Unit {0}} o (Err store.Disk)) formats
        (λ h s made. ⊎_elim (λ same. omega (arith, ap (λ (y : Story). y.now.syncs) same)) (λ f. stay_after_read (Err disk.Failed) (log_writes (first_header o) None h.now.seen) h s f.calls) made) (faults_stay (Err Disk) _ _ cause);
    ok = tt;
    landed = λ _ changed.
        syncs_and_fault told count old new other (MayFormat {T = Unit {0}} o (Err store.Disk)) 3 formats
        (λ h s th ts made.
        ⊎_elim
        (λ same. let other_log = changed h th s ts in absurd (other_log.1.1 (ap mount_of (image_at_rest h.now (none h th).0 other_log.0 (subst (λ (y : Story). IsImage y.now other_log.0) same other_log.1.0)))))
        (λ f. in_doubt h s (MountsAsEither (mount_of h.now.seen) mounts.Unformatted) 3 (λ image e. ⊎_elim (λ is. is) (λ un. un ∙ sym (none h th).1) e) (f.in_doubt refl) (changed h th s ts))
        made)
        cause.1;
  }
  creation_works (Err store.Memory) o old new other none formats cause = record {
    still =
        works_on told count old new other (MayFormat {T = Unit {0}} o (Err store.Memory)) formats
        (λ h s made. ⊎_elim (λ same. omega (arith, ap (λ (y : Story). y.now.syncs) same)) (λ f. stay_after_read (Err disk.Memory) (log_writes (first_header o) None h.now.seen) h s f.calls) made) (faults_stay (Err Memory) _ _ cause);
    ok = tt;
    landed = λ no. absurd (let none : ⊥ = cc no in none);
  }
  creation_works (Err (store.Damaged n place)) o old new other none formats cause = record {
    still =
        works_on told count old new other (MayFormat {T = Unit {0}} o (Err (store.Damaged n place))) formats
        (λ h s made. ⊎_elim (λ same. omega (arith, ap (λ (y : Story). y.now.syncs) same)) (λ f. stay_after_read (Err disk.Memory) (log_writes (first_header o) None h.now.seen) h s f.calls) made) (faults_stay (Err Memory) _ _ cause);
    ok = tt;
    landed = λ no. absurd (let none : ⊥ = cc no in none);
  }
