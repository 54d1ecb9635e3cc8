-- The calls that a creation makes of its disks, whatever it hands out, and after its disks were read.
use Rattle.std.proofs.Common.{ℕ, List, inl, inr, ⊎_elim, refl, subst, ◌∙◌, Option, Result, Ok, Err}
use Rattle.ken_disk.specs.Fates.{Fate}
use Rattle.ken_disk.specs.Story.{Story, Follows}
use Rattle.ken_disk.proofs.Told.{weakened}
use Rattle.ken_image.specs.Calls.{Call, Called}
use Rattle.ken_log.specs.Seals.{HasLogCause}
use Rattle.ken_store.specs.declared.disks.Disks.{Disks}
use Rattle.ken_store.specs.declared.faults.StoreFault.{StoreFault}
use Rattle.ken_store.specs.declared.faults.StoreFault.TheVariants as store
use Rattle.ken_store.specs.declared.owner.Owner.{Owner}
use Rattle.ken_store.specs.Creations.{Formats, FormatsLog, IsUncalled, MayFormat, image_calls}
use Rattle.ken_store.specs.Patching.{disk_answer}
use Rattle.ken_store.specs.Reads.{AreSame, IsSame}
use Rattle.ken_store.specs.Turning.{log_answer}
use Rattle.ken_node.specs.Created.{CallsDisks}

-- ---- what is said of the disks doesn't depend on what is handed out

abbrev pub as_unit : {T : Type 0} → Result T StoreFault → Result (Unit {0}) StoreFault
as_unit (Ok x) = Ok tt
as_unit (Err fault) = Err fault

module _ {T : Type 0} (o : Owner) where
  pub format-unit : (r : Result T StoreFault) (h s : Story) → MayFormat o r h s → MayFormat o (as_unit r) h s
  format-unit (Ok x) h s made = record { calls = made.calls; in_doubt = λ no. absurd (let none : ⊥ = cc no in none) }
  format-unit (Err store.Disk) h s made = ⊎_elim inl (λ (f : Formats {T = T} o (Err store.Disk) h s). inr (record { calls = f.calls; in_doubt = λ _. f.in_doubt refl })) made
  format-unit (Err store.Memory) h s made = ⊎_elim inl (λ (f : Formats {T = T} o (Err store.Memory) h s). inr (record { calls = f.calls; in_doubt = λ no. absurd (let none : ⊥ = cc no in none) })) made
  format-unit (Err (store.Damaged disk place)) h s made = ⊎_elim inl (λ (f : Formats {T = T} o (Err (store.Damaged disk place)) h s). inr (record { calls = f.calls; in_doubt = λ no. absurd (let none : ⊥ = cc no in none) })) made

module _ {T : Type 0} where
  cause-unit : (a b : ℕ) (r : Result T StoreFault) → HasLogCause a b (log_answer r) → HasLogCause a b (log_answer (as_unit r))
  cause-unit a b (Ok x) is = is
  cause-unit a b (Err store.Disk) is = is
  cause-unit a b (Err store.Memory) is = is
  cause-unit a b (Err (store.Damaged disk place)) is = is

  called-unit : (r : Result T StoreFault) (calls : List Call) (h s : Story) → Called (disk_answer r) calls h s → Called (disk_answer (as_unit r)) calls h s
  called-unit (Ok x) calls h s is = is
  called-unit (Err store.Disk) calls h s is = is
  called-unit (Err store.Memory) calls h s is = is
  called-unit (Err (store.Damaged disk place)) calls h s is = is

module _ {D T : Type 0} (told : D → Option Story) (count : D → ℕ) (o : Owner) (r : Result T StoreFault) where
  follows-unit : (a b : D) → Follows (MayFormat o r) (told a) (told b) → Follows (MayFormat o (as_unit r)) (told a) (told b)
  follows-unit a b made = weakened (MayFormat o r) (MayFormat o (as_unit r)) (told a) (told b) made (λ h s is was. format-unit o r h s was)

  formats-unit : (a b : D) → FormatsLog told count o r a b → FormatsLog told count o (as_unit r) a b
  formats-unit a b made = (follows-unit a b made.0, cause-unit (count a) (count b) r made.1)

  pub calls-unit : (old new : Disks D) → CallsDisks told count o r old new → CallsDisks told count o (as_unit r) old new
  calls-unit old new c = record {
    format = follows-unit old.log new.log c.format;
    log = ⊎_elim inl (λ made. inr (formats-unit old.log new.log made)) c.log;
    image = ⊎_elim
        (λ i. inl (i.0, weakened (Called (disk_answer r) (image_calls o)) (Called (disk_answer (as_unit r)) (image_calls o)) (told old.image) (told new.image) i.1 (λ h s is was. called-unit r (image_calls o) h s was)))
        (λ i. inr (formats-unit old.log new.log i.0, i.1))
        c.image;
  }

-- ---- the disks were read before

module _ {D T : Type 0} (told : D → Option Story) (count : D → ℕ) (fate : D → Option Fate) (o : Owner) (r : Result T StoreFault) where
  uncalled-since : (a b e : D) → IsSame told count fate a b → IsUncalled told count o r b e → IsUncalled told count o r a e
  uncalled-since a b e same is = (is.0 ∙ same.story, is.1 ∙ same.count)

  formats-since : (a b e : D) → IsSame told count fate a b → FormatsLog told count o r b e → FormatsLog told count o r a e
  formats-since a b e same made = (
    subst (λ (s : Option Story). Follows (MayFormat o r) s (told e)) same.story made.0,
    subst (λ (k : ℕ). HasLogCause k (count e) (log_answer r)) same.count made.1,
  )

  pub calls-since : (before old new : Disks D) → AreSame told count fate before old → CallsDisks told count o r old new → CallsDisks told count o r before new
  calls-since before old new same c = record {
    format = subst (λ (s : Option Story). Follows (MayFormat o r) s (told new.log)) same.log.story c.format;
    log = ⊎_elim (λ is. inl (uncalled-since before.log old.log new.log same.log is)) (λ made. inr (formats-since before.log old.log new.log same.log made)) c.log;
    image = ⊎_elim
        (λ i. inl (uncalled-since before.log old.log new.log same.log i.0, subst (λ (s : Option Story). Follows (Called (disk_answer r) (image_calls o)) s (told new.image)) same.image.story i.1))
        (λ i. inr (formats-since before.log old.log new.log same.log i.0, subst (λ (s : Option Story). Follows (Called {T = Unit {0}} (Ok tt) (image_calls o)) s (told new.image)) same.image.story i.1))
        c.image;
  }
