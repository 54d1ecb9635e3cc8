-- What is left of a log when its disk was restarted.
use Rattle.std.proofs.Common.{◌≡◌, ℕ, ◌+◌, ◌≤◌, ◌⊎◌, ⊎_elim, List, [], ◌∷◌, ◌++◌, length, sym, ap, subst, ◌∙◌, arith, length-append, Option, Some}
use Rattle.ken_disk.specs.Story.{Story, Tells}
use Rattle.ken_disk.specs.Moments.{Through}
use Rattle.ken_disk.specs.Steps.{WentDown}
use Rattle.ken_disk.proofs.Since.{leaves_now}
use Rattle.ken_record.specs.declared.header.Header.{Header}
use Rattle.ken_record.specs.declared.base.Base.{Base}
use Rattle.ken_record.specs.declared.record.Record.{Record}
use Rattle.ken_log.specs.declared.log.Log.{Log}
use Rattle.ken_log.specs.Mounts.{Mounted, Whole, mount_of, with_record}
use Rattle.ken_log.specs.Seals.{MountsAsEither}
use Rattle.ken_log.specs.Settled.{IsSettled, IsMountedAs}
use Rattle.ken_log.proofs.LogMounts.{log_mounts}

-- a restart after a call leaves what mounts as before the call or as after it
pub restart_mounts : (before after : Mounted) (old left now : Story) → Through (MountsAsEither before after) old left → WentDown left now → MountsAsEither before after now.now.seen
restart_mounts before after old left now through went =
    subst (λ (h : Story). MountsAsEither before after h.now.seen) (sym went.left)
    (leaves_now (MountsAsEither before after) old left through went.image went.is)

-- a log that takes seals is what its disk mounts as
pub settled_mounts : {D : Type 0} (told : D → Option Story) (size : D → ℕ) (log : Log D) → IsSettled told size log → Tells (told log.disk) (λ h. IsMountedAs log (mount_of h.now.seen))
settled_mounts told size log settled h is =
    let k = settled.holds h is in
    record { items = k.items; is = log_mounts h.now.seen log.header log.base k.items log.end k.lies; count = k.count }

items_of : (head other : Header) (base under : Option Base) (items more : List Record) → Whole head base items ≡ Whole other under more → items ≡ more
items_of head other base under items more e = cc e

module _ {D : Type 0} (log new : Log D) where
  -- two logs that stand for the same have as many records
  pub mounted_anew : (mounted : Mounted) → IsMountedAs log mounted → IsMountedAs new mounted → new.records ≡ log.records
  mounted_anew mounted l n =
      let same = ap length (items_of new.header log.header new.base log.base n.items l.items (sym n.is ∙ l.is)) in
      omega (arith, same, l.count, n.count)

  -- where nothing was sealed, or one record was
  pub mounted_again : (before : Mounted) (item : Record) (bytes : List ℕ) → IsMountedAs log before → MountsAsEither before (with_record item before) bytes → IsMountedAs new (mount_of bytes) → (log.records ≤ new.records) × (new.records ≤ log.records + 1)
  mounted_again before item bytes l either n = ⊎_elim
      (λ e.
      let long = ap length (items_of new.header log.header new.base log.base n.items l.items (sym n.is ∙ e ∙ l.is)) in
      (omega (arith, long, l.count, n.count), omega (arith, long, l.count, n.count)))
      (λ e.
      let more : n.items ≡ l.items ++ item ∷ [] = items_of new.header log.header new.base log.base n.items (l.items ++ item ∷ []) (sym n.is ∙ e ∙ ap (with_record item) l.is) in
      let long = ap length more in
      (omega (arith, long, length-append l.items (item ∷ []), l.count, n.count), omega (arith, long, length-append l.items (item ∷ []), l.count, n.count)))
      either
