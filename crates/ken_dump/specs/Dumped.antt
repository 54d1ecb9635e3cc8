-- What dumping a node's files answers, and that it changes none.
use Rattle.std.specs.Prelude.{◌≡◌, ℕ, ◌<◌, ◌≤◌, List, true, Some, Result, IfOk, IsErrOf}
use Rattle.ken_disk.specs.Causes.{Rose}
use Rattle.ken_files.specs.Copies.{HasSpoilt}
use Rattle.ken_files.specs.Filing.{FileViews, Filing, KeepsRoom, path_of}
use Rattle.ken_store.specs.declared.owner.Owner.{Owner}
use Rattle.ken_store.specs.Recovered.{Recovery, recovered, IsRefusedAt}
use Rattle.ken_dump.specs.declared.faults.DumpFault.{DumpFault}
use Rattle.ken_dump.specs.declared.faults.DumpFault.TheVariants.{Open, Device, Damaged}
use Rattle.ken_dump.specs.DumpText.{dump_text}

-- under the paths of a node's three disks stand files, and what their bytes recover to has P
pub record AreRecovered {F : Type 0} (prefix : List ℕ) (o : Owner) (old : Filing F)
    (P : Recovery → Type 0) : Type 0 where
  pub log : List ℕ
  pub image : List ℕ
  pub second : List ℕ
  pub log_is : old.bytes (path_of prefix o.node 0) ≡ Some log
  pub image_is : old.bytes (path_of prefix o.node 1) ≡ Some image
  pub second_is : old.bytes (path_of prefix o.node 2) ≡ Some second
  pub recovers : P (recovered o log image second)

-- a node's files were opened, recovered and put back: where they are told, the answer is what their bytes recover to, and
-- they are as they were
pub record Dumps {F : Type 0} (views : FileViews F) (o : Owner) (prefix : List ℕ) (old new : Filing F)
    (result : Result (List ℕ) DumpFault) : Type 0 where
  pub text : views.tells ≡ true → IfOk result (λ text. AreRecovered prefix o old (λ r. dump_text o.node r ≡ Some text))
  pub damaged : views.tells ≡ true → (disk place : ℕ) → IsErrOf result (Damaged disk place)
      → AreRecovered prefix o old (λ r. IsRefusedAt r disk place)
  pub spoilt : views.tells ≡ true → (disk : ℕ) → IsErrOf result (Device disk)
      → HasSpoilt views (path_of prefix o.node disk) new
  pub opening : (disk : ℕ) → IsErrOf result (Open disk) → (disk < 3) × Rose old.failures new.failures
  pub no_failed_opening : ((disk : ℕ) → IsErrOf result (Open disk) → ⊥) → new.failures ≡ old.failures
  pub rise : old.failures ≤ new.failures
  pub same : views.tells ≡ true → (p : List ℕ) → new.bytes p ≡ old.bytes p
  pub rooms : KeepsRoom old new
