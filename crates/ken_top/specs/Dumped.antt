-- What `dump` writes of a node's files, and that it changes none.
use Rattle.std.specs.Prelude.{◌≡◌, ℕ, ◌<◌, List, [], true, Option, Some}
use Rattle.std.specs.Io.KnownBytes.{Appends}
use Rattle.ken_disk.specs.Causes.{Rose}
use Rattle.ken_dump.specs.DumpText.{dump_text}
use Rattle.ken_dump.specs.Dumped.{AreRecovered}
use Rattle.ken_files.specs.Copies.{HasSpoilt}
use Rattle.ken_files.specs.Filing.{FileViews, Filing, KeepsRoom, path_of}
use Rattle.ken_model.specs.History.{IsPrefixOf}
use Rattle.ken_store.specs.declared.owner.Owner.{Owner}
use Rattle.ken_store.specs.Recovered.{IsRefusedAt}
use Rattle.ken_top.specs.declared.status.Status.{Status}
use Rattle.ken_top.specs.declared.status.Status.TheVariants as status

module _ {F : Type 0} (files : FileViews F) (o : Owner) (prefix : List ℕ) (old new : Filing F) where
  -- w is the text of what the node's files recover to, or a front of it
  abbrev pub IsDump : List ℕ → Type 0
  IsDump w = AreRecovered prefix o old (λ r. dump_text o.node r ≡ Some w)

  pub record IsDumpFront (w : List ℕ) : Type 0 where
    pub whole : List ℕ
    pub front : IsPrefixOf w whole
    pub is : IsDump whole

  -- what each status says of what was written
  abbrev pub WroteDump : List ℕ → Status → Type 0
  WroteDump w status.Dumped = files.tells ≡ true → IsDump w
  WroteDump w status.Write = files.tells ≡ true → IsDumpFront w
  WroteDump w (status.Open v disk) = (w ≡ []) × (v ≡ o.node) × (disk < 3) × Rose old.failures new.failures
  WroteDump w (status.Device v disk) =
      (w ≡ []) × (v ≡ o.node) × (files.tells ≡ true → HasSpoilt files (path_of prefix v disk) new)
  WroteDump w (status.Damaged v disk place) =
      (w ≡ []) × (v ≡ o.node) × (files.tells ≡ true → AreRecovered prefix o old (λ r. IsRefusedAt r disk place))
  WroteDump w status.Memory = w ≡ []
  WroteDump w _ = ⊥

  -- a node's files were dumped: each stands as it did
  pub record DumpsNode (took_old took_new : Option (List ℕ)) (answer : Status) : Type 0 where
    pub written : List ℕ
    pub out : Appends took_old took_new written
    pub wrote : WroteDump written answer
    pub same : files.tells ≡ true → (p : List ℕ) → new.bytes p ≡ old.bytes p
    pub rooms : KeepsRoom old new
