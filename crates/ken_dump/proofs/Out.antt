-- Files are opened and put back, one after the other.
use Rattle.std.proofs.Common.{◌≡◌, ◌≢◌, ℕ, List, [], ◌∷◌, Bool, true, false, Ok, Err, bytes_eq, refl, sym, subst, ◌∙◌}
use Rattle.std.specs.List.{AllByRecursion}
use Rattle.std.proofs.lemmas.Slice.Eq.{bytes_eq-Decides}
use Rattle.ken_files.specs.declared.faults.OpenFault.{OpenFault}
use Rattle.ken_files.specs.Filing.{FileViews, Filing, Finds, KeepsRoom, PutsBack, bytes_of}
use Rattle.ken_dump.specs.Out.{AreOut}

-- what holds of a path and of all others holds of each
by_path : (path : List ℕ) (P : List ℕ → Type 0) → P path → ((p : List ℕ) → p ≢ path → P p) → (p : List ℕ) → P p
by_path path P here there p = go (bytes_eq p path) refl
  where
    go : (same : Bool) → bytes_eq p path ≡ same → P p
    go true is = subst P (sym ((bytes_eq-Decides p path).0 is)) here
    go false is = there p (λ e. cc (sym ((bytes_eq-Decides p path).1 e) ∙ is))

stays_roomy : {F : Type 0} (old new : Filing F) (out : List (List ℕ × F)) → KeepsRoom old new
    → AllByRecursion (λ x. old.room x.0 ≡ true) out → AllByRecursion (λ x. new.room x.0 ≡ true) out
stays_roomy old new [] keeps all = tt
stays_roomy old new (x ∷ out) keeps all = (keeps x.0 all.0, stays_roomy old new out keeps all.1)

pub none_out : {F : Type 0} (views : FileViews F) (old : Filing F) → AreOut views [] old old
none_out views old = record {
  bytes = λ tells. tt;
  room = tt;
  others = λ tells p apart. refl;
  rooms = λ p room. room;
}

module _ {F : Type 0} {views : FileViews F} {out : List (List ℕ × F)} {old now new : Filing F} {path : List ℕ} where
  -- one more is out
  pub one_more_out : {file : F} → AreOut views out old now → AllByRecursion (λ x. path ≢ x.0) out
      → Finds views path false now new (Ok file) → AreOut views ((path, file) ∷ out) old new
  one_more_out are apart finds = record {
    bytes = λ tells. (sym (are.others tells path apart) ∙ finds.reads tells refl, are.bytes tells);
    room = (finds.room, stays_roomy now new out finds.rooms are.room);
    others = λ tells p apart. (finds.others p apart.0).1 ∙ are.others tells p apart.1;
    rooms = λ p room. finds.rooms p (are.rooms p room);
  }

  -- none more, where it can't be opened
  pub no_more_out : {fault : OpenFault} → AreOut views out old now → Finds views path false now new (Err fault)
      → AreOut views out old new
  no_more_out are finds = record {
    bytes = are.bytes;
    room = stays_roomy now new out finds.rooms are.room;
    others = λ tells p apart.
        by_path path (λ q. new.bytes q ≡ now.bytes q) (finds.stays refl).1 (λ q ne. (finds.others q ne).1) p
        ∙ are.others tells p apart;
    rooms = λ p room. finds.rooms p (are.rooms p room);
  }

  -- one was put back, with the bytes that it had
  pub one_put_back : {file now_file : F} → AreOut views ((path, file) ∷ out) old now → PutsBack views path now_file now new
      → bytes_of views now_file ≡ bytes_of views file → AreOut views out old new
  one_put_back are puts same = record {
    bytes = λ tells. (are.bytes tells).1;
    room = stays_roomy now new out puts.rooms are.room.1;
    others = λ tells p apart.
        by_path path (λ q. AllByRecursion (λ x. q ≢ x.0) out → new.bytes q ≡ old.bytes q)
        (λ apart. puts.bytes tells ∙ same ∙ sym (are.bytes tells).0)
        (λ q ne apart. (puts.others q ne).1 ∙ are.others tells q (ne, apart))
        p apart;
    rooms = λ p room. puts.rooms p (are.rooms p room);
  }
