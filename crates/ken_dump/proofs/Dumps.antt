-- What a dump says, from what its calls do.
use Rattle.std.proofs.Common.{◌≡◌, ℕ, zero, suc, ◌<◌, List, [], true, Some, option_map, Result, Ok, Err, IfOk, string_bytes}
use Rattle.std.proofs.Common.{arith, sym, ap, subst, ◌∙◌}
use Rattle.ken_disk.specs.Causes.{Rose}
use Rattle.ken_disk.specs.Story.{Story}
use Rattle.ken_files.specs.Copies.{HasSpoilt}
use Rattle.ken_files.specs.Filing.{FileViews, Filing, PutsBack, bytes_of, path_of}
use Rattle.ken_store.specs.declared.disks.Disks.{Disks}
use Rattle.ken_store.specs.declared.owner.Owner.{Owner}
use Rattle.ken_store.specs.Answers.{TellsAll}
use Rattle.ken_store.specs.Recovered.{Recovery, recovered, IsRefusedAt}
use Rattle.ken_dump.specs.declared.faults.DumpFault.{DumpFault}
use Rattle.ken_dump.specs.declared.opening.Paths.{Paths}
use Rattle.ken_dump.specs.DumpText.{dump_text}
use Rattle.ken_dump.specs.Dumped.{AreRecovered, Dumps}
use Rattle.ken_dump.specs.Out.{AreApart, AreOpened, AreOut, ArePaths, files_of}
use Rattle.ken_dump.specs.Telling.{AreUnwritten, Blames, IsToldBy, disk_at}
use Rattle.ken_dump.proofs.Apart.{paths_apart}
use Rattle.ken_dump.proofs.Out.{one_put_back}

-- what a path tells, of a file whose story is told
seen_in : {F : Type 0} (views : FileViews F) (old : Filing F) (path spelled : List ℕ) (file : F) (h : Story) → path ≡ spelled
    → old.bytes path ≡ bytes_of views file → views.told file ≡ Some h → old.bytes spelled ≡ Some h.now.seen
seen_in views old path spelled file h path_is bytes told =
    ap old.bytes (sym path_is) ∙ bytes ∙ ap (option_map (λ (s : Story). s.now.seen)) told

module _ {F : Type 0} (views : FileViews F) (o : Owner) (prefix : List ℕ) (paths : Paths) (are : ArePaths prefix o.node paths)
    (few : o.node < 10) (old mid : Filing F) (disks : Disks F) (opened : AreOpened views disks)
    (out : AreOut views (files_of paths disks) old mid) where
  -- where they are told, files that were opened stand under the paths of the disks
  recovered_of : (P : Recovery → Type 0) → views.tells ≡ true
      → TellsAll views.told disks (λ l i s. P (recovered o l.now.seen i.now.seen s.now.seen)) → AreRecovered prefix o old P
  recovered_of P tells told =
      let l = opened.log.speaks tells in
      let i = opened.image.speaks tells in
      let s = opened.second.speaks tells in
      let bytes = out.bytes tells in
      record {
        log = l.0.now.seen;
        image = i.0.now.seen;
        second = s.0.now.seen;
        log_is = seen_in views old _ _ disks.log l.0 are.log bytes.1.1.0 l.1;
        image_is = seen_in views old _ _ disks.image i.0 are.image bytes.1.0 i.1;
        second_is = seen_in views old _ _ disks.second s.0 are.second bytes.0 s.1;
        recovers = told l.0 l.1 i.0 i.1 s.0 s.1;
      }

  text_of : (result : Result (List ℕ) DumpFault) → TellsAll views.told disks (IsToldBy o result) → views.tells ≡ true
      → IfOk result (λ text. AreRecovered prefix o old (λ r. dump_text o.node r ≡ Some text))
  text_of (Ok text) told tells = recovered_of (λ r. dump_text o.node r ≡ Some text) tells told
  text_of (Err fault) told tells = tt

  module _ (now : Disks F) (unwritten : AreUnwritten views.told disks now) (a b new : Filing F)
      (second : PutsBack views (string_bytes paths.second) now.second mid a)
      (image : PutsBack views (string_bytes paths.image) now.image a b)
      (log : PutsBack views (string_bytes paths.log) now.log b new) where
    all_back : AreOut views [] old new
    all_back =
        let second_back = one_put_back out second (seen unwritten.second) in
        let image_back = one_put_back second_back image (seen unwritten.image) in
        one_put_back image_back log (seen unwritten.log)
      where
        seen : {f g : F} → views.told f ≡ views.told g → bytes_of views f ≡ bytes_of views g
        seen same = ap (option_map (λ (s : Story). s.now.seen)) same

    apart : AreApart paths
    apart = paths_apart few are

    -- where each of the files stands then
    spoilt_at : views.tells ≡ true → (disk : ℕ) → disk < 3 → Rose 0 (views.faults (disk_at disk now))
        → HasSpoilt views (path_of prefix o.node disk) new
    spoilt_at tells zero small rose = record {
      file = now.log;
      put = rw (sym are.log) (log.put tells);
      count = rose;
    }
    spoilt_at tells (suc zero) small rose = record {
      file = now.image;
      put = rw (sym are.image) ((log.others _ apart.image).0 ∙ image.put tells);
      count = rose;
    }
    spoilt_at tells (suc (suc zero)) small rose = record {
      file = now.second;
      put = rw (sym are.second) ((log.others _ apart.third).0 ∙ (image.others _ apart.second).0 ∙ second.put tells);
      count = rose;
    }
    spoilt_at tells (suc (suc (suc n))) small rose = absurd (omega arith)

    -- the files were opened, told and put back
    pub Dumps-told : (result : Result (List ℕ) DumpFault) → TellsAll views.told disks (IsToldBy o result)
        → Blames views.faults now result → mid.failures ≡ old.failures → Dumps views o prefix old new result
    Dumps-told result told blame failures = record {
      text = text_of result told;
      damaged = λ tells disk place e.
          recovered_of (λ r. IsRefusedAt r disk place) tells
          (subst (λ (x : Result (List ℕ) DumpFault). TellsAll views.told disks (IsToldBy o x)) e told);
      spoilt = λ tells disk e. (let blamed = subst (Blames views.faults now) e blame in spoilt_at tells disk blamed.0 blamed.1);
      opening = λ disk e. absurd (subst (Blames views.faults now) e blame);
      no_failed_opening = λ none. log.failures ∙ image.failures ∙ second.failures ∙ failures;
      rise = omega (arith, log.failures, image.failures, second.failures, failures);
      same = λ tells p. all_back.others tells p tt;
      rooms = all_back.rooms;
    }
