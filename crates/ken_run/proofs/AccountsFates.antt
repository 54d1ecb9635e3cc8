-- What the disks of a node tell of their falls.
use Rattle.std.proofs.Common.{◌≡◌, ◌∙◌, ℕ, ◌+◌, ◌≤◌, inl, inr, Bool, true, false, ◌∷◌, length, Option, Some, None, Err, refl, sym, ap, subst, arith}
use Rattle.ken_disk.specs.declared.faults.DiskFault.TheVariants.{Failed}
use Rattle.ken_disk.specs.Fates.{Fate, Origin, Raised, Suffers, fall_of}
use Rattle.ken_disk.specs.Story.{Story, Follows}
use Rattle.ken_store.specs.declared.disks.Disks.{Disks}
use Rattle.ken_node.specs.declared.stage.Stage.{Stage}
use Rattle.ken_node.specs.Restarts.{AreUnfailed, OneHasFailed, WereRestarted}
use Rattle.ken_node.specs.Stages.{HasDisks}
use Rattle.ken_run.specs.Accounts.{AreFated, AreOwnDisks, AreRaised, AreTelling, HasFates, HasOwnDisks, HaveFallen, IsOwnDisk}

-- what is told after a step was told before it
pub told-before : {X : Type 0} (R : X → X → Type 0) (old new : Option X) (y : X) → Follows R old new → new ≡ Some y → (x : X) × ((old ≡ Some x) × R x y)
told-before R None new y f is = let no : None ≡ Some y = sym f ∙ is in absurd (cc)
told-before R (Some x) new y f is = let both : Some f.0 ≡ Some y = sym f.1 ∙ is in let same : f.0 ≡ y = cc in (x, (refl, subst (λ z. R x z) same f.2))

-- and what is told after it where something was
told-after : {X : Type 0} (R : X → X → Type 0) (old new : Option X) (x : X) → Follows R old new → old ≡ Some x → (y : X) × (new ≡ Some y)
told-after R None new x f is = absurd (cc)
told-after R (Some y) new x f is = (f.0, f.1)

-- ---- whose a disk is, and its restarts

own-failed : (scripted : Bool) (origin : Origin) (often : ℕ) (old new : Option Fate) → Follows (Suffers {T = Unit {0}} (Err Failed)) old new → IsOwnDisk scripted origin often old → IsOwnDisk scripted origin often new
own-failed scripted origin often None new follows own = subst (IsOwnDisk scripted origin often) (sym follows) own
own-failed scripted origin often (Some f) new follows own =
    subst (IsOwnDisk scripted origin often) (sym follows.1)
    (ap (λ (x : Fate). x.origin) follows.2.0 ∙ own.0, ap (λ (x : Fate). length x.picks) follows.2.0 ∙ own.1)

own-raised : (scripted : Bool) (origin : Origin) (often pick : ℕ) (old new : Option Fate) → Follows (Raised pick) old new → IsOwnDisk scripted origin often old → IsOwnDisk scripted origin (often + 1) new
own-raised scripted origin often pick (Some f) new follows own =
    let longer : length follows.0.picks ≡ length (pick ∷ f.picks) = ap (λ (x : Fate). length x.picks) follows.2 in
    let was : length f.picks ≡ often = own.1 in
    subst (IsOwnDisk scripted origin (often + 1)) (sym follows.1) (ap (λ (x : Fate). x.origin) follows.2 ∙ own.0, omega (arith, longer, was))
own-raised true origin often pick None new follows own = absurd own
own-raised false origin often pick None new follows own = subst (IsOwnDisk false origin (often + 1)) (sym follows) own

module _ {D : Type 0} (told : D → Option Story) (count : D → ℕ) (fate : D → Option Fate) (scripted : Bool) where
  -- of three disks
  module _ (origins : ℕ → Origin) (often : ℕ) (a b : Disks D) where
    abbrev Own : (which : ℕ) → Option Fate → Type 0
    Own which = IsOwnDisk scripted (origins which) often

    pub own-unfailed : AreUnfailed told count fate a b → AreOwnDisks fate scripted origins often a → AreOwnDisks fate scripted origins often b
    own-unfailed u own = record { log = subst (Own 0) (sym u.log.falls) own.log; image = subst (Own 1) (sym u.image.falls) own.image; second = subst (Own 2) (sym u.second.falls) own.second }

    pub own-one-failed : OneHasFailed told count fate a b → AreOwnDisks fate scripted origins often a → AreOwnDisks fate scripted origins often b
    own-one-failed (inl w) own = record {
      log = own-failed scripted (origins 0) often (fate a.log) (fate b.log) w.0.falls own.log;
      image = subst (Own 1) (sym w.1.falls) own.image;
      second = subst (Own 2) (sym w.2.falls) own.second;
    }
    own-one-failed (inr (inl w)) own = record {
      log = subst (Own 0) (sym w.0.falls) own.log;
      image = own-failed scripted (origins 1) often (fate a.image) (fate b.image) w.1.falls own.image;
      second = subst (Own 2) (sym w.2.falls) own.second;
    }
    own-one-failed (inr (inr w)) own = record {
      log = subst (Own 0) (sym w.0.falls) own.log;
      image = subst (Own 1) (sym w.1.falls) own.image;
      second = own-failed scripted (origins 2) often (fate a.second) (fate b.second) w.2.falls own.second;
    }

    own-restarted : (pick : ℕ) → WereRestarted told count fate pick a b → AreOwnDisks fate scripted origins often a → AreOwnDisks fate scripted origins (often + 1) b
    own-restarted pick w own = record {
      log = own-raised scripted (origins 0) often pick (fate a.log) (fate b.log) w.log.falls own.log;
      image = own-raised scripted (origins 1) often pick (fate a.image) (fate b.image) w.image.falls own.image;
      second = own-raised scripted (origins 2) often pick (fate a.second) (fate b.second) w.second.falls own.second;
    }

  -- ---- and their falls

  abbrev pub Fated : (Fate → Fate → Fate → Type 0) → Disks D → Type 0
  Fated P disks = AreFated fate scripted P disks

  -- ---- they go on telling

  unfailed-tell : (a b : Disks D) → AreUnfailed told count fate a b → AreTelling fate a → AreTelling fate b
  unfailed-tell a b u t = record { log = t.log; image = t.image; second = t.second; log_is = u.log.falls ∙ t.log_is; image_is = u.image.falls ∙ t.image_is; second_is = u.second.falls ∙ t.second_is }

  restarted-tell : (pick : ℕ) (a b : Disks D) → WereRestarted told count fate pick a b → AreTelling fate a → AreTelling fate b
  restarted-tell pick a b w t =
      let l = told-after _ (fate a.log) (fate b.log) t.log w.log.falls t.log_is in
      let i = told-after _ (fate a.image) (fate b.image) t.image w.image.falls t.image_is in
      let s = told-after _ (fate a.second) (fate b.second) t.second w.second.falls t.second_is in
      record { log = l.0; image = i.0; second = s.0; log_is = l.1; image_is = i.1; second_is = s.1 }

  pub failed-tell : (a b : Disks D) → OneHasFailed told count fate a b → AreTelling fate a → AreTelling fate b
  failed-tell a b (inl w) t =
      let l = told-after _ (fate a.log) (fate b.log) t.log w.0.falls t.log_is in
      record { log = l.0; image = t.image; second = t.second; log_is = l.1; image_is = w.1.falls ∙ t.image_is; second_is = w.2.falls ∙ t.second_is }
  failed-tell a b (inr (inl w)) t =
      let i = told-after _ (fate a.image) (fate b.image) t.image w.1.falls t.image_is in
      record { log = t.log; image = i.0; second = t.second; log_is = w.0.falls ∙ t.log_is; image_is = i.1; second_is = w.2.falls ∙ t.second_is }
  failed-tell a b (inr (inr w)) t =
      let s = told-after _ (fate a.second) (fate b.second) t.second w.2.falls t.second_is in
      record { log = t.log; image = t.image; second = s.0; log_is = w.0.falls ∙ t.log_is; image_is = w.1.falls ∙ t.image_is; second_is = s.1 }

  pub unfailed-fated : (P : Fate → Fate → Fate → Type 0) (a b : Disks D) → AreUnfailed told count fate a b → Fated P a → Fated P b
  unfailed-fated P a b u f = record { falls = λ l i s x y z. f.falls l i s (sym u.log.falls ∙ x) (sym u.image.falls ∙ y) (sym u.second.falls ∙ z); tell = λ tells. unfailed-tell a b u (f.tell tells) }

  restarted-fated : (cuts often pick : ℕ) (a b : Disks D) → WereRestarted told count fate pick a b → Fated (HaveFallen cuts often) a → Fated (AreRaised cuts often) b
  restarted-fated cuts often pick a b w f = record {
    tell = λ tells. restarted-tell pick a b w (f.tell tells);
    falls = λ l i s x y z.
        let tl = told-before _ (fate a.log) (fate b.log) l w.log.falls x in
        let ti = told-before _ (fate a.image) (fate b.image) i w.image.falls y in
        let ts = told-before _ (fate a.second) (fate b.second) s w.second.falls z in
        let most : tl.0.falls + ti.0.falls + ts.0.falls + often ≤ cuts = f.falls tl.0 ti.0 ts.0 tl.1.0 ti.1.0 ts.1.0 in
        let fl : l.falls ≡ tl.0.falls = ap (λ (k : Fate). k.falls) tl.1.1 in
        let fi : i.falls ≡ ti.0.falls = ap (λ (k : Fate). k.falls) ti.1.1 in
        let fs : s.falls ≡ ts.0.falls = ap (λ (k : Fate). k.falls) ts.1.1 in
        (ap (λ (k : Fate). k.down) tl.1.1, ap (λ (k : Fate). k.down) ti.1.1, ap (λ (k : Fate). k.down) ts.1.1, omega (arith, most, fl, fi, fs));
  }

  pub failed-fated : (cuts often : ℕ) (a b : Disks D) → OneHasFailed told count fate a b → Fated (AreRaised cuts often) a → Fated (HaveFallen cuts (often + 1)) b
  failed-fated cuts often a b (inl w) f = record {
    tell = λ tells. failed-tell a b (inl w) (f.tell tells);
    falls = λ l i s x y z.
        let t = told-before _ (fate a.log) (fate b.log) l w.0.falls x in
        let was = f.falls t.0 i s t.1.0 (sym w.1.falls ∙ y) (sym w.2.falls ∙ z) in
        let one : fall_of t.0.down ≡ 1 = ap fall_of was.0 in
        let less = t.1.1.1 in
        let most = was.3 in
        omega (arith, one, less, most);
  }
  failed-fated cuts often a b (inr (inl w)) f = record {
    tell = λ tells. failed-tell a b (inr (inl w)) (f.tell tells);
    falls = λ l i s x y z.
        let t = told-before _ (fate a.image) (fate b.image) i w.1.falls y in
        let was = f.falls l t.0 s (sym w.0.falls ∙ x) t.1.0 (sym w.2.falls ∙ z) in
        let one : fall_of t.0.down ≡ 1 = ap fall_of was.1 in
        let less = t.1.1.1 in
        let most = was.3 in
        omega (arith, one, less, most);
  }
  failed-fated cuts often a b (inr (inr w)) f = record {
    tell = λ tells. failed-tell a b (inr (inr w)) (f.tell tells);
    falls = λ l i s x y z.
        let t = told-before _ (fate a.second) (fate b.second) s w.2.falls z in
        let was = f.falls l i t.0 (sym w.0.falls ∙ x) (sym w.1.falls ∙ y) t.1.0 in
        let one : fall_of t.0.down ≡ 1 = ap fall_of was.2 in
        let less = t.1.1.1 in
        let most = was.3 in
        omega (arith, one, less, most);
  }

  -- ---- of a stage

  module _ (stage stage2 : Stage D) (disks : Disks D) (has : HasDisks disks stage) where
    -- no call failed
    pub fates-still : (P : Fate → Fate → Fate → Type 0) → ((d d2 : Disks D) → HasDisks d stage → HasDisks d2 stage2 → AreUnfailed told count fate d d2) → HasFates fate scripted P stage → HasFates fate scripted P stage2
    fates-still P unfailed f = λ d2 h2. unfailed-fated P disks d2 (unfailed disks d2 has h2) (f disks has)

    -- one did
    pub fates-failed : (cuts often : ℕ) → ((d d2 : Disks D) → HasDisks d stage → HasDisks d2 stage2 → OneHasFailed told count fate d d2) → HasFates fate scripted (AreRaised cuts often) stage → HasFates fate scripted (HaveFallen cuts (often + 1)) stage2
    fates-failed cuts often failed f = λ d2 h2. failed-fated cuts often disks d2 (failed disks d2 has h2) (f disks has)

    -- the disks were restarted, and then none failed, or one did
    pub fates-raised : (cuts often : ℕ) (pick : Disks D → ℕ) → ((d d2 : Disks D) → HasDisks d stage → HasDisks d2 stage2 → (mid : Disks D) × (WereRestarted told count fate (pick d) d mid × AreUnfailed told count fate mid d2)) → HasFates fate scripted (HaveFallen cuts often) stage → HasFates fate scripted (AreRaised cuts often) stage2
    fates-raised cuts often pick raised f = λ d2 h2. let by = raised disks d2 has h2 in unfailed-fated (AreRaised cuts often) by.0 d2 by.1.1 (restarted-fated cuts often (pick disks) disks by.0 by.1.0 (f disks has))

    pub fates-failed-again : (cuts often : ℕ) (pick : Disks D → ℕ) → ((d d2 : Disks D) → HasDisks d stage → HasDisks d2 stage2 → (mid : Disks D) × (WereRestarted told count fate (pick d) d mid × OneHasFailed told count fate mid d2)) → HasFates fate scripted (HaveFallen cuts often) stage → HasFates fate scripted (HaveFallen cuts (often + 1)) stage2
    fates-failed-again cuts often pick raised f = λ d2 h2. let by = raised disks d2 has h2 in failed-fated cuts often by.0 d2 by.1.1 (restarted-fated cuts often (pick disks) disks by.0 by.1.0 (f disks has))

    -- and so of whose they are
    module _ (origins : ℕ → Origin) (often : ℕ) (own : HasOwnDisks fate scripted origins often stage) where
      pub own-still : ((d d2 : Disks D) → HasDisks d stage → HasDisks d2 stage2 → AreUnfailed told count fate d d2) → HasOwnDisks fate scripted origins often stage2
      own-still unfailed = λ d2 h2. own-unfailed origins often disks d2 (unfailed disks d2 has h2) (own disks has)

      pub own-after : ((d d2 : Disks D) → HasDisks d stage → HasDisks d2 stage2 → OneHasFailed told count fate d d2) → HasOwnDisks fate scripted origins often stage2
      own-after failed = λ d2 h2. own-one-failed origins often disks d2 (failed disks d2 has h2) (own disks has)

      module _ (pick : Disks D → ℕ) where
        pub own-up : ((d d2 : Disks D) → HasDisks d stage → HasDisks d2 stage2 → (mid : Disks D) × (WereRestarted told count fate (pick d) d mid × AreUnfailed told count fate mid d2)) → HasOwnDisks fate scripted origins (often + 1) stage2
        own-up raised = λ d2 h2. let by = raised disks d2 has h2 in own-unfailed origins (often + 1) by.0 d2 by.1.1 (own-restarted origins often disks by.0 (pick disks) by.1.0 (own disks has))

        pub own-down : ((d d2 : Disks D) → HasDisks d stage → HasDisks d2 stage2 → (mid : Disks D) × (WereRestarted told count fate (pick d) d mid × OneHasFailed told count fate mid d2)) → HasOwnDisks fate scripted origins (often + 1) stage2
        own-down raised = λ d2 h2. let by = raised disks d2 has h2 in own-one-failed origins (often + 1) by.0 d2 by.1.1 (own-restarted origins often disks by.0 (pick disks) by.1.0 (own disks has))
