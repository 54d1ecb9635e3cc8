-- What is kept of a run shows as much once its disks were read.
use Rattle.std.proofs.Common.{arith, ◌≡◌, ◌∙◌, ◌⊎◌, ⊎_elim, ℕ, List, Bool, Option, Some, sym, ap, subst}
use Rattle.std.proofs.lemmas.Option.{same_Some}
use Rattle.ken_disk.specs.Fates.{Fate, Origin}
use Rattle.ken_model.specs.declared.messages.Step.{Step}
use Rattle.ken_model.specs.declared.reports.Emission.{Emission}
use Rattle.ken_model.specs.declared.reports.Lines.{Lines}
use Rattle.ken_model.specs.declared.reports.RestartLine.{RestartLine}
use Rattle.ken_model.specs.Game.{Game}
use Rattle.ken_model.specs.Handler.{Handler}
use Rattle.ken_model.specs.Network.{Network}
use Rattle.ken_model.specs.Schedule.{play}
use Rattle.ken_script.specs.declared.scripts.Script.{Script}
use Rattle.ken_store.specs.declared.disks.Disks.{Disks}
use Rattle.ken_node.specs.Synced.{HasSynced}
use Rattle.ken_run.specs.Accounts.{AreOwnDisks, IsOwnDisk, Terms, faults_of}
use Rattle.ken_drive.specs.Driven.{AreOwnDevices, HasDriven, HaveCauses, HaveMet, KeepsNode, KeepsRun, MadeRounds, Views}
use Rattle.ken_drive.specs.Recovering.{HoldsHeapAt, RecoversAt}
use Rattle.ken_drive.specs.SavingParts.{AreAsBefore}

-- the disks that are kept were read since they were given
pub record HasRead {D O U : Type 0} (views : Views D O U) (given kept : Option (Disks D × O × U)) : Type 0 where
  pub before : Disks D
  pub now : Disks D
  pub luck : O
  pub out : U
  pub is_given : given ≡ Some (before, luck, out)
  pub is_kept : kept ≡ Some (now, luck, out)
  pub same : AreAsBefore views before now

module _ {D O U : Type 0} (views : Views D O U) where
  -- ---- disks

  module _ (before now : Disks D) (same : AreAsBefore views before now) where
    recovers-read : (g : Game) (v : ℕ) (w : Network) → RecoversAt views.told g v w before → RecoversAt views.told g v w now
    recovers-read g v w is = record {
      state = is.state;
      recovers = λ l lis i iis s sis. is.recovers l (sym same.log.story ∙ lis) i (sym same.image.story ∙ iis) s (sym same.second.story ∙ sis);
      is = is.is;
    }

    heap-read : (g : Game) (v : ℕ) (w : Network) → HoldsHeapAt views.told g v w before.image → HoldsHeapAt views.told g v w now.image
    heap-read g v w is = record {
      rests = λ h told. is.rests h (sym same.image.story ∙ told);
      reads = λ h told. is.reads h (sym same.image.story ∙ told);
    }

    synced-read : (turns : ℕ) → HasSynced views.told views.faults turns before → HasSynced views.told views.faults turns now
    synced-read turns is = λ h log s second.
        let most = is h (sym same.log.story ∙ log) s (sym same.second.story ∙ second) in
        let a = same.log.count in
        let b = same.second.count in
        omega (arith, most, a, b)

    faults-read : faults_of views.faults now ≡ faults_of views.faults before
    faults-read =
        let l = same.log.count in
        let i = same.image.count in
        let s = same.second.count in
        omega (arith, l, i, s)

    own-read : (scripted : Bool) (origins : ℕ → Origin) (often : ℕ) → AreOwnDisks views.fate scripted origins often before → AreOwnDisks views.fate scripted origins often now
    own-read scripted origins often own = record {
      log = subst (λ (f : Option Fate). IsOwnDisk scripted (origins 0) often f) (sym same.log.falls) own.log;
      image = subst (λ (f : Option Fate). IsOwnDisk scripted (origins 1) often f) (sym same.image.falls) own.image;
      second = subst (λ (f : Option Fate). IsOwnDisk scripted (origins 2) often f) (sym same.second.falls) own.second;
    }

    met-read : (terms : Terms) (v many : ℕ) → HaveMet views.fate terms v many before → HaveMet views.fate terms v many now
    met-read terms v many met = record {
      falls = λ l i s a b c. met.falls l i s (sym same.log.falls ∙ a) (sym same.image.falls ∙ b) (sym same.second.falls ∙ c);
      tell = λ scripted.
          let t = met.tell scripted in
          record {
            log = t.log;
            image = t.image;
            second = t.second;
            log_is = same.log.falls ∙ t.log_is;
            image_is = same.image.falls ∙ t.image_is;
            second_is = same.second.falls ∙ t.second_is;
          };
    }

    devices-read : (terms : Terms) (v often : ℕ) (luck : O) (out : U) → AreOwnDevices views terms v often before luck out → AreOwnDevices views terms v often now luck out
    devices-read terms v often luck out own = record {
      oracle = own.oracle;
      own_disks = own-read terms.scripted (terms.origins v) often own.own_disks;
      few = own.few;
      met = met-read terms v often own.met;
      outlet = own.outlet;
    }

    causes-read : (often turns : ℕ) (restarts numbers : List ℕ) → HaveCauses (faults_of views.faults before) often turns restarts numbers → HaveCauses (faults_of views.faults now) often turns restarts numbers
    causes-read often turns restarts numbers causes = subst (λ (n : ℕ). HaveCauses n often turns restarts numbers) (sym faults-read) causes

  -- ---- a node

  node-read : (g : Game) (terms : Terms) (v : ℕ) (schedule : List Step) (emissions : List Emission) (restarts : List RestartLine) (given kept : Option (Disks D × O × U))
      → HasRead views given kept → KeepsNode views g terms v schedule emissions restarts given → KeepsNode views g terms v schedule emissions restarts kept
  node-read g terms v schedule emissions restarts given kept read node =
      let one : (node.disks, node.luck, node.out) ≡ (read.before, read.luck, read.out) = same_Some (node.disks, node.luck, node.out) (read.before, read.luck, read.out) (sym node.is ∙ read.is_given) in
      let same : AreAsBefore views node.disks read.now = subst (λ (ds : Disks D). AreAsBefore views ds read.now) (sym (ap (λ (x : Disks D × O × U). x.0) one)) read.same in
      record {
        disks = read.now;
        luck = node.luck;
        out = node.out;
        is = read.is_kept ∙ sym (ap (λ (x : Disks D × O × U). Some (read.now, x.1, x.2)) one);
        recovers = recovers-read node.disks read.now same g v (play g schedule) node.recovers;
        image = λ on. heap-read node.disks read.now same g v (play g schedule) (node.image on);
        synced = synced-read node.disks read.now same ((play g schedule).place v).turns node.synced;
        took = node.took;
        often = node.often;
        own = devices-read node.disks read.now same terms v node.often node.luck node.out node.own;
        clocks = node.clocks;
        words = node.words;
        causes = causes-read node.disks read.now same node.often ((play g schedule).place v).turns _ _ node.causes;
      }

  -- ---- a run

  module _ (given kept : ℕ → Option (Disks D × O × U)) (read : (v : ℕ) → (kept v ≡ given v) ⊎ HasRead views (given v) (kept v)) where
    run-read : (g : Game) (terms : Terms) (schedule : List Step) (emissions : List Emission) (restarts : List RestartLine) → KeepsRun views g terms schedule emissions restarts given → KeepsRun views g terms schedule emissions restarts kept
    run-read g terms schedule emissions restarts is = record {
      each = λ v low.
          ⊎_elim
          (λ (same : kept v ≡ given v). subst (KeepsNode views g terms v schedule emissions restarts) (sym same) (is.each v low))
          (λ (r : HasRead views (given v) (kept v)). node-read g terms v schedule emissions restarts (given v) (kept v) r (is.each v low))
          (read v);
      others = λ v high.
          ⊎_elim
          (λ (same : kept v ≡ given v). same ∙ is.others v high)
          (λ (r : HasRead views (given v) (kept v)). let no = sym (is.others v high) ∙ r.is_given in absurd (cc))
          (read v);
    }

    rounds-read : (made : ℕ) (restarts : List RestartLine) → MadeRounds views.told made restarts given → MadeRounds views.told made restarts kept
    rounds-read made restarts rounds = λ v disks luck out none is h told.
        ⊎_elim
        (λ (same : kept v ≡ given v). rounds v disks luck out none (sym same ∙ is) h told)
        (λ (r : HasRead views (given v) (kept v)).
        let one : (r.now, r.luck, r.out) ≡ (disks, luck, out) = same_Some (r.now, r.luck, r.out) (disks, luck, out) (sym r.is_kept ∙ is) in
        rounds v r.before r.luck r.out none r.is_given h (sym r.same.image.story ∙ ap (λ (x : Disks D × O × U). views.told x.0.image) one ∙ told))
        (read v)

    pub driven-read : (h : Handler) (script : Script) (made : ℕ) (l : Lines) → HasDriven views h script made given l → HasDriven views h script made kept l
    driven-read h script made l is = record {
      run = is.run;
      keeps = run-read _ _ _ _ _ is.keeps;
      rounds = rounds-read made l.restarts is.rounds;
    }
