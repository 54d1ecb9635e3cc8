-- What a run keeps account of at a node that was just created, and what follows from it later.
use Rattle.std.proofs.Common.{◌≡◌, ◌∙◌, ℕ, ◌+◌, ◌*◌, ◌≤◌, inl, inr, ⊎_elim, Bool, List, [], ◌∷◌, ◌++◌, length, Option, Some, None, Ok, Err, nat_lt, true, refl, sym, ap, subst, arith}
use Rattle.std.specs.Prelude.{IfSome}
use Rattle.std.proofs.lemmas.Bool.Decides.{nat_tests}
use Rattle.ken_disk.specs.Fates.{Fate}
use Rattle.ken_disk.specs.Story.{Story}
use Rattle.ken_model.specs.declared.reports.Emission.{Emission}
use Rattle.ken_model.specs.Game.{Game}
use Rattle.ken_model.specs.Restarts.{NeverFall}
use Rattle.ken_record.specs.declared.effects.Effects.{Effects}
use Rattle.ken_app.specs.Oracles.{Telling}
use Rattle.ken_core.specs.Calls.{no_doubt}
use Rattle.ken_core.specs.Nodes.{Node}
use Rattle.ken_core.specs.Packets.{Packet}
use Rattle.ken_store.specs.declared.disks.Disks.{Disks}
use Rattle.ken_store.specs.Creations.{HasFailed, IsUnfailed}
use Rattle.ken_ship.specs.declared.faults.NodeFault.TheVariants.{Disk}
use Rattle.ken_node.specs.declared.stage.Stage.{Stage}
use Rattle.ken_node.specs.declared.watched.Watched.{Watched}
use Rattle.ken_node.specs.Created.{IsCreation}
use Rattle.ken_node.specs.Down.{IsDown}
use Rattle.ken_node.specs.Restarts.{AreUnfailed, OneHasFailed}
use Rattle.ken_node.specs.Stages.{HasDisks, emissions_in, turns_in}
use Rattle.ken_node.specs.Synced.{IsSynced}
use Rattle.ken_node.proofs.Fresh.{has-one}
use Rattle.ken_run.specs.declared.station.Station.{Station}
use Rattle.ken_run.specs.Accounts.{AreFated, AreOwnDisks, AreRaised, HasBooks, HasDrawn, HasFailedOften, HasFates, HaveFallen, IsAccounted, IsHeld, TellsAll, Terms, draws_of, emitted_through, faults_of, numbers_of}
use Rattle.ken_run.specs.Sequences.{IsSubsequence, descents}
use Rattle.ken_run.specs.Devices.{IsNewOracle, IsTold}
use Rattle.ken_app.specs.declared.turn.TheConstants.{MAX_DRAWS}
use Rattle.ken_run.proofs.AccountsCalls.{failed-sum, unfailed-sum}
use Rattle.ken_run.proofs.AccountsFates.{failed-fated, own-one-failed, own-unfailed, unfailed-fated}
use Rattle.ken_run.proofs.AccountsLists.{sub-none}

-- ---- the disks of a creation

unfailed-same : {D : Type 0} (count : D → ℕ) (fate : D → Option Fate) (a b : D) → b ≡ a → IsUnfailed count fate a b
unfailed-same count fate a b same = record { count = ap count same; falls = ap fate same }

module _ {D T : Type 0} (told : D → Option Story) (size count : D → ℕ) (fate : D → Option Fate) (g : Game) (v : ℕ) (old : Disks D) (stage : Stage D) where
  -- none failed
  pub creation-unfailed : (x : T) → IsCreation told size count fate g v (Ok x) old stage → (d : Disks D) → HasDisks d stage → AreUnfailed told count fate old d
  creation-unfailed x c d has =
      subst (λ (y : Disks D). AreUnfailed told count fate old y) (has-one c.disks d stage c.has has)
      (record { log = c.faults.0; image = c.faults.1; second = unfailed-same count fate old.second c.disks.second c.second })

  -- or one did
  pub creation-failed : IsCreation {T = T} told size count fate g v (Err Disk) old stage → (d : Disks D) → HasDisks d stage → OneHasFailed told count fate old d
  creation-failed c d has =
      let second = unfailed-same count fate old.second c.disks.second c.second in
      subst (λ (y : Disks D). OneHasFailed told count fate old y) (has-one c.disks d stage c.has has)
      (⊎_elim
      (λ (f : HasFailed count fate old.log c.disks.log × IsUnfailed count fate old.image c.disks.image). inl (f.0, f.1, second))
      (λ (f : IsUnfailed count fate old.log c.disks.log × HasFailed count fate old.image c.disks.image). inr (inl (f.0, f.1, second)))
      c.faults)

-- ---- a station whose node was created, over disks of which no call had failed

none-drawn : (told : Option (List ℕ)) → IfSome told (IsSubsequence [])
none-drawn None = tt
none-drawn (Some xs) = sub-none xs

told-none : (begun : ℕ) (told : Option (List ℕ)) → IsTold true told (λ xs. xs ≡ []) → IsTold true told (λ xs. length xs ≤ MAX_DRAWS * begun)
told-none begun (Some xs) is = let none : length xs ≡ 0 = ap (λ (ys : List ℕ). length ys) is in omega (arith, none)
told-none begun None is = is

first-rises : (x : ℕ) → nat_lt 0 (x + 1) ≡ true
first-rises x = grind (arith, nat_tests)

first-descent : (x : ℕ) → descents 0 ((x + 1) ∷ []) ≡ 0
first-descent x = rw (first-rises x) refl

module _ {D O U : Type 0} (told : Watched D → Option Story) (count : Watched D → ℕ) (fate : Watched D → Option Fate) (telling : Telling O) (terms : Terms) (g : Game) (v : ℕ) (s : Station D O U) (old : Disks (Watched D))
    (no_line : s.lines.items ≡ []) (no_restart : s.restarts ≡ 0) (oracle : IsNewOracle terms.scripted telling s.luck v terms.seed) (synced : IsSynced told count g v s.node.stage) (turns : turns_in s.node.stage ≡ []) (emissions : emissions_in s.node.stage ≡ [])
    (none : faults_of count old ≡ 0) (falls : AreFated fate terms.scripted (AreRaised (terms.cuts v) 0) old) (own : AreOwnDisks fate terms.scripted (terms.origins v) 0 old) where
  first-books : ((d : Disks (Watched D)) → HasDisks d s.node.stage → AreOwnDisks fate terms.scripted (terms.origins v) 0 d) → HasBooks told count fate telling terms g v s
  first-books owned = record {
    synced = synced;
    own = λ d has. subst (λ (k : ℕ). AreOwnDisks fate terms.scripted (terms.origins v) k d) (sym no_restart) (owned d has);
    origin = oracle.origin;
    lines = subst (λ (ls : List ℕ). NeverFall 0 ls (length (turns_in s.node.stage))) (sym no_line) (omega arith);
    few = let long : length s.lines.items ≡ 0 = ap (λ (ls : List ℕ). length ls) no_line in omega (arith, long);
    most = omega (arith, no_restart);
  }

  first-drew : HasDrawn telling g.handler s.luck (draws_of (turns_in s.node.stage))
  first-drew = subst (λ (ts : List Effects). HasDrawn telling g.handler s.luck (draws_of ts)) (sym turns) (record { clocks = none-drawn (telling.clocks s.luck); words = none-drawn (telling.words s.luck) })

  first-tells : (begun : ℕ) → TellsAll terms.scripted telling s.luck begun
  first-tells begun tells room = record {
    clocks = told-none begun (telling.clocks s.luck) (subst (λ (b : Bool). IsTold b (telling.clocks s.luck) (λ told. told ≡ [])) tells oracle.clocks);
    words = told-none begun (telling.words s.luck) (subst (λ (b : Bool). IsTold b (telling.words s.luck) (λ told. told ≡ [])) tells oracle.words);
  }

  -- its creation answered Ok
  pub first-accounted : ((d : Disks (Watched D)) → HasDisks d s.node.stage → AreUnfailed told count fate old d) → IsAccounted told count fate telling terms g v s
  first-accounted unfailed = record {
    books = first-books (λ d has. own-unfailed told count fate terms.scripted (terms.origins v) 0 old d (unfailed d has) own);
    drew = first-drew;
    tells = first-tells (length (turns_in s.node.stage) + s.restarts);
    causes = λ d has. omega (arith, no_restart);
    fates = subst (λ (k : ℕ). HasFates fate terms.scripted (AreRaised (terms.cuts v) k) s.node.stage) (sym no_restart) (λ d has. unfailed-fated told count fate terms.scripted (AreRaised (terms.cuts v) 0) old d (unfailed d has) falls);
    calm = λ no d has. unfailed-sum told count fate old d (unfailed d has) ∙ none;
    again =
        let nothing : descents 0 (numbers_of (emissions_in s.node.stage) ++ (emitted_through s.node.stage + 1) ∷ []) ≡ 0 =
        ap (λ (es : List Emission). descents 0 (numbers_of es ++ (emitted_through s.node.stage + 1) ∷ [])) emissions ∙ first-descent (emitted_through s.node.stage) in
        omega (arith, nothing);
  }

  -- or a disk failed in it, and it is down with nothing in doubt
  pub first-held : (given : List Packet) (n : Node) → IsDown told g v given n no_doubt s.node.stage → ((d : Disks (Watched D)) → HasDisks d s.node.stage → OneHasFailed told count fate old d) → IsHeld told count fate telling terms g v s
  first-held given n down failed = record {
    books = first-books (λ d has. own-one-failed told count fate terms.scripted (terms.origins v) 0 old d (failed d has) own);
    given = given;
    stood_for = n;
    doubt = no_doubt;
    down = down;
    drew = subst (λ (ts : List Effects). HasDrawn telling g.handler s.luck (draws_of ts ++ [])) (sym turns) (record { clocks = none-drawn (telling.clocks s.luck); words = none-drawn (telling.words s.luck) });
    tells = first-tells (length (turns_in s.node.stage) + s.restarts + 1);
    causes = subst (λ (k : ℕ). HasFailedOften count (k + 1) s.node.stage) (sym no_restart) (λ d has. failed-sum told count fate 0 old d (failed d has) (omega arith));
    fates = subst (λ (k : ℕ). HasFates fate terms.scripted (HaveFallen (terms.cuts v) (k + 1)) s.node.stage) (sym no_restart) (λ d has. failed-fated told count fate terms.scripted (terms.cuts v) 0 old d (failed d has) falls);
    again = let nothing : descents 0 (numbers_of (emissions_in s.node.stage)) ≡ 0 = ap (λ (es : List Emission). descents 0 (numbers_of es)) emissions in omega (arith, nothing);
  }
