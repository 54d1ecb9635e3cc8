-- What a whole run leaves: what its world keeps of each node, beside the lines of its report.
use Rattle.std.specs.Prelude.{◌≡◌, ◌⊎◌, ℕ, ◌+◌, ◌*◌, ◌<◌, ◌≤◌, ◌==◌, List, [], length, map, filter, slice_index_or, Bool, true, Option, Some, None, IfSome, IfErr, Result, Ok, Err}
use Rattle.std.specs.List.{AllByRecursion, flat_map}
use Rattle.ken_disk.specs.Story.{Story, Tells}
use Rattle.ken_model.specs.declared.messages.Out.{Out}
use Rattle.ken_model.specs.declared.messages.Step.{Step}
use Rattle.ken_model.specs.declared.reports.Emission.{Emission}
use Rattle.ken_model.specs.declared.reports.RestartLine.{RestartLine}
use Rattle.ken_model.specs.Emissions.{emitted_by}
use Rattle.ken_model.specs.Game.{Game}
use Rattle.ken_model.specs.Handler.{Handler}
use Rattle.ken_model.specs.Schedule.{play}
use Rattle.ken_app.specs.Oracles.{Telling}
use Rattle.ken_ship.specs.Fates as ship
use Rattle.ken_store.specs.declared.disks.Disks.{Disks}
use Rattle.ken_node.specs.Synced.{HasSynced}
use Rattle.ken_disk.specs.Fates.{Fate}
use Rattle.ken_model.specs.declared.reports.Lines.{Lines}
use Rattle.ken_model.specs.Laws.{steps_of}
use Rattle.ken_model.specs.Restarts.{NeverFall, restarts_of}
use Rattle.ken_node.specs.declared.watched.Watched.{Watched}
use Rattle.ken_script.specs.declared.scripts.Script.{Script}
use Rattle.ken_run.specs.declared.faults.RunFault.{RunFault}
use Rattle.ken_run.specs.declared.faults.RunFault.TheVariants.{Down}
use Rattle.ken_run.specs.declared.faults.RunFault.TheVariants as run_faults
use Rattle.ken_run.specs.declared.run.Run.{Run}
use Rattle.ken_run.specs.declared.station.Station.{Station}
use Rattle.ken_rounds.specs.Shaken.{IsDownForGood}
use Rattle.ken_run.specs.Accounts.{AreAccounted, AreFated, AreOwnDisks, HasBooks, HasFates, HaveFallen, Terms, faults_of}
use Rattle.ken_drive.specs.Ended.{IsEnded, IsReportOf, IsRunOf}
use Rattle.ken_drive.specs.Finishing.{WasKept}
use Rattle.ken_run.specs.Patched.{HaveImages}
use Rattle.ken_drive.specs.Recovering.{HoldsHeapAt, RecoversAt}
use Rattle.ken_run.specs.Refusals.{AreRefused, IsWornOut}
use Rattle.ken_run.specs.Sequences.{IsSubsequence, descents}
use Rattle.ken_drive.specs.Sparing.{IsLetBy}
use Rattle.ken_drive.specs.Starting.{game_by, terms_of}
use Rattle.ken_drive.specs.Worlds.{HasKeptNothing}
use Rattle.ken_run.specs.Devices.{IsOf, IsTold, MayFailAt}

-- what contracts see of a node's devices: the stories of its disks, with their faults and fates; what its oracle tells; what its outlet
-- took, with its faults and its fate; and whether it is a scripted world's, whose devices tell whose they are
pub record Views (D O U : Type 0) : Type 0 where
  pub told : D → Option Story
  pub faults : D → ℕ
  pub fate : D → Option Fate
  pub telling : Telling O
  pub took : U → Option (List Out)
  pub refused : U → ℕ
  pub calls : U → Option ship.Fate
  pub scripted : Bool

-- the steps of node v
abbrev pub steps_at : ℕ → List Step → List Step
steps_at v schedule = filter (λ (s : Step). s.node == v) schedule

-- the clock readings that steps drew, in order, and the random words
abbrev pub clocks_of : Handler → List Step → List ℕ
clocks_of handler steps = flat_map (λ (s : Step). handler.clocks s.draws) steps

abbrev pub words_of : Handler → List Step → List ℕ
words_of handler steps = flat_map (λ (s : Step). handler.words s.draws) steps

-- the numbers of outputs
abbrev pub out_numbers : List Out → List ℕ
out_numbers outs = map (λ (o : Out). o.number) outs

-- a node was restarted so often, with a cause each time, and went on so often with these turns, which never fall; there are such restarts
-- exactly where calls of its disks failed, and they alone are a cause to emit an output again
pub record HaveCauses (faults often turns : ℕ) (restarts numbers : List ℕ) : Type 0 where
  pub rise : NeverFall 0 restarts turns
  pub few : length restarts ≤ often
  pub causes : often ≤ faults
  pub none : restarts ≡ [] → faults ≡ 0
  pub again : descents 0 numbers ≤ length restarts

-- the disks of node v have met at least so many of its cuts, as far as they tell: with those that are left they are no more than the script's
abbrev pub HaveMet : {D : Type 0} → (D → Option Fate) → Terms → ℕ → ℕ → Disks D → Type 0
HaveMet fate terms v many disks = AreFated fate terms.scripted (HaveFallen (terms.cuts v) many) disks

-- devices that are kept are those of node v, as far as they tell: its own oracle; its own disks, each where it belongs and with just the cuts
-- that it was handed, restarted so often, and no more often than cuts were met; and its own outlet, with just the calls that it was handed
pub record AreOwnDevices {D O U : Type 0} (views : Views D O U) (terms : Terms) (v often : ℕ) (disks : Disks D) (luck : O) (out : U) : Type 0 where
  pub oracle : IsOf terms.scripted views.telling luck v terms.seed
  pub own_disks : AreOwnDisks views.fate terms.scripted (terms.origins v) often disks
  pub few : often ≤ terms.most
  pub met : HaveMet views.fate terms v often disks
  pub outlet : MayFailAt terms.scripted v (terms.fails v) (views.calls out)

-- what is kept of node v after a run with this schedule, these emissions and restarts: whatever a crash leaves of its disks recovers to its
-- place in the abstract network, and where it made more turns than each of its restart lines says, its image alone is its heap; its outlet took what it
-- emitted; what its turns drew is among what its oracle answered, in order; and its logs were synced for each turn
pub record KeepsNode {D O U : Type 0} (views : Views D O U) (g : Game) (terms : Terms) (v : ℕ) (schedule : List Step) (emissions : List Emission) (restarts : List RestartLine) (kept : Option (Disks D × O × U)) : Type 0 where
  pub disks : Disks D
  pub luck : O
  pub out : U
  pub is : kept ≡ Some (disks, luck, out)
  pub recovers : RecoversAt views.told g v (play g schedule) disks
  pub image : AllByRecursion (λ n. n < ((play g schedule).place v).turns) (restarts_of v restarts) → HoldsHeapAt views.told g v (play g schedule) disks.image
  pub synced : HasSynced views.told views.faults ((play g schedule).place v).turns disks
  pub took : IfSome (views.took out) (λ told. told ≡ emitted_by v emissions)
  pub often : ℕ
  pub own : AreOwnDevices views terms v often disks luck out
  pub clocks : IsTold terms.scripted (views.telling.clocks luck) (IsSubsequence (clocks_of g.handler (steps_at v schedule)))
  pub words : IsTold terms.scripted (views.telling.words luck) (IsSubsequence (words_of g.handler (steps_at v schedule)))
  pub causes : HaveCauses (faults_of views.faults disks) often ((play g schedule).place v).turns (restarts_of v restarts) (out_numbers (emitted_by v emissions))

-- so many rounds were made, as the images show: that of each node with no restart line has been in 16 states for each,
-- where it tells
abbrev pub MadeRounds : {D O U : Type 0} → (D → Option Story) → ℕ → List RestartLine
    → (ℕ → Option (Disks D × O × U)) → Type 0
MadeRounds {D} {O} {U} told made restarts kept =
    (v : ℕ) (disks : Disks D) (luck : O) (out : U) → restarts_of v restarts ≡ [] → kept v ≡ Some (disks, luck, out)
    → Tells (told disks.image) (λ h. 16 * made ≤ length h.past)

-- of each node of the run, and of no other
pub record KeepsRun {D O U : Type 0} (views : Views D O U) (g : Game) (terms : Terms) (schedule : List Step) (emissions : List Emission) (restarts : List RestartLine) (kept : ℕ → Option (Disks D × O × U)) : Type 0 where
  pub each : (v : ℕ) → v < g.nodes → KeepsNode views g terms v schedule emissions restarts (kept v)
  pub others : (v : ℕ) → g.nodes ≤ v → kept v ≡ None

-- devices of node v are kept, its own
pub record IsKept {D O U : Type 0} (views : Views D O U) (terms : Terms) (v : ℕ) (kept : Option (Disks D × O × U)) : Type 0 where
  pub disks : Disks D
  pub luck : O
  pub out : U
  pub is : kept ≡ Some (disks, luck, out)
  pub often : ℕ
  pub own : AreOwnDevices views terms v often disks luck out

-- the disks of node v were restarted as often as it may be, and calls of them failed more often, each by a cut
pub record HaveRunOut {D O U : Type 0} (views : Views D O U) (terms : Terms) (v : ℕ) (disks : Disks D) : Type 0 where
  pub failed : terms.most < faults_of views.faults disks
  pub own : AreOwnDisks views.fate terms.scripted (terms.origins v) terms.most disks
  pub met : HaveMet views.fate terms v (terms.most + 1) disks

-- what is kept of node v shows why it is down: its disks have run out of restarts, or its outlet refused often
pub record ShowsDown {D O U : Type 0} (views : Views D O U) (terms : Terms) (v : ℕ) (kept : Option (Disks D × O × U)) : Type 0 where
  pub disks : Disks D
  pub luck : O
  pub out : U
  pub is : kept ≡ Some (disks, luck, out)
  pub cause : HaveRunOut views terms v disks ⊎ (65 ≤ views.refused out)

-- node v has gone down, as its devices show. Those of each node that was made are kept, and no others: all nodes were made, or v was the
-- last one
pub record HasGoneDown {D O U : Type 0} (views : Views D O U) (g : Game) (terms : Terms) (v : ℕ) (kept : ℕ → Option (Disks D × O × U)) : Type 0 where
  pub made : ℕ
  pub known : v < made
  pub few : made ≤ g.nodes
  pub which : (made ≡ g.nodes) ⊎ (made ≡ v + 1)
  pub shows : ShowsDown views terms v (kept v)
  pub each : (u : ℕ) → u < made → IsKept views terms u (kept u)
  pub others : (u : ℕ) → made ≤ u → kept u ≡ None

-- the disks of a node have met a cut for each of its restarts
abbrev pub HasMet : {D O U : Type 0} → (Watched D → Option Fate) → Terms → ℕ → Station D O U → Type 0
HasMet fate terms v s = HasFates fate terms.scripted (HaveFallen (terms.cuts v) s.restarts) s.node.stage

-- what a run leaves that made its rounds, was drained and then told what it says, by the answer: it has ended, with a report and its accounts; or a node has
-- failed too often
module _ {D O U A : Type 0} (told : Watched D → Option Story) (size : Watched D → ℕ) (count : Watched D → ℕ) (fate : Watched D → Option Fate) (telling : Telling O) (took : U → Option (List Out)) (handles : A → Handler) (refused : U → ℕ) (calls : U → Option ship.Fate) (terms : Terms) (g : Game) where
  pub record HasToldOf (l : Lines) (r : Run D O U A) : Type 0 where
    pub ended : IsEnded told size took handles g r
    pub report : IsReportOf told size took handles g r ended l
    pub accounts : AreAccounted told count fate telling terms g ended.made r
    pub refusals : AreRefused refused calls terms ended.made r

  pub record HasStoppedAt (v : ℕ) (r : Run D O U A) : Type 0 where
    pub known : v < g.nodes
    pub width : length r.stations.items ≡ g.nodes
    pub refusals : AreRefused refused calls terms g.nodes r
    pub books : (u : ℕ) (d : Station D O U) → u < g.nodes → HasBooks told count fate telling terms g u (slice_index_or r.stations.items u d)
    pub met : (u : ℕ) (d : Station D O U) → u < g.nodes → HasMet fate terms u (slice_index_or r.stations.items u d)
    pub cause : IsDownForGood told count fate telling terms g v r ⊎ IsWornOut refused calls terms v r

  abbrev pub EndsBy : Result Lines RunFault → Run D O U A → Type 0
  EndsBy (Ok l) r = HasToldOf l r
  EndsBy (Err (Down v)) r = HasStoppedAt v r
  EndsBy (Err run_faults.Memory) r = Unit {0}
  EndsBy (Err (run_faults.Damaged v disk place)) r = ⊥

-- what a whole run of a script with a handler leaves that makes so many rounds, by the answer: its lines are the report
-- of a run, and the devices that are kept show it and the rounds; or a node has gone down, as those that are kept show.
-- After want of memory nothing is kept
module _ {D O U : Type 0} (views : Views D O U) (h : Handler) (script : Script) (made : ℕ)
    (kept : ℕ → Option (Disks D × O × U)) where
  pub record HasDriven (l : Lines) : Type 0 where
    pub run : IsRunOf (game_by h script) l
    pub keeps : KeepsRun views (game_by h script) (terms_of views.scripted script) (steps_of l.turns) l.emissions l.restarts kept
    pub rounds : MadeRounds views.told made l.restarts kept

  abbrev pub DrivesBy : Result Lines RunFault → Type 0
  DrivesBy (Ok l) = HasDriven l
  DrivesBy (Err (Down v)) = HasGoneDown views (game_by h script) (terms_of views.scripted script) v kept
  DrivesBy (Err run_faults.Memory) = HasKeptNothing kept
  DrivesBy (Err (run_faults.Damaged v disk place)) = ⊥

-- so after a drive, whose error the script lets come, in a scripted world
pub record Drives {D O U : Type 0} (views : Views D O U) (h : Handler) (script : Script) (made : ℕ)
    (kept : ℕ → Option (Disks D × O × U)) (result : Result Lines RunFault) : Type 0 where
  pub drives : DrivesBy views h script made kept result
  pub lets : views.scripted ≡ true → IfErr result (IsLetBy script)

-- ---- how they follow

-- a run that has ended and is accounted for leaves them, where its devices are kept
abbrev pub EndedRunsKeep : {D O U A : Type 0} → Views D O U → (D → ℕ) → (A → Handler) → Type 0
EndedRunsKeep {D} {O} {U} {A} views size handles =
    (g : Game) (r : Run D O U A) (terms : Terms) (l : Lines) (ended : IsEnded (λ w. views.told w.disk) (λ w. size w.disk) views.took handles g r)
    → IsReportOf (λ w. views.told w.disk) (λ w. size w.disk) views.took handles g r ended l
    → AreAccounted (λ w. views.told w.disk) (λ w. views.faults w.disk) (λ w. views.fate w.disk) views.telling terms g ended.made r
    → AreRefused views.refused views.calls terms ended.made r
    → HaveImages (λ w. views.told w.disk) r
    → terms.most ≤ 1000
    → (kept : ℕ → Option (Disks D × O × U)) → ((v : ℕ) (d : Station D O U) → v < length r.stations.items → WasKept (slice_index_or r.stations.items v d) (kept v)) → ((v : ℕ) → length r.stations.items ≤ v → kept v ≡ None)
    → KeepsRun views g terms (steps_of l.turns) l.emissions l.restarts kept
