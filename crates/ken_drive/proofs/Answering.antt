-- A run of a script, from its start to its end: what is left by its answer, once its devices are given back.
use Rattle.std.proofs.Common.{◌≡◌, ◌∙◌, ℕ, ◌+◌, ◌*◌, ◌≤◌, length, Bool, Option, Result, Ok, Err, refl, sym, subst, arith}
use Rattle.std.specs.Prelude.{OnOk}
use Rattle.std.specs.Result.{IsErrAnd}
use Rattle.ken_disk.specs.declared.disk.Disk as disk
use Rattle.ken_disk.specs.Story.{Story}
use Rattle.ken_app.specs.declared.app.App as app
use Rattle.ken_app.specs.declared.oracle.Oracle as oracle
use Rattle.ken_model.specs.declared.reports.Lines.{Lines}
use Rattle.ken_model.specs.Game.{Game}
use Rattle.ken_model.specs.Handler.{Handler}
use Rattle.ken_script.specs.declared.scripts.Script.{Script}
use Rattle.ken_script.specs.Within.{KeepsRules}
use Rattle.ken_ship.specs.declared.outlet.Outlet as outlet
use Rattle.ken_store.specs.declared.disks.Disks.{Disks}
use Rattle.ken_node.specs.declared.watched.Watched.{Watched}
use Rattle.ken_run.specs.declared.faults.RunFault.{RunFault}
use Rattle.ken_run.specs.declared.faults.RunFault.TheVariants.{Damaged, Down, Memory}
use Rattle.ken_run.specs.declared.run.Run.{Run}
use Rattle.ken_run.specs.Accounts.{Terms}
use Rattle.ken_run.specs.Clauses.{Drains, Up}
use Rattle.ken_run.specs.Creating.{running_of}
use Rattle.ken_run.specs.Patched.{AddStates, AllAdd, HaveImages}
use Rattle.ken_drive.specs.Clauses.{AccountsStarted, RefusesStarted, StartsRun, TellsRun, views_of}
use Rattle.ken_drive.specs.Driven.{Drives, EndedRunsKeep, EndsBy, Views}
use Rattle.ken_drive.specs.Finishing.{WereKept}
use Rattle.ken_drive.specs.Starting.{game_by, terms_of}
use Rattle.ken_run.proofs.States.{all-add-then}
use Rattle.ken_drive.proofs.Made.{made-rounds}
use Rattle.ken_drive.proofs.Stopping.{end-drives, end-lets, start-drives, start-lets}

-- what adds none, behind what adds so many
pub added : {D O U A : Type 0} (told : Watched D → Option Story) (many : ℕ) (old mid new : Run D O U A) (result : Result Lines RunFault) → AllAdd told many old mid → AddStates told 0 mid result new → AddStates told many old result new
added told many old mid new (Ok l) first then =
    let all : many + 0 ≡ many = omega arith in
    subst (λ (n : ℕ). AllAdd told n old new) all (all-add-then told many 0 old mid new first then)
added told many old mid new (Err fault) first then = tt

module _ {D O U A : Type 0} (d : disk.Ghosts D) (o : oracle.Ghosts O) (u : outlet.Ghosts U) (a : app.Ghosts A) (scripted : Bool) (h : Handler) (script : Script) (rules : KeepsRules script) where
  abbrev views : Views D O U
  views = views_of d o u scripted

  abbrev game : Game
  game = game_by h script

  abbrev terms : Terms
  terms = terms_of scripted script

  -- ---- a run that didn't start

  pub unstarted : (made : ℕ) (kept : ℕ → Option (Disks D × O × U)) (result : Result Lines RunFault) (fault : RunFault) → IsErrAnd result (λ e. e ≡ fault)
      → StartsRun d o u a scripted h script (Err fault) kept → AccountsStarted d o u a scripted h script (Err fault) kept → Drives views h script made kept result
  unstarted made kept result fault same starts accounts = record {
    drives = start-drives views h script rules made kept (λ w. d.size w.disk) a.handler result fault same starts accounts;
    lets = λ tells. start-lets views h script rules made kept (λ w. d.size w.disk) a.handler result fault tells same starts accounts;
  }

  -- ---- one that did

  module _ (first : Run D O U A) (old : ℕ → Option (Disks D × O × U)) (starts : StartsRun d o u a scripted h script (Ok first) old) (accounts : AccountsStarted d o u a scripted h script (Ok first) old) (refused : RefusesStarted u scripted script first) where
    running : Up d u a game script.facts.nodes first
    running = running_of (λ w. d.told w.disk) (λ w. d.size w.disk) u.took a.handler game script.facts.nodes first starts.0.started

    -- it can be drained
    pub may-drain : Drains d u a first
    may-drain = record { game = game; made = script.facts.nodes; running = running; all = refl }

    module _ (answer : Result Lines RunFault) (r : Run D O U A) (tells : TellsRun d o u a first answer r) where
      abbrev Ends : Result Lines RunFault → Type 0
      Ends result = EndsBy (λ w. d.told w.disk) (λ w. d.size w.disk) (λ w. d.faults w.disk) (λ w. d.fate w.disk) o.telling u.took a.handler u.faults u.fate terms game result r

      pub ends : Ends answer
      ends = tells terms game script.facts.nodes running refl accounts refused rules.plain

      few-by : (result : Result Lines RunFault) → Ends result → (result ≡ Err Memory → ⊥) → length r.stations.items ≤ 8
      few-by (Ok l) is long =
          let width = is.ended.running.stands.width in
          let all = is.ended.all in
          let few = rules.limits.few_nodes in
          omega (arith, width, all, few)
      few-by (Err (Down v)) is long =
          let width = is.width in
          let few = rules.limits.few_nodes in
          omega (arith, width, few)
      few-by (Err Memory) is long = absurd (long refl)
      few-by (Err (Damaged v disk place)) is long = absurd is

      -- it has few nodes still
      pub few-nodes : (answer ≡ Err Memory → ⊥) → length r.stations.items ≤ 8
      few-nodes = few-by answer ends

      module _ (made : ℕ) (kept : ℕ → Option (Disks D × O × U)) (keep : EndedRunsKeep {A = A} views d.size a.handler) where
        drives-by : (result : Result Lines RunFault) → Ends result → OnOk result (HaveImages (λ w. d.told w.disk) r) → AddStates (λ w. d.told w.disk) (16 * made) first result r
            → ((result ≡ Err Memory → ⊥) → WereKept r old kept) → (result ≡ Err Memory → (v : ℕ) → kept v ≡ old v) → Drives views h script made kept result
        drives-by (Ok l) is images states given none =
            let were = given (λ short. absurd (cc)) in
            record {
              drives = record {
                run = is.report.run;
                keeps = keep game r terms l is.ended is.report is.accounts is.refusals images rules.restarts kept were.given (λ v high. were.others v high ∙ starts.1 v);
                rounds = made-rounds views d.size a.handler game r l is.ended is.report made first states kept were.given (λ v high. were.others v high ∙ starts.1 v);
              };
              lets = λ scripted. tt;
            }
        drives-by (Err (Down v)) is images states given none =
            let were = given (λ short. absurd (cc)) in
            record {
              drives = end-drives views h script rules made (λ w. d.size w.disk) a.handler r kept were.given (λ w high. were.others w high ∙ starts.1 w) (Down v) (λ short. absurd (cc)) is;
              lets = λ tells. end-lets views h script rules made (λ w. d.size w.disk) a.handler r kept were.given (Down v) tells is;
            }
        drives-by (Err Memory) is images states given none = record { drives = λ v. none refl v ∙ starts.1 v; lets = λ tells. tt }
        drives-by (Err (Damaged v disk place)) is images states given none = absurd is

        -- so it was driven
        pub driven : OnOk answer (HaveImages (λ w. d.told w.disk) r) → AddStates (λ w. d.told w.disk) (16 * made) first answer r → ((answer ≡ Err Memory → ⊥) → WereKept r old kept) → (answer ≡ Err Memory → (v : ℕ) → kept v ≡ old v)
            → (result : Result Lines RunFault) → result ≡ answer → Drives views h script made kept result
        driven images states given none result same = subst (Drives views h script made kept) (sym same) (drives-by answer ends images states given none)
