-- The text of a run's lines is a report.
use Rattle.std.proofs.Common.{◌≡◌, ◌∙◌, inl, inr, ℕ, ◌+◌, List, [], Option, Some, None, Err, IfSome, take, refl, sym, ap, subst, arith}
use Rattle.std.proofs.KnownBytes.{Appends-nil}
use Rattle.ken_io.specs.Transfers.{AppendsFront}
use Rattle.ken_model.specs.declared.reports.Ending.{Ending}
use Rattle.ken_model.specs.declared.messages.Step.{Step}
use Rattle.ken_model.specs.declared.reports.Emission.{Emission}
use Rattle.ken_model.specs.declared.reports.Lines.{Lines}
use Rattle.ken_model.specs.declared.reports.RestartLine.{RestartLine}
use Rattle.ken_model.specs.Game.{Game}
use Rattle.ken_model.specs.Schedule.{IsLegal, play}
use Rattle.ken_model.specs.Emissions.{AreLegalEmissions, AreByNode}
use Rattle.ken_model.specs.Ending.{Ends}
use Rattle.ken_model.specs.Report.{text, report}
use Rattle.ken_model.specs.Spelling.{IsPrintable, Spelling, spell}
use Rattle.ken_model.specs.Laws.{steps_of}
use Rattle.ken_model.proofs.Spelled.{report_spells_its_run}
use Rattle.ken_script.specs.declared.scripts.Script.{Script}
use Rattle.ken_script.specs.declared.scripts.TheConstants.{LIMIT}
use Rattle.ken_script.specs.Faults.{IsFaultOf}
use Rattle.ken_script.specs.Laws.{IsLanguage}
use Rattle.ken_script.specs.Service.{IsServiceFaultOf}
use Rattle.ken_script.specs.declared.faults.ScriptFault.{ScriptFault}
use Rattle.ken_script.specs.declared.faults.ScriptFault.TheVariants as script
use Rattle.ken_script.proofs.Told.{kinds_language, service_language}
use Rattle.ken_gen.specs.Torments.{tormented}
use Rattle.ken_check.specs.declared.verdict.Verdict.TheVariants.{Right}
use Rattle.ken_check.specs.Judged.{IsJudged}
use Rattle.ken_check.specs.Right.{AreRestartsSoFar}
use Rattle.ken_check.proofs.Reports.{reports_are_right}
use Rattle.ken_store.specs.declared.disks.Disks.{Disks}
use Rattle.ken_run.specs.declared.faults.RunFault.{RunFault}
use Rattle.ken_run.specs.declared.faults.RunFault.TheVariants as running
use Rattle.ken_run.specs.Accounts.{Terms}
use Rattle.ken_drive.specs.Driven.{DrivesBy, HasDriven, KeepsRun, MadeRounds, Views}
use Rattle.ken_drive.specs.Ended.{IsRunOf}
use Rattle.ken_drive.specs.Starting.{terms_of}
use Rattle.ken_drive.specs.Sparing.{IsLetBy}
use Rattle.ken_drive.specs.Worlds.{HasKeptNothing}
use Rattle.ken_top.specs.declared.status.Status.{Status}
use Rattle.ken_top.specs.declared.status.Status.TheVariants as status
use Rattle.ken_top.specs.Statuses.{of_running, of_script}
use Rattle.ken_top.specs.Headline.{AreTold, IsReport, IsFront, IsLet, IsQuiet, IsRunOfSource, IsRefusal, IsScriptOf, IsUnsaid, IsOut, Wrote, Ran}
use Rattle.ken_model.specs.Handler.{Handler}
use Rattle.ken_model.specs.Restarts.{AreRestartsByNode}
use Rattle.ken_top.specs.Programs.{Program, IsTormented, SaysTo, BreaksTo, IsFaultTo, by_seed, drawn_by, handler_in, game_in}
use Rattle.ken_top.specs.Programs.{kinds, service, torment}

-- drawn faults leave a language one
tormented_language : (Said : List ℕ → Script → Type 0) (breaks : List ℕ → ℕ → ℕ → Type 0) (seed : ℕ) → IsLanguage Said breaks → IsLanguage (IsTormented Said seed) breaks
tormented_language Said breaks seed own = record {
  breaks_by_front = own.breaks_by_front;
  says_by_front = λ b s h. record { plain = h.plain; says = own.says_by_front b h.plain h.says; drawn = h.drawn };
  says_or_breaks = λ b s rule index h broken. own.says_or_breaks b h.plain rule index h.says broken;
  breaks_once = own.breaks_once;
  says_once = λ b s s' h h'. h.drawn ∙ ap (tormented seed) (own.says_once b h.plain h'.plain h.says h'.says) ∙ sym h'.drawn;
}

-- what a text says to a program and which rule it breaks is a language
pub language : (program : Program) → IsLanguage (SaysTo program) (BreaksTo program)
language kinds = kinds_language
language (service h) = service_language
language (torment seed program) = tormented_language (SaysTo program) (BreaksTo program) seed (language program)

-- the rule that a fault names is the one that the text breaks
pub fault_of_kinds : (b : List ℕ) (fault : ScriptFault) → IsFaultOf b fault → IsFaultTo kinds b fault
fault_of_kinds b (script.Rule rule index) breaks = breaks
fault_of_kinds b script.Memory breaks = tt

pub fault_of_service : (h : Handler) (b : List ℕ) (fault : ScriptFault) → IsServiceFaultOf b fault → IsFaultTo (service h) b fault
fault_of_service h b (script.Rule rule index) breaks = breaks
fault_of_service h b script.Memory breaks = tt

-- what a text spells, by the run that it spells
record IsReportOf {D O U : Type 0} (program : Program) (made : ℕ → ℕ) (views : Views D O U) (kept : ℕ → Option (Disks D × O × U)) (b : List ℕ) (script : Script) (ending : Ending) (w : List ℕ) (run : Spelling) : Type 0 where
  text : w ≡ report (game_in program script) run.schedule run.emissions run.restarts ending
  legal : IsLegal (game_in program script) run.schedule
  emissions : AreLegalEmissions (game_in program script) (play (game_in program script) run.schedule) run.emissions
  by_node : AreByNode 0 run.emissions
  restarts : AreRestartsByNode script.facts.nodes 0 run.restarts
  ends : Ends (game_in program script) (play (game_in program script) run.schedule) run.emissions ending
  keeps : KeepsRun views (game_in program script) (terms_of views.scripted script) run.schedule run.emissions run.restarts kept
  rounds : MadeRounds views.told (made script.rounds) run.restarts kept

-- the bytes that a source tells, or those that were read where it doesn't
pub record IsTold (program : Program) (left : Option (List ℕ)) (read : List ℕ) : Type 0 where
  pub whole : List ℕ
  pub told : AreTold left whole
  pub says : (s : Script) → SaysTo program read s → SaysTo program whole s
  pub breaks : (rule index : ℕ) → BreaksTo program read rule index → BreaksTo program whole rule index

pub told_by : (program : Program) (left : Option (List ℕ)) (read : List ℕ) → IfSome left (λ xs. read ≡ take (LIMIT + 1) xs) → IsTold program left read
told_by program None read front = record { whole = read; told = tt; says = λ s h. h; breaks = λ rule index h. h }
told_by program (Some xs) read front =
    let own = language program in
    record {
      whole = xs;
      told = refl;
      says = λ s h. own.says_by_front xs s (subst (λ b. SaysTo program b s) front h);
      breaks = λ rule index h. own.breaks_by_front xs rule index (subst (λ b. BreaksTo program b rule index) front h);
    }

-- some bytes that a source may have given
pub any_told : (left : Option (List ℕ)) → (b : List ℕ) × AreTold left b
any_told None = ([], tt)
any_told (Some xs) = (xs, refl)

-- restart lines of a run whose devices show it are ones that it may have
restarts_so_far : {D O U : Type 0} (views : Views D O U) (g : Game) (terms : Terms) (kept : ℕ → Option (Disks D × O × U)) (schedule : List Step) (emissions : List Emission) (restarts : List RestartLine) → AreRestartsByNode g.nodes 0 restarts → KeepsRun views g terms schedule emissions restarts kept → AreRestartsSoFar g terms.most schedule restarts
restarts_so_far views g terms kept schedule emissions restarts by_node keeps = record {
  by_node = by_node;
  few = λ v known. let node = keeps.each v known in omega (arith, node.causes.few, node.own.few);
  rise = λ v known. (keeps.each v known).causes.rise;
}

module _ {D O U : Type 0} (program : Program) (made : ℕ → ℕ) (views : Views D O U) (kept : ℕ → Option (Disks D × O × U)) where
  -- each line of a run is right
  right_of-run : (script : Script) (l : Lines) → IsRunOf (game_in program script) l → KeepsRun views (game_in program script) (terms_of views.scripted script) (steps_of l.turns) l.emissions l.restarts kept → IsJudged (game_in program script) script.restarts (text l) Right
  right_of-run script l run keeps =
      let g = game_in program script in
      let often = restarts_so_far views g (terms_of views.scripted script) kept (steps_of l.turns) l.emissions l.restarts run.restarts keeps in
      subst (λ (b : List ℕ). IsJudged g script.restarts b Right) (sym (ap text run.lines))
      (reports_are_right g script.restarts (steps_of l.turns) l.emissions l.restarts l.ending run.legal run.emissions run.by_node often run.ends (subst IsPrintable run.lines run.printable))

  pub report_of-run : (b : List ℕ) (script : Script) (l : Lines) → SaysTo program b script → IsRunOf (game_in program script) l → KeepsRun views (game_in program script) (terms_of views.scripted script) (steps_of l.turns) l.emissions l.restarts kept → MadeRounds views.told (made script.rounds) l.restarts kept → IsReport program made views kept b l.ending (text l)
  report_of-run b script l says run keeps rounds =
      let told : Spelling = record { schedule = steps_of l.turns; emissions = l.emissions; restarts = l.restarts } in
      let spelled : spell (text l) ≡ told = report_spells_its_run l run.printable in
      let of_told : IsReportOf program made views kept b script l.ending (text l) told = record { text = ap text run.lines; legal = run.legal; emissions = run.emissions; by_node = run.by_node; restarts = run.restarts; ends = run.ends; keeps = keeps; rounds = rounds } in
      let of_text : IsReportOf program made views kept b script l.ending (text l) (spell (text l)) = subst (IsReportOf program made views kept b script l.ending (text l)) (sym spelled) of_told in
      record { script = script; says = says; text = of_text.text; legal = of_text.legal; emissions = of_text.emissions; by_node = of_text.by_node; restarts = of_text.restarts; ends = of_text.ends; keeps = of_text.keeps; rounds = of_text.rounds; right = right_of-run script l run keeps }

  -- the report of the run that a source says
  report_of-source : (left : Option (List ℕ)) (l : Lines) (run : IsRunOfSource program made views kept left l) → IsReport program made views kept run.read l.ending (text l)
  report_of-source left l run = report_of-run run.read run.script l run.says run.driven.run run.driven.keeps run.driven.rounds

  -- a front of it
  pub front_of-source : (left : Option (List ℕ)) (l : Lines) (run : IsRunOfSource program made views kept left l) (old new : Option (List ℕ)) (out : AppendsFront old new (text l)) → IsFront program made views kept run.read out.front
  front_of-source left l run old new out = record { rest = out.rest; ending = l.ending; whole = subst (IsReport program made views kept run.read l.ending) (sym out.parts) (report_of-source left l run) }

  -- and nothing of it
  pub front_unwritten : (left : Option (List ℕ)) (l : Lines) (run : IsRunOfSource program made views kept left l) → IsFront program made views kept run.read []
  front_unwritten left l run = record { rest = text l; ending = l.ending; whole = report_of-source left l run }

  -- nothing was written
  pub ran_quietly : (left took : Option (List ℕ)) (s : Status) → ((b : List ℕ) → Wrote program made views kept b [] s) → Ran program made views kept left took took s
  ran_quietly left took s wrote = let read = any_told left in record { read = read.0; written = []; told = read.1; out = Appends-nil took; wrote = wrote read.0 }

  -- a refusal, as an answer of the program
  pub ran_refused : (left took : Option (List ℕ)) (s : Status) → IsRefusal program made views kept left s → Ran program made views kept left took took s
  ran_refused left took (status.Script rule index) refusal = record { read = refusal.0; written = []; told = refusal.1; out = Appends-nil took; wrote = (refl, refusal.3, refusal.2) }
  ran_refused left took (status.Down v) refusal = record { read = refusal.0; written = []; told = refusal.1; out = Appends-nil took; wrote = (refl, refusal.2) }
  ran_refused left took status.Read none = ran_quietly left took status.Read (λ b. (refl, none))
  ran_refused left took status.Memory none = ran_quietly left took status.Memory (λ b. inl (refl, none))
  ran_refused left took s refusal = absurd refusal

  -- a report that is out, as an answer of the program
  pub ran_written : (left old new : Option (List ℕ)) (l : Lines) (s : Status) → IsRunOfSource program made views kept left l → IsOut old new l s → Ran program made views kept left old new s
  ran_written left old new l status.Settled run out =
      record { read = run.read; written = text l; told = run.told; out = out.1; wrote = subst (λ e. IsReport program made views kept run.read e (text l)) out.0 (report_of-source left l run) }
  ran_written left old new l status.Cut run out =
      record { read = run.read; written = text l; told = run.told; out = out.1; wrote = subst (λ e. IsReport program made views kept run.read e (text l)) out.0 (report_of-source left l run) }
  ran_written left old new l status.Write run out = record { read = run.read; written = out.front; told = run.told; out = out.out; wrote = front_of-source left l run old new out }
  ran_written left old new l status.Memory run out = record { read = run.read; written = out.front; told = run.told; out = out.out; wrote = inr (front_of-source left l run old new out) }
  ran_written left old new l s run out = absurd out

  -- a refused script, as a refusal of what the source gives
  pub refusal_by : (left : Option (List ℕ)) (s : Status) → IsUnsaid program left s → HasKeptNothing kept → IsRefusal program made views kept left s
  refusal_by left (status.Script rule index) unsaid none = (unsaid.0, unsaid.1, unsaid.2, none)
  refusal_by left status.Read unsaid none = none
  refusal_by left status.Memory unsaid none = none
  refusal_by left s unsaid none = absurd unsaid

  -- a run that didn't go on, as a refusal of what the source gives
  down_of-run : (left : Option (List ℕ)) (s : Script) (fault : RunFault) → IsScriptOf program left s → DrivesBy views (handler_in program s) s (made s.rounds) kept (Err fault) → IsRefusal program made views kept left (of_running fault)
  down_of-run left s (running.Damaged v disk place) said driven = absurd driven
  down_of-run left s (running.Down v) said down = (said.read, said.told, record { script = s; says = said.says; down = down })
  down_of-run left s running.Memory said none = none

  pub refusal_of-run : (left : Option (List ℕ)) (s : Script) (fault : RunFault) (h : Handler) → handler_in program s ≡ h → IsScriptOf program left s → DrivesBy views h s (made s.rounds) kept (Err fault) → IsRefusal program made views kept left (of_running fault)
  refusal_of-run left s fault h same said driven = down_of-run left s fault said (subst (λ (own : Handler). DrivesBy views own s (made s.rounds) kept (Err fault)) (sym same) driven)

  -- a script that was run, as what the source gives
  pub run_by : (left : Option (List ℕ)) (s : Script) (l : Lines) (h : Handler) → handler_in program s ≡ h → IsScriptOf program left s → HasDriven views h s (made s.rounds) kept l → IsRunOfSource program made views kept left l
  run_by left s l h same said driven = record { read = said.read; told = said.told; script = s; says = said.says; driven = subst (λ (own : Handler). HasDriven views own s (made s.rounds) kept l) (sym same) driven }

-- the node that is down in a run is one that what the source gives lets go down
pub let_of-run : (program : Program) (left : Option (List ℕ)) (s : Script) (fault : RunFault) → IsScriptOf program left s → IsLetBy s fault → IsLet program left (of_running fault)
let_of-run program left s (running.Damaged v disk place) said lets = absurd lets
let_of-run program left s (running.Down v) said lets = record { read = said.read; told = said.told; script = s; says = said.says; lets = lets }
let_of-run program left s running.Memory said lets = tt

-- where there is no script no node is told as down
pub let_unsaid : (program : Program) (left : Option (List ℕ)) (s : Status) → IsUnsaid program left s → IsLet program left s
let_unsaid program left (status.Down v) unsaid = absurd unsaid
let_unsaid program left s unsaid = tt

-- a seed breaks no rule
breaks_by : (seed : Option ℕ) (program : Program) (b : List ℕ) (rule index : ℕ) → BreaksTo program b rule index → BreaksTo (by_seed seed program) b rule index
breaks_by None program b rule index broken = broken
breaks_by (Some n) program b rule index broken = broken

pub unsaid_by : (seed : Option ℕ) (program : Program) (left : Option (List ℕ)) (read : List ℕ) (fault : ScriptFault) → IfSome left (λ xs. read ≡ take (LIMIT + 1) xs) → IsFaultTo program read fault → IsUnsaid (by_seed seed program) left (of_script fault)
unsaid_by seed program left read (script.Rule rule index) front broken =
    let told = told_by program left read front in
    (told.whole, told.told, breaks_by seed program told.whole rule index (told.breaks rule index broken))
unsaid_by seed program left read script.Memory front broken = tt

-- a script, as what the source gives, with the faults of a seed where there is one
pub script_by : (seed : Option ℕ) (program : Program) (left : Option (List ℕ)) (read : List ℕ) (plain script : Script) → IfSome left (λ xs. read ≡ take (LIMIT + 1) xs) → SaysTo program read plain → script ≡ drawn_by seed plain → IsScriptOf (by_seed seed program) left script
script_by None program left read plain script front says drawn =
    let told = told_by program left read front in
    record { read = told.whole; told = told.told; says = subst (SaysTo program told.whole) (sym drawn) (told.says plain says) }
script_by (Some n) program left read plain script front says drawn =
    let told = told_by program left read front in
    record { read = told.whole; told = told.told; says = record { plain = plain; says = told.says plain says; drawn = drawn } }

-- a seed leaves the handler as it is
pub handler_by : (seed : Option ℕ) (program : Program) (s : Script) → handler_in (by_seed seed program) s ≡ handler_in program s
handler_by None program s = refl
handler_by (Some n) program s = refl

-- a status with which nothing is written tells of no report
pub out_is_told : (old new : Option (List ℕ)) (l : Lines) (s : Status) → IsOut old new l s → IsQuiet s → ⊥
out_is_told old new l status.Settled out quiet = quiet
out_is_told old new l status.Cut out quiet = quiet
out_is_told old new l status.Write out quiet = quiet
out_is_told old new l status.Memory out quiet = quiet
out_is_told old new l s out quiet = out
