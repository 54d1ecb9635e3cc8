-- What came of a source in pieces.
use Rattle.std.proofs.Common.{◌≡◌, ℕ, ◌+◌, ◌-◌, ◌<◌, ◌≤◌, ◌^◌, ⊎_elim, List, [], ◌++◌, Option, Some, None, length, take, subst, sym, refl, arith, append_assoc, append-nil, length-append, length-take}
use Rattle.std.specs.Io.KnownBytes.{Consumes, IsAtEnd}
use Rattle.std.proofs.KnownBytes.{Consumes-trans}
use Rattle.ken_actors.specs.Decided.{IsDecided}
use Rattle.ken_actors.specs.Playing.{game_for}
use Rattle.ken_model.specs.declared.kinds.Kind.{Kind}
use Rattle.ken_model.specs.Kinds.{handler_of}
use Rattle.ken_model.specs.Game.{Game}
use Rattle.ken_model.specs.Handler.{Handler}
use Rattle.ken_io.specs.Transfers.{TakesAtMost}
use Rattle.ken_check.specs.declared.judging.Judging.{Judging}
use Rattle.ken_check.specs.declared.verdict.Verdict.{Verdict}
use Rattle.ken_check.specs.declared.verdict.Verdict.TheVariants.{Right, Wrong}
use Rattle.ken_check.specs.Incoming.{HasRead}
use Rattle.ken_check.specs.Judged.{IsJudgedBy}
use Rattle.ken_script.specs.declared.faults.ScriptFault.{ScriptFault}
use Rattle.ken_script.specs.declared.scripts.Script.{Script}
use Rattle.std.proofs.lemmas.Bool.{cases_lt}
use Rattle.ken_top.specs.declared.checking.TheConstants.{MOST_INPUT}
use Rattle.ken_top.specs.Checked.{IsJudgedTo}
use Rattle.ken_top.specs.Programs.{Program, IsSure, handler_in}
use Rattle.ken_top.specs.Programs.{kinds, service, torment}
use Rattle.ken_top.specs.Statuses.{of_script}
use Rattle.ken_top.specs.Pieces.{HasCome, HasGivenThese, HasJudged, IsLong, IsReportJudged, IsScriptRefused}

-- nothing came
nothing_given : (old : Option (List ℕ)) → Consumes old old []
nothing_given None = tt
nothing_given (Some xs) = refl

pub come_none : (old : Option (List ℕ)) → HasCome old old 0
come_none old = record { bytes = []; given = nothing_given old; counted = refl }

pub judged_none : {P H : Type 0} {handler : P → Handler} (old : Option (List ℕ)) (j : Judging P H) → HasJudged handler old old j j 0
judged_none {P} {H} {handler} old j = record { bytes = []; given = nothing_given old; counted = refl; judged = λ g most seen read. subst (λ (l : List ℕ). HasRead handler g most l j) (sym (append-nil seen)) read }

-- a piece more came
pub come_more : (old mid new : Option (List ℕ)) (n k m : ℕ) (buf : List ℕ) → HasCome old mid n → Consumes mid new (take k buf) → k ≤ length buf → m ≡ n + k → HasCome old new m
come_more old mid new n k m buf come more few sum = record {
  bytes = come.bytes ++ take k buf;
  given = Consumes-trans old mid new come.bytes (take k buf) come.given more;
  counted = omega (arith, come.counted, length-append come.bytes (take k buf), length-take k buf);
}

pub judged_more : {P H : Type 0} {handler : P → Handler} (old mid new : Option (List ℕ)) (a b c : Judging P H) (n k m : ℕ) (buf : List ℕ) → HasJudged handler old mid a b n → Consumes mid new (take k buf) → k ≤ length buf → m ≡ n + k
    → ((g : Game) (most : ℕ) (seen : List ℕ) → HasRead handler g most seen b → HasRead handler g most (seen ++ take k buf) c) → HasJudged handler old new a c m
judged_more {P} {H} {handler} old mid new a b c n k m buf come more few sum on = record {
  bytes = come.bytes ++ take k buf;
  given = Consumes-trans old mid new come.bytes (take k buf) come.given more;
  counted = omega (arith, come.counted, length-append come.bytes (take k buf), length-take k buf);
  judged = λ g most seen read. subst (λ (l : List ℕ). HasRead handler g most l c) (append_assoc seen come.bytes (take k buf)) (on g most (seen ++ come.bytes) (come.judged g most seen read));
}

-- and what was judged of a piece more
pub judged_join : {P H : Type 0} {handler : P → Handler} (old mid new : Option (List ℕ)) (a b c : Judging P H) (n k m : ℕ) → HasJudged handler old mid a b n → HasJudged handler mid new b c k → m ≡ n + k → HasJudged handler old new a c m
judged_join {P} {H} {handler} old mid new a b c n k m come more sum = record {
  bytes = come.bytes ++ more.bytes;
  given = Consumes-trans old mid new come.bytes more.bytes come.given more.given;
  counted = omega (arith, sum, come.counted, more.counted, length-append come.bytes more.bytes);
  judged = λ g most seen read.
      subst (λ (l : List ℕ). HasRead handler g most l c) (append_assoc seen come.bytes more.bytes) (more.judged g most (seen ++ come.bytes) (come.judged g most seen read));
}

pub taken_join : {P H : Type 0} {handler : P → Handler} (old mid new : Option (List ℕ)) (a b : Judging P H) (n most some : ℕ) → HasJudged handler old mid a b n → TakesAtMost some mid new → n + some ≤ most → TakesAtMost most old new
taken_join old mid new a b n most some come more few = record {
  taken = come.bytes ++ more.taken;
  given = Consumes-trans old mid new come.bytes more.taken come.given more.given;
  few = omega (arith, few, come.counted, more.few, length-append come.bytes more.taken);
}

-- and no more than that
pub took_come : (most : ℕ) (old new : Option (List ℕ)) (n : ℕ) → HasCome old new n → n ≤ most → TakesAtMost most old new
took_come most old new n come few = record { taken = come.bytes; given = come.given; few = omega (arith, few, come.counted) }

pub took_judged : {P H : Type 0} {handler : P → Handler} (most : ℕ) (old new : Option (List ℕ)) (a b : Judging P H) (n : ℕ) → HasJudged handler old new a b n → n ≤ most → TakesAtMost most old new
took_judged most old new a b n come few = record { taken = come.bytes; given = come.given; few = omega (arith, few, come.counted) }

-- a program that is sure of its lines decides its draws
decided : ((kind : Kind) → IsDecided (handler_of kind)) → (program : Program) (s : Script) → IsSure program → IsDecided (handler_in program s)
decided of_kinds kinds s sure = of_kinds s.facts.kind
decided of_kinds (service h) s sure = sure
decided of_kinds (torment seed program) s sure = decided of_kinds program s sure

-- so what a judge says of a report it says of one of the program's
judged_to : ((kind : Kind) → IsDecided (handler_of kind)) → (program : Program) (s : Script) (h : Handler) (report : List ℕ) (verdict : Verdict) → h ≡ handler_in program s → IsJudgedBy (game_for h s.facts) s.restarts report verdict → IsJudgedTo program s report verdict
judged_to of_kinds program s h report Right same is = subst (λ (own : Handler). IsJudgedBy (game_for own s.facts) s.restarts report Right) same is
judged_to of_kinds program s h report (Wrong line) same is = λ sure. subst (λ (own : Handler). IsJudgedBy (game_for own s.facts) s.restarts report (Wrong line)) same is (decided of_kinds program s sure)

-- what came, and no more where fewer bytes than the room came
module _ (room : ℕ) (old new : Option (List ℕ)) (n : ℕ) (ended : n < room → IsAtEnd new) where
  these : (bytes : List ℕ) → Consumes old new bytes → length bytes ≡ n → HasGivenThese room old new bytes
  these bytes given counted = record { given = given; ended = λ less. ended (omega (arith, less, counted)) }

  pub long_come : HasCome old new n → (0 < room) × (room ≤ n) → IsLong room old new
  long_come come long = record { bytes = come.bytes; given = these come.bytes come.given come.counted; some = long.0; long = omega (arith, long.1, come.counted) }

  pub long_judged : {P H : Type 0} {handler : P → Handler} (a b : Judging P H) → HasJudged handler old new a b n → (0 < room) × (room ≤ n) → IsLong room old new
  long_judged a b come long = record { bytes = come.bytes; given = these come.bytes come.given come.counted; some = long.0; long = omega (arith, long.1, come.counted) }

  short : n ≤ room → ((0 < room) × (room ≤ n) → ⊥) → n ≤ room - 1
  short few other = ⊎_elim
      (λ (less : n < room). omega (arith, less))
      (λ (full : room ≤ n). ⊎_elim (λ (some : 0 < room). absurd (other (some, full))) (λ (none : room ≤ 0). omega (arith, none, few)) (cases_lt 0 room))
      (cases_lt n room)

  pub faulty_come : (fault : ScriptFault) → HasCome old new n → n ≤ room → ((0 < room) × (room ≤ n) → ⊥) → IsScriptRefused fault room old new (of_script fault)
  faulty_come fault come few other = IsScriptRefused.faulty come.bytes (these come.bytes come.given come.counted) (let least = short few other in omega (arith, least, come.counted))

  pub report_of : {P H : Type 0} {handler : P → Handler} → ((kind : Kind) → IsDecided (handler_of kind)) → (program : Program) (s : Script) (h : Handler) (a b : Judging P H) (verdict : Verdict) → HasJudged handler old new a b n → n ≤ room → room ≤ MOST_INPUT + 1 → ((0 < room) × (room ≤ n) → ⊥)
      → HasRead handler (game_for h s.facts) s.restarts [] a → ((seen : List ℕ) → HasRead handler (game_for h s.facts) s.restarts seen b → length seen < 2 ^ 63 → IsJudgedBy (game_for h s.facts) s.restarts seen verdict)
      → h ≡ handler_in program s → IsReportJudged program s room old new verdict
  report_of of_kinds program s h a b verdict come few small other first judged same = record {
    report = come.bytes;
    given = these come.bytes come.given come.counted;
    few = (let least = short few other in omega (arith, least, come.counted));
    judged = judged_to of_kinds program s h come.bytes verdict same (judged come.bytes (come.judged (game_for h s.facts) s.restarts [] first) (omega (arith, few, small, come.counted)));
  }
