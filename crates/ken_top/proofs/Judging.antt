-- What is read of a source that tells what it has, and what is answered of it.
use Rattle.std.proofs.Common.{◌≡◌, ◌∙◌, ◌<◌, ◌≤◌, ◌+◌, ◌-◌, ◌++◌, min, ⊎_elim, inl, inr, ℕ, List, [], Option, Some, None, Result, Ok, Err, IfOk, IfErr, IfSome, length, take, drop, refl, sym, ap, subst, arith, append-nil, length-append}
use Rattle.std.proofs.Math.Seq.{drop-append_seam, take-append_seam}
use Rattle.std.proofs.lemmas.Bool.{cases_lt}
use Rattle.std.proofs.lemmas.List.{drop_all, length-take, nil_from_length, take_all}
use Rattle.std.specs.Io.KnownBytes.{Consumes}
use Rattle.std.proofs.KnownBytes.{Consumes-trans}
use Rattle.ken_io.specs.Transfers.{TakesAtMost}
use Rattle.ken_io.specs.declared.faults.ReadFault.{ReadFault}
use Rattle.ken_io.specs.declared.faults.ReadFault.TheVariants as reading
use Rattle.ken_script.specs.declared.scripts.Script.{Script}
use Rattle.ken_script.specs.declared.faults.ScriptFault.{ScriptFault}
use Rattle.ken_script.specs.declared.faults.ScriptFault.TheVariants as script
use Rattle.ken_check.specs.declared.verdict.Verdict.{Verdict}
use Rattle.ken_check.specs.declared.verdict.Verdict.TheVariants.{Right}
use Rattle.ken_top.specs.declared.checking.TheConstants.{MOST_INPUT}
use Rattle.ken_top.specs.declared.status.Status.{Status}
use Rattle.ken_top.specs.declared.status.Status.TheVariants as status
use Rattle.ken_top.specs.Checked.{Checks, IsJudgedOf, IsJudgedTo, IsRefused, yes}
use Rattle.ken_top.specs.Headline.{AreTold, IsTextOut}
use Rattle.ken_top.specs.Pieces.{HasGivenThese, IsLong, IsReportJudged, IsReportRefused, IsRoomBehind, IsScriptRefused}
use Rattle.ken_top.specs.Programs.{Program, SaysTo, IsFaultTo}
use Rattle.ken_top.specs.Statuses.{of_reading, of_script}
use Rattle.ken_top.proofs.Reported.{any_told}

-- nothing is said of what couldn't be read, nor where memory was short
pub memory_refused : (program : Program) (size : ℕ) (left : Option (List ℕ)) → IsRefused program size left status.Memory
memory_refused program size left = let b = any_told left in (b.0, b.1, refl)

pub reading_refused : (program : Program) (size : ℕ) (left : Option (List ℕ)) (fault : ReadFault) → IsRefused program size left (of_reading fault)
reading_refused program size left reading.Failed = let b = any_told left in (b.0, b.1, refl)
reading_refused program size left reading.Memory = memory_refused program size left

-- a source gave a script of at most so many bytes
pub record HasGivenScript (size : ℕ) (old new : Option (List ℕ)) (text : List ℕ) : Type 0 where
  pub front : IfSome old (λ xs. text ≡ take size xs)
  pub given : Consumes old new text
  pub few : length text ≤ size

-- what is known of a script that was read, and of what is behind it
pub record IsParted (size : ℕ) (old mid : Option (List ℕ)) (text : List ℕ) (room : ℕ) : Type 0 where
  pub script : HasGivenScript (min size MOST_INPUT) old mid text
  pub behind : IsRoomBehind (length text) (min size MOST_INPUT) room

-- so where these numbers are told
pub parted : (size : ℕ) (old mid : Option (List ℕ)) (text : List ℕ) (room count asked : ℕ) → asked ≡ min size MOST_INPUT → count ≡ length text
    → IfSome old (λ xs. text ≡ take asked xs) → Consumes old mid text → length text ≤ asked → IsRoomBehind count asked room → IsParted size old mid text room
parted size old mid text room count asked is counted front given few behind = record {
  script = record {
    front = subst (λ (n : ℕ). IfSome old (λ xs. text ≡ take n xs)) is front;
    given = given;
    few = subst (λ (n : ℕ). length text ≤ n) is few;
  };
  behind = subst (λ (n : ℕ). IsRoomBehind (length text) n room) is (subst (λ (n : ℕ). IsRoomBehind n asked room) counted behind);
}

-- where the script takes all that may be checked, or fewer bytes came than were asked for, nothing is behind it
none_behind : (size : ℕ) (old mid : Option (List ℕ)) (text : List ℕ) (room : ℕ) (rest : List ℕ) → IsParted size old mid text room → length rest ≤ room - 1 → length text < size → rest ≡ []
none_behind size old mid text room rest parted few short = ⊎_elim
    (λ (fewer : length text < min size MOST_INPUT). nil_from_length rest (omega (arith, few, parted.behind.ended fewer)))
    (λ (full : min size MOST_INPUT ≤ length text). nil_from_length rest (omega (arith, few, parted.behind.open_yet full, full, short)))
    (cases_lt (length text) (min size MOST_INPUT))

-- the script is the first bytes, and the report all others
script_of : (size : ℕ) (old mid : Option (List ℕ)) (text : List ℕ) (room : ℕ) (rest : List ℕ) → IsParted size old mid text room → length rest ≤ room - 1 → (take size (text ++ rest) ≡ text) × (drop size (text ++ rest) ≡ rest)
script_of size old mid text room rest parted few = ⊎_elim
    (λ (short : length text < size). (
    let none = none_behind size old mid text room rest parted few short in
    let all : text ++ rest ≡ text = ap (λ (l : List ℕ). text ++ l) none ∙ append-nil text in
    (ap (take size) all ∙ take_all size text (omega (arith, short)), ap (drop size) all ∙ drop_all size text (omega (arith, short)) ∙ sym none)))
    (λ (full : size ≤ length text). (
    let same : length text ≡ size = omega (arith, full, parted.script.few) in
    (ap (λ (n : ℕ). take n (text ++ rest)) (sym same) ∙ take-append_seam text rest, ap (λ (n : ℕ). drop n (text ++ rest)) (sym same) ∙ drop-append_seam text rest)))
    (cases_lt (length text) size)

-- together they are all that the source had
told_all : (size : ℕ) (old mid new : Option (List ℕ)) (text : List ℕ) (room : ℕ) (rest : List ℕ) → IsParted size old mid text room → HasGivenThese room mid new rest → length rest ≤ room - 1 → AreTold old (text ++ rest)
told_all size None mid new text room rest parted more few = tt
told_all size (Some xs) None new text room rest parted more few = absurd parted.script.given
told_all size (Some xs) (Some ys) None text room rest parted more few = absurd more.given
told_all size (Some xs) (Some ys) (Some zs) text room rest parted more few = ⊎_elim
    (λ (short : length text < min size MOST_INPUT). (
    let none : rest ≡ [] = nil_from_length rest (omega (arith, few, parted.behind.ended short)) in
    let front : text ≡ take (min size MOST_INPUT) xs = parted.script.front in
    let small : length xs ≤ min size MOST_INPUT = omega (arith, short, ap length front, length-take (min size MOST_INPUT) xs) in
    ap (λ (l : List ℕ). text ++ l) none ∙ append-nil text ∙ front ∙ take_all (min size MOST_INPUT) xs small))
    (λ (full : min size MOST_INPUT ≤ length text). (
    let last : zs ≡ [] = more.ended (omega (arith, few, parted.behind.open_yet full, parted.script.few)) in
    let given : xs ≡ text ++ ys = parted.script.given in
    let then : ys ≡ rest ++ zs = more.given in
    sym (given ∙ ap (λ (l : List ℕ). text ++ l) (then ∙ ap (λ (l : List ℕ). rest ++ l) last ∙ append-nil rest))))
    (cases_lt (length text) (min size MOST_INPUT))

too_many : (size : ℕ) (old mid : Option (List ℕ)) (text : List ℕ) (room : ℕ) (rest : List ℕ) → IsParted size old mid text room → 0 < room → room ≤ length rest → MOST_INPUT < length (text ++ rest)
too_many size old mid text room rest parted some long = ⊎_elim
    (λ (short : length text < min size MOST_INPUT). absurd (omega (arith, some, parted.behind.ended short)))
    (λ (full : min size MOST_INPUT ≤ length text). omega (arith, long, parted.behind.open_yet full, length-append text rest))
    (cases_lt (length text) (min size MOST_INPUT))

-- where they take all the room the source had too many
long_told : (size : ℕ) (old mid new : Option (List ℕ)) (text : List ℕ) (room : ℕ) → IsParted size old mid text room → IsLong room mid new → (b : List ℕ) × AreTold old b × (MOST_INPUT < length b)
long_told size None mid new text room parted long = (text ++ long.bytes, tt, too_many size None mid text room long.bytes parted long.some long.long)
long_told size (Some xs) None new text room parted long = absurd parted.script.given
long_told size (Some xs) (Some ys) None text room parted long = absurd long.given.given
long_told size (Some xs) (Some ys) (Some zs) text room parted long =
    let given : xs ≡ text ++ ys = parted.script.given in
    let then : ys ≡ long.bytes ++ zs = long.given.given in
    (xs, refl, omega (arith, too_many size (Some xs) (Some ys) text room long.bytes parted long.some long.long, ap length given, ap length then, length-append text ys, length-append long.bytes zs, length-append text long.bytes))

module _ (program : Program) (size : ℕ) (old mid new : Option (List ℕ)) (text : List ℕ) (room : ℕ) (parted : IsParted size old mid text room) where
  few_in_all : (rest : List ℕ) → length rest ≤ room - 1 → length (text ++ rest) ≤ MOST_INPUT
  few_in_all rest few = ⊎_elim
      (λ (short : length text < min size MOST_INPUT). omega (arith, few, parted.behind.ended short, length-append text rest))
      (λ (full : min size MOST_INPUT ≤ length text). omega (arith, few, parted.behind.open_yet full, parted.script.few, length-append text rest))
      (cases_lt (length text) (min size MOST_INPUT))

  -- a report that was judged
  pub judged_of : (s : Script) (verdict : Verdict) → SaysTo program text s → IsReportJudged program s room mid new verdict → IsJudgedOf program size old verdict
  judged_of s verdict says is =
      let parts = script_of size old mid text room is.report parted is.few in
      record {
        read = text ++ is.report;
        told = told_all size old mid new text room is.report parted is.given is.few;
        judged = record {
          few = few_in_all is.report is.few;
          script = s;
          says = subst (λ (b : List ℕ). SaysTo program b s) (sym parts.0) says;
          judged = subst (λ (b : List ℕ). IsJudgedTo program s b verdict) (sym parts.1) is.judged;
        };
      }

  -- one that wasn't
  pub report_refused : (answer : Status) → IsReportRefused room mid new answer → IsRefused program size old answer
  report_refused status.Read is = reading_refused program size old reading.Failed
  report_refused status.Memory is = memory_refused program size old
  report_refused status.Long is = (let b = long_told size old mid new text room parted is in (b.0, b.1, (refl, b.2)))
  report_refused answer is = absurd is

  by_fault : (fault : ScriptFault) (rest : List ℕ) → IsFaultTo program text fault → HasGivenThese room mid new rest → length rest ≤ room - 1 → IsRefused program size old (of_script fault)
  by_fault (script.Rule rule index) rest breaks given few =
      let parts = script_of size old mid text room rest parted few in
      (text ++ rest, told_all size old mid new text room rest parted given few, (refl, few_in_all rest few, subst (λ (b : List ℕ). IsFaultTo program b (script.Rule rule index)) (sym parts.0) breaks))
  by_fault script.Memory rest breaks given few = memory_refused program size old

  -- and a script that breaks a rule
  pub script_refused : (fault : ScriptFault) (answer : Status) → IsFaultTo program text fault → IsScriptRefused fault room mid new answer → IsRefused program size old answer
  script_refused fault _ breaks IsScriptRefused.unread = reading_refused program size old reading.Failed
  script_refused fault _ breaks (IsScriptRefused.long is) = report_refused status.Long is
  script_refused fault _ breaks (IsScriptRefused.faulty bytes given few) = by_fault fault bytes breaks given few

  -- what a judge of the report answers
  pub judged_in : (s : Script) (r : Result Verdict Status) → SaysTo program text s → IfOk r (IsReportJudged program s room mid new) → IfOk r (IsJudgedOf program size old)
  judged_in s (Ok verdict) says is = judged_of s verdict says is
  judged_in s (Err answer) says is = tt

  pub refused_in : (r : Result Verdict Status) → IfErr r (IsReportRefused room mid new) → IfErr r (IsRefused program size old)
  refused_in (Ok verdict) is = tt
  refused_in (Err answer) is = report_refused answer is

  -- no more is taken than may be
  pub took_all : TakesAtMost room mid new → TakesAtMost (MOST_INPUT + 1) old new
  took_all then = record {
    taken = text ++ then.taken;
    given = Consumes-trans old mid new text then.taken parted.script.given then.given;
    few = ⊎_elim
        (λ (short : length text < min size MOST_INPUT). omega (arith, then.few, parted.behind.ended short, short, length-append text then.taken))
        (λ (full : min size MOST_INPUT ≤ length text). omega (arith, then.few, parted.behind.open_yet full, length-append text then.taken))
        (cases_lt (length text) (min size MOST_INPUT));
  }

-- a report that is right is told so
pub checks_right : (program : Program) (size : ℕ) (left old new : Option (List ℕ)) (answer : Status) → IsJudgedOf program size left Right → IsTextOut yes status.Checked old new answer → Checks program size left old new answer
checks_right program size left old new answer judged (inl out) =
    subst (Checks program size left old new) (sym out.0) (record { read = judged.read; written = yes; told = judged.told; out = out.1; answers = (refl, judged.judged) })
checks_right program size left old new answer judged (inr out) =
    subst (Checks program size left old new) (sym out.0) (record { read = judged.read; written = out.1.front; told = judged.told; out = out.1.out; answers = ((out.1.rest, sym out.1.parts), judged.judged) })
