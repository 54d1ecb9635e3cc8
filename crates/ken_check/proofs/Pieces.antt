-- A report that is judged while it comes in.
use Rattle.std.proofs.Common.{◌≡◌, ℕ, ◌+◌, ◌-◌, ◌<◌, ◌^◌, min, List, [], ◌∷◌, ◌++◌, length, take, drop, get_or, Bool, true, false, ◌==◌, ◌≤◌, if◌then◌else◌, nat_lt, ⊎_elim, lt-ltb, eq-eqb, Some, None, Result, Ok, position, refl, sym, ap, subst, ◌∙◌, append_assoc, append-nil, length-append, arith, add-one, eqb-true}
use Rattle.std.specs.declared.alloc.AllocError.{AllocError}
use Rattle.std.proofs.lemmas.Grind.{common_steps}
use Rattle.std.proofs.Math.Seq.{drop-cons}
use Rattle.std.proofs.lemmas.List.{get_or-take, length-take, take-append-drop}
use Rattle.std.proofs.lemmas.List.Elements.{All-from_get_or, recursion_from_All}
use Rattle.std.proofs.lemmas.List.Quantifiers.{position-Some}
use Rattle.std.proofs.lemmas.Bool.{cases_lt}
use Rattle.std.proofs.lemmas.List.Sums.{fails_before_first}
use Rattle.ken_model.proofs.Choices.{is_true}
use Rattle.ken_model.specs.Game.{Game}
use Rattle.ken_model.specs.Handler.{Handler}
use Rattle.ken_actors.specs.Decided.{IsDecided}
use Rattle.ken_model.specs.Report.{IsOneLine}
use Rattle.ken_check.specs.declared.reader.Reader.{Reader}
use Rattle.ken_check.specs.declared.judging.Judging.{Judging}
use Rattle.ken_check.specs.declared.verdict.Verdict.TheVariants.{Right, Wrong}
use Rattle.ken_check.specs.Incoming.{HasRead, IsOpen, IsWhole, IsWrongAt}
use Rattle.ken_check.specs.Judged.{IsJudged, IsJudgedBy, IsJudgedFrom}
use Rattle.ken_check.specs.Knowing.{Follows, IsAnswered}
use Rattle.ken_check.specs.Right.{IsRightLine, Told, nothing_told}
use Rattle.ken_check.proofs.More.{all_both}

-- a line and what follows its line feed
pub record IsCut (bytes : List ℕ) (end : ℕ) : Type 0 where
  pub within : end < length bytes
  pub one_line : IsOneLine (take end bytes)
  pub parts : bytes ≡ take end bytes ++ 10 ∷ drop (end + 1) bytes

pub cut_at : (bytes : List ℕ) (end : ℕ) → position (λ b. b == 10) bytes ≡ Some end → IsCut bytes end
cut_at bytes end at =
    let found = position-Some (λ b. b == 10) bytes end 0 at in
    let next : drop end bytes ≡ 10 ∷ drop (end + 1) bytes = rw add-one (drop-cons bytes end 0 found.0) ∙ ap (λ b. b ∷ drop (end + 1) bytes) (eqb-true (get_or bytes end 0) 10 found.1) in
    record {
      within = found.0;
      one_line = recursion_from_All (λ b. (b ≡ 10) → ⊥) (take end bytes) (All-from_get_or (λ b. (b ≡ 10) → ⊥) (take end bytes) 0 (λ i before is.
          let early : i < end = omega (arith, before, length-take end bytes) in
          let here : get_or bytes i 0 ≡ 10 = sym (get_or-take end bytes i 0 early) ∙ is in
          let yes : true ≡ false = sym (eq-eqb (get_or bytes i 0) 10 here) ∙ found.2 i early in
          absurd cc));
      parts = sym (take-append-drop end bytes) ∙ ap (λ l. take end bytes ++ l) next;
    }

-- no place is found only where none is before the end
none_before : (a b : ℕ) → (if nat_lt a b then Some a else None) ≡ None → b ≤ a
none_before a b none = ⊎_elim (λ (less : a < b). (let some : Some a ≡ None = sym (is_true (nat_lt a b) (Some a) None (lt-ltb a b less)) ∙ none in absurd cc)) (λ past. past) (cases_lt a b)

-- what has no line feed is part of one line
pub one_line : (bytes : List ℕ) → position (λ b. b == 10) bytes ≡ None → IsOneLine bytes
one_line bytes none =
    let past = none_before _ (length bytes) none in
    recursion_from_All (λ b. (b ≡ 10) → ⊥) bytes (All-from_get_or (λ b. (b ≡ 10) → ⊥) bytes 0 (λ i before is.
    let yes : true ≡ false = sym (eq-eqb (get_or bytes i 0) 10 is) ∙ fails_before_first (λ b. b == 10) bytes i 0 (omega (arith, before, past)) in
    absurd cc))

-- a slice from a place to the end
pub slice_rest : (xs : List ℕ) (k : ℕ) → take (length xs - k) (drop k xs) ≡ drop k xs
slice_rest xs k = grind (arith, common_steps)

-- nothing was read
pub read_none : {P H : Type 0} (h : P → Handler) (g : Game) (most : ℕ) (j : Judging P H) → Follows h g most j.reader nothing_told → j.line ≡ 1 → j.begun.items ≡ [] → j.wrong ≡ false → HasRead h g most [] j
read_none h g most j follows line begun right = record {
  number = 1;
  few = omega arith;
  counted = line;
  open_yet = λ is. record {
    told = nothing_told;
    follows = follows;
    one_line = subst IsOneLine (sym begun) tt;
    judged = λ more verdict judged. subst (λ (bytes : List ℕ). IsJudgedFrom g most 1 nothing_told (bytes ++ more) verdict) begun judged;
  };
  wrong = λ is. (let differ : true ≡ false = sym is ∙ right in absurd cc);
}

-- a piece and what may come behind it
behind : (seen part more : List ℕ) → (seen ++ (part ++ 10 ∷ [])) ++ more ≡ seen ++ (part ++ 10 ∷ more)
behind seen part more = append_assoc seen (part ++ 10 ∷ []) more ∙ ap (λ l. seen ++ l) (append_assoc part (10 ∷ []) more)

-- a report that ends without its end line
missed : (g : Game) (most n : ℕ) (told : Told) (ended : Bool) (begun : List ℕ) → told.ended ≡ ended → IsOneLine begun → (ended ≡ true → begun ≡ [] → ⊥) → IsJudgedFrom g most n told begun (Wrong n)
missed g most n told ended (b ∷ begun) is one other = IsJudgedFrom.unfinished one (λ none. absurd cc)
missed g most n told false [] is one other = IsJudgedFrom.missing is
missed g most n told true [] is one other = absurd (other refl refl)

module _ {P H : Type 0} {h : P → Handler} {g : Game} {most : ℕ} {seen : List ℕ} {n : ℕ} {j : Judging P H} where
  -- a part of a line is kept
  kept : (part : List ℕ) (j2 : Judging P H) → IsOpen h g most seen n j → IsOneLine part → j2.reader ≡ j.reader → j2.begun.items ≡ j.begun.items ++ part → IsOpen h g most (seen ++ part) n j2
  kept part j2 so_far one reader begun = record {
    told = so_far.told;
    follows = subst (λ (r : Reader P H). Follows h g most r so_far.told) (sym reader) so_far.follows;
    one_line = subst IsOneLine (sym begun) (all_both (λ b. (b ≡ 10) → ⊥) j.begun.items part so_far.one_line one);
    judged = λ more verdict judged.
        let from = subst (λ (bytes : List ℕ). IsJudgedFrom g most n so_far.told bytes verdict) (ap (λ l. l ++ more) begun ∙ append_assoc j.begun.items part more) judged in
        subst (λ (bytes : List ℕ). IsJudged g most bytes verdict) (sym (append_assoc seen part more)) (so_far.judged (part ++ more) verdict from);
  }

  -- a line ends, and is right
  right_ended : (part : List ℕ) (j2 : Judging P H) → IsOpen h g most seen n j → IsOneLine part → IsAnswered h g most (IsRightLine g most) j.reader j2.reader (j.begun.items ++ part) (Ok true)
      → j2.begun.items ≡ [] → IsOpen h g most (seen ++ (part ++ 10 ∷ [])) (n + 1) j2
  right_ended part j2 so_far one heard begun =
      let right = heard so_far.told so_far.follows in
      let text = j.begun.items ++ part in
      let whole : IsOneLine text = all_both (λ b. (b ≡ 10) → ⊥) j.begun.items part so_far.one_line one in
      record {
        told = right.0;
        follows = right.2;
        one_line = subst IsOneLine (sym begun) tt;
        judged = λ more verdict judged.
            let next = subst (λ (bytes : List ℕ). IsJudgedFrom g most (n + 1) right.0 (bytes ++ more) verdict) begun judged in
            let from = subst (λ (bytes : List ℕ). IsJudgedFrom g most n so_far.told bytes verdict) (append_assoc j.begun.items part (10 ∷ more)) (IsJudgedFrom.right_line text more whole right.1 next) in
            subst (λ (bytes : List ℕ). IsJudged g most bytes verdict) (sym (behind seen part more)) (so_far.judged (part ++ 10 ∷ more) verdict from);
      }

  -- it is wrong
  wrong_ended : (part : List ℕ) (new : Reader P H) → IsOpen h g most seen n j → IsOneLine part → IsAnswered h g most (IsRightLine g most) j.reader new (j.begun.items ++ part) (Ok false)
      → IsWrongAt g most (seen ++ (part ++ 10 ∷ [])) n
  wrong_ended part new so_far one heard = λ decided more.
      let text = j.begun.items ++ part in
      let whole : IsOneLine text = all_both (λ b. (b ≡ 10) → ⊥) j.begun.items part so_far.one_line one in
      let from = subst (λ (bytes : List ℕ). IsJudgedFrom g most n so_far.told bytes (Wrong n)) (append_assoc j.begun.items part (10 ∷ more)) (IsJudgedFrom.wrong_line text more whole (heard decided so_far.told so_far.follows)) in
      subst (λ (bytes : List ℕ). IsJudged g most bytes (Wrong n)) (sym (behind seen part more)) (so_far.judged (part ++ 10 ∷ more) (Wrong n) from)

  ends_short : (wrong : Bool) → j.wrong ≡ wrong → (j.wrong ≡ false → IsOpen h g most seen n j) → (j.wrong ≡ true → IsWrongAt g most seen n) → (IsWhole j → ⊥) → IsDecided g.handler → IsJudged g most seen (Wrong n)
  ends_short true is so_far at other decided = subst (λ (bytes : List ℕ). IsJudged g most bytes (Wrong n)) (append-nil seen) (at is decided [])
  ends_short false is open_yet at other decided =
      let so_far = open_yet is in
      let from = missed g most n so_far.told j.reader.checker.ended j.begun.items (sym so_far.follows.knows.ended) so_far.one_line (λ ended finished. other (record { right = is; ended = ended; finished = finished })) in
      let judged = so_far.judged [] (Wrong n) (subst (λ (bytes : List ℕ). IsJudgedFrom g most n so_far.told bytes (Wrong n)) (sym (append-nil j.begun.items)) from) in
      subst (λ (bytes : List ℕ). IsJudged g most bytes (Wrong n)) (append-nil seen) judged

module _ {P H : Type 0} {h : P → Handler} {g : Game} {most : ℕ} {seen : List ℕ} {j : Judging P H} where
  -- a line that ended was right
  pub read_right : (part : List ℕ) (j2 : Judging P H) → HasRead h g most seen j → j.wrong ≡ false → j2.wrong ≡ false → IsOneLine part → IsAnswered h g most (IsRightLine g most) j.reader j2.reader (j.begun.items ++ part) (Ok true)
      → j2.line ≡ min (j.line + 1) (2 ^ 64 - 1) → j2.begun.items ≡ [] → HasRead h g most (seen ++ (part ++ 10 ∷ [])) j2
  read_right part j2 read right right2 one heard line begun = record {
    number = read.number + 1;
    few = omega (arith, read.few, length-append seen (part ++ 10 ∷ []), length-append part (10 ∷ []));
    counted = omega (arith, line, read.counted);
    open_yet = λ is. right_ended part j2 (read.open_yet right) one heard begun;
    wrong = λ is. (let differ : true ≡ false = sym is ∙ right2 in absurd cc);
  }

  -- it was wrong, and nothing more is to be read
  pub read_wrong : (part : List ℕ) (j2 : Judging P H) → HasRead h g most seen j → j.wrong ≡ false → j2.wrong ≡ true → IsOneLine part → IsAnswered h g most (IsRightLine g most) j.reader j2.reader (j.begun.items ++ part) (Ok false)
      → j2.line ≡ j.line → HasRead h g most (seen ++ (part ++ 10 ∷ [])) j2
  read_wrong part j2 read right wrong2 one heard line = record {
    number = read.number;
    few = omega (arith, read.few, length-append seen (part ++ 10 ∷ []));
    counted = line ∙ read.counted;
    open_yet = λ is. (let differ : true ≡ false = sym wrong2 ∙ is in absurd cc);
    wrong = λ is. wrong_ended part j2.reader (read.open_yet right) one heard;
  }

  -- a part of a line was read
  pub read_part : (part : List ℕ) (j2 : Judging P H) → HasRead h g most seen j → j.wrong ≡ false → IsOneLine part → j2.reader ≡ j.reader → j2.line ≡ j.line → j2.wrong ≡ j.wrong → j2.begun.items ≡ j.begun.items ++ part
      → HasRead h g most (seen ++ part) j2
  read_part part j2 read right one reader line same begun = record {
    number = read.number;
    few = omega (arith, read.few, length-append seen part);
    counted = line ∙ read.counted;
    open_yet = λ is. kept part j2 (read.open_yet right) one reader begun;
    wrong = λ is. (let differ : true ≡ false = sym is ∙ same ∙ right in absurd cc);
  }

  -- what follows a wrong line was
  pub read_past : (part : List ℕ) → HasRead h g most seen j → j.wrong ≡ true → HasRead h g most (seen ++ part) j
  read_past part read wrong = record {
    number = read.number;
    few = omega (arith, read.few, length-append seen part);
    counted = read.counted;
    open_yet = λ is. (let differ : true ≡ false = sym wrong ∙ is in absurd cc);
    wrong = λ is decided more. subst (λ (bytes : List ℕ). IsJudged g most bytes (Wrong read.number)) (sym (append_assoc seen part more)) (read.wrong is decided (part ++ more));
  }

  -- the report ends with the end line
  pub judged_right : HasRead h g most seen j → IsWhole j → IsJudgedBy g most seen Right
  judged_right read whole =
      let so_far = read.open_yet whole.right in
      let from = subst (λ (bytes : List ℕ). IsJudgedFrom g most read.number so_far.told bytes Right) (sym (append-nil j.begun.items ∙ whole.finished)) (IsJudgedFrom.right (sym so_far.follows.knows.ended ∙ whole.ended)) in
      subst (λ (bytes : List ℕ). IsJudged g most bytes Right) (append-nil seen) (so_far.judged [] Right from)

  -- or with the first wrong line, or the one that is missing
  pub judged_wrong : HasRead h g most seen j → length seen < 2 ^ 63 → (IsWhole j → ⊥) → IsJudgedBy g most seen (Wrong j.line)
  judged_wrong read few other decided =
      let line : read.number ≡ j.line = omega (arith, read.counted, read.few, few) in
      subst (λ (k : ℕ). IsJudged g most seen (Wrong k)) line (ends_short j.wrong refl read.open_yet read.wrong other decided)

-- of a piece all but the rest was read
pub record HasReadOn {P H : Type 0} (h : P → Handler) (bytes rest : List ℕ) (old new : Judging P H) : Type 0 where
  pub front : List ℕ
  pub parts : bytes ≡ front ++ rest
  pub read : (g : Game) (most : ℕ) (seen : List ℕ) → HasRead h g most seen old → HasRead h g most (seen ++ front) new

-- a line more was
pub read_on : {P H : Type 0} (h : P → Handler) (bytes rest : List ℕ) (end : ℕ) (old mid new : Judging P H) → HasReadOn h bytes rest old mid → IsCut rest end
    → ((g : Game) (most : ℕ) (seen : List ℕ) → HasRead h g most seen mid → HasRead h g most (seen ++ (take end rest ++ 10 ∷ [])) new)
    → HasReadOn h bytes (take (length rest - (end + 1)) (drop (end + 1) rest)) old new
read_on h bytes rest end old mid new so_far cut more =
    let line = take end rest ++ 10 ∷ [] in
    let parts : rest ≡ line ++ drop (end + 1) rest = cut.parts ∙ sym (append_assoc (take end rest) (10 ∷ []) (drop (end + 1) rest)) in
    record {
      front = so_far.front ++ line;
      parts = so_far.parts ∙ ap (λ (l : List ℕ). so_far.front ++ l) parts ∙ sym (append_assoc so_far.front line (drop (end + 1) rest)) ∙ ap (λ (l : List ℕ). (so_far.front ++ line) ++ l) (sym (slice_rest rest (end + 1)));
      read = λ g most seen read. subst (λ (l : List ℕ). HasRead h g most l new) (append_assoc seen so_far.front line) (more g most (seen ++ so_far.front) (so_far.read g most seen read));
    }

-- an answer to a line, where it is known
pub heard_as : {P H : Type 0} (h : P → Handler) (g : Game) (most : ℕ) (old new : Reader P H) (text : List ℕ) (r : Result Bool AllocError) (b b2 : Bool) → r ≡ Ok b → b ≡ b2 → IsAnswered h g most (IsRightLine g most) old new text r → IsAnswered h g most (IsRightLine g most) old new text (Ok b2)
heard_as h g most old new text r b b2 was is heard = subst (IsAnswered h g most (IsRightLine g most) old new text) (was ∙ ap (λ (x : Bool). Ok x) is) heard
