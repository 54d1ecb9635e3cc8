use Rattle.std.proofs.Common.{◌-◌, ◌^◌, ◌⊎◌, Bool, leb, ltb, eqb, not, length, refl, arith}
use Rattle.std.specs.Prelude.{◌↔◌, IsTrue}
use Rattle.std.proofs.lemmas.Bool.{lt-leb}
use Rattle.ken_record.specs.Spelling.{base_bytes}
use Rattle.ken_record.specs.Versions.{One}
use Rattle.ken_work.specs.Capped.{HasHigh, IsCapped, base_in}
use Rattle.ken_work.proofs.AtEnd.{HasMade, IsLast, IsLong, HasLargeBase, IsAtEnd, at_end, capped}
use Rattle.ken_work.proofs.Either.{either_first, either_second, also_is, reads_least, reads_above, reads_last, reads_past}
use Rattle.ken_work.proofs.worker.TurnWorker.is_capped.Goals as goal
use Rattle.ken_work.proofs.worker.TurnWorker.is_capped.Goals.{then-turns-self, else-turns-self, then-has_high, else-has_high, then-generation, else-generation}

pub returns-then-log_end-gt-LOG_END : goal.returns-then-log_end-gt-LOG_END
returns-then-log_end-gt-LOG_END g c =
    let w = c.args.self.now in
    let first : Bool = leb w.cap c.turns.result in
    let made : IsTrue first ↔ HasMade w = reads_least w.cap c.turns.result w.side.numbers.turns c.turns.ensures in
    let one : IsTrue c.if-turns-self.value ↔ (HasMade w ⊎ HasHigh w.side.numbers) = elim c.if-turns-self.branch [
      | then-turns-self b ↦ either_first first c.if-turns-self.value (HasMade w) (HasHigh w.side.numbers) (made.1 (omega arith)) b.value-is made
      | else-turns-self b ↦ either_second first b.has_high.result c.if-turns-self.value (HasMade w) (HasHigh w.side.numbers) (lt-leb w.cap c.turns.result b.if-turns-self.false) b.value-is made b.has_high.ensures
    ] in
    let two : IsTrue c.if-has_high.value ↔ ((HasMade w ⊎ HasHigh w.side.numbers) ⊎ IsLast w) = elim c.if-has_high.branch [
      | then-has_high b ↦ either_first c.if-turns-self.value c.if-has_high.value (HasMade w ⊎ HasHigh w.side.numbers) (IsLast w) b.if-has_high.true b.value-is one
      | else-has_high b ↦ either_second c.if-turns-self.value (eqb b.generation.result (2 ^ 32 - 1)) c.if-has_high.value (HasMade w ⊎ HasHigh w.side.numbers) (IsLast w) b.if-has_high.false b.value-is one (reads_last (2 ^ 32 - 1) b.generation.result w.side.log.header.generation b.generation.ensures (omega arith))
    ] in
    let three : IsTrue c.if-generation.value ↔ (((HasMade w ⊎ HasHigh w.side.numbers) ⊎ IsLast w) ⊎ IsLong w) = elim c.if-generation.branch [
      | then-generation b ↦ either_first c.if-has_high.value c.if-generation.value ((HasMade w ⊎ HasHigh w.side.numbers) ⊎ IsLast w) (IsLong w) b.if-generation.true b.value-is two
      | else-generation b ↦ either_second c.if-has_high.value (ltb (2 ^ 39) b.log_end.result) c.if-generation.value ((HasMade w ⊎ HasHigh w.side.numbers) ⊎ IsLast w) (IsLong w) b.if-generation.false b.value-is two (reads_above (2 ^ 39) b.log_end.result w.side.log.end b.log_end.ensures)
    ] in
    let all = either_first c.if-generation.value c.if-generation.value (((HasMade w ⊎ HasHigh w.side.numbers) ⊎ IsLast w) ⊎ IsLong w) (HasLargeBase w) c.if-log_end-gt-LOG_END.true refl three in
    also_is c.if-generation.value (IsAtEnd w) (IsCapped w) all (capped w) (at_end w)

pub returns-else-log_end-gt-LOG_END : goal.returns-else-log_end-gt-LOG_END
returns-else-log_end-gt-LOG_END g c =
    let w = c.args.self.now in
    let first : Bool = leb w.cap c.turns.result in
    let made : IsTrue first ↔ HasMade w = reads_least w.cap c.turns.result w.side.numbers.turns c.turns.ensures in
    let one : IsTrue c.if-turns-self.value ↔ (HasMade w ⊎ HasHigh w.side.numbers) = elim c.if-turns-self.branch [
      | then-turns-self b ↦ either_first first c.if-turns-self.value (HasMade w) (HasHigh w.side.numbers) (made.1 (omega arith)) b.value-is made
      | else-turns-self b ↦ either_second first b.has_high.result c.if-turns-self.value (HasMade w) (HasHigh w.side.numbers) (lt-leb w.cap c.turns.result b.if-turns-self.false) b.value-is made b.has_high.ensures
    ] in
    let two : IsTrue c.if-has_high.value ↔ ((HasMade w ⊎ HasHigh w.side.numbers) ⊎ IsLast w) = elim c.if-has_high.branch [
      | then-has_high b ↦ either_first c.if-turns-self.value c.if-has_high.value (HasMade w ⊎ HasHigh w.side.numbers) (IsLast w) b.if-has_high.true b.value-is one
      | else-has_high b ↦ either_second c.if-turns-self.value (eqb b.generation.result (2 ^ 32 - 1)) c.if-has_high.value (HasMade w ⊎ HasHigh w.side.numbers) (IsLast w) b.if-has_high.false b.value-is one (reads_last (2 ^ 32 - 1) b.generation.result w.side.log.header.generation b.generation.ensures (omega arith))
    ] in
    let three : IsTrue c.if-generation.value ↔ (((HasMade w ⊎ HasHigh w.side.numbers) ⊎ IsLast w) ⊎ IsLong w) = elim c.if-generation.branch [
      | then-generation b ↦ either_first c.if-has_high.value c.if-generation.value ((HasMade w ⊎ HasHigh w.side.numbers) ⊎ IsLast w) (IsLong w) b.if-generation.true b.value-is two
      | else-generation b ↦ either_second c.if-has_high.value (ltb (2 ^ 39) b.log_end.result) c.if-generation.value ((HasMade w ⊎ HasHigh w.side.numbers) ⊎ IsLast w) (IsLong w) b.if-generation.false b.value-is two (reads_above (2 ^ 39) b.log_end.result w.side.log.end b.log_end.ensures)
    ] in
    let fits : Bool = c.base_fits.result in
    let large : IsTrue (not fits) ↔ HasLargeBase w = reads_past fits (length (base_bytes One (base_in w))) (2 ^ 32) c.base_fits.ensures in
    let all = either_second c.if-generation.value (not fits) (not fits) (((HasMade w ⊎ HasHigh w.side.numbers) ⊎ IsLast w) ⊎ IsLong w) (HasLargeBase w) c.if-log_end-gt-LOG_END.false refl three large in
    also_is (not fits) (IsAtEnd w) (IsCapped w) all (capped w) (at_end w)
