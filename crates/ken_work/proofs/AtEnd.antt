-- When a node makes no more turns, by what is looked at in turn.
use Rattle.std.proofs.Common.{◌-◌, ◌<◌, ◌≤◌, ◌^◌, ◌⊎◌, length, inl, inr}
use Rattle.ken_record.specs.Spelling.{base_bytes}
use Rattle.ken_record.specs.Versions.{One}
use Rattle.ken_work.specs.declared.worker.TurnWorker.{TurnWorker}
use Rattle.ken_work.specs.Capped.{HasHigh, IsCapped, turns, numbers, generation, end, base, base_in}

module _ {D : Type 0} (w : TurnWorker D) where
  abbrev pub HasMade : Type 0
  HasMade = w.cap ≤ w.side.numbers.turns

  abbrev pub IsLast : Type 0
  IsLast = 2 ^ 32 - 1 ≤ w.side.log.header.generation

  abbrev pub IsLong : Type 0
  IsLong = 2 ^ 39 < w.side.log.end

  abbrev pub HasLargeBase : Type 0
  HasLargeBase = 2 ^ 32 ≤ length (base_bytes One (base_in w))

  abbrev pub IsAtEnd : Type 0
  IsAtEnd = (((HasMade ⊎ HasHigh w.side.numbers) ⊎ IsLast) ⊎ IsLong) ⊎ HasLargeBase

  pub at_end : IsCapped w → IsAtEnd
  at_end (turns x) = inl (inl (inl (inl x)))
  at_end (numbers x) = inl (inl (inl (inr x)))
  at_end (generation x) = inl (inl (inr x))
  at_end (end x) = inl (inr x)
  at_end (base x) = inr x

  pub capped : IsAtEnd → IsCapped w
  capped (inl (inl (inl (inl x)))) = turns x
  capped (inl (inl (inl (inr x)))) = numbers x
  capped (inl (inl (inr x))) = generation x
  capped (inl (inr x)) = end x
  capped (inr x) = base x
