-- What a contract sees of the two ends of a ring.
use Rattle.std.specs.Prelude.{◌≡◌, ℕ, List, ◌++◌}
use Rattle.rtrb.specs.Ring.{sent, known_free, received, known_items, IsPair, SameProducer, SameConsumer}
use Rattle.ken_links.specs.declared.push_end.PushEnd.{PushEnd}
use Rattle.ken_links.specs.declared.pop_end.PopEnd.{PopEnd}

module _ {T : Type 0} where
  -- every item that was ever pushed, oldest first
  abbrev pub pushed : PushEnd T → List T
  pushed e = sent e.producer

  -- how many slots the pushing end knows to be free
  abbrev pub free : PushEnd T → ℕ
  free e = known_free e.producer

  -- every item that was ever popped, oldest first
  abbrev pub popped : PopEnd T → List T
  popped e = received e.consumer

  -- the items in the ring that the popping end has seen, oldest first
  abbrev pub known : PopEnd T → List T
  known e = known_items e.consumer

  -- how many pops gave nothing
  abbrev pub nones : PopEnd T → ℕ
  nones e = e.nones

  -- the two ends of one ring
  abbrev pub IsRing : PushEnd T → PopEnd T → Type 0
  IsRing push pop = IsPair push.producer pop.consumer

  -- the same end of the same ring
  abbrev pub SamePushEnd : PushEnd T → PushEnd T → Type 0
  SamePushEnd a b = SameProducer a.producer b.producer

  abbrev pub SamePopEnd : PopEnd T → PopEnd T → Type 0
  SamePopEnd a b = SameConsumer a.consumer b.consumer

  -- the same items have left the ring and come to the end of a list
  abbrev pub Moves : List T → List T → List T → List T → Type 0
  Moves popped_before popped_now list_before list_now = (moved : List T) × (popped_now ≡ popped_before ++ moved) × (list_now ≡ list_before ++ moved)
