-- What a worker made at its seat, as what it made by itself.
use Rattle.std.proofs.Common.{ℕ, List, [], ◌∷◌, length, map, Option, None, Some, sym, subst, ap}
use Rattle.std.proofs.lemmas.List.{length-map}
use Rattle.ken_ship.specs.declared.faults.NodeFault.{NodeFault}
use Rattle.ken_weave.specs.Workers.{Steps, none, then}
use Rattle.ken_threads.specs.Ran.{EndsBy, Ran}

module _ {W V : Type 0} (of : W → V) (keeps : W → Type 0) (step : W → W → Type 0) (step2 : V → V → Type 0)
    (each : (a b : W) → keeps a → step a b → keeps b × step2 (of a) (of b)) where
  mapped-steps : (a b : W) (bs : List W) → keeps a → Steps step a bs b → Steps step2 (of a) (map of bs) (of b)
  mapped-steps a _ [] kept none = none
  mapped-steps a c (b ∷ bs) kept (then one rest) = let goes = each a b kept one in then goes.1 (mapped-steps b c bs goes.0 rest)

  mapped-keeps : (a b : W) (bs : List W) → keeps a → Steps step a bs b → keeps b
  mapped-keeps a _ [] kept none = kept
  mapped-keeps a c (b ∷ bs) kept (then one rest) = mapped-keeps b c bs (each a b kept one).0 rest

  module _ (fails : NodeFault → W → W → Type 0) (fails2 : NodeFault → V → V → Type 0) (each_fault : (fault : NodeFault) (a b : W) → keeps a → fails fault a b → fails2 fault (of a) (of b)) where
    mapped-end : (count : ℕ) (mid new : W) (fault : Option NodeFault) → keeps mid → EndsBy fails count mid new fault → EndsBy fails2 count (of mid) (of new) fault
    mapped-end count mid new None kept ends = (ends.0, ap of ends.1)
    mapped-end count mid new (Some fault) kept ends = (ends.0, each_fault fault mid new kept ends.1)

    pub mapped-ran : (a b : W) (fault : Option NodeFault) → keeps a → Ran step fails a b fault → Ran step2 fails2 (of a) (of b) fault
    mapped-ran a b fault kept ran = record {
      states = map of ran.states;
      mid = of ran.mid;
      made = mapped-steps a ran.mid ran.states kept ran.made;
      ends =
          subst (λ (n : ℕ). EndsBy fails2 n (of ran.mid) (of b) fault) (sym (length-map ran.states of))
          (mapped-end (length ran.states) ran.mid b fault (mapped-keeps a ran.mid ran.states kept ran.made) ran.ends);
    }
