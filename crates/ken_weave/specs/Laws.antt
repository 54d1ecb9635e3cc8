-- What holds of steps that three workers made side by side.
use Rattle.std.specs.Prelude.{ℕ, List}
use Rattle.ken_weave.specs.Workers.{Steps, Ends, Counts, Tells, Waits, AreFronts, IsInStep}
use Rattle.ken_weave.specs.Orders.{Woven, Keeps}

module _ {T P S K L N M : Type 0} (turn : T → T → Type 0) (patch : P → P → Type 0) (send : S → S → Type 0)
    (to_patcher : Ends T K N) (patcher : Ends P K N) (to_sender : Ends T L M) (sender : Ends S L M) where
  -- only what was pushed has left each of the four rings
  abbrev pub HaveFronts : T → P → S → Type 0
  HaveFronts t p s = AreFronts to_patcher patcher t p × AreFronts to_sender sender t s

  -- what is known of each worker's own steps, but for the handler's test
  pub record KeepRules (settled_by : N → ℕ) (told_by : M → ℕ) : Type 0 where
    pub hands_pages : Counts turn to_patcher
    pub hands_sealed : Counts turn to_sender
    pub patches : Counts patch patcher
    pub sends : Counts send sender
    pub settled : Tells patch patcher settled_by
    pub progress : Tells send sender told_by

  -- with the test, the steps that each worker made go into one order in which nothing leaves a ring before it was pushed, where
  -- that is so at the start and at the end
  abbrev pub StepsWeave : (N → ℕ) → (M → ℕ) → Type 0
  StepsWeave settled_by told_by = KeepRules settled_by told_by → Waits turn to_patcher settled_by → Waits turn to_sender told_by
      → (t t2 : T) (p p2 : P) (s s2 : S) (ts : List T) (ps : List P) (ss : List S) → Steps turn t ts t2 → Steps patch p ps p2 → Steps send s ss s2
      → IsInStep to_patcher patcher t p → IsInStep to_sender sender t s → HaveFronts t p s → HaveFronts t2 p2 s2
      → Woven turn patch send HaveFronts t p s ts ps ss t2 p2 s2

-- and a fact that each of these steps keeps holds after such an order
abbrev pub OrderKeeps : {T P S : Type 0} → (T → T → Type 0) → (P → P → Type 0) → (S → S → Type 0) → (T → P → S → Type 0) → (T → P → S → Type 0) → Type 0
OrderKeeps {T} {P} {S} turn patch send rings fact = Keeps turn patch send rings fact → (t t2 : T) (p p2 : P) (s s2 : S) (ts : List T) (ps : List P) (ss : List S) → rings t p s
    → Woven turn patch send rings t p s ts ps ss t2 p2 s2
    → fact t p s → fact t2 p2 s2
