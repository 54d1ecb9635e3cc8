-- Steps of three workers in one order.
use Rattle.std.specs.Prelude.{List, [], ◌∷◌}

module _ {T P S : Type 0} (turn : T → T → Type 0) (patch : P → P → Type 0) (send : S → S → Type 0) (rings : T → P → S → Type 0) where
  -- one order of steps of the three, after each of which the rings are so, with the states that the steps of each led to
  pub data Woven : T → P → S → List T → List P → List S → T → P → S → Type 0 where
    done : {t : T} {p : P} {s : S} → Woven t p s [] [] [] t p s
    turns : {t t2 t3 : T} {p p3 : P} {s s3 : S} {ts : List T} {ps : List P} {ss : List S} → turn t t2 → rings t2 p s → Woven t2 p s ts ps ss t3 p3 s3 → Woven t p s (t2 ∷ ts) ps ss t3 p3 s3
    patches : {t t3 : T} {p p2 p3 : P} {s s3 : S} {ts : List T} {ps : List P} {ss : List S} → patch p p2 → rings t p2 s → Woven t p2 s ts ps ss t3 p3 s3 → Woven t p s ts (p2 ∷ ps) ss t3 p3 s3
    sends : {t t3 : T} {p p3 : P} {s s2 s3 : S} {ts : List T} {ps : List P} {ss : List S} → send s s2 → rings t p s2 → Woven t p s2 ts ps ss t3 p3 s3 → Woven t p s ts ps (s2 ∷ ss) t3 p3 s3

  -- each step keeps a fact of the three, where the rings are so before it and after it
  pub record Keeps (fact : T → P → S → Type 0) : Type 0 where
    pub turns : (t t2 : T) (p : P) (s : S) → turn t t2 → rings t p s → rings t2 p s → fact t p s → fact t2 p s
    pub patches : (t : T) (p p2 : P) (s : S) → patch p p2 → rings t p s → rings t p2 s → fact t p s → fact t p2 s
    pub sends : (t : T) (p : P) (s s2 : S) → send s s2 → rings t p s → rings t p s2 → fact t p s → fact t p s2
