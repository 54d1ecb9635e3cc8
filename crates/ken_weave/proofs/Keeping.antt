-- What each step of an order keeps.
use Rattle.std.proofs.Common.{List}
use Rattle.ken_weave.specs.Orders.{Woven, done, turns, patches, sends, Keeps}

module _ {T P S : Type 0} (turn : T → T → Type 0) (patch : P → P → Type 0) (send : S → S → Type 0) (rings fact : T → P → S → Type 0) (keeps : Keeps turn patch send rings fact) where
  pub kept : (t t2 : T) (p p2 : P) (s s2 : S) (ts : List T) (ps : List P) (ss : List S) → rings t p s → Woven turn patch send rings t p s ts ps ss t2 p2 s2 → fact t p s → fact t2 p2 s2
  kept t t2 p p2 s s2 ts ps ss are done holds = holds
  kept t t3 p p3 s s3 ts ps ss are (turns {t2 = t2} {ts = later} one now rest) holds = kept t2 t3 p p3 s s3 later ps ss now rest (keeps.turns t t2 p s one are now holds)
  kept t t3 p p3 s s3 ts ps ss are (patches {p2 = p2} {ps = later} one now rest) holds = kept t t3 p2 p3 s s3 ts later ss now rest (keeps.patches t p p2 s one are now holds)
  kept t t3 p p3 s s3 ts ps ss are (sends {s2 = s2} {ss = later} one now rest) holds = kept t t3 p p3 s2 s3 ts ps later now rest (keeps.sends t p s s2 one are now holds)
