-- Steps of which each worker knows only its own go into one order.
use Rattle.std.proofs.Common.{◌≡◌, ℕ, ◌+◌, ◌≤◌, List, [], ◌∷◌, ◌++◌, length, sym, ap, ◌∙◌, subst, arith, append_assoc, append-nil, length-append}
use Rattle.std.specs.List.{AllByRecursion}
use Rattle.ken_model.specs.History.{IsPrefixOf}
use Rattle.ken_weave.specs.Workers.{Steps, none, then, Ends, Counts, Waits, AreFronts, IsInStep}
use Rattle.ken_weave.specs.Orders.{Woven, done, turns, patches, sends}
use Rattle.ken_weave.specs.Laws.{HaveFronts, KeepRules}
use Rattle.ken_weave.proofs.Lists.{front_same, front_then, shorter, all_later}
use Rattle.ken_weave.proofs.Beside.{Early, plainly, told_grows, handed_grows, counted, all_early, catch_up}

-- a handler, and a worker beside it
module _ {T W K N : Type 0} (handler : Ends T K N) (beside : Ends W K N) where
  module _ (step : W → W → Type 0) (counts : Counts step beside) where
    pub in_step_after : (t : T) (x y : W) (ys : List W) → Steps step x ys y → IsInStep handler beside t x → IsInStep handler beside t y
    in_step_after t x y ys steps same = let here = counted step beside counts x y ys steps in omega (arith, here.1, same)

    -- the rings after a step that was handed no more than was made
    pub next_fronts : (t : T) (x y : W) (all : List K) → step x y → beside.turns y ≤ handler.turns t → IsPrefixOf (beside.handed y) all → IsPrefixOf (handler.handed t) all
        → IsInStep handler beside t x → AreFronts handler beside t x → AreFronts handler beside t y
    next_fronts t x y all one few taken made same fronts =
        let now = in_step_after t x y (y ∷ []) (then one none) same in
        record {
          handed = shorter (beside.handed y) (handler.handed t) taken.0 made.0 (sym taken.1 ∙ made.1) (omega (arith, now, few));
          told = front_then (handler.told t) (beside.told x) (beside.told y) fronts.told (counts.news x y one);
        }

    -- and after several
    pub fronts_after : (t : T) (x y : W) (ys : List W) (all : List K) → Steps (Early step beside (handler.turns t)) x ys y → IsPrefixOf (beside.handed y) all → IsPrefixOf (handler.handed t) all
        → IsInStep handler beside t x → AreFronts handler beside t x → AreFronts handler beside t y
    fronts_after t x y ys all none taken made same fronts = fronts
    fronts_after t x z zs all (then {b = y} {bs = ys} one rest) taken made same fronts =
        let grown = handed_grows step beside counts y z ys (plainly step beside (handler.turns t) y z ys rest) in
        let up_to = front_then (beside.handed y) (beside.handed z) all grown taken in
        fronts_after t y z ys all rest taken made (in_step_after t x y (y ∷ []) (then one.0 none) same) (next_fronts t x y all one.0 one.1 up_to made same fronts)

    -- in the end no more turns were handed over than were made
    pub few_in_the_end : (t : T) (x y : W) (ys : List W) → Steps step x ys y → IsInStep handler beside t x → AreFronts handler beside t y → beside.turns y ≤ handler.turns t
    few_in_the_end t x y ys steps same fronts =
        let now = in_step_after t x y ys steps same in
        let size : length (handler.handed t) ≡ length (beside.handed y) + length fronts.handed.0 = ap length fronts.handed.1 ∙ length-append (beside.handed y) fronts.handed.0 in
        omega (arith, now, size)

  module _ (turn : T → T → Type 0) (counts : Counts turn handler) where
    pub in_step_then : (t t2 : T) (x : W) → turn t t2 → IsInStep handler beside t x → IsInStep handler beside t2 x
    in_step_then t t2 x one same = let here = counted turn handler counts t t2 (t2 ∷ []) (then one none) in omega (arith, here.1, same)

    -- after a step of the handler, where what it heard was told
    pub fronts_then : (t t2 : T) (x : W) → turn t t2 → AreFronts handler beside t x → IsPrefixOf (handler.told t2) (beside.told x) → AreFronts handler beside t2 x
    fronts_then t t2 x one fronts heard = record {
      handed = front_then (beside.handed x) (handler.handed t) (handler.handed t2) fronts.handed (handed_grows turn handler counts t t2 (t2 ∷ []) (then one none));
      told = heard;
    }

    -- what the handler hears at a step stands with no more turns than it has made
    pub ripe_then : (by : N → ℕ) → Waits turn handler by → (t t2 : T) (x : W) → turn t t2 → AreFronts handler beside t x
        → (news : List N) → handler.told t2 ≡ beside.told x ++ news → AllByRecursion (λ (n : N). by n ≤ handler.turns t) news
    ripe_then by waits t t2 x one fronts news e =
        let before = fronts.told.0 in
        all_later (λ (n : N). by n ≤ handler.turns t) before news
        (waits t t2 one (before ++ news) (e ∙ ap (λ l. l ++ news) fronts.told.1 ∙ append_assoc (handler.told t) before news))

module _ {T P S K L N M : Type 0} (turn : T → T → Type 0) (patch : P → P → Type 0) (send : S → S → Type 0)
    (to_patcher : Ends T K N) (patcher : Ends P K N) (to_sender : Ends T L M) (sender : Ends S L M)
    (settled_by : N → ℕ) (told_by : M → ℕ)
    (rules : KeepRules turn patch send to_patcher patcher to_sender sender settled_by told_by)
    (waits_settled : Waits turn to_patcher settled_by) (waits_progress : Waits turn to_sender told_by) where
  abbrev Order : T → P → S → List T → List P → List S → T → P → S → Type 0
  Order = Woven turn patch send (HaveFronts turn patch send to_patcher patcher to_sender sender)

  relisted : {t t3 : T} {p p3 : P} {s s3 : S} {ts : List T} (ps qs : List P) (ss us : List S) → ps ≡ qs → ss ≡ us → Order t p s ts ps ss t3 p3 s3 → Order t p s ts qs us t3 p3 s3
  relisted {t} {t3} {p} {p3} {s} {s3} {ts} ps qs ss us e f order =
      subst (λ l. Order t p s ts qs l t3 p3 s3) f (subst (λ l. Order t p s ts l ss t3 p3 s3) e order)

  patches_first : (t t3 : T) (p p2 p3 : P) (s s3 : S) (ts : List T) (xs ps : List P) (ss : List S) (all : List K) → Steps (Early patch patcher (to_patcher.turns t)) p xs p2
      → IsPrefixOf (patcher.handed p2) all → IsPrefixOf (to_patcher.handed t) all → IsInStep to_patcher patcher t p
      → AreFronts to_patcher patcher t p → AreFronts to_sender sender t s → Order t p2 s ts ps ss t3 p3 s3 → Order t p s ts (xs ++ ps) ss t3 p3 s3
  patches_first t t3 p p2 p3 s s3 ts xs ps ss all none taken made same fronts others order = order
  patches_first t t3 p p2 p3 s s3 ts xs ps ss all (then {b = mid} {bs = mids} one rest) taken made same fronts others order =
      let next = fronts_after to_patcher patcher patch rules.patches t p mid (mid ∷ []) all (then one none)
      (front_then (patcher.handed mid) (patcher.handed p2) all (handed_grows patch patcher rules.patches mid p2 mids (plainly patch patcher (to_patcher.turns t) mid p2 mids rest)) taken) made same fronts in
      patches one.0 (next, others)
      (patches_first t t3 mid p2 p3 s s3 ts mids ps ss all rest taken made (in_step_after to_patcher patcher patch rules.patches t p mid (mid ∷ []) (then one.0 none) same) next others order)

  sends_first : (t t3 : T) (p p3 : P) (s s2 s3 : S) (ts : List T) (ps : List P) (xs ss : List S) (all : List L) → Steps (Early send sender (to_sender.turns t)) s xs s2
      → IsPrefixOf (sender.handed s2) all → IsPrefixOf (to_sender.handed t) all → IsInStep to_sender sender t s
      → AreFronts to_sender sender t s → AreFronts to_patcher patcher t p → Order t p s2 ts ps ss t3 p3 s3 → Order t p s ts ps (xs ++ ss) t3 p3 s3
  sends_first t t3 p p3 s s2 s3 ts ps xs ss all none taken made same fronts others order = order
  sends_first t t3 p p3 s s2 s3 ts ps xs ss all (then {b = mid} {bs = mids} one rest) taken made same fronts others order =
      let next = fronts_after to_sender sender send rules.sends t s mid (mid ∷ []) all (then one none)
      (front_then (sender.handed mid) (sender.handed s2) all (handed_grows send sender rules.sends mid s2 mids (plainly send sender (to_sender.turns t) mid s2 mids rest)) taken) made same fronts in
      sends one.0 (others, next)
      (sends_first t t3 p p3 mid s2 s3 ts ps mids ss all rest taken made (in_step_after to_sender sender send rules.sends t s mid (mid ∷ []) (then one.0 none) same) next others order)

  pub woven : (t t3 : T) (p p3 : P) (s s3 : S) (ts : List T) (ps : List P) (ss : List S) → Steps turn t ts t3 → Steps patch p ps p3 → Steps send s ss s3
      → IsInStep to_patcher patcher t p → IsInStep to_sender sender t s
      → HaveFronts turn patch send to_patcher patcher to_sender sender t p s → HaveFronts turn patch send to_patcher patcher to_sender sender t3 p3 s3
      → Order t p s ts ps ss t3 p3 s3
  woven t t3 p p3 s s3 ts ps ss none by_p by_s same_p same_s starts stops =
      relisted (ps ++ []) ps (ss ++ []) ss (append-nil ps) (append-nil ss)
      (patches_first t t p p3 p3 s s3 [] ps [] (ss ++ []) (to_patcher.handed t)
      (all_early patch patcher rules.patches (to_patcher.turns t) p p3 ps by_p (few_in_the_end to_patcher patcher patch rules.patches t p p3 ps by_p same_p stops.0))
      stops.0.handed (front_same (to_patcher.handed t)) same_p starts.0 starts.1
      (sends_first t t p3 p3 s s3 s3 [] [] ss [] (to_sender.handed t)
      (all_early send sender rules.sends (to_sender.turns t) s s3 ss by_s (few_in_the_end to_sender sender send rules.sends t s s3 ss by_s same_s stops.1))
      stops.1.handed (front_same (to_sender.handed t)) same_s starts.1 stops.0 done))
  woven t t3 p p3 s s3 ts ps ss (then {b = t2} {bs = later} one rest) by_p by_s same_p same_s starts stops =
      let caught_p = catch_up patch patcher rules.patches settled_by rules.settled (to_patcher.turns t) p p3 ps by_p (to_patcher.told t2)
      (front_then (to_patcher.told t2) (to_patcher.told t3) (patcher.told p3) (told_grows turn to_patcher rules.hands_pages t2 t3 later rest) stops.0.told)
      (ripe_then to_patcher patcher turn rules.hands_pages settled_by waits_settled t t2 p one starts.0) in
      let caught_s = catch_up send sender rules.sends told_by rules.progress (to_sender.turns t) s s3 ss by_s (to_sender.told t2)
      (front_then (to_sender.told t2) (to_sender.told t3) (sender.told s3) (told_grows turn to_sender rules.hands_sealed t2 t3 later rest) stops.1.told)
      (ripe_then to_sender sender turn rules.hands_sealed told_by waits_progress t t2 s one starts.1) in
      let p2 = caught_p.at in
      let s2 = caught_s.at in
      let taken_p = front_then (patcher.handed p2) (patcher.handed p3) (to_patcher.handed t3) (handed_grows patch patcher rules.patches p2 p3 caught_p.after caught_p.rest) stops.0.handed in
      let taken_s = front_then (sender.handed s2) (sender.handed s3) (to_sender.handed t3) (handed_grows send sender rules.sends s2 s3 caught_s.after caught_s.rest) stops.1.handed in
      let made_p = handed_grows turn to_patcher rules.hands_pages t t3 (t2 ∷ later) (then one rest) in
      let made_s = handed_grows turn to_sender rules.hands_sealed t t3 (t2 ∷ later) (then one rest) in
      let fronts_p = fronts_after to_patcher patcher patch rules.patches t p p2 caught_p.before (to_patcher.handed t3) caught_p.early taken_p made_p same_p starts.0 in
      let fronts_s = fronts_after to_sender sender send rules.sends t s s2 caught_s.before (to_sender.handed t3) caught_s.early taken_s made_s same_s starts.1 in
      let next_p = fronts_then to_patcher patcher turn rules.hands_pages t t2 p2 one fronts_p caught_p.enough in
      let next_s = fronts_then to_sender sender turn rules.hands_sealed t t2 s2 one fronts_s caught_s.enough in
      let still_p = in_step_after to_patcher patcher patch rules.patches t p p2 caught_p.before (plainly patch patcher (to_patcher.turns t) p p2 caught_p.before caught_p.early) same_p in
      let still_s = in_step_after to_sender sender send rules.sends t s s2 caught_s.before (plainly send sender (to_sender.turns t) s s2 caught_s.before caught_s.early) same_s in
      relisted (caught_p.before ++ caught_p.after) ps (caught_s.before ++ caught_s.after) ss caught_p.all caught_s.all
      (patches_first t t3 p p2 p3 s s3 (t2 ∷ later) caught_p.before caught_p.after (caught_s.before ++ caught_s.after) (to_patcher.handed t3) caught_p.early taken_p made_p same_p starts.0 starts.1
      (sends_first t t3 p2 p3 s s2 s3 (t2 ∷ later) caught_p.after caught_s.before caught_s.after (to_sender.handed t3) caught_s.early taken_s made_s same_s starts.1 fronts_p
      (turns one (next_p, next_s)
      (woven t2 t3 p2 p3 s2 s3 later caught_p.after caught_s.after rest caught_p.rest caught_s.rest
      (in_step_then to_patcher patcher turn rules.hands_pages t t2 p2 one still_p)
      (in_step_then to_sender sender turn rules.hands_sealed t t2 s2 one still_s)
      (next_p, next_s) stops))))
