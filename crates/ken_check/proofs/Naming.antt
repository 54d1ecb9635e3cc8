-- A right line is of the kind that its first word names.
use Rattle.std.proofs.Common.{◌≡◌, ℕ, List, [], ◌∷◌, ◌++◌, ◌==◌, Bool, true, false, Result, Ok, codes, None, Some, slice_get, Option, bytes_eq, refl, sym, ap, subst, ◌∙◌, rules}
use Rattle.std.specs.declared.alloc.AllocError.{AllocError}
use Rattle.std.specs.List.{AllByRecursion, join_with_byte}
use Rattle.std.proofs.lemmas.List.{append_cancel_right}
use Rattle.std.proofs.lemmas.Slice.Eq.{bytes_eq-Decides}
use Rattle.std.proofs.lemmas.List.Splits.{slice_split_none}
use Rattle.std.proofs.lemmas.List.Elements.{All-from_recursion}
use Rattle.ken_model.specs.declared.reports.Ending.TheVariants.{Settled, Cut}
use Rattle.ken_model.specs.Game.{Game}
use Rattle.ken_model.specs.Handler.{Handler}
use Rattle.ken_model.specs.Report.{line}
use Rattle.ken_model.specs.Spelling.{parts_at}
use Rattle.ken_model.proofs.Parts.{IsFree, parts_at-append}
use Rattle.ken_check.specs.declared.reader.Reader.{Reader}
use Rattle.ken_check.specs.Kinds.{IsEmissionLine, IsEndLine, IsHeapLine, IsRestartLine, IsTurnLine}
use Rattle.ken_check.specs.Knowing.{IsAnswered, IsHeard}
use Rattle.ken_check.specs.Right.{IsRightLine, Told}
use Rattle.ken_check.proofs.Hearing.{answered_as, answered_beside}

-- the text of a line of words
pub text_of_line : (text : List ℕ) (words : List (List ℕ)) → text ++ 10 ∷ [] ≡ line words → text ≡ join_with_byte 32 words
unfolding line
text_of_line text words is = append_cancel_right text (join_with_byte 32 words) (10 ∷ []) is

first_part : (word : List ℕ) (words : List (List ℕ)) → IsFree 32 word → slice_get (parts_at 32 (join_with_byte 32 (word ∷ words))) 0 ≡ Some word
first_part word [] free = ap (λ parts. slice_get parts 0) (slice_split_none (λ b. b == 32) word free)
first_part word (v ∷ words) free = ap (λ parts. slice_get parts 0) (parts_at-append 32 word (join_with_byte 32 (v ∷ words)) free)

-- the first word of a line
pub first_word : (text word : List ℕ) (words : List (List ℕ)) → IsFree 32 word → text ++ 10 ∷ [] ≡ line (word ∷ words) → slice_get (parts_at 32 text) 0 ≡ Some word
first_word text word words free is = ap (λ t. slice_get (parts_at 32 t) 0) (text_of_line text (word ∷ words) is) ∙ first_part word words free

-- what a right line is, by its first word
data IsNamed (g : Game) (most : ℕ) (told : Told) (text : List ℕ) (told2 : Told) : Type 0 where
  of_turn : slice_get (parts_at 32 text) 0 ≡ Some (codes "turn") → IsTurnLine g told (text ++ 10 ∷ []) told2 → IsNamed g most told text told2
  of_emission : slice_get (parts_at 32 text) 0 ≡ Some (codes "emit") → IsEmissionLine g told (text ++ 10 ∷ []) told2 → IsNamed g most told text told2
  of_restart : slice_get (parts_at 32 text) 0 ≡ Some (codes "restart") → IsRestartLine g most told (text ++ 10 ∷ []) told2 → IsNamed g most told text told2
  of_heap : slice_get (parts_at 32 text) 0 ≡ Some (codes "heap") → IsHeapLine g told (text ++ 10 ∷ []) told2 → IsNamed g most told text told2
  of_end : slice_get (parts_at 32 text) 0 ≡ Some (codes "end") → IsEndLine g told (text ++ 10 ∷ []) told2 → IsNamed g most told text told2

free_word : (word : List ℕ) → AllByRecursion (λ b. (b == 32) ≡ false) word → IsFree 32 word
free_word word free = All-from_recursion (λ b. (b == 32) ≡ false) word free

named : (g : Game) (most : ℕ) (told : Told) (text bytes : List ℕ) (told2 : Told) → text ++ 10 ∷ [] ≡ bytes → IsRightLine g most told bytes told2 → IsNamed g most told text told2
named g most told text _ _ is (IsRightLine.turn s t comes legal made printable) = IsNamed.of_turn (first_word text _ _ (free_word (codes "turn") (search rules)) is) (record { step = s; turn = t; comes = comes; legal = legal; made = made; printable = printable; text = is; tells = refl })
named g most told text _ _ is (IsRightLine.emission e comes so_far printable) = IsNamed.of_emission (first_word text _ _ (free_word (codes "emit") (search rules)) is) (record { emission = e; comes = comes; so_far = so_far; printable = printable; text = is; tells = refl })
named g most told text _ _ is (IsRightLine.restart r comes so_far printable) = IsNamed.of_restart (first_word text _ _ (free_word (codes "restart") (search rules)) is) (record { restart = r; comes = comes; so_far = so_far; printable = printable; text = is; tells = refl })
named g most told text _ _ is (IsRightLine.heap comes known) = IsNamed.of_heap (first_word text _ _ (free_word (codes "heap") (search rules)) is) (record { comes = comes; known = known; text = is; tells = refl })
named g most told text _ _ is (IsRightLine.ends Settled comes heaps ends) = IsNamed.of_end (first_word text _ _ (free_word (codes "end") (search rules)) is) (record { ending = Settled; comes = comes; heaps = heaps; ends = ends; text = is; tells = refl })
named g most told text _ _ is (IsRightLine.ends Cut comes heaps ends) = IsNamed.of_end (first_word text _ _ (free_word (codes "end") (search rules)) is) (record { ending = Cut; comes = comes; heaps = heaps; ends = ends; text = is; tells = refl })

other_word : {o : Option (List ℕ)} {a b : List ℕ} → (bytes_eq a b ≡ false) → o ≡ Some a → o ≡ Some b → ⊥
other_word {o} {a} {b} differ is also =
    let same : a ≡ b = cc in
    let yes : true ≡ false = sym ((bytes_eq-Decides a b).1 same) ∙ differ in
    absurd cc

module _ {g : Game} {most : ℕ} {told : Told} {text : List ℕ} {told2 : Told} where
  turn_named : slice_get (parts_at 32 text) 0 ≡ Some (codes "turn") → IsNamed g most told text told2 → IsTurnLine g told (text ++ 10 ∷ []) told2
  turn_named word (IsNamed.of_turn w l) = l
  turn_named word (IsNamed.of_emission w l) = absurd (other_word refl word w)
  turn_named word (IsNamed.of_restart w l) = absurd (other_word refl word w)
  turn_named word (IsNamed.of_heap w l) = absurd (other_word refl word w)
  turn_named word (IsNamed.of_end w l) = absurd (other_word refl word w)

  emission_named : slice_get (parts_at 32 text) 0 ≡ Some (codes "emit") → IsNamed g most told text told2 → IsEmissionLine g told (text ++ 10 ∷ []) told2
  emission_named word (IsNamed.of_turn w l) = absurd (other_word refl word w)
  emission_named word (IsNamed.of_emission w l) = l
  emission_named word (IsNamed.of_restart w l) = absurd (other_word refl word w)
  emission_named word (IsNamed.of_heap w l) = absurd (other_word refl word w)
  emission_named word (IsNamed.of_end w l) = absurd (other_word refl word w)

  restart_named : slice_get (parts_at 32 text) 0 ≡ Some (codes "restart") → IsNamed g most told text told2 → IsRestartLine g most told (text ++ 10 ∷ []) told2
  restart_named word (IsNamed.of_turn w l) = absurd (other_word refl word w)
  restart_named word (IsNamed.of_emission w l) = absurd (other_word refl word w)
  restart_named word (IsNamed.of_restart w l) = l
  restart_named word (IsNamed.of_heap w l) = absurd (other_word refl word w)
  restart_named word (IsNamed.of_end w l) = absurd (other_word refl word w)

  heap_named : slice_get (parts_at 32 text) 0 ≡ Some (codes "heap") → IsNamed g most told text told2 → IsHeapLine g told (text ++ 10 ∷ []) told2
  heap_named word (IsNamed.of_turn w l) = absurd (other_word refl word w)
  heap_named word (IsNamed.of_emission w l) = absurd (other_word refl word w)
  heap_named word (IsNamed.of_restart w l) = absurd (other_word refl word w)
  heap_named word (IsNamed.of_heap w l) = l
  heap_named word (IsNamed.of_end w l) = absurd (other_word refl word w)

  end_named : slice_get (parts_at 32 text) 0 ≡ Some (codes "end") → IsNamed g most told text told2 → IsEndLine g told (text ++ 10 ∷ []) told2
  end_named word (IsNamed.of_turn w l) = absurd (other_word refl word w)
  end_named word (IsNamed.of_emission w l) = absurd (other_word refl word w)
  end_named word (IsNamed.of_restart w l) = absurd (other_word refl word w)
  end_named word (IsNamed.of_heap w l) = absurd (other_word refl word w)
  end_named word (IsNamed.of_end w l) = l

as_right : {g : Game} {most : ℕ} {told : Told} {b b2 : List ℕ} {t t2 : Told} → b ≡ b2 → t ≡ t2 → IsRightLine g most told b2 t2 → IsRightLine g most told b t
as_right {g} {most} {told} {b2 = b2} {t = t} text tells right = subst (λ x. IsRightLine g most told x t) (sym text) (subst (λ x. IsRightLine g most told b2 x) (sym tells) right)

-- a line of a kind is right
turn_is_right : (g : Game) (most : ℕ) (told : Told) (bytes : List ℕ) (told2 : Told) → IsTurnLine g told bytes told2 → IsRightLine g most told bytes told2
turn_is_right g most told bytes told2 l = as_right l.text l.tells (IsRightLine.turn l.step l.turn l.comes l.legal l.made l.printable)

emission_is_right : (g : Game) (most : ℕ) (told : Told) (bytes : List ℕ) (told2 : Told) → IsEmissionLine g told bytes told2 → IsRightLine g most told bytes told2
emission_is_right g most told bytes told2 l = as_right l.text l.tells (IsRightLine.emission l.emission l.comes l.so_far l.printable)

restart_is_right : (g : Game) (most : ℕ) (told : Told) (bytes : List ℕ) (told2 : Told) → IsRestartLine g most told bytes told2 → IsRightLine g most told bytes told2
restart_is_right g most told bytes told2 l = as_right l.text l.tells (IsRightLine.restart l.restart l.comes l.so_far l.printable)

heap_is_right : (g : Game) (most : ℕ) (told : Told) (bytes : List ℕ) (told2 : Told) → IsHeapLine g told bytes told2 → IsRightLine g most told bytes told2
heap_is_right g most told bytes told2 l = as_right l.text l.tells (IsRightLine.heap l.comes l.known)

end_is_right : (g : Game) (most : ℕ) (told : Told) (bytes : List ℕ) (told2 : Told) → IsEndLine g told bytes told2 → IsRightLine g most told bytes told2
end_is_right g most told bytes told2 l = as_right l.text l.tells (IsRightLine.ends l.ending l.comes l.heaps l.ends)

module _ {A H : Type 0} (h : A → Handler) (g : Game) (most : ℕ) (old new : Reader A H) (text : List ℕ) (r : Result Bool AllocError) where
  pub heard_turn : slice_get (parts_at 32 text) 0 ≡ Some (codes "turn") → IsAnswered h g most (IsTurnLine g) old new text r → IsAnswered h g most (IsRightLine g most) old new text r
  heard_turn word = answered_as h g most (IsTurnLine g) (IsRightLine g most) old new text r (λ told told2 l. turn_is_right g most told _ told2 l) (λ told told2 follows l. turn_named word (named g most told text _ told2 refl l))

  pub heard_emission : slice_get (parts_at 32 text) 0 ≡ Some (codes "emit") → new.actors ≡ old.actors → IsHeard g most (IsEmissionLine g) old.checker new.checker text r → IsAnswered h g most (IsRightLine g most) old new text r
  heard_emission word same = answered_beside h g most (IsEmissionLine g) (IsRightLine g most) old new text r same (λ told told2 l. (emission_is_right g most told _ told2 l, ap (λ (t : Told). t.schedule) l.tells)) (λ told told2 l. emission_named word (named g most told text _ told2 refl l))

  pub heard_restart : slice_get (parts_at 32 text) 0 ≡ Some (codes "restart") → new.actors ≡ old.actors → IsHeard g most (IsRestartLine g most) old.checker new.checker text r → IsAnswered h g most (IsRightLine g most) old new text r
  heard_restart word same = answered_beside h g most (IsRestartLine g most) (IsRightLine g most) old new text r same (λ told told2 l. (restart_is_right g most told _ told2 l, ap (λ (t : Told). t.schedule) l.tells)) (λ told told2 l. restart_named word (named g most told text _ told2 refl l))

  pub heard_heap : slice_get (parts_at 32 text) 0 ≡ Some (codes "heap") → IsAnswered h g most (IsHeapLine g) old new text r → IsAnswered h g most (IsRightLine g most) old new text r
  heard_heap word = answered_as h g most (IsHeapLine g) (IsRightLine g most) old new text r (λ told told2 l. heap_is_right g most told _ told2 l) (λ told told2 follows l. heap_named word (named g most told text _ told2 refl l))

  pub heard_end : slice_get (parts_at 32 text) 0 ≡ Some (codes "end") → new.actors ≡ old.actors → IsHeard g most (IsEndLine g) old.checker new.checker text r → IsAnswered h g most (IsRightLine g most) old new text r
  heard_end word same = answered_beside h g most (IsEndLine g) (IsRightLine g most) old new text r same (λ told told2 l. (end_is_right g most told _ told2 l, ap (λ (t : Told). t.schedule) l.tells)) (λ told told2 l. end_named word (named g most told text _ told2 refl l))

-- a line of no kind isn't right
no_named : {g : Game} {most : ℕ} {told : Told} {text : List ℕ} {told2 : Told} → (slice_get (parts_at 32 text) 0 ≡ Some (codes "turn") → ⊥) → (slice_get (parts_at 32 text) 0 ≡ Some (codes "emit") → ⊥) → (slice_get (parts_at 32 text) 0 ≡ Some (codes "restart") → ⊥) → (slice_get (parts_at 32 text) 0 ≡ Some (codes "heap") → ⊥) → (slice_get (parts_at 32 text) 0 ≡ Some (codes "end") → ⊥) → IsNamed g most told text told2 → ⊥
no_named t e r h n (IsNamed.of_turn w l) = t w
no_named t e r h n (IsNamed.of_emission w l) = e w
no_named t e r h n (IsNamed.of_restart w l) = r w
no_named t e r h n (IsNamed.of_heap w l) = h w
no_named t e r h n (IsNamed.of_end w l) = n w

pub heard_none : {A H : Type 0} (h : A → Handler) (g : Game) (most : ℕ) (old new : Reader A H) (text : List ℕ) → (slice_get (parts_at 32 text) 0 ≡ Some (codes "turn") → ⊥) → (slice_get (parts_at 32 text) 0 ≡ Some (codes "emit") → ⊥) → (slice_get (parts_at 32 text) 0 ≡ Some (codes "restart") → ⊥) → (slice_get (parts_at 32 text) 0 ≡ Some (codes "heap") → ⊥) → (slice_get (parts_at 32 text) 0 ≡ Some (codes "end") → ⊥) → IsAnswered h g most (IsRightLine g most) old new text (Ok false)
heard_none h g most old new text t e r hp n = λ decided told follows told2 l. no_named t e r hp n (named g most told text _ told2 refl l)

-- a word that was tested, where it is that one and where it isn't
pub tested_word : (o : Option (List ℕ)) (w out word : List ℕ) (b : Bool) → Some w ≡ o → out ≡ word → b ≡ bytes_eq w out → b ≡ true → o ≡ Some word
tested_word o w out word b at is test tells = let same : w ≡ out = (bytes_eq-Decides w out).0 (sym test ∙ tells) in sym at ∙ ap (λ (x : List ℕ). Some x) (same ∙ is)

pub other_tested : (o : Option (List ℕ)) (w out word : List ℕ) (b : Bool) → Some w ≡ o → out ≡ word → b ≡ bytes_eq w out → b ≡ false → o ≡ Some word → ⊥
other_tested o w out word b at is test denies also =
    let same : w ≡ word = cc in
    let differ : true ≡ false = sym ((bytes_eq-Decides w out).1 (same ∙ sym is)) ∙ sym test ∙ denies in
    absurd cc

pub none_heard : {A H : Type 0} (h : A → Handler) (g : Game) (most : ℕ) (old new : Reader A H) (text : List ℕ) → None ≡ slice_get (parts_at 32 text) 0 → IsAnswered h g most (IsRightLine g most) old new text (Ok false)
none_heard h g most old new text none = heard_none h g most old new text (λ w. absurd cc) (λ w. absurd cc) (λ w. absurd cc) (λ w. absurd cc) (λ w. absurd cc)
