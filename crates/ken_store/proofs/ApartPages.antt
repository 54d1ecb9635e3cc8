-- The image's pages once what waits is handed.
use Rattle.std.proofs.Common.{◌≡◌, ℕ, ◌<◌, ◌≤◌, List, [], ◌∷◌, ◌++◌, length, Bool, true, false, ◌||◌, IsTrue, refl, sym, ap, subst, ◌∙◌, arith}
use Rattle.std.specs.List.{AllByRecursion}
use Rattle.std.proofs.lemmas.Bool.{false≢true}
use Rattle.std.proofs.lemmas.List.{map-append}
use Rattle.ken_pages.specs.Paged.{page_of}
use Rattle.ken_record.specs.declared.page.Page.{Page}
use Rattle.ken_record.specs.Grammar.{rise_from, page_rank}
use Rattle.ken_cover.specs.declared.layers.Change.{Change}
use Rattle.ken_cover.specs.declared.layers.Layer.{Layer}
use Rattle.ken_cover.specs.Overlay.{overlay, numbers, among, AreWithin}
use Rattle.ken_cover.specs.Sides.{TurnPages, ImagePages, pages_of, changes_at, onto, handed_pages, without_page, patched_page, synced_pages}
use Rattle.ken_cover.specs.Covers.{IsPossible, Covers, MayLeaveOut}
use Rattle.ken_cover.proofs.Newest.{among-append}
use Rattle.ken_cover.proofs.Bases.{AreWithin-left, AreWithin-right, pages_of-handed}
use Rattle.ken_store.specs.Apart.{hand_all, known_after, MayWait}
use Rattle.ken_store.specs.Patching.{Patched}
use Rattle.ken_store.specs.PatchLaws.{IsBehind, IsAheadOf}
use Rattle.ken_store.proofs.AheadLaws.{hand_keeps_settled}

-- ---- one more record that waits

pub hand_all-last : (xs : List (ℕ × List Page)) (turn : ℕ) (pages : List Page) (i : ImagePages) → hand_all (xs ++ (turn, pages) ∷ []) i ≡ handed_pages turn pages (hand_all xs i)
hand_all-last [] turn pages i = refl
hand_all-last (x ∷ xs) turn pages i = hand_all-last xs turn pages (handed_pages x.0 x.1 i)

pub known_after-last : (known : ℕ) (xs : List (ℕ × List Page)) (turn : ℕ) (pages : List Page) → known_after known (xs ++ (turn, pages) ∷ []) ≡ turn
known_after-last known [] turn pages = refl
known_after-last known (x ∷ xs) turn pages = known_after-last x.0 xs turn pages

pub MayWait-last : (known : ℕ) (xs : List (ℕ × List Page)) (turn : ℕ) (pages : List Page) → MayWait known xs → known_after known xs < turn → IsTrue (rise_from page_rank 0 pages) → MayWait known (xs ++ (turn, pages) ∷ [])
MayWait-last known [] turn pages waits later rising = (later, rising, tt)
MayWait-last known (x ∷ xs) turn pages waits later rising = (waits.0, waits.1, MayWait-last x.0 xs turn pages waits.2 later rising)

pub known_after-from : (known : ℕ) (xs : List (ℕ × List Page)) → MayWait known xs → known ≤ known_after known xs
known_after-from known [] waits = omega arith
known_after-from known (x ∷ xs) waits = let more = known_after-from x.0 xs waits.2 in omega (arith, more, waits.0)

-- ---- pages that are the same, where what is said of each page agrees

pub record AreSamePages (i j : ImagePages) : Type 0 where
  pub same_ahead : j.ahead ≡ i.ahead
  pub same_image : j.image ≡ i.image
  pub same_unclean : (p : ℕ) → j.unclean p ≡ i.unclean p
  pub same_open : (p : ℕ) → j.«open» p ≡ i.«open» p

all_same : (i : ImagePages) → AreSamePages i i
all_same i = record { same_ahead = refl; same_image = refl; same_unclean = λ p. refl; same_open = λ p. refl }

same_by : (i j k : ImagePages) → AreSamePages i j → AreSamePages j k → AreSamePages i k
same_by i j k a b = record {
  same_ahead = b.same_ahead ∙ a.same_ahead;
  same_image = b.same_image ∙ a.same_image;
  same_unclean = λ p. b.same_unclean p ∙ a.same_unclean p;
  same_open = λ p. b.same_open p ∙ a.same_open p;
}

pub covers_same : (n : ℕ) (up : Bool) (t : TurnPages) (i j : ImagePages) → AreSamePages i j → Covers n up t i → Covers n up t j
covers_same n up t i j s c = record {
  heap_size = c.heap_size;
  image_size = ap length s.same_image ∙ c.image_size;
  live_within = c.live_within;
  ahead_within = subst (λ (ls : List Layer). AreWithin n (pages_of ls)) (sym s.same_ahead) c.ahead_within;
  stands = c.stands;
  covered = λ p h. c.covered p (sym (s.same_unclean p) ∙ h);
  safe = λ image q p h. c.safe image (record { size = q.size ∙ ap length s.same_image; same = λ p2 e. q.same p2 (s.same_open p2 ∙ e) ∙ ap (λ (x : List ℕ). page_of x p2) s.same_image }) p (sym (s.same_unclean p) ∙ h);
  opened = λ p h. s.same_unclean p ∙ c.opened p (sym (s.same_open p) ∙ h);
  coming = λ p h. s.same_unclean p ∙ c.coming p (ap (λ (ls : List Layer). among (numbers (pages_of ls)) p) (sym s.same_ahead) ∙ h);
  goal = λ u. ap (λ (x : List ℕ). overlay x (pages_of j.ahead)) s.same_image ∙ ap (λ (ls : List Layer). overlay i.image (pages_of ls)) s.same_ahead ∙ c.goal u;
}

pub behind_same : (t : TurnPages) (i j : ImagePages) → AreSamePages i j → IsAheadOf t i → IsAheadOf t j
behind_same t i j s behind = subst (AllByRecursion (IsBehind t.live)) (sym s.same_ahead) behind

pub clean_same : (settled : ℕ) (t : TurnPages) (i j : ImagePages) → AreSamePages i j → MayLeaveOut settled t i → MayLeaveOut settled t j
clean_same settled t i j s may p c e gone = s.same_unclean p ∙ may p c e gone

handed_same : (turn : ℕ) (pages : List Page) (i j : ImagePages) → AreSamePages i j → AreSamePages (handed_pages turn pages i) (handed_pages turn pages j)
handed_same turn pages i j s = record {
  same_ahead = ap (λ (ls : List Layer). ls ++ onto turn (changes_at turn pages) []) s.same_ahead;
  same_image = s.same_image;
  same_unclean = λ p. ap (λ (b : Bool). among (numbers pages) p || b) (s.same_unclean p);
  same_open = s.same_open;
}

hand_all_same : (xs : List (ℕ × List Page)) (i j : ImagePages) → AreSamePages i j → AreSamePages (hand_all xs i) (hand_all xs j)
hand_all_same [] i j s = s
hand_all_same (x ∷ xs) i j s = hand_all_same xs (handed_pages x.0 x.1 i) (handed_pages x.0 x.1 j) (handed_same x.0 x.1 i j s)

-- ---- a sync: what waits is to patch once it is handed, so it isn't clean then

or_swap : (a b : Bool) → (a || b) ≡ (b || a)
or_swap true true = refl
or_swap true false = refl
or_swap false true = refl
or_swap false false = refl

synced_handed : (turn : ℕ) (pages : List Page) (i : ImagePages) → AreSamePages (synced_pages (handed_pages turn pages i)) (handed_pages turn pages (synced_pages i))
synced_handed turn pages i = record {
  same_ahead = refl;
  same_image = refl;
  same_unclean = λ p.
      or_swap (among (numbers pages) p) (among (numbers (pages_of i.ahead)) p)
      ∙ sym (among-append p (numbers (pages_of i.ahead)) (numbers pages))
      ∙ ap (λ (ps : List ℕ). among ps p) (sym (map-append (λ (e : Page). e.page) (pages_of i.ahead) pages))
      ∙ ap (λ (es : List Page). among (numbers es) p) (sym (pages_of-handed i.ahead turn pages));
  same_open = λ p. refl;
}

pub hand_all-synced : (xs : List (ℕ × List Page)) (i : ImagePages) → AreSamePages (synced_pages (hand_all xs i)) (hand_all xs (synced_pages i))
hand_all-synced [] i = all_same (synced_pages i)
hand_all-synced (x ∷ xs) i =
    same_by (synced_pages (hand_all xs (handed_pages x.0 x.1 i))) (hand_all xs (synced_pages (handed_pages x.0 x.1 i))) (hand_all xs (handed_pages x.0 x.1 (synced_pages i)))
    (hand_all-synced xs (handed_pages x.0 x.1 i))
    (hand_all_same xs (synced_pages (handed_pages x.0 x.1 i)) (handed_pages x.0 x.1 (synced_pages i)) (synced_handed x.0 x.1 i))

-- ---- a patch: the oldest record to patch is the same once more are handed

onto-append : (turn : ℕ) (cs : List Change) (ls ms : List Layer) → onto turn cs ls ++ ms ≡ onto turn cs (ls ++ ms)
onto-append turn [] ls ms = refl
onto-append turn (c ∷ cs) ls ms = refl

handed_patched : (turn : ℕ) (pages : List Page) (i i2 : ImagePages) → Patched i i2 → Patched (handed_pages turn pages i) (handed_pages turn pages i2)
handed_patched turn pages i i2 h =
    let new = onto turn (changes_at turn pages) [] in
    record {
      page = h.page;
      first = h.first;
      rest = h.rest ++ new;
      change = h.change;
      next = record { oldest = ap (λ (ls : List Layer). ls ++ new) h.next.oldest; page = h.next.page };
      is = ap (handed_pages turn pages) h.is ∙ ap (λ (ls : List Layer). record (handed_pages turn pages (patched_page h.first h.rest h.change i)) { ahead = ls }) (onto-append h.first.turn (without_page h.change.page.page h.first.changes) h.rest new);
    }

pub hand_all-patched : (xs : List (ℕ × List Page)) (i i2 : ImagePages) → Patched i i2 → Patched (hand_all xs i) (hand_all xs i2)
hand_all-patched [] i i2 h = h
hand_all-patched (x ∷ xs) i i2 h = hand_all-patched xs (handed_pages x.0 x.1 i) (handed_pages x.0 x.1 i2) (handed_patched x.0 x.1 i i2 h)

-- ---- what is to patch, and what waits, are behind the live records

all_left : (P : Layer → Type 0) (ls ms : List Layer) → AllByRecursion P (ls ++ ms) → AllByRecursion P ls
all_left P [] ms all = tt
all_left P (l ∷ ls) ms all = (all.0, all_left P ls ms all.1)

all_right : (P : Layer → Type 0) (ls ms : List Layer) → AllByRecursion P (ls ++ ms) → AllByRecursion P ms
all_right P [] ms all = all
all_right P (l ∷ ls) ms all = all_right P ls ms all.1

pub behind_now : (t : TurnPages) (xs : List (ℕ × List Page)) (i : ImagePages) → IsAheadOf t (hand_all xs i) → IsAheadOf t i
behind_now t [] i behind = behind
behind_now t (x ∷ xs) i behind = all_left (IsBehind t.live) i.ahead (onto x.0 (changes_at x.0 x.1) []) (behind_now t xs (handed_pages x.0 x.1 i) behind)

onto_behind : (live : List Layer) (turn : ℕ) (cs : List Change) → AllByRecursion (IsBehind live) (onto turn cs []) → IsBehind live (record { turn = turn; changes = cs })
onto_behind live turn [] all = λ p h. absurd (false≢true h)
onto_behind live turn (c ∷ cs) all = all.0

first_behind : (t : TurnPages) (turn : ℕ) (pages : List Page) (xs : List (ℕ × List Page)) (i : ImagePages) → IsAheadOf t (hand_all xs (handed_pages turn pages i)) → IsBehind t.live (record { turn = turn; changes = changes_at turn pages })
first_behind t turn pages xs i behind =
    onto_behind t.live turn (changes_at turn pages) (all_right (IsBehind t.live) i.ahead (onto turn (changes_at turn pages) []) (behind_now t xs (handed_pages turn pages i) behind))

pub hand_all-settled : (settled known : ℕ) (t : TurnPages) (xs : List (ℕ × List Page)) (i : ImagePages) → MayWait known xs → settled ≤ known → IsAheadOf t (hand_all xs i) → MayLeaveOut settled t i → MayLeaveOut settled t (hand_all xs i)
hand_all-settled settled known t [] i waits le behind may = may
hand_all-settled settled known t (x ∷ xs) i waits le behind may =
    hand_all-settled settled x.0 t xs (handed_pages x.0 x.1 i) waits.2 (omega (arith, le, waits.0)) behind
    (hand_keeps_settled settled x.0 x.1 t i (omega (arith, le, waits.0)) (first_behind t x.0 x.1 xs i behind) may)

-- ---- what waits lies in the heap

pub within_now : (n : ℕ) (xs : List (ℕ × List Page)) (i : ImagePages) → AreWithin n (pages_of (hand_all xs i).ahead) → AreWithin n (pages_of i.ahead)
within_now n [] i all = all
within_now n (x ∷ xs) i all = AreWithin-left n (pages_of i.ahead) x.1 (subst (AreWithin n) (pages_of-handed i.ahead x.0 x.1) (within_now n xs (handed_pages x.0 x.1 i) all))

pub first_within : (n turn : ℕ) (pages : List Page) (xs : List (ℕ × List Page)) (i : ImagePages) → AreWithin n (pages_of (hand_all xs (handed_pages turn pages i)).ahead) → AreWithin n pages
first_within n turn pages xs i all = AreWithin-right n (pages_of i.ahead) pages (subst (AreWithin n) (pages_of-handed i.ahead turn pages) (within_now n xs (handed_pages turn pages i) all))

-- ---- what waits doesn't touch the image

pub hand_all-possible : (xs : List (ℕ × List Page)) (i : ImagePages) (image : List ℕ) → IsPossible i image → IsPossible (hand_all xs i) image
hand_all-possible [] i image possible = possible
hand_all-possible (x ∷ xs) i image possible = hand_all-possible xs (handed_pages x.0 x.1 i) image (record { size = possible.size; same = possible.same })
