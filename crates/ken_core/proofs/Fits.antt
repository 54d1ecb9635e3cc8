-- Pages within a heap, as code needs them, and the newest change of a page.
use Rattle.std.proofs.Common.{◌≡◌, ℕ, zero, suc, replicate, ◌+◌, ◌*◌, ◌<◌, List, [], ◌∷◌, ◌++◌, map, reverse, take, drop, get_or, length, Bool, true, false, ◌==◌, ◌||◌, if◌then◌else◌, Option, Some, None, refl, sym, ap, ◌∙◌, subst, ⊎_elim, arith, eq-eqb, ne_eqb, append-nil}
use Rattle.std.specs.List.{All, AllByRecursion, find}
use Rattle.std.specs.Option.{option_or}
use Rattle.std.proofs.Math.Path.{fun_ext}
use Rattle.std.proofs.lemmas.Bool.{cases_eq, cases_lt}
use Rattle.std.proofs.lemmas.List.{reverse-append, map-append, append_assoc, length-map, take_more, drop_more, ext_get_or, get_or_past, get_or_default, nil_from_length}
use Rattle.std.proofs.lemmas.List.Folds.{find-append}
use Rattle.ken_record.specs.declared.page.Page.{Page}
use Rattle.ken_cover.specs.declared.layers.Change.{Change}
use Rattle.ken_cover.specs.declared.layers.Layer.{Layer}
use Rattle.ken_cover.specs.Overlay.{with_page, overlay, numbers, among, newest_by, AreWithin}
use Rattle.ken_cover.specs.Sides.{ImagePages, changes_of, pages_of, onto, without_page, recounted, with_pages}
use Rattle.ken_cover.proofs.Newest.{overlay-append, among-append}
use Rattle.ken_cover.proofs.Bases.{pages_of-append}
use Rattle.ken_core.specs.Sets.{has}
use Rattle.ken_core.specs.Pages.{IsFit, AreFit, HaveFit}
use Rattle.ken_core.specs.Machines.{Writes, IsWritten}

-- pages of a heap of n pages lie within its bytes
pub fits : (n size : ℕ) (es : List Page) → size ≡ 256 * n → AreWithin n es → AllByRecursion (IsFit size) es
fits n size [] whole all = tt
fits n size (e ∷ es) whole all = let within = all.0.0 in ((omega arith, all.0.1), fits n size es whole all.1)

pub change_fits : (n size : ℕ) (cs : List Change) → size ≡ 256 * n → AreWithin n (map (λ (c : Change). c.page) cs) → AreFit size cs
change_fits n size [] whole all = tt
change_fits n size (c ∷ cs) whole all = let within = all.0.0 in ((omega arith, all.0.1), change_fits n size cs whole all.1)

-- the pages of the front and of the rest
within_front : (n : ℕ) (cs ds : List Change) → AreWithin n (map (λ (c : Change). c.page) (cs ++ ds)) → AreWithin n (map (λ (c : Change). c.page) cs)
within_front n [] ds all = tt
within_front n (c ∷ cs) ds all = (all.0, within_front n cs ds all.1)

within_rest : (n : ℕ) (cs ds : List Change) → AreWithin n (map (λ (c : Change). c.page) (cs ++ ds)) → AreWithin n (map (λ (c : Change). c.page) ds)
within_rest n [] ds all = all
within_rest n (c ∷ cs) ds all = within_rest n cs ds all.1

pub layers_fit : (n size : ℕ) (ls : List Layer) → size ≡ 256 * n → AreWithin n (pages_of ls) → HaveFit size ls
layers_fit n size [] whole all = tt
layers_fit n size (l ∷ ls) whole all = (change_fits n size l.changes whole (within_front n l.changes (changes_of ls) all), layers_fit n size ls whole (within_rest n l.changes (changes_of ls) all))

pub first_fits : (n size : ℕ) (first : Layer) (rest ls : List Layer) → ls ≡ first ∷ rest → size ≡ 256 * n → AreWithin n (pages_of ls) → AreFit size first.changes
first_fits n size first rest ls is whole all = (layers_fit n size (first ∷ rest) whole (subst (λ (x : List Layer). AreWithin n (pages_of x)) is all)).0

-- the first that is found from the back is the newest
pub newest-found : (p : ℕ) (cs : List Change) → find (λ (c : Change). c.page.page == p) (reverse cs) ≡ newest_by (λ (c : Change). c.page) p cs
newest-found p [] = refl
newest-found p (c ∷ cs) =
    let test : Change → Bool = λ x. x.page.page == p in
    ap (find test) (reverse-append (c ∷ []) cs) ∙ find-append test (reverse cs) (c ∷ []) ∙ ap (λ o. option_or o (if c.page.page == p then Some c else None)) (newest-found p cs)

-- it is one of the changes
pub newest_fits : (size p : ℕ) (cs : List Change) (c : Change) → AreFit size cs → newest_by (λ (x : Change). x.page) p cs ≡ Some c → IsFit size c.page
newest_fits size p [] c all is = absurd cc
newest_fits size p (x ∷ xs) c all is = one (newest_by (λ (y : Change). y.page) p xs) (x.page.page == p) (λ y. newest_fits size p xs y all.1) is
  where
    one : (o : Option Change) (b : Bool) → ((y : Change) → o ≡ Some y → IsFit size y.page) → option_or o (if b then Some x else None) ≡ Some c → IsFit size c.page
    one (Some y) b rest e = rest c e
    one None true rest e = let same : x ≡ c = cc in subst (λ (y : Change). IsFit size y.page) same all.0
    one None false rest e = absurd cc

-- and of that page
pub newest_is : (p : ℕ) (cs : List Change) (c : Change) → newest_by (λ (x : Change). x.page) p cs ≡ Some c → c.page.page ≡ p
newest_is p [] c is = absurd cc
newest_is p (x ∷ xs) c is =
    ⊎_elim
    (λ (same : x.page.page ≡ p). one (newest_by (λ (y : Change). y.page) p xs) (λ y. newest_is p xs y) same (rw (eq-eqb x.page.page p same) at is))
    (λ other. none (newest_by (λ (y : Change). y.page) p xs) (λ y. newest_is p xs y) (rw (ne_eqb x.page.page p other) at is))
    (cases_eq x.page.page p)
  where
    one : (o : Option Change) → ((y : Change) → o ≡ Some y → y.page.page ≡ p) → x.page.page ≡ p → option_or o (Some x) ≡ Some c → c.page.page ≡ p
    one (Some y) rest same e = rest c e
    one None rest same e = let at : x ≡ c = cc in ap (λ (y : Change). y.page.page) (sym at) ∙ same

    none : (o : Option Change) → ((y : Change) → o ≡ Some y → y.page.page ≡ p) → option_or o None ≡ Some c → c.page.page ≡ p
    none (Some y) rest e = rest c e
    none None rest e = absurd cc

-- what a write makes of the image
pub written : (p : ℕ) (i : ImagePages) (first : Layer) (rest ahead2 : List Layer) (c : Change) (image2 : List ℕ) (open2 : ℕ → Bool) → i.ahead ≡ first ∷ rest → newest_by (λ (x : Change). x.page) p first.changes ≡ Some c → ahead2 ≡ onto first.turn (without_page p first.changes) rest → image2 ≡ with_page i.image c.page → ((q : ℕ) → open2 q ≡ ((p == q) || i.«open» q)) → Writes p i (record { ahead = ahead2; unclean = i.unclean; image = image2; «open» = open2 })
written p i first rest ahead2 c image2 open2 oldest newest ahead image opened =
    let at : c.page.page ≡ p = newest_is p first.changes c newest in
    let opens : open2 ≡ (λ q. (c.page.page == q) || i.«open» q) = fun_ext (λ q. opened q ∙ ap (λ k. (k == q) || i.«open» q) (sym at)) in (
      first,
      (
        rest,
        (
          c,
          (
            record { oldest = oldest; page = newest },
            ap (λ x. record { ahead = x; unclean = i.unclean; image = image2; «open» = open2 }) (ahead ∙ ap (λ k. onto first.turn (without_page k first.changes) rest) (sym at))
                ∙ ap (λ x. record { ahead = onto first.turn (without_page c.page.page first.changes) rest; unclean = i.unclean; image = x; «open» = open2 }) image
                ∙ ap (λ x. record { ahead = onto first.turn (without_page c.page.page first.changes) rest; unclean = i.unclean; image = with_page i.image c.page; «open» = x }) opens,
          ),
        ),
      ),
    )

-- nothing to write
pub none_left : (p : ℕ) (i : ImagePages) → i.ahead ≡ [] → IsWritten p i
none_left p i none first rest c is = let e : [] ≡ first ∷ rest = sym none ∙ is.oldest in absurd cc

pub none_newest : (p : ℕ) (i : ImagePages) (first : Layer) (rest : List Layer) → i.ahead ≡ first ∷ rest → newest_by (λ (x : Change). x.page) p first.changes ≡ None → IsWritten p i
none_newest p i first rest oldest none first2 rest2 c is =
    let e : first ∷ rest ≡ first2 ∷ rest2 = sym oldest ∙ is.oldest in
    let same : first ≡ first2 = cc in
    let both : None ≡ Some c = sym none ∙ ap (λ (l : Layer). newest_by (λ (x : Change). x.page) p l.changes) same ∙ is.page in
    absurd cc

-- the pages of layers, one layer more
pages_of_one : (l : Layer) → pages_of (l ∷ []) ≡ map (λ (c : Change). c.page) l.changes
pages_of_one l = ap (map (λ (c : Change). c.page)) (append-nil l.changes)

pub laid_more : (bytes new whole : List ℕ) (ls : List Layer) (i : ℕ) (l : Layer) (cs : List Change) → i < length ls → l ≡ get_or ls i l → cs ≡ l.changes → new ≡ overlay bytes (map (λ (c : Change). c.page) cs) → overlay bytes (pages_of (drop i ls)) ≡ whole → overlay new (pages_of (drop (i + 1) ls)) ≡ whole
laid_more bytes new whole ls i l cs within is changes laid so =
    let here : drop i ls ≡ (l ∷ []) ++ drop (i + 1) ls = drop_more ls i l within ∙ ap (λ x. x ∷ drop (i + 1) ls) (sym is) in
    let split : pages_of (drop i ls) ≡ map (λ (c : Change). c.page) cs ++ pages_of (drop (i + 1) ls) = ap pages_of here ∙ pages_of-append (l ∷ []) (drop (i + 1) ls) ∙ ap (λ x. x ++ pages_of (drop (i + 1) ls)) (pages_of_one l ∙ ap (map (λ (c : Change). c.page)) (sym changes)) in
    ap (λ x. overlay x (pages_of (drop (i + 1) ls))) laid ∙ sym (overlay-append bytes (map (λ (c : Change). c.page) cs) (pages_of (drop (i + 1) ls))) ∙ sym (ap (overlay bytes) split) ∙ so

-- the numbers of pages, of one layer more
or_swap : (a b c : Bool) → (b || (a || c)) ≡ ((a || b) || c)
or_swap true true c = refl
or_swap true false c = refl
or_swap false b c = refl

pub or_false : (a : Bool) → (a || false) ≡ a
or_false true = refl
or_false false = refl

or_comm : (a b : Bool) → (a || b) ≡ (b || a)
or_comm true true = refl
or_comm true false = refl
or_comm false true = refl
or_comm false false = refl

numbers-pages : (cs : List Change) → numbers (map (λ (c : Change). c.page) cs) ≡ map (λ (c : Change). c.page.page) cs
numbers-pages [] = refl
numbers-pages (c ∷ cs) = ap (λ x. c.page.page ∷ x) (numbers-pages cs)

pub marked_more : (k : ℕ) (new old first : Bool) (ls : List Layer) (i : ℕ) (l : Layer) (cs : List Change) → i < length ls → l ≡ get_or ls i l → cs ≡ l.changes → new ≡ (among (map (λ (c : Change). c.page.page) cs) k || old) → old ≡ (among (numbers (pages_of (take i ls))) k || first) → new ≡ (among (numbers (pages_of (take (i + 1) ls))) k || first)
marked_more k new old first ls i l cs within is changes marks so =
    let here : take (i + 1) ls ≡ take i ls ++ l ∷ [] = take_more ls i l within ∙ ap (λ x. take i ls ++ x ∷ []) (sym is) in
    let one : numbers (pages_of (l ∷ [])) ≡ map (λ (c : Change). c.page.page) cs = ap numbers (pages_of_one l) ∙ numbers-pages l.changes ∙ ap (map (λ (c : Change). c.page.page)) (sym changes) in
    let split : numbers (pages_of (take (i + 1) ls)) ≡ numbers (pages_of (take i ls)) ++ map (λ (c : Change). c.page.page) cs = ap (λ x. numbers (pages_of x)) here ∙ ap numbers (pages_of-append (take i ls) (l ∷ [])) ∙ map-append (λ (e : Page). e.page) (pages_of (take i ls)) (pages_of (l ∷ [])) ∙ ap (λ x. numbers (pages_of (take i ls)) ++ x) one in
    marks ∙ ap (λ b. among (map (λ (c : Change). c.page.page) cs) k || b) so
    ∙ or_swap (among (numbers (pages_of (take i ls))) k) (among (map (λ (c : Change). c.page.page) cs) k) first
    ∙ ap (λ b. b || first) (sym (among-append k (numbers (pages_of (take i ls))) (map (λ (c : Change). c.page.page) cs)))
    ∙ ap (λ ps. among ps k || first) (sym split)

-- the numbers of pages of a heap of n pages have room in a set of that width
pub changes_marked : (n width : ℕ) (cs : List Change) → width ≡ n → AreWithin n (map (λ (c : Change). c.page) cs) → AllByRecursion (λ (c : Change). c.page.page < width) cs
changes_marked n width [] whole all = tt
changes_marked n width (c ∷ cs) whole all = let within = all.0.0 in (omega arith, changes_marked n width cs whole all.1)

abbrev pub AreMarked : ℕ → List Layer → Type 0
AreMarked width ls = AllByRecursion (λ (l : Layer). AllByRecursion (λ (c : Change). c.page.page < width) l.changes) ls

pub layers_marked : (n width : ℕ) (ls : List Layer) → width ≡ n → AreWithin n (pages_of ls) → AreMarked width ls
layers_marked n width [] whole all = tt
layers_marked n width (l ∷ ls) whole all = (changes_marked n width l.changes whole (within_front n l.changes (changes_of ls) all), layers_marked n width ls whole (within_rest n l.changes (changes_of ls) all))

pub each_front : {A : Type 0} → (P : A → Type 0) (xs ys : List A) → AllByRecursion P (xs ++ ys) → AllByRecursion P xs
each_front P [] ys all = tt
each_front P (x ∷ xs) ys all = (all.0, each_front P xs ys all.1)

pub each_rest : {A : Type 0} → (P : A → Type 0) (xs ys : List A) → AllByRecursion P (xs ++ ys) → AllByRecursion P ys
each_rest P [] ys all = all
each_rest P (x ∷ xs) ys all = each_rest P xs ys all.1

-- a set that was cleared has no number, and then those of two lists of layers
pub cleared : (n k : ℕ) → get_or (replicate n false) k false ≡ false
cleared zero k = refl
cleared (suc n) zero = refl
cleared (suc n) (suc k) = cleared n k

pub marked_twice : (k n : ℕ) (one two : Bool) (front back all : List Layer) → front ++ back ≡ all → one ≡ (among (numbers (pages_of front)) k || get_or (replicate n false) k false) → two ≡ (among (numbers (pages_of back)) k || one) → two ≡ among (numbers (pages_of all)) k
marked_twice k n one two front back all whole first second =
    let here : one ≡ among (numbers (pages_of front)) k = first ∙ ap (λ b. among (numbers (pages_of front)) k || b) (cleared n k) ∙ or_false (among (numbers (pages_of front)) k) in
    let split : numbers (pages_of all) ≡ numbers (pages_of front) ++ numbers (pages_of back) = ap (λ x. numbers (pages_of x)) (sym whole) ∙ ap numbers (pages_of-append front back) ∙ map-append (λ (e : Page). e.page) (pages_of front) (pages_of back) in
    second ∙ ap (λ b. among (numbers (pages_of back)) k || b) here ∙ or_comm (among (numbers (pages_of back)) k) (among (numbers (pages_of front)) k)
    ∙ sym (among-append k (numbers (pages_of front)) (numbers (pages_of back))) ∙ ap (λ ps. among ps k) (sym split)

-- images with the same parts
pub same_image : (a b : ImagePages) → a.ahead ≡ b.ahead → ((k : ℕ) → a.unclean k ≡ b.unclean k) → a.image ≡ b.image → ((k : ℕ) → a.«open» k ≡ b.«open» k) → a ≡ b
same_image a b ahead unclean image opened =
    ap (λ x. record { ahead = x; unclean = a.unclean; image = a.image; «open» = a.«open» }) ahead
    ∙ ap (λ x. record { ahead = b.ahead; unclean = x; image = a.image; «open» = a.«open» }) (fun_ext unclean)
    ∙ ap (λ x. record { ahead = b.ahead; unclean = b.unclean; image = x; «open» = a.«open» }) image
    ∙ ap (λ x. record { ahead = b.ahead; unclean = b.unclean; image = b.image; «open» = x }) (fun_ext opened)

-- sets with as much room and the same numbers
pub same_bits : (a b : List Bool) → length a ≡ length b → ((k : ℕ) → has a k ≡ has b k) → a ≡ b
same_bits a b long same = ext_get_or false a b long (λ k within. same k)

has_within : (bits : List Bool) (k : ℕ) → has bits k ≡ true → k < length bits
has_within [] k is = absurd cc
has_within (b ∷ bs) zero is = omega arith
has_within (b ∷ bs) (suc k) is = let h = has_within bs k is in omega arith

one_of : (e : Page) (es : List Page) → among (numbers (e ∷ es)) e.page ≡ true
one_of e es = rw (eq-eqb e.page e.page refl) refl

later : (e f : Page) (es : List Page) → among (numbers es) f.page ≡ true → among (numbers (e ∷ es)) f.page ≡ true
later e f es is = rw is (or_true (e.page == f.page))
  where
    or_true : (b : Bool) → (b || true) ≡ true
    or_true true = refl
    or_true false = refl

has_each : (bits : List Bool) (es : List Page) → ((f : Page) → among (numbers es) f.page ≡ true → has bits f.page ≡ true) → AllByRecursion (λ (e : Page). e.page < length bits) es
has_each bits [] all = tt
has_each bits (e ∷ es) all = (has_within bits e.page (all e (one_of e es)), has_each bits es (λ f is. all f (later e f es is)))

-- pages whose numbers are those of a set have room in it
pub has_room : (bits : List Bool) (es : List Page) → ((k : ℕ) → among (numbers es) k ≡ has bits k) → AllByRecursion (λ (e : Page). e.page < length bits) es
has_room bits es exactly = has_each bits es (λ f is. sym (exactly f.page) ∙ is)

-- torn pages lie within the image
torn_each : (n size : ℕ) (bits : List Bool) (es : List Page) → size ≡ 256 * n → length bits ≡ n → AllByRecursion (λ (e : Page). length e.bytes ≡ 256) es → AllByRecursion (λ (e : Page). e.page < length bits) es → AllByRecursion (IsFit size) es
torn_each n size bits [] whole wide bytes room = tt
torn_each n size bits (e ∷ es) whole wide bytes room = let within = room.0 in ((omega arith, bytes.0), torn_each n size bits es whole wide bytes.1 room.1)

pub torn_fit : (n size : ℕ) (bits : List Bool) (es : List Page) → size ≡ 256 * n → length bits ≡ n → AllByRecursion (λ (e : Page). length e.bytes ≡ 256) es → ((k : ℕ) → among (numbers es) k ≡ has bits k) → AllByRecursion (IsFit size) es
torn_fit n size bits es whole wide bytes exactly = torn_each n size bits es whole wide bytes (has_room bits es exactly)

-- the layers that have a page, one layer more
pub patched_more : (ahead more : List Layer) (whole : List Layer) (ls : List Layer) (i : ℕ) (l : Layer) → i < length ls → l ≡ get_or ls i l → more ≡ onto l.turn (recounted l).changes [] → ahead ++ with_pages (map recounted (drop i ls)) ≡ whole → (ahead ++ more) ++ with_pages (map recounted (drop (i + 1) ls)) ≡ whole
patched_more ahead more whole ls i l within is one so =
    let here : drop i ls ≡ l ∷ drop (i + 1) ls = drop_more ls i l within ∙ ap (λ x. x ∷ drop (i + 1) ls) (sym is) in
    append_assoc ahead more (with_pages (map recounted (drop (i + 1) ls)))
    ∙ ap (λ x. ahead ++ (x ++ with_pages (map recounted (drop (i + 1) ls)))) one
    ∙ ap (λ x. ahead ++ x) (onto-append l.turn (recounted l).changes (with_pages (map recounted (drop (i + 1) ls))))
    ∙ ap (λ x. ahead ++ with_pages (map recounted x)) (sym here) ∙ so
  where
    onto-append : (turn : ℕ) (cs : List Change) (rest : List Layer) → onto turn cs [] ++ rest ≡ onto turn cs rest
    onto-append turn [] rest = refl
    onto-append turn (c ∷ cs) rest = refl

-- what a layer puts there: nothing where it has no page
pub nothing_put : (l : Layer) → length l.changes ≡ 0 → [] ≡ onto l.turn (recounted l).changes []
nothing_put l none = rw (nil_from_length l.changes none) refl

pub one_put : (l k : Layer) → 0 < length l.changes → k ≡ recounted l → k ∷ [] ≡ onto l.turn (recounted l).changes []
one_put l k some is = ap (λ x. x ∷ []) is ∙ some_put l.turn (recounted l).changes (omega (arith, length-map l.changes (λ (c : Change). record c { turn = l.turn })))
  where
    some_put : (turn : ℕ) (cs : List Change) → 0 < length cs → ◌≡◌ {A = List Layer} (record { turn = turn; changes = cs } ∷ []) (onto turn cs [])
    some_put turn [] none = absurd (omega arith)
    some_put turn (c ∷ cs) none = refl

-- a set without a number, by its bits
pub none_in : (bits : List Bool) → All (λ b. b ≡ false) bits → (k : ℕ) → has bits k ≡ false
none_in bits all k = ⊎_elim (λ within. all k false within) (λ past. get_or_past bits k false past) (cases_lt k (length bits))

pub all_none : (bits : List Bool) → ((k : ℕ) → has bits k ≡ false) → All (λ b. b ≡ false) bits
all_none bits none k d within = get_or_default bits k d false within ∙ none k
