-- Frames that several writes take, one after the other.
use Rattle.std.proofs.Common.{◌≡◌, ℕ, ◌+◌, ◌-◌, ◌/◌, ◌≤◌, suc, zero, List, [], ◌∷◌, Bool, true, false, Result, Ok, Err, OnOk, OnErr, cond, eqb, refl, sym, ap, ap₂, ◌∙◌, subst, arith}
use Rattle.ken_pages.specs.Paged.{Paged, touched, with_own, lacking, own_count}
use Rattle.ken_pages.proofs.Counted.{lacking-none, lacking-grows, with_own-none, touched-some}
use Rattle.ken_model.specs.Heap.{rounded}
use Rattle.ken_alloc.specs.Frames.{Frames, frames_of, lacks, taken, LosesNone, HasMoreSpare, gap_head, alloc_len}

-- what was lacking is the turn's own
own_count-with_own : (from n : ℕ) (own : List Bool) → own_count (with_own from n own) ≡ own_count own + lacking from n own
own_count-with_own from n [] = refl
own_count-with_own zero zero (b ∷ bs) = omega arith
own_count-with_own zero (suc n) (true ∷ bs) = let rest : own_count (with_own zero n bs) ≡ own_count bs + lacking zero n bs = own_count-with_own zero n bs in omega (arith, rest)
own_count-with_own zero (suc n) (false ∷ bs) = let rest : own_count (with_own zero n bs) ≡ own_count bs + lacking zero n bs = own_count-with_own zero n bs in omega (arith, rest)
own_count-with_own (suc from) n (b ∷ bs) = let rest : own_count (with_own from n bs) ≡ own_count bs + lacking from n bs = own_count-with_own from n bs in omega (arith, rest)

-- n pages, and then m from one of them or from the next on
with_own-on : (f n g m t : ℕ) (own : List Bool) → f ≤ g → g ≤ f + n → f + n ≤ g + m → g + m ≡ f + t → with_own g m (with_own f n own) ≡ with_own f t own
with_own-on f n g m t [] low high end is = refl
with_own-on zero zero zero m t (b ∷ bs) low high end is = let same : m ≡ t = omega (arith, is) in ap (λ k. with_own zero k (b ∷ bs)) same
with_own-on zero zero (suc g) m t (b ∷ bs) low high end is = absurd (omega (arith, high))
with_own-on zero (suc n) zero zero t (b ∷ bs) low high end is = absurd (omega (arith, end))
with_own-on zero (suc n) zero (suc m) zero (b ∷ bs) low high end is = absurd (omega (arith, is))
with_own-on zero (suc n) zero (suc m) (suc t) (b ∷ bs) low high end is = ap (λ cs. true ∷ cs) (with_own-on zero n zero m t bs (omega arith) (omega arith) (omega (arith, end)) (omega (arith, is)))
with_own-on zero (suc n) (suc g) m zero (b ∷ bs) low high end is = absurd (omega (arith, is))
with_own-on zero (suc n) (suc g) m (suc t) (b ∷ bs) low high end is = ap (λ cs. true ∷ cs) (with_own-on zero n g m t bs (omega arith) (omega (arith, high)) (omega (arith, end)) (omega (arith, is)))
with_own-on (suc f) n zero m t (b ∷ bs) low high end is = absurd (omega (arith, low))
with_own-on (suc f) n (suc g) m t (b ∷ bs) low high end is = ap (λ cs. b ∷ cs) (with_own-on f n g m t bs (omega (arith, low)) (omega (arith, high)) (omega (arith, end)) (omega (arith, is)))

-- the same in the other order
with_own-back : (f n g m t : ℕ) (own : List Bool) → f ≤ g → g ≤ f + n → f + n ≤ g + m → g + m ≡ f + t → with_own f n (with_own g m own) ≡ with_own f t own
with_own-back f n g m t [] low high end is = refl
with_own-back zero zero zero m t (b ∷ bs) low high end is = let same : m ≡ t = omega (arith, is) in with_own-none zero (with_own zero m (b ∷ bs)) ∙ ap (λ k. with_own zero k (b ∷ bs)) same
with_own-back zero zero (suc g) m t (b ∷ bs) low high end is = absurd (omega (arith, high))
with_own-back zero (suc n) zero zero t (b ∷ bs) low high end is = absurd (omega (arith, end))
with_own-back zero (suc n) zero (suc m) zero (b ∷ bs) low high end is = absurd (omega (arith, is))
with_own-back zero (suc n) zero (suc m) (suc t) (b ∷ bs) low high end is = ap (λ cs. true ∷ cs) (with_own-back zero n zero m t bs (omega arith) (omega arith) (omega (arith, end)) (omega (arith, is)))
with_own-back zero (suc n) (suc g) m zero (b ∷ bs) low high end is = absurd (omega (arith, is))
with_own-back zero (suc n) (suc g) m (suc t) (b ∷ bs) low high end is = ap (λ cs. true ∷ cs) (with_own-back zero n g m t bs (omega arith) (omega (arith, high)) (omega (arith, end)) (omega (arith, is)))
with_own-back (suc f) n zero m t (b ∷ bs) low high end is = absurd (omega (arith, low))
with_own-back (suc f) n (suc g) m t (b ∷ bs) low high end is = ap (λ cs. b ∷ cs) (with_own-back f n g m t bs (omega (arith, low)) (omega (arith, high)) (omega (arith, end)) (omega (arith, is)))

-- two writes take what one takes
pub record TakesBoth (at n at' n' all long : ℕ) (f : Frames) : Type 0 where
  pub same : taken at' n' (taken at n f) ≡ taken all long f
  pub sum : lacks at n f + lacks at' n' (taken at n f) ≡ lacks all long f

both : (at n at' n' all long : ℕ) (f : Frames) → with_own (at' / 256) (touched at' n') (with_own (at / 256) (touched at n) f.own) ≡ with_own (all / 256) (touched all long) f.own → TakesBoth at n at' n' all long f
both at n at' n' all long f is =
    let one : own_count (with_own (at / 256) (touched at n) f.own) ≡ own_count f.own + lacks at n f = own_count-with_own (at / 256) (touched at n) f.own in
    let two : own_count (with_own (at' / 256) (touched at' n') (with_own (at / 256) (touched at n) f.own)) ≡ own_count (with_own (at / 256) (touched at n) f.own) + lacks at' n' (taken at n f) = own_count-with_own (at' / 256) (touched at' n') (with_own (at / 256) (touched at n) f.own) in
    let whole : own_count (with_own (all / 256) (touched all long) f.own) ≡ own_count f.own + lacks all long f = own_count-with_own (all / 256) (touched all long) f.own in
    let sum : lacks at n f + lacks at' n' (taken at n f) ≡ lacks all long f = omega (arith, one, two, whole, ap own_count is) in
    let left : f.spare - lacks at n f - lacks at' n' (taken at n f) ≡ f.spare - lacks all long f = omega (arith, sum) in
    record { same = ap₂ (λ s own. let g : Frames = record { spare = s; own = own } in g) left is; sum = sum }

-- n bytes, and then the m behind them
pub takes_on : (at n m : ℕ) (f : Frames) → 1 ≤ m → TakesBoth at n (at + n) m at (n + m) f
takes_on at zero m f some =
    let start : at + 0 ≡ at = omega arith in
    let count : m ≡ 0 + m = omega arith in
    both at 0 (at + 0) m at (0 + m) f (ap₂ (λ k own. with_own (k / 256) (touched k m) own) start (with_own-none (at / 256) f.own) ∙ ap (λ k. with_own (at / 256) (touched at k) f.own) count)
takes_on at (suc n) m f some =
    let one : touched at (suc n) ≡ (at + suc n - 1) / 256 + 1 - at / 256 = touched-some at (suc n) (omega arith) in
    let two : touched (at + suc n) m ≡ (at + suc n + m - 1) / 256 + 1 - (at + suc n) / 256 = touched-some (at + suc n) m some in
    let whole : touched at (suc n + m) ≡ (at + (suc n + m) - 1) / 256 + 1 - at / 256 = touched-some at (suc n + m) (omega arith) in
    both at (suc n) (at + suc n) m at (suc n + m) f (with_own-on (at / 256) (touched at (suc n)) ((at + suc n) / 256) (touched (at + suc n) m) (touched at (suc n + m)) f.own (omega arith) (omega (arith, one)) (omega (arith, one, two, some)) (omega (arith, two, whole, some)))

-- m bytes, and then n that end before them, on the same page or on the one before
pub takes_back : (at n at' m long : ℕ) (f : Frames) → 1 ≤ n → 1 ≤ m → at + n ≤ at' → at' ≤ at + n + 15 → at' + m ≡ at + long → TakesBoth at' m at n at long f
takes_back at n at' m long f some some' low high is =
    let one : touched at n ≡ (at + n - 1) / 256 + 1 - at / 256 = touched-some at n some in
    let two : touched at' m ≡ (at' + m - 1) / 256 + 1 - at' / 256 = touched-some at' m some' in
    let whole : touched at long ≡ (at + long - 1) / 256 + 1 - at / 256 = touched-some at long (omega (arith, low, is, some)) in
    both at' m at n at long f (with_own-back (at / 256) (touched at n) (at' / 256) (touched at' m) (touched at long) f.own (omega (arith, low)) (omega (arith, one, high, some)) (omega (arith, one, two, low, some, some')) (omega (arith, two, whole, is, some, some', low)))

-- no byte takes no frame
pub taken_none : (at : ℕ) (p : Paged) → taken at 0 (frames_of p) ≡ frames_of p
taken_none at p =
    let none : lacking (at / 256) 0 p.own ≡ 0 = lacking-none (at / 256) p.own in
    let left : p.spare - lacking (at / 256) 0 p.own ≡ p.spare = omega (arith, none) in
    ap₂ (λ s own. let g : Frames = record { spare = s; own = own } in g) left (with_own-none (at / 256) p.own)

-- more bytes lack no fewer
pub lacks_grows : (at n m : ℕ) (f : Frames) → n ≤ m → lacks at n f ≤ lacks at m f
lacks_grows at zero m f le = let none : lacking (at / 256) 0 f.own ≡ 0 = lacking-none (at / 256) f.own in omega (arith, none)
lacks_grows at (suc n) m f le =
    let one : touched at (suc n) ≡ (at + suc n - 1) / 256 + 1 - at / 256 = touched-some at (suc n) (omega arith) in
    let two : touched at m ≡ (at + m - 1) / 256 + 1 - at / 256 = touched-some at m (omega (arith, le)) in
    lacking-grows (at / 256) (touched at (suc n)) (touched at m) f.own (omega (arith, one, two, le))

-- what a write of n bytes says after Ok
pub took : (p q : Paged) (at n k : ℕ) → n ≡ k → q.spare ≡ p.spare - lacking (at / 256) (touched at n) p.own → q.own ≡ with_own (at / 256) (touched at n) p.own → frames_of q ≡ taken at k (frames_of p)
took p q at n k is spare own = subst (λ j. frames_of q ≡ taken at j (frames_of p)) is (ap₂ (λ s o. let g : Frames = record { spare = s; own = o } in g) spare own)

-- frames that are taken are the turn's own
pub loses_taken : (f g : Frames) (at n : ℕ) → g ≡ taken at n f → LosesNone f g
loses_taken f g at n is =
    let one : own_count (with_own (at / 256) (touched at n) f.own) ≡ own_count f.own + lacks at n f = own_count-with_own (at / 256) (touched at n) f.own in
    subst (λ (h : Frames). LosesNone f h) (sym is) (omega (arith, one))

pub loses_more : (f g : Frames) → HasMoreSpare f g → LosesNone f g
loses_more f g h = let same : own_count g.own ≡ own_count f.own = ap own_count h.own in omega (arith, same, h.more)

pub loses_either : {X E : Type 0} (r : Result X E) (f g : Frames) (at n : ℕ) → OnOk r (g ≡ taken at n f) → OnErr r (HasMoreSpare f g) → LosesNone f g
loses_either (Ok x) f g at n ok err = loses_taken f g at n ok
loses_either (Err e) f g at n ok err = loses_more f g err

pub loses_on : (f g h : Frames) → LosesNone f g → LosesNone g h → LosesNone f h
loses_on f g h one two = omega (arith, one, two)

-- where the frames cover both writes they cover the first
pub covers_first : (at n at' n' all long : ℕ) (f : Frames) → TakesBoth at n at' n' all long f → lacks all long f ≤ f.spare → lacks at n f ≤ f.spare
covers_first at n at' n' all long f t covered = omega (arith, t.sum, covered)

-- and then the second
pub covers_second : (at n at' n' all long : ℕ) (f g : Frames) → TakesBoth at n at' n' all long f → g ≡ taken at n f → lacks all long f ≤ f.spare → lacks at' n' g ≤ g.spare
covers_second at n at' n' all long f g t is covered = subst (λ (h : Frames). lacks at' n' h ≤ h.spare) (sym is) (omega (arith, t.sum, covered))

-- two places that are one have no head of a gap between them
pub no_gap : (at from to : ℕ) (p : Paged) → eqb from to ≡ true → frames_of p ≡ taken at (gap_head from to) (frames_of p)
no_gap at from to p is =
    let none : 0 ≡ gap_head from to = ap (λ (b : Bool). cond b 0 16) (sym is) in
    sym (taken_none at p) ∙ ap (λ n. taken at n (frames_of p)) none

-- the head of a gap at a place, or none, then n bytes behind a block's head, and that head: they take what all of it takes
pub record TakesThree (at gap from n all : ℕ) (f : Frames) : Type 0 where
  pub same : taken from 16 (taken (from + 16) n (taken at gap f)) ≡ taken from all f
  pub first : lacks from all f ≤ f.spare → lacks at gap f ≤ f.spare
  pub second : lacks from all f ≤ f.spare → lacks (from + 16) n (taken at gap f) ≤ (taken at gap f).spare
  pub third : lacks from all f ≤ f.spare → lacks from 16 (taken (from + 16) n (taken at gap f)) ≤ (taken (from + 16) n (taken at gap f)).spare

takes_block : (at from n : ℕ) (p : Paged) → 1 ≤ n → TakesThree at 0 from n (16 + n) (frames_of p)
takes_block at from n p some =
    let f : Frames = frames_of p in
    let none : taken at 0 f ≡ f = taken_none at p in
    let no : lacking (at / 256) 0 p.own ≡ 0 = lacking-none (at / 256) p.own in
    let both : TakesBoth (from + 16) n from 16 from (16 + n) f = takes_back from 16 (from + 16) n (16 + n) f (omega arith) some (omega arith) (omega arith) (omega arith) in
    record {
      same = ap (λ g. taken from 16 (taken (from + 16) n g)) none ∙ both.same;
      first = λ covered. omega (arith, no);
      second = λ covered. subst (λ (g : Frames). lacks (from + 16) n g ≤ g.spare) (sym none) (covers_first (from + 16) n from 16 from (16 + n) f both covered);
      third = λ covered. subst (λ (g : Frames). lacks from 16 (taken (from + 16) n g) ≤ (taken (from + 16) n g).spare) (sym none) (covers_second (from + 16) n from 16 from (16 + n) f (taken (from + 16) n f) both refl covered);
    }

takes_gap : (from n : ℕ) (f : Frames) → 1 ≤ n → TakesThree (from + 16 + rounded n) 16 from n (32 + rounded n) f
takes_gap from n f some =
    let at : ℕ = from + 16 + rounded n in
    let inner : TakesBoth (from + 16 + rounded n) 16 (from + 16) n (from + 16) (rounded n + 16) f = takes_back (from + 16) n (from + 16 + rounded n) 16 (rounded n + 16) f some (omega arith) (omega arith) (omega arith) (omega arith) in
    let outer : TakesBoth (from + 16) (rounded n + 16) from 16 from (32 + rounded n) f = takes_back from 16 (from + 16) (rounded n + 16) (32 + rounded n) f (omega arith) (omega arith) (omega arith) (omega arith) (omega arith) in
    let few : lacks from (32 + rounded n) f ≤ f.spare → lacks (from + 16) (rounded n + 16) f ≤ f.spare = covers_first (from + 16) (rounded n + 16) from 16 from (32 + rounded n) f outer in
    record {
      same = ap (taken from 16) inner.same ∙ outer.same;
      first = λ covered. covers_first (from + 16 + rounded n) 16 (from + 16) n (from + 16) (rounded n + 16) f inner (few covered);
      second = λ covered. covers_second (from + 16 + rounded n) 16 (from + 16) n (from + 16) (rounded n + 16) f (taken (from + 16 + rounded n) 16 f) inner refl (few covered);
      third = λ covered. covers_second (from + 16) (rounded n + 16) from 16 from (32 + rounded n) f (taken (from + 16) n (taken (from + 16 + rounded n) 16 f)) outer inner.same covered;
    }

-- what a block of n bytes takes that is made in a gap
pub takes_three : (at from n to : ℕ) (p : Paged) → at ≡ from + 16 + rounded n → 1 ≤ n → TakesThree at (gap_head at to) from n (alloc_len (from + 16) n to) (frames_of p)
takes_three at from n to p is some =
    subst (λ k. TakesThree k (gap_head k to) from n (alloc_len (from + 16) n to) (frames_of p)) (sym is) (go (eqb (from + 16 + rounded n) to))
  where
    go : (b : Bool) → TakesThree (from + 16 + rounded n) (cond b 0 16) from n (cond b (16 + n) (32 + rounded n)) (frames_of p)
    go true = takes_block (from + 16 + rounded n) from n p some
    go false = takes_gap from n (frames_of p) some
