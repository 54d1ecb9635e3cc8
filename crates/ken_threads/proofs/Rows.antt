-- The ends of one node more.
use Rattle.std.proofs.Common.{◌≡◌, ◌∙◌, ℕ, ◌+◌, ◌<◌, List, [], ◌∷◌, ◌++◌, length, Vec, Global, refl, sym, ap, subst, inl, inr, arith}
use Rattle.std.specs.Prelude.{slice_index_or}
use Rattle.std.proofs.lemmas.Bool.{cases_lt}
use Rattle.std.proofs.lemmas.List.{get_or_append_left, get_or-map, length-map}
use Rattle.std.proofs.Math.Seq.{get_or-append_seam}
use Rattle.ken_wire.specs.declared.send_end.SendEnd.{SendEnd}
use Rattle.ken_wire.specs.declared.take_end.TakeEnd.{TakeEnd}
use Rattle.ken_wire.specs.Ends.{SameTaker, taker_of}
use Rattle.ken_wire.specs.Nets.{AreFrom}
use Rattle.ken_wire.specs.Rounds.{AreUnused, AtEach, IsSeated}
use Rattle.ken_threads.specs.declared.wiring.Ends.{Ends}
use Rattle.ken_threads.specs.declared.wiring.Wiring.{Wiring}
use Rattle.ken_threads.specs.Wires.{AreWired, ends_of, IsRow, IsUnused, of_node}
use Rattle.ken_threads.proofs.Seated.{IsFront, long, one_taken, taken_at}

-- an element at a place that there is
pub some_at : {X : Type 0} (xs : List X) (k : ℕ) → k < length xs → X
some_at [] k low = absurd (omega (arith, low))
some_at (x ∷ xs) k low = x

pub row_stays : (n v : ℕ) (old new : List TakeEnd) (ends : List SendEnd) → IsRow n v old ends
    → ((k : ℕ) (d : TakeEnd) → k < n → SameTaker (slice_index_or old k d) (slice_index_or new k d)) → IsRow n v new ends
row_stays n v old new ends row same = record {
  count = row.count;
  own = row.own;
  wires = λ k d e low.
      let is = row.wires k d e low in
      let stays = same k d low in
      (is.0 ∙ sym stays.0, is.1 ∙ sym stays.1);
}

-- a row of new ends
pub record IsNewRow (n v : ℕ) (takes : List TakeEnd) (ends : List SendEnd) : Type 0 where
  pub row : IsRow n v takes ends
  pub unused : IsUnused ends

pub new_row : (n v : ℕ) (old new : List TakeEnd) (ends : List SendEnd) → length ends ≡ n → length new ≡ n → AreFrom v ends → AtEach IsSeated old new ends → IsNewRow n v new ends
new_row n v old new ends count takers own seated = record {
  row = record { count = count; own = own; wires = λ k d e low. (seated k d e (omega (arith, low, count))).5 };
  unused = λ k e low.
      let is = seated k (some_at new k (omega (arith, low, count, takers))) e low in
      (is.6, is.7);
}

pub same_takers : (n : ℕ) (old new : List TakeEnd) (ends : List SendEnd) → length ends ≡ n → AtEach IsSeated old new ends → (k : ℕ) (d : TakeEnd) → k < n → SameTaker (slice_index_or old k d) (slice_index_or new k d)
same_takers n old new ends count seated k d low =
    let there : k < length ends = omega (arith, low, count) in
    (seated k d (some_at ends k there) there).0

pub still_unused : (n : ℕ) (old new : List TakeEnd) (ends : List SendEnd) → length ends ≡ n → length new ≡ n → length old ≡ n → AtEach IsSeated old new ends → AreUnused old → AreUnused new
still_unused n old new ends count takers before seated unused k d low =
    let there : k < length ends = omega (arith, low, count, takers) in
    let is = seated k d (some_at ends k there) there in
    let was = unused k d (omega (arith, low, takers, before)) in
    (is.1 ∙ was.0, is.2 ∙ was.1)

-- the last of rows
last : (rows : List (List SendEnd)) (row : List SendEnd) (v : ℕ) → v ≡ length rows → of_node v (rows ++ row ∷ []) ≡ row
last rows row v is = ap (λ (i : ℕ). of_node i (rows ++ row ∷ [])) is ∙ get_or-append_seam rows row [] []

pub rows_more : (n node : ℕ) (old new : List TakeEnd) (rows : List (List SendEnd)) (row : List SendEnd) → length rows ≡ node
    → ((v : ℕ) → v < node → IsNewRow n v old (of_node v rows)) → ((k : ℕ) (d : TakeEnd) → k < n → SameTaker (slice_index_or old k d) (slice_index_or new k d))
    → IsNewRow n node new row → (v : ℕ) → v < node + 1 → IsNewRow n v new (of_node v (rows ++ row ∷ []))
rows_more n node old new rows row count before same one v low = elim (cases_lt v node) [
  | inl lt ↦
      let was = before v lt in
      subst (IsNewRow n v new) (sym (get_or_append_left rows (row ∷ []) [] v (omega (arith, lt, count)))) (record { row = row_stays n v old new (of_node v rows) was.row same; unused = was.unused })
  | inr le ↦
      let is : v ≡ node = omega (arith, low, le) in
      subst (IsNewRow n v new) (sym (last rows row v (omega (arith, is, count)))) (subst (λ (u : ℕ). IsNewRow n u new row) (sym is) one)
]

pub none_left : {X : Type 0} (xs : List X) → length xs ≡ 0 → xs ≡ []
none_left [] none = refl
none_left (x ∷ xs) none = absurd (omega (arith, none))

-- the ends of a node, among those of all
pub record AreEndsOf (n v : ℕ) (take : TakeEnd) (ends : Vec SendEnd Global) : Type 0 where
  pub taker : taker_of take ≡ v
  pub own : AreFrom v ends.items
  pub count : length ends.items ≡ n

pub row_items : (sends : List (Vec SendEnd Global)) (v : ℕ) (s : Vec SendEnd Global) → v < length sends → of_node v (ends_of sends) ≡ (slice_index_or sends v s).items
row_items sends v s low = get_or-map (λ (x : Vec SendEnd Global). x.items) sends v s [] low

ends_are : (n : ℕ) (takes : List TakeEnd) (sends : List (Vec SendEnd Global)) → AreWired n takes (ends_of sends) → (v : ℕ) (take : TakeEnd) (ends : Vec SendEnd Global) → v < n
    → slice_index_or takes v take ≡ take → slice_index_or sends v ends ≡ ends → AreEndsOf n v take ends
ends_are n takes sends wired v take ends low is_take is_ends =
    let there : v < length sends = let count = wired.senders_count in let long = length-map sends (λ (x : Vec SendEnd Global). x.items) in omega (arith, low, count, long) in
    let row = wired.rows v low in
    let items : of_node v (ends_of sends) ≡ ends.items = row_items sends v ends there ∙ ap (λ (x : Vec SendEnd Global). x.items) is_ends in
    record {
      taker = ap taker_of (sym is_take) ∙ (wired.takers v take low).0;
      own = subst (AreFrom v) items row.own;
      count = ap (λ (l : List SendEnd). length l) (sym items) ∙ row.count;
    }

-- the ends of node k, which were the last of those that were not handed out yet
pub record ArePopped (n k : ℕ) (first new : Wiring) (ends : Ends) : Type 0 where
  pub are : AreEndsOf n k ends.take ends.sends
  pub takes : IsFront first.takes.items new.takes.items
  pub sends : IsFront first.sends.items new.sends.items
  pub count : (length new.takes.items ≡ k) × (length new.sends.items ≡ k)
  pub take_is : (t : TakeEnd) → slice_index_or first.takes.items k t ≡ ends.take
  pub sends_are : (s : Vec SendEnd Global) → slice_index_or first.sends.items k s ≡ ends.sends

pub are_popped : (n k : ℕ) (first old new : Wiring) (ends : Ends) → AreWired n first.takes.items (ends_of first.sends.items) → k < n → IsFront first.takes.items old.takes.items → IsFront first.sends.items old.sends.items
    → (length old.takes.items ≡ k + 1) × (length old.sends.items ≡ k + 1) → old.takes.items ≡ new.takes.items ++ ends.take ∷ [] → old.sends.items ≡ new.sends.items ++ ends.sends ∷ [] → ArePopped n k first new ends
are_popped n k first old new ends wired low takes sends count last_take last_ends =
    let takes_count = count.0 in
    let sends_count = count.1 in
    let takes_long = long old.takes.items new.takes.items ends.take last_take in
    let sends_long = long old.sends.items new.sends.items ends.sends last_ends in
    let at_take : k ≡ length new.takes.items = omega (arith, takes_count, takes_long) in
    let at_ends : k ≡ length new.sends.items = omega (arith, sends_count, sends_long) in
    let take_is : (t : TakeEnd) → slice_index_or first.takes.items k t ≡ ends.take = λ t. taken_at first.takes.items old.takes.items new.takes.items ends.take t k takes last_take at_take in
    let sends_are : (s : Vec SendEnd Global) → slice_index_or first.sends.items k s ≡ ends.sends = λ s. taken_at first.sends.items old.sends.items new.sends.items ends.sends s k sends last_ends at_ends in
    record {
      are = ends_are n first.takes.items first.sends.items wired k ends.take ends.sends low (take_is ends.take) (sends_are ends.sends);
      takes = one_taken first.takes.items old.takes.items new.takes.items ends.take takes last_take;
      sends = one_taken first.sends.items old.sends.items new.sends.items ends.sends sends last_ends;
      count = (sym at_take, sym at_ends);
      take_is = take_is;
      sends_are = sends_are;
    }
