-- The ends of one node more are back.
use Rattle.std.proofs.Common.{◌≡◌, ◌∙◌, ℕ, ◌+◌, ◌<◌, List, [], ◌∷◌, ◌++◌, length, suc, refl, sym, ap, subst, arith}
use Rattle.std.proofs.lemmas.List.{length-append, length-map}
use Rattle.std.proofs.Math.Seq.{get_or-append_seam}
use Rattle.std.proofs.lemmas.List.{append_assoc, map-append}
use Rattle.ken_wire.specs.declared.send_end.SendEnd.{SendEnd}
use Rattle.ken_wire.specs.declared.take_end.TakeEnd.{TakeEnd}
use Rattle.ken_wire.specs.declared.view.Sent.{Sent}
use Rattle.ken_wire.specs.Rounds.{AtEach, IsBackAt, MayComeBack}
use Rattle.ken_threads.specs.Wires.{AreBack, AreWired, IsRow, of_node, sent_at}
use Rattle.ken_threads.proofs.Rows.{row_stays, some_at}

-- with `rest` still out, all ends of the nodes of `done` are back
pub record AreBackBut (n : ℕ) (old : List TakeEnd) (all done rest : List (List SendEnd)) (takes : List TakeEnd) : Type 0 where
  pub split : done ++ rest ≡ all
  pub back : AreBack n done old takes

pub none_back : (n : ℕ) (takes : List TakeEnd) (all : List (List SendEnd)) → AreWired n takes all → AreBackBut n takes all [] all takes
none_back n takes all wired = record {
  split = refl;
  back = record {
    count = wired.takers_count;
    same = λ k d low. (refl, refl);
    made = λ k d low. (wired.takers k d low).1;
    heard = λ k d low. refl;
    joined = λ k d e low. (wired.takers k d low).2;
  };
}

-- the ends of the first of the rest are next
first_of : (done rest : List (List SendEnd)) (row : List SendEnd) → of_node (length done) (done ++ row ∷ rest) ≡ row
first_of done rest row = get_or-append_seam done row rest []

pub next_row : (n : ℕ) (old : List TakeEnd) (all done rest : List (List SendEnd)) (row : List SendEnd) (takes : List TakeEnd) → AreWired n old all
    → AreBackBut n old all done (row ∷ rest) takes → IsRow n (length done) takes row
next_row n old all done rest row takes wired is =
    let long : length all ≡ length done + suc (length rest) = ap (λ (l : List (List SendEnd)). length l) (sym is.split) ∙ length-append done (row ∷ rest) in
    let own : of_node (length done) all ≡ row = ap (of_node (length done)) (sym is.split) ∙ first_of done rest row in
    let was : IsRow n (length done) old row = subst (IsRow n (length done) old) own (wired.rows (length done) (omega (arith, long, wired.senders_count))) in
    row_stays n (length done) old takes row was is.back.same

pub may_come_back : (n : ℕ) (old : List TakeEnd) (all done rest : List (List SendEnd)) (row : List SendEnd) (takes : List TakeEnd) → AreWired n old all
    → AreBackBut n old all done (row ∷ rest) takes → (length row ≡ length takes) × MayComeBack takes row
may_come_back n old all done rest row takes wired is =
    let its = next_row n old all done rest row takes wired is in (
      its.count ∙ sym is.back.count,
      λ k d e low.
          let there : k < n = omega (arith, low, its.count) in
          (its.wires k d e there, (its.own k e low).0 ∙ sym (ap (λ (l : List Sent). length l) (is.back.joined k d e there) ∙ length-map done (sent_at k e))),
    )

pub more_back : (n : ℕ) (old : List TakeEnd) (all done rest : List (List SendEnd)) (row : List SendEnd) (takes new : List TakeEnd) → AreWired n old all
    → AreBackBut n old all done (row ∷ rest) takes → length new ≡ length takes → AtEach IsBackAt takes new row → AreBackBut n old all (done ++ row ∷ []) rest new
more_back n old all done rest row takes new wired is count back =
    let its = next_row n old all done rest row takes wired is in
    let at = λ (k : ℕ) (d : TakeEnd) (low : k < n).
    let there : k < length row = omega (arith, low, its.count) in
    back k d (some_at row k there) there in
    record {
      split = append_assoc done (row ∷ []) rest ∙ is.split;
      back = record {
        count = count ∙ is.back.count;
        same = λ k d low. ((at k d low).0.0 ∙ (is.back.same k d low).0, (at k d low).0.1 ∙ (is.back.same k d low).1);
        made = λ k d low. (at k d low).2 ∙ is.back.made k d low;
        heard = λ k d low. (at k d low).1 ∙ is.back.heard k d low;
        joined = λ k d e low.
            (back k d e (omega (arith, low, its.count))).3
            ∙ ap (λ (l : List Sent). l ++ sent_at k e row ∷ []) (is.back.joined k d e low)
            ∙ sym (map-append (sent_at k e) done (row ∷ []));
      };
    }
