use Rattle.std.proofs.Common.{◌≡◌, ◌∙◌, ℕ, ◌+◌, ◌<◌, List, [], ◌∷◌, ◌++◌, length, Vec, Global, sym, ap, subst, arith}
use Rattle.std.proofs.lemmas.List.{length-append, length-map, map-append}
use Rattle.ken_wire.specs.declared.send_end.SendEnd.{SendEnd}
use Rattle.ken_threads.specs.Wires.{ends_of, of_node}
use Rattle.ken_threads.proofs.Rows.{IsNewRow, new_row, rows_more, same_takers, still_unused}
use Rattle.ken_threads.proofs.wiring.hand_out_all.Goals as goal

pub loop-node-preserved : goal.loop-node-preserved
loop-node-preserved c =
    let l = c.loop-node in
    let n = c.args.nodes in
    let row : List SendEnd = c.in_ok-hand_out.field-0.items in
    let counts = c.in_ok-hand_out.ensures.count in
    let takers : length c.hand_out.new.takes ≡ n = counts.1 ∙ l.invariant.takers in
    let count : length row ≡ n = counts.0 ∙ l.invariant.takers in
    let seated = c.in_ok-hand_out.ensures.seated in
    let rows : List (List SendEnd) = ends_of l.sends.items in
    let more : ends_of c.push.new.self.items ≡ rows ++ row ∷ [] =
    ap (λ (l : List (Vec SendEnd Global)). ends_of l) c.in_ok-push.ensures.items ∙ map-append (λ (v : Vec SendEnd Global). v.items) l.sends.items (c.in_ok-hand_out.field-0 ∷ []) in
    record {
      takers = takers;
      senders = ap (λ (l : List (Vec SendEnd Global)). length l) c.in_ok-push.ensures.items ∙ length-append l.sends.items (c.in_ok-hand_out.field-0 ∷ []) ∙ ap (λ (k : ℕ). k + 1) l.invariant.senders;
      next = c.in_ok-hand_out.ensures.next;
      unused = still_unused n l.takes c.hand_out.new.takes row count takers l.invariant.takers seated l.invariant.unused;
      rows =
          subst (λ (all : List (List SendEnd)). (v : ℕ) → v < l.node + 1 → IsNewRow n v c.hand_out.new.takes (of_node v all)) (sym more)
          (rows_more n l.node l.takes c.hand_out.new.takes rows row (length-map l.sends.items (λ (v : Vec SendEnd Global). v.items) ∙ l.invariant.senders) l.invariant.rows
          (same_takers n l.takes c.hand_out.new.takes row count seated) (new_row n l.node l.takes c.hand_out.new.takes row count takers c.in_ok-hand_out.ensures.own seated));
    }

pub returns-clause-new : goal.returns-clause-new
returns-clause-new c =
    let l = c.loop-node in
    let n = c.args.nodes in
    let all : l.node ≡ n = omega (arith, c.loop-node-test.false, l.auto.node-end) in
    let rows = subst (λ (k : ℕ). (v : ℕ) → v < k → IsNewRow n v l.takes (of_node v (ends_of l.sends.items))) all l.invariant.rows in
    record {
      wired = record {
        takers_count = l.invariant.takers;
        senders_count = length-map l.sends.items (λ (v : Vec SendEnd Global). v.items) ∙ l.invariant.senders ∙ all;
        takers = λ k d low.
            let low2 : k < length l.takes = omega (arith, low, l.invariant.takers) in
            ((l.invariant.next k d low2).0, (l.invariant.next k d low2).1 ∙ all, (l.invariant.unused k d low2).1);
        rows = λ v low. (rows v low).row;
      };
      heard = λ k d low. (l.invariant.unused k d (omega (arith, low, l.invariant.takers))).0;
      put = λ v low. (rows v low).unused;
    }
