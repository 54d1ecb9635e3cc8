-- The wires of one kind, by the ends that the nodes had of them in a round.
use Rattle.std.proofs.Common.{◌≡◌, ◌∙◌, ℕ, ◌<◌, List, [], length, Vec, Global, sym, ap, subst, arith}
use Rattle.std.specs.Prelude.{slice_index_or}
use Rattle.std.specs.List.{Contains}
use Rattle.std.proofs.lemmas.List.{length-map}
use Rattle.ken_net.specs.declared.base.Base as base
use Rattle.ken_net.specs.declared.lossy.Lossy.{Lossy}
use Rattle.ken_net.specs.declared.net.Net as net
use Rattle.ken_net.specs.Puts.{MayPut}
use Rattle.ken_net.specs.Standings.{all_passed}
use Rattle.ken_wire.specs.declared.send_end.SendEnd.{SendEnd}
use Rattle.ken_wire.specs.declared.take_end.TakeEnd.{TakeEnd}
use Rattle.ken_wire.specs.declared.wire_net.WireNet.{WireNet}
use Rattle.ken_wire.specs.Ends.{heard_of}
use Rattle.ken_threads.specs.declared.wiring.Wiring.{Wiring}
use Rattle.ken_threads.specs.Rounds.{AreWires, CameFrom}
use Rattle.ken_threads.specs.Wires.{AreNew, AreWired, Carry, ends_of, IsUnused, of_node, sent_at}
use Rattle.ken_threads.proofs.Kept.{grew-same, heard-same, SameSends, SameTake, wired-still}
use Rattle.ken_threads.proofs.Rows.{row_items}
use Rattle.ken_threads.proofs.Went.{Went}

-- as many sending ends as rows of them
pub rows_count : (sends : List (Vec SendEnd Global)) → length (ends_of sends) ≡ length sends
rows_count sends = length-map sends (λ (x : Vec SendEnd Global). x.items)

module _ {R : Type 0} {b : base.Ghosts (WireNet R)} (e : net.Ghosts (Lossy (WireNet R) b)) (old new : Wiring) where
  -- node v takes by the one end of a network, and puts by the other: before a round, and after it
  pub record HasEnds (v : ℕ) (taker putter taker2 putter2 : Lossy (WireNet R) b) : Type 0 where
    pub take : (t : TakeEnd) → taker.base.take ≡ slice_index_or old.takes.items v t
    pub take2 : (t : TakeEnd) → taker2.base.take ≡ slice_index_or new.takes.items v t
    pub sends : (s : Vec SendEnd Global) → putter.base.sends ≡ slice_index_or old.sends.items v s
    pub sends2 : (s : Vec SendEnd Global) → putter2.base.sends ≡ slice_index_or new.sends.items v s
    pub took : Went e taker taker2
    pub put : Went e putter putter2

-- so all nodes: the wires are whole still, and only what was put can have been taken
pub record Served {R : Type 0} {b : base.Ghosts (WireNet R)} (n : ℕ) (new : Wiring) (takers putters takers2 putters2 : ℕ → Lossy (WireNet R) b) : Type 0 where
  pub wired : AreWired n new.takes.items (ends_of new.sends.items)
  pub unheard : (v : ℕ) → v < n → heard_of (takers v).base.take ≡ []
  pub unsent : (v : ℕ) → v < n → IsUnused (putters v).base.sends.items
  pub came : Carry n new.takes.items (ends_of new.sends.items) → CameFrom n takers2 putters2

module _ {R : Type 0} {b : base.Ghosts (WireNet R)} {e : net.Ghosts (Lossy (WireNet R) b)} (over_wires : AreWires e) (n : ℕ) (old new : Wiring) (takers putters takers2 putters2 : ℕ → Lossy (WireNet R) b)
    (before : AreNew n old.takes.items (ends_of old.sends.items)) (count : (length new.takes.items ≡ n) × (length new.sends.items ≡ n))
    (each : (v : ℕ) → v < n → HasEnds e old new v (takers v) (putters v) (takers2 v) (putters2 v)) where
  row_of : (w : Wiring) (v : ℕ) (row : Vec SendEnd Global) → v < length w.sends.items → row ≡ slice_index_or w.sends.items v row → row.items ≡ of_node v (ends_of w.sends.items)
  row_of w v row low is = ap (λ (x : Vec SendEnd Global). x.items) is ∙ sym (row_items w.sends.items v row low)

  row_at : (v : ℕ) → v < n → (putters v).base.sends.items ≡ of_node v (ends_of old.sends.items)
  row_at v low =
      let rows = before.wired.senders_count in
      let long = rows_count old.sends.items in
      row_of old v (putters v).base.sends (omega (arith, low, rows, long)) ((each v low).sends (putters v).base.sends)

  row2_at : (v : ℕ) → v < n → (putters2 v).base.sends.items ≡ of_node v (ends_of new.sends.items)
  row2_at v low = let rows = count.1 in row_of new v (putters2 v).base.sends (omega (arith, low, rows)) ((each v low).sends2 (putters2 v).base.sends)

  wires_stay : AreWired n new.takes.items (ends_of new.sends.items)
  wires_stay =
      wired-still n old.takes.items new.takes.items (ends_of old.sends.items) (ends_of new.sends.items) before.wired count.0 (rows_count new.sends.items ∙ count.1)
      (λ k t low.
      let is = each k low in
      let same = heard-same (takers k).base.take (takers2 k).base.take is.took.packets (over_wires.hears (takers k) (takers2 k) is.took.packets is.took.given) in
      subst (λ (x : TakeEnd). SameTake x (slice_index_or new.takes.items k t)) (is.take t) (subst (λ (x : TakeEnd). SameTake (takers k).base.take x) (is.take2 t) same))
      (λ v low.
      let is = each v low in
      let same = grew-same (putters v).base.sends.items (putters2 v).base.sends.items (all_passed is.put.puts (putters v).links.links) (over_wires.puts (putters v) (putters2 v) is.put.puts is.put.were_put).passed_on in
      subst (λ (x : List SendEnd). SameSends x (of_node v (ends_of new.sends.items))) (row_at v low) (subst (λ (x : List SendEnd). SameSends (putters v).base.sends.items x) (row2_at v low) same))

  came_from : Carry n new.takes.items (ends_of new.sends.items) → CameFrom n takers2 putters2
  came_from carry to x bytes low there =
      let t = (takers2 to).base.take in
      let came = carry.each to t x bytes low (subst (λ (z : TakeEnd). Contains (heard_of z) bytes) ((each to low).take2 t) there) in
      let v : ℕ = came.0 in
      let known : v < n = came.1 in
      (v, known, subst (λ (ends : List SendEnd). MayPut v to (sent_at to x ends).sealed (sent_at to x ends).consumed bytes) (sym (row2_at v known)) came.2)

  pub they_served : Served n new takers putters takers2 putters2
  they_served = record {
    wired = wires_stay;
    unheard = λ v low. let t = (takers v).base.take in ap heard_of ((each v low).take t) ∙ before.heard v t low;
    unsent = λ v low. subst IsUnused (sym (row_at v low)) (before.put v low);
    came = came_from;
  }
