-- The ends of a round's wires are the same after it, whatever went over them.
use Rattle.std.proofs.Common.{◌≡◌, ◌∙◌, ℕ, ◌<◌, List, length, sym, subst}
use Rattle.std.specs.Prelude.{slice_index_or}
use Rattle.ken_net.specs.Puts.{Put}
use Rattle.ken_wire.specs.declared.send_end.SendEnd.{SendEnd}
use Rattle.ken_wire.specs.declared.take_end.TakeEnd.{TakeEnd}
use Rattle.ken_wire.specs.Ends.{IsEndOf, joined_of, made_of, SameSender, SameTaker}
use Rattle.ken_wire.specs.Nets.{EndsGrew, Heard}
use Rattle.ken_threads.specs.Wires.{AreWired, IsRow, of_node}

-- the same taking end
pub record SameTake (old new : TakeEnd) : Type 0 where
  pub same : SameTaker old new
  pub made : made_of new ≡ made_of old
  pub joined : joined_of new ≡ joined_of old

-- and the same sending ends
pub record SameSends (old new : List SendEnd) : Type 0 where
  pub count : length new ≡ length old
  pub each : (k : ℕ) (d : SendEnd) → k < length old → SameSender (slice_index_or old k d) (slice_index_or new k d)

pub heard-same : (old new : TakeEnd) (packets : List (List ℕ)) → Heard old new packets → SameTake old new
heard-same old new packets is = record { same = is.end.0; made = is.end.1; joined = is.end.2 }

pub grew-same : (old new : List SendEnd) (ps : List Put) → EndsGrew old new ps → SameSends old new
grew-same old new ps is = record { count = is.count; each = λ k d low. (is.each k d low).0 }

-- ---- all wires

module _ (n : ℕ) (takes takes2 : List TakeEnd) (sends sends2 : List (List SendEnd)) where
  end-still : (a b : TakeEnd) (x y : SendEnd) → SameTaker a b → SameSender x y → IsEndOf a x → IsEndOf b y
  end-still a b x y taker sender is = (sender.0 ∙ is.0 ∙ sym taker.0, sender.2 ∙ is.1 ∙ sym taker.1)

  row-still : (v : ℕ) → ((k : ℕ) (d : TakeEnd) → k < n → SameTake (slice_index_or takes k d) (slice_index_or takes2 k d)) → (ends ends2 : List SendEnd) → SameSends ends ends2 → IsRow n v takes ends → IsRow n v takes2 ends2
  row-still v same_takes ends ends2 same row = record {
    count = same.count ∙ row.count;
    own = λ k d low.
        let before : k < length ends = subst (λ (m : ℕ). k < m) same.count low in
        let is = same.each k d before in
        let own = row.own k d before in
        (is.1 ∙ own.0, is.2 ∙ own.1);
    wires = λ k d e low.
        end-still (slice_index_or takes k d) (slice_index_or takes2 k d) (slice_index_or ends k e) (slice_index_or ends2 k e) (same_takes k d low).same
        (same.each k e (subst (λ (m : ℕ). k < m) (sym row.count) low)) (row.wires k d e low);
  }

  pub wired-still : AreWired n takes sends → length takes2 ≡ n → length sends2 ≡ n
      → ((k : ℕ) (d : TakeEnd) → k < n → SameTake (slice_index_or takes k d) (slice_index_or takes2 k d)) → ((v : ℕ) → v < n → SameSends (of_node v sends) (of_node v sends2))
      → AreWired n takes2 sends2
  wired-still wired takers senders same_takes same_sends = record {
    takers_count = takers;
    senders_count = senders;
    takers = λ k d low.
        let is = same_takes k d low in
        let was = wired.takers k d low in
        (is.same.1 ∙ was.0, is.made ∙ was.1, is.joined ∙ was.2);
    rows = λ v low. row-still v same_takes (of_node v sends) (of_node v sends2) (same_sends v low) (wired.rows v low);
  }
