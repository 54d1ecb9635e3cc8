-- What each wire tells, once all its ends are back.
use Rattle.std.proofs.Common.{◌≡◌, ◌∙◌, ℕ, ◌<◌, List, [], ◌∷◌, ◌++◌, length, map, suc, refl, sym, ap, subst, inl, inr, arith}
use Rattle.std.specs.Prelude.{slice_index_or}
use Rattle.std.specs.List.{All, Contains}
use Rattle.std.proofs.lemmas.Bool.{cases_lt}
use Rattle.std.proofs.lemmas.List.{get_or_append_left, get_or-map, length-append, length-map}
use Rattle.std.proofs.Math.Seq.{get_or-append_seam}
use Rattle.ken_net.specs.Puts.{MayPut}
use Rattle.ken_wire.specs.declared.send_end.SendEnd.{SendEnd}
use Rattle.ken_wire.specs.declared.take_end.TakeEnd.{TakeEnd}
use Rattle.ken_wire.specs.declared.view.Sent.{Sent}
use Rattle.ken_wire.specs.Ends.{heard_of, joined_of, made_of, taker_of, WasHandedIn}
use Rattle.ken_wire.specs.Views.{nothing}
use Rattle.ken_threads.specs.Wires.{AreBack, AreWired, Carry, of_node, sent_at}
use Rattle.ken_threads.proofs.Rows.{some_at}

module _ {X : Type 0} (P : X → Type 0) where
  pub all_tail : (x : X) (xs : List X) → All P (x ∷ xs) → All P xs
  all_tail x xs all = λ k d low. all (suc k) d (omega (arith, low))

  pub all_push : (xs : List X) (x : X) → All P xs → P x → All P (xs ++ x ∷ [])
  all_push xs x all one k d low = elim (cases_lt k (length xs)) [
    | inl lt ↦ subst P (sym (get_or_append_left xs (x ∷ []) d k lt)) (all k d lt)
    | inr le ↦
        let is : k ≡ length xs = omega (arith, low, le, length-append xs (x ∷ [])) in
        subst P (sym (ap (λ (i : ℕ). slice_index_or (xs ++ x ∷ []) i d) is ∙ get_or-append_seam xs x [] d)) one
  ]

-- all ends came back to it
abbrev pub IsWhole : TakeEnd → Type 0
IsWhole t = length (joined_of t) ≡ made_of t

-- so it tells what it carried
abbrev pub HasTold : TakeEnd → Type 0
HasTold t = WasHandedIn (taker_of t) (joined_of t) (heard_of t)

-- where some have told, and the rest may
pub record HaveTold (all done rest : List TakeEnd) : Type 0 where
  pub split : done ++ rest ≡ all
  pub told : All HasTold done
  pub whole : All IsWhole rest

pub are_whole : (n : ℕ) (sends : List (List SendEnd)) (old new : List TakeEnd) → AreWired n old sends → AreBack n sends old new → All IsWhole new
are_whole n sends old new wired back k d low =
    let low2 : k < n = omega (arith, low, back.count) in
    let e : SendEnd = some_at (of_node k sends) k (omega (arith, low2, (wired.rows k low2).count)) in
    ap (λ (l : List Sent). length l) (back.joined k d e low2) ∙ length-map sends (sent_at k e) ∙ wired.senders_count ∙ sym (back.made k d low2)

pub they_carry : (n : ℕ) (sends : List (List SendEnd)) (old new : List TakeEnd) → AreWired n old sends → AreBack n sends old new → All HasTold new → Carry n old sends
they_carry n sends old new wired back told = record {
  each = λ to d e bytes low has.
      let t : TakeEnd = slice_index_or new to d in
      let its : HasTold t = told to d (omega (arith, low, back.count)) in
      let heard : Contains (heard_of t) bytes = subst (λ (l : List (List ℕ)). Contains l bytes) (sym (back.heard to d low)) has in
      let by = its.by bytes heard in
      let k : ℕ = by.0 in
      let joined : joined_of t ≡ map (sent_at to e) sends = back.joined to d e low in
      let few : k < n = omega (arith, by.1, ap (λ (l : List Sent). length l) joined ∙ length-map sends (sent_at to e) ∙ wired.senders_count) in
      let taker : taker_of t ≡ to = (back.same to d low).1 ∙ (wired.takers to d low).0 in
      let sent : slice_index_or (joined_of t) k nothing ≡ sent_at to e (of_node k sends) =
      ap (λ (l : List Sent). slice_index_or l k nothing) joined ∙ get_or-map (sent_at to e) sends k [] nothing (omega (arith, few, wired.senders_count)) in (
        k,
        few,
        subst (λ (u : ℕ). MayPut k u (sent_at to e (of_node k sends)).sealed (sent_at to e (of_node k sends)).consumed bytes) taker
            (subst (λ (s : Sent). MayPut k (taker_of t) s.sealed s.consumed bytes) sent by.2),
      );
}

pub none_told : (all : List TakeEnd) → All IsWhole all → HaveTold all [] all
none_told all whole = record { split = refl; told = λ k d low. absurd (omega (arith, low)); whole = whole }
