-- Links that are made, and what is kept of a put.
use Rattle.std.proofs.Common.{◌≡◌, ◌∙◌, ℕ, ◌+◌, ◌<◌, true, ◌==◌, zero, suc, List, [], ◌∷◌, ◌++◌, length, Option, Some, None, refl, sym, ap, subst, arith, below_more, eq-eqb}
use Rattle.ken_model.specs.declared.messages.Message.{Message}
use Rattle.ken_packet.specs.Packets.{sender}
use Rattle.ken_packet.specs.Reading.{packet_of}
use Rattle.ken_net.specs.declared.act.Act.{Act}
use Rattle.ken_net.specs.declared.act.Act.TheVariants.{Lose, Repeat, Hold}
use Rattle.ken_net.specs.declared.act.LinkAct.{LinkAct}
use Rattle.ken_net.specs.declared.link.Kept.{Kept}
use Rattle.ken_net.specs.Acts.{act_of, held}
use Rattle.ken_net.specs.Puts.{MayPut, receiver, is_between}
use Rattle.ken_net.specs.Standings.{Standing, link_to, act_at, are_between}
use Rattle.ken_net.proofs.Both.{both}
use Rattle.ken_net.proofs.Turns.{between_append}

-- ---- one link more

abbrev pub IsFresh : Standing → Type 0
IsFresh s = (s.puts ≡ 0) × (s.kept ≡ [])

before : (links : List Standing) (x : Standing) (v : ℕ) → v < length links → link_to v (links ++ x ∷ []) ≡ link_to v links
before [] x v low = absurd (omega (arith, low))
before (l ∷ ls) x zero low = refl
before (l ∷ ls) x (suc v) low = before ls x v (omega (arith, low))

last : (links : List Standing) (x : Standing) → link_to (length links) (links ++ x ∷ []) ≡ x
last [] x = refl
last (l ∷ ls) x = last ls x

pub one_fresh : (links : List Standing) (x : Standing) → IsFresh x → ((v : ℕ) → IsFresh (link_to v links)) → (v : ℕ) → IsFresh (link_to v (links ++ x ∷ []))
one_fresh [] x fresh all zero = fresh
one_fresh [] x fresh all (suc v) = (refl, refl)
one_fresh (l ∷ ls) x fresh all zero = all zero
one_fresh (l ∷ ls) x fresh all (suc v) = one_fresh ls x fresh (λ w. all (suc w)) v

pub one_acts : (acts : List LinkAct) (from : ℕ) (links : List Standing) (x : Standing) (k : ℕ) → length links ≡ k
    → ((n : ℕ) → act_at n x ≡ act_of acts from k n)
    → ((v n : ℕ) → v < k → act_at n (link_to v links) ≡ act_of acts from v n)
    → (v n : ℕ) → v < k + 1 → act_at n (link_to v (links ++ x ∷ [])) ≡ act_of acts from v n
one_acts acts from links x k long here all v n low =
    let P : ℕ → Type 0 = λ w. act_at n (link_to w (links ++ x ∷ [])) ≡ act_of acts from w n in
    let earlier : (w : ℕ) → w < k → P w = λ w small. ap (act_at n) (before links x w (omega (arith, small, long))) ∙ all w n small in
    let now : P k = subst P long (ap (act_at n) (last links x) ∙ subst (λ (w : ℕ). act_at n x ≡ act_of acts from w n) (sym long) (here n)) in
    below_more P k earlier now v low

-- ---- what is kept is of its link

pub may_between : {from to : ℕ} {sealed : List Message} {consumed : List (ℕ × ℕ)} {bytes : List ℕ} → MayPut from to sealed consumed bytes → is_between from to (packet_of bytes) ≡ true
may_between {from = from} {to = to} may = rw may.is (both (sender may.packet == from) (receiver may.packet == to) (eq-eqb (sender may.packet) from may.of_node) (eq-eqb (receiver may.packet) to may.for_node))

held_between : (from to : ℕ) (act : Option Act) (bytes : List ℕ) → is_between from to (packet_of bytes) ≡ true → are_between from to (held act bytes) ≡ true
held_between from to None bytes e = refl
held_between from to (Some Lose) bytes e = refl
held_between from to (Some Repeat) bytes e = refl
held_between from to (Some (Hold k)) bytes e = both (is_between from to (packet_of bytes)) true e refl

pub keeps : {from to : ℕ} {sealed : List Message} {consumed : List (ℕ × ℕ)} {bytes : List ℕ} → (act : Option Act) (kept : List Kept) → MayPut from to sealed consumed bytes
    → are_between from to kept ≡ true → are_between from to (kept ++ held act bytes) ≡ true
keeps {from = from} {to = to} {bytes = bytes} act kept may own = between_append from to kept (held act bytes) own (held_between from to act bytes (may_between may))
