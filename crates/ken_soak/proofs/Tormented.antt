-- Faults of a seed let no node go down: of each node there are few, or just those of the script.
use Rattle.std.proofs.Common.{◌≡◌, ◌∙◌, ◌⊎◌, inl, inr, ⊎_elim, ℕ, zero, suc, ◌+◌, ◌<◌, ◌≤◌, ◌==◌, ◌&&◌, List, [], ◌∷◌, length, map, get_or, filter, Bool, true, false, cond, if◌then◌else◌, refl, sym, ap, subst, arith, eqb, ne_eqb}
use Rattle.std.specs.Cmp.{decided}
use Rattle.std.specs.List.{IsDistinct, range_with_len}
use Rattle.std.specs.Set.{is_member}
use Rattle.std.proofs.lemmas.Bool.Decides.{Decides-eqb}
use Rattle.std.proofs.lemmas.List.{length-map}
use Rattle.std.proofs.lemmas.List.FromFn.{get_or-range_with_len, length-range_with_len}
use Rattle.std.proofs.lemmas.Map.Keys.{IsDistinct-from_apart}
use Rattle.std.proofs.lemmas.Map.Made.{is_member-Decides, length-le_from_is_member}
use Rattle.ken_script.specs.declared.scripts.DiskCut.{DiskCut}
use Rattle.ken_script.specs.declared.scripts.OutFail.{OutFail}
use Rattle.ken_script.specs.declared.scripts.Script.{Script}
use Rattle.ken_drive.specs.Sparing.{FailsInARow}
use Rattle.ken_drive.specs.Starting.{cut_count, cut_of, cuts_for, fails_for}
use Rattle.ken_gen.specs.Torments.{tormented}
use Rattle.ken_gen.specs.TormentLaws.{AddsFew, HasFewOrThose, TormentAddsFew}
use Rattle.ken_soak.specs.Tormenting.{TormentSpares}

-- ---- cuts

abbrev has_node : ℕ → DiskCut → Bool
has_node v c = c.node == v

abbrev has_disk : ℕ → DiskCut → Bool
has_disk disk c = c.disk == disk

-- how many of these cuts are of the three disks
abbrev at_disks : List DiskCut → ℕ
at_disks cuts = length (filter (has_disk 0) cuts) + length (filter (has_disk 1) cuts) + length (filter (has_disk 2) cuts)

filter_both : {T : Type 0} (p q : T → Bool) (xs : List T) → filter (λ x. p x && q x) xs ≡ filter q (filter p xs)
filter_both p q [] = refl
filter_both p q (x ∷ xs) = go (filter_both p q xs) (p x)
  where
    go : filter (λ y. p y && q y) xs ≡ filter q (filter p xs) → (b : Bool)
        → (if b && q x then x ∷ filter (λ y. p y && q y) xs else filter (λ y. p y && q y) xs) ≡ filter q (if b then x ∷ filter p xs else filter p xs)
    go rest true = ap (λ ys. if q x then x ∷ ys else ys) rest
    go rest false = rest

disk_count : (v disk : ℕ) (cuts : List DiskCut) → length (cuts_for v disk cuts) ≡ length (filter (has_disk disk) (filter (has_node v) cuts))
disk_count v disk cuts =
    let own : DiskCut → Bool = λ (c : DiskCut). c.node == v && c.disk == disk in
    length-map (filter own cuts) cut_of ∙ ap length (filter_both (has_node v) (has_disk disk) cuts)

all_count : (v : ℕ) (script : Script) → cut_count v script ≡ at_disks (filter (has_node v) script.cuts)
all_count v script = omega (arith, disk_count v 0 script.cuts, disk_count v 1 script.cuts, disk_count v 2 script.cuts)

one_disk : (disk : ℕ) → cond (disk == 0) 1 0 + cond (disk == 1) 1 0 + cond (disk == 2) 1 0 ≤ 1
one_disk zero = omega arith
one_disk (suc zero) = omega arith
one_disk (suc (suc zero)) = omega arith
one_disk (suc (suc (suc disk))) =
    let n : ℕ = suc (suc (suc disk)) in
    rw (ne_eqb n 0 (λ e. omega (arith, e)), ne_eqb n 1 (λ e. omega (arith, e)), ne_eqb n 2 (λ e. omega (arith, e))) (omega arith)

one_kept : (b : Bool) (c : DiskCut) (cuts : List DiskCut) → length (if b then c ∷ cuts else cuts) ≡ cond b 1 0 + length cuts
one_kept true c cuts = omega arith
one_kept false c cuts = omega arith

few_at_disks : (cuts : List DiskCut) → at_disks cuts ≤ length cuts
few_at_disks [] = omega arith
few_at_disks (c ∷ cuts) =
    omega (arith, one_disk c.disk, few_at_disks cuts, one_kept (c.disk == 0) c (filter (has_disk 0) cuts), one_kept (c.disk == 1) c (filter (has_disk 1) cuts), one_kept (c.disk == 2) c (filter (has_disk 2) cuts))

cuts_let : (seed : ℕ) (script : Script) (v : ℕ) → HasFewOrThose (has_node v) script.restarts script.cuts (tormented seed script).cuts
    → script.restarts < cut_count v (tormented seed script) → script.restarts < cut_count v script
cuts_let seed script v few more =
    let new : List DiskCut = filter (has_node v) (tormented seed script).cuts in
    ⊎_elim
    (λ short. absurd (omega (arith, more, all_count v (tormented seed script), few_at_disks new, short)))
    (λ same. let counts = ap at_disks same in omega (arith, more, all_count v (tormented seed script), all_count v script, counts))
    few

-- ---- refusals

-- 65 calls one after the other are not all among 64
in_range : (first n q : ℕ) → is_member eqb (range_with_len first n) q ≡ true → (first ≤ q) × (q < first + n)
in_range first n q is =
    let has = (is_member-Decides Decides-eqb (range_with_len first n) q).0 is in
    let at : get_or (range_with_len first n) has.0 q ≡ first + has.0 = get_or-range_with_len first n has.0 q (omega (arith, has.1, length-range_with_len first n)) in
    let q_is : q ≡ first + has.0 = sym has.2 ∙ at in
    (omega (arith, q_is), omega (arith, q_is, has.1, length-range_with_len first n))

range_distinct : (first n : ℕ) → IsDistinct eqb (range_with_len first n)
range_distinct first n = IsDistinct-from_apart eqb (range_with_len first n) (λ i j d less below.
    let width = length-range_with_len first n in
    let at_i : get_or (range_with_len first n) i d ≡ first + i = get_or-range_with_len first n i d (omega (arith, less, below, width)) in
    let at_j : get_or (range_with_len first n) j d ≡ first + j = get_or-range_with_len first n j d (omega (arith, below, width)) in
    ne_eqb _ _ (λ e. omega (arith, less, at_i, at_j, e)))

row_long : (fails : List ℕ) → FailsInARow fails → 65 ≤ length fails
row_long fails row =
    let calls : List ℕ = range_with_len row.first 65 in
    let fit = length-le_from_is_member (decided eqb Decides-eqb) calls fails (range_distinct row.first 65) (λ q is.
    let within = in_range row.first 65 q is in
    (is_member-Decides Decides-eqb fails q).1 (row.each q within.0 within.1)) in
    omega (arith, fit, length-range_with_len row.first 65)

refusals_let : (v : ℕ) (old new : List OutFail) → HasFewOrThose (λ (f : OutFail). f.node == v) 64 old new → FailsInARow (fails_for v new) → FailsInARow (fails_for v old)
refusals_let v old new few row =
    ⊎_elim
    (λ short. absurd (omega (arith, row_long (fails_for v new) row, length-map (filter (λ (f : OutFail). f.node == v) new) (λ (f : OutFail). f.call), short)))
    (λ same. subst (λ (fails : List OutFail). FailsInARow (map (λ (f : OutFail). f.call) fails)) same row)
    few

pub spares : TormentAddsFew → TormentSpares
spares adds seed script v lets =
    let few : AddsFew seed script v = adds seed script v in
    ⊎_elim
    (λ more. inl (cuts_let seed script v few.cuts more))
    (λ row. inr (refusals_let v script.outlets (tormented seed script).outlets few.outlets row))
    lets
