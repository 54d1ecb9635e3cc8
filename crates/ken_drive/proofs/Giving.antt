-- Devices of nodes are given away, one node after another.
use Rattle.std.proofs.Common.{◌≡◌, ◌-◌, ◌≢◌, ℕ, ◌+◌, ◌<◌, ◌≤◌, ◌⊎◌, ⊎_elim, List, [], ◌∷◌, ◌++◌, length, slice_index_or, Option, Some, refl, sym, ap, subst, ◌∙◌, arith}
use Rattle.std.proofs.lemmas.Bool.{cases_eq}
use Rattle.std.proofs.lemmas.List.{length-append}
use Rattle.ken_store.specs.declared.disks.Disks.{Disks}
use Rattle.ken_node.specs.declared.watched.Watched.{Watched}
use Rattle.ken_node.specs.Stages.{HasDisks}
use Rattle.ken_run.specs.declared.station.Station.{Station}
use Rattle.ken_drive.specs.Finishing.{WasKept}

-- the first so many of these were given, each to its place, and the others are to come
pub record AreGiven {X K : Type 0} (P : X → K → Type 0) (all rest : List X) (count : ℕ) (old new : ℕ → K) : Type 0 where
  pub before : List X
  pub parts : all ≡ before ++ rest
  pub counted : length before ≡ count
  pub given : (v : ℕ) (d : X) → v < count → P (slice_index_or all v d) (new v)
  pub others : (v : ℕ) → count ≤ v → new v ≡ old v

at-seam : {X : Type 0} (before : List X) (x : X) (rest : List X) (d : X) → slice_index_or (before ++ x ∷ rest) (length before) d ≡ x
at-seam [] x rest d = refl
at-seam (b ∷ before) x rest d = at-seam before x rest d

moved : {X : Type 0} (before : List X) (x : X) (rest : List X) → before ++ x ∷ rest ≡ (before ++ x ∷ []) ++ rest
moved [] x rest = refl
moved (b ∷ before) x rest = ap (λ xs. b ∷ xs) (moved before x rest)

module _ {X K : Type 0} (P : X → K → Type 0) (all : List X) where
  pub none-given : (old : ℕ → K) → AreGiven P all all 0 old old
  none-given old = record { before = []; parts = refl; counted = refl; given = λ v d below. absurd (omega (arith, below)); others = λ v above. refl }

  pub one-given : (x : X) (rest : List X) (count : ℕ) (old mid new : ℕ → K) → AreGiven P all (x ∷ rest) count old mid → P x (new count) → ((v : ℕ) → v ≢ count → new v ≡ mid v) → AreGiven P all rest (count + 1) old new
  one-given x rest count old mid new is here others = record {
    before = is.before ++ x ∷ [];
    parts = is.parts ∙ moved is.before x rest;
    counted = length-append is.before (x ∷ []) ∙ (let counted = is.counted in omega (arith, counted));
    given = λ v d below. ⊎_elim
        (λ (same : v ≡ count). subst (λ (u : ℕ). P (slice_index_or all u d) (new u)) (sym same) (subst (λ (y : X). P y (new count)) (sym (placed d)) here))
        (λ other. subst (P (slice_index_or all v d)) (sym (others v other)) (is.given v d (omega (arith, below, other))))
        (cases_eq v count);
    others = λ v above. others v (λ same. omega (arith, above, same)) ∙ is.others v (omega (arith, above));
  }
    where
      placed : (d : X) → slice_index_or all count d ≡ x
      placed d = ap (λ xs. slice_index_or xs count d) is.parts ∙ ap (λ k. slice_index_or (is.before ++ x ∷ rest) k d) (sym is.counted) ∙ at-seam is.before x rest d

  pub room-left : (x : X) (rest : List X) (count most : ℕ) (old new : ℕ → K) → AreGiven P all (x ∷ rest) count old new → length all ≤ most → count < most
  room-left x rest count most old new is few =
      let long = ap length is.parts ∙ length-append is.before (x ∷ rest) in
      let counted = is.counted in
      omega (arith, long, counted, few)

  -- none is to come
  pub all-given : (rest : List X) (count most : ℕ) (old new : ℕ → K) → AreGiven P all rest count old new → length all ≤ most → most < 255 → (255 - count ≡ 0) ⊎ (length rest ≡ 0) → length all ≡ count
  all-given rest count most old new is few small ends =
      let long = ap length is.parts ∙ length-append is.before rest in
      let counted = is.counted in
      ⊎_elim (λ full. omega (arith, long, counted, few, small, full)) (λ none. omega (arith, long, counted, none)) ends

-- the disks of a station's node that were released were kept without their watch
abbrev disks_of : {D : Type 0} → D → D → D → Disks D
disks_of l i s = record { log = l; image = i; second = s }

pub was-kept : {D O U : Type 0} (s : Station D O U) (disks : Disks (Watched D)) (log image second : D) (kept : Option (Disks D × O × U)) → HasDisks disks s.node.stage → log ≡ disks.log.disk → image ≡ disks.image.disk → second ≡ disks.second.disk → kept ≡ Some (disks_of log image second, s.luck, s.out) → WasKept s kept
was-kept {D} s disks log image second kept has one two third is = record {
  disks = disks;
  has = has;
  is = is
      ∙ ap (λ (x : D). Some (disks_of x image second, s.luck, s.out)) one
      ∙ ap (λ (x : D). Some (disks_of disks.log.disk x second, s.luck, s.out)) two
      ∙ ap (λ (x : D). Some (disks_of disks.log.disk disks.image.disk x, s.luck, s.out)) third;
}
