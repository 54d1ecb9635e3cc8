-- What a borrow of an owner gives. Assumes `Logic`.
use mathlib.Core.Path.{◌≡◌, refl}
use Prim.Native.Nat.{ℕ, ◌+◌}
use mathlib.Core.List.{List, [], ◌∷◌}
use seplogic.Ra.Ura.{Ura}
use base.Logic.{ent, sep}
use base.Fml.{Lft, GName, Share, Fml, fsep, flft, fobs, fauth, fbor, fobor}
use base.Fraction.{full_share}
use mir.Val.{Val}
use mir.Raw.{raw as bare}
use types.Logic.{Logic, sem}
use types.Kit.{Goal, Soaks, Item, Seq, ‵, ◌$◌, ◌∵◌, !, qed, move, keep, fsplit, fjoin, rewrite, done}
use types.SemTy.{Body as Borrowed}
use denote.RattleType.{RattleType, RowLaws}
use denote.Memory.{hidden_shr, cell_at, part_at, mem}
use denote.Opens.{shr_dup, unhide, hide}
use denote.RawPtr.{RawPtr, ptr_row_laws, block_ptr}
use denote.Param.Laws.{param_laws}
use denote.SharingLaws.{beside_shr_laws}
use denote.Steps.{opens}
use denote.Struct.Struct.{Struct, Struct-row_laws}
use denote.Struct.Owning.{Owning, shape}
use denote.Struct.Lending.{lent_at, lent_at_shr_laws}
use Rattle.core.proofs.alloc.Calls.{token}
use Rattle.std_alloc.proofs.BoxSteps.Form.{Bx, X, R, P, τ, word, handle}
use Rattle.ken_frame.specs.declared.raw.Own.{Own}
use Rattle.ken_frame.specs.contracts.raw.Own as own
use Rattle.ken_frame.proofs.Owns.{own_out}

module _ (E : Bx) where
  abbrev pub D : Type 0
  D = Own (X E) E.al.row.Denot

  abbrev pub owning : Owning
  owning = own.the_type (R E) (P E) E.al.g

  abbrev pub B : RattleType
  B = own.the_row (R E) (P E) E.al.g

  pub row_laws : RowLaws B
  row_laws d b o = beside_shr_laws ((Struct (shape owning)).shr_at (d.at, (d.alloc, tt)) b o) (lent_at (R E) d.at d.value)
      (Struct-row_laws (shape owning) (ptr_row_laws, (E.al.laws.shr_laws, tt)) (d.at, (d.alloc, tt)) b o) (lent_at_shr_laws (R E) E.laws.shr_laws d.at d.value)

module _ (E : Bx) {M : Type 1} {𝓤 : Ura M} (𝓛 : Logic 𝓤) (κ : Lft) (b o : ℕ) (d : D E) where
  abbrev Words : RattleType
  Words = Struct (shape (owning E))

  abbrev fields : Words.Denot
  fields = (d.at, (d.alloc, tt))

  abbrev S : Fml
  S = hidden_shr Words κ fields b o

  -- a `&` to the fields shows the pointer
  pub shows_pointer : ent 𝓤 (sem 𝓛 S) (sep 𝓤 (sem 𝓛 (hidden_shr RawPtr κ d.at b (o + 0))) (sem 𝓛 S))
  shows_pointer = qed 𝓛 (‵ S ∷ []) ∵ shr_dup ! Words (Struct-row_laws (shape (owning E)) (ptr_row_laws, (E.al.laws.shr_laws, tt))) fields b o κ $
      unhide ! $ fsplit ! $ fsplit ! $ hide ! $ keep ! (0 ∷ 3 ∷ []) $ done !

module _ (E : Bx) {M : Type 1} {𝓤 : Ura M} {𝓛 : Logic 𝓤} {K : Type 0} {Γ : List (Item 𝓤)} {G : Goal 𝓤 𝓛.H} where
  -- behind a `&mut`: the value, what frees it with the handle, the word, and the open borrow in three entries
  pub opens_own : K → Soaks G → {κ : Lft} {q : Share} {γ : GName} (d : D E) (rb ro : ℕ)
      → ((b o : ℕ) (hv : Val) → d.at ≡ block_ptr b o → Seq K 𝓛 (‵ (part_at (R E) full_share d.value b o) ∷ ‵ (fsep (token E.al d.alloc (bare (τ E)) (block_ptr b o)) (handle E d.alloc hv)) ∷ ‵ (cell_at full_share (B E).mir (word E hv b o ∷ []) rb ro)
      ∷ ‵ (fobor κ q (Borrowed (mem (B E)) rb ro γ)) ∷ ‵ (fobs γ ((B E).coded.code d)) ∷ ‵ (fauth γ ((B E).coded.code d)) ∷ Γ) G)
      → Seq K 𝓛 (‵ (fobs γ ((B E).coded.code d)) ∷ ‵ (fbor κ (Borrowed (mem (B E)) rb ro γ)) ∷ ‵ (flft κ q) ∷ Γ) G
  opens_own t z d rb ro k =
      opens t z (B E) {h = d} rb ro (λ vs. move t (1 ∷ []) $ own_out (R E) (P E) (param_laws 1 E.al.row E.al.laws) E.al.g t d vs (λ b o hv e ws fa. fsplit t $ move t (1 ∷ 2 ∷ []) $ fjoin t $ move t (1 ∷ []) $
      rewrite t 2 (λ (us : List Val). ‵ (cell_at full_share (B E).mir us rb ro)) ws refl $ k b o hv e))
