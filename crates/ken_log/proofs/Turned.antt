-- A log goes over to another disk.
use Rattle.std.proofs.Common.{◌≡◌, ℕ, ◌+◌, ◌<◌, ◌^◌, List, [], ◌∷◌, ◌++◌, length, refl, ap, ◌∙◌, arith, Some}
use Rattle.ken_record.specs.declared.header.Header.{Header}
use Rattle.ken_record.specs.declared.base.Base.{Base}
use Rattle.ken_record.specs.Versions.{version_of}
use Rattle.ken_record.specs.Spelling.{header_bytes, base_bytes}
use Rattle.ken_record.specs.Grammar.{IsBase}
use Rattle.ken_log.specs.declared.log.Log.{Log}
use Rattle.ken_log.specs.Formats.{next_header}
use Rattle.ken_log.specs.Layout.{head_bytes, IsHead}

-- the header of the next log
pub next_is : {D : Type 0} (log : Log D) (base : Base) → IsHead log.header log.base → IsBase (version_of log.header) base → length (base_bytes (version_of log.header) base) < 2 ^ 32 → log.header.generation + 1 < 2 ^ 32 → log.header.turns + log.records < 2 ^ 64 → IsHead (next_header log base) (Some base)
next_is log base is fits short generation turns = record {
  fits = record {
    node = is.fits.node;
    nodes = is.fits.nodes;
    pages = is.fits.pages;
    generation = (omega arith, generation);
    turns = turns;
    base_len = short;
    first = λ e. absurd (let no : ⊥ = omega (arith, e, is.fits.generation.0) in no);
  };
  has = (omega (arith, is.fits.generation.0), fits, refl);
}

-- the bytes are those of the header that was made
pub spells_next : (head next : Header) (base : Base) (body : List ℕ) → head ≡ next → body ≡ (header_bytes head ++ base_bytes (version_of head) base) ++ 0 ∷ [] → body ≡ head_bytes next (Some base) ++ 0 ∷ []
spells_next head next base body is parts =
    parts ∙ ap (λ (h : Header). (header_bytes h ++ base_bytes (version_of h) base) ++ 0 ∷ []) is
