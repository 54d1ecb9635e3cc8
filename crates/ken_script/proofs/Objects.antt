-- A text stands for one object at most.
use Rattle.std.proofs.Common.{◌≡◌, ℕ, ◌<◌, List, length, Option, Some, None, is_some, false, arith, refl, sym, ◌∙◌, subst}
use Rattle.std.specs.Str.{IsUtf8}
use Rattle.serde_json.specs.Data.{Data}
use Rattle.serde_json.specs.Read.{read}
use Rattle.serde_json.specs.Find.{as_object}
use Rattle.ken_script.specs.declared.scripts.TheConstants.{LIMIT}
use Rattle.ken_script.specs.Object.{IsObject}
use Rattle.ken_script.specs.declared.faults.ScriptFault.{ScriptFault}
use Rattle.ken_script.specs.declared.faults.ScriptFault.TheVariants.{Rule, Memory}
use Rattle.ken_script.specs.Faults.{BreaksBy, no_object, in_object, fault_in, IsNoObject, IsFaultOf, IsFaultIn}
use Rattle.ken_script.specs.Service.{IsServiceFaultOf, service_fault, foreign_key, with_kind}

pub same_object : (b : List ℕ) (d e : Data) → IsObject b d → IsObject b e → d ≡ e
same_object b d e one other = let both : ◌≡◌ {A = _} (Some d) (Some e) = sym one.value ∙ other.value in cc

-- a text that is too long, or that reads as nothing or as no object, is none
pub is_short : (b : List ℕ) → LIMIT < length b → (d : Data) → IsObject b d → ⊥
is_short b long d o = let short = o.short in absurd (omega arith)

pub too_long : (b : List ℕ) → LIMIT < length b → IsNoObject b (Rule 1 0)
too_long b long = (refl, refl, is_short b long)

pub no_value : (b : List ℕ) → (IsUtf8 b → read b ≡ None) → IsNoObject b (Rule 1 0)
no_value b none = (refl, refl, λ d o. let is = o.value in let isn't = none o.text in absurd cc)

pub no_members : (b : List ℕ) (d : Data) → read b ≡ Some d → is_some (as_object d) ≡ false → IsNoObject b (Rule 1 0)
no_members b d is none = (refl, refl, λ e o. let other = o.value in let some = o.members in absurd cc)

-- what is right about an object is right about its text, in each language
pub fault_of_text : (b : List ℕ) (d : Data) (fault : ScriptFault) → IsObject b d → IsFaultIn d fault → IsFaultOf b fault
fault_of_text b d (Rule rule index) o e = in_object d rule index o e
fault_of_text b d Memory o e = tt

pub service_fault_of_text : (b : List ℕ) (d : Data) (fault : ScriptFault) → IsObject b d → foreign_key d ≡ None → IsFaultIn (with_kind d) fault → IsServiceFaultOf b fault
service_fault_of_text b d (Rule rule index) o keys e = in_object d rule index o (rw keys e)
service_fault_of_text b d Memory o keys e = tt

pub foreign_of_text : (b : List ℕ) (d : Data) (place : ℕ) → IsObject b d → foreign_key d ≡ Some place → IsServiceFaultOf b (Rule 2 place)
foreign_of_text b d place o key = in_object d 2 place o (rw key refl)

broken_none : (fault : Data → Option (ℕ × ℕ)) (b : List ℕ) (rule index : ℕ) → (rule ≡ 1) → (index ≡ 0) → ((d : Data) → IsObject b d → ⊥) → BreaksBy fault b rule index
broken_none fault b rule index one zero none = subst (λ r. BreaksBy fault b r index) (sym one) (subst (λ i. BreaksBy fault b 1 i) (sym zero) (no_object none))

pub fault_of_none : (b : List ℕ) (fault : ScriptFault) → IsNoObject b fault → IsFaultOf b fault
fault_of_none b (Rule rule index) is = broken_none fault_in b rule index is.0 is.1 is.2
fault_of_none b Memory is = tt

pub service_fault_of_none : (b : List ℕ) (fault : ScriptFault) → IsNoObject b fault → IsServiceFaultOf b fault
service_fault_of_none b (Rule rule index) is = broken_none service_fault b rule index is.0 is.1 is.2
service_fault_of_none b Memory is = tt
