-- The languages of scripts, of which a text is read only as far as one byte past the longest.
use Rattle.std.proofs.Common.{◌≡◌, ℕ, ◌+◌, ◌<◌, ◌≤◌, inl, inr, List, length, take, Option, Some, None, refl, sym, ap, ◌∙◌, subst, arith, ◌*◌, codes}
use Rattle.std.proofs.lemmas.List.{take_all, length-take}
use Rattle.std.proofs.lemmas.Bool.{cases_lt}
use Rattle.serde_json.specs.Data.{Data}
use Rattle.ken_script.specs.declared.scripts.TheConstants.{LIMIT}
use Rattle.ken_script.specs.declared.scripts.Script.{Script}
use Rattle.ken_model.specs.declared.facts.Facts.{Facts}
use Rattle.ken_model.specs.declared.facts.TheConstants.{PAGE}
use Rattle.ken_script.specs.Keys.{nodes_of, kind_in, pages_of, seed_of, rounds_of, turns_of, restarts_of}
use Rattle.ken_script.specs.Faults.{Breaks, BreaksBy, no_object, in_object, inputs_in, cuts_in, acts_in, out_fails_in, fault_in}
use Rattle.ken_script.specs.Says.{States, SaysBy, Says}
use Rattle.ken_script.specs.Service.{StatesService, SaysService, BreaksService, service_fault, foreign_key, with_kind}
use Rattle.ken_script.specs.Laws.{IsLanguage}
use Rattle.ken_script.proofs.Objects.{same_object, is_short}

long_front : (b : List ℕ) → LIMIT < length b → LIMIT < length (take (LIMIT + 1) b)
long_front b long = simp length-take (omega arith)

whole_front : (b : List ℕ) → length b ≤ LIMIT → take (LIMIT + 1) b ≡ b
whole_front b short = take_all (LIMIT + 1) b (omega arith)

same_pair : (rule index rule' index' : ℕ) → ◌≡◌ {A = Option (ℕ × ℕ)} (Some (rule, index)) (Some (rule', index')) → (rule ≡ rule') × (index ≡ index')
same_pair rule index rule' index' e = let pair : ◌≡◌ {A = ℕ × ℕ} (rule, index) (rule', index') = cc in (ap (λ p. p.0) pair, ap (λ p. p.1) pair)

module _ (fault : Data → Option (ℕ × ℕ)) where
  -- two texts that are too long break the same rule
  both_long : (b c : List ℕ) {rule index : ℕ} → LIMIT < length b → LIMIT < length c → BreaksBy fault b rule index → BreaksBy fault c rule index
  both_long b c long longer (no_object none) = no_object (is_short c longer)
  both_long b c long longer (in_object d rule index o e) = absurd (is_short b long d o)

  breaks_by_front : (b : List ℕ) (rule index : ℕ) → BreaksBy fault (take (LIMIT + 1) b) rule index → BreaksBy fault b rule index
  breaks_by_front b rule index h =
      elim (cases_lt LIMIT (length b)) [ inl long ↦ both_long (take (LIMIT + 1) b) b (long_front b long) long h | inr short ↦ subst (λ c. BreaksBy fault c rule index) (whole_front b short) h ]

  breaks_once : (b : List ℕ) {rule index rule' index' : ℕ} → BreaksBy fault b rule index → BreaksBy fault b rule' index' → (rule ≡ rule') × (index ≡ index')
  breaks_once b (no_object none) (no_object other) = (refl, refl)
  breaks_once b (no_object none) (in_object d rule index o e) = absurd (none d o)
  breaks_once b (in_object d rule index o e) (no_object none) = absurd (none d o)
  breaks_once b (in_object d rule index o e) (in_object d' rule' index' o' e') = same_pair rule index rule' index' (sym e ∙ ap fault (same_object b d d' o o') ∙ e')

  module _ (states : Data → Script → Type 0) where
    says_by_front : (b : List ℕ) (s : Script) → SaysBy states (take (LIMIT + 1) b) s → SaysBy states b s
    says_by_front b s h =
        elim (cases_lt LIMIT (length b)) [ inl long ↦ absurd (is_short (take (LIMIT + 1) b) (long_front b long) h.members h.object) | inr short ↦ subst (λ c. SaysBy states c s) (whole_front b short) h ]

    says_or_breaks : ((d : Data) (s : Script) → states d s → fault d ≡ None) → (b : List ℕ) (s : Script) {rule index : ℕ} → SaysBy states b s → BreaksBy fault b rule index → ⊥
    says_or_breaks right b s says (no_object none) = none says.members says.object
    says_or_breaks right b s says (in_object d rule index o e) = let is = right says.members s says.states in let same = same_object b says.members d says.object o in cc

    says_once : ((d : Data) (s s' : Script) → states d s → states d s' → s ≡ s') → (b : List ℕ) (s s' : Script) → SaysBy states b s → SaysBy states b s' → s ≡ s'
    says_once once b s s' a c = once a.members s s' a.states (subst (λ d. states d s') (same_object b c.members a.members c.object a.object) c.states)

    language : ((d : Data) (s : Script) → states d s → fault d ≡ None) → ((d : Data) (s s' : Script) → states d s → states d s' → s ≡ s') → IsLanguage (SaysBy states) (BreaksBy fault)
    language right once = record {
      breaks_by_front = breaks_by_front;
      says_by_front = says_by_front;
      says_or_breaks = λ b s rule index says breaks. says_or_breaks right b s says breaks;
      breaks_once = λ b rule index rule' index' one other. breaks_once b one other;
      says_once = says_once once;
    }

same_value : {T : Type 0} (o : Option T) (x y : T) → o ≡ Some x → o ≡ Some y → x ≡ y
same_value o x y one other = let some : Some x ≡ Some y = sym one ∙ other in cc

same_facts : (f g : Facts) → f.nodes ≡ g.nodes → f.kind ≡ g.kind → f.size ≡ g.size → f.turns ≡ g.turns → f.inputs ≡ g.inputs → f ≡ g
same_facts f g nodes kind size turns inputs = grind arith

same_script : (s s' : Script) → s.facts ≡ s'.facts → s.seed ≡ s'.seed → s.rounds ≡ s'.rounds → s.restarts ≡ s'.restarts → s.cuts ≡ s'.cuts → s.mail ≡ s'.mail → s.acks ≡ s'.acks → s.outlets ≡ s'.outlets → s ≡ s'
same_script s s' facts seed rounds restarts cuts mail acks outlets = grind arith

states_once : (d : Data) (s s' : Script) → States d s → States d s' → s ≡ s'
states_once d s s' a b =
    let facts : s.facts ≡ s'.facts = same_facts s.facts s'.facts (same_value (nodes_of d) _ _ a.nodes b.nodes) (same_value (kind_in d) _ _ a.kind b.kind) (a.size ∙ ap (λ n. PAGE * n) (same_value (pages_of d) _ _ a.told_pages b.told_pages) ∙ sym b.size) (same_value (turns_of d) _ _ a.turns b.turns) (same_value (inputs_in d) _ _ a.inputs b.inputs) in
    let seed : s.seed ≡ s'.seed = same_value (seed_of d) _ _ a.seed b.seed in
    let rounds : s.rounds ≡ s'.rounds = same_value (rounds_of d) _ _ a.rounds b.rounds in
    let restarts : s.restarts ≡ s'.restarts = same_value (restarts_of d) _ _ a.restarts b.restarts in
    let cuts : s.cuts ≡ s'.cuts = same_value (cuts_in d) _ _ a.cuts b.cuts in
    let mail : s.mail ≡ s'.mail = same_value (acts_in (codes "mail") d) _ _ a.mail b.mail in
    let acks : s.acks ≡ s'.acks = same_value (acts_in (codes "acks") d) _ _ a.acks b.acks in
    let outlets : s.outlets ≡ s'.outlets = same_value (out_fails_in d) _ _ a.outlets b.outlets in
    same_script s s' facts seed rounds restarts cuts mail acks outlets

pub kinds_language : IsLanguage Says Breaks
kinds_language = language fault_in States (λ d s states. states.right) states_once

service_right : (d : Data) (s : Script) → StatesService d s → service_fault d ≡ None
service_right d s states = let keys = states.keys in let right = states.states.right in rw keys right

pub service_language : IsLanguage SaysService BreaksService
service_language = language service_fault StatesService service_right (λ d s s' one other. states_once (with_kind d) s s' one.states other.states)
