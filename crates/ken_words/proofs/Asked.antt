-- That what the matches ask for is what the words ask for.
use Rattle.std.proofs.Common.{◌≡◌, ◌∙◌, ◌⊎◌, Bool, true, false, inl, inr, refl, sym, ap, subst, List, [], ◌∷◌, drop, Some, None, codes}
use Rattle.std.specs.List.{list_all}
use Rattle.std.specs.Str.{bytes_eq}
use Rattle.std.proofs.lemmas.Slice.Eq.{bytes_eq-Decides}
use Rattle.clap.specs.Words.{Kinds, Shape, Text, fault_of, subcommand_of}
use Rattle.clap.specs.Walk.{rows_after}
use Rattle.clap.specs.Faults.{defaults_fault, walk_fault}
use Rattle.clap.specs.Kinds.{or_else}
use Rattle.clap.specs.declared.error.kind.ErrorKind.{ErrorKind}
use Rattle.ken_words.specs.Commands.{command_of, is_undashed}
use Rattle.ken_words.specs.Parser.{asked, asked_by, ken}
use Rattle.ken_words.proofs.Dashes.{AreUndashed, each_undashed}
use Rattle.ken_words.proofs.Entered.{enters_none, entered_faults, entered_rows, found, met}
use Rattle.ken_words.proofs.Leaves.{check_leaf, dump_leaf, faults, faults_of, rows_of, run_leaf, save_leaf, soak_leaf, torment_leaf}

-- where `clap` finds no fault, the matches ask for what the words ask for; and where it finds one, the words ask for nothing
pub record IsRead (words : List Text) : Type 0 where
  pub ok : fault_of ken words ≡ [] → asked (subcommand_of ken words) ≡ command_of words
  pub err : (fault_of ken words ≡ []) ⊎ (command_of words ≡ None)

-- ---- after a subcommand's name, by the subcommand

pub record IsLeafRead (program name : Text) (s : Shape) (words : List Text) : Type 0 where
  pub ok : faults s words ≡ [] → asked_by s.name (rows_after s.rules [] words) ≡ command_of (program ∷ name ∷ words)
  pub err : (faults s words ≡ []) ⊎ (command_of (program ∷ name ∷ words) ≡ None)

module _ {program name : Text} {s : Shape} {words : List Text} where
  refused : {x : ErrorKind} {xs : Kinds} → faults s words ≡ x ∷ xs → command_of (program ∷ name ∷ words) ≡ None
      → IsLeafRead program name s words
  refused {x} {xs} fault nothing = record { ok = λ none. (let bad : [] ≡ x ∷ xs = sym none ∙ fault in absurd cc); err = inr nothing }

  taken : faults s words ≡ [] → asked_by s.name (rows_after s.rules [] words) ≡ command_of (program ∷ name ∷ words)
      → IsLeafRead program name s words
  taken none same = record { ok = λ _. same; err = inl none }

-- other numbers of words than any command's
past_three : (program name a b : Text) (rest : List Text) → bytes_eq name (codes "soak") ≡ false → bytes_eq name (codes "dump") ≡ false
    → command_of (program ∷ name ∷ a ∷ b ∷ rest) ≡ None
past_three program name a b [] no_soak no_dump = refl
past_three program name a b (c ∷ []) no_soak no_dump = refl
past_three program name a b (c ∷ d ∷ []) no_soak no_dump = rw (no_soak, no_dump) refl
past_three program name a b (c ∷ d ∷ e ∷ rest) no_soak no_dump = refl

run_read : (program : Text) (words : List Text) → AreUndashed words → IsLeafRead program (codes "run") run_leaf words
unfolding walk_fault defaults_fault
run_read program [] h = taken refl refl
run_read program (a ∷ []) h = refused (faults_of run_leaf (a ∷ []) [] h (refl, tt)) refl
run_read program (a ∷ b ∷ rest) h =
    refused (faults_of run_leaf (a ∷ []) (b ∷ rest) (h.0, tt) (refl, tt)) (past_three program (codes "run") a b rest refl refl)

check_read : (program : Text) (words : List Text) → AreUndashed words → IsLeafRead program (codes "check") check_leaf words
unfolding walk_fault defaults_fault
check_read program [] h = refused refl refl
check_read program (a ∷ []) h =
    taken (faults_of check_leaf (a ∷ []) [] h (refl, tt)) (ap (asked_by (codes "check")) (rows_of check_leaf (a ∷ []) [] h (refl, tt)))
check_read program (a ∷ b ∷ rest) h =
    refused (faults_of check_leaf (a ∷ b ∷ []) rest (h.0, (h.1.0, tt)) (refl, (refl, tt))) (past_three program (codes "check") a b rest refl refl)

torment_read : (program : Text) (words : List Text) → AreUndashed words → IsLeafRead program (codes "torment") torment_leaf words
unfolding walk_fault defaults_fault
torment_read program [] h = refused refl refl
torment_read program (a ∷ []) h =
    taken (faults_of torment_leaf (a ∷ []) [] h (refl, tt)) (ap (asked_by (codes "torment")) (rows_of torment_leaf (a ∷ []) [] h (refl, tt)))
torment_read program (a ∷ b ∷ rest) h =
    refused (faults_of torment_leaf (a ∷ b ∷ []) rest (h.0, (h.1.0, tt)) (refl, (refl, tt))) (past_three program (codes "torment") a b rest refl refl)

save_read : (program : Text) (words : List Text) → AreUndashed words → IsLeafRead program (codes "save") save_leaf words
unfolding walk_fault defaults_fault
save_read program [] h = refused refl refl
save_read program (a ∷ []) h =
    taken (faults_of save_leaf (a ∷ []) [] h (refl, tt)) (ap (asked_by (codes "save")) (rows_of save_leaf (a ∷ []) [] h (refl, tt)))
save_read program (a ∷ b ∷ rest) h =
    refused (faults_of save_leaf (a ∷ b ∷ []) rest (h.0, (h.1.0, tt)) (refl, (refl, tt))) (past_three program (codes "save") a b rest refl refl)

soak_read : (program : Text) (words : List Text) → AreUndashed words → IsLeafRead program (codes "soak") soak_leaf words
unfolding walk_fault defaults_fault
soak_read program [] h = refused refl refl
soak_read program (a ∷ []) h = refused (faults_of soak_leaf (a ∷ []) [] h (refl, tt)) refl
soak_read program (a ∷ b ∷ []) h = refused (faults_of soak_leaf (a ∷ b ∷ []) [] h (refl, (refl, tt))) refl
soak_read program (a ∷ b ∷ c ∷ []) h = refused (faults_of soak_leaf (a ∷ b ∷ c ∷ []) [] h (refl, (refl, (refl, tt)))) refl
soak_read program (a ∷ b ∷ c ∷ d ∷ []) h =
    taken (faults_of soak_leaf (a ∷ b ∷ c ∷ d ∷ []) [] h (refl, (refl, (refl, (refl, tt)))))
    (ap (asked_by (codes "soak")) (rows_of soak_leaf (a ∷ b ∷ c ∷ d ∷ []) [] h (refl, (refl, (refl, (refl, tt))))))
soak_read program (a ∷ b ∷ c ∷ d ∷ e ∷ rest) h =
    refused (faults_of soak_leaf (a ∷ b ∷ c ∷ d ∷ e ∷ []) rest (h.0, (h.1.0, (h.1.1.0, (h.1.1.1.0, (h.1.1.1.1.0, tt)))))
    (refl, (refl, (refl, (refl, (refl, tt)))))) refl

dump_read : (program : Text) (words : List Text) → AreUndashed words → IsLeafRead program (codes "dump") dump_leaf words
unfolding walk_fault defaults_fault
dump_read program [] h = refused refl refl
dump_read program (a ∷ []) h = refused (faults_of dump_leaf (a ∷ []) [] h (refl, tt)) refl
dump_read program (a ∷ b ∷ []) h = refused (faults_of dump_leaf (a ∷ b ∷ []) [] h (refl, (refl, tt))) refl
dump_read program (a ∷ b ∷ c ∷ []) h = refused (faults_of dump_leaf (a ∷ b ∷ c ∷ []) [] h (refl, (refl, (refl, tt)))) refl
dump_read program (a ∷ b ∷ c ∷ d ∷ []) h =
    taken (faults_of dump_leaf (a ∷ b ∷ c ∷ d ∷ []) [] h (refl, (refl, (refl, (refl, tt)))))
    (ap (asked_by (codes "dump")) (rows_of dump_leaf (a ∷ b ∷ c ∷ d ∷ []) [] h (refl, (refl, (refl, (refl, tt))))))
dump_read program (a ∷ b ∷ c ∷ d ∷ e ∷ rest) h =
    refused (faults_of dump_leaf (a ∷ b ∷ c ∷ d ∷ e ∷ []) rest (h.0, (h.1.0, (h.1.1.0, (h.1.1.1.0, (h.1.1.1.1.0, tt)))))
    (refl, (refl, (refl, (refl, (refl, tt)))))) refl

-- ---- after the program's name

or_else_nil : (k : Kinds) → or_else k [] ≡ k
or_else_nil [] = refl
or_else_nil (x ∷ xs) = refl

-- a word isn't the name, either way round
abbrev Differ : Text → Text → Type 0
Differ name word = (bytes_eq name word ≡ false) × (bytes_eq word name ≡ false)

-- a word that is the name of a subcommand, or isn't
module _ (program word : Text) (words : List Text) where
  named : (name : Text) (s : Shape) → met name ≡ Some name → bytes_eq name (codes "help") ≡ false → found name ≡ Some s
      → IsLeafRead program name s words → IsRead (program ∷ name ∷ words)
  named name s is other sub leaf =
      let same = entered_faults program name words s is other sub ∙ or_else_nil (faults s words) in
      record {
        ok = λ none. ap asked (entered_rows program name words s is sub) ∙ leaf.ok (sym same ∙ none);
        err = elim leaf.err [
          | inl e ↦ inl (same ∙ e)
          | inr e ↦ inr e
        ];
      }

  named_or : (name : Text) (s : Shape) → met name ≡ Some name → bytes_eq name (codes "help") ≡ false → found name ≡ Some s
      → IsLeafRead program name s words → (Differ name word → IsRead (program ∷ word ∷ words)) → IsRead (program ∷ word ∷ words)
  named_or name s is other sub leaf differs = go (bytes_eq name word) (bytes_eq word name) refl refl
    where
      here : name ≡ word → IsRead (program ∷ word ∷ words)
      here e = subst (λ n. IsRead (program ∷ n ∷ words)) e (named name s is other sub leaf)

      go : (b c : Bool) → bytes_eq name word ≡ b → bytes_eq word name ≡ c → IsRead (program ∷ word ∷ words)
      go true c e f = here ((bytes_eq-Decides name word).0 e)
      go false true e f = here (sym ((bytes_eq-Decides word name).0 f))
      go false false e f = differs (e, f)

-- a word that is no command's name asks for nothing
module _ (program word : Text) (run : Differ (codes "run") word) (check : Differ (codes "check") word) (torment : Differ (codes "torment") word)
    (soak : Differ (codes "soak") word) (save : Differ (codes "save") word) (dump : Differ (codes "dump") word) where
  other_none : (words : List Text) → command_of (program ∷ word ∷ words) ≡ None
  other_none [] = rw run.1 refl
  other_none (a ∷ []) = rw (check.1, torment.1, save.1) refl
  other_none (a ∷ b ∷ rest) = past_three program word a b rest soak.1 dump.1

-- words of which none from the third on begins with a dash
pub reads : (words : List Text) → list_all is_undashed (drop 2 words) ≡ true → IsRead words
reads [] h = record { ok = λ _. refl; err = inr refl }
reads (program ∷ []) h = record { ok = λ _. refl; err = inr refl }
reads (program ∷ word ∷ words) undashed =
    let h = each_undashed words undashed in
    let or = named_or program word words in
    or (codes "run") run_leaf refl refl refl (run_read program words h) (λ run.
    or (codes "check") check_leaf refl refl refl (check_read program words h) (λ check.
    or (codes "torment") torment_leaf refl refl refl (torment_read program words h) (λ torment.
    or (codes "soak") soak_leaf refl refl refl (soak_read program words h) (λ soak.
    or (codes "save") save_leaf refl refl refl (save_read program words h) (λ save.
    or (codes "dump") dump_leaf refl refl refl (dump_read program words h) (λ dump.
    let none : met word ≡ None = rw (run.0, check.0, torment.0, soak.0, save.0, dump.0) refl in
    let nothing = other_none program word run check torment soak save dump words in
    record { ok = λ fault. ap asked (enters_none program word words none fault) ∙ sym nothing; err = inr nothing }))))))
