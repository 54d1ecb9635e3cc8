use Rattle.std.proofs.Common.{◌∙◌, inl, inr, sym, ap, subst, map, string_bytes, Global}
use Rattle.clap.specs.Words.{HasKind, fault_of, is_simple, is_simple_and_free, subcommand_of}
use Rattle.ken_words.specs.Parser.{asked}
use Rattle.ken_words.proofs.Asked.{reads}
use Rattle.ken_words.proofs.Dashes.{undashed_bytes}
use Rattle.ken_words.proofs.Ranges.{dashed_none}
use Rattle.ken_words.proofs.commands.command_in.Goals as goal

-- words that begin with a dash ask for nothing
pub returns-then-not-are_undashed : goal.returns-then-not-are_undashed
returns-then-not-are_undashed c =
    let words = c.args.words.now in
    sym (dashed_none (map string_bytes words) (undashed_bytes words ∙ sym c.are_undashed.ensures ∙ c.if-not-are_undashed.true))

-- the matches are those of the words
pub returns-in-Ok : goal.returns-in-Ok
returns-in-Ok c =
    let words = map (string_bytes {Z = Global}) c.args.words.now in
    let app = c.in_ok-parser.ensures in
    let rows = (c.in-Ok.ensures.matches (ap is_simple app)).1 ∙ ap (λ a. subcommand_of a words) app in
    let none = sym (ap (λ a. fault_of a words) app) ∙ c.in-Ok.ensures.kinds (ap is_simple_and_free app) in
    let read = reads words (undashed_bytes c.args.words.now ∙ sym c.are_undashed.ensures ∙ c.if-not-are_undashed.false) in
    c.asked.ensures ∙ ap asked rows ∙ read.ok none

-- and an error other than want of memory comes of a fault
pub returns : goal.returns
returns c =
    let words = map (string_bytes {Z = Global}) c.args.words.now in
    let app = c.in_ok-parser.ensures in
    let kinds = subst (λ a. HasKind (fault_of a words) c.in-Err.error) app (c.in-Err.ensures.kinds (ap is_simple_and_free app)) in
    let read = reads words (undashed_bytes c.args.words.now ∙ sym c.are_undashed.ensures ∙ c.if-not-are_undashed.false) in
    elim read.err [
      | inl none ↦ absurd (elim (subst (λ k. HasKind k c.in-Err.error) none kinds) [
        | inl memory ↦ c.in_default.not-OutOfMemory (c.kind.ensures ∙ memory)
        | inr other ↦ other
      ])
      | inr nothing ↦ sym nothing
    ]
