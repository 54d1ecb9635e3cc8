-- The six subcommands as a parse has them, and what `clap` makes of words in them that don't begin with a dash.
use Rattle.std.proofs.Common.{◌≡◌, false, ap, ap₂, List, [], ◌++◌}
use Rattle.std.specs.List.{fold}
use Rattle.clap.specs.Words.{App, Kinds, Shape, Text}
use Rattle.clap.specs.Walk.{Walk, finished, nothing_held, rows_after, settled, walked}
use Rattle.clap.specs.Simple.{built_leaf, inherited, marked_built, with_leaf_noted}
use Rattle.clap.specs.Faults.{check_fault, defaults_fault, level_fault, settle_fault, walk_fault}
use Rattle.clap.specs.Kinds.{or_else}
use Rattle.ken_words.specs.Parser.{check, dump, ken, run, save, soak, torment}
use Rattle.ken_words.proofs.Dashes.{AreUndashed}
use Rattle.ken_words.proofs.Walks.{Goes, at, next, steps, walk_of, way_of}

abbrev leaf : App → Shape
leaf a = built_leaf (inherited (with_leaf_noted (marked_built ken.top)) a.top)

abbrev pub run_leaf : Shape
run_leaf = leaf run

abbrev pub check_leaf : Shape
check_leaf = leaf check

abbrev pub torment_leaf : Shape
torment_leaf = leaf torment

abbrev pub soak_leaf : Shape
soak_leaf = leaf soak

abbrev pub save_leaf : Shape
save_leaf = leaf save

abbrev pub dump_leaf : Shape
dump_leaf = leaf dump

-- the faults of a subcommand on words
abbrev pub faults : Shape → List Text → Kinds
faults s words = level_fault s [] nothing_held words false []

-- by where the walk over the words ended, and what was a fault on the way
abbrev pub ended : Shape → Walk → Kinds → Kinds
ended s w on_the_way = or_else on_the_way (or_else (settle_fault s.rules s.args_override_self w.held)
    (or_else (defaults_fault (settled s.rules w.held).rows s.rules) (check_fault s (finished s.rules w.held) false)))

abbrev pub start : Walk
start = at nothing_held 1

-- the walk after words that don't begin with a dash
abbrev pub after : Shape → List Text → Walk
after s words = fold (next s) start words

pub faults_of : (s : Shape) (words rest : List Text) → AreUndashed words → Goes s start words
    → faults s (words ++ rest) ≡ ended s (fold (walked s.rules []) (after s words) rest) (steps s start words (walk_fault s [] (after s words) rest))
faults_of s words rest plain goes = ap₂ (ended s) (walk_of s start words rest plain goes) (way_of s start words rest plain goes)

pub rows_of : (s : Shape) (words rest : List Text) → AreUndashed words → Goes s start words
    → rows_after s.rules [] (words ++ rest) ≡ finished s.rules (fold (walked s.rules []) (after s words) rest).held
rows_of s words rest plain goes = ap (λ (w : Walk). finished s.rules w.held) (walk_of s start words rest plain goes)
