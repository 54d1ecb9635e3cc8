-- The command line as `clap` has it, and what its matches ask for.
use Rattle.std.specs.Prelude.{ℕ, Bool, List, true, false, if◌then◌else◌, Option, Some, None, option_map, option_and_then, codes}
use Rattle.std.specs.Option.{option_map_or}
use Rattle.std.specs.Str.{bytes_eq}
use Rattle.clap.specs.Words.{App, Row, Rule, Text, first_of, new_app, new_rule, with_rule, with_subcommand}
use Rattle.clap.specs.Simple.{on_top}
use Rattle.ken_words.specs.declared.commands.Command.{Command}
use Rattle.ken_words.specs.declared.commands.Command.TheVariants.{Run, Check, Torment, Save}
use Rattle.ken_words.specs.Commands.{length_in, seed_in, nodes_in, inputs_in, rounds_in, node_in, pages_in, is_prefix, soak_of, dump_of}

-- a value that has to be given, by its place
abbrev pub value : Text → Rule
value id = record (new_rule id) { required = true }

-- a subcommand with one value, and one with four
abbrev pub one : Text → Text → App
one name id = with_rule (new_app name) (value id)

abbrev pub four : Text → Text → Text → Text → Text → App
four name a b c d = with_rule (with_rule (with_rule (one name a) (value b)) (value c)) (value d)

abbrev pub run : App
run = new_app (codes "run")

abbrev pub check : App
check = one (codes "check") (codes "LENGTH")

abbrev pub torment : App
torment = one (codes "torment") (codes "SEED")

abbrev pub soak : App
soak = four (codes "soak") (codes "SEED") (codes "NODES") (codes "INPUTS") (codes "ROUNDS")

abbrev pub save : App
save = one (codes "save") (codes "PREFIX")

abbrev pub dump : App
dump = four (codes "dump") (codes "PREFIX") (codes "NODE") (codes "NODES") (codes "PAGES")

-- with no help and no version
abbrev pub bare : App → App
bare = on_top (λ s. record s { disable_help_flag = true; disable_help_subcommand = true; disable_version_flag = true })

-- the program as far as `check`, as far as `soak`, and whole
abbrev pub judging : App
judging = with_subcommand (with_subcommand (bare (new_app (codes "ken"))) run.top) check.top

abbrev pub drawing : App
drawing = with_subcommand (with_subcommand judging torment.top) soak.top

abbrev pub ken : App
ken = with_subcommand (with_subcommand drawing save.top) dump.top

-- a value of a subcommand, read as a number
abbrev pub read_at : (Text → Option ℕ) → Text → List Row → Option ℕ
read_at reads id rows = option_and_then reads (first_of id rows)

abbrev pub soak_in : List Row → Option Command
soak_in rows = soak_of (read_at seed_in (codes "SEED") rows) (read_at nodes_in (codes "NODES") rows)
    (read_at inputs_in (codes "INPUTS") rows) (read_at rounds_in (codes "ROUNDS") rows)

abbrev pub has_prefix : List Row → Bool
has_prefix rows = option_map_or is_prefix (first_of (codes "PREFIX") rows) false

abbrev pub dump_in : List Row → Option Command
dump_in rows = dump_of (has_prefix rows) (read_at node_in (codes "NODE") rows)
    (read_at nodes_in (codes "NODES") rows) (read_at pages_in (codes "PAGES") rows)

-- what a subcommand with these matches asks for
abbrev pub asked_by : Text → List Row → Option Command
asked_by name rows =
    if bytes_eq name (codes "run") then Some Run
    else (if bytes_eq name (codes "check") then option_map Check (read_at length_in (codes "LENGTH") rows)
    else (if bytes_eq name (codes "torment") then option_map Torment (read_at seed_in (codes "SEED") rows)
    else (if bytes_eq name (codes "soak") then soak_in rows
    else (if bytes_eq name (codes "save") then (if has_prefix rows then Some Save else None)
    else (if bytes_eq name (codes "dump") then dump_in rows else None)))))

-- and what a parse asks for that met a subcommand, or none
abbrev pub asked : Option (Text × List Row) → Option Command
asked = option_and_then (λ p. asked_by p.0 p.1)
