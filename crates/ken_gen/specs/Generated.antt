-- The script of a seed.
use Rattle.std.specs.Prelude.{ℕ, ◌*◌, []}
use Rattle.ken_model.specs.declared.facts.TheConstants.{PAGE}
use Rattle.ken_model.specs.declared.kinds.Kind.TheVariants.{Share}
use Rattle.ken_script.specs.declared.scripts.Script.{Script}
use Rattle.ken_gen.specs.Inputs.{inputs_from, past_inputs}
use Rattle.ken_gen.specs.Mishaps.{without_repeats, is_same_call, is_same_put, cuts_from, past_cuts, acts_from, past_acts}

-- one generator, which begins at the seed, draws the inputs, then 6 cuts, 32 acts on puts of messages, and 16 on puts
-- of acknowledgements; each that strikes where an earlier one of its list does is left out
abbrev pub script_of : ℕ → ℕ → ℕ → ℕ → Script
script_of seed nodes inputs rounds =
    let at_cuts = past_inputs inputs seed in
    let at_mail = past_cuts 6 at_cuts in
    let at_acks = past_acts 32 at_mail in
    record {
      facts = record { nodes = nodes; kind = Share; size = 4 * PAGE; turns = 100000; inputs = inputs_from nodes inputs seed };
      seed = seed;
      rounds = rounds;
      restarts = 64;
      cuts = without_repeats is_same_call [] (cuts_from nodes 6 at_cuts);
      mail = without_repeats is_same_put [] (acts_from nodes 32 at_mail);
      acks = without_repeats is_same_put [] (acts_from nodes 16 at_acks);
      outlets = [];
    }
