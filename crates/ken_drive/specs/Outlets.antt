-- What contracts see of an outlet in memory.
use Rattle.std.specs.Prelude.{ℕ, ◌+◌, ◌<◌, ◌^◌, List, []}
use Rattle.std.specs.List.{Contains}
use Rattle.ken_model.specs.declared.messages.Out.{Out}
use Rattle.ken_ship.specs.Fates.{Fate}

-- whose it is; what it took, oldest first; how many calls were made, but for those that wanted memory, and how many failed; and
-- the numbers of those that fail, from 1
pub record Taken : Type 0 where
  pub node : ℕ
  pub outs : List Out
  pub calls : ℕ
  pub faults : ℕ
  pub fails : List ℕ

-- of a node, before the first call
abbrev pub untaken : ℕ → List ℕ → Taken
untaken node fails = record { node = node; outs = []; calls = 0; faults = 0; fails = fails }

-- what it tells of its calls, and whose it is
abbrev pub fate_of : Taken → Fate
fate_of o = record { node = o.node; calls = o.calls; fails = o.fails }

-- its next call is on the list, and can be counted
abbrev pub IsToFail : Taken → Type 0
IsToFail o = (o.calls + 1 < 2 ^ 64) × Contains o.fails (o.calls + 1)
