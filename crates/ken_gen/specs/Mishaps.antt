-- What a script lets fail, from a state of the generator.
use Rattle.std.specs.Prelude.{ℕ, zero, suc, ◌+◌, ◌==◌, ◌&&◌, List, [], ◌∷◌, ◌++◌, Bool, if◌then◌else◌}
use Rattle.std.specs.List.{list_any}
use Rattle.ken_net.specs.declared.act.Act.{Act}
use Rattle.ken_net.specs.declared.act.Act.TheVariants.{Lose, Repeat, Hold}
use Rattle.ken_net.specs.declared.act.LinkAct.{LinkAct}
use Rattle.ken_script.specs.declared.scripts.DiskCut.{DiskCut}
use Rattle.ken_gen.specs.Draws.{drawn, past}

-- a list without each item that is the same as one before it, where the items of `earlier` stand before the list
unfoldable pub without_repeats : {T : Type 0} → (T → T → Bool) → List T → List T → List T
without_repeats is_same earlier [] = []
without_repeats is_same earlier (x ∷ xs) = if list_any (is_same x) earlier then without_repeats is_same earlier xs else x ∷ without_repeats is_same (earlier ++ x ∷ []) xs

-- ---- cuts

-- a cut: its node, its disk (the log or the image), its call, from 40 on, and its pick
unfoldable pub cut_at : ℕ → ℕ → DiskCut
cut_at nodes x = record { node = drawn nodes x; disk = drawn 2 (past x); call = 40 + drawn 400 (past (past x)); pick = drawn 10 (past (past (past x))) }

-- the state after its answers
unfoldable pub past_cut : ℕ → ℕ
past_cut x = past (past (past (past x)))

-- so many cuts, one after another
unfoldable pub cuts_from : ℕ → ℕ → ℕ → List DiskCut
cuts_from nodes zero x = []
cuts_from nodes (suc count) x = cut_at nodes x ∷ cuts_from nodes count (past_cut x)

-- the state after their answers
unfoldable pub past_cuts : ℕ → ℕ → ℕ
past_cuts zero x = x
past_cuts (suc count) x = past_cuts count (past_cut x)

-- at one call of one disk
abbrev pub is_same_call : DiskCut → DiskCut → Bool
is_same_call c d = (c.node == d.node) && (c.disk == d.disk) && (c.call == d.call)

-- ---- acts

-- the act of a number, where a packet that is held is held for so many puts
abbrev pub act_of : ℕ → ℕ → Act
act_of zero puts = Lose
act_of (suc zero) puts = Repeat
act_of (suc (suc n)) puts = Hold puts

-- the state after it: only an act that holds a packet takes a further answer
abbrev pub past_act_of : ℕ → ℕ → ℕ
past_act_of zero x = x
past_act_of (suc zero) x = x
past_act_of (suc (suc n)) x = past x

-- what becomes of a packet: with one answer it is lost, repeated or held, and with a further one held for 1 to 4 puts
unfoldable pub act_at : ℕ → Act
act_at x = act_of (drawn 3 x) (1 + drawn 4 (past x))

-- the state after its answers
unfoldable pub past_act : ℕ → ℕ
past_act x = past_act_of (drawn 3 x) (past x)

-- an act on a put: the nodes that it goes from and to, its number, and what becomes of its packet
unfoldable pub link_act_at : ℕ → ℕ → LinkAct
link_act_at nodes x = record { from = drawn nodes x; to = drawn nodes (past x); n = 1 + drawn 100 (past (past x)); act = act_at (past (past (past x))) }

-- the state after its answers
unfoldable pub past_link_act : ℕ → ℕ
past_link_act x = past_act (past (past (past x)))

-- so many acts, one after another
unfoldable pub acts_from : ℕ → ℕ → ℕ → List LinkAct
acts_from nodes zero x = []
acts_from nodes (suc count) x = link_act_at nodes x ∷ acts_from nodes count (past_link_act x)

-- the state after their answers
unfoldable pub past_acts : ℕ → ℕ → ℕ
past_acts zero x = x
past_acts (suc count) x = past_acts count (past_link_act x)

-- on one put of one link
abbrev pub is_same_put : LinkAct → LinkAct → Bool
is_same_put a b = (a.from == b.from) && (a.to == b.to) && (a.n == b.n)
