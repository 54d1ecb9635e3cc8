-- A report's text read back: the schedule, emissions and restarts that its lines name.
use Rattle.std.specs.Prelude.{◌&&◌, ℕ, ◌<◌, ◌^◌, List, [], ◌∷◌, map, length, ◌==◌, if◌then◌else◌, bytes_eq, codes, Option, Some, None, filter_map}
use Rattle.std.specs.List.{join_with_byte, slice_split, AllByRecursion}
use Rattle.ken_model.specs.declared.values.Value.{Value}
use Rattle.ken_model.specs.declared.values.Block.{Block}
use Rattle.ken_model.specs.declared.messages.Step.{Step}
use Rattle.ken_model.specs.declared.reports.TurnLine.{TurnLine}
use Rattle.ken_model.specs.declared.reports.Emission.{Emission}
use Rattle.ken_model.specs.declared.reports.RestartLine.{RestartLine}
use Rattle.ken_model.specs.declared.reports.Lines.{Lines}
use Rattle.ken_num.specs.Numbers.{value_from}
use Rattle.ken_model.specs.Network.{outside}
use Rattle.ken_model.specs.Report.{IsOneLine}

pub record Spelling : Type 0 where
  pub schedule : List Step
  pub emissions : List Emission
  pub restarts : List RestartLine

-- the parts of a text round a byte
abbrev pub parts_at : ℕ → List ℕ → List (List ℕ)
parts_at c bytes = slice_split (λ b. b == c) bytes

abbrev pub sender_of : List ℕ → ℕ
sender_of word = if bytes_eq word (codes "out") then outside else value_from 0 word

abbrev pub draws_of : List ℕ → List ℕ
draws_of word = if bytes_eq word (codes "-") then [] else map (value_from 0) (parts_at 44 word)

-- turn STAMP NODE FROM NUMBER DRAWS
unfoldable pub step_in : List (List ℕ) → Option Step
step_in (a ∷ b ∷ c ∷ d ∷ e ∷ g ∷ []) = if bytes_eq a (codes "turn") then Some (record { node = value_from 0 c; from = sender_of d; draws = draws_of g }) else None
step_in _ = None

-- emit NODE NUMBER TEXT, where the text is all after the third space
unfoldable pub emission_in : List (List ℕ) → Option Emission
emission_in (a ∷ b ∷ c ∷ d ∷ rest) = if bytes_eq a (codes "emit") then Some (record { node = value_from 0 b; out = record { number = value_from 0 c; text = join_with_byte 32 (d ∷ rest) } }) else None
emission_in _ = None

-- restart NODE at TURNS
unfoldable pub restart_in : List (List ℕ) → Option RestartLine
restart_in (a ∷ b ∷ c ∷ d ∷ []) = if bytes_eq a (codes "restart") && bytes_eq c (codes "at") then Some (record { node = value_from 0 b; turns = value_from 0 d }) else None
restart_in _ = None

-- what a text spells
unfoldable pub spell : List ℕ → Spelling
spell bytes =
    let lines = map (parts_at 32) (parts_at 10 bytes) in
    record { schedule = filter_map step_in lines; emissions = filter_map emission_in lines; restarts = filter_map restart_in lines }

abbrev pub IsWord : ℕ → Type 0
IsWord n = n < 2 ^ 64

-- what a report can print so that it reads back: numbers of 64 bits, and texts without a line feed
pub record IsPrintableTurn (l : TurnLine) : Type 0 where
  pub stamp : IsWord l.stamp
  pub node : IsWord l.step.node
  pub from : IsWord l.step.from
  pub number : IsWord l.number
  pub draws : AllByRecursion IsWord l.step.draws

pub record IsPrintableEmission (e : Emission) : Type 0 where
  pub node : IsWord e.node
  pub number : IsWord e.out.number
  pub text : IsOneLine e.out.text

pub record IsPrintableHeap (value : Value) : Type 0 where
  pub root : IsWord value.root
  pub blocks : AllByRecursion (λ (b : Block). IsWord b.place × IsWord (length b.bytes)) value.blocks

pub record IsPrintable (l : Lines) : Type 0 where
  pub turns : AllByRecursion IsPrintableTurn l.turns
  pub emissions : AllByRecursion IsPrintableEmission l.emissions
  pub restarts : AllByRecursion (λ (r : RestartLine). IsWord r.node × IsWord r.turns) l.restarts
  pub heaps : AllByRecursion IsPrintableHeap l.heaps
  pub few_heaps : IsWord (length l.heaps)
  pub few_turns : IsWord (length l.turns)
  pub waiting : IsWord l.waiting
