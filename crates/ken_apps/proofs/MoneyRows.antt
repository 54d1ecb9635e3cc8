-- A worked game of a bank, computed from the definitions: what is held, on its way and opened after each turn.
use Rattle.std.proofs.Common.{◌≡◌, [], ◌∷◌, codes, inl, refl, arith}
use Rattle.std.specs.Fmt.{digits}
use Rattle.ken_model.specs.declared.kinds.Kind.TheVariants.{Bank}
use Rattle.ken_model.specs.declared.messages.Step.{Step}
use Rattle.ken_num.specs.Numbers.{num}
use Rattle.ken_model.specs.Game.{Game}
use Rattle.ken_model.specs.Kinds.{after, handler_of}
use Rattle.ken_model.specs.Network.{start, turn_at}
use Rattle.ken_model.specs.Schedule.{IsLegal, IsLegalFrom, play, played}
use Rattle.ken_apps.specs.Money.{held, on_the_way, opened_from}

-- two nodes: an account is opened at node 0, a second one of its name is refused, and a part moves to node 1
two : Game
two = record {
  nodes = 2;
  size = 4096;
  turns = 1000;
  inputs = record { node = 0; text = codes "open a 10" } ∷ record { node = 0; text = codes "open a 5" } ∷ record { node = 0; text = codes "move a 3 1 b" } ∷ [];
  handler = handler_of Bank;
}

input : Step
input = record { node = 0; from = 255; draws = [] }

credit : Step
credit = record { node = 1; from = 0; draws = [] }

its_legality : IsLegal two (input ∷ input ∷ input ∷ credit ∷ [])
unfolding two input credit num after turn_at IsLegalFrom digits
its_legality =
    (_, refl, omega arith, inl (omega arith), (_, refl, omega arith, inl (omega arith), (_, refl, omega arith, inl (omega arith), (_, refl, omega arith, inl (omega arith), tt))))

opened_ten : (held two (play two (input ∷ [])) ≡ 10) × (on_the_way two (play two (input ∷ [])) ≡ 0)
unfolding two input num after turn_at played digits
opened_ten = (refl, refl)

three_on_the_way : (held two (play two (input ∷ input ∷ input ∷ [])) ≡ 7) × (on_the_way two (play two (input ∷ input ∷ input ∷ [])) ≡ 3)
unfolding two input num after turn_at played digits
three_on_the_way = (refl, refl)

all_there : (held two (play two (input ∷ input ∷ input ∷ credit ∷ [])) ≡ 10) × (on_the_way two (play two (input ∷ input ∷ input ∷ credit ∷ [])) ≡ 0)
unfolding two input credit num after turn_at played digits
all_there = (refl, refl)

ten_opened : opened_from two (start two) (input ∷ input ∷ input ∷ credit ∷ []) ≡ 10
unfolding two input credit num after turn_at opened_from digits
ten_opened = refl
