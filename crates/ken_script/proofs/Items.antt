-- The items of `inputs`, in a loop over them.
use Rattle.std.proofs.Common.{◌≡◌, ℕ, ◌+◌, ◌<◌, ◌≤◌, List, [], ◌∷◌, ◌++◌, length, get_or, take, drop, Bool, not, Some, None, is_none, ap, sym, ◌∙◌, arith}
use Rattle.std.specs.List.{prefix_len}
use Rattle.std.proofs.lemmas.List.{take_all, drop_all, length-take-le, take-append-drop}
use Rattle.std.proofs.Math.Seq.{drop-cons}
use Rattle.serde_json.specs.Data.{Data}
use Rattle.serde_json.specs.View.{view, items_view}
use Rattle.serde_json.specs.declared.value.Value.{Value}
use Rattle.ken_model.specs.declared.facts.Input.{Input}
use Rattle.ken_model.specs.declared.facts.TheConstants.{MAX_INPUTS}
use Rattle.ken_script.specs.Keys.{listed}
use Rattle.ken_script.specs.Inputs.{input_of, inputs_of, wrong_input}
use Rattle.ken_script.proofs.Lists.{length-listed, first_place, at_wrong, at_room, at_none, all_of-cons}

module _ (nodes : ℕ) where
  is_right : Data → Bool
  is_right d = not (is_none (input_of nodes d))

  -- where the first items are inputs, the first wrong one is among the others
  prefix_len-right : (vs ws : List Value) (xs : List Input) → inputs_of nodes (listed (items_view vs)) ≡ Some xs → prefix_len is_right (listed (items_view (vs ++ ws))) ≡ length vs + prefix_len is_right (listed (items_view ws))
  unfolding is_right
  prefix_len-right [] ws xs e = omega arith
  prefix_len-right (v ∷ vs) ws xs e =
      let f = all_of-cons (input_of nodes) (view v) (listed (items_view vs)) xs e in
      rw (f.first_is, prefix_len-right vs ws f.others f.rest_is) (omega arith)

  prefix_len-front : (vs : List Value) (i : ℕ) (xs : List Input) → i ≤ length vs → inputs_of nodes (listed (items_view (take i vs))) ≡ Some xs → prefix_len is_right (listed (items_view vs)) ≡ i + prefix_len is_right (listed (items_view (drop i vs)))
  prefix_len-front vs i xs within e =
      let all = prefix_len-right (take i vs) (drop i vs) xs e in
      rw (take-append-drop i vs, length-take-le i vs within) at all

  -- the first item that is no input
  pub wrong_here : (vs : List Value) (i : ℕ) (v : Value) (xs : List Input) → i < length vs → i < MAX_INPUTS → v ≡ get_or vs i v → inputs_of nodes (listed (items_view (take i vs))) ≡ Some xs → input_of nodes (view v) ≡ None
      → wrong_input nodes (listed (items_view vs)) ≡ Some i
  unfolding first_place is_right
  wrong_here vs i v xs within roomy here e none =
      let first : prefix_len is_right (listed (items_view (drop i vs))) ≡ 0 = rw (drop-cons vs i v within, sym here, none) in
      let place : prefix_len is_right (listed (items_view vs)) ≡ i = prefix_len-front vs i xs (omega arith) e ∙ omega arith in
      at_wrong (prefix_len is_right (listed (items_view vs))) (length (listed (items_view vs))) MAX_INPUTS i place (rw (length-listed vs) within) roomy

  -- the first item past the room
  pub too_many : (vs : List Value) (i : ℕ) (xs : List Input) → i < length vs → i ≡ MAX_INPUTS → inputs_of nodes (listed (items_view (take i vs))) ≡ Some xs → wrong_input nodes (listed (items_view vs)) ≡ Some i
  unfolding first_place is_right
  too_many vs i xs past full e =
      let place = prefix_len-front vs i xs (omega arith) e in
      at_room (prefix_len is_right (listed (items_view vs))) (length (listed (items_view vs))) MAX_INPUTS (omega arith) (rw (length-listed vs) (omega arith)) ∙ ap Some (sym full)

  pub none_wrong : (vs : List Value) (xs : List Input) → length vs ≤ MAX_INPUTS → inputs_of nodes (listed (items_view vs)) ≡ Some xs → wrong_input nodes (listed (items_view vs)) ≡ None
  unfolding first_place is_right
  none_wrong vs xs roomy e =
      let whole : inputs_of nodes (listed (items_view (take (length vs) vs))) ≡ Some xs = rw (take_all (length vs) vs (omega arith)) e in
      let place = prefix_len-front vs (length vs) xs (omega arith) whole in
      let rest : prefix_len is_right (listed (items_view (drop (length vs) vs))) ≡ 0 = rw (drop_all (length vs) vs (omega arith)) in
      at_none (prefix_len is_right (listed (items_view vs))) (length (listed (items_view vs))) MAX_INPUTS (omega (arith, place, length-listed vs)) (rw (length-listed vs) roomy)
