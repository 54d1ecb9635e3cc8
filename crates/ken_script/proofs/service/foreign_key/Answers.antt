use Rattle.std.proofs.Common.{◌≡◌, List, ℕ, not, position, string_bytes, option_and_then, rules, sym, ◌∙◌, ap}
use Rattle.std.proofs.lemmas.Iterator.Consumers.{YieldsList-from_rest}
use Rattle.std.proofs.lemmas.Iterator.Search.{position_from_yields_List}
use Rattle.std.specs.BTreeMap.{keys}
use borrow.Author.Tests.{tests}
use Rattle.serde_json.specs.Data.{Members}
use Rattle.ken_script.specs.Keys.{keys_in}
use Rattle.ken_script.specs.Service.{is_service_key}
use Rattle.ken_script.proofs.Places.{position-keys_in}
use Rattle.ken_script.proofs.service.foreign_key.Goals as goal

pub returns : goal.returns
returns c =
    let map = c.in_ok-as_object.field-0.now in
    let foreign = λ (name : List ℕ). not (is_service_key name) in
    let found : c.position.result ≡ position (λ k. foreign (string_bytes k)) (keys map) =
    position_from_yields_List (λ k. foreign (string_bytes k)) _ _ c.position.result c.position.ensures.ran (YieldsList-from_rest (keys map) c.keys.ensures.rest) (λ x b q k. search (rules, tests)) in
    found ∙ sym (position-keys_in foreign map.entries) ∙ ap (option_and_then (λ (members : Members). position foreign (keys_in members))) c.in_ok-as_object.ensures
