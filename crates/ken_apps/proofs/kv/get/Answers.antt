use Rattle.std.proofs.Common.{◌≡◌, ℕ, ◌+◌, List, length, take, drop, Option, Some, sym, ap, subst, ◌∙◌, rules}
use Rattle.std.proofs.lemmas.Result.{on_ok_weaker}
use Rattle.std.proofs.lemmas.List.{take_all}
use Rattle.ken_model.specs.declared.values.Block.{Block}
use Rattle.ken_model.specs.declared.values.Value.{Value}
use Rattle.ken_model.specs.Effects.{answered}
use Rattle.ken_model.specs.KeyValue.{get_from, pair_of}
use Rattle.ken_alloc.specs.Objects.{Heap}
use Rattle.ken_app.specs.Turning.{IsAllowed}
use Rattle.ken_apps.proofs.kv.get.Goals as goal

-- a text that may be output is its own front
by_front : (nodes : ℕ) (value : Value) (key : List ℕ) (o : Option Block) (b : Block) (text : List ℕ) → o ≡ Some b → text ≡ take 512 (drop (length key + 1) b.bytes) → IsAllowed nodes (get_from value key o) → get_from value key o ≡ answered value text
by_front nodes value key o b text is front allowed =
    let some : IsAllowed nodes (get_from value key (Some b)) = subst (λ x. IsAllowed nodes (get_from value key x)) is allowed in
    ap (get_from value key) is ∙ ap (answered value) (sym (front ∙ take_all 512 _ some.outs.0))

pub returns-in-Some-clause-effect : goal.returns-in-Some-clause-effect
returns-in-Some-clause-effect g c =
    let value = c.args.turn.now.objects.now.value in
    let key = c.args.key.now in
    let pair = c.in-Some.ensures.text in
    let found : pair_of key value.blocks ≡ Some pair.0 = subst (λ blocks. pair_of key blocks ≡ Some pair.0) (ap (λ (h : Heap). h.value.blocks) c.objects.ensures.heap) pair.1 in
    on_ok_weaker c.output_text.result
    (λ ok allowed. by_front _ value key (pair_of key value.blocks) pair.0 c.in-Some.text.now found pair.2 allowed ∙ search rules)
    c.output_text.ensures.ok
