use Rattle.std.proofs.Common.{rules, ◌≡◌, ℕ, ◌+◌, length, Option, sym, ap, ◌∙◌, subst}
use Rattle.std.specs.Prelude.{option_map}
use Rattle.ken_model.specs.Heap.{rounded}
use Rattle.ken_alloc.specs.declared.walk.Found.{Found}
use Rattle.ken_alloc.specs.Walk.{IsWalk}
use Rattle.ken_alloc.proofs.Held.{IsSeen, stands_seen, block_seen, end_seen}
use Rattle.ken_alloc.proofs.Walks.{can_walk}
use Rattle.ken_alloc.proofs.objects.Objects.next.Goals as goal

pub block_from-requires : goal.block_from-requires
block_from-requires c =
    let xs = c.self.inside.pages.bytes in
    let s : IsSeen xs c.args.place c.args.self.now.value.blocks = block_seen xs c.args.self.now.value c.args.place (stands_seen c.self.inside.pages c.args.self.now c.self.invariant c.self.view_is) c.requires in
    let end : c.end-end.result ≡ c.args.place + rounded (length s.bytes) = c.end-end.ensures ∙ end_seen xs c.args.place c.args.self.now.value.blocks s c.block.result c.block.ensures.block in
    can_walk xs c.end-end.result s.rest (subst (λ (k : ℕ). IsWalk xs k s.rest) (sym end) s.after)

pub returns : goal.returns
returns c =
    let xs = c.self.inside.pages.bytes in
    let s : IsSeen xs c.args.place c.args.self.now.value.blocks = block_seen xs c.args.self.now.value c.args.place (stands_seen c.self.inside.pages c.args.self.now c.self.invariant c.self.view_is) c.requires in
    let end : c.end-end.result ≡ c.args.place + rounded (length s.bytes) = c.end-end.ensures ∙ end_seen xs c.args.place c.args.self.now.value.blocks s c.block.result c.block.ensures.block in
    let mapped : c.map.result ≡ option_map (λ (f : Found). f.place) c.block_from.result = search rules in
    mapped ∙ ap (λ (o : Option Found). option_map (λ (f : Found). f.place) o) (c.block_from.ensures s.rest (subst (λ (k : ℕ). IsWalk xs k s.rest) (sym end) s.after)) ∙ sym s.next
