use Rattle.std.proofs.Common.{◌≡◌, ℕ, List, length, Option, IfSome, sym, ap, ◌∙◌, subst, arith}
use Rattle.ken_alloc.specs.declared.walk.Found.{Found}
use Rattle.ken_alloc.proofs.Held.{IsSeen, stands_seen, block_seen}
use Rattle.ken_alloc.proofs.objects.Objects.block.Goals as goal

pub overflow_sub-place : goal.overflow_sub-place
overflow_sub-place c =
    let s : IsSeen c.self.inside.pages.bytes c.args.place c.args.self.now.value.blocks = block_seen c.self.inside.pages.bytes c.args.self.now.value c.args.place (stands_seen c.self.inside.pages c.args.self.now c.self.invariant c.self.view_is) c.requires in
    omega (arith, s.past)

pub read-requires : goal.read-requires
read-requires c =
    let s : IsSeen c.self.inside.pages.bytes c.args.place c.args.self.now.value.blocks = block_seen c.self.inside.pages.bytes c.args.self.now.value c.args.place (stands_seen c.self.inside.pages c.args.self.now c.self.invariant c.self.view_is) c.requires in
    omega (arith, s.past, s.ends)

pub returns-clause-block : goal.returns-clause-block
returns-clause-block c =
    let s : IsSeen c.self.inside.pages.bytes c.args.place c.args.self.now.value.blocks = block_seen c.self.inside.pages.bytes c.args.self.now.value c.args.place (stands_seen c.self.inside.pages c.args.self.now c.self.invariant c.self.view_is) c.requires in
    subst (λ (o : Option (List ℕ)). IfSome o (λ bytes. (let f : Found = record { place = c.args.place; len = c.read.result.len } in f) ≡ (let g : Found = record { place = c.args.place; len = length bytes } in g))) (sym s.found)
    (ap (λ (k : ℕ). let f : Found = record { place = c.args.place; len = k } in f) (c.read.ensures.len ∙ s.len_is))

pub returns-clause-small : goal.returns-clause-small
returns-clause-small c =
    let s : IsSeen c.self.inside.pages.bytes c.args.place c.args.self.now.value.blocks = block_seen c.self.inside.pages.bytes c.args.self.now.value c.args.place (stands_seen c.self.inside.pages c.args.self.now c.self.invariant c.self.view_is) c.requires in
    omega (arith, s.ends, s.small)
