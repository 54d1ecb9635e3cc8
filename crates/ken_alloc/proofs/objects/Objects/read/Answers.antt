use Rattle.std.proofs.Common.{◌≡◌, ℕ, List, length, take, drop, Option, IfSome, sym, ap, ◌∙◌, subst, arith}
use Rattle.ken_model.proofs.Heads.{part_of_part}
use Rattle.ken_alloc.proofs.Held.{IsWithin, stands_seen, part_seen}
use Rattle.ken_alloc.proofs.objects.Objects.read.Goals as goal

pub overflow_add-place : goal.overflow_add-place
overflow_add-place c =
    let w : IsWithin c.self.inside.pages.bytes c.args.place c.args.at (length c.args.buf.now) c.args.self.now.value.blocks = part_seen c.self.inside.pages.bytes c.args.self.now.value c.args.place c.args.at (length c.args.buf.now) (stands_seen c.self.inside.pages c.args.self.now c.self.invariant c.self.view_is) c.requires in
    omega (arith, w.within, w.seen.small)

pub read-requires : goal.read-requires
read-requires c =
    let w : IsWithin c.self.inside.pages.bytes c.args.place c.args.at (length c.args.buf.now) c.args.self.now.value.blocks = part_seen c.self.inside.pages.bytes c.args.self.now.value c.args.place c.args.at (length c.args.buf.now) (stands_seen c.self.inside.pages c.args.self.now c.self.invariant c.self.view_is) c.requires in
    w.within

pub returns : goal.returns
returns c =
    let xs = c.self.inside.pages.bytes in
    let n = length c.args.buf.now in
    let w : IsWithin c.self.inside.pages.bytes c.args.place c.args.at (length c.args.buf.now) c.args.self.now.value.blocks = part_seen c.self.inside.pages.bytes c.args.self.now.value c.args.place c.args.at (length c.args.buf.now) (stands_seen c.self.inside.pages c.args.self.now c.self.invariant c.self.view_is) c.requires in
    subst (λ (o : Option (List ℕ)). IfSome o (λ bytes. c.read.new.buf ≡ take n (drop c.args.at bytes))) (sym w.seen.found)
    (c.read.ensures ∙ part_of_part xs c.args.place (length w.seen.bytes) c.args.at n w.fits ∙ ap (λ (ws : List ℕ). take n (drop c.args.at ws)) w.seen.stands)
