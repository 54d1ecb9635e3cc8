use Rattle.std.proofs.Common.{◌∙◌}
use Rattle.ken_alloc.proofs.Held.{value_seen, is_some_seen}
use Rattle.ken_alloc.proofs.objects.Objects.is_block.Goals as goal

pub returns : goal.returns
returns c =
    c.is_some.ensures ∙ is_some_seen c.self.inside.pages.bytes c.args.self.now.value c.args.place c.hole.result (value_seen c.self.inside.pages c.args.self.now c.self.view_is) c.hole.ensures
