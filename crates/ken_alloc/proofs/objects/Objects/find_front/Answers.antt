use Rattle.ken_alloc.proofs.Held.{stands_seen}
use Rattle.ken_model.proofs.Valid.{IsHeap-stands}
use Rattle.ken_alloc.proofs.objects.Objects.find_front.Goals as goal

pub returns-clause-heap : goal.returns-clause-heap
returns-clause-heap c = IsHeap-stands c.self.inside.pages.bytes c.args.self.now.value (stands_seen c.self.inside.pages c.args.self.now c.self.invariant c.self.view_is)
