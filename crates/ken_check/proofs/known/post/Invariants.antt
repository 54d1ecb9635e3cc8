use Rattle.std.proofs.Common.{◌==◌, count_by, take}
use Rattle.ken_model.specs.declared.messages.Message.{Message}
use Rattle.ken_check.specs.Counts.{Counted}
use Rattle.ken_check.proofs.known.post.Given as goal

-- the messages so far are counted
abbrev pub invariant-loop-message : goal.invariant-loop-message
invariant-loop-message l = Counted (λ v. count_by (λ (m : Message). m.to == v) (take l.message-index l.messages)) l.fn.nodes l.nodes
