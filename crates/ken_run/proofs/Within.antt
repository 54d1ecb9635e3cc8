-- What a node puts goes to nodes of the run.
use Rattle.std.proofs.Common.{◌≡◌, ℕ, ◌+◌, ◌<◌, List, [], ◌∷◌, ◌++◌, Option, Some, None, sym, subst}
use Rattle.std.specs.Prelude.{slice_index}
use Rattle.std.specs.List.{AllByRecursion}
use Rattle.ken_model.specs.declared.messages.Message.{Message}
use Rattle.ken_model.specs.declared.messages.Out.{Out}
use Rattle.ken_model.specs.Game.{Game}
use Rattle.ken_net.specs.History.{AreFor}
use Rattle.ken_net.specs.Puts.{Put}
use Rattle.ken_core.specs.declared.events.Event.{Event}
use Rattle.ken_core.specs.declared.events.Event.TheVariants.{Seal, SealCut, Patch, SyncImage, Turnover, Send, Ack, TakeAck, Emit, Crash, Recover}
use Rattle.ken_core.specs.Nodes.{Node}
use Rattle.ken_core.specs.Packets as core
use Rattle.ken_core.specs.Packets.{Packet, Outgoing, due, emitted_out, mail_out, outgoing, unacked}
use Rattle.ken_core.specs.Runs.{NodeRun}
use Rattle.ken_core.specs.Steps.{NodeStep}
use Rattle.ken_core.proofs.Ledgers.{mail_is}
use Rattle.ken_node.specs.NodeCalls.{AreSpelled, receiver}

module _ (g : Game) (put : Packet → Type 0) (v : ℕ) where
  -- it goes to one
  abbrev GoesWithin : core.Put → Type 0
  GoesWithin q = receiver q.packet < g.nodes

  none-put : (o : Option Out) → AllByRecursion GoesWithin (emitted_out o).puts
  none-put None = tt
  none-put (Some o) = tt

  step-within : (n n2 : Node) (e : Event) → NodeStep g put v n e n2 → AllByRecursion GoesWithin (outgoing v n e).puts
  step-within n n2 (Send node to i) step =
      let m : Message = step.0 in
      let is : unacked v to i n ≡ Some m = step.1.2 in
      let both = mail_is v to (slice_index n.sending.acked to + i) n.turning.turns m is in
      subst (λ (o : Option Message). AllByRecursion GoesWithin (mail_out v to n o).puts) (sym is) (subst (λ (x : ℕ). x < g.nodes) (sym both.1) step.1.1, tt)
  step-within n n2 (Ack node from) step = (step.1, tt)
  step-within n n2 (Seal node from draws pages) step = tt
  step-within n n2 (SealCut node from draws pages landed) step = tt
  step-within n n2 (Patch node page) step = tt
  step-within n n2 (SyncImage node) step = tt
  step-within n n2 (Turnover node outcome told) step = tt
  step-within n n2 (TakeAck node from through) step = tt
  step-within n n2 (Emit node) step = none-put (due n)
  step-within n n2 (Crash node pages) step = tt
  step-within n n2 (Recover node) step = tt

  both-within : (xs ys : List core.Put) → AllByRecursion GoesWithin xs → AllByRecursion GoesWithin ys → AllByRecursion GoesWithin (xs ++ ys)
  both-within [] ys one two = two
  both-within (x ∷ xs) ys one two = (one.0, both-within xs ys one.1 two)

  run-within : (n n2 : Node) (es : List Event) (out : Outgoing) → NodeRun g put v n es out n2 → AllByRecursion GoesWithin out.puts
  run-within n n2 [] out run = subst (λ (o : Outgoing). AllByRecursion GoesWithin o.puts) (sym run.0) tt
  run-within n n2 (e ∷ es) out run =
      subst (λ (o : Outgoing). AllByRecursion GoesWithin o.puts) (sym run.1.1.2)
      (both-within (outgoing v n e).puts run.1.0.puts (step-within n run.0 e run.1.1.1) (run-within run.0 n2 es run.1.0 run.1.1.3))

  spelled-within : (ps : List Put) (qs : List core.Put) → AreSpelled g.nodes ps qs → AllByRecursion GoesWithin qs → AreFor g.nodes ps
  spelled-within [] [] spelled are = tt
  spelled-within [] (q ∷ qs) spelled are = absurd spelled
  spelled-within (p ∷ ps) [] spelled are = absurd spelled
  spelled-within (p ∷ ps) (q ∷ qs) spelled are = (subst (λ (x : ℕ). x < g.nodes) (sym spelled.0.to) are.0, spelled-within ps qs spelled.1 are.1)

  -- so do its bytes
  pub puts-within : (n n2 : Node) (es : List Event) (out : Outgoing) (ps : List Put) → NodeRun g put v n es out n2 → AreSpelled g.nodes ps out.puts → AreFor g.nodes ps
  puts-within n n2 es out ps run spelled = spelled-within ps out.puts spelled (run-within n n2 es out run)
