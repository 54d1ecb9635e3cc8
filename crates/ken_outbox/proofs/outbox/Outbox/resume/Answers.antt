use Rattle.std.proofs.Common.{◌≡◌, ◌-◌, ◌≤◌, ◌∙◌, ℕ, List, length, ap, sym, subst, arith}
use Rattle.std.specs.Prelude.{map}
use Rattle.ken_model.specs.declared.messages.Message.{Message}
use Rattle.ken_outbox.specs.Waiting.{AreFor}
use Rattle.ken_outbox.specs.Lines.{shown}
use Rattle.ken_outbox.proofs.Resumed.{resumed_long, resumes_all}
use Rattle.ken_outbox.proofs.outbox.Outbox.resume.Goals as goal

pub add-requires : goal.add-requires
add-requires c =
    let copies : List Message = c.in_ok-copies_of.field-0 in
    let low : c.args.nodes ≤ length c.as_slice.result.now = omega (arith, c.requires.nodes, ap (λ (ns : List ℕ). length ns) c.as_slice.ensures) in
    let long = resumed_long c.in_ok-resumed.field-0.items c.args.nodes c.as_slice.result.now c.as_slice-waiting.result.now low c.in_ok-resumed.ensures in
    let same : copies ≡ c.args.state.now.messages = c.in_ok-copies_of.ensures ∙ c.as_slice-waiting.ensures in
    subst (λ (k : ℕ). AreFor k copies) (sym long) (subst (AreFor c.args.nodes) (sym same) c.requires.messages)

pub returns-clause-state : goal.returns-clause-state
returns-clause-state c =
    let emitted : c.saturating_sub.result ≡ c.args.state.now.outputs - length c.args.state.now.outs = omega (arith, c.saturating_sub.ensures, c.len.ensures) in
    c.in_ok-add.ensures.ok
    ∙ resumes_all (map shown c.in_ok-resumed.field-0.items) c.saturating_sub.result c.args.nodes c.new.result.items c.in_ok-copies_of-2.field-0 c.in_ok-copies_of.field-0 c.as_slice-waiting.result.now c.as_slice.result.now c.args.state.now
    c.in_ok-resumed.ensures c.as_slice.ensures c.as_slice-waiting.ensures c.in_ok-copies_of.ensures c.new.ensures.items (c.in_ok-copies_of-2.ensures ∙ c.as_slice-2.ensures) emitted

pub returns-clause-nodes : goal.returns-clause-nodes
returns-clause-nodes c =
    let low : c.args.nodes ≤ length c.as_slice.result.now = omega (arith, c.requires.nodes, ap (λ (ns : List ℕ). length ns) c.as_slice.ensures) in
    c.add.ensures.nodes ∙ resumed_long c.in_ok-resumed.field-0.items c.args.nodes c.as_slice.result.now c.as_slice-waiting.result.now low c.in_ok-resumed.ensures
