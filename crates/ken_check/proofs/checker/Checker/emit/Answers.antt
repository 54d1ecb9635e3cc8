use Rattle.std.proofs.Common.{◌≡◌, ◌+◌, ◌-◌, ◌<◌, ◌≤◌, length, ◌++◌, slice_get, refl, sym, ap, ◌∙◌, arith}
use Rattle.std.proofs.lemmas.Option.{slice_get_read, slice_get_within}
use Rattle.ken_model.specs.declared.reports.Emission.{Emission}
use Rattle.ken_model.specs.Report.{line, emit_words}
use Rattle.ken_check.proofs.Kept.{read_at}
use Rattle.ken_check.proofs.KnowsEmission.{names_node, names_number, names_out, same_line, is_right, is_known}
use Rattle.ken_check.proofs.checker.Checker.emit.Goals as goal
use Rattle.ken_check.proofs.checker.Checker.emit.Goals.{then-node-self-via-then-node-self, then-node-self-via-else-node-self+then-node-self-2, then-number-eq0-via-then-number-eq0, then-number-eq0-via-else-number-eq0+then-number-known}

pub returns-then-node-self : goal.returns-then-node-self
returns-then-node-self c = λ g most told knows told2 is.
    let named = names_node g most c.args.self.now told knows c.args.node c.args.number _ told2 is in
    elim c.then-node-self.branch [
      | then-node-self-via-then-node-self w ↦ omega (arith, w.if-node-self.true, named)
      | then-node-self-via-else-node-self+then-node-self-2 w ↦ omega (arith, w.if-node-self-2.true, named)
    ]

pub returns-then-number-eq0 : goal.returns-then-number-eq0
returns-then-number-eq0 c = λ g most told knows told2 is.
    let at = read_at _ _ _ _ c.index_mut-known.ensures.value c.from.ensures in
    let named = names_number g most c.args.self.now told knows c.args.node c.args.number _ told2 is _ at in
    elim c.then-number-eq0.branch [
      | then-number-eq0-via-then-number-eq0 w ↦ omega (arith, w.if-number-eq0.true, named)
      | then-number-eq0-via-else-number-eq0+then-number-known w ↦ omega (arith, w.if-number-known.true, named)
    ]

pub returns-in_default : goal.returns-in_default
returns-in_default c = λ g most told knows told2 is.
    let at = read_at _ _ _ _ c.index_mut-known.ensures.value c.from.ensures in
    let named = names_out g most c.args.self.now told knows c.args.node c.args.number _ told2 is _ at in
    let within = slice_get_within c.index_mut-known.result.now.outs.items (c.args.number - 1) is.0.emission.out named in
    omega (arith, within, c.in_default.ensures.lookup.3, ap length c.deref.ensures.value)

pub returns-then-not-is_line : goal.returns-then-not-is_line
returns-then-not-is_line c = λ g most told knows told2 is.
    let e : Emission = record { node = c.args.node; out = c.in-Some.out.now } in
    let at = read_at _ _ _ _ c.index_mut-known.ensures.value c.from.ensures in
    let named = names_out g most c.args.self.now told knows c.args.node c.args.number _ told2 is _ at in
    let read = slice_get_read c.deref.result.now _ (c.args.number - 1) e.out refl c.in-Some.ensures.lookup.3.0 c.in-Some.ensures.lookup.1 in
    let found = ap (λ os. slice_get os (c.args.number - 1)) (sym c.deref.ensures.value) ∙ read in
    let same : is.0.emission.out ≡ e.out = cc in
    let shown = c.as_slice.ensures.value ∙ c.in_ok-put_emission.ensures ∙ ap (λ bs. bs ++ line (emit_words e)) c.clear.ensures.items in
    let yes = c.is_line.ensures.1 (shown ∙ sym (is.0.text ∙ same_line is.0.emission e.node e.out is.1 same)) in
    let no = c.if-not-is_line.true in
    absurd cc

pub returns : goal.returns
returns c = λ g most told knows.
    let e : Emission = record { node = c.args.node; out = c.in-Some.out.now } in
    let some : 0 < c.args.number = omega (arith, c.if-number-eq0.false) in
    let more : c.args.number ≤ c.index_mut-known.result.now.emitted + 1 = omega (arith, c.if-number-known.false) in
    let at = read_at _ _ _ _ c.index_mut-known.ensures.value c.from.ensures in
    let read = slice_get_read c.deref.result.now _ (c.args.number - 1) e.out refl c.in-Some.ensures.lookup.3.0 c.in-Some.ensures.lookup.1 in
    let found = ap (λ os. slice_get os (c.args.number - 1)) (sym c.deref.ensures.value) ∙ read in
    let shown = c.as_slice.ensures.value ∙ c.in_ok-put_emission.ensures ∙ ap (λ bs. bs ++ line (emit_words e)) c.clear.ensures.items in
    let spelled = sym (c.is_line.ensures.0 c.if-not-is_line.false) ∙ shown in (
      _,
      is_right g most c.args.self.now told knows e c.args.number _ c.if-node-self.false c.if-node-self-2.false at some more found c.args.text.now
          c.requires.before (omega (arith, c.ranges.node)) (omega (arith, c.ranges.number)) c.requires.one_line spelled,
      is_known g most c.args.self.now told knows e c.args.number _ c.if-node-self.false c.if-node-self-2.false at some more found
          c.from.result c.max-known.result c.from.ensures c.max-known.ensures (record c.args.self.now { buffer = c.put_emission.new.out }),
    )
