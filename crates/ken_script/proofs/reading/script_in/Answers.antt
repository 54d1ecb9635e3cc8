use Rattle.std.proofs.Common.{Some, sym, refl, ◌∙◌, ap}
use Rattle.serde_json.specs.View.{view, items_view}
use Rattle.ken_script.specs.Keys.{listed}
use Rattle.ken_script.specs.Inputs.{long_text, odd_text}
use Rattle.ken_script.proofs.Stated.{pages_fit, states_of}
use Rattle.ken_script.proofs.reading.script_in.Goals as goal

pub overflow_mul-result : goal.overflow_mul-result
overflow_mul-result c = pages_fit (view c.args.object.now) c.in-Some-pages_of.pages (sym c.in-Some-pages_of.ensures)

pub returns-clause-ok : goal.returns-clause-ok
returns-clause-ok c =
    states_of (view c.args.object.now) _ (sym c.in-Some-nodes_of.ensures)
    (record {
      known = sym c.in_default.ensures;
      kind = sym c.in-Some-kind_in.ensures;
      pages = c.in-Some-pages_of.pages;
      told_pages = sym c.in-Some-pages_of.ensures;
      size = refl;
      seed = sym c.in-Some-seed_of.ensures;
      rounds = sym c.in-Some-rounds_of.ensures;
      turns = sym c.in-Some-turns_of.ensures;
      restarts = sym c.in-Some-restarts_of.ensures;
      items = listed (items_view c.in-Some-items_in.items.now);
      under = sym c.in-Some-items_in.ensures;
      right = c.in_ok-inputs.ensures.right;
      inputs = c.in_ok-inputs.ensures.inputs ∙ ap Some (sym c.new.ensures);
      short = ap long_text (c.new.ensures ∙ sym c.deref.ensures.value) ∙ sym c.in_default-long_text.ensures;
      plain = ap odd_text (c.new.ensures ∙ sym c.deref-2.ensures.value) ∙ sym c.in_default-odd_text.ensures;
    })
    (record {
      cuts = c.in_ok-cuts.ensures.mishaps ∙ ap Some (sym c.new-2.ensures);
      right_cuts = c.in_ok-cuts.ensures.right;
      mail = c.in_ok-mail.ensures.mishaps ∙ ap Some (sym c.new-3.ensures);
      right_mail = c.in_ok-mail.ensures.right;
      acks = c.in_ok-acks.ensures.mishaps ∙ ap Some (sym c.new-4.ensures);
      right_acks = c.in_ok-acks.ensures.right;
      outlets = c.in_ok-outlets.ensures.mishaps ∙ ap Some (sym c.new-5.ensures);
      right_outlets = c.in_ok-outlets.ensures.right;
    })
