-- A kind among members.
use Rattle.std.proofs.Common.{◌≡◌, ◌∙◌, sym, ap, String, Global, string_bytes, codes, rules}
use Rattle.serde_json.specs.Data.{object, string, put}
use Rattle.serde_json.specs.View.{members_view, view}
use Rattle.serde_json.specs.declared.value.Value.{the_lemmas}
use Rattle.serde_json.specs.declared.value.Value as value
use Rattle.serde_json.proofs.Views.{members_view-insert_entry, view-Object}
use Rattle.ken_script.specs.Service.{with_kind}
use Rattle.ken_script.proofs.service.with_kind.Goals as goal

view-String : (s : String Global) → view (value.String s) ≡ string (string_bytes s)
view-String s = search (rules, the_lemmas)

pub returns-in_ok-insert-in-Object : goal.returns-in_ok-insert-in-Object
returns-in_ok-insert-in-Object c =
    let name = c.in_ok-from_str-in-Object-2.field-0 in
    let kind = c.in_ok-from_str-in-Object.field-0 in
    view-Object c.insert.new.self
    ∙ ap object (ap members_view c.in_ok-insert-in-Object.ensures.entries
    ∙ members_view-insert_entry c.in-Object.members.entries name (value.String kind)
    ∙ ap (λ k. put k (view (value.String kind)) (members_view c.in-Object.members.entries)) c.in_ok-from_str-in-Object-2.ensures.ok
    ∙ ap (λ d. put (codes "kind") d (members_view c.in-Object.members.entries)) (view-String kind ∙ ap string c.in_ok-from_str-in-Object.ensures.ok))
    ∙ ap with_kind (sym (view-Object c.in-Object.members) ∙ ap view (sym c.in-Object.is))
