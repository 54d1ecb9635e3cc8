-- A take that gives nothing finds the inbox empty.
use Rattle.std.proofs.Common.{◌≡◌, ◌∙◌, List, [], ◌∷◌, ℕ, slice_get, slice_index_or, sym, refl, rules, false, Option, Some, None}
use Rattle.std.specs.Option.{is_some, option_to_list}
use Rattle.ken_net.specs.Inboxes.{Gave}
use Rattle.ken_net.proofs.plain.PlainNetBase.take.Goals as goal

nothing-there : (box : List (List ℕ)) → slice_get box 0 ≡ None → box ≡ []
nothing-there [] e = refl
nothing-there (x ∷ xs) e = absurd (cc)

emptied : (node : ℕ) (old new : List (List (List ℕ))) (packet : Option (List ℕ)) → is_some packet ≡ false → packet ≡ slice_get (slice_index_or old node []) 0 → Gave node old new (option_to_list packet) → slice_index_or new node [] ≡ []
emptied node old new (Some p) none oldest gave = absurd (cc)
emptied node old new None none oldest gave = sym gave.front ∙ nothing-there (slice_index_or old node []) (sym oldest)

pub returns-then-is_none-clause-given : goal.returns-then-is_none-clause-given
returns-then-is_none-clause-given c = (
  refl,
  record {
    gave = c.take-packet.ensures.gave;
    counted = search rules;
    emptied = λ less. emptied c.args.self.now.node c.args.self.now.takes c.take-packet.new.self c.take-packet.result (search rules) c.take-packet.ensures.oldest c.take-packet.ensures.gave;
  },
)
