-- A handler is known by its fields: what it says of them may have been shown in any way.
use Rattle.std.proofs.Common.{◌≡◌, ◌≤◌, vec_capacity, vec_len, sym, ap, ◌∙◌}
use Rattle.std.proofs.Props.{props}
use Rattle.ken_links.specs.declared.pop_end.PopEnd.{PopEnd}
use Rattle.ken_links.specs.declared.push_end.PushEnd.{PushEnd}
use Rattle.ken_ship.specs.declared.items.Sealed.{Sealed}
use Rattle.ken_work.specs.declared.items.Settled.{Settled}
use Rattle.ken_work.specs.declared.items.Frozen.{Frozen}
use Rattle.ken_work.specs.declared.worker.TurnWorker.{TurnWorker}
use Rattle.ken_work.specs.News.{AreInputs}

module _ {D : Type 0} where
  -- room for news
  abbrev HasRoom : TurnWorker D → Type 0
  HasRoom a = (64 ≤ vec_capacity a.news) × (vec_len a.news ≡ 0)

  facts_same : (a : TurnWorker D) (few : a.nodes ≤ 8) (most : a.cap ≤ 100000) (room : HasRoom a) (given : AreInputs a.node a.inputs.items) → record a { few = few; most = most; room = room; given = given } ≡ a
  facts_same a few most room given =
      let few_prop : IsProp (a.nodes ≤ 8) = hlevel props in
      let most_prop : IsProp (a.cap ≤ 100000) = hlevel props in
      let room_prop : IsProp (HasRoom a) = hlevel props in
      let given_prop : IsProp (AreInputs a.node a.inputs.items) = hlevel props in
      ap (λ (x : a.nodes ≤ 8). record a { few = x; most = most; room = room; given = given }) (few_prop few a.few)
      ∙ ap (λ (x : a.cap ≤ 100000). record a { most = x; room = room; given = given }) (most_prop most a.most)
      ∙ ap (λ (x : HasRoom a). record a { room = x; given = given }) (room_prop room a.room)
      ∙ ap (λ (x : AreInputs a.node a.inputs.items). record a { given = x }) (given_prop given a.given)

  -- a handler that was told of progress, and whose rings were emptied
  pub handler_met : (t heard : TurnWorker D) {settled : PopEnd Settled} (pages : PushEnd Frozen) (sealed : PushEnd Sealed) {few : t.nodes ≤ 8} {most : t.cap ≤ 100000} {given : AreInputs t.node t.inputs.items}
      {few2 : heard.nodes ≤ 8} {most2 : heard.cap ≤ 100000} {room2 : HasRoom heard} {given2 : AreInputs heard.node heard.inputs.items}
      → heard ≡ record t { told = heard.told; settled = settled; progress = heard.progress; news = heard.news; few = few; most = most; room = heard.room; given = given }
      → record heard { pages = pages; sealed = sealed; few = few2; most = most2; room = room2; given = given2 }
      ≡ record t { told = heard.told; pages = pages; sealed = sealed; settled = heard.settled; progress = heard.progress; news = heard.news; room = room2 }
  handler_met t heard {settled} pages sealed {few} {most} {given} {few2} {most2} {room2} {given2} rest =
      let emptied : TurnWorker D = record heard { pages = pages; sealed = sealed } in
      let known : TurnWorker D = record t { told = heard.told; pages = pages; sealed = sealed; settled = settled; progress = heard.progress; news = heard.news; room = room2 } in
      facts_same emptied few2 most2 room2 given2
      ∙ ap (λ (w : TurnWorker D). record w { pages = pages; sealed = sealed }) rest
      ∙ facts_same known few most heard.room given
      ∙ ap (λ (x : PopEnd Settled). record known { settled = x }) (ap (λ (w : TurnWorker D). w.settled) (sym rest))
