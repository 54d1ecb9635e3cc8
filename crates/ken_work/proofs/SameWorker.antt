-- A worker goes on with the ends of its rings.
use Rattle.std.proofs.Common.{◌≡◌, ◌≤◌, vec_capacity, vec_len, sym, ap, ◌∙◌}
use Rattle.std.proofs.Props.{props}
use Rattle.ken_links.specs.declared.push_end.PushEnd.{PushEnd}
use Rattle.ken_ship.specs.declared.items.Sealed.{Sealed}
use Rattle.ken_store.specs.declared.turning.TurnSide.{TurnSide}
use Rattle.ken_work.specs.declared.items.Frozen.{Frozen}
use Rattle.ken_work.specs.declared.worker.TurnWorker.{TurnWorker}
use Rattle.ken_work.specs.Calls.{IsQuiet}
use Rattle.ken_work.specs.News.{AreInputs}

-- the facts that a worker keeps of its fields have one proof each
pub same_worker : {D : Type 0} (w : TurnWorker D) (few : w.nodes ≤ 8) (most : w.cap ≤ 100000) (room : (64 ≤ vec_capacity w.news) × (vec_len w.news ≡ 0)) (given : AreInputs w.node w.inputs.items) → record w { few = few; most = most; room = room; given = given } ≡ w
same_worker w few most room given =
    let one : IsProp (w.nodes ≤ 8) = hlevel props in
    let two : IsProp (w.cap ≤ 100000) = hlevel props in
    let three : IsProp ((64 ≤ vec_capacity w.news) × (vec_len w.news ≡ 0)) = hlevel props in
    let four : IsProp (AreInputs w.node w.inputs.items) = hlevel props in
    ap (λ x. record w { few = x; most = most; room = room; given = given }) (one few w.few)
    ∙ ap (λ x. record w { most = x; room = room; given = given }) (two most w.most)
    ∙ ap (λ x. record w { room = x; given = given }) (three room w.room)
    ∙ ap (λ x. record w { given = x }) (four given w.given)

-- a worker with another side, where only the side changed before
pub same_side : {D : Type 0} (old mid : TurnWorker D) (s : TurnSide D) (few : mid.nodes ≤ 8) (most : mid.cap ≤ 100000) (room : (64 ≤ vec_capacity mid.news) × (vec_len mid.news ≡ 0)) (given : AreInputs mid.node mid.inputs.items) → mid ≡ record old { side = mid.side }
    → record mid { side = s; few = few; most = most; room = room; given = given } ≡ record old { side = s }
same_side old mid s few most room given rest = same_worker (record mid { side = s }) few most room given ∙ ap (λ (w : TurnWorker _). record w { side = s }) rest

-- another side again, where nothing was pushed and no turn kept before
pub quiet_side : {D : Type 0} (old mid : TurnWorker D) (s : TurnSide D) (few : mid.nodes ≤ 8) (most : mid.cap ≤ 100000) (room : (64 ≤ vec_capacity mid.news) × (vec_len mid.news ≡ 0)) (given : AreInputs mid.node mid.inputs.items) → IsQuiet old mid
    → record mid { side = s; few = few; most = most; room = room; given = given } ≡ record old { side = s; turns = mid.turns }
quiet_side {D} old mid s few most room given quiet = same_worker (record mid { side = s }) few most room given ∙ ap (λ (w : TurnWorker D). record w { side = s }) quiet.rest

-- then a turn was kept
pub kept_rest : {D : Type 0} (old mid kept : TurnWorker D) (s : TurnSide D) (few : mid.nodes ≤ 8) (most : mid.cap ≤ 100000) (room : (64 ≤ vec_capacity mid.news) × (vec_len mid.news ≡ 0)) (given : AreInputs mid.node mid.inputs.items) → IsQuiet old mid
    → kept ≡ record mid { side = s; order = kept.order; turns = kept.turns; few = few; most = most; room = room; given = given } → kept ≡ record old { side = kept.side; order = kept.order; turns = kept.turns }
kept_rest {D} old mid kept s few most room given quiet rest =
    rest
    ∙ same_worker (record mid { side = s; order = kept.order; turns = kept.turns }) few most room given
    ∙ ap (λ (w : TurnWorker D). record w { side = s; order = kept.order; turns = kept.turns }) quiet.rest
    ∙ ap (λ (x : TurnSide D). record old { side = x; order = kept.order; turns = kept.turns }) (sym (ap (λ (w : TurnWorker D). w.side) rest))

-- and handed over
pub handed_rest : {D : Type 0} (old kept : TurnWorker D) (pages : PushEnd Frozen) (ring : PushEnd Sealed) (few : kept.nodes ≤ 8) (most : kept.cap ≤ 100000) (room : (64 ≤ vec_capacity kept.news) × (vec_len kept.news ≡ 0)) (given : AreInputs kept.node kept.inputs.items)
    → kept ≡ record old { side = kept.side; order = kept.order; turns = kept.turns }
    → record kept { pages = pages; sealed = ring; few = few; most = most; room = room; given = given } ≡ record old { side = kept.side; order = kept.order; turns = kept.turns; pages = pages; sealed = ring }
handed_rest {D} old kept pages ring few most room given rest = same_worker (record kept { pages = pages; sealed = ring }) few most room given ∙ ap (λ (w : TurnWorker D). record w { pages = pages; sealed = ring }) rest

pub quiet_on : {D : Type 0} (a b c : TurnWorker D) → IsQuiet a b → IsQuiet b c → IsQuiet a c
quiet_on {D} a b c one two = record {
  rest = two.rest ∙ ap (λ (w : TurnWorker D). record w { side = c.side; turns = c.turns }) one.rest;
  turns = two.turns ∙ one.turns;
}

-- only its side changed
pub side_quiet : {D : Type 0} (a b : TurnWorker D) → b ≡ record a { side = b.side } → IsQuiet a b
side_quiet {D} a b rest = record {
  rest = rest ∙ ap (λ t. record a { side = b.side; turns = t }) (ap (λ (w : TurnWorker D). w.turns) (sym rest));
  turns = ap (λ (w : TurnWorker D). w.turns.items) rest;
}
