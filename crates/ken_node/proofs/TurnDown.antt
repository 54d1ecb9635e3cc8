-- A node whose handler's disk failed may be restarted.
use Rattle.std.proofs.Common.{ℕ, inl, inr, ⊎_elim, List, ap, Option, Some, Err}
use Rattle.ken_disk.specs.Fates.{Fate}
use Rattle.ken_disk.specs.Story.{Story}
use Rattle.ken_net.specs.Puts.{Put}
use Rattle.ken_ship.specs.declared.faults.NodeFault.TheVariants.{Disk}
use Rattle.ken_work.specs.declared.worker.TurnWorker.{TurnWorker}
use Rattle.ken_work.specs.Calls.{IsTurnInDoubt, IsTurnoverInDoubt, Drew}
use Rattle.ken_node.specs.DownLaws.{TurnGoesDown}
use Rattle.ken_work.specs.Sealing.{is_full}
use Rattle.ken_whole.specs.Whole.{IsWhole}
use Rattle.ken_whole.specs.TurnLaws.{DoubtsSeal, DoubtsTurnover}
use Rattle.ken_node.proofs.SealDown.{seal_goes_down}
use Rattle.ken_node.proofs.TurnoverDown.{turnover_goes_down}
use Rattle.ken_whole.proofs.TurnoversWhole.{may-turn}
use Rattle.ken_whole.proofs.TurnsWhole.{doubt-from, doubt-leads, heard-whole, ready-by}

module _ {D O N : Type 0} (told : D → Option Story) (size count : D → ℕ) (fate : D → Option Fate) (clocks words : O → Option (List ℕ)) (given_between : N → N → List (List ℕ) → Type 0) (put_between : N → N → List Put → Type 0) where
  pub turn_goes_down : TurnGoesDown told size count fate clocks words given_between put_between
  turn_goes_down g v n t mid t2 p s oracle oracle2 net net2 nones nones2 limits known whole same news takes fronts tell =
      let drew : List ℕ → Type 0 = Drew clocks words g.handler oracle oracle2 in
      let gave : List (List ℕ) → Type 0 = given_between net net2 in
      let put : List Put → Type 0 = put_between net net2 in
      let heard : IsWhole told size g v n mid p s = heard-whole told size count fate clocks words given_between put_between g v n t mid t2 p s oracle oracle2 net net2 (Err Disk) nones nones2 whole news takes fronts in
      ⊎_elim
      (λ (in_doubt : IsTurnoverInDoubt told size count fate g.handler drew mid t2 gave put).
      let doubts : DoubtsTurnover told size g v n gave put mid p s = record { was_given = in_doubt.given; was_put = in_doubt.none; whole = heard; may = may-turn told size g v n mid p s heard } in
      inl (record { doubts = doubts; down = λ given. turnover_goes_down told size count fate clocks words given_between put_between g v given n mid t2 p s oracle oracle2 net net2 limits known doubts in_doubt tell }))
      (λ (turn : IsTurnInDoubt told size count fate g.handler drew mid t2 gave put nones nones2).
      let ready = ready-by told size count fate drew g v p s gave n mid heard put nones nones2 turn.mid (Some turn.message) turn.came in
      let order = ap (λ (x : TurnWorker D). x.order) news.rest in
      let full = ap (λ (x : TurnWorker D). is_full x.side) news.rest in
      let doubts : DoubtsSeal told size count fate drew g v n gave put t t2 p s =
      doubt-from told size count fate drew g v p s gave put n t mid t2 order full (doubt-leads told size count fate drew g v p s gave n mid heard put turn.mid t2 turn.message ready turn.doubt) in
      inr (record { doubts = doubts; down = seal_goes_down told size count fate clocks words given_between put_between g v n t t2 p s oracle oracle2 net net2 limits known doubts tell }))
      takes
