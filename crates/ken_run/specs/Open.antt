-- How much is open in a run: what its links and nodes have still to do where no turn is made.
use Rattle.std.specs.Prelude.{ℕ, ◌+◌, ◌-◌, ◌*◌, length}
use Rattle.std.specs.List.{range_with_len, sum_by}
use Rattle.ken_net.specs.Standings.{link_to}
use Rattle.ken_ship.specs.Laws.{line_of}
use Rattle.ken_ship.specs.Parts.{part_of}
use Rattle.ken_node.specs.declared.stage.Stage.{Stage}
use Rattle.ken_node.specs.declared.stage.Stage.TheVariants.{Uncreated, Created, Moved}
use Rattle.ken_node.specs.Stages.{refusals_in}
use Rattle.ken_flow.specs.Standstill.{left_on}
use Rattle.ken_run.specs.declared.run.Run.{Run}
use Rattle.ken_run.specs.declared.station.Station.{Station}
use Rattle.ken_run.specs.Left.{outputs_left}

module _ {D : Type 0} where
  -- how many messages to w a node has that aren't acknowledged
  abbrev pub unacked_in : ℕ → Stage D → ℕ
  unacked_in w (Uncreated disks parts) = 0
  unacked_in w (Created t p s) = length (line_of (part_of s).due.lines w).messages
  unacked_in w Moved = 0

module _ {D O U : Type 0} where
  -- what is open at a node of so many: on its links, of what it has sent, and of its outputs
  abbrev pub open_station : ℕ → Station D O U → ℕ
  open_station nodes s =
      sum_by (λ (w : ℕ). left_on (link_to w s.mail.links) + left_on (link_to w s.acks.links) + unacked_in w s.node.stage) (range_with_len 0 nodes)
      + (65 * outputs_left s.node.stage - refusals_in s.node.stage)

  -- and at all
  abbrev pub open_left : {A : Type 0} → Run D O U A → ℕ
  open_left r = sum_by (open_station r.nodes) r.stations.items
