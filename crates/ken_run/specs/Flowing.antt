-- The nodes of a run with what is on its way between them, as the laws of passes see them, and how much of them is left to do.
use Rattle.std.specs.Prelude.{◌≡◌, ℕ, ◌+◌, ◌-◌, ◌<◌, ◌⊎◌, List, map, sum_by, Option}
use Rattle.ken_disk.specs.Story.{Story}
use Rattle.ken_model.specs.declared.messages.Out.{Out}
use Rattle.ken_model.specs.Game.{Game}
use Rattle.ken_model.specs.Handler.{Handler}
use Rattle.ken_core.specs.Nodes.{Node}
use Rattle.ken_node.specs.declared.watched.Watched.{Watched}
use Rattle.ken_node.specs.Remaining.{turns_to_make}
use Rattle.ken_node.specs.Stages.{refusals_in}
use Rattle.ken_flow.specs.Standstill.{Flow}
use Rattle.ken_run.specs.declared.run.Run.{Run}
use Rattle.ken_run.specs.declared.station.Station.{Station}
use Rattle.ken_run.specs.Running.{IsRunning}

module _ {D O U : Type 0} where
  -- the nodes that a run stands for, and what waits for them, their links and their refusals
  abbrev pub flow_of : {A : Type 0} → (ℕ → Node) → Run D O U A → Flow
  flow_of nodes r = record {
    nodes = nodes;
    mail = r.waiting.mail;
    acks = r.waiting.acks;
    mail_links = map (λ (s : Station D O U). s.mail.links) r.stations.items;
    ack_links = map (λ (s : Station D O U). s.acks.links) r.stations.items;
    refusals = map (λ (s : Station D O U). refusals_in s.node.stage) r.stations.items;
  }

  -- the work that a node has left, where it may be restarted so often: each turn that it makes and each restart takes some of it away
  abbrev pub work_at : ℕ → Station D O U → ℕ
  work_at most s = (most - s.restarts) + turns_to_make s.node.stage

  -- and all nodes
  abbrev pub work_left : {A : Type 0} → Run D O U A → ℕ
  work_left r = sum_by (work_at r.restarts) r.stations.items

module _ {D O U A : Type 0} (told : Watched D → Option Story) (size : Watched D → ℕ) (took : U → Option (List Out)) (handles : A → Handler) where
  -- of a run whose nodes were up: they are up, with less work left, or with as much, and the flow moved so
  pub record Moved (how : Flow → Flow → Type 0) (g : Game) (made : ℕ) (old new : Run D O U A) (was : IsRunning told size took handles g made old) : Type 0 where
    pub now : IsRunning told size took handles g made new
    pub moved : (work_left new < work_left old) ⊎ ((work_left new ≡ work_left old) × how (flow_of was.nodes old) (flow_of now.nodes new))

  -- so it does for each game of which all nodes were made
  abbrev pub AllMoved : (Game → Flow → Flow → Type 0) → Run D O U A → Run D O U A → Type 0
  AllMoved how old new = (g : Game) (made : ℕ) (was : IsRunning told size took handles g made old) → made ≡ g.nodes → Moved (how g) g made old new was

  -- and for each of which node v was made, which was called
  abbrev pub Moves : (Game → Flow → Flow → Type 0) → ℕ → Run D O U A → Run D O U A → Type 0
  Moves how v old new = (g : Game) (made : ℕ) (was : IsRunning told size took handles g made old) → v < made → Moved (how g) g made old new was
