-- The workers of a node are joined by their rings after a round too.
use Rattle.std.proofs.Common.{List, Option, Some, None, sym, subst}
use Rattle.ken_disk.specs.declared.disk.Disk as disk
use Rattle.ken_app.specs.declared.oracle.Oracle as oracle
use Rattle.ken_model.specs.Handler.{Handler}
use Rattle.ken_net.specs.declared.net.Net as net
use Rattle.ken_store.specs.declared.faults.StoreFault.{StoreFault}
use Rattle.ken_ship.specs.declared.faults.NodeFault.{NodeFault}
use Rattle.ken_ship.specs.declared.faults.NodeFault.TheVariants.{Disk, Damaged, Outlet, Memory}
use Rattle.ken_ship.specs.declared.outlet.Outlet as outlet
use Rattle.ken_ship.specs.declared.worker.SendWorker.{SendWorker}
use Rattle.ken_ship.specs.Parts.{IsSameWorker as IsSameSender}
use Rattle.ken_work.specs.declared.patcher.PatchWorker.{PatchWorker}
use Rattle.ken_work.specs.declared.worker.TurnWorker.{TurnWorker}
use Rattle.ken_work.specs.Meeting.{AreJoined}
use Rattle.ken_node.proofs.PatchSteps.{joined-patcher}
use Rattle.ken_node.proofs.TurnSteps.{joined-handler}
use Rattle.ken_whole.proofs.Rings.{ring-popped, ring-pushed}
use Rattle.ken_weave.specs.Workers.{Steps, none, then}
use Rattle.ken_beside.specs.Seats.{Handling, Sending}
use Rattle.ken_beside.specs.Steps.{HandlerStep, turns_once}
use Rattle.ken_threads.specs.declared.crew.Crew.{Crew}
use Rattle.ken_threads.specs.Ran.{EndsBy, Ran}
use Rattle.ken_threads.specs.Rounds.{CrewRan}
use Rattle.ken_threads.specs.Seats.{at_hearing, at_output, at_page, at_sending, at_sync, HandlerFails, PatcherFails, PatcherSteps, PatcherStops, SenderFails, SenderSteps, SenderStops, Ships, synced, wrote}

joined-sender : {D : Type 0} (t : TurnWorker D) (p : PatchWorker D) (s s2 : SendWorker) → AreJoined t p s → IsSameSender s s2 → AreJoined t p s2
joined-sender t p s s2 joined same = record {
  pages = joined.pages;
  sealed = ring-popped t.sealed s.sealed s2.sealed joined.sealed same.sealed;
  settled = joined.settled;
  progress = ring-pushed s.told s2.told t.progress joined.progress same.told;
}

-- a fact that each step keeps, and the one that failed, stands after all
module _ {W : Type 0} (step : W → W → Type 0) (fails : NodeFault → W → W → Type 0) (P : W → Type 0)
    (keeps : (a b : W) → step a b → P a → P b) (fault_keeps : (fault : NodeFault) (a b : W) → fails fault a b → P a → P b) where
  steps-keep : (a b : W) (bs : List W) → Steps step a bs b → P a → P b
  steps-keep a _ _ none so = so
  steps-keep a c _ (then {b = b} {bs = bs} one rest) so = steps-keep b c bs rest (keeps a b one so)

  end-keeps : (count : _) (mid new : W) (fault : Option NodeFault) → EndsBy fails count mid new fault → P mid → P new
  end-keeps count mid new None ends so = subst P (sym ends.1) so
  end-keeps count mid new (Some fault) ends so = fault_keeps fault mid new ends.1 so

  ran-keeps : (old new : W) (fault : Option NodeFault) → Ran step fails old new fault → P old → P new
  ran-keeps old new fault ran so = end-keeps _ ran.mid new fault ran.ends (steps-keep old ran.mid ran.states ran.made so)

module _ {D N O U : Type 0} (d : disk.Ghosts D) (e : net.Ghosts N) (o : oracle.Ghosts O) (u : outlet.Ghosts U) (h : Handler) where
  handled : (p : PatchWorker D) (s : SendWorker) (a b : Handling D N O) → HandlerStep d e o h a b → AreJoined a.worker p s → AreJoined b.worker p s
  handled p s a b (turns_once took is) joined = joined-handler a.worker b.worker p s joined is.same

  module _ (t : TurnWorker D) (s : SendWorker) where
    patched : (a b : PatchWorker D) → PatcherSteps d a b → AreJoined t a s → AreJoined t b s
    patched a b (wrote one) joined = joined-patcher t a b s joined one.same
    patched a b (synced mid one two) joined = joined-patcher t mid b s (joined-patcher t a mid s joined one.same) two.same

    patcher-stopped : (fault : StoreFault) (a b : PatchWorker D) → PatcherStops d fault a b → AreJoined t a s → AreJoined t b s
    patcher-stopped fault a b (at_page one) joined = joined-patcher t a b s joined one.same
    patcher-stopped fault a b (at_sync mid one two) joined = joined-patcher t mid b s (joined-patcher t a mid s joined one.same) two.same

    patcher-failed : (fault : NodeFault) (a b : PatchWorker D) → PatcherFails d fault a b → AreJoined t a s → AreJoined t b s
    patcher-failed Disk a b is joined = patcher-stopped _ a b is joined
    patcher-failed Memory a b is joined = patcher-stopped _ a b is joined
    patcher-failed Outlet a b is joined = absurd is
    patcher-failed (Damaged disk place) a b is joined = absurd is

  module _ (t : TurnWorker D) (p : PatchWorker D) where
    shipped : (a b : Sending N U) → Ships e u a b → AreJoined t p a.worker → AreJoined t p b.worker
    shipped a b is joined = joined-sender t p is.sent.worker b.worker (joined-sender t p a.worker is.sent.worker joined is.sends.same) is.takes.same

    sent : (a b : Sending N U) → SenderSteps e u a b → AreJoined t p a.worker → AreJoined t p b.worker
    sent a b is joined = joined-sender t p is.heard.worker b.worker (shipped a is.heard is.ships joined) is.emits.same

    sender-stopped : (a b : Sending N U) → SenderStops e u a b → AreJoined t p a.worker → AreJoined t p b.worker
    sender-stopped a b (at_sending fault is) joined = joined-sender t p a.worker b.worker joined is.same
    sender-stopped a b (at_hearing mid one two) joined = joined-sender t p mid.worker b.worker (joined-sender t p a.worker mid.worker joined one.same) two.same
    sender-stopped a b (at_output mid one two) joined = joined-sender t p mid.worker b.worker (shipped a mid one joined) two.same

    sender-failed : (fault : NodeFault) (a b : Sending N U) → SenderFails e u fault a b → AreJoined t p a.worker → AreJoined t p b.worker
    sender-failed Disk a b is joined = absurd is
    sender-failed Memory a b is joined = sender-stopped a b is joined
    sender-failed Outlet a b is joined = joined-sender t p is.heard.worker b.worker (shipped a is.heard is.ships joined) is.refused.same
    sender-failed (Damaged disk place) a b is joined = absurd is

  pub joined-after : (old new : Crew D O U) (acks acks2 mail mail2 : N) → CrewRan d e o u h old new acks acks2 mail mail2 → AreJoined old.turns old.patches old.sends → AreJoined new.turns new.patches new.sends
  joined-after old new acks acks2 mail mail2 ran joined =
      ran-keeps (SenderSteps e u) (SenderFails e u) (λ (x : Sending N U). AreJoined new.turns new.patches x.worker) (sent new.turns new.patches) (sender-failed new.turns new.patches) _ _ new.faults.externaliser ran.externaliser
      (ran-keeps (PatcherSteps d) (PatcherFails d) (λ (x : PatchWorker D). AreJoined new.turns x old.sends) (patched new.turns old.sends) (patcher-failed new.turns old.sends) old.patches new.patches new.faults.patcher ran.patcher
      (ran-keeps (HandlerStep d e o h) (HandlerFails d e o h) (λ (x : Handling D N O). AreJoined x.worker old.patches old.sends) (handled old.patches old.sends)
      (λ fault a b is so. joined-handler a.worker b.worker old.patches old.sends so is.same) _ _ new.faults.handler ran.handler joined))
