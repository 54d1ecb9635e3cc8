-- A node's workers side by side.
use Rattle.std.specs.Prelude.{◌≡◌, ℕ, ◌≤◌, List, ◌++◌, Option}
use Rattle.ken_disk.specs.Story.{Story}
use Rattle.ken_model.specs.History.{IsPrefixOf}
use Rattle.ken_links.specs.Rings.{pushed, free, popped, IsRing}
use Rattle.ken_links.specs.declared.push_end.PushEnd.{PushEnd}
use Rattle.ken_links.specs.declared.pop_end.PopEnd.{PopEnd}
use Rattle.ken_ship.specs.declared.worker.SendWorker.{SendWorker}
use Rattle.ken_ship.specs.Handing as ship
use Rattle.ken_ship.specs.Parts.{part_of}
use Rattle.ken_work.specs.declared.patcher.PatchWorker.{PatchWorker}
use Rattle.ken_work.specs.declared.worker.TurnWorker.{TurnWorker}
use Rattle.ken_work.specs.Patches.{Received}
use Rattle.ken_work.specs.Workers.{latest, progress_told, turn_settled}

-- the workers of one node: the ends of each ring are with two of them
pub record AreJoined {D : Type 0} (t : TurnWorker D) (p : PatchWorker D) (s : SendWorker) : Type 0 where
  pub pages : IsRing t.pages p.pages
  pub sealed : IsRing t.sealed s.sealed
  pub settled : IsRing p.settled t.settled
  pub progress : IsRing s.told t.progress

-- only what was pushed has left each ring
pub record AreFronts {D : Type 0} (t : TurnWorker D) (p : PatchWorker D) (s : SendWorker) : Type 0 where
  pub pages : IsPrefixOf (popped p.pages) (pushed t.pages)
  pub sealed : IsPrefixOf (popped s.sealed) (pushed t.sealed)
  pub settled : IsPrefixOf (popped t.settled) (pushed p.settled)
  pub progress : IsPrefixOf (popped t.progress) (pushed s.told)

-- what left a ring was told: what the last of it says is known now
pub record WasTold {A B : Type 0} (says : A → B) (popped popped2 : List A) (old new : B) : Type 0 where
  pub items : List A
  pub popped_are : popped2 ≡ popped ++ items
  pub known : new ≡ latest says old items

-- what left the rings came to its receivers, and nothing else of the workers changed
pub record HaveMet {D : Type 0} (told : D → Option Story) (size : D → ℕ) (t t2 : TurnWorker D) (p p2 : PatchWorker D) (s s2 : SendWorker) : Type 0 where
  pub handler : t2 ≡ record t { told = t2.told; pages = t2.pages; sealed = t2.sealed; settled = t2.settled; progress = t2.progress; news = t2.news; room = t2.room }
  pub pages : pushed t2.pages ≡ pushed t.pages
  pub sealed : pushed t2.sealed ≡ pushed t.sealed
  pub settled : WasTold turn_settled (popped t.settled) (popped t2.settled) t.told.settled t2.told.settled
  pub progress : WasTold progress_told (popped t.progress) (popped t2.progress) t.told.progress t2.told.progress
  pub patches : Received told size p p2
  pub settles : pushed p2.settled ≡ pushed p.settled
  pub sends : ship.Received s.backlog.node (popped s.sealed) (popped s2.sealed) (part_of s).due (part_of s2).due
  pub counts : ship.CountsTurns (popped s.sealed) (popped s2.sealed) (part_of s).handed (part_of s2).handed
  pub rest : part_of s2 ≡ record (part_of s) { due = (part_of s2).due; handed = (part_of s2).handed }
  pub fronts : AreFronts t p s → AreFronts t2 p2 s2

-- all that was pushed has left the ring, and all its slots are known to be free
pub record IsEmptied {T : Type 0} (push : PushEnd T) (pop : PopEnd T) : Type 0 where
  pub all : popped pop ≡ pushed push
  pub free_now : 64 ≤ free push

pub record AreEmpty {D : Type 0} (t : TurnWorker D) (p : PatchWorker D) (s : SendWorker) : Type 0 where
  pub pages : IsEmptied t.pages p.pages
  pub sealed : IsEmptied t.sealed s.sealed
  pub settled : IsEmptied p.settled t.settled
  pub progress : IsEmptied s.told t.progress
