-- The seal of a turn, as the code makes it.
use Rattle.std.specs.Prelude.{◌≡◌, ◌<◌, ◌++◌, ◌||◌, [], ◌∷◌, map, length, vec_len, vec_capacity}
use Rattle.std.specs.VecDeque.{deque_len, deque_capacity}
use Rattle.ken_cover.specs.declared.layers.Change.{Change}
use Rattle.ken_cover.specs.declared.layers.Layer.{Layer}
use Rattle.ken_cover.specs.Overlay.{among, overlay}
use Rattle.ken_cover.specs.Sides.{ImagePages, onto}
use Rattle.ken_core.specs.declared.machine.Machine.{Machine}
use Rattle.ken_core.specs.declared.sealing.Sealing.{Sealing}
use Rattle.ken_core.specs.Machines.{turn_pages, image_pages, KeepsWidths}
use Rattle.ken_core.specs.Ledgers.{IsSealed, IsSameLedger, HasRoom}

-- a record is to patch, and its pages are no longer clean
abbrev pub handed_image : Layer → Layer → ImagePages → ImagePages
handed_image live ahead i = record i { ahead = i.ahead ++ onto ahead.turn ahead.changes []; unclean = λ p. among (map (λ (c : Change). c.page.page) live.changes) p || i.unclean p }

-- there is room for all that a node keeps of a turn
pub record HasRoomFor (s : Sealing) (m : Machine) : Type 0 where
  pub live : vec_len m.pages.live < vec_capacity m.pages.live
  pub ahead : deque_len m.pages.ahead < deque_capacity m.pages.ahead
  pub ledger : HasRoom (length s.mails.items) (length s.outs.items) m.ledger

-- nothing changed but how much room there is
pub record IsRoomier (m m2 : Machine) : Type 0 where
  pub rest : m2 ≡ record m { ledger = m2.ledger; pages = m2.pages }
  pub ledger : IsSameLedger m.ledger m2.ledger
  pub turning : turn_pages m2.pages ≡ turn_pages m.pages
  pub patching : image_pages m2.pages ≡ image_pages m.pages
  pub widths : KeepsWidths m.pages m2.pages

-- a turn was sealed
pub record Seals (s : Sealing) (m m2 : Machine) : Type 0 where
  pub rest : m2 ≡ record m { ledger = m2.ledger; pages = m2.pages }
  pub ledger : IsSealed s.effects s.mails.items s.outs.items m.ledger m2.ledger
  pub turning : turn_pages m2.pages ≡ record { heap = overlay m.pages.heap (map (λ (c : Change). c.page) s.live.changes); live = m.pages.live.items ++ s.live ∷ [] }
  pub patching : image_pages m2.pages ≡ handed_image s.live s.ahead (image_pages m.pages)
  pub widths : KeepsWidths m.pages m2.pages
