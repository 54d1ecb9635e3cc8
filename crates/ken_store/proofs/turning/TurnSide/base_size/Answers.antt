use Rattle.std.proofs.Common.{◌≡◌, ◌∙◌, ◌+◌, ◌*◌, length, map, sym}
use Rattle.std.specs.List.{flat_map}
use Rattle.ken_record.specs.declared.base.Base.{Base}
use Rattle.ken_record.specs.Spelling.{due, out, base_bytes}
use Rattle.ken_record.specs.Versions.{One}
use Rattle.ken_cover.specs.Overlay.{AreWithin}
use Rattle.ken_cover.proofs.Bases.{AreOwn-base, AreWithin-own}
use Rattle.ken_store.specs.Turning.{turn_pages}
use Rattle.ken_store.specs.Turnovers.{base_of, page_in, changes_kept}
use Rattle.ken_store.proofs.Sizing.{base_size, heap_long, length-pages, sized}
use Rattle.ken_store.proofs.Turned.{base_dues, base_outputs, side_stands}
use Rattle.ken_store.proofs.turning.TurnSide.base_size.Goals as goal

pub due_size-messages-requires-clause-base : goal.due_size-messages-requires-clause-base
due_size-messages-requires-clause-base g c = rw c.base_messages.ensures (base_dues g.D.Disk.told g.D.Disk.size c.args.self.now c.requires.turning)

pub outs_size-outs-requires-clause-base : goal.outs_size-outs-requires-clause-base
outs_size-outs-requires-clause-base g c = rw c.base_outs.ensures (base_outputs g.D.Disk.told g.D.Disk.size c.args.self.now c.requires.turning)

pub returns : goal.returns
returns g c =
    let t = c.requires.turning in
    let s = c.args.self.now in
    let b : Base = base_of s c.args.settled c.args.acked.now c.args.emitted in
    let stands = (side_stands g.D.Disk.told g.D.Disk.size s t).0 in
    let within : AreWithin s.owner.pages (map page_in (changes_kept s c.args.settled)) = AreWithin-own s.owner.pages (turn_pages s).heap (heap_long g.D.Disk.told g.D.Disk.size s t) (map page_in (changes_kept s c.args.settled)) (AreOwn-base s.owner.pages c.args.settled (turn_pages s)) in
    let all : length (base_bytes One b) ≡ 162 + length (flat_map due b.messages) + length (flat_map out b.outs) + 260 * length b.pages = base_size s.owner.pages b stands.consumed_long stands.sends.long within in
    let m : c.due_size-messages.result ≡ length (flat_map due b.messages) = rw (c.base_messages.ensures, c.deref.ensures.value) at c.due_size-messages.ensures.size in
    let o : c.outs_size-outs.result ≡ length (flat_map out b.outs) = rw (c.base_outs.ensures, c.deref-2.ensures.value) at c.outs_size-outs.ensures.size in
    let p : c.kept_count.result ≡ length b.pages = c.kept_count.ensures.count ∙ sym (length-pages (changes_kept s c.args.settled)) in
    sized c.due_size-messages.result c.outs_size-outs.result c.kept_count.result _ _ _ _ m o p all
