use Rattle.std.proofs.Common.{◌≡◌, ◌+◌, ◌*◌, ◌≤◌, length, map, arith}
use Rattle.std.specs.List.{flat_map}
use Rattle.ken_record.specs.declared.base.Base.{Base}
use Rattle.ken_record.specs.Spelling.{due, out, base_bytes}
use Rattle.ken_record.specs.Versions.{One}
use Rattle.ken_cover.specs.Overlay.{AreWithin}
use Rattle.ken_cover.specs.Sides.{last_change}
use Rattle.ken_cover.proofs.Bases.{AreOwn-base, AreWithin-own}
use Rattle.ken_store.specs.Turning.{turn_pages}
use Rattle.ken_store.specs.Turnovers.{base_of, page_in, changes_kept}
use Rattle.ken_store.proofs.Longest.{changes-few}
use Rattle.ken_store.proofs.Sizing.{base_size, heap_long, length-pages}
use Rattle.ken_store.proofs.Turned.{base_dues, base_outputs, side_stands}
use Rattle.ken_store.proofs.turning.TurnSide.longest_base.Goals as goal

pub longest_dues-messages-requires-clause-base : goal.longest_dues-messages-requires-clause-base
longest_dues-messages-requires-clause-base g c = rw c.base_messages.ensures (base_dues g.D.Disk.told g.D.Disk.size c.args.self.now c.requires.turning)

pub longest_outs-outs-requires-clause-base : goal.longest_outs-outs-requires-clause-base
longest_outs-outs-requires-clause-base g c = rw c.base_outs.ensures (base_outputs g.D.Disk.told g.D.Disk.size c.args.self.now c.requires.turning)

pub returns : goal.returns
returns g c = λ settled acked emitted.
    let t = c.requires.turning in
    let s = c.args.self.now in
    let b : Base = base_of s settled acked emitted in
    let stands = (side_stands g.D.Disk.told g.D.Disk.size s t).0 in
    let within : AreWithin s.owner.pages (map page_in (changes_kept s settled)) = AreWithin-own s.owner.pages (turn_pages s).heap (heap_long g.D.Disk.told g.D.Disk.size s t) (map page_in (changes_kept s settled)) (AreOwn-base s.owner.pages settled (turn_pages s)) in
    let all : length (base_bytes One b) ≡ 162 + length (flat_map due b.messages) + length (flat_map out b.outs) + 260 * length b.pages = base_size s.owner.pages b stands.consumed_long stands.sends.long within in
    let m : length (flat_map due b.messages) ≤ c.longest_dues-messages.result = rw (c.base_messages.ensures, c.deref.ensures.value) at (c.longest_dues-messages.ensures.longest acked) in
    let o : length (flat_map out b.outs) ≤ c.longest_outs-outs.result = rw (c.base_outs.ensures, c.deref-2.ensures.value) at (c.longest_outs-outs.ensures.longest emitted) in
    let few : length (changes_kept s settled) ≤ s.owner.pages = changes-few settled (turn_pages s).heap (λ p. last_change p (turn_pages s).live) s.owner.pages in
    let p : length b.pages ≡ length (changes_kept s settled) = length-pages (changes_kept s settled) in
    omega (arith, all, m, o, few, p)
