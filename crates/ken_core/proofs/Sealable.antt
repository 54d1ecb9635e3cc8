-- A turn that is ready can be sealed.
use Rattle.std.proofs.Common.{◌≡◌, ℕ, ◌+◌, ◌<◌, ◌≤◌, ◌^◌, List, [], ◌∷◌, map, length, slice_get, slice_index, Some, Bool, true, false, ◌==◌, if◌then◌else◌, sym, ap, ◌∙◌, subst, ⊎_elim, arith}
use Rattle.std.specs.List.{All, AllByRecursion}
use Rattle.std.proofs.lemmas.Bool.{cases_lt}
use Rattle.std.proofs.lemmas.List.{get_or_past}
use Rattle.std.proofs.lemmas.List.Elements.{All-from_recursion}
use Rattle.std.proofs.lemmas.List.Sums.{count_by-le-length}
use Rattle.std.proofs.lemmas.Option.{slice_get_within}
use Rattle.ken_model.specs.declared.messages.Message.{Message}
use Rattle.ken_model.specs.declared.reports.Emission.{Emission}
use Rattle.ken_model.specs.declared.values.Value.{Value}
use Rattle.ken_model.specs.Game.{Game}
use Rattle.ken_model.specs.Reading.{read_value}
use Rattle.ken_model.specs.Network.{outside}
use Rattle.ken_record.specs.declared.page.Page.{Page}
use Rattle.ken_cover.specs.declared.layers.Change.{Change}
use Rattle.ken_cover.specs.declared.layers.Layer.{Layer}
use Rattle.ken_cover.specs.Overlay.{overlay, AreWithin}
use Rattle.ken_cover.specs.Sides.{TurnPages, changes_at}
use Rattle.ken_cover.proofs.Bases.{pages-changes_at}
use Rattle.ken_record.specs.declared.effects.Effects.{Effects}
use Rattle.ken_core.specs.declared.ledger.Ledger.{Ledger}
use Rattle.ken_core.specs.declared.machine.Machine.{Machine}
use Rattle.ken_core.specs.declared.sealing.Sealing.{Sealing}
use Rattle.ken_core.specs.Nodes.{heap_pages}
use Rattle.ken_core.specs.Ledgers.{counted_from, IsLedger}
use Rattle.ken_core.specs.Groups.{AreKept, made_by}
use Rattle.ken_core.specs.Pages.{AreFit}
use Rattle.ken_core.specs.Seals.{IsRoomier}
use Rattle.ken_core.specs.Next.{IsReady}
use Rattle.ken_core.proofs.Fits.{change_fits}
use Rattle.ken_core.proofs.Keeps.{changed_within}
use Rattle.ken_core.proofs.Played.{here, next, roomier_kept, put_sent}

-- what the code asks of a node that seals
pub record CanSeal (s : Sealing) (m : Machine) : Type 0 where
  pub known : All (λ (x : Message). x.to < length m.ledger.sent.items) s.mails.items
  pub waits : counted_from m.ledger s.effects.from + 1 < 2 ^ 64
  pub sender : s.effects.from < 255 → s.effects.from < length m.ledger.consumed.items
  pub within : AllByRecursion (λ (c : Change). c.page.page < length m.pages.unclean) s.live.changes
  pub fit : AreFit (length m.pages.heap) s.live.changes
  pub value : read_value (overlay m.pages.heap (map (λ (c : Change). c.page) s.live.changes)) ≡ Some s.value

marked : (n width turn : ℕ) (pages : List Page) → width ≡ n → AreWithin n pages → AllByRecursion (λ (c : Change). c.page.page < width) (changes_at turn pages)
marked n width turn [] whole all = tt
marked n width turn (e ∷ es) whole all = let within = all.0.0 in (omega arith, marked n width turn es whole all.1)

counted_few : (g : Game) (v : ℕ) (l : Ledger) (u : ℕ) → IsLedger g v l → g.turns ≤ 100000 → counted_from l u + 1 < 2 ^ 64
counted_few g v l u is few = at (u == outside)
  where
    at : (b : Bool) → (if b then l.inputs_consumed else slice_index l.consumed.items u) + 1 < 2 ^ 64
    at true = let count = is.inputs_consumed in let most = count_by-le-length (λ (e : Effects). e.from == outside) l.turns.items in let turns = is.turns in omega arith
    at false = ⊎_elim
        (λ within. let count = is.consumed u within in let most = count_by-le-length (λ (e : Effects). e.from == u) l.turns.items in let turns = is.turns in omega arith)
        (λ past. let none : slice_index l.consumed.items u ≡ 0 = get_or_past l.consumed.items u 0 (let w = is.consumed_width in omega arith) in omega arith)
        (cases_lt u g.nodes)

pub can_seal : (g : Game) (ms : List Machine) (es : List Emission) (v k from : ℕ) (draws : List ℕ) (pages : List Page) (s : Sealing) (m m1 : Machine) → AreKept g ms → slice_get ms v ≡ Some m → k ≡ v → v < g.nodes → IsReady g ms es v from draws pages s → IsRoomier m m1 → CanSeal s m1
can_seal g ms es v k from draws pages s m m1 kept is same known ready roomier =
    let mine = roomier_kept g (made_by ms) v m m1 roomier (kept.each v m is) in
    let sealing = here g ms es v k from draws pages s m kept is same known ready in
    let comes = next g ms es v k from draws pages s m kept is same known ready in
    let sender_is : s.effects.from ≡ ready.message.from = ap (λ (e : Effects). e.from) sealing.effects ∙ ap (λ (x : Message). x.from) sealing.makes.takes in
    let inside = changed_within (heap_pages g) m.pages.heap pages (kept.each v m is).pages.covers.heap_size sealing.makes.changed.each in
    let turn : ℕ = length m.ledger.turns.items + 1 in
    let are : map (λ (c : Change). c.page) s.live.changes ≡ pages = ap (λ (l : Layer). map (λ (c : Change). c.page) l.changes) sealing.live ∙ pages-changes_at turn pages in
    record {
      known = All-from_recursion (λ (x : Message). x.to < length m1.ledger.sent.items) s.mails.items (subst (λ n. AllByRecursion (λ (x : Message). x.to < n) s.mails.items) (sym mine.ledger.sent_width) sealing.receivers);
      waits = counted_few g v m1.ledger s.effects.from mine.ledger kept.limits.few_turns;
      sender = λ inside. ⊎_elim
          (λ put. let sent = put_sent g ms ready.message.from ready.message.to ready.message.number ready.message put in let within = slice_get_within ms ready.message.from sent.0 sent.1 in let width = kept.width in let wide = mine.ledger.consumed_width in omega arith)
          (λ input. let e = input.0 in absurd (omega arith))
          comes.came;
      within = subst (λ cs. AllByRecursion (λ (c : Change). c.page.page < length m1.pages.unclean) cs) (sym (ap (λ l. l.changes) sealing.live))
          (marked (heap_pages g) (length m1.pages.unclean) turn pages mine.pages.unclean inside);
      fit = change_fits (heap_pages g) (length m1.pages.heap) s.live.changes mine.pages.covers.heap_size (subst (λ (ps : List Page). AreWithin (heap_pages g) ps) (sym are) inside);
      value = ap read_value (ap (λ (t : TurnPages). overlay t.heap (map (λ (c : Change). c.page) s.live.changes)) roomier.turning ∙ ap (overlay m.pages.heap) are) ∙ sealing.makes.stands ∙ ap (λ (x : Value). Some x) (sym sealing.value);
    }
