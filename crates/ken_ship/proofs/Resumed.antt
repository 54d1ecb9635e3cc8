-- Lines that resume.
use Rattle.std.proofs.Common.{◌≡◌, ℕ, zero, suc, ◌+◌, ◌-◌, ◌<◌, ◌≤◌, List, [], ◌∷◌, length, take, IsTrue, slice_index, get_or, refl, sym, ap, ◌∙◌, subst, ⊎_elim, arith, add-zero}
use Rattle.std.specs.List.{All}
use Rattle.std.proofs.lemmas.Bool.{cases_lt}
use Rattle.std.proofs.lemmas.List.{length-drop, get_or-map, get_or_past, length-map, take_all, ext_get_or}
use Rattle.std.proofs.lemmas.List.Elements.{All-nil}
use Rattle.ken_model.specs.declared.messages.Message.{Message}
use Rattle.ken_model.specs.declared.states.State.{State}
use Rattle.ken_model.specs.Game.{Game}
use Rattle.ken_model.specs.Network.{Turn}
use Rattle.ken_outbox.specs.Waiting.{Unacked, Waiting, no_line, sent_to, resumed_lines, resumed}
use Rattle.ken_core.specs.Turns.{mails_to, outs_of, sealed}
use Rattle.ken_core.specs.Nodes.{Node}
use Rattle.ken_ship.specs.declared.items.Progress.{Progress}
use Rattle.ken_ship.specs.Fits.{IsMailFrom, IsMailTo, AreMails}
use Rattle.ken_ship.specs.Handing.{acked_in, progress_in}
use Rattle.ken_ship.specs.Laws.{IsPast, IsDueOf, HasSent, IsStateOf}
use Rattle.ken_ship.proofs.Lines.{IsSound, mails_to_one}

abbrev line_at : ℕ → ℕ → List Message → Unacked
line_at v n waiting = record { acked = n - length (sent_to v waiting); messages = sent_to v waiting }

resumed_line : (v : ℕ) (ns : List ℕ) (waiting : List Message) (u : ℕ) → u < length ns → get_or (resumed_lines v ns waiting) u no_line ≡ line_at (v + u) (get_or ns u 0) waiting
unfolding resumed_lines
resumed_line v [] waiting u low = absurd (omega (arith, low))
resumed_line v (n ∷ ns) waiting zero low = ap (λ (k : ℕ). line_at k n waiting) (sym (add-zero v))
resumed_line v (n ∷ ns) waiting (suc u) low =
    let there : v + 1 + u ≡ v + suc u = omega arith in
    resumed_line (v + 1) ns waiting u (omega (arith, low)) ∙ ap (λ (k : ℕ). line_at k (get_or ns u 0) waiting) there

resumed_long : (v : ℕ) (ns : List ℕ) (waiting : List Message) → length (resumed_lines v ns waiting) ≡ length ns
unfolding resumed_lines
resumed_long v [] waiting = refl
resumed_long v (n ∷ ns) waiting = let rest = resumed_long (v + 1) ns waiting in omega (arith, rest)

resumed_at : (ns : List ℕ) (waiting : List Message) (u : ℕ) → u < length ns → get_or (resumed_lines 0 ns waiting) u no_line ≡ line_at u (get_or ns u 0) waiting
resumed_at ns waiting u low = let there : 0 + u ≡ u = omega arith in resumed_line 0 ns waiting u low ∙ ap (λ (k : ℕ). line_at k (get_or ns u 0) waiting) there

resumed_mails : (v : ℕ) (ns : List ℕ) (waiting : List Message) → All (IsMailFrom v) waiting → AreMails v (resumed_lines 0 ns waiting)
resumed_mails v ns waiting each u =
    ⊎_elim
    (λ (low : u < length ns). subst (λ (l : Unacked). All (IsMailTo v u) l.messages) (sym (resumed_at ns waiting u low)) (mails_to_one v u waiting each))
    (λ (high : length ns ≤ u).
    let none : get_or (resumed_lines 0 ns waiting) u no_line ≡ no_line = get_or_past (resumed_lines 0 ns waiting) u no_line (omega (arith, high, resumed_long 0 ns waiting)) in
    subst (λ (l : Unacked). All (IsMailTo v u) l.messages) (sym none) (All-nil (IsMailTo v u)))
    (cases_lt u (length ns))

pub sound_resumed : (v : ℕ) (s : State) → length s.sent ≡ 8 → All (IsMailFrom v) s.messages → IsSound v (progress_in (resumed 8 s)).acked (progress_in (resumed 8 s)).emitted (resumed 8 s)
sound_resumed v s long each =
    let front : take 8 s.sent ≡ s.sent = take_all 8 s.sent (omega (arith, long)) in
    record {
      each = resumed_long 0 (take 8 s.sent) s.messages ∙ ap length front ∙ long;
      mails = resumed_mails v (take 8 s.sent) s.messages each;
      acked_is = refl;
      emitted_is = refl;
    }

pub retired_is : (acked : List ℕ) (s : State) → length s.sent ≡ 8 → length acked ≡ 8 → ((u : ℕ) → get_or acked u 0 ≡ get_or s.sent u 0 - length (sent_to u s.messages)) → acked ≡ acked_in (resumed 8 s).lines
retired_is acked s long as_long each =
    let front : take 8 s.sent ≡ s.sent = take_all 8 s.sent (omega (arith, long)) in
    let lines : List Unacked = resumed_lines 0 s.sent s.messages in
    let lines_long : length lines ≡ 8 = resumed_long 0 s.sent s.messages ∙ long in
    ext_get_or 0 acked (acked_in lines) (as_long ∙ sym (length-map lines (λ (l : Unacked). l.acked) ∙ lines_long))
    (λ u low. each u ∙ sym (get_or-map (λ (l : Unacked). l.acked) lines u no_line 0 (omega (arith, low, as_long, lines_long)) ∙ ap (λ (l : Unacked). l.acked) (resumed_at s.sent s.messages u (omega (arith, low, as_long, long)))))
    ∙ ap (λ (ns : List ℕ). acked_in (resumed_lines 0 ns s.messages)) (sym front)

pub progress_is : (acked : List ℕ) (emitted : ℕ) (w : Waiting) → acked ≡ acked_in w.lines → emitted ≡ w.emitted → ◌≡◌ {A = Progress} (record { acked = acked; emitted = emitted }) (progress_in w)
progress_is acked emitted w numbers same = ap (λ (ns : List ℕ). record { acked = ns; emitted = emitted }) numbers ∙ ap (λ (n : ℕ). record { acked = acked_in w.lines; emitted = n }) same

pub resumed_is_due : (g : Game) (v : ℕ) (n : Node) (s : State) (own : List Turn) → g.nodes ≤ 8 → IsTrue n.turning.up → n.turning.turns ≡ sealed v own → length n.sending.acked ≡ g.nodes → HasSent g v n → IsStateOf g v n s → IsDueOf g v n (resumed 8 s)
resumed_is_due g v n s own few up turns width has is =
    let front : take 8 s.sent ≡ s.sent = take_all 8 s.sent (omega (arith, is.width)) in
    let lines : List Unacked = resumed_lines 0 s.sent s.messages in
    let same : (resumed 8 s).lines ≡ lines = ap (λ (ns : List ℕ). resumed_lines 0 ns s.messages) front in
    let long : length lines ≡ 8 = resumed_long 0 s.sent s.messages ∙ is.width in
    let outs : length s.outs ≡ length (outs_of n.turning.turns) - n.sending.emitted = ap length is.outs ∙ length-drop n.sending.emitted (outs_of n.turning.turns) in
    record {
      up = up;
      own = own;
      turns = turns;
      width = width;
      lines = λ u low.
          let sent : List Message = mails_to v u n.turning.turns in
          let acked : ℕ = slice_index n.sending.acked u in
          let line : get_or (resumed 8 s).lines u no_line ≡ line_at u (get_or s.sent u 0) s.messages = ap (λ (ls : List Unacked). get_or ls u no_line) same ∙ resumed_at s.sent s.messages u (omega (arith, low, few, is.width)) in
          let count : length (sent_to u s.messages) ≡ length sent - acked = ap (λ (ms : List Message). length ms) (is.messages u low) ∙ length-drop acked sent in
          let number : get_or s.sent u 0 - length (sent_to u s.messages) ≡ acked = omega (arith, count, is.sent u low, has.acked u low) in
          let past : IsPast acked sent (line_at u (get_or s.sent u 0) s.messages) = record { number = number; waits = is.messages u low } in
          subst (λ (l : Unacked). IsPast acked sent l) (sym line) past;
      long = let whole : length (resumed 8 s).lines ≡ 8 = ap (λ (ls : List Unacked). length ls) same ∙ long in omega (arith, whole, few);
      emitted = omega (arith, is.outputs, outs, has.emitted);
      outs = is.outs;
    }
