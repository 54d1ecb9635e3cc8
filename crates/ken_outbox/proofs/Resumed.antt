-- Lines that resume.
use Rattle.std.proofs.Common.{◌≡◌, ℕ, ◌+◌, ◌-◌, ◌<◌, ◌≤◌, List, [], ◌∷◌, ◌++◌, length, take, get_or, refl, sym, ap, ◌∙◌, arith}
use Rattle.std.specs.Prelude.{map}
use Rattle.std.proofs.lemmas.List.{map-append, take_more, length-take-le}
use Rattle.ken_model.specs.declared.messages.Message.{Message}
use Rattle.ken_model.specs.declared.messages.Out.{Out}
use Rattle.ken_model.specs.declared.states.State.{State}
use Rattle.ken_outbox.specs.declared.line.Line.{Line}
use Rattle.ken_outbox.specs.Waiting.{Unacked, Waiting, sent_to, with_sends, resumed_lines, resumed}
use Rattle.ken_outbox.specs.Lines.{shown, bare_lines}

abbrev bare : ℕ → ℕ → List Message → Unacked
bare v n waiting = record { acked = n - length (sent_to v waiting); messages = [] }

pub bare_length : (v : ℕ) (ns : List ℕ) (waiting : List Message) → length (bare_lines v ns waiting) ≡ length ns
unfolding bare_lines
bare_length v [] waiting = refl
bare_length v (n ∷ ns) waiting = let rest = bare_length (v + 1) ns waiting in omega (arith, rest)

bare_more : (v : ℕ) (ns : List ℕ) (n : ℕ) (waiting : List Message) (w : ℕ) → w ≡ v + length ns → bare_lines v (ns ++ n ∷ []) waiting ≡ bare_lines v ns waiting ++ bare w n waiting ∷ []
unfolding bare_lines
bare_more v [] n waiting w at = ap (λ (k : ℕ). bare k n waiting ∷ []) (omega (arith, at))
bare_more v (m ∷ ns) n waiting w at = ap (λ (ls : List Unacked). bare v m waiting ∷ ls) (bare_more (v + 1) ns n waiting w (omega (arith, at)))

-- their messages put on them
pub resumes : (v : ℕ) (ns : List ℕ) (waiting : List Message) → with_sends v (bare_lines v ns waiting) waiting ≡ resumed_lines v ns waiting
unfolding with_sends bare_lines resumed_lines
resumes v [] waiting = refl
resumes v (n ∷ ns) waiting = ap (λ (ls : List Unacked). record { acked = n - length (sent_to v waiting); messages = sent_to v waiting } ∷ ls) (resumes (v + 1) ns waiting)

-- one more line
pub one_more : (lines : List Line) (line : Line) (sent : List ℕ) (waiting : List Message) (v : ℕ) → v < length sent → line.acked ≡ get_or sent v 0 - length (sent_to v waiting) → line.messages.items ≡ []
    → map shown lines ≡ bare_lines 0 (take v sent) waiting → map shown (lines ++ line ∷ []) ≡ bare_lines 0 (take (v + 1) sent) waiting
one_more lines line sent waiting v low acked none so_far =
    let last : shown line ≡ bare v (get_or sent v 0) waiting = rw (acked, none) refl in
    let grown : take (v + 1) sent ≡ take v sent ++ get_or sent v 0 ∷ [] = take_more sent v 0 low in
    map-append shown lines (line ∷ [])
    ∙ ap (λ (ls : List Unacked). ls ++ shown line ∷ []) so_far
    ∙ ap (λ (l : Unacked). bare_lines 0 (take v sent) waiting ++ l ∷ []) last
    ∙ sym (bare_more 0 (take v sent) (get_or sent v 0) waiting v (omega (arith, length-take-le v sent (omega (arith, low)))))
    ∙ ap (λ (ns : List ℕ). bare_lines 0 ns waiting) (sym grown)

-- as many lines as nodes
pub resumed_long : (lines : List Line) (nodes : ℕ) (sent : List ℕ) (waiting : List Message) → nodes ≤ length sent → map shown lines ≡ bare_lines 0 (take nodes sent) waiting → length (map shown lines) ≡ nodes
resumed_long lines nodes sent waiting low is = ap length is ∙ bare_length 0 (take nodes sent) waiting ∙ length-take-le nodes sent low

-- what they and the copies of a state's lists make
pub resumes_all : (lines : List Unacked) (emitted nodes : ℕ) (old outs : List Out) (sends waiting : List Message) (sent : List ℕ) (s : State) → lines ≡ bare_lines 0 (take nodes sent) waiting → sent ≡ s.sent → waiting ≡ s.messages → sends ≡ waiting
    → old ≡ [] → outs ≡ s.outs → emitted ≡ s.outputs - length s.outs → ◌≡◌ {A = Waiting} (record { lines = with_sends 0 lines sends; emitted = emitted; outs = old ++ outs }) (resumed nodes s)
resumes_all lines emitted nodes old outs sends waiting sent s are sent_is waiting_is sends_are none outs_are emitted_is =
    let copies : sends ≡ s.messages = sends_are ∙ waiting_is in
    let first : lines ≡ bare_lines 0 (take nodes s.sent) s.messages = are ∙ ap (λ (ns : List ℕ). bare_lines 0 (take nodes ns) waiting) sent_is ∙ ap (λ (ms : List Message). bare_lines 0 (take nodes s.sent) ms) waiting_is in
    let whole : with_sends 0 lines sends ≡ resumed_lines 0 (take nodes s.sent) s.messages =
    ap (λ (ls : List Unacked). with_sends 0 ls sends) first ∙ ap (λ (ms : List Message). with_sends 0 (bare_lines 0 (take nodes s.sent) s.messages) ms) copies ∙ resumes 0 (take nodes s.sent) s.messages in
    let all : old ++ outs ≡ s.outs = ap (λ (os : List Out). os ++ outs) none ∙ outs_are in
    ap (λ (ls : List Unacked). record { lines = ls; emitted = emitted; outs = old ++ outs }) whole
    ∙ ap (λ (n : ℕ). record { lines = resumed_lines 0 (take nodes s.sent) s.messages; emitted = n; outs = old ++ outs }) emitted_is
    ∙ ap (λ (os : List Out). record { lines = resumed_lines 0 (take nodes s.sent) s.messages; emitted = s.outputs - length s.outs; outs = os }) all
