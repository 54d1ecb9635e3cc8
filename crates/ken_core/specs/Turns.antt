-- A node's sealed turns as it keeps them, and the numbers that they come to. No count is kept beside them.
use Rattle.std.specs.Prelude.{◌≡◌, ℕ, List, [], ◌∷◌, ◌++◌, map, filter, length, count_by, ◌==◌}
use Rattle.std.specs.List.{flat_map}
use Rattle.ken_model.specs.declared.messages.Message.{Message}
use Rattle.ken_model.specs.declared.messages.Out.{Out}
use Rattle.ken_model.specs.declared.reports.TurnLine.{TurnLine}
use Rattle.ken_model.specs.Network.{Place, Turn, outputs_from}
use Rattle.ken_model.specs.Posted.{posted_after}
use Rattle.ken_record.specs.declared.sent.Sent.{Sent}
use Rattle.ken_record.specs.declared.effects.Effects.{Effects}

-- how many messages turns took from u: since they are numbered from 1, this is the consumed number
abbrev pub consumed_from : ℕ → List Effects → ℕ
consumed_from u es = count_by (λ (e : Effects). e.from == u) es

-- the stamp after turns, from the one before them
abbrev pub stamp_after : ℕ → List Effects → ℕ
stamp_after stamp [] = stamp
stamp_after stamp (e ∷ es) = stamp_after e.stamp es

-- a message that a turn of v sent
abbrev pub mail_of : ℕ → ℕ → Sent → Message
mail_of v stamp s = record { from = v; to = s.to; number = s.number; stamp = stamp; bytes = s.bytes }

-- what a turn of v sent to w
abbrev pub mails_in : ℕ → ℕ → Effects → List Message
mails_in v w e = map (mail_of v e.stamp) (filter (λ (s : Sent). s.to == w) e.sends)

-- all that turns of v sent to w
abbrev pub mails_to : ℕ → ℕ → List Effects → List Message
mails_to v w es = flat_map (mails_in v w) es

-- all that turns output
abbrev pub outs_of : List Effects → List Out
outs_of es = flat_map (λ (e : Effects). e.outs) es

-- a turn, as a line of the report
abbrev pub effects_line : ℕ → Effects → TurnLine
effects_line v e = record { stamp = e.stamp; step = record { node = v; from = e.from; draws = e.draws }; number = e.number }

-- a message that was sent, as its sender's turn keeps it
abbrev pub sent_of : Message → Sent
sent_of m = record { to = m.to; number = m.number; bytes = m.bytes }

-- a turn of v as it keeps it, after those that it has sealed: its messages and outputs have their numbers
abbrev pub effects_of : ℕ → List Effects → Turn → Effects
effects_of v es t = record {
  from = t.message.from;
  number = t.message.number;
  stamp = t.stamp;
  draws = t.draws;
  sends = map sent_of (posted_after v t.stamp (λ w. length (mails_to v w es)) t.effect.sends);
  outs = outputs_from (length (outs_of es)) t.effect.outs;
}

abbrev pub sealed_after : ℕ → List Effects → List Turn → List Effects
sealed_after v es [] = es
sealed_after v es (t ∷ ts) = sealed_after v (es ++ effects_of v es t ∷ []) ts

-- turns of v as it keeps them
abbrev pub sealed : ℕ → List Turn → List Effects
sealed v ts = sealed_after v [] ts

-- turns come to a node of the abstract network: its stamp, how many turns it made, and its outputs
pub record IsPlace (es : List Effects) (p : Place) : Type 0 where
  pub stamp : stamp_after 0 es ≡ p.stamp
  pub turns : length es ≡ p.turns
  pub outs : outs_of es ≡ outputs_from 0 p.outs
