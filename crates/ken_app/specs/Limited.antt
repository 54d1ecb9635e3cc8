-- A handler that keeps the limits of a turn, whatever it is made of.
use Rattle.std.specs.Prelude.{ℕ, List, length, Bool, ◌==◌, ◌&&◌, not, nat_lt, nat_le, if◌then◌else◌, Option, Some, None, codes}
use Rattle.std.specs.List.{list_all}
use Rattle.ken_model.specs.declared.facts.TheConstants.{MAX_TEXT}
use Rattle.ken_model.specs.declared.messages.Send.{Send}
use Rattle.ken_model.specs.declared.values.Value.{Value}
use Rattle.ken_model.specs.Effects.{Effect, answered}
use Rattle.ken_model.specs.Handler.{Handler}
use Rattle.ken_app.specs.declared.turn.TheConstants.{MAX_SENDS, MAX_OUTPUTS}

-- no line feed
abbrev pub is_line : List ℕ → Bool
is_line text = list_all (λ b. not (b == 10)) text

-- a text of one line that a message may carry and a turn may output
abbrev pub is_text : List ℕ → Bool
is_text text = nat_le (length text) MAX_TEXT && is_line text

abbrev pub send_fits : ℕ → Send → Bool
send_fits nodes s = nat_lt s.to nodes && is_text s.bytes

-- few sends and outputs, each such a text, the sends to nodes of the run
abbrev pub fits : ℕ → List Send → List (List ℕ) → Bool
fits nodes sends outs = nat_le (length sends) MAX_SENDS && (nat_le (length outs) MAX_OUTPUTS && (list_all (send_fits nodes) sends && list_all is_text outs))

-- a turn beyond that changes nothing, sends nothing, and outputs that it is
abbrev pub within : ℕ → Value → Option Effect → Option Effect
within nodes value None = None
within nodes value (Some e) = if fits nodes e.sends e.outs then Some e else Some (answered value (codes "beyond the limits"))

-- the handler of a service: that of its definition within the limits
abbrev pub limited : Handler → Handler
limited h = record { after = λ node nodes value message draws. within nodes value (h.after node nodes value message draws); clocks = h.clocks; words = h.words }
