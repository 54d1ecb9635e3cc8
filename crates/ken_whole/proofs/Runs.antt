-- Runs of a node, one after the other.
use Rattle.std.proofs.Common.{◌≡◌, ℕ, ◌<◌, List, [], ◌∷◌, ◌++◌, map, IsTrue, refl, sym, ap, subst, ◌∙◌, append_assoc, append-nil}
use Rattle.std.specs.List.{AllByRecursion}
use Rattle.ken_model.specs.declared.messages.Out.{Out}
use Rattle.ken_model.specs.Game.{Game}
use Rattle.ken_core.specs.declared.events.Event.{Event}
use Rattle.ken_core.specs.declared.events.Event.TheVariants.{Ack}
use Rattle.ken_core.specs.Calls.{IsAck}
use Rattle.ken_core.specs.Nodes.{Node}
use Rattle.ken_core.specs.Packets.{Packet, Outgoing, Put, nothing, one_after_other, outgoing}
use Rattle.ken_core.specs.Runs.{NodeRun}
use Rattle.ken_core.specs.Turns.{consumed_from}
use Rattle.ken_whole.specs.TurnLaws.{acks_out}

after-assoc : (a b c : Outgoing) → one_after_other (one_after_other a b) c ≡ one_after_other a (one_after_other b c)
after-assoc a b c =
    ap (λ (ps : List Put). record { puts = ps; outs = (a.outs ++ b.outs) ++ c.outs }) (append_assoc a.puts b.puts c.puts)
    ∙ ap (λ (os : List Out). record { puts = a.puts ++ (b.puts ++ c.puts); outs = os }) (append_assoc a.outs b.outs c.outs)

pub after-nothing : (a : Outgoing) → one_after_other a nothing ≡ a
after-nothing a = ap (λ (ps : List Put). record { puts = ps; outs = a.outs ++ [] }) (append-nil a.puts) ∙ ap (λ (os : List Out). record { puts = a.puts; outs = os }) (append-nil a.outs)

-- a sender of the run, of which the node has consumed something
abbrev pub MayAck : Game → Node → ℕ → Type 0
MayAck g n from = (from < g.nodes) × (0 < consumed_from from n.turning.turns)

module _ (g : Game) (put : Packet → Type 0) (v : ℕ) where
  pub run-append : (n mid n2 : Node) (es fs : List Event) (out later : Outgoing) → NodeRun g put v n es out mid → NodeRun g put v mid fs later n2 → NodeRun g put v n (es ++ fs) (one_after_other out later) n2
  run-append n mid n2 [] fs out later first rest =
      subst (λ (o : Outgoing). NodeRun g put v n fs (one_after_other o later) n2) (sym first.0) (subst (λ (m : Node). NodeRun g put v m fs later n2) first.1 rest)
  run-append n mid n2 (e ∷ es) fs out later first rest =
      (first.0, (one_after_other first.1.0 later, (first.1.1.0, first.1.1.1, ap (λ (o : Outgoing). one_after_other o later) first.1.1.2 ∙ after-assoc (outgoing v n e) first.1.0 later, run-append first.0 mid n2 es fs first.1.0 later first.1.1.3 rest)))

  pub acks-run : (n : Node) (senders : List ℕ) → IsTrue n.turning.up → AllByRecursion (MayAck g n) senders → NodeRun g put v n (map (λ (from : ℕ). Ack v from) senders) (acks_out v n senders) n
  acks-run n [] up each = (refl, refl)
  acks-run n (from ∷ senders) up each = (n, (acks_out v n senders, (refl, (up, each.0.0, each.0.1, refl), refl, acks-run n senders up each.1)))

pub acks-each : (v : ℕ) (senders : List ℕ) → AllByRecursion (IsAck v) (map (λ (from : ℕ). Ack v from) senders)
acks-each v [] = tt
acks-each v (from ∷ senders) = ((from, refl), acks-each v senders)
