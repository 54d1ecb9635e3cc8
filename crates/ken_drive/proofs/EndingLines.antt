-- Of a plain run whose handler keeps lines, nothing that a legal schedule sends or outputs holds a line feed.
use Rattle.std.proofs.Common.{ℕ, ◌+◌, List, [], ◌∷◌, ◌++◌, length, ◌==◌, sym, subst, arith, eqb-true}
use Rattle.std.specs.List.{AllByRecursion}
use Rattle.std.proofs.lemmas.Bool.{cond_both}
use Rattle.ken_model.specs.declared.facts.Input.{Input}
use Rattle.ken_model.specs.declared.messages.Message.{Message}
use Rattle.ken_model.specs.declared.messages.Send.{Send}
use Rattle.ken_model.specs.declared.messages.Step.{Step}
use Rattle.ken_model.specs.Game.{Game}
use Rattle.ken_model.specs.Limits.{IsWithinLimits, IsPlainRun, ArePlain}
use Rattle.ken_model.specs.Network.{Network, Place, Turn, outside, inputs_from, start, numbered, place_after, applied}
use Rattle.ken_model.specs.Report.{IsOneLine}
use Rattle.ken_model.specs.Schedule.{IsLegalFrom, played}
use Rattle.ken_app.specs.Limits.{KeepsLimits}
use Rattle.ken_app.specs.Lines.{ComesByLines, IsOfLines, KeepsLines}
use Rattle.ken_drive.proofs.EndingBounds.{IsWithin, call, some_of, within_applied}
use Rattle.ken_drive.proofs.EndingPlayed.{all_append, all_at, either, IsTurnOf, turn_is}

-- heaps are what a handler comes to by lines, and nothing that is sent or output holds a line feed
pub record IsTidy (g : Game) (w : Network) : Type 0 where
  pub comes : (v : ℕ) → ComesByLines g.handler v g.nodes g.size (w.place v).value
  pub outs : (v : ℕ) → AllByRecursion IsOneLine (w.place v).outs
  pub mail : (u v : ℕ) → AllByRecursion (λ (m : Message). IsOneLine m.bytes) (w.link u v).sent

numbered_lines : (u v n stamp : ℕ) (ss : List Send) → AllByRecursion (λ (s : Send). IsOneLine s.bytes) ss → AllByRecursion (λ (m : Message). IsOneLine m.bytes) (numbered u v n stamp ss)
numbered_lines u v n stamp [] lines = tt
numbered_lines u v n stamp (s ∷ ss) lines =
    let one : Message = record { from = u; to = v; number = n + 1; stamp = stamp; bytes = s.bytes } in
    either (AllByRecursion (λ (m : Message). IsOneLine m.bytes)) (s.to == v) (one ∷ numbered u v (n + 1) stamp ss) (numbered u v n stamp ss) (lines.0, numbered_lines u v (n + 1) stamp ss lines.1) (numbered_lines u v n stamp ss lines.1)

plain_line : (bytes : List ℕ) → ArePlain bytes → IsOneLine bytes
plain_line [] plain = tt
plain_line (b ∷ bs) plain = ((λ e. omega (arith, plain.0.0)), plain_line bs plain.1)

input_lines : (v n : ℕ) (is : List Input) → AllByRecursion (λ (i : Input). ArePlain i.text) is → AllByRecursion (λ (m : Message). IsOneLine m.bytes) (inputs_from v n is)
input_lines v n [] plain = tt
input_lines v n (i ∷ is) plain =
    let one : Message = record { from = outside; to = i.node; number = n + 1; stamp = 0; bytes = i.text } in
    either (AllByRecursion (λ (m : Message). IsOneLine m.bytes)) (i.node == v) (one ∷ inputs_from v (n + 1) is) (inputs_from v n is) (plain_line i.text plain.0, input_lines v (n + 1) is plain.1) (input_lines v n is plain.1)

pub tidy_start : (g : Game) → IsPlainRun g → IsTidy g (start g)
tidy_start g plain = record {
  comes = λ v. ComesByLines.first;
  outs = λ v. tt;
  mail = λ u v. either (AllByRecursion (λ (m : Message). IsOneLine m.bytes)) (u == outside) (inputs_from v 0 g.inputs) [] (input_lines v 0 g.inputs plain) tt;
}

module _ (g : Game) (limits : IsWithinLimits g) (keeps : KeepsLimits g.nodes g.size g.handler) (lines : KeepsLines g.nodes g.size g.handler) where
  module _ (steps : ℕ) (w : Network) (s : Step) (t : Turn) (is : IsTurnOf g w s t) (old : IsWithin g steps w) (tidy : IsTidy g w) where
    line : IsOneLine t.message.bytes
    line = all_at (λ (m : Message). IsOneLine m.bytes) (w.link s.from s.node).sent (w.link s.from s.node).taken t.message (tidy.mail s.from s.node) is.next

    of_lines : IsOfLines t.effect
    of_lines = some_of IsOfLines (g.handler.after s.node g.nodes (w.place s.node).value t.message s.draws) t.effect (lines s.node (w.place s.node).value t.message s.draws (tidy.comes s.node) (call g limits keeps steps w s t is old) line) is.effect

    pub tidy_applied : IsTidy g (applied w s t)
    tidy_applied = record {
      comes = λ v. cond_both (v == s.node) (place_after (w.place v) t) (w.place v) (λ (p : Place). ComesByLines g.handler v g.nodes g.size p.value)
          (λ same. subst (λ k. ComesByLines g.handler k g.nodes g.size t.effect.value) (sym (eqb-true v s.node same)) (ComesByLines.next (tidy.comes s.node) (call g limits keeps steps w s t is old) line is.effect))
          (λ other. tidy.comes v);
      outs = λ v. either (λ (p : Place). AllByRecursion IsOneLine p.outs) (v == s.node) (place_after (w.place v) t) (w.place v) (all_append IsOneLine (w.place v).outs t.effect.outs (tidy.outs v) of_lines.outs) (tidy.outs v);
      mail = λ u v. either (AllByRecursion (λ (m : Message). IsOneLine m.bytes)) (u == s.node) ((w.link u v).sent ++ numbered u v (length (w.link u v).sent) t.stamp t.effect.sends) (w.link u v).sent
          (all_append (λ (m : Message). IsOneLine m.bytes) (w.link u v).sent _ (tidy.mail u v) (numbered_lines u v (length (w.link u v).sent) t.stamp t.effect.sends of_lines.sends)) (tidy.mail u v);
    }

  -- whatever the schedule is
  pub tidy_played : (steps : ℕ) (w : Network) (stamp node : ℕ) (ss : List Step) → IsLegalFrom g w stamp node ss → IsWithin g steps w → IsTidy g w → IsTidy g (played g w ss)
  unfolding IsLegalFrom played
  tidy_played steps w stamp node [] legal within tidy = tidy
  tidy_played steps w stamp node (s ∷ ss) legal within tidy =
      let t = legal.0 in
      let is = turn_is g w s t legal.1 in
      let next = tidy_played (steps + 1) (applied w s t) t.stamp s.node ss legal.4 (within_applied g limits keeps steps w s t is within) (tidy_applied steps w s t is within tidy) in
      rw legal.1 next
