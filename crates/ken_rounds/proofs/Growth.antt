-- What a round adds to a node, and rounds one after the other.
use Rattle.std.proofs.Common.{◌≡◌, ◌∙◌, ℕ, ◌+◌, ◌-◌, ◌≤◌, ◌==◌, if◌then◌else◌, List, [], ◌∷◌, ◌++◌, length, Contains, Err, slice_get, slice_set, refl, sym, ap, subst, arith, append-nil, length-append}
use Rattle.std.specs.List.{All}
use Rattle.std.proofs.lemmas.Grind.{flat_map-append}
use Rattle.std.proofs.lemmas.List.Elements.{All-append, All-contains, All-contains_itself, All-from_recursion, All-nil, All-weaker}
use Rattle.std.proofs.lemmas.List.Sums.{sum_by-append}
use Rattle.ken_model.specs.declared.messages.Message.{Message}
use Rattle.ken_model.specs.Game.{Game}
use Rattle.ken_model.specs.History.{IsPrefixOf}
use Rattle.ken_model.specs.Network.{Turn}
use Rattle.ken_net.specs.Puts.{Put}
use Rattle.ken_net.specs.Standings.{Leaving, Standing, after_put, after_puts, link_to}
use Rattle.ken_record.specs.declared.effects.Effects.{Effects}
use Rattle.ken_core.specs.declared.events.Event.{Event}
use Rattle.ken_core.specs.Nodes.{Node}
use Rattle.ken_core.specs.Packets.{Answer, Mail, Outgoing, Packet}
use Rattle.ken_core.specs.Packets as core
use Rattle.ken_core.specs.Runs.{IsPut, NodeRun}
use Rattle.ken_core.specs.Turns.{consumed_from, mails_in, mails_to, sealed}
use Rattle.ken_core.proofs.Made.{KeepsTurns, run_keeps_turns, run_puts_true, run_turns}
use Rattle.ken_core.proofs.Numbers.{consumed-sealed, mails_to-sealed}
use Rattle.ken_core.proofs.Sent.{slice_get-append}
use Rattle.ken_weave.proofs.Lists.{front_same, front_then}
use Rattle.ken_node.specs.NodeCalls.{AreSpelled}
use Rattle.ken_node.specs.Stages.{turns_in}
use Rattle.ken_run.specs.declared.faults.RunFault.{RunFault}
use Rattle.ken_run.specs.declared.faults.RunFault.TheVariants as run_faults
use Rattle.ken_run.specs.declared.run.Run.{Run}
use Rattle.ken_run.specs.declared.station.Station.{Station}
use Rattle.ken_run.proofs.Lifted.{after-length}
use Rattle.ken_beside.specs.Puts.{AreOf, IsAnswer, IsMail, puts_of}
use Rattle.ken_rounds.specs.Growth.{GoOn, GrowsByFew, GrowsRounds, HasGrown, HaveGrown, IsOwn, IsOwnPut}
use Rattle.ken_rounds.proofs.Puts.{spelled-by}

-- ---- lines of restarts

front-is : {A : Type 0} (xs ys : List A) → ys ≡ xs → IsPrefixOf xs ys
front-is xs ys same = ([], same ∙ sym (append-nil xs))

pub few-same : {A : Type 0} (xs ys : List A) → ys ≡ xs → GrowsByFew 1 xs ys
few-same xs ys same = record { front = front-is xs ys same; few = let long = ap length same in omega (arith, long) }

pub few-one : {A : Type 0} (xs ys : List A) (x : A) → ys ≡ xs ++ x ∷ [] → GrowsByFew 1 xs ys
few-one xs ys x one = record {
  front = (x ∷ [], one);
  few = let long : length ys ≡ length xs + 1 = ap length one ∙ length-append xs (x ∷ []) in omega (arith, long);
}

-- ---- links

-- what a node may put, it may put with more turns
own-later : (v : ℕ) (turns turns2 : List Effects) (packet : Packet) → IsPrefixOf turns turns2 → IsOwn v turns packet → IsOwn v turns2 packet
own-later v turns turns2 (Mail m) front own = record {
  from = own.from;
  number = own.number;
  sent =
      ap (λ (es : List Effects). slice_get (mails_to v m.to es) (m.number - 1)) front.1
      ∙ ap (λ (ms : List Message). slice_get ms (m.number - 1)) (flat_map-append (mails_in v m.to) turns front.0)
      ∙ slice_get-append (mails_to v m.to turns) (mails_to v m.to front.0) (m.number - 1) m own.sent;
}
own-later v turns turns2 (Answer a) front own = record {
  from = own.from;
  most =
      let most = own.most in
      let parts : consumed_from a.to (turns ++ front.0) ≡ consumed_from a.to turns + consumed_from a.to front.0 = sum_by-append (λ (e : Effects). if e.from == a.to then 1 else 0) turns front.0 in
      omega (arith, most, parts, ap (consumed_from a.to) front.1);
}

put-later : (sort : Packet → Type 0) (nodes v : ℕ) (turns turns2 : List Effects) → IsPrefixOf turns turns2 → (p : Put) → IsOwnPut sort nodes v turns p → IsOwnPut sort nodes v turns2 p
put-later sort nodes v turns turns2 front p put = record { packet = put.packet; spelled = put.spelled; is = put.is; to = put.to; own = own-later v turns turns2 put.packet front put.own }

puts-then : (ps qs : List Put) (links : List Standing) → after_puts (ps ++ qs) links ≡ after_puts qs (after_puts ps links)
puts-then [] qs links = refl
puts-then (p ∷ ps) qs links = puts-then ps qs (slice_set links p.to (after_put p (link_to p.to links)))

go-on-none : (sort : Packet → Type 0) (turns : List Effects) (l : Leaving) → GoOn sort turns l l
go-on-none sort turns l = record { puts = []; own = All-nil (IsOwnPut sort (length l.links) l.from turns); after = refl }

go-on-then : (sort : Packet → Type 0) (turns turns2 : List Effects) (a b c : Leaving) → IsPrefixOf turns turns2 → GoOn sort turns a b → GoOn sort turns2 b c → GoOn sort turns2 a c
go-on-then sort turns turns2 a b c front one two =
    let from : b.from ≡ a.from = ap (λ (l : Leaving). l.from) one.after in
    let width : length b.links ≡ length a.links = ap (λ (l : Leaving). length l.links) one.after ∙ after-length one.puts a.links in
    let first : All (IsOwnPut sort (length a.links) a.from turns2) one.puts =
    All-weaker (IsOwnPut sort (length a.links) a.from turns) (IsOwnPut sort (length a.links) a.from turns2) (put-later sort (length a.links) a.from turns turns2 front) one.puts one.own in
    let last : All (IsOwnPut sort (length a.links) a.from turns2) two.puts =
    subst (λ (k : ℕ). All (IsOwnPut sort k a.from turns2) two.puts) width (subst (λ (v : ℕ). All (IsOwnPut sort (length b.links) v turns2) two.puts) from two.own) in
    record {
      puts = one.puts ++ two.puts;
      own = All-append (IsOwnPut sort (length a.links) a.from turns2) one.puts two.puts first last;
      after =
          two.after ∙ ap (λ (l : Leaving). record l { links = after_puts two.puts l.links }) one.after
          ∙ ap (λ (ls : List Standing). record a { links = ls }) (sym (puts-then one.puts two.puts a.links));
    }

-- those of a node in a run, whose puts are among what the run put
module _ (g : Game) (given : Packet → Type 0) (v : ℕ) (ts : List Turn) (n : Node) (events : List Event) (out : Outgoing) (m : Node) (run : NodeRun g given v n events out m) (keeps : KeepsTurns v ts n)
    (turns : List Effects) (are : turns ≡ m.turning.turns) where
  abbrev made : List Turn
  made = ts ++ run_turns g given v n events out m run

  turns-made : turns ≡ sealed v made
  turns-made = are ∙ run_keeps_turns g given v ts n events out m run keeps

  own-packet : (packet : Packet) → IsPut packet out.puts → IsOwn v turns packet
  own-packet (Mail m2) put =
      let by = run_puts_true g given v ts n events out m run (Mail m2) keeps put in
      record {
        from = by.from;
        number = by.number;
        sent = ap (λ (ms : List Message). slice_get ms (m2.number - 1)) (ap (mails_to v m2.to) turns-made ∙ mails_to-sealed v m2.to made) ∙ by.stands;
      }
  own-packet (Answer a) put =
      let by = run_puts_true g given v ts n events out m run (Answer a) keeps put in
      record { from = by.from; most = let most = by.most in omega (arith, most, ap (consumed_from a.to) turns-made ∙ consumed-sealed a.to v made) }

  own-puts : (sort : Packet → Type 0) (by : List core.Put) → AreOf sort by → AreSpelled g.nodes (puts_of by) by → ((packet : Packet) → IsPut packet by → IsPut packet out.puts)
      → All (IsOwnPut sort g.nodes v turns) (puts_of by)
  own-puts sort by of_sort spelled among =
      let sorts : All (λ (q : core.Put). sort q.packet) by = All-from_recursion (λ (q : core.Put). sort q.packet) by of_sort in
      All-weaker (Contains (puts_of by)) (IsOwnPut sort g.nodes v turns)
      (λ p there.
      let s = spelled-by g.nodes (puts_of by) by p spelled there in
      let one : IsOwnPut sort g.nodes v turns p = record {
        packet = s.put.packet;
        spelled = s.spells.packet;
        is = All-contains (λ (q : core.Put). sort q.packet) by s.put sorts s.one;
        to = s.spells.to;
        own = own-packet s.put.packet (among s.put.packet (record { put = s.put; one = s.one; is = refl }));
      } in one)
      (puts_of by) (All-contains_itself (puts_of by))

  pub go-on : (sort : Packet → Type 0) (links links2 : Leaving) (by : List core.Put) → AreOf sort by → links.from ≡ v → length links.links ≡ g.nodes → AreSpelled g.nodes (puts_of by) by → ((packet : Packet) → IsPut packet by → IsPut packet out.puts)
      → links2 ≡ record links { links = after_puts (puts_of by) links.links } → GoOn sort turns links links2
  go-on sort links links2 by of_sort from width spelled among after = record {
    puts = puts_of by;
    own =
        subst (λ (k : ℕ). All (IsOwnPut sort k links.from turns) (puts_of by)) (sym width)
        (subst (λ (u : ℕ). All (IsOwnPut sort g.nodes u turns) (puts_of by)) (sym from) (own-puts sort by of_sort spelled among));
    after = after;
  }

-- ---- rounds

module _ {D O U : Type 0} where
  pub grown-none : (a : Station D O U) → HasGrown 0 a a
  grown-none a = record {
    turns = front_same _;
    lines = record { front = front_same _; few = omega arith };
    mail = go-on-none IsMail (turns_in a.node.stage) a.mail;
    acks = go-on-none IsAnswer (turns_in a.node.stage) a.acks;
  }

  pub grown-then : (rounds : ℕ) (a b c : Station D O U) → HasGrown rounds a b → HasGrown 1 b c → HasGrown (rounds + 1) a c
  grown-then rounds a b c one two = record {
    turns = front_then _ _ _ one.turns two.turns;
    lines = record {
      front = front_then _ _ _ one.lines.front two.lines.front;
      few = let first = one.lines.few in let second = two.lines.few in omega (arith, first, second);
    };
    mail = go-on-then IsMail (turns_in b.node.stage) (turns_in c.node.stage) a.mail b.mail c.mail two.turns one.mail two.mail;
    acks = go-on-then IsAnswer (turns_in b.node.stage) (turns_in c.node.stage) a.acks b.acks c.acks two.turns one.acks two.acks;
  }

  pub grown-more : (some many : ℕ) (a b : Station D O U) → some ≤ many → HasGrown some a b → HasGrown many a b
  grown-more some many a b low is = record {
    turns = is.turns;
    lines = record { front = is.lines.front; few = let few = is.lines.few in omega (arith, low, few) };
    mail = is.mail;
    acks = is.acks;
  }

module _ {D O U A : Type 0} (a b c : Run D O U A) (wide : length b.stations.items ≡ length a.stations.items) where
  pub all-grown-then : (rounds : ℕ) → HaveGrown rounds a b → HaveGrown 1 b c → HaveGrown (rounds + 1) a c
  all-grown-then rounds one two v d low = grown-then rounds _ _ _ (one v d low) (two v d (omega (arith, wide, low)))

  all-grown-once-more : (rounds many : ℕ) → rounds + 1 ≤ many → HaveGrown rounds a b → HaveGrown 1 b c → HaveGrown many a c
  all-grown-once-more rounds many low one two v d known = grown-more (rounds + 1) many _ _ low (all-grown-then rounds one two v d known)

  -- also where the last round ended with a fault
  abbrev Grows : ℕ → Run D O U A → RunFault → Type 0
  Grows rounds was fault = GrowsRounds rounds {T = Unit {0}} was (Err fault) c

  pub grows-then : (rounds many : ℕ) → rounds + 1 ≤ many → HaveGrown rounds a b → (fault : RunFault) → Grows 1 b fault → Grows many a fault
  grows-then rounds many low one (run_faults.Down v) two = all-grown-once-more rounds many low one two
  grows-then rounds many low one run_faults.Memory two = tt
  grows-then rounds many low one (run_faults.Damaged v disk place) two = absurd two
