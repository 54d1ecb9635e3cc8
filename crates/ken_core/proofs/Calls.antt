-- One event and one call of a node are runs, and so are lists of events.
use Rattle.std.proofs.Common.{◌≡◌, ℕ, ◌<◌, List, [], ◌∷◌, ◌++◌, Bool, true, false, ◌==◌, ◌&&◌, if◌then◌else◌, Option, Some, Contains, refl, sym, ap, ◌∙◌, subst, inl, inr, ⊎_elim, ◌⊎◌, arith, append-nil, eq-eqb, ne_eqb}
use Rattle.std.specs.List.{AllByRecursion}
use Rattle.std.proofs.lemmas.Bool.{cases_eq, false≢true, eqb-true}
use Rattle.std.proofs.lemmas.List.{map-append}
use Rattle.std.proofs.lemmas.List.Elements.{filter-append, Contains-append_right, All-contains}
use Rattle.ken_model.specs.declared.messages.Message.{Message}
use Rattle.ken_model.specs.declared.messages.Out.{Out}
use Rattle.ken_model.specs.declared.reports.Emission.{Emission}
use Rattle.ken_model.specs.Game.{Game}
use Rattle.ken_model.specs.Emissions.{emitted_by}
use Rattle.ken_core.specs.declared.events.Event.{Event}
use Rattle.ken_core.specs.Packets.{Packet, Mail, Answer, Put, Outgoing, nothing, one_after_other, outgoing}
use Rattle.ken_core.specs.Clusters.{Cluster, WasPut, mail_put, mail_after, answer_put, answer_after, emissions_by, node_of, Changes}
use Rattle.ken_core.specs.Accord.{IsAt, Accord}
use Rattle.ken_core.specs.Runs.{NodeRun, IsPut, sender_of}
use Rattle.ken_core.specs.Laws.{StepKeepsAccord, EventsKeepAccord, CallKeepsAccord}
use Rattle.ken_core.proofs.Made.{run_turns, IsTrueOf, run_puts_true}
use Rattle.ken_core.proofs.Together.{RanOver, over_keep_accord}

-- the later packets of a list
later_put : (packet : Packet) (p : Put) (ps : List Put) → IsPut packet ps → IsPut packet (p ∷ ps)
later_put packet p ps is = record { put = is.put; one = Contains-append_right (p ∷ []) ps is.put is.one; is = is.is }

first_put : (packet : Packet) (p : Put) (ps : List Put) → p.packet ≡ packet → IsPut packet (p ∷ ps)
first_put packet p ps is = record { put = p; one = (0, omega arith, refl); is = is }

and_left : (a b : Bool) → (a && b) ≡ true → a ≡ true
and_left true b h = refl
and_left false b h = absurd (false≢true h)

and_right : (a b : Bool) → (a && b) ≡ true → b ≡ true
and_right true b h = h
and_right false b h = absurd (false≢true h)

-- a mail that was put in the end was there before, or is one of these
mail_from : (u v number : ℕ) (m : Message) (packet : Packet) (old : Option Message) → mail_put u v number packet old ≡ Some m → (old ≡ Some m) ⊎ (IsAt u v number m × (packet ≡ Mail m))
mail_from u v number m (Answer a) old e = inl e
mail_from u v number m (Mail x) old e = chosen (x.from == u && x.to == v && x.number == number) refl e
  where
    chosen : (b : Bool) → (x.from == u && x.to == v && x.number == number) ≡ b → (if b then Some x else old) ≡ Some m → (old ≡ Some m) ⊎ (IsAt u v number m × (Mail x ≡ Mail m))
    chosen false is e = inl e
    chosen true is e =
        let it : x ≡ m = cc in
        let here : IsAt u v number x = record {
          from = eqb-true x.from u (and_left (x.from == u) (x.to == v) (and_left (x.from == u && x.to == v) (x.number == number) is));
          to = eqb-true x.to v (and_right (x.from == u) (x.to == v) (and_left (x.from == u && x.to == v) (x.number == number) is));
          counted = eqb-true x.number number (and_right (x.from == u && x.to == v) (x.number == number) is);
        } in
        inr (subst (IsAt u v number) it here, ap Mail it)

mails_from : (u v number : ℕ) (m : Message) (ps : List Put) (old : Option Message) → mail_after u v number ps old ≡ Some m → (old ≡ Some m) ⊎ (IsAt u v number m × IsPut (Mail m) ps)
mails_from u v number m [] old e = inl e
mails_from u v number m (p ∷ ps) old e =
    ⊎_elim
    (λ earlier. ⊎_elim (λ before. inl before) (λ now. inr (now.0, first_put (Mail m) p ps now.1)) (mail_from u v number m p.packet old earlier))
    (λ later. inr (later.0, later_put (Mail m) p ps later.1))
    (mails_from u v number m ps (mail_put u v number p.packet old) e)

answer_from : (u v through : ℕ) (packet : Packet) (old : Bool) → answer_put u v through packet old ≡ true → (old ≡ true) ⊎ (packet ≡ Answer (record { from = u; to = v; through = through }))
answer_from u v through (Mail m) old e = inl e
answer_from u v through (Answer a) old e = chosen (a.from == u && a.to == v && a.through == through) refl e
  where
    same : a.from ≡ u → a.to ≡ v → a.through ≡ through → Answer a ≡ Answer (record { from = u; to = v; through = through })
    same f t n = ap (λ x. Answer (record { from = x; to = a.to; through = a.through })) f ∙ ap (λ x. Answer (record { from = u; to = x; through = a.through })) t ∙ ap (λ x. Answer (record { from = u; to = v; through = x })) n

    chosen : (b : Bool) → (a.from == u && a.to == v && a.through == through) ≡ b → (if b then true else old) ≡ true → (old ≡ true) ⊎ (Answer a ≡ Answer (record { from = u; to = v; through = through }))
    chosen false is e = inl e
    chosen true is e =
        inr (same
        (eqb-true a.from u (and_left (a.from == u) (a.to == v) (and_left (a.from == u && a.to == v) (a.through == through) is)))
        (eqb-true a.to v (and_right (a.from == u) (a.to == v) (and_left (a.from == u && a.to == v) (a.through == through) is)))
        (eqb-true a.through through (and_right (a.from == u && a.to == v) (a.through == through) is)))

answers_from : (u v through : ℕ) (ps : List Put) (old : Bool) → answer_after u v through ps old ≡ true → (old ≡ true) ⊎ IsPut (Answer (record { from = u; to = v; through = through })) ps
answers_from u v through [] old e = inl e
answers_from u v through (p ∷ ps) old e =
    let packet = Answer (record { from = u; to = v; through = through }) in
    ⊎_elim
    (λ earlier. ⊎_elim (λ before. inl before) (λ now. inr (first_put packet p ps now)) (answer_from u v through p.packet old earlier))
    (λ later. inr (later_put packet p ps later))
    (answers_from u v through ps (answer_put u v through p.packet old) e)

-- emissions of one node, seen by each
emitted_here : (v : ℕ) (os : List Out) → emitted_by v (emissions_by v os) ≡ os
emitted_here v [] = refl
emitted_here v (o ∷ os) = rw (eq-eqb v v refl) (ap (λ x. o ∷ x) (emitted_here v os))

emitted_elsewhere : (u v : ℕ) (os : List Out) → (v ≡ u → ⊥) → emitted_by u (emissions_by v os) ≡ []
emitted_elsewhere u v [] ne = refl
emitted_elsewhere u v (o ∷ os) ne = rw (ne_eqb v u ne) (emitted_elsewhere u v os ne)

emitted_by-append : (u : ℕ) (es fs : List Emission) → emitted_by u (es ++ fs) ≡ emitted_by u es ++ emitted_by u fs
emitted_by-append u es fs = simp (filter-append, map-append)

emitters_more : (n v : ℕ) (es : List Emission) (os : List Out) → v < n → AllByRecursion (λ (e : Emission). e.node < n) es → AllByRecursion (λ (e : Emission). e.node < n) (es ++ emissions_by v os)
emitters_more n v [] [] lt all = tt
emitters_more n v [] (o ∷ os) lt all = (lt, emitters_more n v [] os lt tt)
emitters_more n v (e ∷ es) os lt all = (all.0, emitters_more n v es os lt all.1)

-- a run of one node alone
module _ (g : Game) (put : Packet → Type 0) (w w2 : Cluster) (v : ℕ) (es : List Event) (out : Outgoing) (known : v < g.nodes) (took : (packet : Packet) → put packet → WasPut w packet) (run : NodeRun g put v (w.node v) es out (w2.node v)) (rest : Changes v out w w2) (own : (packet : Packet) → IsPut packet out.puts → sender_of packet ≡ v) where
  abbrev events_at : ℕ → List Event
  events_at u = if u == v then es else []

  abbrev out_at : ℕ → Outgoing
  out_at u = if u == v then out else nothing

  runs_at : (u : ℕ) → NodeRun g put u (w.node u) (events_at u) (out_at u) (w2.node u)
  runs_at u =
      ⊎_elim
      (λ (same : u ≡ v). subst (λ x. NodeRun g put x (w.node x) (if x == v then es else []) (if x == v then out else nothing) (w2.node x)) (sym same) (rw (eq-eqb v v refl) run))
      (λ other. rw (ne_eqb u v other) (refl, rest.others u other))
      (cases_eq u v)

  -- what node v puts is its own
  put_here : (packet : Packet) (u : ℕ) → sender_of packet ≡ u → IsPut packet out.puts → IsPut packet (out_at u).puts
  put_here packet u from is = rw (eq-eqb u v (sym from ∙ own packet is)) is

  over : RanOver g put w w2
  over = record {
    events = events_at;
    out = out_at;
    runs = runs_at;
    nobody = λ u le. let other : u ≡ v → ⊥ = λ e. absurd (omega arith) in rw (ne_eqb u v other) refl;
    took = λ packet p. inl (took packet p);
    rest = record {
      mail = λ u x number m e. ⊎_elim (λ was. inl was) (λ now. inr (now.0, put_here (Mail m) u now.0.from now.1)) (mails_from u x number m out.puts (w.mail u x number) (sym (rest.mail u x number) ∙ e));
      answer = λ u x through e. ⊎_elim (λ was. inl was) (λ now. inr (put_here (Answer (record { from = u; to = x; through = through })) u refl now)) (answers_from u x through out.puts (w.answer u x through) (sym (rest.answer u x through) ∙ e));
      emitted = λ u. ap (emitted_by u) rest.emissions ∙ emitted_by-append u w.emissions (emissions_by v out.outs) ∙ ap (λ os. emitted_by u w.emissions ++ os) (emitted_at u);
      emitters = λ all. subst (λ es. AllByRecursion (λ (e : Emission). e.node < g.nodes) es) (sym rest.emissions) (emitters_more g.nodes v w.emissions out.outs known all);
    };
  }
    where
      emitted_at : (u : ℕ) → emitted_by u (emissions_by v out.outs) ≡ (out_at u).outs
      emitted_at u =
          ⊎_elim
          (λ (same : u ≡ v). rw (eq-eqb u v same) (subst (λ x. emitted_by x (emissions_by v out.outs) ≡ out.outs) (sym same) (emitted_here v out.outs)))
          (λ other. rw (ne_eqb u v other) (emitted_elsewhere u v out.outs (λ e. other (sym e))))
          (cases_eq u v)

run_keeps_accord : (g : Game) (put : Packet → Type 0) (w w2 : Cluster) (v : ℕ) (es : List Event) (out : Outgoing) → v < g.nodes → ((packet : Packet) → put packet → WasPut w packet) → NodeRun g put v (w.node v) es out (w2.node v) → Changes v out w w2 → Accord g w → Accord g w2
run_keeps_accord g put w w2 v es out known took run rest accord =
    over_keep_accord g put w w2 accord (over g put w w2 v es out known took run rest
    (λ packet is. from_here packet (run_puts_true g put v (accord.history v) (w.node v) es out (w2.node v) run packet (accord.made.nodes v).turns is)))
  where
    from_here : (packet : Packet) → IsTrueOf v (accord.history v ++ run_turns g put v (w.node v) es out (w2.node v) run) packet → sender_of packet ≡ v
    from_here (Mail m) is = is.from
    from_here (Answer a) is = is.from

pub step_keeps_accord : StepKeepsAccord
step_keeps_accord g w e w2 accord step =
    let v = node_of e in
    let out = outgoing v (w.node v) e in
    let one : one_after_other out nothing ≡ out = ap (λ x. record { puts = x; outs = out.outs ++ [] }) (append-nil out.puts) ∙ ap (λ x. record { puts = out.puts; outs = x }) (append-nil out.outs) in
    let run : NodeRun g (WasPut w) v (w.node v) (e ∷ []) out (w2.node v) = (w2.node v, (nothing, (refl, step.node, sym one, (refl, refl)))) in
    run_keeps_accord g (WasPut w) w w2 v (e ∷ []) out step.known (λ packet p. p) run step.rest accord

pub events_keep_accord : EventsKeepAccord
events_keep_accord g w [] w2 accord goes = subst (Accord g) (sym goes) accord
events_keep_accord g w (e ∷ es) w2 accord goes =
    events_keep_accord g goes.0 es w2 (⊎_elim (λ step. step_keeps_accord g w e goes.0 accord step) (λ same. subst (Accord g) (sym same.1) accord) goes.1.0) goes.1.1

pub call_keeps_accord : CallKeepsAccord
call_keeps_accord g w v given es out w2 accord known put run rest =
    run_keeps_accord g (Contains given) w w2 v es out known (λ packet has. All-contains (WasPut w) given packet put has) run rest accord
