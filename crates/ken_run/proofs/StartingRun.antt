-- A node that was created joins a run as its next one.
use Rattle.std.proofs.Common.{◌≡◌, ℕ, zero, suc, ◌+◌, ◌<◌, ⊎_elim, List, [], ◌∷◌, ◌++◌, length, replicate, All, Contains, slice_index_or, Option, Result, Ok, Err, refl, sym, ap, subst, ◌∙◌, arith}
use Rattle.std.specs.Result.{IsErrAnd}
use Rattle.std.proofs.lemmas.Bool.{cases_eq}
use Rattle.std.proofs.lemmas.List.{length-append, length-replicate}
use Rattle.std.proofs.lemmas.List.Elements.{All-nil}
use Rattle.ken_disk.specs.Story.{Story}
use Rattle.ken_model.specs.declared.messages.Out.{Out}
use Rattle.ken_model.specs.Game.{Game}
use Rattle.ken_model.specs.Handler.{Handler}
use Rattle.ken_model.specs.Limits.{IsWithinLimits}
use Rattle.ken_model.proofs.First.{first_is_empty}
use Rattle.ken_model.proofs.ReadBack.{reads_what_stands}
use Rattle.ken_net.specs.declared.act.LinkAct.{LinkAct}
use Rattle.ken_net.specs.History.{AreNew}
use Rattle.ken_net.specs.Standings.{Leaving}
use Rattle.ken_core.specs.Accord.{Accord}
use Rattle.ken_core.specs.Calls.{no_doubt}
use Rattle.ken_core.specs.Clusters.{Cluster, WasPut}
use Rattle.ken_core.specs.Nodes.{Node, first_node}
use Rattle.ken_core.specs.Packets.{nothing}
use Rattle.ken_core.specs.Runs.{NodeRun}
use Rattle.ken_core.proofs.History.{start_is_in_accord}
use Rattle.ken_node.specs.declared.watched.Watched.{Watched}
use Rattle.ken_node.specs.Restarts.{IsUpAgain}
use Rattle.ken_node.specs.Stages.{refusals_in}
use Rattle.ken_ship.specs.Fates as ship
use Rattle.ken_node.specs.Up.{IsUp}
use Rattle.ken_flow.specs.Flows.{AreKnown}
use Rattle.ken_flow.specs.Groups.{group_of, with_node}
use Rattle.ken_flow.specs.Laws.{FirstIsInAccord}
use Rattle.ken_flow.specs.Standstill.{AreShort}
use Rattle.ken_flow.proofs.Flows.{first_are_known}
use Rattle.ken_flow.proofs.Groups.{first_is_in_accord}
use Rattle.ken_app.specs.Limits.{KeepsLimits}
use Rattle.ken_app.specs.Lines.{KeepsLines}
use Rattle.ken_run.specs.declared.faults.RunFault.{RunFault}
use Rattle.ken_run.specs.declared.faults.RunFault.TheVariants.{Damaged, Down, Memory}
use Rattle.ken_run.specs.declared.run.Run.{Run}
use Rattle.ken_run.specs.declared.station.Station.{Station}
use Rattle.ken_run.specs.Ends.{AreModest}
use Rattle.ken_run.specs.Running.{StandsFor}
use Rattle.ken_disk.specs.Fates.{Fate}
use Rattle.ken_app.specs.Oracles.{Telling}
use Rattle.std.specs.Prelude.{IfOk}
use Rattle.ken_run.specs.Accounts.{AreAccounted, IsAccounted, IsHeld, Terms}
use Rattle.ken_run.specs.Refusals.{AreRefused, IsRefused}
use Rattle.ken_run.specs.Devices.{MayFailAt, TellsNothing}
use Rattle.ken_run.specs.Creating.{AddsBy, BeginsAccounts, BeginsStation, HasTried, IsCreatedStation, IsLast, IsStarted, Joins, JoinsAccountsBy, JoinsBy}
use Rattle.ken_run.specs.Stations.{AreLinksOf, IsStation}
use Rattle.ken_run.proofs.Lifted.{accord-after, known-stays, links-stay, with-here, with-other}
use Rattle.ken_run.proofs.RefusalsFirst.{first-refused}
use Rattle.ken_run.proofs.Short.{first-short}
use Rattle.ken_run.proofs.StartingNode.{still-none}

-- ---- one more behind others

pub last-here : {X : Type 0} (xs : List X) (x : X) (d : X) → slice_index_or (xs ++ x ∷ []) (length xs) d ≡ x
last-here [] x d = refl
last-here (y ∷ ys) x d = last-here ys x d

pub last-other : {X : Type 0} (xs : List X) (x : X) (v : ℕ) (d : X) → v < length xs → slice_index_or (xs ++ x ∷ []) v d ≡ slice_index_or xs v d
last-other [] x v d low = absurd (omega (arith, low))
last-other (y ∷ ys) x zero d low = refl
last-other (y ∷ ys) x (suc v) d low = last-other ys x v d (omega (arith, low))

-- what holds of each of some, and of one more behind them
pub each-more : {X : Type 0} (P : ℕ → X → Type 0) (xs ys : List X) (x : X) (count : ℕ) → length xs ≡ count → ys ≡ xs ++ x ∷ [] → ((v : ℕ) (d : X) → v < count → P v (slice_index_or xs v d)) → P count x → (v : ℕ) (d : X) → v < count + 1 → P v (slice_index_or ys v d)
each-more {X} P xs ys x count counted is before here v d below =
    subst (λ (zs : List X). P v (slice_index_or zs v d)) (sym is)
    (⊎_elim
    (λ (same : v ≡ count). subst (λ (u : ℕ). P u (slice_index_or (xs ++ x ∷ []) u d)) (sym same)
    (subst (P count) (sym (ap (λ (k : ℕ). slice_index_or (xs ++ x ∷ []) k d) (sym counted) ∙ last-here xs x d)) here))
    (λ other. subst (P v) (sym (last-other xs x v d (omega (arith, counted, below, other)))) (before v d (omega (arith, below, other))))
    (cases_eq v count))

-- ---- links of which nothing was put

pub new-links : (g : Game) (w : Cluster) (v : ℕ) (acts : List LinkAct) (links : Leaving) → AreNew v g.nodes acts links → AreLinksOf g w v links
new-links g w v acts links new = record { from = new.from_is; to_each = new.count; known = (first_are_known g w).links v g.nodes acts links new }

-- nodes at the start are in accord
first-accord : FirstIsInAccord
first-accord = first_is_in_accord (start_is_in_accord first_is_empty reads_what_stands)

module _ {D O U A : Type 0} (told : Watched D → Option Story) (size : Watched D → ℕ) (took : U → Option (List Out)) (handles : A → Handler) where
  -- ---- a run without its nodes

  pub none-started : (g : Game) (r : Run D O U A) → IsWithinLimits g → KeepsLimits g.nodes g.size g.handler → KeepsLines g.nodes g.size g.handler → r.nodes ≡ 0 → handles r.app ≡ g.handler → r.stations.items ≡ [] → r.waiting.mail ≡ replicate g.nodes [] → r.waiting.acks ≡ replicate g.nodes []
      → IsStarted told size took handles g 0 r
  none-started g r limits keeps lines count handler none mail acks = record {
    nodes = λ v. first_node g;
    stands = record {
      limits = limits;
      keeps = keeps;
      lines = lines;
      few = omega arith;
      count = count;
      handler = handler;
      width = ap length none;
      accord = first-accord g limits;
      boxes = (ap length mail ∙ length-replicate g.nodes [], ap length acks ∙ length-replicate g.nodes []);
      mail = subst (AreKnown g (group_of g (λ v. first_node g) [])) (sym mail) ((first_are_known g (group_of g (λ v. first_node g) [])).boxes g.nodes);
      acks = subst (AreKnown g (group_of g (λ v. first_node g) [])) (sym acks) ((first_are_known g (group_of g (λ v. first_node g) [])).boxes g.nodes);
      each = λ v d below. absurd (omega (arith, below));
      short = (subst AreShort (sym mail) (first-short g.nodes), subst AreShort (sym acks) (first-short g.nodes));
      modest = λ v d below. absurd (omega (arith, below));
    };
    up = λ v d below. absurd (omega (arith, below));
    no_turn = λ v. refl;
    unmade = λ v above. refl;
    tried = λ v d below. absurd (omega (arith, below));
  }

  -- ---- one more node

  module _ (g : Game) (made : ℕ) (s s2 : Station D O U) (r r2 : Run D O U A) (joins : Joins told size took handles g made s r) (created : IsCreatedStation told size g made r.restarts s2)
      (rest : s2 ≡ record s { node = s2.node; restarts = s2.restarts; lines = s2.lines }) (stations : r2.stations.items ≡ r.stations.items ++ s2 ∷ [])
      (count : r2.nodes ≡ r.nodes + 1) (same : (r2.app ≡ r.app) × (r2.waiting ≡ r.waiting) × (r2.restarts ≡ r.restarts)) where
    abbrev stands : StandsFor told size took handles g made joins.started.nodes [] r
    stands = joins.started.stands

    abbrev before : ℕ → Node
    before = joins.started.nodes

    abbrev up : IsUpAgain told size g made [] (first_node g) no_doubt created.turns s2.node.stage
    up = created.up

    was-first : before made ≡ first_node g
    was-first = joins.started.unmade made (omega arith)

    run : NodeRun g (Contains []) made (before made) up.call.events nothing up.after
    run = subst (λ (n : Node). NodeRun g (Contains []) made n up.call.events nothing up.after) (sym was-first) up.call.run

    none-given : All (WasPut (group_of g before [])) []
    none-given = All-nil (WasPut (group_of g before []))

    abbrev after : ℕ → Node
    after = with_node made up.after before

    abbrev w2 : Cluster
    w2 = group_of g after []

    accord2 : Accord g w2
    accord2 = accord-after g before [] made [] up.call.events nothing up.after stands.accord joins.known none-given run

    stays : (boxes : List (List (List ℕ))) → AreKnown g (group_of g before []) boxes → AreKnown g w2 boxes
    stays = (known-stays g before [] made [] up.call.events nothing up.after stands.accord joins.known none-given run).boxes

    -- what is a node of the run still is one
    pub station-as-before : (v : ℕ) (t : Station D O U) → IsStation took g (group_of g before []) v [] t → IsStation took g w2 v [] t
    station-as-before v t is = record {
      mail = links-stay g before [] made [] up.call.events nothing up.after stands.accord joins.known none-given run v t.mail is.mail;
      acks = links-stay g before [] made [] up.call.events nothing up.after stands.accord joins.known none-given run v t.acks is.acks;
      emitted = is.emitted;
    }

    -- and the new one is
    pub station-joined : IsStation took g w2 made [] s2
    station-joined = record {
      mail = subst (AreLinksOf g w2 made) (sym (ap (λ (x : Station D O U). x.mail) rest)) (new-links g w2 made joins.mail.0 s.mail joins.mail.1);
      acks = subst (AreLinksOf g w2 made) (sym (ap (λ (x : Station D O U). x.acks) rest)) (new-links g w2 made joins.acks.0 s.acks joins.acks.1);
      emitted = record { kept = created.quiet; took_it = subst (λ (o : U). TellsNothing (took o)) (sym (ap (λ (x : Station D O U). x.out) rest)) joins.silent };
    }

    -- the nodes after it
    here : (v : ℕ) → v ≡ made → after v ≡ up.after
    here v same = ap after same ∙ with-here made up.after before

    up-now : IsUp told size g made up.after s2.node.stage
    up-now = record {
      limits = stands.limits;
      known = joins.known;
      handler = up.handler;
      patcher = up.patcher;
      sender = up.sender;
      stage_is = up.stage_is;
      whole = up.whole;
      empty = up.empty;
      unspent = up.unspent;
      tell = up.tell;
    }

    pub has-joined : IsStarted told size took handles g (made + 1) r2
    has-joined = record {
      nodes = after;
      stands = record {
        limits = stands.limits;
        keeps = stands.keeps;
        few = let low = joins.known in omega (arith, low);
        count = count ∙ ap (λ (k : ℕ). k + 1) stands.count;
        lines = stands.lines;
        handler = ap handles same.0 ∙ stands.handler;
        width = ap length stations ∙ length-append r.stations.items (s2 ∷ []) ∙ ap (λ (k : ℕ). k + 1) stands.width;
        accord = accord2;
        boxes = (ap (λ x. length x.mail) same.1 ∙ stands.boxes.0, ap (λ x. length x.acks) same.1 ∙ stands.boxes.1);
        mail = subst (AreKnown g w2) (sym (ap (λ x. x.mail) same.1)) (stays r.waiting.mail stands.mail);
        acks = subst (AreKnown g w2) (sym (ap (λ x. x.acks) same.1)) (stays r.waiting.acks stands.acks);
        each = each-more (λ (v : ℕ) (t : Station D O U). IsStation took g w2 v [] t) r.stations.items r2.stations.items s2 made stands.width stations
            (λ v d low. station-as-before v (slice_index_or r.stations.items v d) (stands.each v d low)) station-joined;
        short = subst (λ x. AreShort x.mail × AreShort x.acks) (sym same.1) stands.short;
        modest = each-more (λ (v : ℕ) (t : Station D O U). AreModest t.mail × AreModest t.acks) r.stations.items r2.stations.items s2 made stands.width stations stands.modest
            (subst (λ (t : Station D O U). AreModest t.mail × AreModest t.acks) (sym rest) joins.modest);
      };
      up = each-more (λ (v : ℕ) (t : Station D O U). IsUp told size g v (after v) t.node.stage) r.stations.items r2.stations.items s2 made stands.width stations
          (λ v d low. subst (λ (n : Node). IsUp told size g v n (slice_index_or r.stations.items v d).node.stage) (sym (with-other v made up.after before (λ same. omega (arith, same, low)))) (joins.started.up v d low))
          (subst (λ (n : Node). IsUp told size g made n s2.node.stage) (sym (with-here made up.after before)) up-now);
      no_turn = λ v. ⊎_elim
          (λ (same : v ≡ made). ap (λ (n : Node). n.turning.turns) (here v same) ∙ still-none told size g made [] created.turns s2.node.stage up)
          (λ other. ap (λ (n : Node). n.turning.turns) (with-other v made up.after before other) ∙ joins.started.no_turn v)
          (cases_eq v made);
      unmade = λ v above. with-other v made up.after before (λ same. omega (arith, same, above)) ∙ joins.started.unmade v (omega (arith, above));
      tried = each-more (λ (v : ℕ) (t : Station D O U). HasTried r2.restarts t) r.stations.items r2.stations.items s2 made stands.width stations
          (λ v d low. subst (λ (k : ℕ). HasTried k (slice_index_or r.stations.items v d)) (sym same.2) (joins.started.tried v d low))
          (subst (λ (k : ℕ). HasTried k s2) (sym same.2) created.tried);
    }

-- ---- as a run answers

module _ {D O U A : Type 0} (told : Watched D → Option Story) (size : Watched D → ℕ) (took : U → Option (List Out)) (handles : A → Handler) (g : Game) (made : ℕ) (s s2 : Station D O U) (r r2 : Run D O U A) (joins : Joins told size took handles g made s r)
    (rest : s2 ≡ record s { node = s2.node; restarts = s2.restarts; lines = s2.lines }) (stations : r2.stations.items ≡ r.stations.items ++ s2 ∷ []) (count : r2.nodes ≡ r.nodes + 1) (same : (r2.app ≡ r.app) × (r2.waiting ≡ r.waiting) × (r2.restarts ≡ r.restarts)) where
  pub joins-by : (result : Result (Unit {0}) RunFault) → BeginsStation told size result g made r.nodes r.restarts s2 → JoinsBy told size took handles result g made r2
  joins-by (Ok x) begins = has-joined told size took handles g made s s2 r r2 joins begins rest stations count same
  joins-by (Err (Down u)) begins = begins ∙ joins.started.stands.count
  joins-by (Err Memory) begins = tt
  joins-by (Err (Damaged u disk place)) begins = absurd begins

  -- where its outlet and those before it have refused nothing too often
  pub joins-refused : (faults : U → ℕ) (fate : U → Option ship.Fate) (terms : Terms) (result : Result (Unit {0}) RunFault) → MayFailAt terms.scripted made (terms.fails made) (fate s.out) → refusals_in s2.node.stage ≡ 0 → AreRefused faults fate terms made r
      → IfOk result (λ x. AreRefused faults fate terms (made + 1) r2)
  joins-refused faults fate terms (Err e) may none refused = tt
  joins-refused faults fate terms (Ok x) may none refused = record {
    each = each-more (IsRefused faults fate terms) r.stations.items r2.stations.items s2 made joins.started.stands.width stations refused.each
        (first-refused faults fate terms made s2 (subst (λ (o : U). MayFailAt terms.scripted made (terms.fails made) (fate o)) (sym (ap (λ (x : Station D O U). x.out) rest)) may) none);
  }

module _ {D O U A : Type 0} (told : Watched D → Option Story) (size : Watched D → ℕ) (took : U → Option (List Out)) (handles : A → Handler) (s s2 : Station D O U) (r r2 : Run D O U A)
    (rest : s2 ≡ record s { node = s2.node; restarts = s2.restarts; lines = s2.lines }) (stations : r2.stations.items ≡ r.stations.items ++ s2 ∷ []) where
  is-last : IsLast told size took handles s r r2
  is-last = record { last = s2; is = rest; stations = stations }

  pub adds-by : (result : Result (Unit {0}) RunFault) → AddsBy told size took handles result s r r2
  adds-by (Ok x) = is-last
  adds-by (Err (Down u)) = is-last
  adds-by (Err Memory) = tt
  adds-by (Err (Damaged u disk place)) = is-last

module _ {D O U A : Type 0} (told : Watched D → Option Story) (count : Watched D → ℕ) (fate : Watched D → Option Fate) (telling : Telling O) (terms : Terms) (g : Game) (made : ℕ) (s2 : Station D O U) (r r2 : Run D O U A)
    (width : length r.stations.items ≡ made) (stations : r2.stations.items ≡ r.stations.items ++ s2 ∷ []) (same : r2.restarts ≡ r.restarts) (accounted : AreAccounted told count fate telling terms g made r) where
  last-is : (d : Station D O U) → slice_index_or r2.stations.items made d ≡ s2
  last-is d = ap (λ xs. slice_index_or xs made d) stations ∙ ap (λ (k : ℕ). slice_index_or (r.stations.items ++ s2 ∷ []) k d) (sym width) ∙ last-here r.stations.items s2 d

  others-are : (u : ℕ) (d : Station D O U) → u < made → slice_index_or r2.stations.items u d ≡ slice_index_or r.stations.items u d
  others-are u d low = ap (λ xs. slice_index_or xs u d) stations ∙ last-other r.stations.items s2 u d (omega (arith, low, width))

  pub joins-accounts : (result : Result (Unit {0}) RunFault) → BeginsAccounts told count fate telling terms g result made s2 → JoinsAccountsBy told count fate telling terms g result made r2
  joins-accounts (Ok x) begins = record {
    most = same ∙ accounted.most;
    each = each-more (IsAccounted told count fate telling terms g) r.stations.items r2.stations.items s2 made width stations accounted.each begins;
  }
  joins-accounts (Err (Down u)) begins = record {
    held = record {
      most = same ∙ accounted.most;
      held = λ d. subst (IsHeld told count fate telling terms g made) (sym (last-is d)) begins.0;
      others = λ u d below other. let low : u < made = omega (arith, below, other) in subst (IsAccounted told count fate telling terms g u) (sym (others-are u d low)) (accounted.each u d low);
    };
    none_left = λ d. ap (λ (x : Station D O U). x.restarts) (last-is d) ∙ begins.1;
  }
  joins-accounts (Err Memory) begins = tt
  joins-accounts (Err (Damaged u disk place)) begins = tt

-- ---- want of memory

module _ {D O U A : Type 0} (told : Watched D → Option Story) (size : Watched D → ℕ) (took : U → Option (List Out)) (handles : A → Handler) where
  pub memory-joins : (result : Result (Unit {0}) RunFault) → IsErrAnd result (λ e. e ≡ Memory) → (g : Game) (made : ℕ) (r : Run D O U A) → JoinsBy told size took handles result g made r
  memory-joins (Ok x) is g made r = absurd is
  memory-joins (Err (Down v)) is g made r = absurd (cc)
  memory-joins (Err Memory) is g made r = tt
  memory-joins (Err (Damaged v disk place)) is g made r = absurd (cc)

  pub memory-adds : (result : Result (Unit {0}) RunFault) → IsErrAnd result (λ e. e ≡ Memory) → (s : Station D O U) (r r2 : Run D O U A) → AddsBy told size took handles result s r r2
  memory-adds (Ok x) is s r r2 = absurd is
  memory-adds (Err (Down v)) is s r r2 = absurd (cc)
  memory-adds (Err Memory) is s r r2 = tt
  memory-adds (Err (Damaged v disk place)) is s r r2 = absurd (cc)

module _ {D O U : Type 0} (told : Watched D → Option Story) (count : Watched D → ℕ) (fate : Watched D → Option Fate) (telling : Telling O) (terms : Terms) (g : Game) where
  pub memory-accounts : {A : Type 0} (result : Result (Unit {0}) RunFault) → IsErrAnd result (λ e. e ≡ Memory) → (made : ℕ) (r : Run D O U A) → JoinsAccountsBy told count fate telling terms g result made r
  memory-accounts (Ok x) is made r = absurd is
  memory-accounts (Err (Down v)) is made r = absurd (cc)
  memory-accounts (Err Memory) is made r = tt
  memory-accounts (Err (Damaged v disk place)) is made r = absurd (cc)

pub memory-not-ok : (P : Unit {0} → Type 0) (result : Result (Unit {0}) RunFault) → IsErrAnd result (λ e. e ≡ Memory) → IfOk result P
memory-not-ok P (Ok x) is = absurd is
memory-not-ok P (Err e) is = tt
