-- The events of a restart, and the turns that are kept over it.
use Rattle.std.proofs.Common.{◌≡◌, ℕ, ◌-◌, inl, List, [], ◌∷◌, ◌++◌, length, map, drop, Bool, true, false, Contains, refl, sym, ap, subst, ◌∙◌, arith}
use Rattle.std.specs.Prelude.{nat_lt}
use Rattle.std.proofs.Math.Seq.{drop-append_seam}
use Rattle.std.proofs.lemmas.Bool.{lt-ltb, le-ltb}
use Rattle.std.proofs.lemmas.List.{length-append}
use Rattle.ken_model.specs.Game.{Game}
use Rattle.ken_record.specs.declared.page.Page.{Page}
use Rattle.ken_record.specs.declared.record.Record.{Record}
use Rattle.ken_cover.specs.Covers.{AreTorn}
use Rattle.ken_core.specs.declared.events.Event.TheVariants.{Crash, Recover}
use Rattle.ken_core.specs.declared.events.Outcome.TheVariants.{Landed, Lost}
use Rattle.ken_core.specs.Calls.{Call, Doubt, found, no_doubt, seal, turnover}
use Rattle.ken_core.specs.Laws.{restarted_node}
use Rattle.ken_core.specs.Nodes.{Node}
use Rattle.ken_core.specs.Packets.{Packet, nothing}
use Rattle.ken_core.specs.Runs.{NodeRun}
use Rattle.ken_core.specs.Steps.{crashed_node}
use Rattle.ken_core.proofs.Doubt.{seal_in_doubt, turnover_in_doubt}
use Rattle.ken_node.specs.Down.{ComesOut, HasLanded}
use Rattle.ken_work.specs.Parts.{effects_in, kept_turns}
use Rattle.ken_node.specs.Restarts.{AreOfRestart}

-- ---- the events

-- what a crash tears depends on the open pages alone
torn-same : (n m : Node) (torn : List Page) → n.patching.«open» ≡ m.patching.«open» → AreTorn m.patching torn → AreTorn n.patching torn
torn-same n m torn same is = record { whole = is.whole; rising = is.rising; exactly = λ p. is.exactly p ∙ ap (λ (f : ℕ → Bool). f p) (sym same) }

module _ (g : Game) (v : ℕ) (given : List Packet) (torn : List Page) where
  -- a run of a restart of n, after which it is m that went down and came up
  abbrev Restarts : Node → Doubt → Bool → Node → Type 0
  Restarts n doubt landed m = NodeRun g (Contains given) v n (found v doubt landed ++ Crash v torn ∷ Recover v ∷ []) nothing (restarted_node torn m)

  calm-run : (n : Node) (landed : Bool) → AreTorn n.patching torn → Restarts n no_doubt landed n
  calm-run n landed is = (crashed_node torn n, (nothing, (refl, (is, refl), refl, (restarted_node torn n, (nothing, (refl, (refl, (λ p. refl), refl), refl, (refl, refl)))))))

  restart-run : (n : Node) (doubt : Doubt) (landed : Bool) (m : Node) → ComesOut g v given n doubt landed m → AreTorn m.patching torn → Restarts n doubt landed m
  restart-run n no_doubt landed m comes is = subst (Restarts n no_doubt landed) (sym comes) (calm-run n landed (torn-same n m torn (ap (λ (x : Node). x.patching.«open») (sym comes)) is))
  restart-run n (seal from draws pages) true m comes is =
      subst (Restarts n (seal from draws pages) true) (sym comes.1.1)
      (seal_in_doubt g given v n from draws pages torn comes.0 true comes.1.0 (torn-same n m torn (ap (λ (x : Node). x.patching.«open») (sym comes.1.1)) is))
  restart-run n (seal from draws pages) false m comes is =
      subst (Restarts n (seal from draws pages) false) (sym comes.1.1)
      (seal_in_doubt g given v n from draws pages torn comes.0 false comes.1.0 (torn-same n m torn (ap (λ (x : Node). x.patching.«open») (sym comes.1.1)) is))
  restart-run n (turnover told) true m comes is =
      subst (Restarts n (turnover told) true) (sym comes.1)
      (turnover_in_doubt g given v n Landed told torn (λ e. cc e) comes.0 (torn-same n m torn (ap (λ (x : Node). x.patching.«open») (sym comes.1)) is))
  restart-run n (turnover told) false m comes is =
      subst (Restarts n (turnover told) false) (sym comes.1)
      (turnover_in_doubt g given v n Lost told torn (λ e. cc e) comes.0 (torn-same n m torn (ap (λ (x : Node). x.patching.«open») (sym comes.1)) is))

  -- the restart as a call
  pub restart-call : (n : Node) (doubt : Doubt) (landed : Bool) (m : Node) → ComesOut g v given n doubt landed m → AreTorn m.patching torn → Call g v given (AreOfRestart g v n doubt) n nothing (restarted_node torn m)
  restart-call n doubt landed m comes is = record {
    events = found v doubt landed ++ Crash v torn ∷ Recover v ∷ [];
    run = restart-run n doubt landed m comes is;
    which = inl (record { landed = landed; torn = torn; parts = refl });
  }

-- ---- the turns

no-more : (n m : Node) (count : ℕ) (records : List Record) → m.turning.turns ≡ n.turning.turns → count ≡ length m.turning.turns → kept_turns n.turning.turns count records ≡ m.turning.turns
no-more n m count records same counted =
    let all : nat_lt (length n.turning.turns) count ≡ false = le-ltb _ _ (let long = ap length same in omega (arith, long, counted)) in
    rw all (sym same)

one-more : (n m : Node) (count : ℕ) (records before : List Record) (last : Record) → records ≡ before ++ last ∷ [] → m.turning.turns ≡ n.turning.turns ++ effects_in last ∷ [] → count ≡ length m.turning.turns
    → kept_turns n.turning.turns count records ≡ m.turning.turns
one-more n m count records before last are turns counted =
    let long = ap length turns ∙ length-append n.turning.turns (effects_in last ∷ []) in
    let more : nat_lt (length n.turning.turns) count ≡ true = lt-ltb _ _ (omega (arith, long, counted)) in
    let place : length records - 1 ≡ length before = let all = ap length are ∙ length-append before (last ∷ []) in omega (arith, all) in
    let newest : drop (length records - 1) records ≡ last ∷ [] = ap (λ (k : ℕ). drop k records) place ∙ ap (drop (length before)) are ∙ drop-append_seam before (last ∷ []) in
    rw more (ap (λ (rs : List Record). n.turning.turns ++ map effects_in rs) newest ∙ sym turns)

-- the turns that are kept are those of the node that comes out
pub turns-kept : (g : Game) (v : ℕ) (given : List Packet) (n : Node) (doubt : Doubt) (landed : Bool) (m : Node) (count : ℕ) (records : List Record) → ComesOut g v given n doubt landed m → HasLanded doubt landed n m records → count ≡ length m.turning.turns
    → kept_turns n.turning.turns count records ≡ m.turning.turns
turns-kept g v given n no_doubt landed m count records comes newest counted = no-more n m count records (ap (λ (x : Node). x.turning.turns) comes) counted
turns-kept g v given n (seal from draws pages) true m count records comes newest counted = one-more n m count records newest.0 newest.1.0 newest.1.1.0 newest.1.1.1 counted
turns-kept g v given n (seal from draws pages) false m count records comes newest counted = no-more n m count records (ap (λ (x : Node). x.turning.turns) comes.1.1) counted
turns-kept g v given n (turnover told) true m count records comes newest counted = no-more n m count records (ap (λ (x : Node). x.turning.turns) comes.1) counted
turns-kept g v given n (turnover told) false m count records comes newest counted = no-more n m count records (ap (λ (x : Node). x.turning.turns) comes.1) counted
