-- What a call says by words of its end of the network, it says by any words that follow from them.
use Rattle.std.proofs.Common.{◌≡◌, ◌∙◌, ℕ, inl, inr, ⊎_elim, subst, sym, List, [], length, Option, Result, Ok, Err}
use Rattle.std.specs.Prelude.{OnOk}
use Rattle.ken_disk.specs.Story.{Story}
use Rattle.ken_model.specs.Game.{Game}
use Rattle.ken_model.specs.Handler.{Handler}
use Rattle.ken_net.specs.Inboxes.{Taking, all_filed}
use Rattle.ken_net.specs.Puts.{Put}
use Rattle.ken_net.specs.Standings.{Leaving, after_puts, all_passed}
use Rattle.ken_core.specs.Nodes.{Node}
use Rattle.ken_ship.specs.declared.faults.NodeFault.{NodeFault}
use Rattle.ken_ship.specs.declared.faults.NodeFault.TheVariants.{Disk, Damaged, Outlet, Memory}
use Rattle.ken_node.specs.declared.stage.Stage.{Stage}
use Rattle.ken_work.specs.declared.took.Took.{Took}
use Rattle.ken_work.specs.declared.took.Took.TheVariants.{Turn, Idle, Capped}
use Rattle.ken_work.specs.declared.worker.TurnWorker.{TurnWorker}
use Rattle.ken_node.specs.NodeCalls.{HearSteps, SendSteps}
use Rattle.ken_node.specs.NodeTurns.{SealFails, TurnStepsBy, TurnoverFails}
use Rattle.ken_node.specs.Up.{MayBeCalledOn, MayTakeTurns}
use Rattle.ken_run.specs.Ends.{WereGiven, WerePut}

module _ {D : Type 0} (told : D → Option Story) (size : D → ℕ) (g : Game) (v : ℕ) (n : Node) (gave gave2 : List (List ℕ) → Type 0) (put put2 : List Put → Type 0)
    (given : (ps : List (List ℕ)) → gave ps → gave2 ps) (puts : (ps : List Put) → put ps → put2 ps) (drew : List ℕ → Type 0) (nones nones2 : ℕ) (handler : TurnWorker D) (stage : Stage D) where
  pub turn-mapped : (result : Result Took NodeFault) → TurnStepsBy told size g v n gave put result drew nones nones2 handler stage → TurnStepsBy told size g v n gave2 put2 result drew nones nones2 handler stage
  turn-mapped (Ok Turn) s = record {
    call = record { given = s.call.given; was_given = given s.call.given s.call.was_given; puts = s.call.puts; were_put = puts s.call.puts s.call.were_put; out = s.call.out; steps = s.call.steps };
    turn = s.turn;
    last = s.last;
    drawn = s.drawn;
    first = s.first;
    again = s.again;
  }
  turn-mapped (Ok Idle) s = record {
    call = record { given = s.call.given; was_given = given s.call.given s.call.was_given; puts = s.call.puts; were_put = puts s.call.puts s.call.were_put; out = s.call.out; steps = s.call.steps };
    unmade = s.unmade;
    most = s.most;
    until = s.until;
    none_next = s.none_next;
    no_input = s.no_input;
    few = s.few;
    again = s.again;
    same_turns = s.same_turns;
    same_sending = s.same_sending;
  }
  turn-mapped (Ok Capped) s = record {
    none_given = given [] s.none_given;
    none_put = puts [] s.none_put;
    steps = s.steps;
    same = s.same;
    heard = s.heard;
    hears = s.hears;
    capped = s.capped;
    over = s.over;
  }
  turn-mapped (Err Disk) s = ⊎_elim
      (λ (f : TurnoverFails told size g v n gave put stage). inl (record { none_given = given [] f.none_given; none_put = puts [] f.none_put; with_news = f.with_news; down = f.down }))
      (λ (f : SealFails told size g v n gave put drew handler stage). inr (record {
        given = f.given;
        was_given = given f.given f.was_given;
        puts = f.puts;
        were_put = puts f.puts f.were_put;
        out = f.out;
        from = f.from;
        draws = f.draws;
        pages = f.pages;
        drawn = f.drawn;
        down = f.down;
      }))
      s
  turn-mapped (Err Memory) s = tt
  turn-mapped (Err Outlet) s = absurd s
  turn-mapped (Err (Damaged disk place)) s = absurd s

module _ {D : Type 0} (told : D → Option Story) (size : D → ℕ) (g : Game) (v : ℕ) (n : Node) (stage : Stage D) where
  pub send-mapped : (put put2 : List Put → Type 0) → ((ps : List Put) → put ps → put2 ps) → SendSteps told size g v n put stage → SendSteps told size g v n put2 stage
  send-mapped put put2 puts s = record { puts = s.puts; were_put = puts s.puts s.were_put; out = s.out; steps = s.steps }

  pub hear-mapped : (gave gave2 : List (List ℕ) → Type 0) (nones nones2 : ℕ) → ((ps : List (List ℕ)) → gave ps → gave2 ps) → HearSteps told size g v n gave nones nones2 stage → HearSteps told size g v n gave2 nones nones2 stage
  hear-mapped gave gave2 nones nones2 given s = record { given = s.given; was_given = given s.given s.was_given; most = s.most; until = s.until; steps = s.steps }

pub ok-mapped : {T E P Q : Type 0} (result : Result T E) → (P → Q) → OnOk result P → OnOk result Q
ok-mapped (Ok x) f p = f p
ok-mapped (Err e) f p = tt

-- ---- an end over links and inboxes

pub may-turn-at : {D : Type 0} (told : D → Option Story) (size : D → ℕ) (h : Handler) (a b : ℕ) (ps qs : List (List (List ℕ))) (stage : Stage D) → b ≡ a → qs ≡ ps → MayTakeTurns told size h a (length ps) stage → MayTakeTurns told size h b (length qs) stage
may-turn-at told size h a b ps qs stage node puts may =
    subst (λ n. MayTakeTurns told size h n (length qs) stage) (sym node) (subst (λ (xs : List (List (List ℕ))). MayTakeTurns told size h a (length xs) stage) (sym puts) may)

pub may-call-at : {D : Type 0} (told : D → Option Story) (size : D → ℕ) (a b : ℕ) (ps qs : List (List (List ℕ))) (stage : Stage D) → b ≡ a → qs ≡ ps → MayBeCalledOn told size a (length ps) stage → MayBeCalledOn told size b (length qs) stage
may-call-at told size a b ps qs stage node puts may =
    subst (λ n. MayBeCalledOn told size n (length qs) stage) (sym node) (subst (λ (xs : List (List (List ℕ))). MayBeCalledOn told size a (length xs) stage) (sym puts) may)

pub given-at : (u v n k : ℕ) (a a2 b b2 : List (List (List ℕ))) (ps : List (List ℕ)) → u ≡ v → n ≡ 0 → a ≡ a2 → b2 ≡ b → Taking u n k a b ps → WereGiven v k a2 b2 ps
given-at u v n k a a2 b b2 ps node none before after is =
    subst (λ (x : ℕ). Taking x 0 k a2 b2 ps) node
    (subst (λ (x : ℕ). Taking u x k a2 b2 ps) none
    (subst (λ (x : List (List (List ℕ))). Taking u n k x b2 ps) before
    (subst (λ (x : List (List (List ℕ))). Taking u n k a x ps) (sym after) is)))

pub put-at : (l l2 m m2 : Leaving) (a a2 b b2 : List (List (List ℕ))) (ps : List Put) → l ≡ m → m2 ≡ l2 → a ≡ a2 → b2 ≡ b → l2 ≡ record l { links = after_puts ps l.links } → b ≡ all_filed (all_passed ps l.links) a → WerePut m m2 a2 b2 ps
put-at l l2 m m2 a a2 b b2 ps old new before after links_are passed_on =
    subst (λ (x : Leaving). WerePut x m2 a2 b2 ps) old
    (subst (λ (x : List (List (List ℕ))). WerePut l m2 x b2 ps) before
    (record { links_are = new ∙ links_are; passed_on = after ∙ passed_on }))
