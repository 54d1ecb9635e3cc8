-- What a restart finds after a seal or a turnover in doubt.
use Rattle.std.proofs.Common.{◌≡◌, ℕ, ◌+◌, List, [], ◌∷◌, true, false, All, Contains, Option, Some, None, slice_get, slice_index, refl}
use Rattle.std.proofs.lemmas.List.Elements.{All-nil, All-cons}
use Rattle.std.proofs.lemmas.Option.{slice_get_within, get_or_from_slice_get}
use Rattle.ken_model.specs.declared.messages.Message.{Message}
use Rattle.ken_model.specs.declared.messages.Out.{Out}
use Rattle.ken_cover.specs.Sides.{crashed_pages}
use Rattle.ken_cover.proofs.Keeps.{crash_keeps_coverage, recovery_keeps_coverage}
use Rattle.ken_core.specs.declared.events.Event.TheVariants.{Seal, SealCut, Patch, SyncImage, Turnover, Send, Ack, TakeAck, Emit, Crash, Recover}
use Rattle.ken_cover.specs.Covers.{AreTorn}
use Rattle.ken_core.specs.declared.events.Outcome.TheVariants.{Whole, Landed, Lost}
use Rattle.ken_core.specs.Turns.{mails_to}
use Rattle.ken_core.specs.Nodes.{Node, heap_pages}
use Rattle.ken_core.specs.Packets.{Mail, Answer, Put, nothing, unacked, due, mail_out, emitted_out, put_by, receipt_of}
use Rattle.ken_core.specs.Steps.{cut_node, turnover_node, crashed_node}
use Rattle.ken_core.specs.Laws.{restarted_node, SealInDoubt, TurnoverInDoubt, RestartKeepsHeap, IsHandedIn, PutsAreHandedIn}

pub seal_in_doubt : SealInDoubt
seal_in_doubt g given v n from draws pages torn t true may is =
    let cut = cut_node true v t pages n in
    let there : AreTorn cut.patching torn = record { whole = is.whole; rising = is.rising; exactly = is.exactly } in
    (cut, (nothing, (refl, (t, (may, refl)), refl, (crashed_node torn cut, (nothing, (refl, (there, refl), refl, (restarted_node torn cut, (nothing, (refl, (refl, (λ p. refl), refl), refl, (refl, refl))))))))))
seal_in_doubt g given v n from draws pages torn t false may is =
    let cut = cut_node false v t pages n in
    (cut, (nothing, (refl, (t, (may, refl)), refl, (crashed_node torn cut, (nothing, (refl, (is, refl), refl, (restarted_node torn cut, (nothing, (refl, (refl, (λ p. refl), refl), refl, (refl, refl))))))))))

pub turnover_in_doubt : TurnoverInDoubt
turnover_in_doubt g given v n Whole told torn not may is = absurd (not refl)
turnover_in_doubt g given v n Landed told torn not may is =
    let cut = turnover_node Landed (heap_pages g) told n in
    (cut, (nothing, (refl, (may, refl), refl, (crashed_node torn cut, (nothing, (refl, (is, refl), refl, (restarted_node torn cut, (nothing, (refl, (refl, (λ p. refl), refl), refl, (refl, refl))))))))))
turnover_in_doubt g given v n Lost told torn not may is =
    let cut = turnover_node Lost (heap_pages g) told n in
    (cut, (nothing, (refl, (may, refl), refl, (crashed_node torn cut, (nothing, (refl, (is, refl), refl, (restarted_node torn cut, (nothing, (refl, (refl, (λ p. refl), refl), refl, (refl, refl))))))))))

pub restart_keeps_heap : RestartKeepsHeap
restart_keeps_heap g n torn covers is =
    let crashed = crash_keeps_coverage (heap_pages g) n.turning.up n.turning.pages n.patching torn is covers in
    (recovery_keeps_coverage (heap_pages g) false n.turning.pages (crashed_pages torn n.patching) crashed).heap

one : (p : Put) → IsHandedIn p p.packet → All (λ (p : Put). IsHandedIn p p.packet) (p ∷ [])
one p is = All-cons (λ (p : Put). IsHandedIn p p.packet) p [] is (All-nil (λ (p : Put). IsHandedIn p p.packet))

stands_in : {A : Type 0} (xs : List A) (k : ℕ) (x : A) → slice_get xs k ≡ Some x → Contains xs x
stands_in xs k x e = (k, slice_get_within xs k x e, get_or_from_slice_get xs k x x e)

none : All (λ (p : Put). IsHandedIn p p.packet) []
none = All-nil (λ (p : Put). IsHandedIn p p.packet)

mail_handed_in : (v w : ℕ) (i : ℕ) (n : Node) (o : Option Message) → unacked v w i n ≡ o → All (λ (p : Put). IsHandedIn p p.packet) (mail_out v w n o).puts
mail_handed_in v w i n None e = none
mail_handed_in v w i n (Some m) e = one (put_by v w n (Mail m)) (stands_in (mails_to v w n.turning.turns) (slice_index n.sending.acked w + i) m e)

emission_handed_in : (o : Option Out) → All (λ (p : Put). IsHandedIn p p.packet) (emitted_out o).puts
emission_handed_in None = none
emission_handed_in (Some x) = none

pub puts_are_handed_in : PutsAreHandedIn
puts_are_handed_in v n (Send node to i) = mail_handed_in v to i n (unacked v to i n) refl
puts_are_handed_in v n (Ack node from) = one (put_by v from n (Answer (receipt_of v from n))) refl
puts_are_handed_in v n (Emit node) = emission_handed_in (due n)
puts_are_handed_in v n (Seal node from draws pages) = none
puts_are_handed_in v n (SealCut node from draws pages landed) = none
puts_are_handed_in v n (Patch node page) = none
puts_are_handed_in v n (SyncImage node) = none
puts_are_handed_in v n (Turnover node outcome told) = none
puts_are_handed_in v n (TakeAck node from through) = none
puts_are_handed_in v n (Crash node pages) = none
puts_are_handed_in v n (Recover node) = none
