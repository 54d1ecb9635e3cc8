-- What a turn sends and outputs goes on with the numbers before, and has a spelling.
use Rattle.std.proofs.Common.{◌≡◌, ℕ, suc, ◌+◌, ◌<◌, ◌≤◌, ◌^◌, List, [], ◌∷◌, length, map, true, refl, sym, ap, subst, ◌∙◌, arith, length-set, eq-eqb}
use Rattle.std.specs.Prelude.{nat_lt, ◌&&◌, ◌==◌, if◌then◌else◌, slice_index, slice_index_or, slice_set, IsTrue}
use Rattle.std.specs.List.{AllByRecursion}
use Rattle.ken_app.specs.Turning.{IsShortText}
use Rattle.ken_core.proofs.Mailing.{count_at_most, posted_more}
use Rattle.ken_core.specs.Turns.{sent_of}
use Rattle.ken_model.specs.Posted.{posted_after}
use Rattle.ken_model.specs.Network.{outputs_from}
use Rattle.ken_model.specs.declared.messages.Message.{Message}
use Rattle.ken_model.specs.declared.messages.Send.{Send}
use Rattle.ken_record.specs.Grammar.{IsOut, IsSent, are_numbered}
use Rattle.ken_record.specs.declared.sent.Sent.{Sent}
use Rattle.ken_store.proofs.BaseStands.{both, is_less}
use Rattle.ken_store.specs.Numbers.{outs_follow, sends_follow}

-- the counts with one message more to a node
abbrev pub with_one : List ℕ → ℕ → List ℕ
with_one counts to = slice_set counts to (slice_index counts to + 1)

-- the message that a send becomes
abbrev pub message_after : ℕ → ℕ → List ℕ → Send → Message
message_after v stamp counts s = record { from = v; to = s.to; number = slice_index counts s.to + 1; stamp = stamp; bytes = s.bytes }

pub posted_one : (v stamp : ℕ) (counts : List ℕ) (s : Send) (ss : List Send) → s.to < length counts
    → message_after v stamp counts s ∷ posted_after v stamp (λ w. slice_index (with_one counts s.to) w) ss ≡ posted_after v stamp (λ w. slice_index counts w) (s ∷ ss)
posted_one v stamp counts s ss known = posted_more v stamp counts [] (posted_after v stamp (λ w. slice_index counts w) (s ∷ ss)) (message_after v stamp counts s) (s ∷ ss) 0 s (omega arith) refl known refl refl

-- what is kept of them
abbrev pub sents : ℕ → ℕ → List ℕ → List Send → List Sent
sents v stamp counts ss = map sent_of (posted_after v stamp (λ w. slice_index counts w) ss)

pub sents_one : (v stamp : ℕ) (counts : List ℕ) (s : Send) (ss : List Send) → s.to < length counts → sent_of (message_after v stamp counts s) ∷ sents v stamp (with_one counts s.to) ss ≡ sents v stamp counts (s ∷ ss)
sents_one v stamp counts s ss known = ap (map sent_of) (posted_one v stamp counts s ss known)

pub length-posted : (v stamp : ℕ) (counts : ℕ → ℕ) (ss : List Send) → length (map sent_of (posted_after v stamp counts ss)) ≡ length ss
length-posted v stamp counts [] = refl
length-posted v stamp counts (s ∷ ss) = ap suc (length-posted v stamp (λ w. if w == s.to then counts w + 1 else counts w) ss)

pub sends_follow-sents : (v stamp nodes : ℕ) (counts : List ℕ) (ss : List Send) → nodes ≤ length counts → AllByRecursion (λ (s : Send). s.to < nodes) ss → sends_follow nodes counts (sents v stamp counts ss) ≡ true
sends_follow-sents v stamp nodes counts [] wide all = refl
sends_follow-sents v stamp nodes counts (s ∷ ss) wide all =
    let known : s.to < length counts = omega (arith, all.0) in
    let number : ℕ = slice_index counts s.to + 1 in
    let later : List ℕ = with_one counts s.to in
    let rest = sends_follow-sents v stamp nodes later ss (subst (λ k. nodes ≤ k) (sym (length-set counts s.to number)) wide) all.1 in
    subst (λ (ms : List Sent). sends_follow nodes counts ms ≡ true) (sents_one v stamp counts s ss known)
    (both (nat_lt s.to nodes && (number == slice_index_or counts s.to 0 + 1)) (sends_follow nodes later (sents v stamp later ss))
    (both (nat_lt s.to nodes) (number == slice_index_or counts s.to 0 + 1) (is_less s.to nodes all.0) (eq-eqb number number refl)) rest)

pub sents_fit : (v stamp : ℕ) (counts : List ℕ) (ss : List Send) → length counts ≡ 8 → AllByRecursion (λ (s : Send). (s.to < 8) × IsShortText s.bytes) ss → ((w : ℕ) → slice_index counts w + length ss < 2 ^ 64) → AllByRecursion IsSent (sents v stamp counts ss)
sents_fit v stamp counts [] wide all room = tt
sents_fit v stamp counts (s ∷ ss) wide all room =
    let known : s.to < length counts = omega (arith, all.0.0, wide) in
    let later : List ℕ = with_one counts s.to in
    let here = room s.to in
    let first : IsSent (sent_of (message_after v stamp counts s)) = record { to = all.0.0; number = (omega arith, omega (arith, here)); bytes = all.0.1 } in
    let rest = sents_fit v stamp later ss (length-set counts s.to (slice_index counts s.to + 1) ∙ wide) all.1 (count_at_most counts s.to (length ss) (2 ^ 64) known room) in
    subst (AllByRecursion IsSent) (sents_one v stamp counts s ss known) (first, rest)

pub outs_follow-outputs_from : (n : ℕ) (texts : List (List ℕ)) → outs_follow n (outputs_from n texts) ≡ true
unfolding outputs_from
outs_follow-outputs_from n [] = refl
outs_follow-outputs_from n (x ∷ xs) = both (n + 1 == n + 1) (outs_follow (n + 1) (outputs_from (n + 1) xs)) (eq-eqb (n + 1) (n + 1) refl) (outs_follow-outputs_from (n + 1) xs)

pub outs_fit : (n : ℕ) (texts : List (List ℕ)) → n + length texts < 2 ^ 64 → AllByRecursion IsShortText texts → AllByRecursion IsOut (outputs_from n texts)
unfolding outputs_from
outs_fit n [] room all = tt
outs_fit n (x ∷ xs) room all = (record { number = omega arith; text = all.0 }, outs_fit (n + 1) xs (omega arith) all.1)

pub are_numbered-outputs_from : (n : ℕ) (texts : List (List ℕ)) → IsTrue (are_numbered (outputs_from n texts))
unfolding outputs_from
are_numbered-outputs_from n [] = refl
are_numbered-outputs_from n (x ∷ xs) = both (nat_lt 0 (n + 1)) (are_numbered (outputs_from (n + 1) xs)) (is_less 0 (n + 1) (omega arith)) (are_numbered-outputs_from (n + 1) xs)
