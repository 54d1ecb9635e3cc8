-- What a script that breaks no rule lets fail is of its run.
use Rattle.std.proofs.Common.{◌≡◌, ℕ, ◌<◌, ◌≤◌, List, Option, Some, None, bytes_eq, cond, Bool, true, false, option_map, option_and_then, unwrap_or, codes, lit≤, refl, ap, subst}
use Rattle.serde_json.specs.Data.{Data}
use Rattle.serde_json.specs.Find.{get, as_array, as_str}
use Rattle.ken_net.specs.declared.act.Act.{Act}
use Rattle.ken_net.specs.declared.act.Act.TheVariants.{Lose, Repeat, Hold}
use Rattle.ken_net.specs.declared.act.LinkAct.{LinkAct}
use Rattle.ken_script.specs.declared.scripts.TheConstants.{DISKS, DEFAULT_RESTARTS, DEFAULT_ROUNDS, MAX_COUNT, MAX_HOLD, MAX_RESTARTS, MAX_ROUNDS}
use Rattle.ken_script.specs.declared.scripts.DiskCut.{DiskCut}
use Rattle.ken_script.specs.declared.scripts.OutFail.{OutFail}
use Rattle.ken_script.specs.declared.scripts.Script.{Script}
use Rattle.ken_script.specs.Keys.{whole, within, list_under}
use Rattle.ken_script.specs.Lists.{both, four, all_of}
use Rattle.ken_script.specs.Inputs.{node_of}
use Rattle.ken_script.specs.Mishaps.{disk_of, count_of, cut, cut_of, act_or, act_of, link_act, link_act_of, out_fail, out_fail_of}
use Rattle.ken_script.specs.Faults.{node_count}
use Rattle.ken_script.specs.Says.{States}
use Rattle.ken_script.specs.Within.{AreCutsOf, AreActsOf, AreOutFailsOf, IsShortAct, KeepsRules}
use Rattle.ken_script.proofs.Lists.{all_said}
use Rattle.ken_script.proofs.Limits.{limits_of, node_of_below, plain_run_of, taken_or_bounds, within_bounds}

cut_made : (node disk call pick : Option ℕ) (c : DiskCut) → option_and_then (λ n. option_and_then (λ k. option_and_then (λ m. option_map (cut n k m) pick) call) disk) node ≡ Some c → (node ≡ Some c.node) × (disk ≡ Some c.disk)
cut_made None disk call pick c e = absurd cc
cut_made (Some n) None call pick c e = absurd cc
cut_made (Some n) (Some k) None pick c e = absurd cc
cut_made (Some n) (Some k) (Some m) None c e = absurd cc
cut_made (Some n) (Some k) (Some m) (Some p) c e = let made : cut n k m p ≡ c = cc in (ap (λ (x : DiskCut). Some x.node) made, ap (λ (x : DiskCut). Some x.disk) made)

cut_within : (nodes : ℕ) (items : Option (Data × Data × Data × Data)) (c : DiskCut)
    → option_and_then (λ p. option_and_then (λ node. option_and_then (λ disk. option_and_then (λ call. option_map (cut node disk call) (whole p.3)) (count_of p.2)) (disk_of p.1)) (node_of nodes p.0)) items ≡ Some c → (c.node < nodes) × (c.disk < DISKS)
cut_within nodes None c e = absurd cc
cut_within nodes (Some p) c e =
    let parts = cut_made (node_of nodes p.0) (disk_of p.1) (count_of p.2) (whole p.3) c e in
    (node_of_below nodes c.node (whole p.0) parts.0, node_of_below DISKS c.disk (whole p.1) parts.1)

count_within : (n : ℕ) (o : Option ℕ) → option_and_then (within 1 MAX_COUNT) o ≡ Some n → n ≤ MAX_COUNT
count_within n o e = (within_bounds 1 MAX_COUNT n o e).1

-- ---- acts

held-by : (kept : Option ℕ) (a : Act) → ((n : ℕ) → kept ≡ Some n → n ≤ MAX_HOLD) → option_map Hold kept ≡ Some a → IsShortAct a
held-by None a most e = absurd cc
held-by (Some n) a most e = let same : Hold n ≡ a = cc in subst IsShortAct same (most n refl)

held_short : (puts : Option ℕ) (a : Act) → option_map Hold (option_and_then (within 1 MAX_HOLD) puts) ≡ Some a → IsShortAct a
held_short None a e = absurd cc
held_short (Some k) a e = held-by (within 1 MAX_HOLD k) a (λ n is. (within_bounds 1 MAX_HOLD n (Some k) is).1) e

named_short : (is_lose is_repeat : Bool) (a : Act) → cond is_lose (Some Lose) (cond is_repeat (Some Repeat) None) ≡ Some a → IsShortAct a
named_short true is_repeat a e = let same : Lose ≡ a = cc in subst IsShortAct same tt
named_short false true a e = let same : Repeat ≡ a = cc in subst IsShortAct same tt
named_short false false a e = absurd cc

act_short : (held : Option Act) (name : Option (List ℕ)) (a : Act) → (held ≡ Some a → IsShortAct a) → act_or held name ≡ Some a → IsShortAct a
act_short held None a short e = short e
act_short held (Some name) a short e = named_short (bytes_eq name (codes "lose")) (bytes_eq name (codes "repeat")) a e

link_act_made : (from to n : Option ℕ) (act : Option Act) (a : LinkAct) → option_and_then (λ x. option_and_then (λ y. option_and_then (λ m. option_map (link_act x y m) act) n) to) from ≡ Some a → (from ≡ Some a.from) × (to ≡ Some a.to) × (n ≡ Some a.n) × (act ≡ Some a.act)
link_act_made None to n act a e = absurd cc
link_act_made (Some x) None n act a e = absurd cc
link_act_made (Some x) (Some y) None act a e = absurd cc
link_act_made (Some x) (Some y) (Some m) None a e = absurd cc
link_act_made (Some x) (Some y) (Some m) (Some f) a e = let made : link_act x y m f ≡ a = cc in (ap (λ (z : LinkAct). Some z.from) made, ap (λ (z : LinkAct). Some z.to) made, ap (λ (z : LinkAct). Some z.n) made, ap (λ (z : LinkAct). Some z.act) made)

link_act_within : (nodes : ℕ) (items : Option (Data × Data × Data × Data)) (a : LinkAct)
    → option_and_then (λ p. option_and_then (λ from. option_and_then (λ to. option_and_then (λ n. option_map (link_act from to n) (act_of p.3)) (count_of p.2)) (node_of nodes p.1)) (node_of nodes p.0)) items ≡ Some a
    → (a.from < nodes) × (a.to < nodes) × (a.n ≤ MAX_COUNT) × IsShortAct a.act
link_act_within nodes None a e = absurd cc
link_act_within nodes (Some p) a e =
    let parts = link_act_made (node_of nodes p.0) (node_of nodes p.1) (count_of p.2) (act_of p.3) a e in (
      node_of_below nodes a.from (whole p.0) parts.0,
      node_of_below nodes a.to (whole p.1) parts.1,
      count_within a.n (whole p.2) parts.2,
      act_short (option_map Hold (option_and_then (within 1 MAX_HOLD) (whole p.3))) (as_str p.3) a.act (held_short (whole p.3) a.act) parts.3,
    )

-- ---- calls of outlets

out_fail_made : (node call : Option ℕ) (f : OutFail) → option_and_then (λ n. option_map (out_fail n) call) node ≡ Some f → (node ≡ Some f.node) × (call ≡ Some f.call)
out_fail_made None call f e = absurd cc
out_fail_made (Some n) None f e = absurd cc
out_fail_made (Some n) (Some m) f e = let made : out_fail n m ≡ f = cc in (ap (λ (x : OutFail). Some x.node) made, ap (λ (x : OutFail). Some x.call) made)

out_fail_within : (nodes : ℕ) (items : Option (Data × Data)) (f : OutFail) → option_and_then (λ p. option_and_then (λ node. option_map (out_fail node) (count_of p.1)) (node_of nodes p.0)) items ≡ Some f → (f.node < nodes) × (f.call ≤ MAX_COUNT)
out_fail_within nodes None f e = absurd cc
out_fail_within nodes (Some p) f e =
    let parts = out_fail_made (node_of nodes p.0) (count_of p.1) f e in
    (node_of_below nodes f.node (whole p.0) parts.0, count_within f.call (whole p.1) parts.1)

module _ (d : Data) (s : Script) (states : States d s) where
  count : node_count d ≡ s.facts.nodes
  count = ap (λ o. unwrap_or o 0) states.nodes

  rounds_within : s.rounds ≤ MAX_ROUNDS
  rounds_within = (taken_or_bounds DEFAULT_ROUNDS 0 MAX_ROUNDS s.rounds (get (codes "rounds") d) (lit≤ tt) (lit≤ tt) states.rounds).1

  restarts_within : s.restarts ≤ MAX_RESTARTS
  restarts_within = (taken_or_bounds DEFAULT_RESTARTS 0 MAX_RESTARTS s.restarts (get (codes "restarts") d) (lit≤ tt) (lit≤ tt) states.restarts).1

  cuts_within : AreCutsOf s.facts.nodes s.cuts
  cuts_within = subst (λ n. AreCutsOf n s.cuts) count (all_said (cut_of (node_count d)) (λ (c : DiskCut). (c.node < node_count d) × (c.disk < DISKS)) (λ item c e. cut_within (node_count d) (option_and_then four (as_array item)) c e) (list_under (codes "cuts") d) s.cuts states.cuts)

  acts_within : (key : List ℕ) (acts : List LinkAct) → option_and_then (all_of (link_act_of (node_count d))) (list_under key d) ≡ Some acts → AreActsOf s.facts.nodes acts
  acts_within key acts e = subst (λ n. AreActsOf n acts) count (all_said (link_act_of (node_count d)) (λ (a : LinkAct). (a.from < node_count d) × (a.to < node_count d) × (a.n ≤ MAX_COUNT) × IsShortAct a.act) (λ item a e'. link_act_within (node_count d) (option_and_then four (as_array item)) a e') (list_under key d) acts e)

  mail_within : AreActsOf s.facts.nodes s.mail
  mail_within = acts_within (codes "mail") s.mail states.mail

  acks_within : AreActsOf s.facts.nodes s.acks
  acks_within = acts_within (codes "acks") s.acks states.acks

  outlets_within : AreOutFailsOf s.facts.nodes s.outlets
  outlets_within = subst (λ n. AreOutFailsOf n s.outlets) count (all_said (out_fail_of (node_count d)) (λ (f : OutFail). (f.node < node_count d) × (f.call ≤ MAX_COUNT)) (λ item f e. out_fail_within (node_count d) (option_and_then both (as_array item)) f e) (list_under (codes "outlets") d) s.outlets states.outlets)

  pub keeps_rules : KeepsRules s
  keeps_rules = record { limits = limits_of d s states; plain = plain_run_of d s states; rounds = rounds_within; restarts = restarts_within; cuts = cuts_within; mail = mail_within; acks = acks_within; outlets = outlets_within }
