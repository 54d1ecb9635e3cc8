-- The devices of a node that a world gives at the start: its disks are fresh, and its links modest.
use Rattle.std.proofs.Common.{◌≡◌, ℕ, ◌<◌, ◌≤◌, List, [], ◌∷◌, length, Bool, true, false, Option, Some, None, refl, sym, ap, subst, ◌∙◌, arith, zero, suc, ◌-◌, ◌^◌, slice_index_or, nat_lt}
use Rattle.std.proofs.lemmas.Option.{same_Some}
use Rattle.ken_disk.specs.Fates.{Fate}
use Rattle.ken_store.specs.declared.disks.Disks.{Disks}
use Rattle.ken_run.specs.Accounts.{IsOwnDisk}
use Rattle.ken_run.specs.Creating.{IsFresh}
use Rattle.ken_drive.specs.Starting.{cuts_for, terms_of, AreModestOf}
use Rattle.ken_drive.specs.Worlds.{IsFatedDisk}
use Rattle.ken_memdisk.specs.declared.cut.Cut.{Cut}
use Rattle.ken_memdisk.specs.Calls.{origin_of}
use Rattle.ken_script.specs.declared.scripts.Script.{Script}
use Rattle.std.proofs.lemmas.Bool.{ltb-true, ltb-false}
use Rattle.ken_net.specs.declared.act.LinkAct.{LinkAct}
use Rattle.ken_net.specs.History.{AreNew}
use Rattle.ken_net.specs.Standings.{Leaving, link_to, no_link}
use Rattle.ken_flow.specs.Standstill.{AreModestActs}
use Rattle.ken_run.specs.Ends.{AreModest}

-- ---- fresh disks

-- what a fated disk tells
fated-up : (scripted : Bool) (node which : ℕ) (cuts : List Cut) (fate : Option Fate) (f : Fate) → IsFatedDisk scripted node which cuts fate → fate ≡ Some f → (f.down ≡ false) × (f.falls ≤ length cuts)
fated-up scripted node which cuts (Some x) f fated is = subst (λ (y : Fate). (y.down ≡ false) × (y.falls ≤ length cuts)) (same_Some x f is) (fated.up, fated.few)
fated-up scripted node which cuts None f fated is = absurd (cc)

-- and in a scripted world it tells
fated-tells : (scripted : Bool) (node which : ℕ) (cuts : List Cut) (fate : Option Fate) → scripted ≡ true → IsFatedDisk scripted node which cuts fate → (f : Fate) × (fate ≡ Some f)
fated-tells scripted node which cuts (Some f) tells fated = (f, refl)
fated-tells true node which cuts None tells fated = absurd fated
fated-tells false node which cuts None tells fated = absurd (cc)

-- whose it is
fated-own : (scripted : Bool) (node which : ℕ) (cuts : List Cut) (fate : Option Fate) → IsFatedDisk scripted node which cuts fate → IsOwnDisk scripted (origin_of node which cuts) 0 fate
fated-own scripted node which cuts (Some f) fated = (fated.origin, ap (λ (picks : List ℕ). length picks) fated.never)
fated-own true node which cuts None fated = fated
fated-own false node which cuts None fated = tt

pub are-fresh : {D : Type 0} (count : D → ℕ) (fate : D → Option Fate) (scripted : Bool) (script : Script) (v : ℕ) (disks : Disks D) → (count disks.log ≡ 0) × (count disks.image ≡ 0) × (count disks.second ≡ 0)
    → IsFatedDisk scripted v 0 (cuts_for v 0 script.cuts) (fate disks.log) → IsFatedDisk scripted v 1 (cuts_for v 1 script.cuts) (fate disks.image) → IsFatedDisk scripted v 2 (cuts_for v 2 script.cuts) (fate disks.second)
    → IsFresh count fate (terms_of scripted script) v disks
are-fresh count fate scripted script v disks none log image second = record {
  none = let l = none.0 in let i = none.1 in let s = none.2 in omega (arith, l, i, s);
  fated = record {
    falls = λ l i s lis iis sis.
        let ll = fated-up scripted v 0 (cuts_for v 0 script.cuts) (fate disks.log) l log lis in
        let ii = fated-up scripted v 1 (cuts_for v 1 script.cuts) (fate disks.image) i image iis in
        let ss = fated-up scripted v 2 (cuts_for v 2 script.cuts) (fate disks.second) s second sis in
        let few-l = ll.1 in
        let few-i = ii.1 in
        let few-s = ss.1 in
        (ll.0, ii.0, ss.0, omega (arith, few-l, few-i, few-s));
    tell = λ tells.
        let l = fated-tells scripted v 0 (cuts_for v 0 script.cuts) (fate disks.log) tells log in
        let i = fated-tells scripted v 1 (cuts_for v 1 script.cuts) (fate disks.image) tells image in
        let s = fated-tells scripted v 2 (cuts_for v 2 script.cuts) (fate disks.second) tells second in
        record { log = l.0; image = i.0; second = s.0; log_is = l.1; image_is = i.1; second_is = s.1 };
  };
  own = record {
    log = fated-own scripted v 0 (cuts_for v 0 script.cuts) (fate disks.log) log;
    image = fated-own scripted v 1 (cuts_for v 1 script.cuts) (fate disks.image) image;
    second = fated-own scripted v 2 (cuts_for v 2 script.cuts) (fate disks.second) second;
  };
}

-- ---- links

-- acts of links are modest, where those are of which they were made
past : {X : Type 0} (xs : List X) (v : ℕ) (d : X) → length xs ≤ v → slice_index_or xs v d ≡ d
past [] v d high = refl
past (x ∷ xs) zero d high = absurd (omega (arith, high))
past (x ∷ xs) (suc v) d high = past xs v d (omega (arith, high))

none-modest : AreModestActs no_link
none-modest = record { none_last = refl; holds = λ n k is. absurd (cc) }

pub new-modest : (v nodes : ℕ) (acts : List LinkAct) (links : Leaving) → AreNew v nodes acts links → AreModestOf acts → AreModest links
new-modest v nodes acts links new modest w = by (nat_lt w nodes) refl
  where
    by : (b : Bool) → nat_lt w nodes ≡ b → AreModestActs (link_to w links.links)
    by true is =
        let low : w < nodes = ltb-true w nodes is in
        record { none_last = new.acts_are w (2 ^ 64 - 1) low ∙ modest.none_last v w; holds = λ n k held. modest.holds v w n k (sym (new.acts_are w n low) ∙ held) }
    by false is =
        let high = ltb-false w nodes is in
        let count = new.count in
        subst AreModestActs (sym (past links.links w no_link (omega (arith, high, count)))) none-modest
