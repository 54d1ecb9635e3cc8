-- An output of at most 512 bytes is one that its fields hold.
use Rattle.std.proofs.Common.{◌≡◌, List, [], ◌∷◌, length, Bool, true, false, ◌&&◌, refl, arith}
use Rattle.std.specs.Prelude.{nat_le}
use Rattle.std.specs.List.{AllByRecursion}
use Rattle.std.proofs.lemmas.Bool.{leb-true, le-leb}
use Rattle.ken_model.specs.declared.messages.Out.{Out}
use Rattle.ken_record.specs.Grammar.{IsOut, FitsOut, are_short}

pub out_fits : (o : Out) → IsOut o → FitsOut o
out_fits o is = record { number = is.number; text = omega (arith, is.text) }

pub outs_fit : (os : List Out) → AllByRecursion IsOut os → AllByRecursion FitsOut os
outs_fit [] all = tt
outs_fit (o ∷ os) all = (out_fits o all.0, outs_fit os all.1)

-- and one that its fields hold, where the test holds, has at most 512 bytes
both : (a b : Bool) → a && b ≡ true → (a ≡ true) × (b ≡ true)
both true b e = (refl, e)
both false b e = absurd cc

pub short_outs : (os : List Out) → AllByRecursion FitsOut os → are_short os ≡ true → AllByRecursion IsOut os
short_outs [] all short = tt
short_outs (o ∷ os) all short =
    let two = both (nat_le (length o.text) 512) (are_short os) short in
    (record { number = all.0.number; text = leb-true (length o.text) 512 two.0 }, short_outs os all.1 two.1)

pub outs_short : (os : List Out) → AllByRecursion IsOut os → are_short os ≡ true
outs_short [] all = refl
outs_short (o ∷ os) all = rw (le-leb (length o.text) 512 all.0.text) (outs_short os all.1)
