-- What a call tells that may run out of memory.
use Rattle.std.proofs.Common.{Result, Ok, Err, IfOk, Bool, Option, Some, None, IfSome}
use Rattle.std.specs.Option.{IfNone}
use Rattle.std.specs.Result.{OnErr}

pub on_err : {T E : Type 0} → (P : Type 0) (r : Result T E) → P → OnErr r P
on_err P (Ok x) h = tt
on_err P (Err e) h = h

pub ok_then : {E : Type 0} → (P Q : Bool → Type 0) (r : Result Bool E) → ((b : Bool) → P b → Q b) → IfOk r P → IfOk r Q
ok_then P Q (Ok b) f h = f b h
ok_then P Q (Err e) f h = tt

pub ok_then3 : {E : Type 0} → (P Q R S : Bool → Type 0) (r : Result Bool E) → ((b : Bool) → P b → Q b → R b → S b) → IfOk r P → IfOk r Q → IfOk r R → IfOk r S
ok_then3 P Q R S (Ok b) f h j k = f b h j k
ok_then3 P Q R S (Err e) f h j k = tt

pub err_then : {E : Type 0} → (P Q : Type 0) (r : Result Bool E) → (P → Q) → OnErr r P → OnErr r Q
err_then P Q (Ok b) f h = tt
err_then P Q (Err e) f h = f h

pub either : {E : Type 0} → (P : Type 0) (r : Result Bool E) → IfOk r (λ b. P) → OnErr r P → P
either P (Ok b) h j = h
either P (Err e) h j = j

pub some_then : {T E : Type 0} → (r : Result (Option T) E) (P Q : T → Type 0) → ((x : T) → P x → Q x) → IfOk r (λ o. IfSome o P) → IfOk r (λ o. IfSome o Q)
some_then (Ok (Some x)) P Q f h = f x h
some_then (Ok None) P Q f h = tt
some_then (Err e) P Q f h = tt

pub none_then : {T E : Type 0} → (r : Result (Option T) E) (P Q : Type 0) → (P → Q) → IfOk r (λ o. IfNone o P) → IfOk r (λ o. IfNone o Q)
none_then (Ok (Some x)) P Q f h = tt
none_then (Ok None) P Q f h = f h
none_then (Err e) P Q f h = tt

pub then_so : {T E : Type 0} → (P Q : T → Type 0) (r : Result T E) → ((x : T) → P x → Q x) → IfOk r P → IfOk r Q
then_so P Q (Ok x) f h = f x h
then_so P Q (Err e) f h = tt
