-- What is known of a result's two cases.
use Rattle.std.specs.Prelude.{Result, Ok, Err, IfOk, IfErr, OnOk}

pub on_ok : {T E P : Type 0} (r : Result T E) → P → OnOk r P
on_ok (Ok x) p = p
on_ok (Err e) p = tt

pub if-ok : {T E : Type 0} {P Q : T → Type 0} (r : Result T E) → ((x : T) → P x → Q x) → IfOk r P → IfOk r Q
if-ok (Ok x) h p = h x p
if-ok (Err e) h p = tt

pub if-ok-two : {T E : Type 0} {P Q R : T → Type 0} (r : Result T E) → ((x : T) → P x → Q x → R x) → IfOk r P → IfOk r Q
    → IfOk r R
if-ok-two (Ok x) h p q = h x p q
if-ok-two (Err e) h p q = tt

pub if-err : {T E : Type 0} {P Q : E → Type 0} (r : Result T E) → ((e : E) → P e → Q e) → IfErr r P → IfErr r Q
if-err (Ok x) h p = tt
if-err (Err e) h p = h e p
