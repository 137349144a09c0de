-- Readings and their faults.
use Rattle.std.proofs.Common.{◌≡◌, Option, Result, Err, sym, subst, ◌∙◌}
use Rattle.std.specs.declared.option.Option.TheVariants.{Some, None}
use Rattle.spec.specs.Reading.{Fails, Gives}

pub Fails-same : {Y F : Type 0} (o : Option F) (one other : Result Y F) → one ≡ other → Fails o other → Fails o one
Fails-same None one other e fails = tt
Fails-same (Some f) one other e fails = e ∙ fails

pub Gives-at_err : {X Y E F : Type 0} (view : X → Y) (fault : E → Option F) (e : E) (r : Result X E) (read : Result Y F) → r ≡ Err e
    → Fails (fault e) read → Gives view fault r read
Gives-at_err view fault e r read is h = subst (λ x. Gives view fault x read) (sym is) h
