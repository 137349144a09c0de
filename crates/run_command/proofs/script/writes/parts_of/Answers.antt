use Rattle.std.proofs.Common.{◌≡◌, Bool, List, rules, tests, map}
use Rattle.std.specs.Prelude.{Result, Ok, Err, IfOk, Vec}
use Rattle.std.specs.List.{slice_split}
use Rattle.std.proofs.lemmas.Iterator.Consumers.{map_from_collect}
use Rattle.std.proofs.lemmas.Iterator.Splits.{YieldsList-from_slice_split}
use Rattle.run_command.specs.Script.{is_mark}
use Rattle.run_command.proofs.Mapped.{seen_split}
use Rattle.run_command.proofs.script.writes.parts_of.Goals as goal

-- where a list was made of the parts, they are those of the tokens as they are seen
at_ok : {A B C E Z : Type 0} (p : B → Bool) (f : A → B) (h : C → List A) (xs : List A) (r : Result (Vec C Z) E) → IfOk r (λ w. map h w.items ≡ slice_split (λ x. p (f x)) xs) → IfOk r (λ w. map (λ g. map f (h g)) w.items ≡ slice_split p (map f xs))
at_ok p f h xs (Ok w) e = seen_split p f h xs w.items e
at_ok p f h xs (Err e) h2 = h2

pub returns : goal.returns
returns c =
    at_ok is_mark (λ t. t.now) (λ g. g.now) c.args.tokens.now c.collect.result
    (map_from_collect _ c.collect.ensures.ran (YieldsList-from_slice_split _ (λ t. is_mark t.now) c.args.tokens.now c.split.ensures.rest c.split.ensures.done c.split.ensures.closure (λ x b q k. search (rules, tests))))
