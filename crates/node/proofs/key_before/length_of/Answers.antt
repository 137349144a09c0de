use Rattle.std.proofs.Common.{◌≡◌, ◌+◌, ◌-◌, ◌<◌, List, [], length, get_or, arith, sym, ap, subst, ◌∙◌}
use Rattle.std.proofs.Math.Seq.{take-length}
use Rattle.std.proofs.lemmas.Option.{get_or_from_slice_get, slice_get_within}
use Rattle.node.specs.declared.key_before.Part.{Part}
use Rattle.node.specs.KeyParts.{key_from, AreParts}
use Rattle.node.proofs.KeyParts.{IsLast, last_part, length-last}
use Rattle.node.proofs.key_before.length_of.Goals as goal

-- the key's length, by the last part
by_last : (parts : List Part) (part : Part) → AreParts 0 [] parts → length parts - 1 < length parts → get_or parts (length parts - 1) part ≡ part → length (key_from [] parts) ≡ part.prefix + length part.suffix.now
by_last parts part are some e =
    let n = length parts in
    let is : IsLast parts n part = subst (IsLast parts n) e (last_part parts n part are (omega arith) (omega arith)) in
    sym (ap (λ (ps : List Part). length (key_from [] ps)) (take-length parts)) ∙ length-last parts n part is

pub overflow_add-result : goal.overflow_add-result
overflow_add-result c =
    let parts = c.args.parts.now in
    let part = c.in-Some.part.now in
    omega (arith, by_last parts part c.requires.are (slice_get_within parts _ part (sym c.in-Some.ensures.value)) (get_or_from_slice_get parts _ part part (sym c.in-Some.ensures.value)), c.requires.short)

pub returns-in-Some : goal.returns-in-Some
returns-in-Some c =
    let parts = c.args.parts.now in
    let part = c.in-Some.part.now in
    sym (by_last parts part c.requires.are (slice_get_within parts _ part (sym c.in-Some.ensures.value)) (get_or_from_slice_get parts _ part part (sym c.in-Some.ensures.value)))
