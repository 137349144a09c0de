use Rattle.std.proofs.Common.{ℕ, zero, suc, ◌+◌, ◌-◌, ◌<◌, ◌≤◌, List, [], length, take, get_or, arith, sym, ◌∙◌}
use Rattle.node.specs.declared.key_before.Part.{Part}
use Rattle.node.specs.KeyParts.{key_from, place_after, AreParts}
use Rattle.node.proofs.KeyParts.{IsLast, last_part, length-last, byte-last, byte-same}
use Rattle.node.proofs.key_before.byte_at.Goals as goal

-- parts that have a byte are some
some_parts : (n : ℕ) (parts : List Part) (place : ℕ) → place < length (key_from [] (take n parts)) → 0 < n
some_parts zero parts place within = absurd (omega (arith, within))
some_parts (suc n) parts place within = omega arith

-- the last part that begins at a place or before it
record Holds (parts : List Part) (place n : ℕ) (part : Part) : Type 0 where
  is : IsLast parts n part
  begins : part.prefix ≤ place
  ends : place - part.prefix < length part.suffix.now

holds : (parts : List Part) (place n : ℕ) (d : Part) → AreParts 0 [] parts → n ≤ length parts → place + 1 ≤ length (key_from [] (take n parts)) → place_after 0 (take n parts) ≤ place + 1 → Holds parts place n (get_or parts (n - 1) d)
holds parts place n d are fits within before =
    let is = last_part parts n d are (some_parts n parts place (omega (arith, within))) fits in
    let part = get_or parts (n - 1) d in
    let long = length-last parts n part is in
    let begins : part.prefix ≤ place = omega (arith, before, is.begins) in
    record { is = is; begins = begins; ends = omega (arith, within, long, begins) }

pub overflow_sub-result : goal.overflow_sub-result
overflow_sub-result c = let e = c.count_before.ensures in (holds c.args.parts.now c.args.place c.count_before.result _ c.requires.are e.fits e.within e.before).begins

pub bounds-part-place : goal.bounds-part-place
bounds-part-place c = let e = c.count_before.ensures in (holds c.args.parts.now c.args.place c.count_before.result _ c.requires.are e.fits e.within e.before).ends

pub returns : goal.returns
returns c =
    let e = c.count_before.ensures in
    let parts = c.args.parts.now in
    let place = c.args.place in
    let n = c.count_before.result in
    let h = holds parts place n _ c.requires.are e.fits e.within e.before in
    sym (byte-last place parts n _ h.is h.begins) ∙ byte-same place (key_from [] (take n parts)) (key_from [] parts) e.same
