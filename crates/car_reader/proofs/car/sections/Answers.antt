use Rattle.std.proofs.Common.{◌≡◌, ◌+◌, ◌<◌, [], ◌∷◌, ◌++◌, length, Err, ap, ◌∙◌, arith, rules}
use Rattle.std.proofs.lemmas.Grind.{common_steps}
use Rattle.std.proofs.lemmas.List.{length-append}
use Rattle.std.proofs.lemmas.Result.{err_from_is_err_and}
use Rattle.car_reader.specs.Views.{car_fault_of}
use Rattle.car_reader.proofs.Sections.{Gives-at_err, reads-next, reads-stop}
use Rattle.car_reader.proofs.car.sections.Goals as goal

pub returns-in_err-next : goal.returns-in_err-next
returns-in_err-next g c =
    let p = err_from_is_err_and c.from_residual.result c.from_residual.ensures.1 in
    let e = c.in_err-next.field-0.0 in
    let some : 0 < length c.sections.rest.now = first_of (omega arith, search rules, grind (arith, common_steps)) in
    Gives-at_err _ car_fault_of e c.from_residual.result _ (p.1 ∙ ap Err p.2)
    (reads-stop c.args.bytes.now c.sections.rest.now c.sections.found.items (car_fault_of e) c.sections.invariant.room some c.in_err-next.ensures.read c.sections.invariant.read)

pub sections-preserved : goal.sections-preserved
sections-preserved g c =
    let some : 0 < length c.sections.rest.now = first_of (omega arith, search rules, grind (arith, common_steps)) in
    let shorter : length c.in_ok-next.after.now < length c.sections.rest.now = c.in_ok-next.ensures.shorter in
    let more : c.push.new.self.items ≡ c.sections.found.items ++ c.in_ok-next.next ∷ [] = c.in_ok-push.ensures.items in
    let count : length c.push.new.self.items ≡ length c.sections.found.items + 1
    = ap length more ∙ length-append c.sections.found.items (c.in_ok-next.next ∷ []) in
    let room = c.sections.invariant.room in
    record {
      room = omega (arith, shorter, count, room);
      read = reads-next c.args.bytes.now c.sections.rest.now c.in_ok-next.after.now c.sections.found.items c.push.new.self.items c.in_ok-next.next
          room some c.in_ok-next.ensures.read more c.sections.invariant.read;
    }
