use Rattle.std.proofs.Common.{◌≡◌, ◌++◌, ◌∷◌, [], map, take, sym, ap, ◌∙◌, arith, get_or}
use Rattle.std.proofs.lemmas.List.{take_more, map-append}
use Rattle.std.specs.Arc.{arc_value}
use Rattle.std.specs.declared.sync.Arc.{Arc}
use Rattle.spec.specs.Writes as writes
use Rattle.batches.specs.Write.{Write}
use Rattle.batches.specs.Values.{write_of}
use Rattle.host.proofs.version.shared.Goals as goal

abbrev f : {A : Type 0} → Arc (Write A) A → writes.Write
f w = write_of (arc_value w)

pub loop-write-preserved : goal.loop-write-preserved
loop-write-preserved g c =
    let i = c.loop-write.invariant in
    let p = c.push_reserved.ensures in
    let xs = c.args.accepted.now in
    let k = c.loop-write.write-index in
    let x = c.write-item.result in
    let more = take_more xs k x (omega arith) in
    let same : f c.in_ok-write.write ≡ f (get_or xs k x) = ap write_of (c.in_ok-write.ensures ∙ ap arc_value c.write-item.is) in record {
      copied = ap (map f) p.items ∙ map-append f c.loop-write.writes.items (c.in_ok-write.write ∷ []) ∙ (λ j. i.copied j ++ same j ∷ []) ∙ sym (map-append f (take k xs) (get_or xs k x ∷ [])) ∙ sym (ap (map f) more);
      len = omega (arith, p.len, i.len);
      room = omega (arith, p.capacity, i.room);
    }
