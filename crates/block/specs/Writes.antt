-- Writes as the definitions see them.
use Rattle.std.specs.Prelude.{List, map}
use Rattle.std.specs.Arc.{arc_value}
use Rattle.std.specs.declared.sync.Arc.{Arc}
use Rattle.spec.specs.Writes as writes
use Rattle.block.specs.declared.write.Write.{Write}
use Rattle.block.specs.declared.write.Write.TheVariants.{Put, Create, Update, Delete}

abbrev pub write_of : {A : Type 0} → Write A → writes.Write
write_of (Put k r) = writes.Put k.items r.items
write_of (Create k r) = writes.Create k.items r.items
write_of (Update k r) = writes.Update k.items r.items
write_of (Delete k) = writes.Delete k.items

abbrev pub writes_of : {A : Type 0} → List (Write A) → List writes.Write
writes_of ws = map write_of ws

-- writes that are shared
abbrev pub shared_writes : {A : Type 0} → List (Arc (Write A) A) → List writes.Write
shared_writes ws = map (λ w. write_of (arc_value w)) ws
