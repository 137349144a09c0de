use Rattle.std.proofs.Common.{sym, ap, ◌∙◌, Some, None}
use Rattle.std.specs.Prelude.{Option}
use Rattle.std.specs.Ordering.{nat_cmp}
use Rattle.std.specs.FinSet as set
use Rattle.std.specs.HashMap.{hasher_of}
use Rattle.store.specs.Places.{held_in, held_of}
use Rattle.store.specs.Table.{Held, Table, cores_of, cores_at}
use Rattle.store.proofs.Places.{held_found}
use Rattle.store.proofs.Tables.{entry_view}
use Rattle.store.proofs.shard.Shard.has.Goals as goal

pub returns : goal.returns
returns g c =
    let es = c.self.inside.table.entries in
    let slots = c.self.inside.sets.slots in
    let entry = c.in-Some.entry.now in
    c.has.ensures ∙ ap (λ s. set.contains s c.args.core) c.cores.ensures
    ∙ ap (λ (o : Option Held). set.contains (cores_of o) c.args.core)
    (sym (entry_view (held_in slots es) c.self.inside.limit (hasher_of c.self.inside.table) c.args.cid.now (Some (held_of slots entry)) (held_found slots es c.args.cid.now (Some entry) (sym c.in-Some.ensures.value))))
    ∙ ap (λ (t : Table). set.contains (cores_at t c.args.cid.now) c.args.core) c.self.view_is

pub returns-in_default : goal.returns-in_default
returns-in_default g c =
    let es = c.self.inside.table.entries in
    let slots = c.self.inside.sets.slots in
    sym (set.contains-empty nat_cmp c.args.core)
    ∙ ap (λ (o : Option Held). set.contains (cores_of o) c.args.core)
    (sym (entry_view (held_in slots es) c.self.inside.limit (hasher_of c.self.inside.table) c.args.cid.now None (held_found slots es c.args.cid.now None (sym c.in_default.ensures.value))))
    ∙ ap (λ (t : Table). set.contains (cores_at t c.args.cid.now) c.args.core) c.self.view_is
