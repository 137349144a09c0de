use Rattle.std.proofs.Common.{rules, refl, ◌<◌, ◌^◌}
use prog.Memory.{size}
use denote.Param.{layout, param, number}
use Rattle.host.specs.contracts.host.Opened as opened
use Rattle.store.specs.contracts.shards.Shards as shards
use Rattle.fitting.proofs.Sizes.{field, field_fits}
use Rattle.host.proofs.host.Host.with_limits.Goals as goal

pub open-requires : goal.open-requires
open-requires g c =
    let whole = layout (opened.the_row (param 0 g.row.D) (number g.row.B) (param 2 g.row.A) g.D.Digest g.A.Allocator g.A.Clone) in
    let fits : size (layout (opened.the_row (param 0 g.row.D) (number g.row.B) (param 2 g.row.A) g.D.Digest g.A.Allocator g.A.Clone)) < 2 ^ 63 = search rules in
    field_fits (field whole 0) 5 (field_fits whole 0 fits)

pub open_all-requires : goal.open_all-requires
open_all-requires g c =
    let lawful = c.requires.lawful in (
      c.if-not-fits_in_memory.ensures refl,
      (
        c.if-not-fits_in_memory-3.ensures refl,
        (
          c.if-not-fits_in_memory-2.ensures refl,
          (c.requires.least_bits, (c.requires.most_bits, (lawful.repos.1, (lawful.repo_writes.0, lawful.repo_writes.1)))),
        ),
      ),
    )

pub array_drop-shards-requires : goal.array_drop-shards-requires
array_drop-shards-requires g c =
    field_fits (layout (shards.the_row (param 0 g.row.D) (param 2 g.row.A) g.D.Digest g.A.Allocator)) 0 (c.if-not-fits_in_memory.ensures refl)
