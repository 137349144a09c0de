use Rattle.std.proofs.Common.{rules, ◌<◌, ◌^◌}
use prog.Memory.{size}
use denote.Param.{layout, param, number}
use Rattle.host.specs.contracts.host.Host as host
use Rattle.host.proofs.host.Host.drop.Goals as goal

pub into_parts-cores-requires : goal.into_parts-cores-requires
into_parts-cores-requires g c =
    let fits : size (layout (host.the_row (param 0 g.row.D) (number g.row.B) (param 2 g.row.A) g.D.Digest g.A.Allocator g.A.Clone)) < 2 ^ 63 = search rules in
    (fits, (c.fits_in_memory.ensures.core, c.fits_in_memory.ensures.tables))

pub end_all-requires : goal.end_all-requires
end_all-requires g c = (c.fits_in_memory.ensures.core, c.fits_in_memory.ensures.tables)
