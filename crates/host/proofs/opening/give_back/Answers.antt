use Rattle.std.proofs.Common.{rules, ◌<◌, ◌^◌}
use prog.Memory.{size}
use denote.Param.{layout, param, number}
use Rattle.repo.specs.contracts.repository.Repository as repository
use Rattle.fitting.proofs.Sizes.{field, field_fits}
use Rattle.host.proofs.opening.give_back.Goals as goal

pub end-requires : goal.end-requires
end-requires g c =
    let whole = layout (repository.the_row (param 0 g.row.D) (number g.row.B) (param 2 g.row.A) g.D.Digest g.A.Allocator) in
    let fits : size (layout (repository.the_row (param 0 g.row.D) (number g.row.B) (param 2 g.row.A) g.D.Digest g.A.Allocator)) < 2 ^ 63 = search rules in
    let lock = field_fits whole 0 fits in
    let slots = field_fits (field whole 0) 2 lock in
    let cell = field_fits (field (field whole 0) 2) 1 slots in
    field_fits (field (field (field whole 0) 2) 1) 0 cell
