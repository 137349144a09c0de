use Rattle.std.proofs.Common.{rules, ◌<◌, ◌^◌, vec_len, subst, sym}
use prog.Memory.{size}
use denote.Param.{layout, param, number}
use Rattle.closing.specs.contracts.repositories.Repositories as repositories
use Rattle.closing.proofs.Numbers.{some_left}
use Rattle.fitting.proofs.Sizes.{field_fits}
use Rattle.closing.proofs.repositories.Repositories.drop.Goals as goal

pub element-requires : goal.element-requires
element-requires g c =
    subst (λ n. 0 < n) (sym c.deref.ensures.len) (some_left (vec_len c.args.self.cores) c.is_empty.result c.is_empty.ensures c.if-is_empty.false)

pub end_all-requires : goal.end_all-requires
end_all-requires g c =
    let whole = layout (repositories.the_row (param 0 g.row.D) (number g.row.B) (param 2 g.row.A) g.D.Digest g.A.Allocator) in
    let fits : size (layout (repositories.the_row (param 0 g.row.D) (number g.row.B) (param 2 g.row.A) g.D.Digest g.A.Allocator)) < 2 ^ 63 = search rules in
    (c.element.ensures.fits, field_fits whole 1 fits)
