use Rattle.std.proofs.Common.{rules, ◌<◌, ◌^◌, arith}
use prog.Memory.{size}
use denote.Param.{layout, param}
use Rattle.store.specs.contracts.shards.Shards as shards
use Rattle.fitting.proofs.Sizes.{elem, field, field_fits}
use Rattle.store.proofs.Sizes.{begins_within}
use Rattle.store.proofs.shards.Shards.tables.Goals as goal

pub offset_bounds-1 : goal.offset_bounds-1
offset_bounds-1 g c =
    let whole = layout (shards.the_row (param 0 g.row.D) (param 1 g.row.A) g.D.Digest g.A.Allocator) in
    let fits : size (layout (shards.the_row (param 0 g.row.D) (param 1 g.row.A) g.D.Digest g.A.Allocator)) < 2 ^ 63 = search rules in
    begins_within 1 (size (elem (field whole 0))) (omega arith) (field_fits whole 0 fits)

pub offset_bounds-2 : goal.offset_bounds-2
offset_bounds-2 g c =
    let whole = layout (shards.the_row (param 0 g.row.D) (param 1 g.row.A) g.D.Digest g.A.Allocator) in
    let fits : size (layout (shards.the_row (param 0 g.row.D) (param 1 g.row.A) g.D.Digest g.A.Allocator)) < 2 ^ 63 = search rules in
    begins_within 2 (size (elem (field whole 0))) (omega arith) (field_fits whole 0 fits)

pub offset_bounds-3 : goal.offset_bounds-3
offset_bounds-3 g c =
    let whole = layout (shards.the_row (param 0 g.row.D) (param 1 g.row.A) g.D.Digest g.A.Allocator) in
    let fits : size (layout (shards.the_row (param 0 g.row.D) (param 1 g.row.A) g.D.Digest g.A.Allocator)) < 2 ^ 63 = search rules in
    begins_within 3 (size (elem (field whole 0))) (omega arith) (field_fits whole 0 fits)

pub offset_bounds-4 : goal.offset_bounds-4
offset_bounds-4 g c =
    let whole = layout (shards.the_row (param 0 g.row.D) (param 1 g.row.A) g.D.Digest g.A.Allocator) in
    let fits : size (layout (shards.the_row (param 0 g.row.D) (param 1 g.row.A) g.D.Digest g.A.Allocator)) < 2 ^ 63 = search rules in
    begins_within 4 (size (elem (field whole 0))) (omega arith) (field_fits whole 0 fits)

pub offset_bounds-5 : goal.offset_bounds-5
offset_bounds-5 g c =
    let whole = layout (shards.the_row (param 0 g.row.D) (param 1 g.row.A) g.D.Digest g.A.Allocator) in
    let fits : size (layout (shards.the_row (param 0 g.row.D) (param 1 g.row.A) g.D.Digest g.A.Allocator)) < 2 ^ 63 = search rules in
    begins_within 5 (size (elem (field whole 0))) (omega arith) (field_fits whole 0 fits)

pub offset_bounds-6 : goal.offset_bounds-6
offset_bounds-6 g c =
    let whole = layout (shards.the_row (param 0 g.row.D) (param 1 g.row.A) g.D.Digest g.A.Allocator) in
    let fits : size (layout (shards.the_row (param 0 g.row.D) (param 1 g.row.A) g.D.Digest g.A.Allocator)) < 2 ^ 63 = search rules in
    begins_within 6 (size (elem (field whole 0))) (omega arith) (field_fits whole 0 fits)

pub offset_bounds-7 : goal.offset_bounds-7
offset_bounds-7 g c =
    let whole = layout (shards.the_row (param 0 g.row.D) (param 1 g.row.A) g.D.Digest g.A.Allocator) in
    let fits : size (layout (shards.the_row (param 0 g.row.D) (param 1 g.row.A) g.D.Digest g.A.Allocator)) < 2 ^ 63 = search rules in
    begins_within 7 (size (elem (field whole 0))) (omega arith) (field_fits whole 0 fits)

pub offset_bounds-8 : goal.offset_bounds-8
offset_bounds-8 g c =
    let whole = layout (shards.the_row (param 0 g.row.D) (param 1 g.row.A) g.D.Digest g.A.Allocator) in
    let fits : size (layout (shards.the_row (param 0 g.row.D) (param 1 g.row.A) g.D.Digest g.A.Allocator)) < 2 ^ 63 = search rules in
    begins_within 8 (size (elem (field whole 0))) (omega arith) (field_fits whole 0 fits)

pub offset_bounds-9 : goal.offset_bounds-9
offset_bounds-9 g c =
    let whole = layout (shards.the_row (param 0 g.row.D) (param 1 g.row.A) g.D.Digest g.A.Allocator) in
    let fits : size (layout (shards.the_row (param 0 g.row.D) (param 1 g.row.A) g.D.Digest g.A.Allocator)) < 2 ^ 63 = search rules in
    begins_within 9 (size (elem (field whole 0))) (omega arith) (field_fits whole 0 fits)

pub offset_bounds-10 : goal.offset_bounds-10
offset_bounds-10 g c =
    let whole = layout (shards.the_row (param 0 g.row.D) (param 1 g.row.A) g.D.Digest g.A.Allocator) in
    let fits : size (layout (shards.the_row (param 0 g.row.D) (param 1 g.row.A) g.D.Digest g.A.Allocator)) < 2 ^ 63 = search rules in
    begins_within 10 (size (elem (field whole 0))) (omega arith) (field_fits whole 0 fits)

pub offset_bounds-11 : goal.offset_bounds-11
offset_bounds-11 g c =
    let whole = layout (shards.the_row (param 0 g.row.D) (param 1 g.row.A) g.D.Digest g.A.Allocator) in
    let fits : size (layout (shards.the_row (param 0 g.row.D) (param 1 g.row.A) g.D.Digest g.A.Allocator)) < 2 ^ 63 = search rules in
    begins_within 11 (size (elem (field whole 0))) (omega arith) (field_fits whole 0 fits)

pub offset_bounds-12 : goal.offset_bounds-12
offset_bounds-12 g c =
    let whole = layout (shards.the_row (param 0 g.row.D) (param 1 g.row.A) g.D.Digest g.A.Allocator) in
    let fits : size (layout (shards.the_row (param 0 g.row.D) (param 1 g.row.A) g.D.Digest g.A.Allocator)) < 2 ^ 63 = search rules in
    begins_within 12 (size (elem (field whole 0))) (omega arith) (field_fits whole 0 fits)

pub offset_bounds-13 : goal.offset_bounds-13
offset_bounds-13 g c =
    let whole = layout (shards.the_row (param 0 g.row.D) (param 1 g.row.A) g.D.Digest g.A.Allocator) in
    let fits : size (layout (shards.the_row (param 0 g.row.D) (param 1 g.row.A) g.D.Digest g.A.Allocator)) < 2 ^ 63 = search rules in
    begins_within 13 (size (elem (field whole 0))) (omega arith) (field_fits whole 0 fits)

pub offset_bounds-14 : goal.offset_bounds-14
offset_bounds-14 g c =
    let whole = layout (shards.the_row (param 0 g.row.D) (param 1 g.row.A) g.D.Digest g.A.Allocator) in
    let fits : size (layout (shards.the_row (param 0 g.row.D) (param 1 g.row.A) g.D.Digest g.A.Allocator)) < 2 ^ 63 = search rules in
    begins_within 14 (size (elem (field whole 0))) (omega arith) (field_fits whole 0 fits)

pub offset_bounds-15 : goal.offset_bounds-15
offset_bounds-15 g c =
    let whole = layout (shards.the_row (param 0 g.row.D) (param 1 g.row.A) g.D.Digest g.A.Allocator) in
    let fits : size (layout (shards.the_row (param 0 g.row.D) (param 1 g.row.A) g.D.Digest g.A.Allocator)) < 2 ^ 63 = search rules in
    begins_within 15 (size (elem (field whole 0))) (omega arith) (field_fits whole 0 fits)
