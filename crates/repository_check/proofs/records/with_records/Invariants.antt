use Rattle.std.proofs.Common.{◌≡◌, ◌++◌, length, map}
use Rattle.spec.specs.Exports.{keyed}
use Rattle.repository_check.specs.Views.{keyed_record, lent, pair_of, pairs_of}
use Rattle.repository_check.proofs.records.with_records.Given as goal

-- what was made and what is left are all
abbrev pub invariant-loop-key : goal.invariant-loop-key
invariant-loop-key g l =
    record {
      keyed_all : map keyed_record l.all.items ++ keyed (pairs_of l.key-iterator.a.rest.items) (lent l.key-iterator.b.rest.items)
          ≡ keyed (pairs_of l.fn.pairs.items) (lent l.fn.records.items);
      pairs_all : map pair_of l.all.items ++ pairs_of l.key-iterator.a.rest.items ≡ pairs_of l.fn.pairs.items;
      same : length l.key-iterator.a.rest.items ≡ length l.key-iterator.b.rest.items;
    }
