use Rattle.std.proofs.Common.{refl, sym, ◌∙◌}
use Rattle.rows.proofs.ReadingOn.{reader-run, reader-last}
use Rattle.rows.proofs.entries.KeyedEntries.run_to.Goals as goal

pub returns-then-pairs-passed : goal.returns-then-pairs-passed
returns-then-pairs-passed g c =
    let r = c.self.inside in
    reader-run r.gap r.last r.start r.gap r.key c.args.self.now c.args.pairs c.self.invariant c.self.view_is refl
    (sym (c.if-pairs-passed.true ∙ c.passed.ensures.passed)) c.requires.within

pub returns : goal.returns
returns g c =
    let r = c.self.inside in
    reader-run r.gap r.last r.start r.last r.key c.args.self.now c.args.pairs c.self.invariant c.self.view_is
    c.self.invariant.last_node
    (reader-last r.gap r.last r.start r.key c.args.self.now c.args.pairs c.passed.result c.self.invariant c.self.view_is
    c.passed.ensures.passed c.if-pairs-passed.false c.requires.within c.requires.near) c.requires.within
