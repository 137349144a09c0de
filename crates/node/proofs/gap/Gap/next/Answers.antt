use Rattle.std.proofs.Common.{◌<◌, length, sym, ap, ◌∙◌, arith}
use Rattle.node.specs.Gaps.{GapIn, rows_behind}
use Rattle.node.specs.Views.{row_of}
use Rattle.node.proofs.Gaps.{row-there, steps}
use Rattle.node.proofs.gap.Gap.next.Goals as goal

pub tested_entry-requires : goal.tested_entry-requires
tested_entry-requires c =
    let s = c.self.inside in
    let within = c.self.invariant.within in
    let more : s.passed < length s.node.entries = omega (arith, within, c.entry_count.ensures, c.if-self-entry_count.false) in
    row-there s.node s.passed s.rest.now c.bytes.ensures.grammar c.self.invariant.rest_is more

pub invariant_of-self : goal.invariant_of-self
invariant_of-self c =
    let s = c.self.inside in
    let within = c.self.invariant.within in
    let more : s.passed < length s.node.entries = omega (arith, within, c.entry_count.ensures, c.if-self-entry_count.false) in
    (steps s.node s.passed _ s.rest.now (row_of c.tested_entry.result.0, c.tested_entry.result.1.now) c.bytes.ensures.grammar
    c.self.invariant more c.tested_entry.ensures).gap

pub returns-clause-entry : goal.returns-clause-entry
returns-clause-entry c =
    let s = c.self.inside in
    let within = c.self.invariant.within in
    let more : s.passed < length s.node.entries = omega (arith, within, c.entry_count.ensures, c.if-self-entry_count.false) in
    sym (ap (λ (g : GapIn). rows_behind g.passed g.node) c.self.view_is)
    ∙ (steps s.node s.passed _ s.rest.now (row_of c.tested_entry.result.0, c.tested_entry.result.1.now) c.bytes.ensures.grammar
    c.self.invariant more c.tested_entry.ensures).rows_is
