use Rattle.std.proofs.Common.{◌≡◌, ℕ, ◌-◌, ◌∷◌, [], arith, sym, ap, ◌∙◌, rules}
use Rattle.node.specs.Rows.{rows_shown, row_at}
use Rattle.node.specs.Views.{row_of}
use Rattle.node.proofs.ReadAgain.{read-ok}
use Rattle.node.proofs.RowLaws.{first_row, first_row-read, rows_shown-none}
use Rattle.node.proofs.entries.EntriesIterator.next.Goals as goal

pub returns-then-self-eq0-clause-steps : goal.returns-then-self-eq0-clause-steps
returns-then-self-eq0-clause-steps c =
    let s = c.self.inside in
    let none : c.args.self.now ≡ [] = sym c.self.view_is ∙ ap (λ (n : ℕ). rows_shown n s.bytes.now) c.if-self-eq0.true ∙ rows_shown-none s.bytes.now in
    (none, none)

pub tested_entry-requires : goal.tested_entry-requires
tested_entry-requires c =
    let s = c.self.inside in
    let f = first_row s.left s.bytes.now (omega (arith, c.if-self-eq0.false)) c.self.invariant in
    read-ok (row_at s.bytes.now) f.0 f.1.read

pub invariant_of-self : goal.invariant_of-self
invariant_of-self c =
    let s = c.self.inside in
    (first_row-read s.left s.bytes.now (row_of c.tested_entry.result.0, c.tested_entry.result.1.now) (omega (arith, c.if-self-eq0.false)) c.self.invariant c.tested_entry.ensures).more

pub returns-clause-steps : goal.returns-clause-steps
returns-clause-steps c =
    let s = c.self.inside in
    sym c.self.view_is ∙ (first_row-read s.left s.bytes.now (row_of c.tested_entry.result.0, c.tested_entry.result.1.now) (omega (arith, c.if-self-eq0.false)) c.self.invariant c.tested_entry.ensures).shown

pub returns-clause-goes : goal.returns-clause-goes
returns-clause-goes c =
    let s = c.self.inside in
    let e : c.args.self.now ≡ row_of c.tested_entry.result.0 ∷ rows_shown (s.left - 1) c.tested_entry.result.1.now =
    sym c.self.view_is ∙ (first_row-read s.left s.bytes.now (row_of c.tested_entry.result.0, c.tested_entry.result.1.now) (omega (arith, c.if-self-eq0.false)) c.self.invariant c.tested_entry.ensures).shown in
    rw e (search rules)
