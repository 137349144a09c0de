use Rattle.std.proofs.Common.{ℕ, List, map, subst, ap}
use Rattle.std.specs.Arc.{arc_value}
use Rattle.std.specs.declared.sync.Arc.{Arc}
use Rattle.lookups.specs.Maps.{first_of}
use Rattle.key_changes.proofs.Ascending.{are-keyed}
use Rattle.change_laws.specs.Told.{undone}
use Rattle.change_proofs.specs.Verdicts.{IsSaidOver}
use Rattle.change_proofs.proofs.Judged.{verdict-is, verdict-right}
use Rattle.change_proofs.proofs.Wholes.{verdict-whole, verdict-tree}
use Rattle.change_proofs.proofs.verifying_inversions.verify_inversion_blocks.Goals as goal

pub returns-clause-verdict : goal.returns-clause-verdict
returns-clause-verdict g c =
    let digest = g.D.Digest.digest_of in
    let cs = c.args.changes.now in
    let result = c.verify_over.result in
    let keyed = are-keyed (undone cs) c.requires.changes in
    let said = subst (λ (bs : List (Arc (List ℕ) g.row.A.Denot)). IsSaidOver digest g.row.B (first_of digest bs) c.args.before
    c.args.after cs result) (ap (λ m. m.blocks) c.in_ok-source.ensures) c.verify_over.ensures in
    let verdict = verdict-is digest g.row.B c.args.before c.args.after c.args.blocks.now cs result said in
    verdict

pub returns-clause-right : goal.returns-clause-right
returns-clause-right g c =
    let digest = g.D.Digest.digest_of in
    let cs = c.args.changes.now in
    let result = c.verify_over.result in
    let keyed = are-keyed (undone cs) c.requires.changes in
    let said = subst (λ (bs : List (Arc (List ℕ) g.row.A.Denot)). IsSaidOver digest g.row.B (first_of digest bs) c.args.before
    c.args.after cs result) (ap (λ m. m.blocks) c.in_ok-source.ensures) c.verify_over.ensures in
    let verdict = verdict-is digest g.row.B c.args.before c.args.after c.args.blocks.now cs result said in
    verdict-right digest g.row.B g.met.D.Digest.digest_len c.args.before c.args.after (map arc_value c.args.blocks.now) cs keyed
    result verdict

pub returns-clause-comes : goal.returns-clause-comes
returns-clause-comes g c =
    let digest = g.D.Digest.digest_of in
    let cs = c.args.changes.now in
    let result = c.verify_over.result in
    let keyed = are-keyed (undone cs) c.requires.changes in
    let said = subst (λ (bs : List (Arc (List ℕ) g.row.A.Denot)). IsSaidOver digest g.row.B (first_of digest bs) c.args.before
    c.args.after cs result) (ap (λ m. m.blocks) c.in_ok-source.ensures) c.verify_over.ensures in
    let verdict = verdict-is digest g.row.B c.args.before c.args.after c.args.blocks.now cs result said in
    verdict-whole digest g.row.B g.met.D.Digest.digest_len (map arc_value c.args.blocks.now) cs keyed c.args.before c.args.after
    result verdict

pub returns-clause-tree : goal.returns-clause-tree
returns-clause-tree g c =
    let digest = g.D.Digest.digest_of in
    let cs = c.args.changes.now in
    let result = c.verify_over.result in
    let keyed = are-keyed (undone cs) c.requires.changes in
    let said = subst (λ (bs : List (Arc (List ℕ) g.row.A.Denot)). IsSaidOver digest g.row.B (first_of digest bs) c.args.before
    c.args.after cs result) (ap (λ m. m.blocks) c.in_ok-source.ensures) c.verify_over.ensures in
    let verdict = verdict-is digest g.row.B c.args.before c.args.after c.args.blocks.now cs result said in
    verdict-tree digest g.row.B g.met.D.Digest.digest_len (map arc_value c.args.blocks.now) cs keyed c.args.before c.args.after
    result verdict
