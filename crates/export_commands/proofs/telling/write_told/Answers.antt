use Rattle.std.proofs.Common.{sym, subst, ◌∙◌}
use Rattle.std.specs.Prelude.{Ok}
use Rattle.signed_commits.specs.Views.{commit_of}
use Rattle.repository_check.specs.Views.{records_of}
use Rattle.export_commands.specs.Outcomes.{IsTold}
use Rattle.export_commands.specs.Texts.{export_text, summary_line}
use Rattle.export_commands.proofs.Told.{records-are, summary-is, told-unwritten}
use Rattle.export_commands.proofs.telling.write_told.Goals as goal

pub returns-in_err-write_summary-in-Check : goal.returns-in_err-write_summary-in-Check
returns-in_err-write_summary-in-Check g c =
    let o = g.W.Write.contents c.args.out.now in
    let o1 = g.W.Write.contents c.write_summary.new.out in
    let found = c.args.found.now in
    subst (λ text. IsTold text o o1 c.from_residual.result) (summary-is g.D.Digest.digest_of found c.args.command c.len.result c.in-Check.is (c.len.ensures ∙ found.records.ok.0))
    (told-unwritten (Ok (summary_line (commit_of found.commit) c.len.result)) o o1 c.from_residual.result _ c.from_residual.ensures.1 c.in_err-write_summary-in-Check.ensures)

pub returns-in-Records : goal.returns-in-Records
returns-in-Records g c =
    subst (λ text. IsTold text (g.W.Write.contents c.args.out.now) (g.W.Write.contents c.write_listed.new.out) c.write_listed.result)
    (records-are g.D.Digest.digest_of c.args.found.now c.args.command c.in-Records.values c.deref.result.now c.in-Records.is c.deref.ensures.value c.requires)
    c.write_listed.ensures

pub returns-in-Commit : goal.returns-in-Commit
returns-in-Commit g c =
    let found = c.args.found.now in
    subst (λ command. IsTold (export_text g.D.Digest.digest_of command (commit_of found.commit) (records_of found)) (g.W.Write.contents c.args.out.now)
    (g.W.Write.contents c.write_signing.new.out) c.write_signing.result) (sym c.in-Commit.is) c.write_signing.ensures
