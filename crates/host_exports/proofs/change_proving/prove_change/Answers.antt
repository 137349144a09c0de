use Rattle.std.proofs.Common.{rules, ◌<◌, ◌^◌, arith, map, subst, sym}
use Rattle.std.proofs.lemmas.Result.{IfErr-weaker}
use Rattle.std.specs.Arc.{arc_value}
use prog.Memory.{size}
use denote.Param.{layout, param, number}
use Rattle.spec.specs.Blocks.{pairs}
use Rattle.spec.specs.States.{records}
use Rattle.change_proofs.specs.StepProvings.{IsStepOf}
use Rattle.host.specs.contracts.host.Host as host
use Rattle.host.specs.Seeing.{IsSeen, wanted_of}
use Rattle.host_exports.specs.ChangeProofs.{IsNoStepIn, IsProveChangeFault}
use Rattle.host_exports.proofs.ChangeProving.{proved, step-fault}
use Rattle.host_exports.proofs.change_proving.prove_change.Goals as goal

pub read-requires : goal.read-requires
read-requires g c =
    let fits : size (layout (host.the_row (param 0 g.row.D) (number g.row.B) (param 2 g.row.A) g.D.Digest g.A.Allocator g.A.Clone)) < 2 ^ 63 = search (c.requires-raw, rules) in
    (fits, (c.fits_in_memory.ensures.core, subst (λ n. c.args.repo < n) c.repos.ensures.repos c.if-repo-repos.false))

pub step_from-requires : goal.step_from-requires
step_from-requires g c = (c.fits_in_memory.ensures.core, (c.requires.least_bits, c.requires.changes))

pub returns-clause-proof : goal.returns-clause-proof
returns-clause-proof g c =
    let seen = subst (IsSeen (wanted_of c.args.host.now c.args.repo 0)) (sym c.deref.ensures) c.read.ensures in
    let less = subst (λ n. c.args.repo < n) c.repos.ensures.repos c.if-repo-repos.false in
    proved g.D.Digest.digest_of g.row.B c.args.host.now c.args.repo c.args.before c.deref.result.now less seen c.step_from.result
    (λ s proof. IsStepOf g.D.Digest.digest_of g.row.B c.args.changes.now (pairs g.D.Digest.digest_of (records s)) proof.after proof.changes.items (map arc_value proof.nodes.items))
    c.step_from.ensures.root c.step_from.ensures.proof

pub returns-clause-fault : goal.returns-clause-fault
returns-clause-fault g c =
    let seen = subst (IsSeen (wanted_of c.args.host.now c.args.repo 0)) (sym c.deref.ensures) c.read.ensures in
    let less = subst (λ n. c.args.repo < n) c.repos.ensures.repos c.if-repo-repos.false in
    IfErr-weaker c.step_from.result (IsNoStepIn g.D.Digest.digest_of g.row.B c.deref.result.now c.args.before)
    (IsProveChangeFault g.D.Digest.digest_of g.row.B c.args.host.now c.args.repo c.args.before)
    (step-fault g.D.Digest.digest_of g.row.B c.args.host.now c.args.repo c.args.before c.deref.result.now less seen)
    c.step_from.ensures.fault

pub returns-clause-missing : goal.returns-clause-missing
returns-clause-missing g c h =
    let less : c.args.repo < c.args.host.now.repos = subst (λ n. c.args.repo < n) c.repos.ensures.repos c.if-repo-repos.false in
    absurd (omega (arith, h, less))
