use Rattle.std.proofs.Common.{rules, ◌<◌, ◌^◌, arith, subst, sym}
use Rattle.std.proofs.lemmas.Result.{IfErr-weaker}
use prog.Memory.{size}
use denote.Param.{layout, param, number}
use Rattle.change_proofs.specs.Provings.{IsProofOf, ShowsChanges}
use Rattle.host.specs.contracts.host.Host as host
use Rattle.host.specs.Seeing.{IsSeen, wanted_of}
use Rattle.host_exports.specs.ChangeProofs.{IsNoInversionIn, IsProveInversionFault}
use Rattle.host_exports.proofs.ChangeProving.{both-proved, inversion-fault}
use Rattle.host_exports.proofs.inversion_proving.prove_inversion.Goals as goal

pub read-requires : goal.read-requires
read-requires g c =
    let fits : size (layout (host.the_row (param 0 g.row.D) (number g.row.B) (param 2 g.row.A) g.D.Digest g.A.Allocator g.A.Clone)) < 2 ^ 63 = search (c.requires-raw, rules) in
    (fits, (c.fits_in_memory.ensures.core, subst (λ n. c.args.repo < n) c.repos.ensures.repos c.if-repo-repos.false))

pub inversion_from-requires : goal.inversion_from-requires
inversion_from-requires g c = (c.fits_in_memory.ensures.core, (c.requires.least_bits, c.requires.changes))

pub returns-clause-proof : goal.returns-clause-proof
returns-clause-proof g c =
    let seen = subst (IsSeen (wanted_of c.args.host.now c.args.repo 0)) (sym c.deref.ensures) c.read.ensures in
    let less = subst (λ n. c.args.repo < n) c.repos.ensures.repos c.if-repo-repos.false in
    both-proved g.D.Digest.digest_of g.row.B c.args.host.now c.args.repo c.args.after c.deref.result.now less seen c.inversion_from.result
    (λ s nodes. IsProofOf g.D.Digest.digest_of g.row.B s c.args.changes.now nodes.items)
    (λ s nodes. ShowsChanges g.D.Digest.digest_of g.row.B s c.args.changes.now nodes.items)
    c.inversion_from.ensures.root c.inversion_from.ensures.proof c.inversion_from.ensures.shows

pub returns-clause-fault : goal.returns-clause-fault
returns-clause-fault g c =
    let seen = subst (IsSeen (wanted_of c.args.host.now c.args.repo 0)) (sym c.deref.ensures) c.read.ensures in
    let less = subst (λ n. c.args.repo < n) c.repos.ensures.repos c.if-repo-repos.false in
    IfErr-weaker c.inversion_from.result (IsNoInversionIn g.D.Digest.digest_of g.row.B c.deref.result.now c.args.after c.args.changes.now)
    (IsProveInversionFault g.D.Digest.digest_of g.row.B c.args.host.now c.args.repo c.args.after c.args.changes.now)
    (inversion-fault g.D.Digest.digest_of g.row.B c.args.host.now c.args.repo c.args.after c.deref.result.now less seen c.args.changes.now)
    c.inversion_from.ensures.fault

pub returns-clause-missing : goal.returns-clause-missing
returns-clause-missing g c h =
    let less : c.args.repo < c.args.host.now.repos = subst (λ n. c.args.repo < n) c.repos.ensures.repos c.if-repo-repos.false in
    absurd (omega (arith, h, less))
