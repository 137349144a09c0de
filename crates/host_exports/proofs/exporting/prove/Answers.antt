use Rattle.std.proofs.Common.{rules, ◌<◌, ◌^◌, arith, subst, sym}
use prog.Memory.{size}
use denote.Param.{layout, param, number}
use Rattle.host.specs.contracts.host.Host as host
use Rattle.host.specs.Seeing.{IsSeen, wanted_of}
use Rattle.host_exports.proofs.exporting.prove.Goals as goal

pub read-requires : goal.read-requires
read-requires g c =
    let fits : size (layout (host.the_row (param 0 g.row.D) (number g.row.B) (param 2 g.row.A) g.D.Digest g.A.Allocator g.A.Clone)) < 2 ^ 63 = search (c.requires-raw, rules) in
    (fits, (c.fits_in_memory.ensures.core, subst (λ n. c.args.repo < n) c.repos.ensures.repos c.if-repo-repos.false))

pub prove-requires : goal.prove-requires
prove-requires g c = (c.fits_in_memory.ensures.core, c.requires)

pub returns-in-Ok-clause-proof : goal.returns-in-Ok-clause-proof
returns-in-Ok-clause-proof g c =
    let seen = subst (IsSeen (wanted_of c.args.host.now c.args.repo 0)) (sym c.deref.ensures) c.read.ensures in
    (_, seen, c.in-Ok.ensures)

pub returns-in-Ok-clause-missing : goal.returns-in-Ok-clause-missing
returns-in-Ok-clause-missing g c h =
    let less : c.args.repo < c.args.host.now.repos = subst (λ n. c.args.repo < n) c.repos.ensures.repos c.if-repo-repos.false in
    absurd (omega (arith, h, less))

pub returns-clause-missing : goal.returns-clause-missing
returns-clause-missing g c h =
    let less : c.args.repo < c.args.host.now.repos = subst (λ n. c.args.repo < n) c.repos.ensures.repos c.if-repo-repos.false in
    absurd (omega (arith, h, less))
