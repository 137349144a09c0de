use Rattle.std.proofs.Common.{rules, ◌<◌, ◌^◌, arith, subst, sym}
use prog.Memory.{size}
use denote.Param.{layout, param, number}
use Rattle.batches.specs.Values.{stamp_of, writes_of}
use Rattle.host.specs.contracts.host.Host as host
use Rattle.host.specs.Seeing.{IsSeen, wanted_of}
use Rattle.host_exports.proofs.Preparation.{prepared-from, prepare-faults}
use Rattle.host_exports.proofs.preparing.prepare.Goals as goal

pub read-requires : goal.read-requires
read-requires g c =
    let fits : size (layout (host.the_row (param 0 g.row.D) (number g.row.B) (param 2 g.row.A) g.D.Digest g.A.Allocator g.A.Clone)) < 2 ^ 63 = search (c.requires-raw, rules) in
    (fits, (c.fits_in_memory.ensures.core, subst (λ n. c.args.repo < n) c.repos.ensures.repos c.if-repo-repos.false))

pub prepared_in-requires : goal.prepared_in-requires
prepared_in-requires g c = (c.fits_in_memory.ensures.core, search rules)

pub returns-clause-prepared : goal.returns-clause-prepared
returns-clause-prepared g c =
    let seen = subst (IsSeen (wanted_of c.args.host.now c.args.repo 0)) (sym c.deref.ensures) c.read.ensures in
    prepared-from (wanted_of c.args.host.now c.args.repo 0) c.deref.result.now (stamp_of c.args.stamp.now) (writes_of c.args.writes.now)
    (λ p. p) c.prepared_in.result seen c.prepared_in.ensures.prepared

pub returns-clause-fault : goal.returns-clause-fault
returns-clause-fault g c =
    let seen = subst (IsSeen (wanted_of c.args.host.now c.args.repo 0)) (sym c.deref.ensures) c.read.ensures in
    let less = subst (λ n. c.args.repo < n) c.repos.ensures.repos c.if-repo-repos.false in
    prepare-faults g.D.Digest.digest_of g.row.B c.args.host.now c.args.repo c.deref.result.now (stamp_of c.args.stamp.now)
    (writes_of c.args.writes.now) c.prepared_in.result less seen c.prepared_in.ensures.fault

pub returns-clause-missing : goal.returns-clause-missing
returns-clause-missing g c h =
    let less : c.args.repo < c.args.host.now.repos = subst (λ n. c.args.repo < n) c.repos.ensures.repos c.if-repo-repos.false in
    absurd (omega (arith, h, less))
