use Rattle.std.proofs.Common.{option_map, refl, sym, ap, subst}
use Rattle.std.specs.Prelude.{OnOk}
use Rattle.spec.specs.Cid.{cid}
use Rattle.export.specs.Founds.{bytes_found, bytes_in, found_in, may_repeat, seen_found}
use Rattle.export.specs.Once.{HasNoted}
use Rattle.export.proofs.Marked.{is-new}
use Rattle.export.proofs.Sectioned.{commit-some, commit-taken, commit-length, commit-seen}
use Rattle.export.proofs.Singles.{repeats-ok}
use Rattle.export.proofs.blocks.write_commit.Goals as goal

pub returns-clause-taken : goal.returns-clause-taken
returns-clause-taken g c =
    commit-taken g.D.Digest.digest_of c.args.seen.now _ (bytes_found (seen_found c.in-Some-get.found)) (bytes_found (seen_found c.in-Some-get.found)) refl
    (commit-some (bytes_in c.args.src.now.blocks.now) c.args.commit c.in-Some.cid (bytes_found (seen_found c.in-Some-get.found)) c.in-Some.is
    (ap (option_map bytes_found) (sym c.in-Some-get.ensures.found)))
    (g.W.Out.taken c.args.out.now) (g.W.Out.taken c.write_once.new.out) c.write_once.result c.write_once.ensures.taken

pub returns-clause-length : goal.returns-clause-length
returns-clause-length g c =
    commit-length g.D.Digest.digest_of c.args.seen.now _ (bytes_found (seen_found c.in-Some-get.found)) (bytes_found (seen_found c.in-Some-get.found)) refl
    (commit-some (bytes_in c.args.src.now.blocks.now) c.args.commit c.in-Some.cid (bytes_found (seen_found c.in-Some-get.found)) c.in-Some.is
    (ap (option_map bytes_found) (sym c.in-Some-get.ensures.found)))
    c.write_once.result c.write_once.ensures.length

pub returns-clause-seen : goal.returns-clause-seen
returns-clause-seen g c =
    commit-seen g.D.Digest.digest_of c.args.seen.now _ (bytes_found (seen_found c.in-Some-get.found)) (bytes_found (seen_found c.in-Some-get.found)) refl
    (commit-some (bytes_in c.args.src.now.blocks.now) c.args.commit c.in-Some.cid (bytes_found (seen_found c.in-Some-get.found)) c.in-Some.is
    (ap (option_map bytes_found) (sym c.in-Some-get.ensures.found)))
    (may_repeat g.D.Digest.digest_of g.row.B c.args.core.now) c.write_once.new.seen c.write_once.result
    (subst (λ m. OnOk c.write_once.result (HasNoted m c.args.seen.now (cid g.D.Digest.digest_of (bytes_found (seen_found c.in-Some-get.found))) c.write_once.new.seen))
    (c.requires.marked c.in-Some.cid (seen_found c.in-Some-get.found) (sym c.in-Some-get.ensures.found)) c.write_once.ensures.seen)

pub returns-clause-noted : goal.returns-clause-noted
returns-clause-noted g c =
    repeats-ok (may_repeat g.D.Digest.digest_of g.row.B c.args.core.now) c.args.seen.now c.write_once.new.seen (cid g.D.Digest.digest_of (bytes_found (seen_found c.in-Some-get.found)))
    c.write_once.result c.requires.noted
    (subst (λ m. OnOk c.write_once.result (HasNoted m c.args.seen.now (cid g.D.Digest.digest_of (bytes_found (seen_found c.in-Some-get.found))) c.write_once.new.seen))
    (c.requires.marked c.in-Some.cid (seen_found c.in-Some-get.found) (sym c.in-Some-get.ensures.found)) c.write_once.ensures.seen)

pub write_once-requires : goal.write_once-requires
write_once-requires g c =
    is-new g.D.Digest.digest_of (found_in c.args.src.now.blocks.now) (may_repeat g.D.Digest.digest_of g.row.B c.args.core.now) (seen_found c.in-Some-get.found)
    (c.in-Some.cid, sym c.in-Some-get.ensures.found) c.requires.marked c.args.seen.now c.requires.noted
