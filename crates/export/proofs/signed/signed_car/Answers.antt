use Rattle.std.proofs.Common.{◌≡◌, ◌++◌, ℕ, List, Option, length, option_map, sym, ap, ◌∙◌, append-nil, rules}
use Rattle.std.specs.declared.option.Option.TheVariants.{Some}
use Rattle.spec.specs.Blocks.{pairs}
use Rattle.spec.specs.Stamps.{last, stamp_of as stamp_in}
use Rattle.spec.specs.States.{records, state_blocks, state_root}
use Rattle.batches.specs.Values.{stamp_of, stamps_of}
use Rattle.export.specs.Exports.{bytes_or_none}
use Rattle.export.specs.Founds.{bytes_in}
use Rattle.export.specs.Once.{capped}
use Rattle.export.proofs.Counted.{found-blocks, found-marked, found-tree}
use Rattle.export.proofs.Leaving.{takes-nothing, takes-same}
use Rattle.export.proofs.SignedFile.{none-met, signed-met, single-tree}
use Rattle.export.proofs.signed.signed_car.Goals as goal

pub returns-in_default-clause-taken : goal.returns-in_default-clause-taken
returns-in_default-clause-taken g c =
    let none = none-met g.D.Digest.digest_of g.row.B c.args.core.now c.args.signature.now (stamp_in (last (stamps_of c.stamps.result.now)))
    (ap (λ ss. stamp_in (last ss)) c.stamps.ensures.value) c.in_default.ensures in
    sym (append-nil (g.W.Out.taken c.args.out.now)) ∙ ap (λ (o : Option (List ℕ)). g.W.Out.taken c.args.out.now ++ bytes_or_none o) none

pub returns-in_default-clause-length : goal.returns-in_default-clause-length
returns-in_default-clause-length g c =
    ap (option_map (λ (file : List ℕ). capped (length file)))
    (none-met g.D.Digest.digest_of g.row.B c.args.core.now c.args.signature.now (stamp_in (last (stamps_of c.stamps.result.now)))
    (ap (λ ss. stamp_in (last ss)) c.stamps.ensures.value) c.in_default.ensures)

pub returns-in_err-clone-clause-taken : goal.returns-in_err-clone-clause-taken
returns-in_err-clone-clause-taken g c =
    takes-nothing (g.W.Out.taken c.args.out.now) _ c.from_residual.result c.from_residual.ensures.0

pub returns-in_err-commit-clause-taken : goal.returns-in_err-commit-clause-taken
returns-in_err-commit-clause-taken g c =
    takes-nothing (g.W.Out.taken c.args.out.now) _ c.from_residual-in_err-commit.result c.from_residual-in_err-commit.ensures.0

pub returns-in_err-length-clause-taken : goal.returns-in_err-length-clause-taken
returns-in_err-length-clause-taken g c =
    let digest = g.D.Digest.digest_of in
    let m = c.lender-lender.result.blocks.now in
    let s = c.args.core.now in
    let is = signed-met digest (bytes_in m) g.row.B g.met.D.Digest.digest_len s
    (found-blocks m digest (state_blocks digest g.row.B s) c.lender-lender.ensures.blocks)
    (found-tree m digest g.row.B (state_root digest g.row.B s) (pairs digest (records s)) c.lender-lender.ensures.tree)
    c.root-root.result c.root-root.ensures.value c.layers-most.result c.layers-most.ensures c.args.signature.now c.in_ok-commit.commit
    (stamp_in (last (stamps_of c.stamps.result.now))) (stamp_of c.in-Some.stamp.now) (ap (λ ss. stamp_in (last ss)) c.stamps.ensures.value)
    c.in-Some.ensures c.in_ok-commit.ensures in
    takes-same (g.W.Out.taken c.args.out.now) (g.W.Out.taken c.write_signed.new.out) _ _ c.from_residual-in_err-length.result
    c.from_residual-in_err-length.ensures.0 (ap bytes_or_none is) c.in_err-length.ensures.taken

pub returns-clause-taken : goal.returns-clause-taken
returns-clause-taken g c =
    let digest = g.D.Digest.digest_of in
    let m = c.lender-lender.result.blocks.now in
    let s = c.args.core.now in
    let is = signed-met digest (bytes_in m) g.row.B g.met.D.Digest.digest_len s
    (found-blocks m digest (state_blocks digest g.row.B s) c.lender-lender.ensures.blocks)
    (found-tree m digest g.row.B (state_root digest g.row.B s) (pairs digest (records s)) c.lender-lender.ensures.tree)
    c.root-root.result c.root-root.ensures.value c.layers-most.result c.layers-most.ensures c.args.signature.now c.in_ok-commit.commit
    (stamp_in (last (stamps_of c.stamps.result.now))) (stamp_of c.in-Some.stamp.now) (ap (λ ss. stamp_in (last ss)) c.stamps.ensures.value)
    c.in-Some.ensures c.in_ok-commit.ensures in
    c.in_ok-length.ensures.taken ∙ ap (λ (o : Option (List ℕ)). g.W.Out.taken c.args.out.now ++ bytes_or_none o) is

pub returns-clause-length : goal.returns-clause-length
returns-clause-length g c =
    let digest = g.D.Digest.digest_of in
    let m = c.lender-lender.result.blocks.now in
    let s = c.args.core.now in
    let is = signed-met digest (bytes_in m) g.row.B g.met.D.Digest.digest_len s
    (found-blocks m digest (state_blocks digest g.row.B s) c.lender-lender.ensures.blocks)
    (found-tree m digest g.row.B (state_root digest g.row.B s) (pairs digest (records s)) c.lender-lender.ensures.tree)
    c.root-root.result c.root-root.ensures.value c.layers-most.result c.layers-most.ensures c.args.signature.now c.in_ok-commit.commit
    (stamp_in (last (stamps_of c.stamps.result.now))) (stamp_of c.in-Some.stamp.now) (ap (λ ss. stamp_in (last ss)) c.stamps.ensures.value)
    c.in-Some.ensures c.in_ok-commit.ensures in
    ap (λ (n : ℕ). Some n) c.in_ok-length.ensures.length ∙ ap (option_map (λ (file : List ℕ). capped (length file))) is

pub write_signed-requires : goal.write_signed-requires
write_signed-requires g c =
    let digest = g.D.Digest.digest_of in
    let m = c.lender-lender.result.blocks.now in
    let s = c.args.core.now in (
      search (c.requires-raw, rules),
      (
        single-tree digest (bytes_in m) g.row.B g.met.D.Digest.digest_len s
            (found-blocks m digest (state_blocks digest g.row.B s) c.lender-lender.ensures.blocks)
            (found-tree m digest g.row.B (state_root digest g.row.B s) (pairs digest (records s)) c.lender-lender.ensures.tree)
            c.root-root.result c.root-root.ensures.value c.layers-most.result c.layers-most.ensures,
        found-marked m digest g.row.B s c.lender-lender.ensures.uses,
      ),
    )

pub lender-lender-requires : goal.lender-lender-requires
lender-lender-requires g c = search (c.requires-raw, rules)
