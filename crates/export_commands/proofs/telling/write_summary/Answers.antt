use Rattle.std.proofs.Common.{◌≡◌, ◌++◌, decimal, ap, subst, ◌∙◌}
use Rattle.spec.specs.Cid.{text}
use Rattle.signed_commits.specs.Views.{commit_of}
use Rattle.console.specs.Written.{Writes}
use Rattle.export_commands.specs.Texts.{ended, spaced}
use Rattle.export_commands.proofs.Writing.{writes-stopped, writes-then}
use Rattle.export_commands.proofs.telling.write_summary.Goals as goal

pub returns-in_err-write_spaced : goal.returns-in_err-write_spaced
returns-in_err-write_spaced g c =
    let commit = commit_of c.args.commit.now in
    writes-stopped (g.W.Write.contents c.args.out.now) (g.W.Write.contents c.write_spaced.new.out) (spaced commit.did)
    (spaced commit.rev ++ (spaced (text commit.root) ++ ended (decimal c.args.count)))
    c.from_residual.result c.in_err-write_spaced.ensures c.from_residual.ensures.0

pub returns-in_err-write_spaced-2 : goal.returns-in_err-write_spaced-2
returns-in_err-write_spaced-2 g c =
    let commit = commit_of c.args.commit.now in
    let o = g.W.Write.contents c.args.out.now in
    let o1 = g.W.Write.contents c.write_spaced.new.out in
    let o2 = g.W.Write.contents c.write_spaced-2.new.out in
    let left = spaced (text commit.root) ++ ended (decimal c.args.count) in
    let r = c.from_residual-in_err-write_spaced-2.result in
    writes-then o o1 o2 (spaced commit.did) (spaced commit.rev ++ left) r c.in_ok-write_spaced.ensures
    (writes-stopped o1 o2 (spaced commit.rev) left r c.in_err-write_spaced-2.ensures c.from_residual-in_err-write_spaced-2.ensures.0)

pub returns-in_err-write_spaced-3 : goal.returns-in_err-write_spaced-3
returns-in_err-write_spaced-3 g c =
    let commit = commit_of c.args.commit.now in
    let o = g.W.Write.contents c.args.out.now in
    let o1 = g.W.Write.contents c.write_spaced.new.out in
    let o2 = g.W.Write.contents c.write_spaced-2.new.out in
    let o3 = g.W.Write.contents c.write_spaced-3.new.out in
    let r = c.from_residual-in_err-write_spaced-3.result in
    let root : c.text.result ≡ text commit.root = c.text.ensures.value ∙ ap text c.to_cid.ensures in
    subst (λ t. Writes o o3 r (spaced commit.did ++ (spaced commit.rev ++ (spaced t ++ ended (decimal c.args.count))))) root
    (writes-then o o1 o3 (spaced commit.did) (spaced commit.rev ++ (spaced c.text.result ++ ended (decimal c.args.count))) r c.in_ok-write_spaced.ensures
    (writes-then o1 o2 o3 (spaced commit.rev) (spaced c.text.result ++ ended (decimal c.args.count)) r c.in_ok-write_spaced-2.ensures
    (writes-stopped o2 o3 (spaced c.text.result) (ended (decimal c.args.count)) r c.in_err-write_spaced-3.ensures c.from_residual-in_err-write_spaced-3.ensures.0)))

pub returns : goal.returns
returns g c =
    let commit = commit_of c.args.commit.now in
    let o = g.W.Write.contents c.args.out.now in
    let o1 = g.W.Write.contents c.write_spaced.new.out in
    let o2 = g.W.Write.contents c.write_spaced-2.new.out in
    let o3 = g.W.Write.contents c.write_spaced-3.new.out in
    let o4 = g.W.Write.contents c.write_ended.new.out in
    let r = c.write_ended.result in
    let number = c.as_bytes.result.now in
    let root : c.text.result ≡ text commit.root = c.text.ensures.value ∙ ap text c.to_cid.ensures in
    let count : number ≡ decimal c.args.count = c.as_bytes.ensures.value ∙ c.format.ensures.text in
    subst (λ t. Writes o o4 r (spaced commit.did ++ (spaced commit.rev ++ (spaced t ++ ended (decimal c.args.count))))) root
    (subst (λ n. Writes o o4 r (spaced commit.did ++ (spaced commit.rev ++ (spaced c.text.result ++ ended n)))) count
    (writes-then o o1 o4 (spaced commit.did) (spaced commit.rev ++ (spaced c.text.result ++ ended number)) r c.in_ok-write_spaced.ensures
    (writes-then o1 o2 o4 (spaced commit.rev) (spaced c.text.result ++ ended number) r c.in_ok-write_spaced-2.ensures
    (writes-then o2 o3 o4 (spaced c.text.result) (ended number) r c.in_ok-write_spaced-3.ensures c.write_ended.ensures))))
