use Rattle.tree_command.proofs.Listings.{ended}
use Rattle.tree_command.proofs.text.tree_text.Goals as goal

pub returns : goal.returns
returns g c =
    let left = g.R.Read.remaining c.tree_made-made.new.input in
    ended c.args.taken g.D.Digest.digest_of g.row.B (g.R.Read.remaining c.args.input.now) left (g.W.Write.contents c.args.out.now)
    (g.W.Write.contents c.write_listed.new.out) c.tree_made-made.result c.write_listed.result
    c.tree_made-made.ensures.tree c.tree_made-made.ensures.read c.tree_made-made.ensures.judged c.write_listed.ensures
