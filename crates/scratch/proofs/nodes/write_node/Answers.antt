use Rattle.std.proofs.Common.{[], refl, sym, ap, ◌∙◌, ◌++◌}
use Rattle.spec.specs.Layer.{layer as layer_of}
use Rattle.node.specs.Contents.{Contents, last_key}
use Rattle.scratch.specs.Cut.{pairs_of_rows, entries_next}
use Rattle.scratch.specs.Rows.{pair_of}
use Rattle.scratch.proofs.Ascending.{Rises-ascending}
use Rattle.scratch.proofs.Steps.{Rises-same, fewer, rises-on, entries-on, beyond-on, spelled, left-beyond}
use Rattle.scratch.proofs.nodes.write_node.Goals as goal

pub loop-row-init : goal.loop-row-init
loop-row-init g c =
    let none = ap (λ (w : Contents). w.entries) c.begin_again.ensures in
    record {
      rises = Rises-same (last_key [] c.begin_again.new.self.entries) [] (pairs_of_rows c.args.unread.now.rows) (pairs_of_rows c.args.unread.now.rows) (ap (last_key []) none) refl
          (Rises-ascending (pairs_of_rows c.args.unread.now.rows) c.requires);
      left = ap (λ (w : Contents). w.left) c.begin_again.ensures ∙ c.link-left.ensures;
      entries = sym (ap (λ es. es ++ entries_next g.D.Digest.digest_of (layer_of g.D.Digest.digest_of g.row.B) c.args.layer c.args.unread.now.rows) none);
      beyond = refl;
    }

pub loop-row-smaller : goal.loop-row-smaller
loop-row-smaller g c =
    fewer g.D.Digest.digest_of (layer_of g.D.Digest.digest_of g.row.B) c.args.layer c.loop-row.unread.rows c.next_of.new.self.rows (pair_of c.in-Some.row, c.next_of.new.self.first) c.in-Some.ensures.some

pub loop-row-preserved : goal.loop-row-preserved
loop-row-preserved g c =
    let d = g.D.Digest.digest_of in
    let layer = layer_of g.D.Digest.digest_of g.row.B in
    let n = c.args.layer in
    let rs = c.loop-row.unread.rows in
    let rest = c.next_of.new.self.rows in
    let more = ap (λ (w : Contents). w.entries) c.in_ok-entry.ensures.ok in
    record {
      rises = rises-on d layer n rs rest (pair_of c.in-Some.row, c.next_of.new.self.first) c.in-Some.ensures.some c.loop-row.writer.entries c.entry.new.self.entries _ c.loop-row.invariant.rises more refl;
      left = ap (λ (w : Contents). w.left) c.in_ok-entry.ensures.ok ∙ c.loop-row.invariant.left;
      entries = entries-on d layer n rs rest (pair_of c.in-Some.row, c.next_of.new.self.first) c.in-Some.ensures.some c.in-Some.ensures.layer
          (entries_next d layer n c.args.unread.now.rows) c.loop-row.writer.entries c.entry.new.self.entries c.link-tree.result c.loop-row.invariant.entries more c.link-tree.ensures;
      beyond = beyond-on d layer n rs rest (pair_of c.in-Some.row, c.next_of.new.self.first) c.in-Some.ensures.some c.in-Some.ensures.layer _ c.loop-row.invariant.beyond;
    }

pub returns-clause-bytes : goal.returns-clause-bytes
returns-clause-bytes g c =
    spelled g.D.Digest.digest_of (layer_of g.D.Digest.digest_of g.row.B) c.args.layer c.loop-row.unread.rows c.in_default.ensures.none c.args.unread.now.first c.args.unread.now.rows
    _ c.loop-row.writer.left c.loop-row.writer.entries c.in_ok-bytes.ensures.bytes c.loop-row.invariant.left c.loop-row.invariant.entries

pub returns-clause-unread : goal.returns-clause-unread
returns-clause-unread g c =
    left-beyond g.D.Digest.digest_of (layer_of g.D.Digest.digest_of g.row.B) c.args.layer c.loop-row.unread.rows c.in_default.ensures.none _ c.next_of.new.self.rows c.loop-row.invariant.beyond (ap (λ u. u.rows) c.in_default.ensures.left)
