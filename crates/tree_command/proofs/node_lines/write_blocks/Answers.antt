use Rattle.std.proofs.Common.{◌≡◌, ℕ, suc, ◌+◌, ◌<◌, List, ◌++◌, length, map, drop, get_or, sym, ap, ◌∙◌, add-one}
use Rattle.std.specs.Arc.{arc_value}
use Rattle.std.specs.List.{flat_map}
use Rattle.std.proofs.Math.Seq.{drop-cons}
use Rattle.tree_command.specs.TreeText.{block_line}
use Rattle.console.proofs.Leaving.{leaves-less, stops}
use Rattle.tree_command.proofs.node_lines.write_blocks.Goals as goal

-- the lines of the blocks from a place on are that of the first of them and those of the others
next_line : {X : Type 0} (seen : X → List ℕ) (write : List ℕ → List ℕ) (xs : List X) (i : ℕ) (x : X) (b : List ℕ) → i < length xs → x ≡ get_or xs i x → b ≡ seen x
    → flat_map write (map seen (drop i xs)) ≡ write b ++ flat_map write (map seen (drop (i + 1) xs))
next_line seen write xs i x b lt e f =
    ap (λ l. flat_map write (map seen l)) (drop-cons xs i x lt)
    ∙ ap (λ z. write (seen z) ++ flat_map write (map seen (drop (suc i) xs))) (sym e)
    ∙ ap (λ z. write z ++ flat_map write (map seen (drop (suc i) xs))) (sym f)
    ∙ ap (λ j. write b ++ flat_map write (map seen (drop j xs))) (sym (add-one i))

pub returns-in_err-write_block : goal.returns-in_err-write_block
returns-in_err-write_block g c =
    let o = g.W.Write.contents c.args.out.now in
    let o1 = g.W.Write.contents c.loop-block.out in
    let o2 = g.W.Write.contents c.write_block.new.out in
    let write = block_line g.D.Digest.digest_of in
    stops o o1 o2 _ _ (write c.deref.result.now) _ c.from_residual.result c.loop-block.invariant
    (next_line arc_value write c.args.blocks.now c.loop-block.block-index c.block-item.result c.deref.result.now c.loop-block-test.true c.block-item.is c.deref.ensures)
    c.from_residual.ensures.0 c.in_err-write_block.ensures

pub loop-block-preserved : goal.loop-block-preserved
loop-block-preserved g c =
    let o = g.W.Write.contents c.args.out.now in
    let o1 = g.W.Write.contents c.loop-block.out in
    let o2 = g.W.Write.contents c.write_block.new.out in
    let write = block_line g.D.Digest.digest_of in
    leaves-less o o1 o2 _ _ (write c.deref.result.now) _ c.loop-block.invariant
    (next_line arc_value write c.args.blocks.now c.loop-block.block-index c.block-item.result c.deref.result.now c.loop-block-test.true c.block-item.is c.deref.ensures)
    c.in_ok-write_block.ensures
