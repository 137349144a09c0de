use Rattle.std.proofs.Common.{◌≡◌, ℕ, List, [], ◌∷◌, ◌++◌, map, refl, ap, subst, append_assoc}
use Rattle.std.specs.Arc.{arc_value}
use Rattle.std.specs.List.{flat_map}
use Rattle.tree_command.specs.TreeText.{block_line}
use Rattle.console.specs.Written.{Writes}
use Rattle.console.proofs.Leaving.{leaves-all, leaves-less, stops, ends}
use Rattle.tree_command.proofs.node_lines.write_tree.Goals as goal

abbrev whole_of : List ℕ → List ℕ → List ℕ
whole_of front lines = front ++ (10 ∷ []) ++ lines

parts : (front lines : List ℕ) → whole_of front lines ≡ front ++ (10 ∷ lines)
parts front lines = append_assoc front (10 ∷ []) lines

pub returns-in_err-write_whole : goal.returns-in_err-write_whole
returns-in_err-write_whole g c =
    let o = g.W.Write.contents c.args.out.now in
    let o1 = g.W.Write.contents c.write_whole.new.out in
    let lines = flat_map (block_line g.D.Digest.digest_of) (map arc_value c.args.blocks.now) in
    let whole = whole_of c.text.result lines in
    subst (Writes o o1 c.from_residual.result) (ap (λ t. whole_of t lines) c.text.ensures.value)
    (stops o o o1 whole whole c.text.result _ c.from_residual.result (leaves-all o whole) (parts c.text.result lines) c.from_residual.ensures.0 c.in_err-write_whole.ensures)

pub returns-in_err-write_whole-2 : goal.returns-in_err-write_whole-2
returns-in_err-write_whole-2 g c =
    let o = g.W.Write.contents c.args.out.now in
    let o1 = g.W.Write.contents c.write_whole.new.out in
    let o2 = g.W.Write.contents c.write_whole-2.new.out in
    let lines = flat_map (block_line g.D.Digest.digest_of) (map arc_value c.args.blocks.now) in
    let whole = whole_of c.text.result lines in
    let left = leaves-less o o o1 whole whole c.text.result _ (leaves-all o whole) (parts c.text.result lines) c.in_ok-write_whole.ensures in
    subst (Writes o o2 c.from_residual-in_err-write_whole-2.result) (ap (λ t. whole_of t lines) c.text.ensures.value)
    (stops o o1 o2 whole _ (10 ∷ []) lines c.from_residual-in_err-write_whole-2.result left refl c.from_residual-in_err-write_whole-2.ensures.0 c.in_err-write_whole-2.ensures)

pub returns : goal.returns
returns g c =
    let o = g.W.Write.contents c.args.out.now in
    let o1 = g.W.Write.contents c.write_whole.new.out in
    let o2 = g.W.Write.contents c.write_whole-2.new.out in
    let o3 = g.W.Write.contents c.write_blocks.new.out in
    let lines = flat_map (block_line g.D.Digest.digest_of) (map arc_value c.args.blocks.now) in
    let whole = whole_of c.text.result lines in
    let left1 = leaves-less o o o1 whole whole c.text.result _ (leaves-all o whole) (parts c.text.result lines) c.in_ok-write_whole.ensures in
    let left2 = leaves-less o o1 o2 whole _ (10 ∷ []) lines left1 refl c.in_ok-write_whole-2.ensures in
    subst (Writes o o3 c.write_blocks.result) (ap (λ t. whole_of t lines) c.text.ensures.value)
    (ends o o2 o3 whole lines c.write_blocks.result left2 c.write_blocks.ensures)
