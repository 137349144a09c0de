use Rattle.std.proofs.Common.{◌≡◌, ℕ, List, [], ◌∷◌, ◌++◌, refl, ap, subst, ◌∙◌, append_assoc}
use Rattle.hex.specs.Hex.{encode_lower}
use Rattle.spec.specs.Cid.{cid, text}
use Rattle.tree_command.specs.TreeText.{block_line}
use Rattle.console.specs.Written.{Writes}
use Rattle.console.proofs.Leaving.{leaves-all, leaves-less, stops, ends}
use Rattle.tree_command.proofs.node_lines.write_block.Goals as goal

-- the line of a CID's text and the digits of a block, cut before its three ends
abbrev line : List ℕ → List ℕ → List ℕ
line front digits = front ++ (32 ∷ digits) ++ (10 ∷ [])

parts : (front digits : List ℕ) → line front digits ≡ front ++ (32 ∷ digits ++ (10 ∷ []))
parts front digits = append_assoc front (32 ∷ digits) (10 ∷ [])

is_line : (digest : List ℕ → List ℕ) (block front c : List ℕ) → c ≡ cid digest block → front ≡ text c → line front (encode_lower block) ≡ block_line digest block
is_line digest block front c e f = ap (λ t. line t (encode_lower block)) (f ∙ ap text e)

pub returns-in_err-write_whole : goal.returns-in_err-write_whole
returns-in_err-write_whole g c =
    let o = g.W.Write.contents c.args.out.now in
    let o1 = g.W.Write.contents c.write_whole.new.out in
    let whole = line c.text.result (encode_lower c.args.block.now) in
    subst (Writes o o1 c.from_residual.result) (is_line g.D.Digest.digest_of c.args.block.now c.text.result c.cid.result c.cid.ensures c.text.ensures.value)
    (stops o o o1 whole whole c.text.result _ c.from_residual.result (leaves-all o whole) (parts c.text.result (encode_lower c.args.block.now)) c.from_residual.ensures.0 c.in_err-write_whole.ensures)

pub returns-in_err-write_whole-2 : goal.returns-in_err-write_whole-2
returns-in_err-write_whole-2 g c =
    let o = g.W.Write.contents c.args.out.now in
    let o1 = g.W.Write.contents c.write_whole.new.out in
    let o2 = g.W.Write.contents c.write_whole-2.new.out in
    let digits = encode_lower c.args.block.now in
    let whole = line c.text.result digits in
    let left = leaves-less o o o1 whole whole c.text.result _ (leaves-all o whole) (parts c.text.result digits) c.in_ok-write_whole.ensures in
    subst (Writes o o2 c.from_residual-in_err-write_whole-2.result) (is_line g.D.Digest.digest_of c.args.block.now c.text.result c.cid.result c.cid.ensures c.text.ensures.value)
    (stops o o1 o2 whole _ (32 ∷ []) (digits ++ (10 ∷ [])) c.from_residual-in_err-write_whole-2.result left refl c.from_residual-in_err-write_whole-2.ensures.0 c.in_err-write_whole-2.ensures)

pub returns-in_err-write_hex : goal.returns-in_err-write_hex
returns-in_err-write_hex g c =
    let o = g.W.Write.contents c.args.out.now in
    let o1 = g.W.Write.contents c.write_whole.new.out in
    let o2 = g.W.Write.contents c.write_whole-2.new.out in
    let o3 = g.W.Write.contents c.write_hex.new.out in
    let digits = encode_lower c.bytes.result.now in
    let whole = line c.text.result digits in
    let left1 = leaves-less o o o1 whole whole c.text.result _ (leaves-all o whole) (parts c.text.result digits) c.in_ok-write_whole.ensures in
    let left2 = leaves-less o o1 o2 whole _ (32 ∷ []) (digits ++ (10 ∷ [])) left1 refl c.in_ok-write_whole-2.ensures in
    subst (Writes o o3 c.from_residual-in_err-write_hex.result)
    (ap (λ b. line c.text.result (encode_lower b)) c.bytes.ensures ∙ is_line g.D.Digest.digest_of c.args.block.now c.text.result c.cid.result c.cid.ensures c.text.ensures.value)
    (stops o o2 o3 whole _ digits (10 ∷ []) c.from_residual-in_err-write_hex.result left2 refl c.from_residual-in_err-write_hex.ensures.0 c.in_err-write_hex.ensures)

pub returns : goal.returns
returns g c =
    let o = g.W.Write.contents c.args.out.now in
    let o1 = g.W.Write.contents c.write_whole.new.out in
    let o2 = g.W.Write.contents c.write_whole-2.new.out in
    let o3 = g.W.Write.contents c.write_hex.new.out in
    let o4 = g.W.Write.contents c.write_whole-3.new.out in
    let digits = encode_lower c.bytes.result.now in
    let whole = line c.text.result digits in
    let left1 = leaves-less o o o1 whole whole c.text.result _ (leaves-all o whole) (parts c.text.result digits) c.in_ok-write_whole.ensures in
    let left2 = leaves-less o o1 o2 whole _ (32 ∷ []) (digits ++ (10 ∷ [])) left1 refl c.in_ok-write_whole-2.ensures in
    let left3 = leaves-less o o2 o3 whole _ digits (10 ∷ []) left2 refl c.in_ok-write_hex.ensures in
    subst (Writes o o4 c.write_whole-3.result)
    (ap (λ b. line c.text.result (encode_lower b)) c.bytes.ensures ∙ is_line g.D.Digest.digest_of c.args.block.now c.text.result c.cid.result c.cid.ensures c.text.ensures.value)
    (ends o o3 o4 whole (10 ∷ []) c.write_whole-3.result left3 c.write_whole-3.ensures)
