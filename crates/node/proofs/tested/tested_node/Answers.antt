use Rattle.std.proofs.Common.{ℕ, List, option_map, IsOk, sym, ap, subst, ◌∙◌, arith}
use Rattle.std.proofs.lemmas.List.{take_rest}
use Rattle.spec.specs.NodeFormat.{argument_of, read_node}
use Rattle.cid.specs.CidRef.{bytes_of}
use Rattle.node.proofs.RowLaws.{all_read}
use Rattle.node.proofs.TestedNodes.{front-again, node-again}
use Rattle.node.proofs.tested.tested_node.Goals as goal

pub slice_bounds-tested_argument-count : goal.slice_bounds-tested_argument-count
slice_bounds-tested_argument-count c =
    let x = all_read (read_node c.args.bytes.now) c.requires in
    (front-again c.args.bytes.now x.0.0 x.0.1 x.1).long

pub slice_bounds-tested_argument-start : goal.slice_bounds-tested_argument-start
slice_bounds-tested_argument-start c =
    let x = all_read (read_node c.args.bytes.now) c.requires in
    (front-again c.args.bytes.now x.0.0 x.0.1 x.1).long

pub tested_argument-count-requires : goal.tested_argument-count-requires
tested_argument-count-requires c =
    let bytes = c.args.bytes.now in
    let x = all_read (read_node bytes) c.requires in
    subst (λ (y : List ℕ). IsOk (argument_of 4 y)) (sym (take_rest bytes 3)) (front-again bytes x.0.0 x.0.1 x.1).read

pub returns-clause-node : goal.returns-clause-node
returns-clause-node c =
    let bytes = c.args.bytes.now in
    let n : ℕ × List ℕ = (c.tested_argument-count.result.0, c.tested_argument-count.result.1.now) in
    let n_is = ap (argument_of 4) (sym (take_rest bytes 3)) ∙ c.tested_argument-count.ensures in
    (node-again bytes (option_map bytes_of c.tested_left-left.result) n (λ i. omega (arith, c.type_inv.bytes i)) c.requires c.tested_left-left.ensures n_is).node

pub returns-clause-read : goal.returns-clause-read
returns-clause-read c =
    let bytes = c.args.bytes.now in
    let n : ℕ × List ℕ = (c.tested_argument-count.result.0, c.tested_argument-count.result.1.now) in
    let n_is = ap (argument_of 4) (sym (take_rest bytes 3)) ∙ c.tested_argument-count.ensures in
    (node-again bytes (option_map bytes_of c.tested_left-left.result) n (λ i. omega (arith, c.type_inv.bytes i)) c.requires c.tested_left-left.ensures n_is).read
