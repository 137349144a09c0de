-- A node that is read.
use Rattle.std.proofs.Common.{◌≡◌, ℕ, List, [], ◌∷◌, ◌++◌, sym, ap, ◌∙◌, Option}
use Rattle.std.specs.Prelude.{option_map, option_and_then, Result, Ok, Err}
use Rattle.std.specs.Arc.{arc_value}
use Rattle.std.specs.declared.sync.Arc.{Arc}
use Rattle.std.specs.declared.option.Option.TheVariants.{Some}
use Rattle.spec.specs.NodeFormat.{Shape, Entry, NodeFault, read_node}
use Rattle.node.specs.Contents.{Contents}
use Rattle.edit_laws.specs.Sources.{shape_of_bytes, shape_of_reading}
use Rattle.rows.specs.Entries.{shape_of}
use Rattle.block.specs.Nodes.{contents_of}
use Rattle.lookups.specs.Steps.{nodes_given}
use Rattle.batch_laws.specs.Links.{LinkClear, ask, log_shown}
use Rattle.edit.specs.States.{shapes_in}
use Rattle.edit.proofs.Making.{shape_in-shown, shapes-snoc}

pub shape-read : (r : Result (Option (List ℕ) × List Entry) NodeFault) (v : Contents) → Some v ≡ contents_of r
    → shape_of_reading r ≡ Some (shape_of v)
shape-read (Ok n) v h =
    let e : record { left = n.0; entries = n.1 } ≡ v = cc in
    ap (λ x. Some (shape_of x)) e
shape-read (Err f) v h = absurd cc

pub node-read : {A : Type 0} (gives : List ℕ → Option (Arc (List ℕ) A)) (c : List ℕ) (x : Arc (List ℕ) A) (v : Contents)
    (read new : List (Arc (List ℕ) A)) (made : List Shape) → Some x ≡ gives c
    → Some v ≡ contents_of (read_node (arc_value x)) → new ≡ read ++ (x ∷ [])
    → ask (nodes_given gives) c LinkClear (record { read = shapes_in read; made = made })
    ≡ Ok (shape_of v, record { read = shapes_in new; made = made })
node-read gives c x v read new made g h n =
    let s : shape_of_bytes (arc_value x) ≡ Some (shape_of v) = shape-read (read_node (arc_value x)) v h in
    let shown : nodes_given gives c ≡ Some (shape_of v) =
    ap (λ o. option_and_then shape_of_bytes (option_map arc_value o)) (sym g) ∙ s in
    ap (λ o. log_shown c LinkClear o (record { read = shapes_in read; made = made })) shown
    ∙ ap (λ y. Ok (shape_of v, record { read = shapes_in read ++ (y ∷ []); made = made }))
    (sym (shape_in-shown (arc_value x) (shape_of v) s))
    ∙ ap (λ ys. Ok (shape_of v, record { read = ys; made = made })) (sym (ap shapes_in n ∙ shapes-snoc read x))
