-- The links beside a key, from the shapes of the nodes on its path.
use Rattle.std.proofs.Common.{◌≡◌, ℕ, zero, suc, ◌+◌, Bool, true, false, cond, nat_eq, List, [], ◌∷◌, ◌++◌, length, map, refl, Option, None, arith}
use Rattle.std.proofs.lemmas.Bool.{eq-eqb, ne_eqb}
use Rattle.std.specs.declared.cmp.Ordering.{Ordering}
use Rattle.std.specs.declared.cmp.Ordering.TheVariants.{Less, Equal, Greater}
use Rattle.edit_laws.specs.Order.{order}
use Rattle.spec.specs.Tree.{Pair, Node, Part, Last, More, Nothing, Sub}
use Rattle.edit_laws.specs.TreeEdit.{first, Place, further, locate, open_part}
use Rattle.edit_laws.specs.Trace.{nodes_of, delete_path_nodes, lowest_at, beside}
use Rattle.spec.specs.NodeFormat.{Shape, part_link, shape, first_link}
use Rattle.edit_laws.specs.ShapeEdit.{head_shape, tail_shapes, links_beside, links_beside_at, path_links, last_shape}
use Rattle.edit_laws.proofs.ShapeBridges as bridge
use Rattle.edit_laws.proofs.Within.{AllWithin, within-locate, within-open, within-rest}
use Rattle.edit_laws.proofs.Traces.{nodes-none}

-- on a path of this length they stand in its last node
pub links-same : (j n : ℕ) (key : List ℕ) (s : Shape) (path : List Shape) → n ≡ length path + j
    → path_links j n key s path ≡ links_beside key (last_shape s path)
links-same j zero key s [] e = refl
links-same j (suc n) key s [] e = rw (eq-eqb j (suc n) (omega arith)) refl
links-same j zero key s (t ∷ path) e = absurd (omega arith)
links-same j (suc n) key s (t ∷ path) e =
    let q : n ≡ length path + j = omega arith in
    rw (ne_eqb j (suc n) (λ h. omega arith)) (links-same j n key t path q)

module _ (digest : List ℕ → List ℕ) where
  open-head : (layer : List ℕ → ℕ) (n : ℕ) (key : List ℕ) (g : Part)
      → head_shape (map (shape digest) (nodes_of g ++ delete_path_nodes layer n key (open_part g)))
      ≡ shape digest (open_part g)
  open-head layer n key Nothing = rw (nodes-none layer n key)
  open-head layer n key (Sub m) = refl

  open-tail : (layer : List ℕ → ℕ) (n : ℕ) (key : List ℕ) (g : Part)
      → tail_shapes (map (shape digest) (nodes_of g ++ delete_path_nodes layer n key (open_part g)))
      ≡ map (shape digest) (delete_path_nodes layer n key (open_part g))
  open-tail layer n key Nothing = rw (nodes-none layer n key)
  open-tail layer n key (Sub m) = refl

  -- ---- the links beside the key

  row-further : (key : List ℕ) (o : Ordering) (g : Part) (e : Pair) (r : Node) (q : Place)
      (further_links : Option (List ℕ) × Option (List ℕ)) → order e.0 key ≡ o
      → further_links ≡ beside key q.here (λ a b. (part_link digest a, part_link digest b)) (None, None)
      → links_beside_at o (part_link digest g) (first_link (shape digest r)) further_links
      ≡ beside key (further o g e r q).here (λ a b. (part_link digest a, part_link digest b)) (None, None)
  row-further key Less g e r q l h i = i
  row-further key Equal g e r q l h i = rw (h, bridge.link-first digest r) refl
  row-further key Greater g e r q l h i = rw h refl

  links-row : (key : List ℕ) (m : Node)
      → links_beside key (shape digest m)
      ≡ beside key (locate key m).here (λ a b. (part_link digest a, part_link digest b)) (None, None)
  links-row key (Last p) = refl
  links-row key (More g e r) =
      row-further key (order e.0 key) g e r (locate key r) (links_beside key (shape digest r)) refl (links-row key r)

  abbrev pub two_links : (List ℕ → ℕ) → ℕ → List ℕ → Node → Option (List ℕ) × Option (List ℕ)
  two_links layer n key m = let r = lowest_at layer n key m in
      beside key r.1 (λ a b. (part_link digest a, part_link digest b)) (None, None)

  abbrev PathLinks : (List ℕ → ℕ) → List ℕ → ℕ → Type 0
  PathLinks layer key n = (m : Node)
      → path_links (layer key) n key (shape digest m) (map (shape digest) (delete_path_nodes layer n key m))
      ≡ two_links layer n key m

  path-cases : (layer : List ℕ → ℕ) (key : List ℕ) (n : ℕ) → PathLinks layer key n → (b : Bool) (m : Node)
      → let h = (locate key m).here in
      let g = first h in
      let path = map (shape digest) (cond b [] (nodes_of g ++ delete_path_nodes layer n key (open_part g))) in
      let r = cond b (suc n, h) (lowest_at layer n key (open_part g)) in
      cond b (links_beside key (shape digest m)) (path_links (layer key) n key (head_shape path) (tail_shapes path))
      ≡ beside key r.1 (λ a b. (part_link digest a, part_link digest b)) (None, None)
  path-cases layer key n ih true m = links-row key m
  path-cases layer key n ih false m =
      let g = first (locate key m).here in rw (open-head layer n key g, open-tail layer n key g) (ih (open_part g))

  pub links-path : (layer : List ℕ → ℕ) (key : List ℕ) (n : ℕ) → PathLinks layer key n
  links-path layer key zero m = links-row key m
  links-path layer key (suc n) m = path-cases layer key n (links-path layer key n) (nat_eq (layer key) (suc n)) m

  within-cases : (layer : List ℕ → ℕ) (key : List ℕ) (n : ℕ) (h : Node) (r : ℕ × Node) (b : Bool)
      → AllWithin (suc n) h → AllWithin r.0 r.1 → let s = cond b (suc n, h) r in AllWithin s.0 s.1
  within-cases layer key n h r true k i = k
  within-cases layer key n h r false k i = i

  pub within-row : (layer : List ℕ → ℕ) (key : List ℕ) (n : ℕ) (m : Node) → AllWithin n m
      → AllWithin (lowest_at layer n key m).0 (lowest_at layer n key m).1
  within-row layer key zero m h = within-locate zero key m h
  within-row layer key (suc n) m h =
      let g = first (locate key m).here in
      within-cases layer key n (locate key m).here (lowest_at layer n key (open_part g)) (nat_eq (layer key) (suc n))
      (within-locate (suc n) key m h)
      (within-row layer key n (open_part g) (within-open n g (within-rest (suc n) key m h)))
