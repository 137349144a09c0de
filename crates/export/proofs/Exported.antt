-- What is written over a source that has a repository's blocks is the repository's CAR.
use Rattle.std.proofs.Common.{◌≡◌, ℕ, zero, suc, true, false, cond, List, [], ◌∷◌, ◌++◌, refl, sym, ap, ◌∙◌, append_assoc, arith, Option, None}
use Rattle.std.specs.declared.option.Option.TheVariants.{Some}
use Rattle.std.specs.Prelude.{Contains, option_and_then}
use Rattle.std.specs.List.{cons_option, flat_map}
use Rattle.std.specs.Cmp.Lexicographic.{slice_cmp, nat_list_cmp_total}
use Rattle.std.specs.Ordering.{nat_cmp, is_lt, is_eq, eq_by_cmp, ordering_reverse}
use Rattle.std.specs.declared.cmp.Ordering.{Ordering}
use Rattle.std.specs.declared.cmp.Ordering.TheVariants.{Less, Equal, Greater}
use Rattle.std.specs.FinMap.{find, is_sorted}
use Rattle.std.specs.FinMap.Entries.{below_all}
use Rattle.std.proofs.lemmas.Bool.{ltb-false}
use Rattle.std.proofs.lemmas.Cmp.{tied_itself}
use Rattle.spec.specs.Cid.{cid, IsDigest}
use Rattle.spec.specs.Layer.{layer}
use Rattle.spec.specs.Tree.{Pair, Node, Last, More, Part, Nothing, Sub, EachNode, EachUnder, top, pairs_in, pairs_under}
use Rattle.spec.specs.NodeFormat.{node_bytes, part_link, shape, shape_bytes, shape_cid}
use Rattle.spec.specs.Blocks.{ArePairs, blocks, blocks_in, blocks_under, nodes, pairs, record_at, record_blocks}
use Rattle.spec.specs.Car.{car_of}
use Rattle.spec.specs.Commits.{car_root, commit_blocks, commit_bytes, commit_cid}
use Rattle.spec.specs.Stamps.{Stamp}
use Rattle.spec.specs.States.{State, last_stamp, records, state_blocks, state_car, state_commit, state_root}
use Rattle.spec.proofs.Bools.{both, from_T}
use Rattle.spec.proofs.RepositoryBlocks.{further-in, record-in}
use Rattle.spec.proofs.RootLaws.{in_head, in_tail, stands-top}
use Rattle.spec.proofs.SameTree.{Stands}
use Rattle.spec.proofs.TreeLaws.{pairs-top}
use Rattle.spec.proofs.VerifyLaws.{each-part_is}
use Rattle.spec.proofs.WriteLaws.{is_sorted-leaves}
use Rattle.edit_laws.specs.Pairs.{Each}
use Rattle.spec.specs.Sources.{HasBlocks, HasNodes}
use Rattle.edit_laws.specs.Sources.{shape_of_bytes, shown_by}
use Rattle.edit_laws.proofs.EachPair.{each-parts}
use Rattle.edit_laws.proofs.LookupTheorems.{top-has_layer, within-bound}
use Rattle.edit_laws.proofs.OverSource.{shape_of_bytes-shape_bytes}
use Rattle.edit_laws.proofs.Within.{AllWithin, IsWithin}
use Rattle.lookups.specs.Steps.{layers}
use Rattle.lookups.specs.Trees.{HasTree}
use Rattle.export.specs.Walks.{blocks_at, blocks_met, car_met, cids_from, cids_in, cids_of, commit_block}
use Rattle.export.specs.Founds.{may_repeat}
use Rattle.export.specs.Once.{AreSingle}
use Rattle.edit_laws.specs.Uses.{uses}

flat-append : {X Y : Type 0} (f : X → List Y) (xs ys : List X) → flat_map f (xs ++ ys) ≡ flat_map f xs ++ flat_map f ys
flat-append f [] ys = refl
flat-append f (x ∷ xs) ys = ap (λ t. f x ++ t) (flat-append f xs ys) ∙ sym (append_assoc (f x) (flat_map f xs) (flat_map f ys))

-- ---- a walk over a tree comes to its nodes and records

module _ (digest : List ℕ → List ℕ) (gives : List ℕ → Option (List ℕ)) (standing : List ℕ → List (List ℕ)) where
  -- a node's block is given, and shows the node
  abbrev IsGiven : Node → Type 0
  IsGiven m =
      (gives (shape_cid digest (shape digest m)) ≡ Some (node_bytes digest m))
      × (shown_by gives (shape_cid digest (shape digest m)) ≡ Some (shape digest m))

  -- what is given for a pair's value is what stands for its record
  abbrev IsRecord : Pair → Type 0
  IsRecord e = cons_option (gives e.1) [] ≡ standing e.0

  abbrev from : ℕ → Option (List ℕ) → List (List ℕ)
  from n = cids_from (shown_by gives) n

  mutual
    part-blocks : (n : ℕ) (p : Part) → IsWithin n p → EachNode IsGiven p → Each IsRecord (pairs_in p)
        → blocks_at gives (from n (part_link digest p)) ≡ blocks_in digest standing p
    part-blocks zero Nothing w h k = refl
    part-blocks (suc n) Nothing w h k = refl
    part-blocks zero (Sub m) w h k = absurd w
    part-blocks (suc n) (Sub m) w h k =
        ap (λ o. cons_option o [] ++ blocks_at gives (cids_in (from n) (shown_by gives (shape_cid digest (shape digest m))))) h.0.0
        ∙ ap (λ o. node_bytes digest m ∷ blocks_at gives (cids_in (from n) o)) h.0.1
        ∙ ap (λ t. node_bytes digest m ∷ t) (node-blocks n m w h.1 k)

    node-blocks : (n : ℕ) (m : Node) → AllWithin n m → EachUnder IsGiven m → Each IsRecord (pairs_under m)
        → blocks_at gives (cids_of (from n) (shape digest m)) ≡ blocks_under digest standing m
    node-blocks n (Last p) w h k = part-blocks n p w h k
    node-blocks n (More p e r) w h k =
        let each = each-parts IsRecord (pairs_in p) (e ∷ pairs_under r) k in
        let rest = blocks_at gives (cids_of (from n) (shape digest r)) in
        flat-append (λ c. cons_option (gives c) []) (from n (part_link digest p)) (e.1 ∷ cids_of (from n) (shape digest r))
        ∙ ap (λ t. t ++ (cons_option (gives e.1) [] ++ rest)) (part-blocks n p w.0 h.0 each.0)
        ∙ ap (λ t. blocks_in digest standing p ++ (t ++ rest)) each.1.0
        ∙ ap (λ t. blocks_in digest standing p ++ (standing e.0 ++ t)) (node-blocks n r w.1 h.1 each.1.1)
        ∙ sym (append_assoc (blocks_in digest standing p) (standing e.0) (blocks_under digest standing r))

-- ---- each key of an ascending map finds its record

abbrev Finds : List Pair → Pair → Type 0
Finds m e = find (slice_cmp nat_cmp) e.0 m ≡ Some e.1

less_is : (o : Ordering) → is_lt o ≡ true → o ≡ Less
less_is Less h = refl
less_is Equal h = absurd cc
less_is Greater h = absurd cc

apart : (k q : List ℕ) → is_lt (slice_cmp nat_cmp k q) ≡ true → eq_by_cmp (slice_cmp nat_cmp) q k ≡ false
apart k q h = ap is_eq (nat_list_cmp_total.antisymm q k ∙ ap ordering_reverse (less_is _ h))

finds-later : (x : Pair) (m es : List Pair) → below_all (slice_cmp nat_cmp) x.0 es ≡ true → Each (Finds m) es → Each (Finds (x ∷ m)) es
finds-later x m [] b h = tt
finds-later x m (e ∷ es) b h =
    let p = both (is_lt (slice_cmp nat_cmp x.0 e.0)) (below_all (slice_cmp nat_cmp) x.0 es) b in
    (ap (λ t. cond t (Some x.1) (find (slice_cmp nat_cmp) e.0 m)) (apart x.0 e.0 p.0) ∙ h.0, finds-later x m es p.1 h.1)

finds-each : (m : List Pair) → is_sorted (slice_cmp nat_cmp) m ≡ true → Each (Finds m) m
finds-each [] s = tt
finds-each (x ∷ m) s =
    let p = both (below_all (slice_cmp nat_cmp) x.0 m) (is_sorted (slice_cmp nat_cmp) m) s in
    (ap (λ o. cond (is_eq o) (Some x.1) (find (slice_cmp nat_cmp) x.0 m)) (tied_itself nat_list_cmp_total x.0), finds-later x m m p.0 (finds-each m p.1))

-- ---- over a source that has a repository's blocks

module _ (digest : List ℕ → List ℕ) (gives : List ℕ → Option (List ℕ)) where
  given-top : (bits : ℕ) → IsDigest digest → (es : List Pair) → ArePairs es → HasNodes digest bits gives es
      → EachNode (IsGiven digest gives (λ key. [])) (Sub (top (layer digest bits) es))
  given-top bits fits es are has =
      each-part_is _ _
      (λ (m : Node) (s : Stands (Contains (nodes digest bits es)) (shape digest m)). (
        has (shape_bytes (shape digest m)) s.0,
        ap (option_and_then shape_of_bytes) (has (shape_bytes (shape digest m)) s.0) ∙ shape_of_bytes-shape_bytes (shape digest m) s.1,
      ))
      (Sub (top (layer digest bits) es)) (stands-top digest bits fits es are (nodes digest bits es) (λ b h. h))

  each-record : (m es : List (List ℕ × List ℕ)) → Each (Finds m) es
      → ((b : List ℕ) → Contains (record_blocks es) b → gives (cid digest b) ≡ Some b)
      → Each (IsRecord digest gives (record_at m)) (pairs digest es)
  each-record m [] h k = tt
  each-record m (e ∷ es) h k = (
    ap (λ o. cons_option o []) (k e.1 (in_head e.1 (record_blocks es)) ∙ sym h.0),
    each-record m es h.1 (λ b c. k b (in_tail e.1 b (record_blocks es) c)),
  )

  commit-is : (stamp : Option Stamp) (root : List ℕ) → HasBlocks digest gives (commit_blocks stamp root)
      → commit_block gives (commit_cid digest stamp root) ≡ commit_blocks stamp root
  commit-is None root has = refl
  commit-is (Some s) root has = ap (λ o. cons_option o []) (has (commit_bytes s root) (in_head (commit_bytes s root) []))

  module _ (bits : ℕ) (fits : IsDigest digest) (s : State) (has : HasBlocks digest gives (state_blocks digest bits s))
      (tree : HasTree digest bits gives (state_root digest bits s) (pairs digest (records s))) where
    abbrev further : List (List ℕ)
    further = commit_blocks (last_stamp s) (state_root digest bits s)

    sorted : is_sorted (slice_cmp nat_cmp) (records s) ≡ true
    sorted = from_T _ (is_sorted-leaves s.accepted)

    of-records : Each (IsRecord digest gives (record_at (records s))) (pairs digest (records s))
    of-records =
        each-record (records s) (records s) (finds-each (records s) sorted)
        (λ b h. has b (record-in digest bits further (records s) sorted b h))

    of-commit : commit_block gives (state_commit digest bits s) ≡ further
    of-commit =
        commit-is (last_stamp s) (state_root digest bits s)
        (λ b h. has b (further-in digest bits further (records s) sorted b h))

    of-tree : blocks_at gives (cids_from (shown_by gives) (layers bits) (Some (state_root digest bits s)))
        ≡ blocks_in digest (record_at (records s)) (Sub (top (layer digest bits) (pairs digest (records s))))
    of-tree =
        let es = pairs digest (records s) in
        let t = top (layer digest bits) es in
        let low = top-has_layer digest bits fits es in
        part-blocks digest gives (record_at (records s)) (layers bits) (Sub t)
        (within-bound (layer digest bits) (layers bits) es (omega (arith, low)))
        (given-top bits fits es tree.pairs tree.nodes)
        (rw (pairs-top (layer digest bits) es) of-records)

    blocks-is : blocks_met gives (layers bits) (state_commit digest bits s) (state_root digest bits s) ≡ state_blocks digest bits s
    blocks-is =
        ap (λ bs. bs ++ blocks_at gives (cids_from (shown_by gives) (layers bits) (Some (state_root digest bits s)))) of-commit
        ∙ ap (λ bs. further ++ bs) of-tree

    car-is : car_met digest gives (layers bits) (state_commit digest bits s) (state_root digest bits s) ≡ state_car digest bits s
    car-is = ap (car_of digest (car_root (state_commit digest bits s) (state_root digest bits s))) blocks-is

    -- without the commit they are the nodes and the records
    pub tree-met : (root : List ℕ) → root ≡ state_root digest bits s → blocks_met gives (layers bits) None root ≡ blocks digest bits [] (records s)
    tree-met root f = ap (λ r. blocks_met gives (layers bits) None r) f ∙ of-tree

    module _ (commit : Option (List ℕ)) (root : List ℕ) (e : commit ≡ state_commit digest bits s) (f : root ≡ state_root digest bits s) where
      -- what is written where the root and the commit are asked for first
      pub car-met : car_met digest gives (layers bits) commit root ≡ state_car digest bits s
      car-met =
          ap (λ c. car_met digest gives (layers bits) c root) e
          ∙ ap (λ r. car_met digest gives (layers bits) (state_commit digest bits s) r) f ∙ car-is

      blocks-met : blocks_met gives (layers bits) commit root ≡ state_blocks digest bits s
      blocks-met =
          ap (λ c. blocks_met gives (layers bits) c root) e
          ∙ ap (λ r. blocks_met gives (layers bits) (state_commit digest bits s) r) f ∙ blocks-is

      -- what a repository uses no more than once stands there no more than once
      pub single-met : AreSingle digest (may_repeat digest bits s) (blocks_met gives (layers bits) commit root)
      single-met c h =
          let k = ap (uses digest c) blocks-met in
          let l = ltb-false 1 (uses digest c (state_blocks digest bits s)) h in
          omega arith
