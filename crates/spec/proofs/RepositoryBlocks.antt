-- The blocks of a repository are its further ones, the nodes of its tree and its records.
use Rattle.std.proofs.Common.{◌≡◌, ℕ, ◌+◌, ◌<◌, Bool, true, false, cond, List, [], ◌∷◌, ◌++◌}
use Rattle.std.proofs.Common.{refl, sym, ap, subst, ◌∙◌, arith, inl, inr, Option, None}
use Rattle.std.specs.declared.option.Option.TheVariants.{Some}
use Rattle.std.specs.declared.cmp.Ordering.{Ordering}
use Rattle.std.specs.declared.cmp.Ordering.TheVariants.{Less, Equal, Greater}
use Rattle.std.specs.Prelude.{Contains, ◌⊎◌}
use Rattle.std.specs.List.{flat_map, cons_option, AllByRecursion}
use Rattle.std.specs.Str.{bytes_eq}
use Rattle.std.specs.Cmp.Lexicographic.{slice_cmp, nat_list_cmp_total}
use Rattle.std.specs.Ordering.{nat_cmp, is_lt, is_eq, eq_by_cmp, ordering_reverse}
use Rattle.std.specs.FinMap.{find, is_sorted}
use Rattle.std.specs.FinMap.Entries.{below_all}
use Rattle.std.proofs.lemmas.Cmp.{tied_itself}
use Rattle.std.proofs.lemmas.List.Elements.{Contains-append_left, Contains-append_right, Contains-append_cases}
use Rattle.std.proofs.lemmas.Slice.Eq.{bytes_eq-Decides}
use Rattle.spec.specs.Cid.{cid}
use Rattle.spec.specs.Layer.{layer}
use Rattle.spec.specs.Tree.{Pair, Node, Last, More, Part, Nothing, Sub, top, pairs_in, pairs_under}
use Rattle.spec.specs.NodeFormat.{node_bytes}
use Rattle.spec.specs.Blocks.{blocks_in, blocks_under, no_record, nodes, blocks, pairs, record_at}
use Rattle.spec.specs.Blocks.{record_blocks, block_at}
use Rattle.spec.specs.Laws.Blocks.{parts, AddsUp, BlocksAreParts, BlocksAreTheseSets, BlockIsFound}
use Rattle.spec.proofs.Bools.{both}
use Rattle.spec.proofs.TreeLaws.{pairs-top}
use Rattle.spec.proofs.RootLaws.{in_head, in_tail}
use Rattle.spec.proofs.Once.{head_or_tail}

-- ---- nodes, and what stands for the records

-- what stands for the records of some pairs
abbrev stand_ins : (List ℕ → List (List ℕ)) → List Pair → List (List ℕ)
stand_ins records es = flat_map (λ e. records e.0) es

module _ (digest : List ℕ → List ℕ) (records : List ℕ → List (List ℕ)) (f : List (List ℕ) → ℕ) (add : AddsUp f) where
  stand_ins-append : (xs ys : List Pair) → f (stand_ins records (xs ++ ys)) ≡ f (stand_ins records xs) + f (stand_ins records ys)
  stand_ins-append [] ys = add [] (stand_ins records ys)
  stand_ins-append (x ∷ xs) ys =
      let i = stand_ins-append xs ys in
      let a = add (records x.0) (stand_ins records (xs ++ ys)) in
      let b = add (records x.0) (stand_ins records xs) in
      omega arith

  mutual
    sum-in : (p : Part) → f (blocks_in digest records p) ≡ f (blocks_in digest no_record p) + f (stand_ins records (pairs_in p))
    sum-in Nothing = add [] []
    sum-in (Sub m) =
        let i = sum-under m in
        let a = add (node_bytes digest m ∷ []) (blocks_under digest records m) in
        let b = add (node_bytes digest m ∷ []) (blocks_under digest no_record m) in
        omega arith

    sum-under : (m : Node) → f (blocks_under digest records m) ≡ f (blocks_under digest no_record m) + f (stand_ins records (pairs_under m))
    sum-under (Last p) = sum-in p
    sum-under (More p e r) =
        let i = sum-in p in
        let j = sum-under r in
        let nothing = add [] [] in
        let a = add (blocks_in digest records p ++ records e.0) (blocks_under digest records r) in
        let b = add (blocks_in digest records p) (records e.0) in
        let d = add (blocks_in digest no_record p ++ []) (blocks_under digest no_record r) in
        let g = add (blocks_in digest no_record p) [] in
        let h = stand_ins-append (pairs_in p) (e ∷ pairs_under r) in
        let k = add (records e.0) (stand_ins records (pairs_under r)) in
        omega arith

-- ---- each key of an ascending map finds its record

abbrev Finds : List Pair → Pair → Type 0
Finds m e = find (slice_cmp nat_cmp) e.0 m ≡ Some e.1

less_is : (o : Ordering) → is_lt o ≡ true → o ≡ Less
less_is Less h = refl
less_is Equal h = absurd cc
less_is Greater h = absurd cc

apart : (k q : List ℕ) → is_lt (slice_cmp nat_cmp k q) ≡ true → eq_by_cmp (slice_cmp nat_cmp) q k ≡ false
apart k q h = ap is_eq (nat_list_cmp_total.antisymm q k ∙ ap ordering_reverse (less_is _ h))

finds-later : (x : Pair) (m es : List Pair) → below_all (slice_cmp nat_cmp) x.0 es ≡ true → AllByRecursion (Finds m) es → AllByRecursion (Finds (x ∷ m)) es
finds-later x m [] b h = tt
finds-later x m (e ∷ es) b h =
    let p = both (is_lt (slice_cmp nat_cmp x.0 e.0)) (below_all (slice_cmp nat_cmp) x.0 es) b in
    (ap (λ t. cond t (Some x.1) (find (slice_cmp nat_cmp) e.0 m)) (apart x.0 e.0 p.0) ∙ h.0, finds-later x m es p.1 h.1)

finds-each : (m : List Pair) → is_sorted (slice_cmp nat_cmp) m ≡ true → AllByRecursion (Finds m) m
finds-each [] s = tt
finds-each (x ∷ m) s =
    let p = both (below_all (slice_cmp nat_cmp) x.0 m) (is_sorted (slice_cmp nat_cmp) m) s in
    (ap (λ o. cond (is_eq o) (Some x.1) (find (slice_cmp nat_cmp) x.0 m)) (tied_itself nat_list_cmp_total x.0), finds-later x m m p.0 (finds-each m p.1))

stand_ins-records : (digest : List ℕ → List ℕ) (m es : List Pair) → AllByRecursion (Finds m) es → stand_ins (record_at m) (pairs digest es) ≡ record_blocks es
stand_ins-records digest m [] h = refl
stand_ins-records digest m (e ∷ es) h =
    ap (λ o. cons_option o [] ++ stand_ins (record_at m) (pairs digest es)) h.0
    ∙ ap (λ (bs : List (List ℕ)). e.1 ∷ bs) (stand_ins-records digest m es h.1)

pub blocks-parts : BlocksAreParts
blocks-parts digest bits further m sorted f add =
    let tree = Sub (top (layer digest bits) (pairs digest m)) in
    let i = sum-in digest (record_at m) f add tree in
    let r : stand_ins (record_at m) (pairs_under (top (layer digest bits) (pairs digest m))) ≡ record_blocks m =
    ap (stand_ins (record_at m)) (pairs-top (layer digest bits) (pairs digest m)) ∙ stand_ins-records digest m m (finds-each m sorted) in
    let j = ap f r in
    let a = add further (blocks_in digest (record_at m) tree) in
    let b = add further (nodes digest bits (pairs digest m) ++ record_blocks m) in
    let d = add (nodes digest bits (pairs digest m)) (record_blocks m) in
    omega arith

-- ---- so they have the same elements

abbrev occurs : List ℕ → List (List ℕ) → ℕ
occurs b [] = 0
occurs b (x ∷ xs) = cond (bytes_eq b x) 1 0 + occurs b xs

occurs-adds : (b : List ℕ) → AddsUp (occurs b)
occurs-adds b [] ys = omega arith
occurs-adds b (x ∷ xs) ys = let i = occurs-adds b xs ys in omega arith

contains-case : (b x : List ℕ) (xs : List (List ℕ)) (t : Bool) → bytes_eq b x ≡ t → (0 < occurs b xs → Contains xs b) → 0 < cond t 1 0 + occurs b xs → Contains (x ∷ xs) b
contains-case b x xs true e i h = subst (λ y. Contains (x ∷ xs) y) (sym ((bytes_eq-Decides b x).0 e)) (in_head x xs)
contains-case b x xs false e i h = in_tail x b xs (i (omega arith))

contains-occurs : (b : List ℕ) (xs : List (List ℕ)) → 0 < occurs b xs → Contains xs b
contains-occurs b [] h = absurd (omega arith)
contains-occurs b (x ∷ xs) h = contains-case b x xs (bytes_eq b x) refl (contains-occurs b xs) h

occurs-contains : (b : List ℕ) (xs : List (List ℕ)) → Contains xs b → 0 < occurs b xs
occurs-contains b [] h = absurd (omega (arith, h.1))
occurs-contains b (x ∷ xs) h =
    elim (head_or_tail b x xs h) [
      | inl e ↦ let t : bytes_eq b x ≡ true = (bytes_eq-Decides b x).1 (sym e) in rw t (omega arith)
      | inr i ↦ let j = occurs-contains b xs i in omega arith
    ]

module _ (digest : List ℕ → List ℕ) (bits : ℕ) (further : List (List ℕ)) (m : List (List ℕ × List ℕ)) (sorted : is_sorted (slice_cmp nat_cmp) m ≡ true) where
  same : (b : List ℕ) → occurs b (blocks digest bits further m) ≡ occurs b (parts digest bits further m)
  same b = blocks-parts digest bits further m sorted (occurs b) (occurs-adds b)

  in-parts : (b : List ℕ) → Contains (blocks digest bits further m) b → Contains (parts digest bits further m) b
  in-parts b h = let i = occurs-contains b (blocks digest bits further m) h in let e = same b in contains-occurs b (parts digest bits further m) (omega arith)

  from-parts : (b : List ℕ) → Contains (parts digest bits further m) b → Contains (blocks digest bits further m) b
  from-parts b h = let i = occurs-contains b (parts digest bits further m) h in let e = same b in contains-occurs b (blocks digest bits further m) (omega arith)

  pub node-in : (b : List ℕ) → Contains (nodes digest bits (pairs digest m)) b → Contains (blocks digest bits further m) b
  node-in b h = from-parts b (Contains-append_right further _ b (Contains-append_left (nodes digest bits (pairs digest m)) (record_blocks m) b h))

  pub record-in : (b : List ℕ) → Contains (record_blocks m) b → Contains (blocks digest bits further m) b
  record-in b h = from-parts b (Contains-append_right further _ b (Contains-append_right (nodes digest bits (pairs digest m)) (record_blocks m) b h))

  pub further-in : (b : List ℕ) → Contains further b → Contains (blocks digest bits further m) b
  further-in b h = from-parts b (Contains-append_left further _ b h)

  -- what holds of each further block, each node and each record holds of each block
  pub each-part : (P : List ℕ → Type 0) → ((b : List ℕ) → Contains further b → P b) → ((b : List ℕ) → Contains (nodes digest bits (pairs digest m)) b → P b)
      → ((b : List ℕ) → Contains (record_blocks m) b → P b) → (b : List ℕ) → Contains (blocks digest bits further m) b → P b
  each-part P of_further of_node of_record b h =
      elim (Contains-append_cases further (nodes digest bits (pairs digest m) ++ record_blocks m) b (in-parts b h)) [
        | inl i ↦ of_further b i
        | inr i ↦ elim (Contains-append_cases (nodes digest bits (pairs digest m)) (record_blocks m) b i) [ inl j ↦ of_node b j | inr j ↦ of_record b j ]
      ]

abbrev Sets : (List ℕ → List ℕ) → ℕ → List (List ℕ) → List (List ℕ × List ℕ) → List ℕ → Type 0
Sets digest bits further m x = Contains further x ⊎ (Contains (nodes digest bits (pairs digest m)) x ⊎ Contains (record_blocks m) x)

from-sets : (digest : List ℕ → List ℕ) (bits : ℕ) (further : List (List ℕ)) (m : List (List ℕ × List ℕ)) → is_sorted (slice_cmp nat_cmp) m ≡ true → (b : List ℕ) → Sets digest bits further m b
    → Contains (blocks digest bits further m) b
from-sets digest bits further m sorted b (inl i) = further-in digest bits further m sorted b i
from-sets digest bits further m sorted b (inr (inl i)) = node-in digest bits further m sorted b i
from-sets digest bits further m sorted b (inr (inr i)) = record-in digest bits further m sorted b i

pub block-sets : BlocksAreTheseSets
block-sets digest bits further m sorted b =
    (λ h. each-part digest bits further m sorted (Sets digest bits further m) (λ x i. inl i) (λ x i. inr (inl i)) (λ x i. inr (inr i)) b h, from-sets digest bits further m sorted b)

-- ---- the block with a CID

differs : (digest : List ℕ → List ℕ) (c b : List ℕ) → bytes_eq (cid digest b) c ≡ false → cid digest b ≡ c → ⊥
differs digest c b e same = let t = (bytes_eq-Decides (cid digest b) c).1 same in absurd cc

none-case : (digest : List ℕ → List ℕ) (c b : List ℕ) (bs : List (List ℕ)) (t : Bool) → bytes_eq (cid digest b) c ≡ t → (cid digest b ≡ c → ⊥) → block_at digest c bs ≡ None
    → cond t (Some b) (block_at digest c bs) ≡ None
none-case digest c b bs true e n i = absurd (n ((bytes_eq-Decides (cid digest b) c).0 e))
none-case digest c b bs false e n i = i

-- there is none where no block has the CID
pub block-none : (digest : List ℕ → List ℕ) (c : List ℕ) (bs : List (List ℕ)) → ((b : List ℕ) → Contains bs b → cid digest b ≡ c → ⊥) → block_at digest c bs ≡ None
block-none digest c [] n = refl
block-none digest c (b ∷ bs) n =
    none-case digest c b bs (bytes_eq (cid digest b) c) refl (n b (in_head b bs)) (block-none digest c bs (λ x h. n x (in_tail b x bs h)))

some-case : (digest : List ℕ → List ℕ) (c x b : List ℕ) (bs : List (List ℕ)) (t : Bool) → bytes_eq (cid digest b) c ≡ t → (cid digest b ≡ c → b ≡ x) → cid digest x ≡ c
    → (b ≡ x) ⊎ Contains bs x → (Contains bs x → block_at digest c bs ≡ Some x) → cond t (Some b) (block_at digest c bs) ≡ Some x
some-case digest c x b bs true e one is h next = ap (λ (y : List ℕ). Some y) (one ((bytes_eq-Decides (cid digest b) c).0 e))
some-case digest c x b bs false e one is (inl same) next = absurd (differs digest c b e (ap (cid digest) same ∙ is))
some-case digest c x b bs false e one is (inr h) next = next h

-- and the only one with the CID is found
pub block-some : (digest : List ℕ → List ℕ) (c x : List ℕ) (bs : List (List ℕ)) → Contains bs x → cid digest x ≡ c
    → ((b : List ℕ) → Contains bs b → cid digest b ≡ c → b ≡ x) → block_at digest c bs ≡ Some x
block-some digest c x [] h is one = absurd (omega (arith, h.1))
block-some digest c x (b ∷ bs) h is one =
    some-case digest c x b bs (bytes_eq (cid digest b) c) refl (one b (in_head b bs)) is (head_or_tail x b bs h)
    (λ i. block-some digest c x bs i is (λ y j. one y (in_tail b y bs j)))

some_is : (x y : List ℕ) → ◌≡◌ {A = Option (List ℕ)} (Some x) (Some y) → x ≡ y
some_is x y e = cc

found-case : (digest : List ℕ → List ℕ) (c b x : List ℕ) (bs : List (List ℕ)) (t : Bool) → bytes_eq (cid digest x) c ≡ t → cond t (Some x) (block_at digest c bs) ≡ Some b
    → (block_at digest c bs ≡ Some b → Contains bs b × (cid digest b ≡ c)) → Contains (x ∷ bs) b × (cid digest b ≡ c)
found-case digest c b x bs true e h next =
    let same = some_is x b h in
    (subst (λ y. Contains (x ∷ bs) y) same (in_head x bs), subst (λ y. cid digest y ≡ c) same ((bytes_eq-Decides (cid digest x) c).0 e))
found-case digest c b x bs false e h next = let i = next h in (in_tail x b bs i.0, i.1)

block-found : (digest : List ℕ → List ℕ) (c b : List ℕ) (bs : List (List ℕ)) → block_at digest c bs ≡ Some b → Contains bs b × (cid digest b ≡ c)
block-found digest c b [] h = absurd cc
block-found digest c b (x ∷ bs) h = found-case digest c b x bs (bytes_eq (cid digest x) c) refl h (block-found digest c b bs)

pub block-is_found : BlockIsFound
block-is_found digest bs free c b =
    (block-found digest c b bs, λ h. block-some digest c b bs h.0 h.1 (λ y i e. free y b i h.0 (e ∙ sym h.1)))
