-- Lists that are answered, block by block.
use Rattle.std.proofs.Common.{◌≡◌, ℕ, ◌+◌, ◌<◌, List, [], ◌∷◌, ◌++◌, length, get_or, take, map, sym, ap, refl, subst, ◌∙◌, arith, Option}
use Rattle.std.proofs.lemmas.List.{length-map, map-append, take_all, take_more}
use Rattle.std.specs.Arc.{arc_value}
use Rattle.std.specs.declared.sync.Arc.{Arc}
use Rattle.spec.specs.Cid.{cid}
use Rattle.spec.specs.NodeFormat.{LastLink, shape_bytes}
use Rattle.spec.specs.Tree.{Pair}
use Rattle.edit_laws.specs.Pairs.{Ascending}
use Rattle.batch_laws.specs.Links.{onto_links}
use Rattle.difference_laws.specs.Lines.{Side, links_in, pairs_of}
use Rattle.difference.specs.Differences.{IsUnended}
use Rattle.difference.specs.Merged.{IsUnsorted, pair_of, pairs_in}
use Rattle.difference.specs.declared.line.Row.{Row}
use Rattle.difference.specs.declared.faults.DifferenceFault.{DifferenceFault}
use Rattle.difference.specs.declared.faults.DifferenceFault.TheVariants.{BlockMissing, BadNode, TooDeep, NotTree, NoMemory}
use Rattle.rows.specs.Drafts.{shape_in}
use Rattle.difference.specs.Sides.{rows_of, shapes_in}

module _ {A : Type 0} (blocks : List (Arc (List ℕ) A)) (i : ℕ) (x : Arc (List ℕ) A) (short : i < length blocks)
    (is : x ≡ get_or blocks i x) (spelled : arc_value x ≡ shape_bytes (shape_in (arc_value x))) where
  bytes-more : map shape_bytes (shapes_in (take (i + 1) blocks)) ≡ map shape_bytes (shapes_in (take i blocks)) ++ (arc_value x ∷ [])
  bytes-more =
      ap (λ (z : List (Arc (List ℕ) A)). map shape_bytes (shapes_in z))
      (take_more blocks i x short ∙ ap (λ y. take i blocks ++ (y ∷ [])) (sym is))
      ∙ ap (map shape_bytes) (map-append (λ b. shape_in (arc_value b)) (take i blocks) (x ∷ []))
      ∙ map-append shape_bytes (shapes_in (take i blocks)) (shape_in (arc_value x) ∷ [])
      ∙ ap (λ b. map shape_bytes (shapes_in (take i blocks)) ++ (b ∷ [])) (sym spelled)

  pub cids-more : (digest : List ℕ → List ℕ) (old new : List (List ℕ)) (c : List ℕ)
      → old ≡ map (cid digest) (map shape_bytes (shapes_in (take i blocks))) → new ≡ old ++ (c ∷ [])
      → c ≡ cid digest (arc_value x) → new ≡ map (cid digest) (map shape_bytes (shapes_in (take (i + 1) blocks)))
  cids-more digest old new c h q e =
      q ∙ (λ j. h j ++ (e j ∷ []))
      ∙ sym (map-append (cid digest) (map shape_bytes (shapes_in (take i blocks))) (arc_value x ∷ []))
      ∙ ap (map (cid digest)) (sym bytes-more)

  pub shared-more : (old new : List (Arc (List ℕ) A)) (y : Arc (List ℕ) A)
      → map arc_value old ≡ map shape_bytes (shapes_in (take i blocks)) → new ≡ old ++ (y ∷ []) → arc_value y ≡ arc_value x
      → map arc_value new ≡ map shape_bytes (shapes_in (take (i + 1) blocks))
  shared-more old new y h q e =
      ap (map arc_value) q ∙ map-append arc_value old (y ∷ []) ∙ (λ j. h j ++ (e j ∷ [])) ∙ sym bytes-more

pub all-cids : {A : Type 0} (digest : List ℕ → List ℕ) (blocks : List (Arc (List ℕ) A)) (n : ℕ) → n ≡ length blocks
    → map (cid digest) (map shape_bytes (shapes_in (take n blocks))) ≡ map (cid digest) (map shape_bytes (shapes_in blocks))
all-cids {A = A} digest blocks n e =
    ap (λ (z : List (Arc (List ℕ) A)). map (cid digest) (map shape_bytes (shapes_in z))) (take_all n blocks (omega (arith, e)))

pub all-bytes : {A : Type 0} (blocks : List (Arc (List ℕ) A)) (n : ℕ) → n ≡ length blocks
    → map shape_bytes (shapes_in (take n blocks)) ≡ map shape_bytes (shapes_in blocks)
all-bytes {A = A} blocks n e =
    ap (λ (z : List (Arc (List ℕ) A)). map shape_bytes (shapes_in z)) (take_all n blocks (omega (arith, e)))

pub come-length : {A : Type 0} (come read : List (Arc (List ℕ) A)) → map arc_value come ≡ map shape_bytes (shapes_in read)
    → length come ≡ length read
come-length come read h =
    sym (length-map come arc_value) ∙ ap length h ∙ length-map (shapes_in read) shape_bytes
    ∙ length-map read (λ b. shape_in (arc_value b))

pub go-length : {A : Type 0} (digest : List ℕ → List ℕ) (go : List (List ℕ)) (read : List (Arc (List ℕ) A))
    → go ≡ map (cid digest) (map shape_bytes (shapes_in read)) → length go ≡ length read
go-length digest go read h =
    ap length h ∙ length-map (map shape_bytes (shapes_in read)) (cid digest) ∙ length-map (shapes_in read) shape_bytes
    ∙ length-map read (λ b. shape_in (arc_value b))

-- ---- the ends of two lines

pub left-none : (xs ys : List (List ℕ)) → xs ++ ys ≡ [] → xs ≡ []
left-none [] ys e = refl
left-none (x ∷ xs) ys e = absurd cc

pub right-none : (xs ys : List (List ℕ)) → xs ++ ys ≡ [] → ys ≡ []
right-none [] ys e = e
right-none (x ∷ xs) ys e = absurd cc

pub pairs-line : {A : Type 0} (rs : List (Row A)) (l : Option (List ℕ))
    → pairs_of (onto_links (rows_of rs) (LastLink l)) ≡ pairs_in rs
pairs-line [] l = refl
pairs-line (r ∷ rs) l = ap (λ t. pair_of r ∷ t) (pairs-line rs l)

pub unsorted-end : (a b : Side) (es fs : List Pair) (fault : DifferenceFault) → links_in a.line ≡ [] → links_in b.line ≡ []
    → pairs_of a.line ≡ es → pairs_of b.line ≡ fs → IsUnsorted es fs fault → IsUnended a b fault
unsorted-end a b es fs (BlockMissing c) p q r s h = h
unsorted-end a b es fs (BadNode c) p q r s h = h
unsorted-end a b es fs TooDeep p q r s h = absurd h
unsorted-end a b es fs NotTree p q r s h = (p, q, λ k. h (subst Ascending r k.0, subst Ascending s k.1))
unsorted-end a b es fs NoMemory p q r s h = tt
