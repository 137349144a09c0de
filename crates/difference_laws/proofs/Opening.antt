-- A line of a tree with subtrees in the place of links; over a source that shows its nodes, links do what subtrees do.
use Rattle.std.proofs.Common.{◌≡◌, ℕ, Bool, true, false, List, [], ◌∷◌, ◌++◌, map, refl, sym, ap, append_assoc, Option, Ok}
use Rattle.std.proofs.lemmas.List.{append-nil}
use Rattle.std.specs.declared.option.Option.TheVariants.{Some, None}
use Rattle.std.specs.List.{AllByRecursion}
use Rattle.spec.specs.Tree.{Pair, Node, Part, Last, More, Nothing, Sub, EachNode}
use Rattle.spec.specs.NodeFormat.{Shape, LastLink, MoreLinks, shape, part_link, shape_cid}
use Rattle.edit_laws.specs.Changes.{has_cid}
use Rattle.edit_laws.specs.TreeEdit.{open_part}
use Rattle.edit_laws.specs.Trace.{nodes_of}
use Rattle.difference_laws.specs.Lines.{links_in, pairs_of, unless, link_without, without, spliced, opened}

-- the nodes of its subtrees
abbrev pub tops : Node → List Node
tops (Last p) = nodes_of p
tops (More p e r) = nodes_of p ++ tops r

-- its own pairs
abbrev pub own : Node → List Pair
own (Last p) = []
own (More p e r) = e ∷ own r

abbrev pub spliced_node : Node → Pair → Node → Node
spliced_node (Last p) e r = More p e r
spliced_node (More p f s) e r = More p f (spliced_node s e r)

-- one layer more is open
abbrev pub spread : Node → Node
spread (Last p) = open_part p
spread (More p e r) = spliced_node (open_part p) e (spread r)

module _ (digest : List ℕ → List ℕ) where
  abbrev pub cid_of : Node → List ℕ
  cid_of m = shape_cid digest (shape digest m)

  abbrev pub kept : Bool → Node → Part
  kept true m = Nothing
  kept false m = Sub m

  -- without the subtrees that have these CIDs
  abbrev pub bare_part : List (List ℕ) → Part → Part
  bare_part cs Nothing = Nothing
  bare_part cs (Sub m) = kept (has_cid (cid_of m) cs) m

  abbrev pub bare : List (List ℕ) → Node → Node
  bare cs (Last p) = Last (bare_part cs p)
  bare cs (More p e r) = More (bare_part cs p) e (bare cs r)

  link-kept : (t : Bool) (m : Node) → part_link digest (kept t m) ≡ unless t (cid_of m)
  link-kept true m = refl
  link-kept false m = refl

  link-bare : (cs : List (List ℕ)) (p : Part) → part_link digest (bare_part cs p) ≡ link_without cs (part_link digest p)
  link-bare cs Nothing = refl
  link-bare cs (Sub m) = link-kept (has_cid (cid_of m) cs) m

  pub shape-bare : (cs : List (List ℕ)) (m : Node) → shape digest (bare cs m) ≡ without cs (shape digest m)
  shape-bare cs (Last p) = ap LastLink (link-bare cs p)
  shape-bare cs (More p e r) = λ i. MoreLinks (link-bare cs p i) e (shape-bare cs r i)

  pub own-bare : (cs : List (List ℕ)) (m : Node) → own (bare cs m) ≡ own m
  own-bare cs (Last p) = refl
  own-bare cs (More p e r) = ap (λ t. e ∷ t) (own-bare cs r)

  pub links-are : (m : Node) → links_in (shape digest m) ≡ map cid_of (tops m)
  links-are (Last Nothing) = refl
  links-are (Last (Sub k)) = refl
  links-are (More Nothing e r) = links-are r
  links-are (More (Sub k) e r) = ap (λ t. cid_of k ∷ t) (links-are r)

  pub pairs-are : (m : Node) → pairs_of (shape digest m) ≡ own m
  pairs-are (Last p) = refl
  pairs-are (More p e r) = ap (λ t. e ∷ t) (pairs-are r)

  pub shape-spliced : (m : Node) (e : Pair) (r : Node)
      → shape digest (spliced_node m e r) ≡ spliced (shape digest m) e (shape digest r)
  shape-spliced (Last p) e r = refl
  shape-spliced (More p f s) e r = ap (MoreLinks (part_link digest p) f) (shape-spliced s e r)

module _ (digest : List ℕ → List ℕ) (shows : List ℕ → Option Shape) where
  abbrev pub IsShown : Node → Type 0
  IsShown m = shows (shape_cid digest (shape digest m)) ≡ Some (shape digest m)

  pub opened-is : (m : Node) (read : List Shape) → AllByRecursion (λ k. EachNode IsShown (Sub k)) (tops m)
      → opened shows (shape digest m) read ≡ Ok (shape digest (spread m), read ++ map (shape digest) (tops m))
  opened-is (Last Nothing) read h = ap (λ t. Ok (LastLink None, t)) (sym (append-nil read))
  opened-is (Last (Sub k)) read h = rw h.0.0 refl
  opened-is (More Nothing e r) read h = rw (opened-is r read h) refl
  opened-is (More (Sub k) e r) read h =
      rw (h.0.0, opened-is r (read ++ (shape digest k ∷ [])) h.1)
      (λ i. Ok (
        sym (shape-spliced digest k e (spread r)) i,
        append_assoc read (shape digest k ∷ []) (map (shape digest) (tops r)) i,
      ))
