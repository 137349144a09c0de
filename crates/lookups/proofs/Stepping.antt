-- One step of a look-up, and a look-up over a whole tree.
use Rattle.std.proofs.Common.{◌≡◌, ℕ, zero, suc, ◌+◌, ◌-◌, ◌<◌, ◌≤◌, List, [], ◌∷◌, length, Option, option_map, Ok, refl, sym, ap, ◌∙◌, arith}
use Rattle.std.specs.Prelude.{option_and_then}
use Rattle.std.specs.declared.option.Option.TheVariants.{Some, None}
use Rattle.spec.specs.NodeFormat.{Shape, Entry, first_link, entries_of, read_node, part_link, shape_bytes}
use Rattle.spec.specs.Tree.{Pair, Part, Nothing, Sub, EachNode, top}
use Rattle.spec.specs.Layer.{layer}
use Rattle.spec.specs.Cid.{IsDigest}
use Rattle.spec.specs.Blocks.{value_of, root as root_of}
use Rattle.spec.specs.Proof.{Place, place, path}
use Rattle.std.proofs.lemmas.List.{length-map}
use Rattle.edit_laws.specs.Laws.Lookups.{found_at, IsLookup}
use Rattle.edit_laws.proofs.SourceLaws.{IsShown, link-gap}
use Rattle.edit_laws.proofs.WalkPairs.{each-first_part, each-start}
use Rattle.edit_laws.proofs.OverSource.{holds-top}
use Rattle.edit_laws.specs.Sources.{shape_from, shape_of_reading, shape_of_bytes, shown_by, entry_value, gap, or_deeper, value_from, path_from}
use Rattle.edit_laws.specs.TreeEdit.{first, layer_of}
use Rattle.edit_laws.specs.Walk.{start}
use Rattle.edit_laws.proofs.LookupTheorems.{step-is_place, top-has_layer, lookup-over_source}
use Rattle.lookups.specs.Steps.{layers, asked_at, asked_from}
use Rattle.lookups.specs.Trees.{HasTree}

pub first_link-from : (left : Option (List ℕ)) (es : List Entry) → first_link (shape_from left es) ≡ left
first_link-from left [] = refl
first_link-from left (e ∷ es) = refl

entries_of-from : (left : Option (List ℕ)) (es : List Entry) → entries_of (shape_from left es) ≡ es
entries_of-from left [] = refl
entries_of-from left (e ∷ es) =
    ap (λ l. record { key = e.key; value = e.value; tree = l } ∷ entries_of (shape_from e.tree es))
    (first_link-from e.tree es)
    ∙ ap (λ fs. e ∷ fs) (entries_of-from e.tree es)

-- what a key's place in a node that was read says
abbrev pub at_key : List ℕ → Shape → Option (List ℕ) × Option (List ℕ)
at_key key s = (entry_value key s, gap key s)

pub place-found : (key : List ℕ) (left : Option (List ℕ)) (es : List Entry) (p : Place) → p ≡ place key left es
    → found_at p ≡ at_key key (shape_from left es)
place-found key left es p q =
    let s = shape_from left es in
    ap found_at q
    ∙ ap (λ l. found_at (place key l es)) (sym (first_link-from left es))
    ∙ ap (λ fs. found_at (place key (first_link s) fs)) (sym (entries_of-from left es))
    ∙ step-is_place key s

abbrev pub found : Place → Option (Option (List ℕ) × Option (List ℕ))
found p = Some (found_at p)

pub place-step : (key bytes : List ℕ) (left : Option (List ℕ)) (es : List Entry) (p : Place)
    → read_node bytes ≡ Ok (left, es) → p ≡ place key left es
    → found p ≡ option_map (at_key key) (shape_of_bytes bytes)
place-step key bytes left es p h q =
    ap (λ (x : Option (List ℕ) × Option (List ℕ)). Some x) (place-found key left es p q)
    ∙ sym (ap (λ r. option_map (at_key key) (shape_of_reading r)) h)

-- ---- one step of the loop

abbrev pub Steps : (List ℕ → Option Shape) → List ℕ → List ℕ → Option (List ℕ) → Option (List ℕ) → ℕ → Type 0
Steps shows key c v l n =
    (value_from shows (suc n) key (Some c) ≡ or_deeper v (value_from shows n key l))
    × (asked_from shows (suc n) key (Some c) ≡ suc (asked_from shows n key l))

at-step : (shows : List ℕ → Option Shape) (key c : List ℕ) (v l : Option (List ℕ)) (n : ℕ) (o : Option Shape)
    → shows c ≡ o → Some (v, l) ≡ option_map (at_key key) o → Steps shows key c v l n
at-step shows key c v l n None e h = absurd cc
at-step shows key c v l n (Some s) e h =
    let q : (v, l) ≡ at_key key s = cc in
    let qv : v ≡ entry_value key s = ap (λ (x : Option (List ℕ) × Option (List ℕ)). x.0) q in
    let ql : l ≡ gap key s = ap (λ (x : Option (List ℕ) × Option (List ℕ)). x.1) q in
    rw (e, qv, ql) (refl, refl)

pub steps : (gives : List ℕ → Option (List ℕ)) (key c b : List ℕ) (v l : Option (List ℕ)) (n : ℕ) → 0 < n
    → gives c ≡ Some b → Some (v, l) ≡ option_map (at_key key) (shape_of_bytes b)
    → Steps (shown_by gives) key c v l (n - 1)
steps gives key c b v l n t h q =
    at-step (shown_by gives) key c v l (n - 1) (shape_of_bytes b) (ap (option_and_then shape_of_bytes) h) q

pub value-none : (shows : List ℕ → Option Shape) (key : List ℕ) (n : ℕ) → value_from shows n key None ≡ None
value-none shows key zero = refl
value-none shows key (suc n) = refl

pub asked-none : (shows : List ℕ → Option Shape) (key : List ℕ) (n : ℕ) → asked_from shows n key None ≡ 0
asked-none shows key zero = refl
asked-none shows key (suc n) = refl

-- ---- one step over a source

pub look : {X : Type 0} (view : X → List ℕ) (was is : List ℕ → Option X) (key c bytes : List ℕ) (x : X)
    (v l : Option (List ℕ)) (left : ℕ)
    → is ≡ was → Some x ≡ is c → bytes ≡ view x
    → Some (v, l) ≡ option_map (at_key key) (shape_of_bytes bytes) → 0 < left
    → (value_from (shown_by (λ d. option_map view (was d))) left key (Some c)
    ≡ or_deeper v (value_from (shown_by (λ d. option_map view (was d))) (left - 1) key l))
    × (asked_from (shown_by (λ d. option_map view (was d))) left key (Some c)
    ≡ suc (asked_from (shown_by (λ d. option_map view (was d))) (left - 1) key l))
look view was is key c bytes x v l left same given shown read more =
    let e : suc (left - 1) ≡ left = omega arith in
    let w : was c ≡ Some x = sym (ap (λ (f : List ℕ → Option _). f c) same) ∙ sym given in
    let s : option_map view (was c) ≡ Some bytes = ap (option_map view) w
    ∙ ap (λ (b : List ℕ). Some b) (sym shown) in
    let shows = shown_by (λ d. option_map view (was d)) in
    let t = steps (λ d. option_map view (was d)) key c bytes v l left more s read in
    (sym (ap (λ k. value_from shows k key (Some c)) e) ∙ t.0, sym (ap (λ k. asked_from shows k key (Some c)) e) ∙ t.1)

pub sums : (r0 a0 r a b n : ℕ) → r0 + a0 ≡ r + a → a ≡ suc b → n ≡ suc r → r0 + a0 ≡ n + b
sums r0 a0 r a b n h i j = omega arith

pub sums-end : (r0 a0 r a b n : ℕ) → r0 + a0 ≡ r + a → a ≡ suc b → n ≡ suc r → b ≡ 0 → n ≡ r0 + a0
sums-end r0 a0 r a b n h i j k = omega arith

-- ---- how much is asked

at-most : (key : List ℕ) (n : ℕ) (further : Option (List ℕ) → ℕ) → ((l : Option (List ℕ)) → further l ≤ n)
    → (o : Option Shape) → asked_at further key o ≤ suc n
at-most key n further h None = omega arith
at-most key n further h (Some s) = let i = h (gap key s) in omega arith

pub asked-most : (shows : List ℕ → Option Shape) (key : List ℕ) (n : ℕ) (l : Option (List ℕ))
    → asked_from shows n key l ≤ n
asked-most shows key zero l = omega arith
asked-most shows key (suc n) None = omega arith
asked-most shows key (suc n) (Some c) =
    at-most key n (asked_from shows n key) (asked-most shows key n) (shows c)

module _ (digest : List ℕ → List ℕ) (shows : List ℕ → Option Shape) where
  pub asked-holds : (n : ℕ) (key : List ℕ) (p : Part) → EachNode (IsShown digest shows) p
      → asked_from shows n key (part_link digest p) ≡ length (path_from shows n key (part_link digest p))
  asked-holds zero key p h = refl
  asked-holds (suc n) key Nothing h = refl
  asked-holds (suc n) key (Sub m) h =
      let k = start key m in
      rw (
        h.0,
        link-gap digest key m,
        asked-holds n key (first k)
            (each-first_part (IsShown digest shows) k (each-start (IsShown digest shows) key m h.1)),
      ) refl

-- ---- over a source that has a tree's nodes

module _ (digest : List ℕ → List ℕ) (bits : ℕ) (fits : IsDigest digest) (gives : List ℕ → Option (List ℕ))
    (root key : List ℕ) (es : List Pair) (has : HasTree digest bits gives root es) (n : ℕ) (enough : n ≡ layers bits) where
  pub is-lookup : IsLookup digest bits gives n key es
  is-lookup =
      let t = top-has_layer digest bits fits es in
      lookup-over_source digest bits fits gives n key es has.pairs has.nodes (omega arith)

  pub tree-value : value_from (shown_by gives) n key (Some root) ≡ value_of key es
  tree-value = ap (λ r. value_from (shown_by gives) n key (Some r)) has.root_is ∙ is-lookup.value

  pub asked-path : asked_from (shown_by gives) n key (Some root)
      ≡ length (path_from (shown_by gives) n key (Some (root_of digest bits es)))
  asked-path =
      ap (λ r. asked_from (shown_by gives) n key (Some r)) has.root_is
      ∙ asked-holds digest (shown_by gives) n key (Sub (top (layer digest bits) es))
      (holds-top digest bits fits gives es has.pairs has.nodes)

  pub tree-reads : asked_from (shown_by gives) n key (Some root) ≡ length (path digest bits es key)
  tree-reads =
      asked-path
      ∙ sym (length-map (path_from (shown_by gives) n key (Some (root_of digest bits es))) shape_bytes)
      ∙ ap length is-lookup.reads

  pub tree-layers : asked_from (shown_by gives) n key (Some root)
      ≤ suc (layer_of (layer digest bits) (top (layer digest bits) es))
  tree-layers = let a = asked-path in let b = is-lookup.count in omega arith

pub most-below : (r r0 a b : ℕ) → r ≡ r0 + a → a ≤ b → r ≤ r0 + b
most-below r r0 a b h k = omega arith

pub reads-below : (r r0 a n b : ℕ) → r ≡ r0 + a → a ≤ n → n ≡ b → r ≤ r0 + b
reads-below r r0 a n b h k q = omega arith
