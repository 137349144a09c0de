-- The path of a key, node by node.
use Rattle.std.proofs.Common.{◌≡◌, ℕ, zero, suc, ◌-◌, ◌<◌, ◌≤◌, List, [], ◌∷◌, ◌++◌, map, Option, option_map, Ok, refl, sym, ap, ◌∙◌, append_assoc, arith}
use Rattle.std.specs.Prelude.{option_and_then}
use Rattle.std.specs.declared.option.Option.TheVariants.{Some, None}
use Rattle.std.proofs.lemmas.List.{append-nil, map-append}
use Rattle.spec.specs.Cid.{IsDigest}
use Rattle.spec.specs.Tree.{Pair}
use Rattle.spec.specs.NodeFormat.{Shape, Entry, read_node, shape_bytes}
use Rattle.spec.specs.Proof.{Place, place, path}
use Rattle.edit_laws.specs.Sources.{gap, path_at, path_from, shown, shape_of_reading, shape_of_bytes, shown_by}
use Rattle.edit_laws.specs.Laws.Lookups.{found_at}
use Rattle.lookups.specs.Trees.{HasTree}
use Rattle.lookups.specs.Steps.{layers}
use Rattle.lookups.proofs.Stepping.{is-lookup, place-found}

-- the link that a place in a node that was read goes on with
pub link-found : (key bytes : List ℕ) (left : Option (List ℕ)) (es : List Entry) (p : Place) (l : Option (List ℕ))
    → read_node bytes ≡ Ok (left, es) → p ≡ place key left es → l ≡ (found_at p).1
    → Some l ≡ option_map (gap key) (shape_of_bytes bytes)
link-found key bytes left es p l h q e =
    ap (λ (x : Option (List ℕ)). Some x) (e ∙ ap (λ (x : Option (List ℕ) × Option (List ℕ)). x.1) (place-found key left es p q))
    ∙ sym (ap (λ r. option_map (gap key) (shape_of_reading r)) h)

module _ {X : Type 0} (view : X → List ℕ) (gives : List ℕ → Option X) (key : List ℕ) where
  abbrev shows : List ℕ → Option Shape
  shows = shown_by (λ c. option_map view (gives c))

  -- the bytes of the path's nodes from a link on
  abbrev pub ahead : ℕ → Option (List ℕ) → List (List ℕ)
  ahead n l = map shape_bytes (path_from shows n key l)

  pub ahead-zero : (n : ℕ) (l : Option (List ℕ)) → n ≤ 0 → ahead n l ≡ []
  ahead-zero zero l h = refl
  ahead-zero (suc n) l h = absurd (omega arith)

  pub ahead-none : (n : ℕ) → ahead n None ≡ []
  ahead-none zero = refl
  ahead-none (suc n) = refl

  ahead-back : (n : ℕ) (l : Option (List ℕ)) → 0 < n → ahead n l ≡ map shape_bytes (path_at (path_from shows (n - 1) key) key (shown shows l))
  ahead-back n l more =
      let e : suc (n - 1) ≡ n = omega arith in
      sym (ap (λ k. ahead k l) e)

  shown-as : (c : List ℕ) (o : Option X) → gives c ≡ o → shows c ≡ option_and_then shape_of_bytes (option_map view o)
  shown-as c o h = ap (λ (x : Option X). option_and_then shape_of_bytes (option_map view x)) h

  pub ahead-missing : (n : ℕ) (c : List ℕ) → 0 < n → gives c ≡ None → ahead n (Some c) ≡ []
  ahead-missing n c more h =
      ahead-back n (Some c) more ∙ ap (λ o. map shape_bytes (path_at (path_from shows (n - 1) key) key o)) (shown-as c None h)

  at-block : (n : ℕ) (c : List ℕ) (x : X) → 0 < n → gives c ≡ Some x
      → ahead n (Some c) ≡ map shape_bytes (path_at (path_from shows (n - 1) key) key (shape_of_bytes (view x)))
  at-block n c x more h =
      ahead-back n (Some c) more ∙ ap (λ o. map shape_bytes (path_at (path_from shows (n - 1) key) key o)) (shown-as c (Some x) h)

  no-node : (n : ℕ) (o : Option Shape) → None ≡ option_map (gap key) o → map shape_bytes (path_at (path_from shows n key) key o) ≡ []
  no-node n None h = refl
  no-node n (Some s) h = absurd cc

  pub ahead-other : (n : ℕ) (c bytes : List ℕ) (x : X) → 0 < n → gives c ≡ Some x → bytes ≡ view x
      → None ≡ option_map (gap key) (shape_of_bytes bytes) → ahead n (Some c) ≡ []
  ahead-other n c bytes x more h b k =
      at-block n c x more h
      ∙ no-node (n - 1) (shape_of_bytes (view x)) (k ∙ ap (λ t. option_map (gap key) (shape_of_bytes t)) b)

  one-node : (n : ℕ) (bytes : List ℕ) (o : Option Shape) (next : Option (List ℕ)) → Some next ≡ option_map (gap key) o
      → option_map shape_bytes o ≡ Some bytes
      → map shape_bytes (path_at (path_from shows n key) key o) ≡ bytes ∷ ahead n next
  one-node n bytes None next h k = absurd cc
  one-node n bytes (Some s) next h k =
      let b : shape_bytes s ≡ bytes = cc in
      let l : next ≡ gap key s = cc in
      ap (λ t. t ∷ ahead n (gap key s)) b ∙ ap (λ t. bytes ∷ ahead n t) (sym l)

  pub ahead-node : (n : ℕ) (c bytes : List ℕ) (x : X) (next : Option (List ℕ)) → 0 < n → gives c ≡ Some x → bytes ≡ view x
      → Some next ≡ option_map (gap key) (shape_of_bytes bytes) → option_map shape_bytes (shape_of_bytes bytes) ≡ Some bytes
      → ahead n (Some c) ≡ view x ∷ ahead (n - 1) next
  ahead-node n c bytes x next more h b k s =
      at-block n c x more h ∙ ap (λ t. map shape_bytes (path_at (path_from shows (n - 1) key) key (shape_of_bytes t))) (sym b)
      ∙ one-node (n - 1) bytes (shape_of_bytes bytes) next k s ∙ ap (λ t. t ∷ ahead (n - 1) next) b

-- what a source gives stays the same
pub given : {X : Type 0} (was is : List ℕ → Option X) (c : List ℕ) (o : Option X) → is ≡ was → o ≡ is c → was c ≡ o
given {X = X} was is c o same h = sym (h ∙ ap (λ (f : List ℕ → Option X). f c) same)

-- the path so far, and nothing ahead
pub ends : (done rest whole : List (List ℕ)) → done ++ rest ≡ whole → rest ≡ [] → done ≡ whole
ends done rest whole h e = sym (append-nil done) ∙ ap (λ t. done ++ t) (sym e) ∙ h

-- one node more
pub goes : {X : Type 0} (view : X → List ℕ) (xs ys : List X) (x : X) (rest next whole : List (List ℕ))
    → map view xs ++ rest ≡ whole → rest ≡ view x ∷ next → ys ≡ xs ++ x ∷ [] → map view ys ++ next ≡ whole
goes view xs ys x rest next whole h e p =
    ap (λ t. map view t ++ next) p ∙ ap (λ t. t ++ next) (map-append view xs (x ∷ []))
    ∙ append_assoc (map view xs) (view x ∷ []) next ∙ ap (λ t. map view xs ++ t) (sym e) ∙ h

-- over a source that has a tree's nodes
pub path-is : (digest : List ℕ → List ℕ) (bits : ℕ) (fits : IsDigest digest) (gives : List ℕ → Option (List ℕ)) (root key : List ℕ)
    (es : List Pair) (has : HasTree digest bits gives root es)
    → map shape_bytes (path_from (shown_by gives) (layers bits) key (Some root)) ≡ path digest bits es key
path-is digest bits fits gives root key es has =
    ap (λ r. map shape_bytes (path_from (shown_by gives) (layers bits) key (Some r))) has.root_is
    ∙ (is-lookup digest bits fits gives root key es has (layers bits) refl).reads
