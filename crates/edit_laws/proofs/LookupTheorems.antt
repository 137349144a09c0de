-- The laws of look-ups.
use Rattle.std.proofs.Common.{◌≡◌, inl, inr, ℕ, zero, suc, ◌<◌, List, [], ◌∷◌, length, map, Option, None, refl, sym, ap, ◌∙◌, arith}
use Rattle.std.specs.declared.option.Option.TheVariants.{Some}
use Rattle.std.specs.declared.cmp.Ordering.{Ordering}
use Rattle.std.specs.declared.cmp.Ordering.TheVariants.{Less, Equal, Greater}
use Rattle.std.proofs.lemmas.Bool.{cases_lt}
use Rattle.std.proofs.lemmas.List.{length-map}
use Rattle.spec.specs.Layer.{layer}
use Rattle.spec.specs.Tree.{Pair, Sub, top}
use Rattle.spec.specs.NodeFormat.{Shape, LastLink, MoreLinks, shape, shape_bytes, first_link, entries_of}
use Rattle.spec.specs.Proof.{by_order, place, gap_of, Here}
use Rattle.spec.proofs.PathNodes.{top_layer-le}
use Rattle.edit_laws.specs.Order.{order}
use Rattle.edit_laws.specs.TreeEdit.{layer_of}
use Rattle.edit_laws.specs.Trace.{find_path}
use Rattle.edit_laws.specs.Sources.{shown_by, entry_value, entry_value_at, gap, gap_at}
use Rattle.edit_laws.specs.Laws.Lookups.{FindIsValue, FindReads, TopHasLayer, KeyHasLayer, PathIsRead, found_at, StepIsPlace, PathBound, LookupOverSource}
use Rattle.edit_laws.proofs.Within.{within-top, IsWithin, within-under-up}
use Rattle.edit_laws.proofs.Counts.{find_path-most}
use Rattle.edit_laws.proofs.Enough.{find-enough, find_path-enough}
use Rattle.edit_laws.proofs.Orders.{order-is}
use Rattle.edit_laws.proofs.OverSource.{holds-top}
use Rattle.edit_laws.proofs.PathIsRead.{path-layer}
use Rattle.edit_laws.proofs.RecordMaps.{ascending-sorted, find-is}
use Rattle.edit_laws.proofs.SourceLaws.{path-holds, value-holds, path-most}
use Rattle.edit_laws.proofs.Tops.{find-top, layer_of-top}

-- as many layers as are wanted, above the top's
pub within-bound : (layer : List ℕ → ℕ) (n : ℕ) (es : List Pair) → layer_of layer (top layer es) < n
    → IsWithin n (Sub (top layer es))
within-bound layer zero es l = absurd (omega arith)
within-bound layer (suc n) es l =
    within-under-up (layer_of layer (top layer es)) n (top layer es) (omega arith) (within-top layer es)

pub find-is_value : FindIsValue
find-is_value layer n key es s l =
    let a = ascending-sorted es s in
    let t = layer_of layer (top layer es) in
    find-enough (suc t) n key (Sub (top layer es)) (omega arith) (within-top layer es)
    ∙ find-top layer key es a
    ∙ sym (find-is key es a)

pub find_path-bound : (layer : List ℕ → ℕ) (n : ℕ) (key : List ℕ) (es : List Pair) → layer_of layer (top layer es) < n
    → find_path n key (Sub (top layer es)) ≡ find_path (suc (layer_of layer (top layer es))) key (Sub (top layer es))
find_path-bound layer n key es l =
    find_path-enough (suc (layer_of layer (top layer es))) n key (Sub (top layer es)) (omega arith)
    (within-top layer es)

pub find-reads_layers : FindReads
find-reads_layers layer n key es =
    let t = layer_of layer (top layer es) in
    let p = Sub (top layer es) in
    elim (cases_lt t n) [
      | inl l ↦
          let e : length (find_path n key p)
          ≡ length (find_path (suc t) key p) = ap length (find_path-bound layer n key es l) in
          let b = find_path-most (suc t) key p in
          omega arith
      | inr l ↦
          let b = find_path-most n key p in
          omega arith
    ]

-- ---- layers

pub top-has_layer : TopHasLayer
top-has_layer digest bits fits es = let e = layer_of-top (layer digest bits) es in
    let l = top_layer-le digest bits fits es in omega arith

pub key-has_layer : KeyHasLayer
key-has_layer digest bits fits key = let l = top_layer-le digest bits fits ((key, []) ∷ []) in omega arith

pub path-is_read : PathIsRead
path-is_read digest bits n es key l =
    path-layer digest bits es key ∙ ap (map _) (sym (find_path-bound (layer digest bits) n key es l))

-- ---- one step

step-choice : (key : List ℕ) (o : Ordering) (l : Option (List ℕ)) (e : Pair) (r : Shape)
    → found_at (place key (first_link r) (entries_of r)) ≡ (entry_value key r, gap key r)
    → found_at (by_order o (place key (first_link r) (entries_of r))
    (Here (record { key = e.0; value = e.1; tree = first_link r })) (gap_of l))
    ≡ (entry_value_at o e (entry_value key r), gap_at o l (gap key r))
step-choice key Less l e r h = h
step-choice key Equal l e r h = refl
step-choice key Greater None e r h = refl
step-choice key Greater (Some c) e r h = refl

pub step-is_place : StepIsPlace
step-is_place key (LastLink None) = refl
step-is_place key (LastLink (Some c)) = refl
step-is_place key (MoreLinks l e r) =
    ap (λ o. found_at (by_order o (place key (first_link r) (entries_of r))
    (Here (record { key = e.0; value = e.1; tree = first_link r })) (gap_of l))) (order-is e.0 key)
    ∙ step-choice key (order e.0 key) l e r (step-is_place key r)

-- ---- over a source

pub path-bound : PathBound
path-bound = path-most

-- two functions on a list, one after the other
pub map-two : {A B C : Type 0} (f : B → C) (g : A → B) (xs : List A) → map f (map g xs) ≡ map (λ x. f (g x)) xs
map-two f g [] = refl
map-two f g (x ∷ xs) = ap (λ t. f (g x) ∷ t) (map-two f g xs)

pub lookup-over_source : LookupOverSource
lookup-over_source digest bits fits gives n key es are has l =
    let lay = layer digest bits in
    let p = Sub (top lay es) in
    let shows = shown_by gives in
    let holds = holds-top digest bits fits gives es are has in
    let path = path-holds digest shows n key p holds in
    record {
      value = value-holds digest shows n key p holds ∙ find-is_value lay n key es are.sorted l;
      reads = ap (map shape_bytes) path ∙ map-two shape_bytes (shape digest) (find_path n key p)
          ∙ sym (path-is_read digest bits n es key l);
      count =
          let c = ap length path in
          let d = length-map (find_path n key p) (shape digest) in
          let e = find-reads_layers lay n key es in
          omega arith;
    }
