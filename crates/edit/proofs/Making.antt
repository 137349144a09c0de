-- Nodes that are made.
use Rattle.std.proofs.Common.{◌≡◌, ℕ, suc, length, List, [], ◌∷◌, ◌++◌, map, refl, sym, ap, ◌∙◌, Option}
use Rattle.std.proofs.lemmas.List.{map-append, append-nil, append_assoc}
use Rattle.std.specs.Arc.{arc_value}
use Rattle.std.specs.declared.sync.Arc.{Arc}
use Rattle.std.specs.declared.option.Option.TheVariants.{Some, None}
use Rattle.spec.specs.NodeFormat.{Shape, LastLink, MoreLinks, shape_bytes}
use Rattle.edit_laws.specs.Lawful.{Lawful}
use Rattle.edit_laws.specs.ShapeEdit.{close_link, close_shapes}
use Rattle.edit_laws.specs.Sources.{shape_of_bytes}
use Rattle.edit_laws.proofs.OverSource.{shape_of_bytes-shape_bytes}
use Rattle.rows.specs.Drafts.{onto, or_empty, shape_in, IsFaultOfAll}
use Rattle.rows.specs.declared.draft.DraftFault.{DraftFault}
use Rattle.rows.proofs.Drafting.{fault-on}
use Rattle.batch_laws.specs.Links.{Rows, onto_links, complete, rows_in_shape}
use Rattle.edit.specs.States.{shapes_in}

pub onto-same : (rows : Rows) (s : Shape) → onto rows s ≡ onto_links rows s
onto-same [] s = refl
onto-same (x ∷ rows) s = ap (MoreLinks x.0 x.1) (onto-same rows s)

pub shape_in-shown : (bytes : List ℕ) (s : Shape) → shape_of_bytes bytes ≡ Some s → shape_in bytes ≡ s
unfolding shape_in
shape_in-shown bytes s h = ap or_empty h

shape_in-written : (s : Shape) → Lawful s → shape_in (shape_bytes s) ≡ s
shape_in-written s h = shape_in-shown (shape_bytes s) s (shape_of_bytes-shape_bytes s h)

shapes-map : {A : Type 0} (blocks : List (Arc (List ℕ) A)) → shapes_in blocks ≡ map shape_in (map arc_value blocks)
shapes-map [] = refl
shapes-map (b ∷ blocks) = ap (λ ss. shape_in (arc_value b) ∷ ss) (shapes-map blocks)

pub shapes-snoc : {A : Type 0} (old : List (Arc (List ℕ) A)) (b : Arc (List ℕ) A)
    → shapes_in (old ++ (b ∷ [])) ≡ shapes_in old ++ (shape_in (arc_value b) ∷ [])
shapes-snoc [] b = refl
shapes-snoc (x ∷ old) b = ap (λ ss. shape_in (arc_value x) ∷ ss) (shapes-snoc old b)

pub shapes-made : {A : Type 0} (old new : List (Arc (List ℕ) A)) (s : Shape) → Lawful s
    → map arc_value new ≡ map arc_value old ++ map shape_bytes (s ∷ []) → shapes_in new ≡ shapes_in old ++ (s ∷ [])
shapes-made old new s h e =
    shapes-map new ∙ ap (map shape_in) e ∙ map-append shape_in (map arc_value old) (shape_bytes s ∷ [])
    ∙ ap (λ x. map shape_in (map arc_value old) ++ (x ∷ [])) (shape_in-written s h)
    ∙ ap (λ xs. xs ++ (s ∷ [])) (sym (shapes-map old))

shapes-closed : {A : Type 0} (old new : List (Arc (List ℕ) A)) (s : Shape) → Lawful s
    → map arc_value new ≡ map arc_value old ++ map shape_bytes (close_shapes s)
    → shapes_in new ≡ shapes_in old ++ close_shapes s
shapes-closed old new (LastLink None) h e =
    shapes-map new ∙ ap (map shape_in) (e ∙ append-nil (map arc_value old)) ∙ sym (shapes-map old) ∙ sym (append-nil (shapes_in old))
shapes-closed old new (LastLink (Some c)) h e = shapes-made old new (LastLink (Some c)) h e
shapes-closed old new (MoreLinks l p r) h e = shapes-made old new (MoreLinks l p r) h e

pub level-closed : {A : Type 0} (digest : List ℕ → List ℕ) (rows : Rows) (draft : Shape) (below link : Option (List ℕ))
    (old new : List (Arc (List ℕ) A)) (read : List Shape) → draft ≡ onto rows (LastLink below)
    → link ≡ close_link digest draft → Lawful draft
    → map arc_value new ≡ map arc_value old ++ map shape_bytes (close_shapes draft)
    → complete digest rows (below, record { read = read; made = shapes_in old })
    ≡ (link, record { read = read; made = shapes_in new })
level-closed digest rows draft below link old new read d l h e =
    let s : onto_links rows (LastLink below) ≡ draft = sym (onto-same rows (LastLink below)) ∙ sym d in
    ap (λ x. (close_link digest x, record { read = read; made = shapes_in old ++ close_shapes x })) s
    ∙ ap (λ x. (x, record { read = read; made = shapes_in old ++ close_shapes draft })) (sym l)
    ∙ ap (λ xs. (link, record { read = read; made = xs })) (sym (shapes-closed old new draft h e))

pub level-topped : {A : Type 0} (rows : Rows) (draft : Shape) (below : Option (List ℕ)) (old new : List (Arc (List ℕ) A))
    → draft ≡ onto rows (LastLink below) → Lawful draft
    → map arc_value new ≡ map arc_value old ++ map shape_bytes (draft ∷ [])
    → shapes_in new ≡ shapes_in old ++ (onto_links rows (LastLink below) ∷ [])
level-topped rows draft below old new d h e =
    shapes-made old new draft h e ∙ ap (λ s. shapes_in old ++ (s ∷ [])) (d ∙ onto-same rows (LastLink below))

-- where a pair is refused, all that begins with it is
pub rows-refused : (f : DraftFault) (xs : Rows) (s r : Shape) (link first : Option (List ℕ)) (key before value : List ℕ)
    → s ≡ MoreLinks first (before, value) r → link ≡ first → key ≡ before
    → IsFaultOfAll (xs ++ ((link, (key, value)) ∷ [])) f → IsFaultOfAll (xs ++ rows_in_shape s) f
rows-refused f xs s r link first key before value e l k h =
    let same : ((link, (key, value)) ∷ []) ++ rows_in_shape r ≡ rows_in_shape s =
    ap (λ x. (x, (key, value)) ∷ rows_in_shape r) l ∙ ap (λ x. (first, (x, value)) ∷ rows_in_shape r) k
    ∙ sym (ap rows_in_shape e) in
    fault-on f (xs ++ ((link, (key, value)) ∷ [])) (rows_in_shape r) (xs ++ rows_in_shape s)
    (append_assoc xs ((link, (key, value)) ∷ []) (rows_in_shape r) ∙ ap (λ ys. xs ++ ys) same) h

pub shapes-count : {A : Type 0} (blocks : List (Arc (List ℕ) A)) → length (shapes_in blocks) ≡ length blocks
shapes-count [] = refl
shapes-count (b ∷ blocks) = ap suc (shapes-count blocks)
