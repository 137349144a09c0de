-- Operations read one after the other.
use Rattle.std.proofs.Common.{◌≡◌, ℕ, suc, ◌+◌, ◌<◌, ◌≤◌, List, [], ◌∷◌, ◌++◌, length, drop, get_or, Some, None, Result, Ok, Err, refl, sym, ap, ◌∙◌, append_assoc, append-nil, arith}
use Rattle.std.proofs.lemmas.List.{at_drop_more, drop_all}
use Rattle.spec.specs.DagCbor.{ValueThen}
use Rattle.dagcbor.specs.View.{view, view_items}
use Rattle.dagcbor.specs.declared.value.Value.{Value}
use Rattle.change_laws.specs.Told.{KeyChange}
use Rattle.event_laws.specs.Reading.{BadOp, FormFault, op_and, op_of, ops_in}

-- the operations so far, and then those that are read
abbrev pub behind : List KeyChange → Result (List KeyChange) FormFault → Result (List KeyChange) FormFault
behind front (Ok ops) = Ok (front ++ ops)
behind front (Err f) = Err f

-- all of the operations: those so far, and those that are read from a place on
abbrev pub Reads : {A : Type 0} → List (Value A) → ℕ → List KeyChange → Type 0
Reads vs i front = behind front (ops_in i (view_items (drop i vs))) ≡ ops_in 0 (view_items vs)

behind-none : (r : Result (List KeyChange) FormFault) → behind [] r ≡ r
behind-none (Ok ops) = refl
behind-none (Err f) = refl

one-more : (front : List KeyChange) (op : KeyChange) (r : Result (List KeyChange) FormFault)
    → behind front (op_and 0 (Some op) r) ≡ behind (front ++ op ∷ []) r
one-more front op (Ok ops) = ap (λ (x : List KeyChange). Ok x) (sym (append_assoc front (op ∷ []) ops))
one-more front op (Err f) = refl

module _ {A : Type 0} where
  at-place : (vs : List (Value A)) (i : ℕ) (v : Value A) → i < length vs → v ≡ get_or vs i v
      → view_items (drop i vs) ≡ ValueThen (view v) (view_items (drop (i + 1) vs))
  at-place vs i v lt is =
      at_drop_more view_items vs i v lt ∙ ap (λ x. ValueThen (view x) (view_items (drop (i + 1) vs))) (sym is)

  pub reads-first : (vs : List (Value A)) (front : List KeyChange) → front ≡ [] → Reads vs 0 front
  reads-first vs front none =
      ap (λ f. behind f (ops_in 0 (view_items vs))) none ∙ behind-none (ops_in 0 (view_items vs))

  pub reads-next : (vs : List (Value A)) (i : ℕ) (v : Value A) (front new : List KeyChange) (op : KeyChange) → i < length vs
      → v ≡ get_or vs i v → op_of (view v) ≡ Some op → new ≡ front ++ op ∷ [] → Reads vs i front → Reads vs (i + 1) new
  reads-next vs i v front new op lt is found more reads =
      let rest = view_items (drop (i + 1) vs) in
      let next : i + 1 ≡ suc i = omega arith in
      ap (λ f. behind f (ops_in (i + 1) rest)) more
      ∙ ap (λ n. behind (front ++ op ∷ []) (ops_in n rest)) next
      ∙ sym (one-more front op (ops_in (suc i) rest))
      ∙ ap (λ o. behind front (op_and i o (ops_in (suc i) rest))) (sym found)
      ∙ ap (λ x. behind front (ops_in i x)) (sym (at-place vs i v lt is))
      ∙ reads

  pub reads-stop : (vs : List (Value A)) (i : ℕ) (v : Value A) (front : List KeyChange) (place : ℕ) → i < length vs
      → v ≡ get_or vs i v → op_of (view v) ≡ None → place ≡ i → Reads vs i front
      → ops_in 0 (view_items vs) ≡ Err (BadOp place)
  reads-stop vs i v front place lt is none here reads =
      let rest = view_items (drop (i + 1) vs) in
      sym reads ∙ ap (λ x. behind front (ops_in i x)) (at-place vs i v lt is)
      ∙ ap (λ o. behind front (op_and i o (ops_in (suc i) rest))) none
      ∙ ap (λ n. Err (BadOp n)) (sym here)

  pub reads-last : (vs : List (Value A)) (i : ℕ) (front : List KeyChange) → length vs ≤ i → Reads vs i front
      → ops_in 0 (view_items vs) ≡ Ok front
  reads-last vs i front all reads =
      sym reads ∙ ap (λ x. behind front (ops_in i (view_items x))) (drop_all i vs all)
      ∙ ap (λ (x : List KeyChange). Ok x) (append-nil front)
