-- A block that is put, and those that follow.
use Rattle.std.proofs.Common.{◌≡◌, ℕ, Bool, true, false, not, cond, List, [], ◌∷◌, ◌++◌, refl, sym, ap, ◌∙◌, append_assoc, append-nil}
use Rattle.std.specs.Prelude.{filter}
use Rattle.std.specs.List.{flat_map}
use Rattle.std.specs.Str.{bytes_eq}
use Rattle.spec.specs.Cid.{cid}
use Rattle.spec.specs.Car.{car_of, header, section}
use Rattle.spec.specs.Blocks.{firsts}
use Rattle.car_writing.specs.Once.{IsPut, Written, file_with, fresh, has}

-- ---- two tests in a row are one

one-step : (p : List ℕ → Bool) (x : List ℕ) (fs rs : List (List ℕ)) (q r : Bool) → r ≡ cond q (p x) false → filter p fs ≡ rs
    → filter p (cond q (x ∷ fs) fs) ≡ cond r (x ∷ rs) rs
one-step p x fs rs false r e i = i ∙ sym (ap (λ (t : Bool). cond t (x ∷ rs) rs) e)
one-step p x fs rs true r e i =
    ap (λ (ys : List (List ℕ)). cond (p x) (x ∷ ys) ys) i ∙ sym (ap (λ (t : Bool). cond t (x ∷ rs) rs) e)

filters-join : (p q r : List ℕ → Bool) → ((x : List ℕ) → r x ≡ cond (q x) (p x) false) → (xs : List (List ℕ))
    → filter p (filter q xs) ≡ filter r xs
filters-join p q r h [] = refl
filters-join p q r h (x ∷ xs) = one-step p x (filter q xs) (filter r xs) (q x) (r x) (h x) (filters-join p q r h xs)

-- ---- the blocks that follow

-- there is this one more
abbrev pub HasOneMore : List (List ℕ) → List ℕ → List (List ℕ) → Type 0
HasOneMore old c new = (d : List ℕ) → has new d ≡ cond (bytes_eq c d) true (has old d)

not-more : (a b c : Bool) → c ≡ cond a true b → not c ≡ cond (not a) (not b) false
not-more true b c e = ap not e
not-more false b c e = ap not e

module _ (digest : List ℕ → List ℕ) (old new : List (List ℕ)) (b : List ℕ) (more : HasOneMore old (cid digest b) new) where
  behind : (bs : List (List ℕ)) → filter (λ x. not (has old (cid digest x))) (filter (λ x. not (bytes_eq (cid digest b) (cid digest x))) (firsts (cid digest) bs))
      ≡ fresh digest new bs
  behind bs =
      filters-join (λ x. not (has old (cid digest x))) (λ x. not (bytes_eq (cid digest b) (cid digest x))) (λ x. not (has new (cid digest x)))
      (λ x. not-more (bytes_eq (cid digest b) (cid digest x)) (has old (cid digest x)) (has new (cid digest x)) (more (cid digest x)))
      (firsts (cid digest) bs)

  follows : (bs : List (List ℕ)) → fresh digest old (b ∷ bs) ≡ cond (not (has old (cid digest b))) (b ∷ fresh digest new bs) (fresh digest new bs)
  follows bs = ap (λ (ys : List (List ℕ)). cond (not (has old (cid digest b))) (b ∷ ys) ys) (behind bs)

put-case : (digest : List ℕ → List ℕ) (start : List ℕ) (b : List ℕ) (ys : List (List ℕ)) (t is_new : Bool) → is_new ≡ not t
    → start ++ flat_map (section digest) (cond (not t) (b ∷ ys) ys)
    ≡ cond is_new (start ++ section digest b) start ++ flat_map (section digest) ys
put-case digest start b ys true is_new e =
    sym (ap (λ (u : Bool). cond u (start ++ section digest b) start ++ flat_map (section digest) ys) e)
put-case digest start b ys false is_new e =
    sym (append_assoc start (section digest b) (flat_map (section digest) ys))
    ∙ sym (ap (λ (u : Bool). cond u (start ++ section digest b) start ++ flat_map (section digest) ys) e)

-- a block was put, where its CID came first or not
pub is-put : (digest : List ℕ → List ℕ) (old new : Written) (b : List ℕ) (is_new : Bool) → HasOneMore old.cids (cid digest b) new.cids
    → is_new ≡ not (has old.cids (cid digest b)) → new.bytes ≡ cond is_new (old.bytes ++ section digest b) old.bytes
    → IsPut digest b old new
is-put digest old new b is_new more e bytes_are bs =
    ap (λ (x : List ℕ). x ++ flat_map (section digest) (fresh digest new.cids bs)) bytes_are
    ∙ sym (put-case digest old.bytes b (fresh digest new.cids bs) (has old.cids (cid digest b)) is_new e)
    ∙ sym (ap (λ (ys : List (List ℕ)). old.bytes ++ flat_map (section digest) ys) (follows digest old.cids new.cids b more bs))

-- ---- from the header on

no-filter : (bs : List (List ℕ)) → filter (λ b. true) bs ≡ bs
no-filter [] = refl
no-filter (b ∷ bs) = ap (λ (ys : List (List ℕ)). b ∷ ys) (no-filter bs)

pub file-begun : (digest : List ℕ → List ℕ) (w : Written) (root : List ℕ) (bs : List (List ℕ)) → w.bytes ≡ header root → w.cids ≡ []
    → file_with digest w bs ≡ car_of digest root bs
file-begun digest w root bs b c =
    ap (λ (x : List ℕ). x ++ flat_map (section digest) (fresh digest w.cids bs)) b
    ∙ ap (λ (cs : List (List ℕ)). header root ++ flat_map (section digest) (fresh digest cs bs)) c
    ∙ ap (λ (ys : List (List ℕ)). header root ++ flat_map (section digest) ys) (no-filter (firsts (cid digest) bs))

pub file-ended : (digest : List ℕ → List ℕ) (w : Written) → file_with digest w [] ≡ w.bytes
file-ended digest w = append-nil w.bytes
