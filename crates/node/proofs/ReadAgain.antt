-- What was read once reads again in the same way, without its tests.
use Rattle.std.proofs.Common.{◌≡◌, ℕ, ◌-◌, ◌≤◌, ◌^◌, Bool, true, false, cond, ltb, nat_lt, List, [], ◌∷◌, ◌++◌, length, take, drop, Option, Some, None, option_map, Result, Ok, Err, IsOk, refl, sym, ap, subst, ◌∙◌, arith}
use Rattle.std.specs.Str.{bytes_eq}
use Rattle.std.proofs.lemmas.Bool.{ltb-false}
use Rattle.std.proofs.lemmas.List.{length-take, take-append-drop, take_rest}
use Rattle.std.proofs.lemmas.Slice.Eq.{bytes_eq-Decides}
use Rattle.spec.specs.Reading.{◌>>=◌, ensure, front}
use Rattle.spec.specs.Cid.{prefix, link, is_own_cid}
use Rattle.spec.specs.NodeFormat.{NodeFault, NotNode, literal, argument_of, link_at, link_or_null_at}
use Rattle.spec.proofs.Taking.{ok_is}
use Rattle.node.specs.Rows.{Row, row_at}

-- ---- readings that didn't fail

first : {A B E : Type 0} (r : Result A E) (f : A → Result B E) → IsOk (r >>= f) → IsOk r
first (Ok x) f h = refl
first (Err d) f h = h

next : {A B E : Type 0} (r : Result A E) (f : A → Result B E) (x : A) → r ≡ Ok x → IsOk (r >>= f) → IsOk (f x)
next {E = E} (Ok y) f x e h = subst (λ z. IsOk (f z)) (ok_is E y x e) h
next (Err d) f x e h = absurd cc

next-is : {A B E : Type 0} (r : Result A E) (f : A → Result B E) (x : A) → r ≡ Ok x → (r >>= f) ≡ f x
next-is r f x e = rw e refl

tested : {E B : Type 0} (t : Bool) (fault : E) (f : Unit {0} → Result B E) → IsOk (ensure t fault >>= f) → (t ≡ true) × IsOk (f tt) × ((ensure t fault >>= f) ≡ f tt)
tested true fault f h = (refl, h, refl)
tested false fault f h = absurd cc

-- what was read again is no failure
pub read-ok : {A E : Type 0} (r : Result A E) (x : A) → r ≡ Ok x → IsOk r
read-ok r x e = rw e refl

-- ---- these very bytes

literal-is : (expected bytes : List ℕ) → bytes_eq (take (length expected) bytes) expected ≡ true → take (length expected) bytes ≡ expected
literal-is expected bytes h = (bytes_eq-Decides (take (length expected) bytes) expected).0 h

pub literal-again : {B : Type 0} (expected bytes : List ℕ) (f : List ℕ → Result B NodeFault) → IsOk (literal expected bytes >>= f)
    → (take (length expected) bytes ≡ expected) × (length expected ≤ length bytes) × IsOk (f (drop (length expected) bytes))
    × ((literal expected bytes >>= f) ≡ f (drop (length expected) bytes))
literal-again expected bytes f h =
    let t = bytes_eq (take (length expected) bytes) expected in
    let read : Result (List ℕ) NodeFault = Ok (drop (length expected) bytes) in
    let a = tested t NotNode (λ ok. read) (first (literal expected bytes) f h) in
    let same = literal-is expected bytes a.0 in
    (same, omega (arith, length-take (length expected) bytes, ap length same), next (literal expected bytes) f (drop (length expected) bytes) a.2 h, next-is (literal expected bytes) f (drop (length expected) bytes) a.2)

-- ---- links

own-after : (rest : List ℕ) → 32 ≤ length rest → is_own_cid (take 36 (drop 5 (link prefix ++ rest))) ≡ true
own-after rest long =
    let l : length (take 32 rest) ≡ 32 = omega (arith, length-take 32 rest, long) in
    rw l refl

front-again : {B : Type 0} (n : ℕ) (bytes : List ℕ) (f : List ℕ × List ℕ → Result B NodeFault) → IsOk (front NotNode n bytes >>= f)
    → (n ≤ length bytes) × IsOk (f (take n bytes, drop n bytes)) × ((front NotNode n bytes >>= f) ≡ f (take n bytes, drop n bytes))
front-again n bytes f h = front-at (ltb (length bytes) n) refl
  where
    front-at : (t : Bool) → ltb (length bytes) n ≡ t → (n ≤ length bytes) × IsOk (f (take n bytes, drop n bytes)) × ((front NotNode n bytes >>= f) ≡ f (take n bytes, drop n bytes))
    front-at true e =
        let none : false ≡ true = subst (λ (t : Bool). IsOk (cond t (Err NotNode) (Ok (take n bytes, drop n bytes)) >>= f)) e h in
        absurd cc
    front-at false e =
        (ltb-false (length bytes) n e, subst (λ (t : Bool). IsOk (cond t (Err NotNode) (Ok (take n bytes, drop n bytes)) >>= f)) e h, rw e refl)

pub link-own : (bytes : List ℕ) → IsOk (link_at bytes) → is_own_cid (take 36 (drop 5 bytes)) ≡ true
link-own bytes h =
    let a = literal-again (link prefix) bytes _ h in
    let b = front-again 32 (drop 9 bytes) _ a.2 in
    let is : link prefix ++ drop 9 bytes ≡ bytes = ap (λ (x : List ℕ). x ++ drop 9 bytes) (sym a.0) ∙ take-append-drop 9 bytes in
    subst (λ (x : List ℕ). is_own_cid (take 36 (drop 5 x)) ≡ true) is (own-after (drop 9 bytes) b.0)

pub none-own : {A : Type 0} (f : A → List ℕ) (x : Option A) (t : Bool) (y : List ℕ) → option_map f x ≡ cond t (Some y) None → x ≡ None → t ≡ true → ⊥
none-own f None true y e is own = absurd cc
none-own f None false y e is own = absurd cc
none-own f (Some z) t y e is own = absurd cc

-- ---- the entry, from each of its parts on

abbrev from_v : ℕ → List ℕ → Option (List ℕ) → List ℕ × List ℕ → Result (Row × List ℕ) NodeFault
from_v p k t v = Ok (record { prefix = p; suffix = k; value = v.0; tree = t }, v.1)

abbrev from_t : ℕ → List ℕ → Option (List ℕ) × List ℕ → Result (Row × List ℕ) NodeFault
from_t p k t = literal (0x61 ∷ 0x76 ∷ []) t.1 >>= λ in_v. link_at in_v >>= from_v p k t.0

abbrev from_p : List ℕ → ℕ × List ℕ → Result (Row × List ℕ) NodeFault
from_p k p = ensure (nat_lt p.0 (2 ^ 63)) NotNode >>= λ ok. literal (0x61 ∷ 0x74 ∷ []) p.1 >>= λ in_t. link_or_null_at in_t >>= from_t p.0 k

abbrev from_k : List ℕ × List ℕ → Result (Row × List ℕ) NodeFault
from_k k = literal (0x61 ∷ 0x70 ∷ []) k.1 >>= λ in_p. argument_of 0 in_p >>= from_p k.0

abbrev from_n : ℕ × List ℕ → Result (Row × List ℕ) NodeFault
from_n n = front NotNode n.0 n.1 >>= from_k

-- the bytes after so many of them
abbrev pub past : ℕ → List ℕ → List ℕ
past n bytes = take (length bytes - n) (drop n bytes)

-- both heads of an entry and its suffix were read again
pub record Heads (bytes : List ℕ) (n p : ℕ × List ℕ) (k rest : List ℕ) : Type 0 where
  pub read : IsOk (row_at bytes)
  pub n_is : argument_of 2 (past 3 bytes) ≡ Ok n
  pub k_is : k ≡ take n.0 n.1
  pub rest_is : rest ≡ drop n.0 n.1
  pub p_is : argument_of 0 (past 2 rest) ≡ Ok p

module _ (bytes : List ℕ) (n p : ℕ × List ℕ) (k rest : List ℕ) (heads : Heads bytes n p k rest) where
  heads-read : IsOk (from_p k p) × (row_at bytes ≡ from_p k p)
  unfolding row_at
  heads-read =
      let n_is : argument_of 2 (drop 3 bytes) ≡ Ok n = ap (argument_of 2) (sym (take_rest bytes 3)) ∙ heads.n_is in
      let p_is : argument_of 0 (drop 2 (drop n.0 n.1)) ≡ Ok p =
      ap (λ (x : List ℕ). argument_of 0 (drop 2 x)) (sym heads.rest_is) ∙ ap (argument_of 0) (sym (take_rest rest 2)) ∙ heads.p_is in
      let a = literal-again (0xa4 ∷ 0x61 ∷ 0x6b ∷ []) bytes (λ in_k. argument_of 2 in_k >>= from_n) heads.read in
      let b = next (argument_of 2 (drop 3 bytes)) from_n n n_is a.2 in
      let c = front-again n.0 n.1 from_k b in
      let in_p : List ℕ → Result (Row × List ℕ) NodeFault = λ x. argument_of 0 x >>= from_p (take n.0 n.1) in
      let d = literal-again (0x61 ∷ 0x70 ∷ []) (drop n.0 n.1) in_p c.1 in
      let e = next (argument_of 0 (drop 2 (drop n.0 n.1))) (from_p (take n.0 n.1)) p p_is d.2 in
      let is = a.3 ∙ next-is (argument_of 2 (drop 3 bytes)) from_n n n_is ∙ c.2 ∙ d.3 ∙ next-is (argument_of 0 (drop 2 (drop n.0 n.1))) (from_p (take n.0 n.1)) p p_is in
      (subst (λ (x : List ℕ). IsOk (from_p x p)) (sym heads.k_is) e, is ∙ ap (λ (x : List ℕ). from_p x p) (sym heads.k_is))

  past-p : IsOk (link_or_null_at (drop 2 p.1)) × ((t : Option (List ℕ) × List ℕ) → link_or_null_at (drop 2 p.1) ≡ Ok t
      → IsOk (from_t p.0 k t) × (from_p k p ≡ from_t p.0 k t))
  past-p =
      let in_t : List ℕ → Result (Row × List ℕ) NodeFault = λ x. link_or_null_at x >>= from_t p.0 k in
      let a = tested (nat_lt p.0 (2 ^ 63)) NotNode (λ ok. literal (0x61 ∷ 0x74 ∷ []) p.1 >>= in_t) heads-read.0 in
      let b = literal-again (0x61 ∷ 0x74 ∷ []) p.1 in_t a.1 in (
        first (link_or_null_at (drop 2 p.1)) (from_t p.0 k) b.2,
        λ t t_is. (next (link_or_null_at (drop 2 p.1)) (from_t p.0 k) t t_is b.2, a.2 ∙ b.3 ∙ next-is (link_or_null_at (drop 2 p.1)) (from_t p.0 k) t t_is),
      )

  pub tree-again : IsOk (link_or_null_at (past 2 p.1))
  tree-again = subst (λ (x : List ℕ). IsOk (link_or_null_at x)) (sym (take_rest p.1 2)) past-p.0

  module _ (t : Option (List ℕ) × List ℕ) (t_is : link_or_null_at (past 2 p.1) ≡ Ok t) where
    tree-read : IsOk (from_t p.0 k t) × (from_p k p ≡ from_t p.0 k t)
    tree-read = past-p.1 t (ap link_or_null_at (sym (take_rest p.1 2)) ∙ t_is)

    abbrev in_v : List ℕ → Result (Row × List ℕ) NodeFault
    in_v x = link_at x >>= from_v p.0 k t.0

    pub value-at : 2 ≤ length t.1
    value-at = (literal-again (0x61 ∷ 0x76 ∷ []) t.1 in_v tree-read.0).1

    pub value-again : IsOk (link_at (past 2 t.1))
    value-again =
        subst (λ (x : List ℕ). IsOk (link_at x)) (sym (take_rest t.1 2))
        (first (link_at (drop 2 t.1)) (from_v p.0 k t.0) (literal-again (0x61 ∷ 0x76 ∷ []) t.1 in_v tree-read.0).2)

    pub entry-again : (v : List ℕ × List ℕ) → link_at (past 2 t.1) ≡ Ok v
        → row_at bytes ≡ Ok (record { prefix = p.0; suffix = k; value = v.0; tree = t.0 }, v.1)
    entry-again v v_is =
        heads-read.1 ∙ tree-read.1 ∙ (literal-again (0x61 ∷ 0x76 ∷ []) t.1 in_v tree-read.0).3
        ∙ next-is (link_at (drop 2 t.1)) (from_v p.0 k t.0) v (ap link_at (sym (take_rest t.1 2)) ∙ v_is)
