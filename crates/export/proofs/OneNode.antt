-- One node of a proof, and then the others.
use Rattle.std.proofs.Common.{◌≡◌, refl, sym, ap, subst, ◌∙◌, ℕ, suc, ◌-◌, ◌<◌, List, Option, Some, None, Result, Ok, Err, arith}
use Rattle.spec.specs.Reading.{◌>>=◌, Fails}
use Rattle.spec.specs.NodeFormat.{read_node}
use Rattle.spec.specs.Proof.{ProofFault, place, block_of, TooDeep, or_bad_node, answer_at, verified_within}
use Rattle.export.specs.GivenBlocks.{place_below}

goes_on : {E A B C : Type 0} (r : Result A E) (f : A → Result B E) (h : B → Result C E) → (r >>= (λ x. f x >>= h)) ≡ ((r >>= f) >>= h)
goes_on (Ok x) f h = refl
goes_on (Err e) f h = refl

again : {E A B : Type 0} (r : Result A E) (f g : A → Result B E) → ((x : A) → f x ≡ g x) → (r >>= f) ≡ (r >>= g)
again (Ok x) f g same = same x
again (Err e) f g same = refl

one_node : (digest : List ℕ → List ℕ) (given : List (List ℕ)) (key c : List ℕ) (most : ℕ)
    → verified_within (suc most) digest given key c ≡ (place_below digest given key c >>= answer_at (verified_within most digest given key))
unfolding verified_within
one_node digest given key c most =
    again (block_of digest given c) _ _ (λ b. goes_on (or_bad_node (read_node b)) (λ n. Ok (place key n.0 n.1)) (answer_at (verified_within most digest given key)))
    ∙ goes_on (block_of digest given c) (λ b. or_bad_node (read_node b) >>= (λ n. Ok (place key n.0 n.1))) (answer_at (verified_within most digest given key))

-- what is answered from a node on
pub node_by_node : (digest : List ℕ → List ℕ) (given : List (List ℕ)) (key c : List ℕ) (left : ℕ) → 0 < left
    → verified_within left digest given key c ≡ (place_below digest given key c >>= answer_at (verified_within (left - 1) digest given key))
node_by_node digest given key c left more =
    let e : suc (left - 1) ≡ left = omega arith in
    ap (λ n. verified_within n digest given key c) (sym e) ∙ one_node digest given key c (left - 1)

fails_then : {E A B : Type 0} (fault : Option E) (r : Result A E) (f : A → Result B E) → Fails fault r → Fails fault (r >>= f)
fails_then None r f fails = tt
fails_then (Some e) r f fails = ap (λ x. x >>= f) fails

-- a node's fault is the answer
pub node_fails : (digest : List ℕ → List ℕ) (given : List (List ℕ)) (key c : List ℕ) (left : ℕ) → 0 < left → (fault : Option ProofFault)
    → Fails fault (place_below digest given key c) → Fails fault (verified_within left digest given key c)
node_fails digest given key c left more fault fails =
    subst (Fails fault) (sym (node_by_node digest given key c left more)) (fails_then fault (place_below digest given key c) (answer_at (verified_within (left - 1) digest given key)) fails)

-- after as many nodes as there may be
pub too_deep : (digest : List ℕ → List ℕ) (given : List (List ℕ)) (key c : List ℕ) (left : ℕ) → left ≡ 0 → verified_within left digest given key c ≡ Err TooDeep
unfolding verified_within
too_deep digest given key c left none = ap (λ n. verified_within n digest given key c) none
