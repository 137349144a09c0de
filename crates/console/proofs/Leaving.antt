-- Writing a whole in parts: what is written, and what is left to write.
use Rattle.std.proofs.Common.{◌≡◌, ℕ, List, [], ◌∷◌, ◌++◌, length, take, drop, ◌-◌, arith, true, ◌==◌, eqb-true as eqb-eq, Some, None, refl, sym, ap, subst, ◌∙◌, append_assoc}
use Rattle.std.specs.Prelude.{Option, Result, Ok, Err, IsErr, ◌/◌, ◌%◌, slice_index}
use Rattle.std.proofs.lemmas.List.{append-nil, take_all, take-append-drop, length-drop}
use Rattle.std.specs.Io.KnownBytes.{Appends, Keeps}
use Rattle.hex.specs.Hex.{encode_with, encode_lower, lower_digits}
use Rattle.console.specs.Written.{AppendsBeginning, Writes}

-- known contents grew by all of the whole but for what is left
pub record Leaves (old new : Option (List ℕ)) (whole left : List ℕ) : Type 0 where
  pub written : List ℕ
  pub parts : whole ≡ written ++ left
  pub appended : Appends old new written

pub Appends-nil : (o : Option (List ℕ)) → Appends o o []
Appends-nil None = tt
Appends-nil (Some xs) = sym (append-nil xs)

pub Appends-kept : (old new : Option (List ℕ)) → Keeps old new → Appends old new []
Appends-kept None new k = tt
Appends-kept (Some xs) None k = absurd k
Appends-kept (Some xs) (Some ys) k = k ∙ sym (append-nil xs)

pub Appends-append : (a b c : Option (List ℕ)) (x y : List ℕ) → Appends a b x → Appends b c y → Appends a c (x ++ y)
Appends-append None b c x y p q = tt
Appends-append (Some xs) None c x y p q = absurd p
Appends-append (Some xs) (Some ys) None x y p q = absurd q
Appends-append (Some xs) (Some ys) (Some zs) x y p q = q ∙ ap (λ (t : List ℕ). t ++ y) p ∙ append_assoc xs x y

pub leaves-all : (o : Option (List ℕ)) (whole : List ℕ) → Leaves o o whole whole
leaves-all o whole = record { written = []; parts = refl; appended = Appends-nil o }

pub leaves-less : (a b c : Option (List ℕ)) (whole left x y : List ℕ) → Leaves a b whole left → left ≡ x ++ y → Appends b c x → Leaves a c whole y
leaves-less a b c whole left x y p e q = record {
  written = p.written ++ x;
  parts = p.parts ∙ ap (λ (t : List ℕ). p.written ++ t) e ∙ sym (append_assoc p.written x y);
  appended = Appends-append a b c p.written x p.appended q;
}

pub leaves-same : (a b c : Option (List ℕ)) (whole left : List ℕ) → Leaves a b whole left → Keeps b c → Leaves a c whole left
leaves-same a b c whole left p k = leaves-less a b c whole left [] left p refl (Appends-kept b c k)

pub leaves-some : (a b : Option (List ℕ)) (whole left : List ℕ) → Leaves a b whole left → AppendsBeginning a b whole
leaves-some a b whole left p = (p.written, left, p.parts, p.appended)

-- a part of what was left stopped in the middle
pub leaves-beginning : (a b c : Option (List ℕ)) (whole left x y : List ℕ) → Leaves a b whole left → left ≡ x ++ y → AppendsBeginning b c x → AppendsBeginning a c whole
leaves-beginning a b c whole left x y p e q =
    leaves-some a c whole (q.1 ++ y) (leaves-less a b c whole left q.0 (q.1 ++ y) p (e ∙ ap (λ (t : List ℕ). t ++ y) q.2 ∙ append_assoc q.0 q.1 y) q.3)

pub encode_lower-nothing : (xs : List ℕ) → (length xs == 0) ≡ true → encode_lower xs ≡ []
unfolding encode_with
encode_lower-nothing [] e = refl
encode_lower-nothing (x ∷ xs) e = absurd (omega (arith, eqb-eq _ _ e))

pub leaves-nothing : (a b : Option (List ℕ)) (whole left : List ℕ) → Leaves a b whole left → left ≡ [] → Appends a b whole
leaves-nothing a b whole left p e = subst (λ (t : List ℕ). Appends a b t) (sym (p.parts ∙ ap (λ (t : List ℕ). p.written ++ t) e ∙ append-nil p.written)) p.appended

pub fails : {E : Type 0} (a b : Option (List ℕ)) (r : Result (Unit {0}) E) (whole : List ℕ) → IsErr r → AppendsBeginning a b whole → Writes a b r whole
fails a b (Ok u) whole err p = absurd cc
fails a b (Err e) whole err p = p

-- a part of what was left failed, or the last part ended
pub stops : {E : Type 0} (a b c : Option (List ℕ)) (whole left x y : List ℕ) (r : Result (Unit {0}) E) → Leaves a b whole left → left ≡ x ++ y → IsErr r → AppendsBeginning b c x → Writes a c r whole
stops a b c whole left x y r p e err q = fails a c r whole err (leaves-beginning a b c whole left x y p e q)

pub ends : {E : Type 0} (a b c : Option (List ℕ)) (whole left : List ℕ) (r : Result (Unit {0}) E) → Leaves a b whole left → Writes b c r left → Writes a c r whole
ends a b c whole left (Ok u) p w = leaves-nothing a c whole [] (leaves-less a b c whole left left [] p (sym (append-nil left)) w) refl
ends a b c whole left (Err e) p w = leaves-beginning a b c whole left left [] p (sym (append-nil left)) w

-- a list is what stands before a place and what is cut off from there on
pub cut-at : (n : ℕ) (xs rest : List ℕ) → rest ≡ take (length xs - n) (drop n xs) → xs ≡ take n xs ++ rest
cut-at n xs rest e =
    let all : take (length xs - n) (drop n xs) ≡ drop n xs = take_all (length xs - n) (drop n xs) (omega (arith, length-drop n xs)) in
    sym (take-append-drop n xs) ∙ ap (λ (t : List ℕ). take n xs ++ t) (sym (e ∙ all))

-- ---- digits

encode_with-append : (t xs ys : List ℕ) → encode_with t (xs ++ ys) ≡ encode_with t xs ++ encode_with t ys
unfolding encode_with
encode_with-append t [] ys = refl
encode_with-append t (x ∷ xs) ys = ap (λ (r : List ℕ). slice_index t (x / 16) ∷ slice_index t (x % 16) ∷ r) (encode_with-append t xs ys)

pub encode_lower-parts : (n : ℕ) (xs piece after : List ℕ) → piece ≡ take n xs → after ≡ drop n xs → encode_lower xs ≡ encode_lower piece ++ encode_lower after
encode_lower-parts n xs piece after p q = ap encode_lower (sym (rw (p, q) (take-append-drop n xs))) ∙ encode_with-append lower_digits piece after
