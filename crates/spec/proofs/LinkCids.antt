-- A link may hold a CID of version 0 or of version 1, spelled as the standard says, and nothing else.
use Rattle.std.proofs.Common.{◌≡◌, ℕ, suc, ◌^◌, ◌<◌, Bool, true, ◌&&◌, eqb, List, [], ◌∷◌, ◌++◌, length, Option, Some, None, refl, sym, ap, subst, ◌∙◌, append_assoc, arith, inl, inr}
use Rattle.std.specs.Prelude.{◌⊎◌}
use Rattle.std.proofs.lemmas.Bool.{eqb-true, eq-eqb}
use Rattle.std.proofs.lemmas.List.{drop_at}
use Rattle.spec.specs.Varint.{varint, varint_at}
use Rattle.spec.specs.Cid.{then_number, is_version_0, is_version_1, is_cid}
use Rattle.spec.specs.Laws.Cids.{Version0, Version1}
use Rattle.spec.proofs.Bools.{both, one_of, or_left, or_right}
use Rattle.spec.proofs.Taking.{IsBytes, IsBytes-rest, IsBytes-drop}
use Rattle.spec.proofs.VarintLaws.{varint_at-varint, varint_at_takes}

-- ---- version 0

Version0-from_test : (bytes : List ℕ) → is_version_0 bytes ≡ true → Version0 bytes
Version0-from_test [] h = absurd cc
Version0-from_test (a ∷ []) h = absurd cc
Version0-from_test (a ∷ b ∷ digest) h =
    let p = both (eqb (suc (suc (length digest))) 34 && eqb a 0x12) (eqb b 0x20) h in
    let q = both (eqb (suc (suc (length digest))) 34) (eqb a 0x12) p.0 in
    let long : suc (suc (length digest)) ≡ 34 = eqb-true _ _ q.0 in
    let first : a ≡ 0x12 = eqb-true _ _ q.1 in
    let second : b ≡ 0x20 = eqb-true _ _ p.1 in
    record { digest = digest; long = omega arith; spelled = ap (λ (x : ℕ). x ∷ b ∷ digest) first ∙ ap (λ (x : ℕ). 0x12 ∷ x ∷ digest) second }

test-from_Version0 : (bytes : List ℕ) → Version0 bytes → is_version_0 bytes ≡ true
test-from_Version0 bytes v =
    let l = v.long in
    let long : eqb (suc (suc (length v.digest))) 34 ≡ true = eq-eqb _ _ (omega arith) in
    ap is_version_0 v.spelled ∙ rw long refl

-- ---- version 1

-- a number that was read, and what came of it
then_number-true : (r : Option (ℕ × List ℕ)) (next : ℕ → List ℕ → Bool) → then_number r next ≡ true → (x : ℕ × List ℕ) × (r ≡ Some x) × (next x.0 x.1 ≡ true)
then_number-true None next h = absurd cc
then_number-true (Some x) next h = (x, refl, h)

record Numbered (bytes : List ℕ) (n : ℕ) (rest : List ℕ) : Type 0 where
  spelled : bytes ≡ varint n ++ rest
  fits : n < 2 ^ 63
  rest_fits : IsBytes rest

numbered : (bytes : List ℕ) (x : ℕ × List ℕ) → IsBytes bytes → varint_at bytes ≡ Some x → Numbered bytes x.0 x.1
numbered bytes x fits e =
    let t = varint_at_takes bytes x.1 x.0 fits e in
    record { spelled = t.0; fits = t.1; rest_fits = subst IsBytes (drop_at (varint x.0) x.1 (length (varint x.0)) refl) (IsBytes-drop (length (varint x.0)) (varint x.0 ++ x.1) (subst IsBytes t.0 fits)) }

Version1-from_test : (bytes : List ℕ) → IsBytes bytes → is_version_1 bytes ≡ true → Version1 bytes
Version1-from_test [] fits h = absurd cc
Version1-from_test (b ∷ bytes) fits h =
    let p = both (eqb b 1) _ h in
    let one : b ≡ 1 = eqb-true b 1 p.0 in
    let codec = then_number-true (varint_at bytes) _ p.1 in
    let c = numbered bytes codec.0 (IsBytes-rest b bytes fits) codec.1 in
    let hash = then_number-true (varint_at codec.0.1) _ codec.2 in
    let k = numbered codec.0.1 hash.0 c.rest_fits hash.1 in
    let size = then_number-true (varint_at hash.0.1) _ hash.2 in
    let s = numbered hash.0.1 size.0 k.rest_fits size.1 in
    let digest : List ℕ = size.0.1 in
    let long : length digest ≡ size.0.0 = eqb-true (length digest) size.0.0 size.2 in
    let sized : hash.0.1 ≡ varint (length digest) ++ digest = s.spelled ∙ ap (λ (n : ℕ). varint n ++ digest) (sym long) in
    let hashed : codec.0.1 ≡ varint hash.0.0 ++ (varint (length digest) ++ digest) = k.spelled ∙ ap (λ (t : List ℕ). varint hash.0.0 ++ t) sized in
    let whole : bytes ≡ varint codec.0.0 ++ (varint hash.0.0 ++ (varint (length digest) ++ digest)) = c.spelled ∙ ap (λ (t : List ℕ). varint codec.0.0 ++ t) hashed in
    let grouped : bytes ≡ varint codec.0.0 ++ varint hash.0.0 ++ varint (length digest) ++ digest =
    whole ∙ sym (append_assoc (varint codec.0.0) (varint hash.0.0) (varint (length digest) ++ digest))
    ∙ sym (append_assoc (varint codec.0.0 ++ varint hash.0.0) (varint (length digest)) digest) in
    record {
      codec = codec.0.0;
      hash = hash.0.0;
      digest = digest;
      codec_fits = c.fits;
      hash_fits = k.fits;
      length_fits = subst (λ (n : ℕ). n < 2 ^ 63) (sym long) s.fits;
      spelled = ap (λ (x : ℕ). x ∷ bytes) one ∙ ap (λ (t : List ℕ). 0x01 ∷ t) grouped;
    }

then_number-some : (r : Option (ℕ × List ℕ)) (next : ℕ → List ℕ → Bool) (n : ℕ) (rest : List ℕ) → r ≡ Some (n, rest) → next n rest ≡ true → then_number r next ≡ true
then_number-some r next n rest e h = ap (λ (o : Option (ℕ × List ℕ)). then_number o next) e ∙ h

test-from_Version1 : (bytes : List ℕ) → Version1 bytes → is_version_1 bytes ≡ true
test-from_Version1 bytes v =
    let sized : List ℕ = varint (length v.digest) ++ v.digest in
    let hashed : List ℕ = varint v.hash ++ sized in
    let regrouped : varint v.codec ++ varint v.hash ++ varint (length v.digest) ++ v.digest ≡ varint v.codec ++ hashed =
    append_assoc (varint v.codec ++ varint v.hash) (varint (length v.digest)) v.digest ∙ append_assoc (varint v.codec) (varint v.hash) sized in
    ap is_version_1 (v.spelled ∙ ap (λ (t : List ℕ). 0x01 ∷ t) regrouped)
    ∙ then_number-some (varint_at (varint v.codec ++ hashed)) _ v.codec hashed (varint_at-varint v.codec hashed v.codec_fits)
    (then_number-some (varint_at hashed) _ v.hash sized (varint_at-varint v.hash sized v.hash_fits)
    (then_number-some (varint_at sized) _ (length v.digest) v.digest (varint_at-varint (length v.digest) v.digest v.length_fits) (eq-eqb (length v.digest) (length v.digest) refl)))

-- ---- either

pub versions-from_test : (bytes : List ℕ) → IsBytes bytes → is_cid bytes ≡ true → Version0 bytes ⊎ Version1 bytes
versions-from_test bytes fits h =
    elim (one_of (is_version_0 bytes) (is_version_1 bytes) h) [ inl zeroth ↦ inl (Version0-from_test bytes zeroth) | inr first ↦ inr (Version1-from_test bytes fits first) ]

pub test-from_versions : (bytes : List ℕ) → Version0 bytes ⊎ Version1 bytes → is_cid bytes ≡ true
test-from_versions bytes (inl v) = or_left (is_version_0 bytes) (is_version_1 bytes) (test-from_Version0 bytes v)
test-from_versions bytes (inr v) = or_right (is_version_0 bytes) (is_version_1 bytes) (test-from_Version1 bytes v)
