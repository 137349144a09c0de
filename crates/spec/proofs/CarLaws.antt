-- A file is read as it was written, and only what was written so is read.
use Rattle.std.proofs.Common.{◌≡◌, ℕ, zero, suc, ◌+◌, ◌^◌, ◌<◌, ◌≤◌, Bool, true, false, cond, not, filter, List, [], ◌∷◌, ◌++◌, length, take, drop, map, Ok, refl, sym, ap, subst, ◌∙◌, append_assoc, arith, eqb}
use Rattle.std.specs.Prelude.{codes, Option, Some, None}
use Rattle.std.specs.List.{AllByRecursion, flat_map}
use Rattle.std.specs.Str.{bytes_eq}
use Rattle.std.specs.Cmp.Lexicographic.{same_text}
use Rattle.std.proofs.lemmas.Bool.{eqb-true, eq-eqb}
use Rattle.std.proofs.lemmas.List.{length-append, take-append-drop, drop_at}
use Rattle.std.proofs.lemmas.Slice.Eq.{bytes_eq-Decides}
use Rattle.spec.specs.Reading.{◌>>=◌, front}
use Rattle.spec.specs.Varint.{varint, varint_at}
use Rattle.spec.specs.Cid.{cid, is_own_cid, prefix, link, IsDigest}
use Rattle.spec.specs.Car.{header, section}
use Rattle.spec.specs.Blocks.{firsts}
use Rattle.spec.proofs.Bools.{both, and}
use Rattle.spec.proofs.Taking.{IsBytes, IsBytes-drop, IsBytes-take, Takes, Takes-then, bind_ok, ensure_ok, ok_is, front_ok, front-append}
use Rattle.spec.proofs.VarintLaws.{varint_at-varint, varint_at_takes}
use Rattle.spec.specs.CarReading.{IsSection, CarFault, BadHeader, Truncated, BadCid, Section, expected, before_root, behind_root, cid_at, header_at, or_bad_length, section_at, sections_within, read_car, section_bytes, car_bytes, are_named}
use Rattle.spec.specs.Laws.Cars.{section_of_block, CarReadsBack, OnlyCarsAreRead, ExportReadsBack}

own_length : (c : List ℕ) → is_own_cid c ≡ true → length c ≡ 36
own_length c own = eqb-true (length c) 36 (both (eqb (length c) 36) (bytes_eq (take 4 c) prefix) own).0

-- ---- what was written is read back

cid_at-append : (fault : CarFault) (c rest : List ℕ) → is_own_cid c ≡ true → cid_at fault (c ++ rest) ≡ Ok (c, rest)
cid_at-append fault c rest own = rw (front-append fault 36 c rest (own_length c own), own) refl

header-parts : (root : List ℕ) → length root ≡ 36 → header root ≡ before_root ++ (root ++ behind_root)
header-parts root long =
    let version : List ℕ = 0x67 ∷ codes "version" in
    let tail : List ℕ = (root ++ version) ++ (0x01 ∷ []) in
    let whole : List ℕ = ((0xa2 ∷ 0x65 ∷ codes "roots") ++ (0x81 ∷ link root) ++ version) ++ (0x01 ∷ []) in
    let t : length tail ≡ 45 = omega (arith, length-append (root ++ version) (0x01 ∷ []), length-append root version, long) in
    let e : length whole ≡ 58 = omega (arith, t) in
    ap (λ (n : ℕ). varint n ++ whole) e ∙ ap (λ (x : List ℕ). before_root ++ x) (append_assoc root version (0x01 ∷ []))

header_at-header : (root rest : List ℕ) → is_own_cid root ≡ true → header_at (header root ++ rest) ≡ Ok (root, rest)
unfolding header_at
header_at-header root rest own =
    let long = own_length root own in
    let regrouped : header root ++ rest ≡ before_root ++ (root ++ (behind_root ++ rest)) =
    ap (λ (h : List ℕ). h ++ rest) (header-parts root long) ∙ simp append_assoc in
    ap header_at regrouped
    ∙ rw (cid_at-append BadHeader root (behind_root ++ rest) own) refl

section_at-section : (s : Section) (rest : List ℕ) → IsSection s → section_at (section_bytes s ++ rest) ≡ Ok (s, rest)
unfolding section_at
section_at-section s rest is =
    let body : List ℕ = s.cid ++ s.block in
    let long : length body ≡ 36 + length s.block = omega (arith, length-append s.cid s.block, own_length s.cid is.own) in
    let short : length body < 2 ^ 63 = omega (arith, is.short) in
    let regrouped : section_bytes s ++ rest ≡ varint (length body) ++ (body ++ rest) = append_assoc (varint (length body)) body rest in
    ap section_at regrouped
    ∙ rw (varint_at-varint (length body) (body ++ rest) short, front-append Truncated (length body) body rest refl, cid_at-append BadCid s.cid s.block is.own) refl

sections-cons : (most : ℕ) (bytes : List ℕ) → 0 < length bytes
    → sections_within (suc most) bytes ≡ (section_at bytes >>= λ s. sections_within most s.1 >>= λ ss. Ok (s.0 ∷ ss))
sections-cons most [] some = absurd (omega arith)
sections-cons most (b ∷ bytes) some = refl

section-long : (s : Section) → IsSection s → 36 ≤ length (section_bytes s)
section-long s is = let own = own_length s.cid is.own in
    omega (arith, length-append (varint (length (s.cid ++ s.block))) (s.cid ++ s.block), length-append s.cid s.block, own)

sections-read : (most : ℕ) (ss : List Section) → AllByRecursion IsSection ss → length (flat_map section_bytes ss) ≤ most
    → sections_within most (flat_map section_bytes ss) ≡ Ok ss
sections-read zero [] all enough = refl
sections-read (suc most) [] all enough = refl
sections-read zero (s ∷ ss) all enough =
    let long = section-long s all.0 in
    absurd (omega (arith, length-append (section_bytes s) (flat_map section_bytes ss)))
sections-read (suc most) (s ∷ ss) all enough =
    let long = section-long s all.0 in
    let e = length-append (section_bytes s) (flat_map section_bytes ss) in
    sections-cons most (section_bytes s ++ flat_map section_bytes ss) (omega arith)
    ∙ rw (section_at-section s (flat_map section_bytes ss) all.0, sections-read most ss all.1 (omega arith)) refl

pub car-reads_back : CarReadsBack
unfolding read_car
car-reads_back root ss own all =
    rw (header_at-header root (flat_map section_bytes ss) own, sections-read (length (flat_map section_bytes ss)) ss all (omega arith)) refl

-- ---- what is read was written so

expected_ok : (fault : CarFault) (these bytes rest : List ℕ) → IsBytes bytes → expected fault these bytes ≡ Ok rest → Takes bytes these rest
expected_ok fault these bytes rest fits e =
    let a = ensure_ok _ _ _ _ e in
    let is : take (length these) bytes ≡ these = same_text (take (length these) bytes) these (sym a.0) in
    let rest_is : drop (length these) bytes ≡ rest = ok_is CarFault _ _ a.1 in
    record {
      parts = sym (take-append-drop (length these) bytes) ∙ ap (λ (x : List ℕ). x ++ drop (length these) bytes) is ∙ ap (λ (x : List ℕ). these ++ x) rest_is;
      rest_fits = subst IsBytes rest_is (IsBytes-drop (length these) bytes fits);
    }

cid_at_ok : (fault : CarFault) (bytes : List ℕ) (x : List ℕ × List ℕ) → IsBytes bytes → cid_at fault bytes ≡ Ok x
    → Takes bytes x.0 x.1 × (is_own_cid x.0 ≡ true)
cid_at_ok fault bytes x fits e =
    let a = bind_ok (front fault 36 bytes) _ _ e in
    let f = front_ok fault 36 bytes a.0 fits a.1 in
    let b = ensure_ok _ _ _ _ a.2 in
    subst (λ (y : List ℕ × List ℕ). Takes bytes y.0 y.1 × (is_own_cid y.0 ≡ true)) (ok_is CarFault a.0 x b.1) (f.0, b.0)

header_ok : (file : List ℕ) (x : List ℕ × List ℕ) → IsBytes file → header_at file ≡ Ok x → Takes file (header x.0) x.1 × (is_own_cid x.0 ≡ true)
unfolding header_at
header_ok file x fits e =
    let a = bind_ok _ _ _ e in
    let t = expected_ok BadHeader before_root file a.0 fits a.1 in
    let b = bind_ok _ _ _ a.2 in
    let c = cid_at_ok BadHeader a.0 b.0 t.rest_fits b.1 in
    let d = bind_ok _ _ _ b.2 in
    let u = expected_ok BadHeader behind_root b.0.1 d.0 c.0.rest_fits d.1 in
    let whole : Takes file (before_root ++ (b.0.0 ++ behind_root)) d.0 =
    Takes-then file before_root a.0 (b.0.0 ++ behind_root) d.0 t (Takes-then a.0 b.0.0 b.0.1 behind_root d.0 c.0 u) in
    let got : Takes file (header b.0.0) d.0 × (is_own_cid b.0.0 ≡ true) =
    (subst (λ (h : List ℕ). Takes file h d.0) (sym (header-parts b.0.0 (own_length b.0.0 c.1))) whole, c.1) in
    subst (λ (y : List ℕ × List ℕ). Takes file (header y.0) y.1 × (is_own_cid y.0 ≡ true)) (ok_is CarFault (b.0.0, d.0) x d.2) got

or_bad_length_ok : (o : Option (ℕ × List ℕ)) (n : ℕ × List ℕ) → or_bad_length o ≡ Ok n → o ≡ Some n
or_bad_length_ok None n e = absurd cc
or_bad_length_ok (Some m) n e = ap (λ (y : ℕ × List ℕ). Some y) (ok_is CarFault m n e)

IsBytes-right : (x y bytes : List ℕ) → bytes ≡ x ++ y → IsBytes bytes → IsBytes y
IsBytes-right x y bytes e fits = subst IsBytes (drop_at x y (length x) refl) (IsBytes-drop (length x) (x ++ y) (subst IsBytes e fits))

section_ok : (bytes : List ℕ) (x : Section × List ℕ) → IsBytes bytes → section_at bytes ≡ Ok x → Takes bytes (section_bytes x.0) x.1 × IsSection x.0
unfolding section_at
section_ok bytes x fits e =
    let a = bind_ok _ _ _ e in
    let n : ℕ = a.0.0 in
    let v = varint_at_takes bytes a.0.1 n fits (or_bad_length_ok (varint_at bytes) a.0 a.1) in
    let b = bind_ok _ _ _ a.2 in
    let f = front_ok Truncated n a.0.1 b.0 (IsBytes-right (varint n) a.0.1 bytes v.0 fits) b.1 in
    let c = bind_ok _ _ _ b.2 in
    let body_fits : IsBytes b.0.0 = subst IsBytes (sym f.2) (IsBytes-take n a.0.1 (IsBytes-right (varint n) a.0.1 bytes v.0 fits)) in
    let d = cid_at_ok BadCid b.0.0 c.0 body_fits c.1 in
    let body : List ℕ = c.0.0 ++ c.0.1 in
    let body_is : b.0.0 ≡ body = d.0.parts in
    let n_is : n ≡ length body = sym f.1 ∙ ap length body_is in
    let parts : bytes ≡ (varint (length body) ++ body) ++ b.0.1 =
    v.0 ∙ ap (λ (t : List ℕ). varint n ++ t) (f.0.parts ∙ ap (λ (t : List ℕ). t ++ b.0.1) body_is)
    ∙ sym (append_assoc (varint n) body b.0.1) ∙ ap (λ (m : ℕ). (varint m ++ body) ++ b.0.1) n_is in
    let fewer = v.1 in
    let own = own_length c.0.0 d.1 in
    let short : 36 + length c.0.1 < 2 ^ 63 = omega (arith, length-append c.0.0 c.0.1) in
    let got : Takes bytes (varint (length body) ++ body) b.0.1 = record { parts = parts; rest_fits = f.0.rest_fits } in
    let is : IsSection (record { cid = c.0.0; block = c.0.1 }) = record { own = d.1; short = short } in
    subst (λ (y : Section × List ℕ). Takes bytes (section_bytes y.0) y.1 × IsSection y.0)
    (ok_is CarFault (record { cid = c.0.0; block = c.0.1 }, b.0.1) x c.2) (got, is)

record AreSections (bytes : List ℕ) (ss : List Section) : Type 0 where
  spelled : bytes ≡ flat_map section_bytes ss
  each : AllByRecursion IsSection ss

sections_ok : (most : ℕ) (bytes : List ℕ) (ss : List Section) → IsBytes bytes → sections_within most bytes ≡ Ok ss → AreSections bytes ss
sections_ok zero [] ss fits e = subst (AreSections []) (ok_is CarFault [] ss e) (record { spelled = refl; each = tt })
sections_ok (suc most) [] ss fits e = subst (AreSections []) (ok_is CarFault [] ss e) (record { spelled = refl; each = tt })
sections_ok zero (b ∷ bytes) ss fits e = absurd cc
sections_ok (suc most) (b ∷ bytes) ss fits e =
    let a = bind_ok (section_at (b ∷ bytes)) _ _ e in
    let t = section_ok (b ∷ bytes) a.0 fits a.1 in
    let c = bind_ok (sections_within most a.0.1) _ _ a.2 in
    let h = sections_ok most a.0.1 c.0 t.0.rest_fits c.1 in
    subst (AreSections (b ∷ bytes)) (ok_is CarFault (a.0.0 ∷ c.0) ss c.2) (record {
      spelled = t.0.parts ∙ ap (λ (x : List ℕ). section_bytes a.0.0 ++ x) h.spelled;
      each = (t.1, h.each);
    })

abbrev Read : List ℕ → List ℕ × List Section → Type 0
Read file x = (file ≡ car_bytes x.0 x.1) × (is_own_cid x.0 ≡ true) × AllByRecursion IsSection x.1

pub only-cars : OnlyCarsAreRead
unfolding read_car
only-cars file root ss fits e =
    let a = bind_ok (header_at file) _ _ e in
    let t = header_ok file a.0 fits a.1 in
    let b = bind_ok (sections_within (length a.0.1) a.0.1) _ _ a.2 in
    let h = sections_ok (length a.0.1) a.0.1 b.0 t.0.rest_fits b.1 in
    subst (Read file) (ok_is CarFault (a.0.0, b.0) (root, ss) b.2)
    (t.0.parts ∙ ap (λ (x : List ℕ). header a.0.0 ++ x) h.spelled, t.1, h.each)

-- ---- exports

own-cid : (digest : List ℕ → List ℕ) (b : List ℕ) → IsDigest digest → is_own_cid (cid digest b) ≡ true
unfolding cid
own-cid digest b h = let long = h b in and (eqb (length (prefix ++ digest b)) 36) true (eq-eqb (length (prefix ++ digest b)) 36 (omega arith)) refl

is-section : (digest : List ℕ → List ℕ) (b : List ℕ) → IsDigest digest → 36 + length b < 2 ^ 63 → IsSection (section_of_block digest b)
is-section digest b h short = record { own = own-cid digest b h; short = short }

abbrev Short : List ℕ → Type 0
Short b = 36 + length b < 2 ^ 63

are-sections : (digest : List ℕ → List ℕ) (bs : List (List ℕ)) → IsDigest digest → AllByRecursion Short bs
    → AllByRecursion IsSection (map (section_of_block digest) bs)
are-sections digest [] h all = tt
are-sections digest (b ∷ bs) h all = (is-section digest b h all.0, are-sections digest bs h all.1)

named-each : (digest : List ℕ → List ℕ) (bs : List (List ℕ)) → are_named digest (map (section_of_block digest) bs) ≡ true
named-each digest [] = refl
named-each digest (b ∷ bs) = and _ _ ((bytes_eq-Decides (cid digest b) (cid digest b)).1 refl) (named-each digest bs)

spelled-each : (digest : List ℕ → List ℕ) (bs : List (List ℕ)) → flat_map (section digest) bs ≡ flat_map section_bytes (map (section_of_block digest) bs)
spelled-each digest [] = refl
spelled-each digest (b ∷ bs) = ap (λ (x : List ℕ). section digest b ++ x) (spelled-each digest bs)

kept : (p : List ℕ → Bool) (b : List ℕ) (bs : List (List ℕ)) (t : Bool) → Short b → AllByRecursion Short bs → AllByRecursion Short (cond t (b ∷ bs) bs)
kept p b bs true short all = (short, all)
kept p b bs false short all = all

all-filter : (p : List ℕ → Bool) (bs : List (List ℕ)) → AllByRecursion Short bs → AllByRecursion Short (filter p bs)
all-filter p [] all = tt
all-filter p (b ∷ bs) all = kept p b (filter p bs) (p b) all.0 (all-filter p bs all.1)

all-firsts : (mark : List ℕ → List ℕ) (bs : List (List ℕ)) → AllByRecursion Short bs → AllByRecursion Short (firsts mark bs)
all-firsts mark [] all = tt
all-firsts mark (b ∷ bs) all = (all.0, all-filter (λ c. not (bytes_eq (mark b) (mark c))) (firsts mark bs) (all-firsts mark bs all.1))

pub export-reads_back : ExportReadsBack
export-reads_back digest root bs h own all =
    let ones = firsts (cid digest) bs in
    let each = all-firsts (cid digest) bs all in (
      ap read_car (ap (λ (x : List ℕ). header root ++ x) (spelled-each digest ones))
          ∙ car-reads_back root (map (section_of_block digest) ones) own (are-sections digest ones h each),
      named-each digest ones,
    )
