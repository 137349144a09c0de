-- Blocks whose CIDs are given, and the CIDs of many.
use Rattle.std.proofs.Common.{◌≡◌, ◌<◌, ◌≤◌, ◌+◌, ◌*◌, ◌/◌, ℕ, suc, List, [], ◌∷◌, ◌++◌, map, take, drop, length, refl, ap, sym, subst, ◌∙◌, arith, Bool, true, false}
use Rattle.std.specs.Prelude.{Option, Some, None, option_map, nat_eq, if◌then◌else◌}
use Rattle.std.proofs.lemmas.List.{length-append, length-map, map-append, take-map, take_all}
use Rattle.sha2.specs.Sha256.{sha256}
use Rattle.sha2.proofs.Facts256.{length-sha256}
use Rattle.spec.specs.Cid.{cid, prefix}
use Rattle.buffers.specs.Answers.{IsHanded, cids_bytes}
use Rattle.buffers.specs.Framing.{beside, cid_at, with_values}
use Rattle.tizulgech.specs.Known.{known_of, AreTheirs}

-- ---- the first of some parts

module _ {X Y : Type 0} (f : X → Y) (xs front back : List X) where
  pub some_first : (n : ℕ) → front ≡ take n xs → map f front ≡ take n (map f xs)
  some_first n is = ap (map f) is ∙ sym (take-map f n xs)

  pub some_whole : xs ≡ front ++ back → map f front ++ map f back ≡ map f xs
  some_whole whole = sym (ap (map f) whole ∙ map-append f front back)

pub all_first : {X Y : Type 0} (f : X → Y) (xs front : List X) (n : ℕ) → length xs ≤ n → front ≡ take (length xs) xs
    → map f front ≡ take n (map f xs)
all_first f xs front n past is =
    let whole : front ≡ xs = is ∙ take_all (length xs) xs (omega arith) in
    ap (map f) whole ∙ sym (take_all n (map f xs) (subst (λ (k : ℕ). k ≤ n) (sym (length-map xs f)) past))

-- ---- parts with their CIDs

-- the first of those that are left, and the others
pub theirs_next : {X : Type 0} (view : X → List ℕ × List ℕ) (xs rest : List X) (x : X) → xs ≡ x ∷ rest → AreTheirs (map view xs)
    → ((view x).1 ≡ cid sha256 (view x).0) × AreTheirs (map view rest)
theirs_next view xs rest x is h = subst (λ (ys : List _). AreTheirs (map view ys)) is h

keys_of_none : {V : Type 0} (test : Bool) (pairs : List (List ℕ × V)) → Some pairs ≡ (if test then Some [] else None)
    → map (λ p. p.0) pairs ≡ []
keys_of_none true pairs e = let none : pairs ≡ [] = cc in ap (map (λ p. p.0)) none
keys_of_none false pairs e = absurd cc

keys_of_more : {V : Type 0} (part : List ℕ) (v : Option V) (others : Option (List (List ℕ × V))) (parts : List (List ℕ)) (pairs : List (List ℕ × V))
    → ((more : List (List ℕ × V)) → Some more ≡ others → map (λ p. p.0) more ≡ parts)
    → Some pairs ≡ beside part v others → map (λ p. p.0) pairs ≡ part ∷ parts
keys_of_more part None others parts pairs rest e = absurd cc
keys_of_more part (Some v) None parts pairs rest e = absurd cc
keys_of_more part (Some v) (Some more) parts pairs rest e =
    let is : pairs ≡ (part, v) ∷ more = cc in
    ap (map (λ p. p.0)) is ∙ ap (λ (ps : List (List ℕ)). part ∷ ps) (rest more refl)

-- parts beside values are these parts
keys_are : {V : Type 0} (value : List ℕ → Option V) (parts : List (List ℕ)) (bytes : List ℕ) (pairs : List (List ℕ × V))
    → Some pairs ≡ with_values value parts bytes → map (λ p. p.0) pairs ≡ parts
keys_are value [] bytes pairs e = keys_of_none (nat_eq (length bytes) 0) pairs e
keys_are value (part ∷ parts) bytes pairs e =
    keys_of_more part (value (take 36 bytes)) (with_values value parts (drop 36 bytes)) parts pairs
    (λ more is. keys_are value parts (drop 36 bytes) more is) e

keys_seen : {X V : Type 0} (view : X → List ℕ × V) (xs : List X) → map (λ x. (view x).0) xs ≡ map (λ p. p.0) (map view xs)
keys_seen view [] = refl
keys_seen view (x ∷ xs) = ap (λ (ks : List (List ℕ)). (view x).0 ∷ ks) (keys_seen view xs)

-- the first blocks and the others are those of all parts
pub joined_are : {X : Type 0} (view : X → List ℕ × List ℕ) (nodes front others blocks : List (List ℕ)) (known : List X) (cids : List ℕ)
    → front ≡ take (length cids / 36) nodes → front ++ others ≡ nodes → Some (map view known) ≡ with_values cid_at front cids
    → blocks ≡ map (λ x. (view x).0) known ++ others → Some blocks ≡ option_map (λ given. nodes) (known_of nodes cids)
joined_are view nodes front others blocks known cids is whole given are =
    ap Some (are ∙ ap (λ (ks : List (List ℕ)). ks ++ others) (keys_seen view known ∙ keys_are cid_at front cids (map view known) given) ∙ whole)
    ∙ ap (option_map (λ given. nodes)) (given ∙ ap (λ (ns : List (List ℕ)). with_values cid_at ns cids) is)

-- ---- the CIDs of many blocks

length_cid : (bytes : List ℕ) → length (cid sha256 bytes) ≡ 36
unfolding cid
length_cid bytes = ap (λ (n : ℕ). suc (suc (suc (suc n)))) (length-sha256 bytes)

length_cids : (blocks : List (List ℕ)) → length (cids_bytes (map (cid sha256) blocks)) ≡ length blocks * 36
length_cids [] = refl
length_cids (b ∷ bs) =
    length-append (cid sha256 b) (cids_bytes (map (cid sha256) bs)) ∙ omega (arith, length_cid b, length_cids bs)

-- the room that they want
pub cids_small : {X : Type 0} (now : X → List ℕ) (blocks : List X) (room : List ℕ) (size : ℕ) → size ≡ length blocks * 36 → length room < size
    → IsHanded 251 (cids_bytes (map (cid sha256) (map now blocks))) room room size
cids_small now blocks room size is less =
    let long : size ≡ length (cids_bytes (map (cid sha256) (map now blocks))) =
    is ∙ ap (λ (n : ℕ). n * 36) (sym (length-map blocks now)) ∙ sym (length_cids (map now blocks)) in
    record {
      size_is = long;
      whole = λ e. absurd cc;
      behind = λ e. absurd cc;
      room_is = λ e. absurd cc;
      small = λ no. (refl, subst (λ (n : ℕ). length room < n) long less, refl);
    }

-- CIDs by digests
by_digests : {X : Type 0} (now : X → List ℕ) (blocks : List X)
    → map (λ digest. prefix ++ digest) (map (λ block. sha256 (now block)) blocks) ≡ map (cid sha256) (map now blocks)
unfolding cid
by_digests now [] = refl
by_digests now (b ∷ bs) = ap (λ (cs : List (List ℕ)). (prefix ++ sha256 (now b)) ∷ cs) (by_digests now bs)

pub cids_spelt : {X : Type 0} (now : X → List ℕ) (blocks : List X) (digests : List (List ℕ)) (begun bytes : List ℕ) → begun ≡ []
    → digests ≡ map (λ block. sha256 (now block)) blocks → bytes ≡ begun ++ cids_bytes (map (λ digest. prefix ++ digest) digests)
    → bytes ≡ cids_bytes (map (cid sha256) (map now blocks))
cids_spelt now blocks digests begun bytes none are is =
    let spell : List (List ℕ) → List ℕ = λ ds. cids_bytes (map (λ digest. prefix ++ digest) ds) in
    is ∙ ap (λ (front : List ℕ). front ++ spell digests) none ∙ ap spell are ∙ ap cids_bytes (by_digests now blocks)
