-- The blocks that a file of some blocks gives.
use Rattle.std.proofs.Common.{◌≡◌, ℕ, ◌+◌, ◌^◌, ◌<◌, ◌≤◌, true, List, [], ◌∷◌, ◌++◌, length, map, refl, sym, ap, subst, ◌∙◌, Ok, arith}
use Rattle.std.specs.Prelude.{Contains}
use Rattle.std.specs.List.{AllByRecursion, flat_map}
use Rattle.std.specs.declared.option.Option.TheVariants.{Some}
use Rattle.std.proofs.lemmas.List.{length-append}
use Rattle.std.proofs.lemmas.Slice.Eq.{bytes_eq-Decides}
use Rattle.spec.specs.Varint.{varint}
use Rattle.spec.specs.Cid.{IsDigest, cid, is_own_cid}
use Rattle.spec.specs.Car.{car_of, header, section}
use Rattle.spec.specs.Blocks.{IsClashFree, firsts}
use Rattle.spec.specs.CarReading.{Section, block_with, blocks_of, read_car}
use Rattle.spec.specs.Laws.Cars.{section_of_block}
use Rattle.spec.proofs.CarLaws.{car-reads_back}
use Rattle.spec.proofs.RepositoryBlocks.{block-is_found}
use Rattle.edit_laws.proofs.Lists.{contains-counted, counted-contains, firsts-from}
use Rattle.export_laws.proofs.OfOne.{own-cid}
use Rattle.export_laws.proofs.ShortBlocks.{own-length}
use Rattle.export_laws.proofs.SignedCars.{are-sections, firsts-at, given-at, named-each, spelled-each}
use Rattle.event_laws.specs.Verdict.{sections_of}

first-in : (mark : List ℕ → List ℕ) (bs : List (List ℕ)) (b : List ℕ) → Contains (firsts mark bs) b → Contains bs b
first-in mark bs b h =
    let i = counted-contains b (firsts mark bs) h in
    let j = firsts-from mark b bs in
    contains-counted b bs (omega arith)

-- ---- blocks of a short file

section-length : (n size rest total : ℕ) → total ≡ n + (36 + size) + rest → total ≤ 2000000 → (36 + size < 2 ^ 63) × (rest ≤ 2000000)
section-length n size rest total e h = (omega arith, omega arith)

short-each : (digest : List ℕ → List ℕ) → IsDigest digest → (bs : List (List ℕ)) → length (flat_map (section digest) bs) ≤ 2000000
    → AllByRecursion (λ b. 36 + length b < 2 ^ 63) bs
short-each digest fits [] h = tt
short-each digest fits (b ∷ bs) h =
    let name = cid digest b in
    let size = varint (length (name ++ b)) in
    let rest = flat_map (section digest) bs in
    let p = length-append (size ++ (name ++ b)) rest in
    let q = length-append size (name ++ b) in
    let r = length-append name b in
    let k = own-length name (own-cid digest b fits) in
    let s = section-length (length size) (length b) (length rest) (length ((size ++ (name ++ b)) ++ rest)) (omega (arith, p, q, r, k)) h in
    (s.0, short-each digest fits bs s.1)

behind-header : (a b : List ℕ) → length (a ++ b) ≤ 2000000 → length b ≤ 2000000
behind-header a b h = let p = length-append a b in omega (arith, p, h)

module _ (digest : List ℕ → List ℕ) (fits : IsDigest digest) (root : List ℕ) (bs : List (List ℕ)) where
  abbrev ones : List (List ℕ)
  ones = firsts (cid digest) bs

  -- the sections of the file of these blocks
  abbrev pub given : List Section
  given = map (section_of_block digest) ones

  pub ones-short : length (car_of digest root bs) ≤ 2000000 → AllByRecursion (λ b. 36 + length b < 2 ^ 63) ones
  ones-short h = short-each digest fits ones (behind-header (header root) (flat_map (section digest) ones) h)

  file-read : is_own_cid root ≡ true → length (car_of digest root bs) ≤ 2000000 → read_car (car_of digest root bs) ≡ Ok (root, given)
  file-read own h =
      ap read_car (ap (λ (x : List ℕ). header root ++ x) (spelled-each digest ones))
      ∙ car-reads_back root given own (are-sections digest fits ones (ones-short h))

  pub sections-read : is_own_cid root ≡ true → length (car_of digest root bs) ≤ 2000000
      → sections_of digest root (car_of digest root bs) ≡ Ok given
  unfolding sections_of
  sections-read own h =
      rw (file-read own h, (bytes_eq-Decides root root).1 refl, named-each digest ones) refl

  -- ---- where no two of the blocks clash

  module _ (free : IsClashFree digest bs) where
    pub block-given : (b : List ℕ) → Contains bs b → block_with (cid digest b) given ≡ Some b
    block-given b i =
        given-at digest (cid digest b) ones ∙ firsts-at digest (cid digest b) bs
        ∙ (block-is_found digest bs free (cid digest b) b).1 (i, refl)

    free-ones : IsClashFree digest ones
    free-ones a b i j e = free a b (first-in (cid digest) bs a i) (first-in (cid digest) bs b j) e

    one-given : (b : List ℕ) → Contains bs b → Contains ones b
    one-given b i =
        ((block-is_found digest ones free-ones (cid digest b) b).0
        (firsts-at digest (cid digest b) bs ∙ (block-is_found digest bs free (cid digest b) b).1 (i, refl))).0

    blocks-given : (xs : List (List ℕ)) → blocks_of (map (section_of_block digest) xs) ≡ xs
    blocks-given [] = refl
    blocks-given (x ∷ xs) = ap (λ (ys : List (List ℕ)). x ∷ ys) (blocks-given xs)

    pub has-given : (b : List ℕ) → Contains bs b → Contains (blocks_of given) b
    has-given b i = subst (λ xs. Contains xs b) (sym (blocks-given ones)) (one-given b i)

    pub from-given : (b : List ℕ) → Contains (blocks_of given) b → Contains bs b
    from-given b i = first-in (cid digest) bs b (subst (λ xs. Contains xs b) (blocks-given ones) i)
