-- The file of a signed commit is an export.
use Rattle.std.proofs.Common.{◌≡◌, ℕ, ◌+◌, ◌*◌, ◌^◌, ◌<◌, ◌≤◌, Bool, true, false, cond, not, List, [], ◌∷◌, ◌++◌, length, map, Option, Some, refl, sym, ap, ◌∙◌, arith}
use Rattle.std.specs.Prelude.{Contains, filter, option_map}
use Rattle.std.specs.List.{AllByRecursion, flat_map}
use Rattle.std.specs.Str.{bytes_eq}
use Rattle.std.specs.Cmp.Lexicographic.{slice_cmp}
use Rattle.std.specs.Ordering.{nat_cmp}
use Rattle.std.specs.FinMap.{is_sorted}
use Rattle.std.proofs.lemmas.List.{length-map}
use Rattle.std.proofs.lemmas.Slice.Eq.{bytes_eq-Decides}
use Rattle.spec.specs.Cid.{IsDigest, cid}
use Rattle.spec.specs.Car.{header, section}
use Rattle.spec.specs.Blocks.{ArePairs, IsClashFree, block_at, blocks, firsts, nodes, pairs}
use Rattle.spec.specs.Stamps.{Stamp}
use Rattle.spec.specs.States.{State, IsLawful, last_stamp, records}
use Rattle.spec.specs.CarReading.{Section, IsSection, are_named, block_with, section_with, section_bytes}
use Rattle.spec.specs.SignedCommits.{IsCommit, signed_bytes}
use Rattle.spec.specs.Exports.{given_by}
use Rattle.spec.specs.Laws.Cars.{section_of_block}
use Rattle.spec.proofs.Bools.{and, from_T}
use Rattle.spec.proofs.RecordPairs.{lawful-pairs}
use Rattle.spec.proofs.RepositoryBlocks.{block-some, each-part, node-in, record-in}
use Rattle.spec.proofs.RootLaws.{in_head, in_tail}
use Rattle.spec.proofs.WriteLaws.{is_sorted-leaves}
use Rattle.signed_commits.proofs.CommitLaws.{signs-unsigned}
use Rattle.export_laws.specs.SignedCars.{signed_over}
use Rattle.export_laws.specs.Laws.{SignedCarIsExport, SignedCarSignsCommit}
use Rattle.export_laws.proofs.LastStamps.{stamp-good}
use Rattle.export_laws.proofs.LeftRecords.{good-block, good-keys, good-records, left-by}
use Rattle.export_laws.proofs.NoOrder.{by-recursion}
use Rattle.export_laws.proofs.OfOne.{own-cid}
use Rattle.export_laws.proofs.ShortBlocks.{commit-short, nodes-short, record-short}

abbrev Short : List ℕ → Type 0
Short b = 36 + length b < 2 ^ 63

module _ (digest : List ℕ → List ℕ) where
  abbrev sections_of : List (List ℕ) → List Section
  sections_of bs = map (section_of_block digest) bs

  -- ---- the sections of some blocks

  pub spelled-each : (bs : List (List ℕ)) → flat_map (section digest) bs ≡ flat_map section_bytes (sections_of bs)
  spelled-each [] = refl
  spelled-each (b ∷ bs) = ap (λ (x : List ℕ). section digest b ++ x) (spelled-each bs)

  pub named-each : (bs : List (List ℕ)) → are_named digest (sections_of bs) ≡ true
  named-each [] = refl
  named-each (b ∷ bs) = and _ _ ((bytes_eq-Decides (cid digest b) (cid digest b)).1 refl) (named-each bs)

  pub are-sections : IsDigest digest → (bs : List (List ℕ)) → AllByRecursion Short bs → AllByRecursion IsSection (sections_of bs)
  are-sections fits [] all = tt
  are-sections fits (b ∷ bs) all = (record { own = own-cid digest b fits; short = all.0 }, are-sections fits bs all.1)

  kept-short : (b : List ℕ) (bs : List (List ℕ)) (t : Bool) → Short b → AllByRecursion Short bs → AllByRecursion Short (cond t (b ∷ bs) bs)
  kept-short b bs true short all = (short, all)
  kept-short b bs false short all = all

  filter-short : (p : List ℕ → Bool) (bs : List (List ℕ)) → AllByRecursion Short bs → AllByRecursion Short (filter p bs)
  filter-short p [] all = tt
  filter-short p (b ∷ bs) all = kept-short b (filter p bs) (p b) all.0 (filter-short p bs all.1)

  firsts-short : (bs : List (List ℕ)) → AllByRecursion Short bs → AllByRecursion Short (firsts (cid digest) bs)
  firsts-short [] all = tt
  firsts-short (b ∷ bs) all =
      (all.0, filter-short (λ c. not (bytes_eq (cid digest b) (cid digest c))) (firsts (cid digest) bs) (firsts-short bs all.1))

  -- ---- the block that they give for a CID

  given-case : (b : List ℕ) (t : Bool) (o : Option Section) (p : Option (List ℕ)) → option_map (λ s. s.block) o ≡ p
      → option_map (λ s. s.block) (cond t (Some (section_of_block digest b)) o) ≡ cond t (Some b) p
  given-case b true o p e = refl
  given-case b false o p e = e

  pub given-at : (c : List ℕ) (bs : List (List ℕ)) → block_with c (sections_of bs) ≡ block_at digest c bs
  given-at c [] = refl
  given-at c (b ∷ bs) = given-case b (bytes_eq (cid digest b) c) (section_with c (sections_of bs)) (block_at digest c bs) (given-at c bs)

  filter-case : (c b : List ℕ) (xs ys : List (List ℕ)) (t u : Bool) → bytes_eq (cid digest b) c ≡ u → (u ≡ true → t ≡ true)
      → block_at digest c xs ≡ block_at digest c ys → block_at digest c (cond t (b ∷ xs) xs) ≡ block_at digest c (b ∷ ys)
  filter-case c b xs ys true u e kept i = ap (λ (o : Option (List ℕ)). cond (bytes_eq (cid digest b) c) (Some b) o) i
  filter-case c b xs ys false true e kept i = let never = kept refl in absurd cc
  filter-case c b xs ys false false e kept i =
      i ∙ sym (ap (λ (v : Bool). cond v (Some b) (block_at digest c ys)) e)

  -- a test that keeps each block with this CID loses none
  filter-at : (c : List ℕ) (q : List ℕ → Bool) (bs : List (List ℕ)) → ((b : List ℕ) → bytes_eq (cid digest b) c ≡ true → q b ≡ true)
      → block_at digest c (filter q bs) ≡ block_at digest c bs
  filter-at c q [] kept = refl
  filter-at c q (b ∷ bs) kept =
      filter-case c b (filter q bs) bs (q b) (bytes_eq (cid digest b) c) refl (λ e. kept b e) (filter-at c q bs kept)

  firsts-case : (c b : List ℕ) (xs ys : List (List ℕ)) (t : Bool) → bytes_eq (cid digest b) c ≡ t → block_at digest c xs ≡ block_at digest c ys
      → block_at digest c (b ∷ filter (λ d. not (bytes_eq (cid digest b) (cid digest d))) xs) ≡ block_at digest c (b ∷ ys)
  firsts-case c b xs ys true e i =
      ap (λ (v : Bool). cond v (Some b) (block_at digest c (filter (λ d. not (bytes_eq (cid digest b) (cid digest d))) xs))) e
      ∙ sym (ap (λ (v : Bool). cond v (Some b) (block_at digest c ys)) e)
  firsts-case c b xs ys false e i =
      ap (λ (o : Option (List ℕ)). cond (bytes_eq (cid digest b) c) (Some b) o)
      (filter-at c (λ d. not (bytes_eq (cid digest b) (cid digest d))) xs
      (λ d h. ap not (ap (bytes_eq (cid digest b)) ((bytes_eq-Decides (cid digest d) c).0 h) ∙ e)) ∙ i)

  pub firsts-at : (c : List ℕ) (bs : List (List ℕ)) → block_at digest c (firsts (cid digest) bs) ≡ block_at digest c bs
  firsts-at c [] = refl
  firsts-at c (b ∷ bs) = firsts-case c b (firsts (cid digest) bs) bs (bytes_eq (cid digest b) c) refl (firsts-at c bs)

  module _ (b : List ℕ) (bs : List (List ℕ)) where
    -- the block at the top, and the others once each
    abbrev served : List Section
    served = sections_of (b ∷ firsts (cid digest) bs)

    served-at : (c : List ℕ) → given_by served c ≡ block_at digest c (b ∷ bs)
    served-at c =
        given-at c (b ∷ firsts (cid digest) bs)
        ∙ ap (λ (o : Option (List ℕ)). cond (bytes_eq (cid digest b) c) (Some b) o) (firsts-at c bs)

    -- where no two clash, each of them is given
    served-has : IsClashFree digest (b ∷ bs) → (x : List ℕ) → Contains (b ∷ bs) x → given_by served (cid digest x) ≡ Some x
    served-has free x i =
        served-at (cid digest x) ∙ block-some digest (cid digest x) x (b ∷ bs) i refl (λ y j e. free y x j i e)

    served-lawful : IsDigest digest → Short b → AllByRecursion Short bs → AllByRecursion IsSection served
    served-lawful fits short all = are-sections fits (b ∷ firsts (cid digest) bs) (short, firsts-short bs all)

-- ---- the laws

few-writes : (n limit : ℕ) → n ≤ limit → limit ≤ 1048576 → n < 2 ^ 64
few-writes n limit a b = omega arith

fits-node : (size n count limit : ℕ) → size ≤ 100 + 1200 * n → n ≤ count → count ≤ limit → limit ≤ 1048576 → 36 + size < 2 ^ 63
fits-node size n count limit a b c d = omega arith

fits-record : (size : ℕ) → size ≤ 1048576 → 36 + size < 2 ^ 63
fits-record size a = omega arith

fits-commit : (size sig : ℕ) → size ≤ sig + 2300 → sig < 2 ^ 62 → 36 + size < 2 ^ 63
fits-commit size sig a b = omega arith

no-more : (b : List ℕ) (P : Type 0) → Contains [] b → P
no-more b P i = absurd (omega (arith, i.1))

module _ (digest : List ℕ → List ℕ) (bits : ℕ) (s : State) (stamp : Stamp) (sig : List ℕ) (fits : IsDigest digest) (is : IsLawful s)
    (stamped : last_stamp s ≡ Some stamp) where
  the-commit : length sig < 2 ^ 63 → IsCommit (signed_over digest bits stamp sig (records s))
  the-commit few =
      let good = stamp-good s.stamps stamp is.stamps stamped in
      record { did = good.0; rev = good.1; sig = few; root = own-cid digest _ fits; prev = refl }

  sorted : is_sorted (slice_cmp nat_cmp) (records s) ≡ true
  sorted = from_T _ (is_sorted-leaves s.accepted)

  the-pairs : ArePairs (pairs digest (records s))
  the-pairs = lawful-pairs digest fits s.accepted is.writes (few-writes (length s.accepted) s.limit is.within_limit is.limit_fits)

  short-nodes : (b : List ℕ) → Contains (nodes digest bits (pairs digest (records s))) b → Short b
  short-nodes b i =
      let left = left-by s.accepted is.writes in
      let same : length (pairs digest (records s)) ≡ length (records s) = length-map (records s) (λ (e : List ℕ × List ℕ). (e.0, cid digest e.1)) in
      let most : length (pairs digest (records s)) ≤ length s.accepted = let k = left.most in omega arith in
      fits-node (length b) (length (pairs digest (records s))) (length s.accepted) s.limit
      (nodes-short digest bits fits (pairs digest (records s)) the-pairs b i) most is.within_limit is.limit_fits

  short-blocks : AllByRecursion Short (blocks digest bits [] (records s))
  short-blocks =
      by-recursion Short (blocks digest bits [] (records s))
      (each-part digest bits [] (records s) sorted Short (λ b i. no-more b (Short b) i) short-nodes
      (λ b i. fits-record (length b) (record-short b (good-block (records s) (left-by s.accepted is.writes).good b i))))

pub signed-export : SignedCarIsExport
signed-export digest bits s stamp sig fits is stamped few free =
    let m = records s in
    let c = signed_over digest bits stamp sig m in
    let b = signed_bytes c in
    let bs = blocks digest bits [] m in
    let commit = the-commit digest bits s stamp sig fits is stamped (omega arith) in
    let in_order = sorted digest bits s stamp sig fits is stamped in
    let good = (left-by s.accepted is.writes).good in
    let has = served-has digest b bs free in
    record {
      sections = served digest b bs;
      spelled = ap (λ (x : List ℕ). header (cid digest b) ++ (section digest b ++ x)) (spelled-each digest (firsts (cid digest) bs));
      lawful = served-lawful digest b bs fits (fits-commit (length b) (length sig) (commit-short c commit) few)
          (short-blocks digest bits s stamp sig fits is stamped);
      named = named-each digest (b ∷ firsts (cid digest) bs);
      commit = commit;
      has_commit = has b (in_head b bs);
      pairs_are = the-pairs digest bits s stamp sig fits is stamped;
      root_is = refl;
      has_nodes = λ x i. has x (in_tail b x bs (node-in digest bits [] m in_order x i));
      has_records = λ x i. has x (in_tail b x bs (record-in digest bits [] m in_order x i));
      keys = good-keys m good;
      records = good-records m good;
    }

pub signs-commit : SignedCarSignsCommit
signs-commit digest bits s stamp sig fits is stamped few =
    signs-unsigned (signed_over digest bits stamp sig (records s)) (the-commit digest bits s stamp sig fits is stamped few) refl
