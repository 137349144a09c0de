-- A file is the export of one repository.
use Rattle.std.proofs.Common.{◌≡◌, ℕ, true, eqb, List, [], ◌∷◌, ◌++◌, length, Option, Some, Result, Ok, refl, sym, ap, ◌∙◌, arith}
use Rattle.std.specs.Prelude.{Contains}
use Rattle.std.proofs.lemmas.Bool.{eq-eqb}
use Rattle.spec.specs.Cid.{cid, is_own_cid, prefix, IsDigest}
use Rattle.spec.specs.Tree.{Pair}
use Rattle.spec.specs.Blocks.{IsClashFree, nodes, pairs, record_blocks, root as root_of}
use Rattle.spec.specs.Sources.{HasBlocks}
use Rattle.spec.specs.CarReading.{CarFault, Section, read_car}
use Rattle.spec.specs.SignedCommits.{Commit, CommitFault, read_commit, signed_bytes}
use Rattle.spec.specs.Exports.{IsExport, given_by}
use Rattle.spec.specs.Laws.Exports.{ExportIsOfOne}
use Rattle.spec.proofs.Bools.{and}
use Rattle.spec.proofs.Taking.{ok_is}
use Rattle.spec.proofs.BlockLaws.{IsClashFree-append}
use Rattle.spec.proofs.RootLaws.{in_head, in_tail, root-names}
use Rattle.spec.proofs.CarLaws.{car-reads_back}
use Rattle.signed_commits.proofs.CommitLaws.{commit-reads_back}

pub own-cid : (digest : List ℕ → List ℕ) (b : List ℕ) → IsDigest digest → is_own_cid (cid digest b) ≡ true
unfolding cid
own-cid digest b h =
    let long = h b in
    and (eqb (length (prefix ++ digest b)) 36) true (eq-eqb (length (prefix ++ digest b)) 36 (omega arith)) refl

pub some-is : {A : Type 0} (x y : A) (o p : Option A) → o ≡ Some x → p ≡ Some y → o ≡ p → x ≡ y
some-is x y o p e f same = cc

-- ---- the file tells the root and the sections

pub read-as : (digest : List ℕ → List ℕ) (bits : ℕ) (file : List ℕ) (c : Commit) (m : List (List ℕ × List ℕ)) → IsDigest digest
    → (p : IsExport digest bits file c m) → read_car file ≡ Ok (cid digest (signed_bytes c), p.sections)
read-as digest bits file c m h p =
    ap read_car p.spelled ∙ car-reads_back (cid digest (signed_bytes c)) p.sections (own-cid digest (signed_bytes c) h) p.lawful

pub same-reading : (r s : List ℕ) (ss ts : List Section) (reading : Result (List ℕ × List Section) CarFault)
    → reading ≡ Ok (r, ss) → reading ≡ Ok (s, ts) → (r ≡ s) × (ss ≡ ts)
same-reading r s ss ts reading e f =
    let same = ok_is CarFault (r, ss) (s, ts) (sym e ∙ f) in
    (ap (λ (x : List ℕ × List Section). x.0) same, ap (λ (x : List ℕ × List Section). x.1) same)

-- ---- records

abbrev Has : (List ℕ → List ℕ) → List Section → List (List ℕ) → Type 0
Has digest ss bs = HasBlocks digest (given_by ss) bs

-- blocks that one source has don't clash
pub no-clash : (digest : List ℕ → List ℕ) (ss : List Section) (xs ys : List (List ℕ)) → Has digest ss xs → Has digest ss ys
    → (a b : List ℕ) → Contains xs a → Contains ys b → cid digest a ≡ cid digest b → a ≡ b
no-clash digest ss xs ys h k a b in_a in_b e =
    some-is a b (given_by ss (cid digest a)) (given_by ss (cid digest b)) (h a in_a) (k b in_b) (ap (given_by ss) e)

abbrev Records : Type 0
Records = List (List ℕ × List ℕ)

head-is : (x y : Pair) (xs ys : List Pair) → x ∷ xs ≡ y ∷ ys → (x ≡ y) × (xs ≡ ys)
head-is x y xs ys e = (cc, cc)

same-records : (digest : List ℕ → List ℕ) (ss : List Section) (m n : Records) → Has digest ss (record_blocks m)
    → Has digest ss (record_blocks n) → pairs digest m ≡ pairs digest n → m ≡ n
same-records digest ss [] [] h k e = refl
same-records digest ss [] (f ∷ n) h k e = absurd cc
same-records digest ss (x ∷ m) [] h k e = absurd cc
same-records digest ss (x ∷ m) (y ∷ n) h k e =
    let parts = head-is (x.0, cid digest x.1) (y.0, cid digest y.1) (pairs digest m) (pairs digest n) e in
    let key : x.0 ≡ y.0 = ap (λ (p : Pair). p.0) parts.0 in
    let named : cid digest x.1 ≡ cid digest y.1 = ap (λ (p : Pair). p.1) parts.0 in
    let block : x.1 ≡ y.1 = no-clash digest ss (record_blocks (x ∷ m)) (record_blocks (y ∷ n)) h k x.1 y.1 (in_head x.1 (record_blocks m)) (in_head y.1 (record_blocks n)) named in
    let rest : m ≡ n = same-records digest ss m n (λ b c. h b (in_tail x.1 b (record_blocks m) c)) (λ b c. k b (in_tail y.1 b (record_blocks n) c)) parts.1 in
    let first : x ≡ y = ap (λ (a : List ℕ). (a, x.1)) key ∙ ap (λ (b : List ℕ). (y.0, b)) block in
    ap (λ (z : List ℕ × List ℕ). z ∷ m) first ∙ ap (λ (t : Records). y ∷ t) rest

-- ---- the law

pub export-of_one : ExportIsOfOne
export-of_one digest bits file c d m n h p q =
    let same = same-reading (cid digest (signed_bytes c)) (cid digest (signed_bytes d)) p.sections q.sections (read_car file)
    (read-as digest bits file c m h p) (read-as digest bits file d n h q) in
    let ss = p.sections in
    let as_p : (c : List ℕ) → given_by q.sections c ≡ given_by ss c = λ c. ap (λ (ts : List Section). given_by ts c) (sym same.1) in
    let bytes : signed_bytes c ≡ signed_bytes d =
    some-is (signed_bytes c) (signed_bytes d) (given_by ss (cid digest (signed_bytes c))) (given_by ss (cid digest (signed_bytes d)))
    p.has_commit (sym (as_p (cid digest (signed_bytes d))) ∙ q.has_commit) (ap (given_by ss) same.0) in
    let commits : c ≡ d =
    ok_is CommitFault c d (sym (commit-reads_back c p.commit) ∙ ap read_commit bytes ∙ commit-reads_back d q.commit) in
    let nodes_m : Has digest ss (nodes digest bits (pairs digest m)) = p.has_nodes in
    let nodes_n : Has digest ss (nodes digest bits (pairs digest n)) = λ b i. sym (as_p (cid digest b)) ∙ q.has_nodes b i in
    let records_n : Has digest ss (record_blocks n) = λ b i. sym (as_p (cid digest b)) ∙ q.has_records b i in
    let xs = nodes digest bits (pairs digest m) in
    let ys = nodes digest bits (pairs digest n) in
    let free : IsClashFree digest (xs ++ ys) =
    IsClashFree-append digest xs ys (no-clash digest ss xs xs nodes_m nodes_m) (no-clash digest ss ys ys nodes_n nodes_n)
    (no-clash digest ss xs ys nodes_m nodes_n) in
    let roots : root_of digest bits (pairs digest m) ≡ root_of digest bits (pairs digest n) =
    sym p.root_is ∙ ap (λ (x : Commit). x.root) commits ∙ q.root_is in
    let listed : pairs digest m ≡ pairs digest n = root-names digest bits h (pairs digest m) (pairs digest n) p.pairs_are q.pairs_are free roots in
    (commits, same-records digest ss m n p.has_records records_n listed)
