-- The blocks of a repository are short enough for sections of a file.
use Rattle.std.proofs.Common.{◌≡◌, ℕ, suc, ◌+◌, ◌*◌, ◌^◌, ◌≤◌, Bool, true, false, cond, ◌&&◌, eqb, leb, List, [], ◌∷◌, ◌++◌, length, take, drop, Option, Some, None, Ok, refl, sym, subst, arith, inl, inr}
use Rattle.std.specs.Prelude.{Contains, nat_lt, nat_le, codes}
use Rattle.std.specs.Int.{w8, w16, w32, w64, to_be_bytes}
use Rattle.std.specs.List.{list_all, before_first}
use Rattle.std.specs.Str.{bytes_eq}
use Rattle.std.specs.Cmp.Lexicographic.{slice_cmp}
use Rattle.std.specs.Ordering.{nat_cmp, is_lt}
use Rattle.std.proofs.lemmas.Bool.{eqb-true, leb-true}
use Rattle.std.proofs.lemmas.List.{length-append, length-drop}
use Rattle.std.proofs.lemmas.List.Elements.{Contains-append_cases}
use Rattle.spec.specs.Head.{head}
use Rattle.spec.specs.Cid.{IsDigest, is_own_cid, link, prefix}
use Rattle.spec.specs.DagCbor.{string}
use Rattle.spec.specs.Keys.{is_one_of}
use Rattle.spec.specs.Layer.{layer}
use Rattle.spec.specs.Tree.{Pair, Node, Last, More, Part, Nothing, Sub, EachNode, EachUnder, top, pairs_in, pairs_under}
use Rattle.spec.specs.NodeFormat.{Entry, common, suffix_after, entry_bytes, entries_bytes, node_spelling, node_bytes, shape, first_link, entries_of, link_or_null, is_key, is_own_cid_or_none, are_keys_after, are_links, is_node}
use Rattle.spec.specs.Blocks.{ArePairs, blocks_in, blocks_under, no_record, nodes}
use Rattle.spec.specs.Stamps.{is_colon, is_method_name, is_did, is_tid}
use Rattle.spec.specs.Writes.{RecordSize, record_test}
use Rattle.spec.specs.SignedCommits.{Commit, IsCommit, signed_bytes, before_did, before_rev, before_sig, before_data, before_prev, at_the_end, last_fields}
use Rattle.spec.proofs.Bools.{both}
use Rattle.spec.proofs.Once.{head_or_tail, blocks_under-More}
use Rattle.spec.proofs.RootLaws.{both-part}
use Rattle.spec.proofs.Taking.{ensure_ok}
use Rattle.spec.proofs.TreeLaws.{pairs-top}
use Rattle.spec.proofs.TreeNodes.{IsLawful, EachNode-top}
use Rattle.spec.proofs.VerifyLaws.{each-part_is}

-- ---- heads and links

short-if : (t : Bool) (xs ys : List ℕ) → length xs ≤ 9 → length ys ≤ 9 → length (cond t xs ys) ≤ 9
short-if true xs ys a b = a
short-if false xs ys a b = b

first-and : (b : ℕ) (xs : List ℕ) (n : ℕ) → length xs ≡ n → n ≤ 8 → length (b ∷ xs) ≤ 9
first-and b xs n e le = omega arith

pub head-short : (m n : ℕ) → length (head m n) ≤ 9
head-short m n =
    short-if (nat_lt n 24) ((32 * m + n) ∷ []) _ (first-and (32 * m + n) [] 0 refl (omega arith))
    (short-if (nat_lt n (2 ^ 8)) ((32 * m + 24) ∷ to_be_bytes w8 n) _ (first-and (32 * m + 24) (to_be_bytes w8 n) 1 refl (omega arith))
    (short-if (nat_lt n (2 ^ 16)) ((32 * m + 25) ∷ to_be_bytes w16 n) _ (first-and (32 * m + 25) (to_be_bytes w16 n) 2 refl (omega arith))
    (short-if (nat_lt n (2 ^ 32)) ((32 * m + 26) ∷ to_be_bytes w32 n) ((32 * m + 27) ∷ to_be_bytes w64 n)
    (first-and (32 * m + 26) (to_be_bytes w32 n) 4 refl (omega arith))
    (first-and (32 * m + 27) (to_be_bytes w64 n) 8 refl (omega arith)))))

pub own-length : (c : List ℕ) → is_own_cid c ≡ true → length c ≡ 36
own-length c own = eqb-true (length c) 36 (both (eqb (length c) 36) (bytes_eq (take 4 c) prefix) own).0

five-more : (a b c d e : ℕ) (xs : List ℕ) → length xs ≡ 36 → length (a ∷ b ∷ c ∷ d ∷ e ∷ xs) ≤ 41
five-more a b c d e xs h = omega arith

pub link-short : (c : List ℕ) → is_own_cid c ≡ true → length (link c) ≤ 41
link-short c own = five-more 0xd8 0x2a 0x58 0x25 0x00 c (own-length c own)

link_or_null-short : (o : Option (List ℕ)) → is_own_cid_or_none o ≡ true → length (link_or_null o) ≤ 41
link_or_null-short None own = omega arith
link_or_null-short (Some c) own = link-short c own

-- ---- nodes

two-more : (a b n : ℕ) (xs : List ℕ) → length xs ≤ n → length (a ∷ b ∷ xs) ≤ n + 2
two-more a b n xs h = omega arith

three-more : (a b c : ℕ) (xs : List ℕ) → length xs ≤ 9 → length (a ∷ b ∷ c ∷ xs) ≤ 12
three-more a b c xs h = omega arith

five-parts : (a b c d e : List ℕ) → length a ≤ 12 → length b ≤ 1024 → length c ≤ 11 → length d ≤ 43 → length e ≤ 43
    → length (a ++ b ++ c ++ d ++ e) ≤ 1200
five-parts a b c d e u v w x y =
    let h = length-append (a ++ b ++ c ++ d) e in
    let i = length-append (a ++ b ++ c) d in
    let j = length-append (a ++ b) c in
    let k = length-append a b in
    omega arith

suffix-short : (n : ℕ) (key : List ℕ) → is_key key ≡ true → length (drop n key) ≤ 1024
suffix-short n key is =
    let short : length key ≤ 1024 = leb-true (length key) 1024 (both (nat_lt 0 (length key)) (nat_le (length key) 1024) is).1 in
    let e = length-drop n key in
    omega arith

entry-short : (before : List ℕ) (e : Entry) → is_key e.key ≡ true → is_own_cid e.value ≡ true → is_own_cid_or_none e.tree ≡ true
    → length (entry_bytes before e) ≤ 1200
entry-short before e key value tree =
    let k = suffix_after before e.key in
    five-parts (0xa4 ∷ 0x61 ∷ 0x6b ∷ head 2 (length k)) k (0x61 ∷ 0x70 ∷ head 0 (common before e.key))
    (0x61 ∷ 0x74 ∷ link_or_null e.tree) (0x61 ∷ 0x76 ∷ link e.value)
    (three-more 0xa4 0x61 0x6b (head 2 (length k)) (head-short 2 (length k)))
    (suffix-short (common before e.key) e.key key)
    (two-more 0x61 0x70 9 (head 0 (common before e.key)) (head-short 0 (common before e.key)))
    (two-more 0x61 0x74 41 (link_or_null e.tree) (link_or_null-short e.tree tree))
    (two-more 0x61 0x76 41 (link e.value) (link-short e.value value))

one-more : (a b : List ℕ) (n : ℕ) → length a ≤ 1200 → length b ≤ 1200 * n → length (a ++ b) ≤ 1200 * suc n
one-more a b n h k = let e = length-append a b in omega arith

entries-short : (before : List ℕ) (es : List Entry) → are_keys_after before es ≡ true → are_links es ≡ true
    → length (entries_bytes before es) ≤ 1200 * length es
entries-short before [] keys links = omega arith
entries-short before (e ∷ es) keys links =
    let k = both (is_lt (slice_cmp nat_cmp before e.key) && is_key e.key) (are_keys_after e.key es) keys in
    let of_key = both (is_lt (slice_cmp nat_cmp before e.key)) (is_key e.key) k.0 in
    let l = both (is_own_cid e.value && is_own_cid_or_none e.tree) (are_links es) links in
    let of_links = both (is_own_cid e.value) (is_own_cid_or_none e.tree) l.0 in
    one-more (entry_bytes before e) (entries_bytes e.key es) (length es) (entry-short before e of_key.1 of_links.0 of_links.1)
    (entries-short e.key es k.1 l.1)

three-parts : (a b c : List ℕ) (n : ℕ) → length a ≤ 12 → length b ≤ 1200 * n → length c ≤ 43 → length (a ++ b ++ c) ≤ 100 + 1200 * n
three-parts a b c n u v w =
    let h = length-append (a ++ b) c in
    let i = length-append a b in
    omega arith

node-short : (left : Option (List ℕ)) (es : List Entry) → is_node left es ≡ true → length (node_spelling left es) ≤ 100 + 1200 * length es
node-short left es is =
    let a = both (nat_lt (length es) (2 ^ 64) && are_keys_after [] es && are_links es) (is_own_cid_or_none left) is in
    let b = both (nat_lt (length es) (2 ^ 64) && are_keys_after [] es) (are_links es) a.0 in
    let c = both (nat_lt (length es) (2 ^ 64)) (are_keys_after [] es) b.0 in
    three-parts (0xa2 ∷ 0x61 ∷ 0x65 ∷ head 4 (length es)) (entries_bytes [] es) (0x61 ∷ 0x6c ∷ link_or_null left) (length es)
    (three-more 0xa2 0x61 0x65 (head 4 (length es)) (head-short 4 (length es)))
    (entries-short [] es c.1 b.1)
    (two-more 0x61 0x6c 41 (link_or_null left) (link_or_null-short left a.1))

-- a node has no more entries than there are pairs under it
entries-few : (digest : List ℕ → List ℕ) (m : Node) → length (entries_of (shape digest m)) ≤ length (pairs_under m)
entries-few digest (Last p) = omega arith
entries-few digest (More p e r) =
    let i = entries-few digest r in
    let s = length-append (pairs_in p) (e ∷ pairs_under r) in
    omega arith

first-few : (xs ys : List Pair) (e : Pair) (n : ℕ) → length (xs ++ e ∷ ys) ≤ n → length xs ≤ n
first-few xs ys e n h = let s = length-append xs (e ∷ ys) in omega arith

rest-few : (xs ys : List Pair) (e : Pair) (n : ℕ) → length (xs ++ e ∷ ys) ≤ n → length ys ≤ n
rest-few xs ys e n h = let s = length-append xs (e ∷ ys) in omega arith

abbrev IsFew : ℕ → Node → Type 0
IsFew n m = length (pairs_under m) ≤ n

mutual
  few-part : (n : ℕ) (p : Part) → length (pairs_in p) ≤ n → EachNode (IsFew n) p
  few-part n Nothing h = tt
  few-part n (Sub m) h = (h, few-under n m h)

  few-under : (n : ℕ) (m : Node) → length (pairs_under m) ≤ n → EachUnder (IsFew n) m
  few-under n (Last p) h = few-part n p h
  few-under n (More p e r) h = (
    few-part n p (first-few (pairs_in p) (pairs_under r) e n h),
    few-under n r (rest-few (pairs_in p) (pairs_under r) e n h),
  )

bounded : (size entries pairs n : ℕ) → size ≤ 100 + 1200 * entries → entries ≤ pairs → pairs ≤ n → size ≤ 100 + 1200 * n
bounded size entries pairs n a b c = omega arith

short-node : (digest : List ℕ → List ℕ) (n : ℕ) (m : Node) → IsLawful digest m × IsFew n m → length (node_bytes digest m) ≤ 100 + 1200 * n
short-node digest n m h =
    bounded (length (node_bytes digest m)) (length (entries_of (shape digest m))) (length (pairs_under m)) n
    (node-short (first_link (shape digest m)) (entries_of (shape digest m)) h.0) (entries-few digest m) h.1

module _ (digest : List ℕ → List ℕ) (Q : List ℕ → Type 0) where
  abbrev OfNode : Node → Type 0
  OfNode m = Q (node_bytes digest m)

  mutual
    -- what holds of each node's bytes holds of each block
    block-part : (p : Part) → EachNode OfNode p → (b : List ℕ) → Contains (blocks_in digest no_record p) b → Q b
    block-part Nothing h b i = absurd (omega (arith, i.1))
    block-part (Sub m) h b i =
        elim (head_or_tail b (node_bytes digest m) (blocks_under digest no_record m) i) [
          | inl e ↦ subst Q e h.0
          | inr j ↦ block-under m h.1 b j
        ]

    block-under : (m : Node) → EachUnder OfNode m → (b : List ℕ) → Contains (blocks_under digest no_record m) b → Q b
    block-under (Last p) h b i = block-part p h b i
    block-under (More p e r) h b i =
        elim (Contains-append_cases (blocks_in digest no_record p) (blocks_under digest no_record r) b
        (subst (λ (bs : List (List ℕ)). Contains bs b) (blocks_under-More digest p e r) i)) [
          | inl j ↦ block-part p h.0 b j
          | inr j ↦ block-under r h.1 b j
        ]

pub nodes-short : (digest : List ℕ → List ℕ) (bits : ℕ) → IsDigest digest → (es : List Pair) → ArePairs es → (b : List ℕ)
    → Contains (nodes digest bits es) b → length b ≤ 100 + 1200 * length es
nodes-short digest bits fits es are =
    let t = Sub (top (layer digest bits) es) in
    let few : length (pairs_in t) ≤ length es =
    subst (λ (fs : List Pair). length fs ≤ length es) (sym (pairs-top (layer digest bits) es)) (omega arith) in
    block-part digest (λ b. length b ≤ 100 + 1200 * length es) t
    (each-part_is (λ m. IsLawful digest m × IsFew (length es) m) (λ m. length (node_bytes digest m) ≤ 100 + 1200 * length es)
    (short-node digest (length es)) t
    (both-part (IsLawful digest) (IsFew (length es)) t (EachNode-top digest (layer digest bits) fits es are) (few-part (length es) t few)))

-- ---- records

pub record-short : (b : List ℕ) → record_test b ≡ Ok tt → length b ≤ 1048576
unfolding record_test
record-short b h = leb-true (length b) 1048576 (ensure_ok (nat_le (length b) 1048576) RecordSize _ tt h).0

-- ---- commits

pub did-short : (d : List ℕ) → is_did d ≡ true → length d ≤ 2048
did-short d h =
    let a = both (leb (length d) 2048 && bytes_eq (take 4 d) (codes "did:") && is_method_name (before_first is_colon (drop 4 d))) _ h in
    let b = both (leb (length d) 2048 && bytes_eq (take 4 d) (codes "did:")) _ a.0 in
    leb-true (length d) 2048 (both (leb (length d) 2048) _ b.0).0

pub rev-length : (r : List ℕ) → is_tid r ≡ true → length r ≡ 13
rev-length r h =
    let letters = list_all (is_one_of (codes "234567abcdefghijklmnopqrstuvwxyz")) r in
    eqb-true (length r) 13 (both (eqb (length r) 13) letters (both (eqb (length r) 13 && letters) _ h).0).0

pub string-short : (m n : ℕ) (bytes : List ℕ) → length bytes ≤ n → length (string m bytes) ≤ n + 9
string-short m n bytes h =
    let e = length-append (head m (length bytes)) bytes in
    let k = head-short m (length bytes) in
    omega (arith, e, k, h)

last-parts : (a b c d e : List ℕ) → length a ≤ 5 → length b ≤ 41 → length c ≤ 5 → length d ≤ 41 → length e ≤ 9
    → length (a ++ (b ++ (c ++ (d ++ e)))) ≤ 101
last-parts a b c d e u v w x y =
    let h = length-append a (b ++ (c ++ (d ++ e))) in
    let i = length-append b (c ++ (d ++ e)) in
    let j = length-append c (d ++ e) in
    let k = length-append d e in
    omega arith

seven-parts : (a b c d e f g : List ℕ) (n : ℕ) → length a ≤ 5 → length b ≤ 2057 → length c ≤ 4 → length d ≤ 22 → length e ≤ 4 → length f ≤ n + 9
    → length g ≤ 101 → length (a ++ (b ++ (c ++ (d ++ (e ++ (f ++ g)))))) ≤ n + 2300
seven-parts a b c d e f g n t u v w x y z =
    let h = length-append a (b ++ (c ++ (d ++ (e ++ (f ++ g))))) in
    let i = length-append b (c ++ (d ++ (e ++ (f ++ g)))) in
    let j = length-append c (d ++ (e ++ (f ++ g))) in
    let k = length-append d (e ++ (f ++ g)) in
    let l = length-append e (f ++ g) in
    let m = length-append f g in
    omega arith

at-most : (n m : ℕ) → n ≡ m → n ≤ m
at-most n m e = omega arith

pub commit-short : (c : Commit) → IsCommit c → length (signed_bytes c) ≤ length c.sig + 2300
unfolding signed_bytes
commit-short c is =
    seven-parts (before_did 6) (string 3 c.did) before_rev (string 3 c.rev) before_sig (string 2 c.sig) (last_fields c.root c.prev) (length c.sig)
    (omega arith) (string-short 3 2048 c.did (did-short c.did is.did)) (omega arith)
    (string-short 3 13 c.rev (at-most (length c.rev) 13 (rev-length c.rev is.rev))) (omega arith)
    (string-short 2 (length c.sig) c.sig (omega arith))
    (last-parts before_data (link c.root) before_prev (link_or_null c.prev) at_the_end (omega arith) (link-short c.root is.root) (omega arith)
    (link_or_null-short c.prev is.prev) (omega arith))
