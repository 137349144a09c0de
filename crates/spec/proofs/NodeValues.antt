-- A node's bytes, and a CAR's header, are spellings of DAG-CBOR values.
use Rattle.std.proofs.Common.{◌≡◌, ℕ, suc, ◌^◌, ◌≤◌, true, ◌&&◌, ltb, leb, List, [], ◌∷◌, ◌++◌, length, drop, Option, Some, None, refl, sym, ap, ◌∙◌, append_assoc, arith}
use Rattle.std.specs.Prelude.{codes}
use Rattle.std.specs.Str.{is_utf8, chars}
use Rattle.std.specs.Char.{encode_utf8}
use Rattle.std.specs.Cmp.Lexicographic.{slice_cmp}
use Rattle.std.specs.Ordering.{nat_cmp, is_lt}
use Rattle.std.proofs.lemmas.Bool.{lt-ltb, leb-true, eqb-true, eq-eqb}
use Rattle.std.proofs.lemmas.List.{append-nil}
use Rattle.spec.specs.Head.{head}
use Rattle.spec.specs.Cid.{is_own_cid, is_cid, is_version_0, is_version_1, link}
use Rattle.spec.specs.DagCbor.{Items, Link, count_values, spelling, spelling_of_values, is_lawful_within, are_lawful_within, is_lawful}
use Rattle.spec.specs.NodeFormat.{Entry, common, suffix_after, link_or_null, entry_bytes, entries_bytes, node_spelling, is_key, are_keys_after, is_own_cid_or_none, are_links, is_node}
use Rattle.spec.specs.Car.{header, sized}
use Rattle.spec.specs.Laws.Nodes.{value_of_link, value_of_entry, values_of_entries, value_of_node}
use Rattle.spec.specs.Laws.Cars.{value_of_header}
use Rattle.spec.proofs.Bools.{both, and, or_right}
use Rattle.spec.proofs.NodeLaws.{own_cid, Follows-common}

-- ---- links

pub spelling-link : (c : List ℕ) → length c ≡ 36 → spelling (Link c) ≡ link c
spelling-link c long = ap (λ (n : ℕ). head 6 42 ++ (head 2 (suc n) ++ (0 ∷ c))) long

own_length : (c : List ℕ) → is_own_cid c ≡ true → length c ≡ 36
own_length c own = eqb-true (length c) 36 (both _ _ own).0

spelling-link_or_null : (o : Option (List ℕ)) → is_own_cid_or_none o ≡ true → spelling (value_of_link o) ≡ link_or_null o
spelling-link_or_null None own = refl
spelling-link_or_null (Some c) own = spelling-link c (own_length c own)

is_cid-own : (c : List ℕ) → is_own_cid c ≡ true → is_cid c ≡ true
is_cid-own c own =
    let parts = own_cid c own in
    or_right (is_version_0 c) (is_version_1 c) (ap is_version_1 parts.0 ∙ eq-eqb (length (drop 4 c)) 32 parts.1)

pub lawful-link : (levels : ℕ) (c : List ℕ) → is_own_cid c ≡ true → is_lawful_within levels (Link c) ≡ true
lawful-link levels c own = let long = own_length c own in and _ _ (lt-ltb (suc (length c)) (2 ^ 64) (omega arith)) (is_cid-own c own)

lawful-link_or_null : (levels : ℕ) (o : Option (List ℕ)) → is_own_cid_or_none o ≡ true → is_lawful_within levels (value_of_link o) ≡ true
lawful-link_or_null levels None own = refl
lawful-link_or_null levels (Some c) own = lawful-link levels c own

-- ---- entries

spelling-entry : (before : List ℕ) (e : Entry) → is_own_cid e.value ≡ true → is_own_cid_or_none e.tree ≡ true → spelling (value_of_entry before e) ≡ entry_bytes before e
spelling-entry before e own tree =
    let k : List ℕ = suffix_after before e.key in
    let p : ℕ = common before e.key in
    let spelled : List ℕ → List ℕ → List ℕ =
    λ (t v : List ℕ). (0xa4 ∷ 0x61 ∷ 0x6b ∷ head 2 (length k)) ++ k ++ (0x61 ∷ 0x70 ∷ head 0 p) ++ (0x61 ∷ 0x74 ∷ t) ++ (0x61 ∷ 0x76 ∷ v) in
    let grouped : spelling (value_of_entry before e) ≡ spelled (spelling (value_of_link e.tree)) (spelling (Link e.value)) = simp (append_assoc, append-nil) in
    grouped ∙ ap (λ (t : List ℕ). spelled t (spelling (Link e.value))) (spelling-link_or_null e.tree tree) ∙ ap (spelled (link_or_null e.tree)) (spelling-link e.value (own_length e.value own))

spelling-entries : (before : List ℕ) (es : List Entry) → are_links es ≡ true → spelling_of_values (values_of_entries before es) ≡ entries_bytes before es
spelling-entries before [] links = refl
spelling-entries before (e ∷ es) links =
    let p = both (is_own_cid e.value && is_own_cid_or_none e.tree) (are_links es) links in
    let q = both (is_own_cid e.value) (is_own_cid_or_none e.tree) p.0 in
    let first = spelling-entry before e q.0 q.1 in
    let rest = spelling-entries e.key es p.1 in
    λ i. first i ++ rest i

count-entries : (before : List ℕ) (es : List Entry) → count_values (values_of_entries before es) ≡ length es
count-entries before [] = refl
count-entries before (e ∷ es) = ap suc (count-entries e.key es)

lawful-entry : (levels : ℕ) (before : List ℕ) (e : Entry) → is_lt (slice_cmp nat_cmp before e.key) ≡ true → is_key e.key ≡ true → is_own_cid e.value ≡ true → is_own_cid_or_none e.tree ≡ true
    → is_lawful_within (suc levels) (value_of_entry before e) ≡ true
unfolding is_utf8 chars encode_utf8
lawful-entry levels before e less key own tree =
    let f = Follows-common before e.key less in
    let within = f.within in
    let total = f.total in
    let long : length e.key ≤ 1024 = leb-true (length e.key) 1024 (both (ltb 0 (length e.key)) (leb (length e.key) 1024) key).1 in
    let k_fits : ltb (length (suffix_after before e.key)) (2 ^ 64) ≡ true = lt-ltb _ _ (omega arith) in
    let p_fits : ltb (common before e.key) (2 ^ 63) ≡ true = lt-ltb _ _ (omega arith) in
    rw (k_fits, p_fits, lawful-link_or_null levels e.tree tree, lawful-link levels e.value own) refl

lawful-entries : (levels : ℕ) (before : List ℕ) (es : List Entry) → are_keys_after before es ≡ true → are_links es ≡ true → are_lawful_within (suc levels) (values_of_entries before es) ≡ true
lawful-entries levels before [] keys links = refl
lawful-entries levels before (e ∷ es) keys links =
    let k = both (is_lt (slice_cmp nat_cmp before e.key) && is_key e.key) (are_keys_after e.key es) keys in
    let f = both (is_lt (slice_cmp nat_cmp before e.key)) (is_key e.key) k.0 in
    let p = both (is_own_cid e.value && is_own_cid_or_none e.tree) (are_links es) links in
    let q = both (is_own_cid e.value) (is_own_cid_or_none e.tree) p.0 in
    and _ _ (lawful-entry levels before e f.0 f.1 q.0 q.1) (lawful-entries levels e.key es k.1 p.1)

-- ---- nodes

pub spelling-node : (left : Option (List ℕ)) (es : List Entry) → is_node left es ≡ true → node_spelling left es ≡ spelling (value_of_node left es)
spelling-node left es is =
    let a = both (ltb (length es) (2 ^ 64) && are_keys_after [] es && are_links es) (is_own_cid_or_none left) is in
    let b = both (ltb (length es) (2 ^ 64) && are_keys_after [] es) (are_links es) a.0 in
    let spelled : ℕ → List ℕ → List ℕ → List ℕ = λ (n : ℕ) (entries l : List ℕ). (0xa2 ∷ 0x61 ∷ 0x65 ∷ head 4 n) ++ entries ++ (0x61 ∷ 0x6c ∷ l) in
    let count = count-entries [] es in
    let entries = spelling-entries [] es b.1 in
    let l = spelling-link_or_null left a.1 in
    let grouped : spelling (value_of_node left es) ≡ spelled (count_values (values_of_entries [] es)) (spelling_of_values (values_of_entries [] es)) (spelling (value_of_link left)) = simp (append_assoc, append-nil) in
    sym (grouped ∙ (λ i. spelled (count i) (entries i) (l i)))

pub lawful-node : (left : Option (List ℕ)) (es : List Entry) → is_node left es ≡ true → is_lawful (value_of_node left es) ≡ true
unfolding is_utf8 chars encode_utf8
lawful-node left es is =
    let a = both (ltb (length es) (2 ^ 64) && are_keys_after [] es && are_links es) (is_own_cid_or_none left) is in
    let b = both (ltb (length es) (2 ^ 64) && are_keys_after [] es) (are_links es) a.0 in
    let c = both (ltb (length es) (2 ^ 64)) (are_keys_after [] es) b.0 in
    let n : ltb (count_values (values_of_entries [] es)) (2 ^ 64) ≡ true = ap (λ (k : ℕ). ltb k (2 ^ 64)) (count-entries [] es) ∙ c.0 in
    let items : is_lawful_within 63 (Items (values_of_entries [] es)) ≡ true = and _ _ n (lawful-entries 61 [] es c.1 b.1) in
    rw (items, lawful-link_or_null 63 left a.1) refl

-- ---- headers of CARs

pub header-spelling : (root : List ℕ) → length root ≡ 36 → header root ≡ sized (spelling (value_of_header root))
header-spelling root long =
    let spelled : List ℕ → List ℕ = λ (l : List ℕ). (0xa2 ∷ 0x65 ∷ codes "roots") ++ (0x81 ∷ l) ++ (0x67 ∷ codes "version") ++ (0x01 ∷ []) in
    let grouped : spelling (value_of_header root) ≡ spelled (spelling (Link root)) = simp (append_assoc, append-nil) in
    sym (ap sized (grouped ∙ ap spelled (spelling-link root long)))
