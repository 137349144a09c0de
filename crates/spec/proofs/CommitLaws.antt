-- A commit's bytes are the spelling of a lawful value.
use Rattle.std.proofs.Common.{◌≡◌, ℕ, zero, suc, ◌+◌, ◌-◌, ◌^◌, ◌<◌, ◌≤◌, Bool, true, ◌&&◌, ◌||◌, eqb, leb, ltb, List, inl, inr}
use Rattle.std.proofs.Common.{[], ◌∷◌, ◌++◌, length, get_or, take, drop, refl, sym, ap, subst}
use Rattle.std.proofs.Common.{arith, length-drop, take-append-drop}
use Rattle.std.specs.Prelude.{codes}
use Rattle.std.specs.List.{list_all, before_first, after_first, position_or_len}
use Rattle.std.specs.Char.{is_ascii_alphanumeric, is_ascii_lowercase}
use Rattle.std.specs.Str.{IsAscii, is_utf8, chars, bytes_eq}
use Rattle.std.specs.Char.{encode_utf8}
use Rattle.std.proofs.lemmas.Bool.{ltb-true, leb-true, lt-ltb, eqb-true}
use Rattle.std.proofs.lemmas.List.Sums.{split_at_first, passes_at_first}
use Rattle.std.proofs.lemmas.Slice.Eq.{bytes_eq-Decides}
use Rattle.std.proofs.lemmas.Str.{IsAscii-append, IsUtf8-from_ascii, is_utf8-from_IsUtf8}
use Rattle.spec.specs.Keys.{is_one_of}
use Rattle.spec.specs.DagCbor.{Value, Null, Text, Link, Fields, Entries, NoEntry, EntryThen}
use Rattle.spec.specs.DagCbor.{is_lawful_within, is_lawful, fits_length}
use Rattle.spec.specs.Stamps.{Stamp, is_colon, is_method_name, is_method_specific_id, is_did, is_tid}
use Rattle.spec.specs.Commits.{value_of_commit, commit_bytes}
use Rattle.spec.specs.Laws.Commits.{IsCommit, CommitReadsBack, CommitNamesStampAndRoot}
use Rattle.spec.proofs.Bools.{both, and, one_of}
use Rattle.spec.proofs.DagCborLaws.{read-spelling, spelling-one_form}
use Rattle.spec.proofs.NodeValues.{lawful-link}

-- ---- texts whose letters pass a test are ASCII

ascii-cons : (x : ℕ) (xs : List ℕ) → x < 128 → IsAscii xs → IsAscii (x ∷ xs)
ascii-cons x xs h k zero = h
ascii-cons x xs h k (suc i) = k i

all-ascii : (p : ℕ → Bool) → ((x : ℕ) → p x ≡ true → x < 128) → (bs : List ℕ)
    → list_all p bs ≡ true → IsAscii bs
all-ascii p f [] h = λ i. omega arith
all-ascii p f (x ∷ xs) h =
    let b = both (p x) (list_all p xs) h in ascii-cons x xs (f x b.0) (all-ascii p f xs b.1)

one-small : (cs : List ℕ) → list_all (λ c. ltb c 128) cs ≡ true → (x : ℕ) → is_one_of cs x ≡ true
    → x < 128
one-small [] h x e = absurd cc
one-small (c ∷ cs) h x e =
    let b = both (ltb c 128) (list_all (λ y. ltb y 128) cs) h in
    elim (one_of (eqb c x) (is_one_of cs x) e) [
      | inl same ↦ let is = eqb-true c x same in let lt = ltb-true c 128 b.0 in omega arith
      | inr later ↦ one-small cs b.1 x later
    ]

lowercase-small : (x : ℕ) → is_ascii_lowercase x ≡ true → x < 128
lowercase-small x h = let b = both (leb 97 x) (leb x 122) h in let l = leb-true x 122 b.1 in omega arith

alphanumeric-small : (x : ℕ) → is_ascii_alphanumeric x ≡ true → x < 128
alphanumeric-small x h =
    elim (one_of (leb 48 x && leb x 57 || leb 65 x && leb x 90) (leb 97 x && leb x 122) h) [
      | inl first ↦ elim (one_of (leb 48 x && leb x 57) (leb 65 x && leb x 90) first) [
        | inl digit ↦ let b = both (leb 48 x) (leb x 57) digit in let l = leb-true x 57 b.1 in omega arith
        | inr great ↦ let b = both (leb 65 x) (leb x 90) great in let l = leb-true x 90 b.1 in omega arith
      ]
      | inr small ↦ lowercase-small x small
    ]

id-small : (x : ℕ) → (is_ascii_alphanumeric x || is_one_of (codes "._:%-") x) ≡ true → x < 128
id-small x h =
    elim (one_of (is_ascii_alphanumeric x) (is_one_of (codes "._:%-") x) h) [
      | inl letter ↦ alphanumeric-small x letter
      | inr mark ↦ one-small (codes "._:%-") refl x mark
    ]

-- ---- DIDs and revisions are texts

id-ascii : (bs : List ℕ) → is_method_specific_id bs ≡ true → (0 < length bs) × IsAscii bs
id-ascii bs h =
    let all = list_all (λ x. is_ascii_alphanumeric x || is_one_of (codes "._:%-") x) bs in
    let a = both (ltb 0 (length bs) && all) _ h in
    let b = both (ltb 0 (length bs)) all a.0 in
    (ltb-true 0 (length bs) b.0, all-ascii (λ x. is_ascii_alphanumeric x || is_one_of (codes "._:%-") x) id-small bs b.1)

method-ascii : (bs : List ℕ) → is_method_name bs ≡ true → IsAscii bs
method-ascii bs h = all-ascii is_ascii_lowercase lowercase-small bs (both (ltb 0 (length bs)) (list_all is_ascii_lowercase bs) h).1

parts-ascii : (bs : List ℕ) → is_method_name (before_first is_colon bs) ≡ true
    → is_method_specific_id (after_first is_colon bs) ≡ true → IsAscii bs
parts-ascii bs m i =
    let n = position_or_len is_colon bs in
    let id = id-ascii (after_first is_colon bs) i in
    let some : 0 < length bs - (n + 1) = subst (λ (k : ℕ). 0 < k) (length-drop (n + 1) bs) id.0 in
    let within : n < length bs = omega arith in
    let colon : get_or bs n 0 ≡ 58 = eqb-true (get_or bs n 0) 58 (passes_at_first is_colon bs 0 within) in
    subst IsAscii (sym (split_at_first is_colon bs 0 within))
    (IsAscii-append (before_first is_colon bs) (get_or bs n 0 ∷ after_first is_colon bs) (method-ascii _ m)
    (ascii-cons (get_or bs n 0) (after_first is_colon bs) (omega (arith, colon)) id.1))

did-ascii : (d : List ℕ) → is_did d ≡ true → IsAscii d
did-ascii d h =
    let a = both (leb (length d) 2048 && bytes_eq (take 4 d) (codes "did:") && is_method_name (before_first is_colon (drop 4 d))) (is_method_specific_id (after_first is_colon (drop 4 d))) h in
    let b = both (leb (length d) 2048 && bytes_eq (take 4 d) (codes "did:")) (is_method_name (before_first is_colon (drop 4 d))) a.0 in
    let c = both (leb (length d) 2048) (bytes_eq (take 4 d) (codes "did:")) b.0 in
    let scheme : take 4 d ≡ codes "did:" = (bytes_eq-Decides (take 4 d) (codes "did:")).0 c.1 in
    subst IsAscii (take-append-drop 4 d)
    (IsAscii-append (take 4 d) (drop 4 d) (subst IsAscii (sym scheme) (all-ascii (λ x. ltb x 128) (λ x. ltb-true x 128) (codes "did:") refl))
    (parts-ascii (drop 4 d) b.1 a.1))

tid-ascii : (r : List ℕ) → is_tid r ≡ true → IsAscii r
tid-ascii r h =
    let letters = list_all (is_one_of (codes "234567abcdefghijklmnopqrstuvwxyz")) r in
    let a = both (eqb (length r) 13 && letters) _ h in
    let b = both (eqb (length r) 13) letters a.0 in
    all-ascii (is_one_of (codes "234567abcdefghijklmnopqrstuvwxyz")) (one-small (codes "234567abcdefghijklmnopqrstuvwxyz") refl) r b.1

text-lawful : (levels : ℕ) (bs : List ℕ) → length bs ≤ 2048 → IsAscii bs → is_lawful_within levels (Text bs) ≡ true
text-lawful levels bs short ascii =
    and (fits_length bs) (is_utf8 bs) (lt-ltb (length bs) (2 ^ 64) (omega arith))
    (is_utf8-from_IsUtf8 bs (IsUtf8-from_ascii bs ascii))

pub did-lawful : (d : List ℕ) → is_did d ≡ true → is_lawful_within 63 (Text d) ≡ true
did-lawful d h =
    let a = both (leb (length d) 2048 && bytes_eq (take 4 d) (codes "did:") && is_method_name (before_first is_colon (drop 4 d))) _ h in
    let b = both (leb (length d) 2048 && bytes_eq (take 4 d) (codes "did:")) _ a.0 in
    text-lawful 63 d (leb-true (length d) 2048 (both (leb (length d) 2048) _ b.0).0) (did-ascii d h)

pub rev-lawful : (r : List ℕ) → is_tid r ≡ true → is_lawful_within 63 (Text r) ≡ true
rev-lawful r h =
    let letters = list_all (is_one_of (codes "234567abcdefghijklmnopqrstuvwxyz")) r in
    let long = eqb-true (length r) 13 (both (eqb (length r) 13) letters (both (eqb (length r) 13 && letters) _ h).0).0 in
    text-lawful 63 r (omega (arith, long)) (tid-ascii r h)

-- ---- the value is lawful

value-lawful : (stamp : Stamp) (root : List ℕ) → IsCommit stamp root → is_lawful (value_of_commit stamp root) ≡ true
unfolding is_utf8 chars encode_utf8
value-lawful stamp root is =
    and (is_lawful_within 63 (Text stamp.did)) _ (did-lawful stamp.did is.did)
    (and (is_lawful_within 63 (Text stamp.rev)) _ (rev-lawful stamp.rev is.rev)
    (and (is_lawful_within 63 (Link root)) _ (lawful-link 63 root is.root_is) refl))

pub commit-reads_back : CommitReadsBack
unfolding commit_bytes
commit-reads_back stamp root is = read-spelling (value_of_commit stamp root) (value-lawful stamp root is)

-- what a commit's value says of it
abbrev nth_field : ℕ → Entries → Value
nth_field n NoEntry = Null
nth_field zero (EntryThen k v es) = v
nth_field (suc n) (EntryThen k v es) = nth_field n es

abbrev field : ℕ → Value → Value
field n (Fields es) = nth_field n es
field n v = Null

abbrev text_in : Value → List ℕ
text_in (Text t) = t
text_in v = []

abbrev link_in : Value → List ℕ
link_in (Link c) = c
link_in v = []

pub commit-names : CommitNamesStampAndRoot
unfolding commit_bytes
commit-names stamp other root top is too e =
    let one = spelling-one_form (value_of_commit stamp root) (value_of_commit other top) [] [] (value-lawful stamp root is) (value-lawful other top too)
    (ap (λ (x : List ℕ). x ++ []) e) in
    (ap (λ (v : Value). record { did = text_in (field 0 v); rev = text_in (field 1 v) }) one.0, ap (λ (v : Value). link_in (field 2 v)) one.0)
