-- A commit is DAG-CBOR, with its signature and without it.
use Rattle.std.proofs.Common.{◌≡◌, ℕ, ◌^◌, true, eqb, List, ◌++◌, length, take, Option, Some, None, refl, sym, ap, ◌∙◌, arith}
use Rattle.std.specs.Str.{is_utf8, chars, bytes_eq}
use Rattle.std.specs.Char.{encode_utf8}
use Rattle.std.proofs.lemmas.Bool.{lt-ltb, eqb-true}
use Rattle.spec.specs.Cid.{is_own_cid, prefix, link}
use Rattle.spec.specs.DagCbor.{Text, Link, string, spelling, fits_length, is_lawful, is_lawful_within}
use Rattle.spec.specs.NodeFormat.{link_or_null, is_own_cid_or_none}
use Rattle.spec.specs.SignedCommits.{Commit, IsCommit, value_of_link, value_of_signed, value_of_unsigned, signed_bytes, unsigned_bytes, before_did, before_rev, before_sig, before_data, before_prev, at_the_end}
use Rattle.spec.specs.Laws.SignedCommits.{CommitIsDagCbor}
use Rattle.spec.proofs.Bools.{both, and}
use Rattle.spec.proofs.NodeValues.{spelling-link, lawful-link}
use Rattle.spec.proofs.CommitLaws.{did-lawful, rev-lawful}

own-length : (c : List ℕ) → is_own_cid c ≡ true → length c ≡ 36
own-length c own = eqb-true (length c) 36 (both (eqb (length c) 36) (bytes_eq (take 4 c) prefix) own).0

spelling-link_or_null : (o : Option (List ℕ)) → is_own_cid_or_none o ≡ true → spelling (value_of_link o) ≡ link_or_null o
spelling-link_or_null None own = refl
spelling-link_or_null (Some c) own = spelling-link c (own-length c own)

lawful-link_or_null : (o : Option (List ℕ)) → is_own_cid_or_none o ≡ true → is_lawful_within 63 (value_of_link o) ≡ true
lawful-link_or_null None own = refl
lawful-link_or_null (Some c) own = lawful-link 63 c own

-- the fields after the signature, by the spellings of both links
abbrev ended : List ℕ → List ℕ → List ℕ
ended root prev = before_data ++ (root ++ (before_prev ++ (prev ++ at_the_end)))

links-spelled : (c : Commit) → IsCommit c
    → ended (link c.root) (link_or_null c.prev) ≡ ended (spelling (Link c.root)) (spelling (value_of_link c.prev))
links-spelled c is =
    ap (λ (r : List ℕ). ended r (link_or_null c.prev)) (sym (spelling-link c.root (own-length c.root is.root)))
    ∙ ap (ended (spelling (Link c.root))) (sym (spelling-link_or_null c.prev is.prev))

signed-spelled : (c : Commit) → IsCommit c → signed_bytes c ≡ spelling (value_of_signed c)
unfolding signed_bytes
signed-spelled c is =
    ap (λ (e : List ℕ). before_did 6 ++ (string 3 c.did ++ (before_rev ++ (string 3 c.rev ++ (before_sig ++ (string 2 c.sig ++ e)))))) (links-spelled c is)

unsigned-spelled : (c : Commit) → IsCommit c → unsigned_bytes c ≡ spelling (value_of_unsigned c)
unfolding unsigned_bytes
unsigned-spelled c is =
    ap (λ (e : List ℕ). before_did 5 ++ (string 3 c.did ++ (before_rev ++ (string 3 c.rev ++ e)))) (links-spelled c is)

signed-lawful : (c : Commit) → IsCommit c → is_lawful (value_of_signed c) ≡ true
unfolding is_utf8 chars encode_utf8
signed-lawful c is =
    let short : fits_length c.sig ≡ true = lt-ltb (length c.sig) (2 ^ 64) (omega (arith, is.sig)) in
    and (is_lawful_within 63 (Text c.did)) _ (did-lawful c.did is.did)
    (and (is_lawful_within 63 (Text c.rev)) _ (rev-lawful c.rev is.rev)
    (and (fits_length c.sig) _ short
    (and (is_lawful_within 63 (Link c.root)) _ (lawful-link 63 c.root is.root)
    (and (is_lawful_within 63 (value_of_link c.prev)) _ (lawful-link_or_null c.prev is.prev) refl))))

pub commit-is_dag_cbor : CommitIsDagCbor
commit-is_dag_cbor c is = (signed-spelled c is, signed-lawful c is, unsigned-spelled c is)
