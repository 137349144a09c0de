-- A commit is read as it was written, only what was written so is read, and what is signed is the unsigned commit.
use Rattle.std.proofs.Common.{◌≡◌, ℕ, ◌+◌, ◌^◌, ◌<◌, ◌≤◌, true, ◌&&◌, eqb, leb, List, ◌++◌, length, take, drop, Option, Some, None, Result, Ok, Err, refl, sym, ap, subst, ◌∙◌, append_assoc, arith}
use Rattle.std.specs.Prelude.{codes}
use Rattle.std.specs.List.{list_all, before_first}
use Rattle.std.specs.Str.{bytes_eq}
use Rattle.std.proofs.lemmas.Bool.{eq-eqb, eqb-true, leb-true}
use Rattle.std.proofs.lemmas.List.{length-append}
use Rattle.std.proofs.lemmas.Slice.Eq.{bytes_eq-Decides}
use Rattle.spec.specs.Reading.{IsBytes}
use Rattle.spec.specs.Head.{head}
use Rattle.spec.specs.Cid.{prefix, link, is_own_cid}
use Rattle.spec.specs.DagCbor.{string}
use Rattle.spec.specs.Keys.{is_one_of}
use Rattle.spec.specs.NodeFormat.{NotNode, link_or_null, is_own_cid_or_none, argument_of as node_argument, link_at as node_link}
use Rattle.spec.specs.Stamps.{Stamp, is_colon, is_method_name, is_did, is_tid}
use Rattle.spec.specs.SignedCommits.{Commit, IsCommit, CommitFault, NotACommit, BadDid, BadRev, or_no_commit, literal, string_at, link_at, link_or_null_at, commit_at, read_commit, signed_bytes, unsigned_bytes, before_did, before_rev, before_sig, before_data, before_prev, at_the_end, last_fields}
use Rattle.spec.specs.Laws.SignedCommits.{CommitReadsBack, OnlyCommitsAreRead, SignsUnsigned}
use Rattle.spec.proofs.Bools.{both}
use Rattle.spec.proofs.Taking.{Takes, Takes-then, bind_ok, bind_then, ensure_ok, front_ok, front-append, ok_is}
use Rattle.spec.proofs.HeadLaws.{head_at-head}
use Rattle.spec.proofs.NodeLaws.{own_cid}
use Rattle.spec.proofs.NodeTakes.{literal_ok, argument_of_ok, link_at_ok, link_or_null_at_ok}
use Rattle.spec.proofs.StateLaws.{commit-map}

-- ---- what was written is read back

node-argument : (m n : ℕ) (rest : List ℕ) → m < 7 → n < 2 ^ 64 → node_argument m (head m n ++ rest) ≡ Ok (n, rest)
node-argument m n rest small lt = rw (head_at-head m n rest small lt, eq-eqb m m refl) refl

string-reads : (m : ℕ) (bytes rest : List ℕ) → m < 7 → length bytes < 2 ^ 64 → string_at m (string m bytes ++ rest) ≡ Ok (bytes, rest)
string-reads m bytes rest small fits =
    ap (string_at m) (append_assoc (head m (length bytes)) bytes rest)
    ∙ rw (node-argument m (length bytes) (bytes ++ rest) small fits) (front-append NotACommit (length bytes) bytes rest refl)

node-link : (c rest : List ℕ) → is_own_cid c ≡ true → node_link (link c ++ rest) ≡ Ok (c, rest)
node-link c rest own =
    let parts = own_cid c own in
    ap (λ (x : List ℕ). node_link (link x ++ rest)) parts.0
    ∙ rw (front-append NotNode 32 (drop 4 c) rest parts.1) (ap (λ (x : List ℕ). Ok (x, rest)) (sym parts.0))

link-reads : (c rest : List ℕ) → is_own_cid c ≡ true → link_at (link c ++ rest) ≡ Ok (c, rest)
link-reads c rest own = rw (node-link c rest own) refl

link_or_null-reads : (o : Option (List ℕ)) (rest : List ℕ) → is_own_cid_or_none o ≡ true → link_or_null_at (link_or_null o ++ rest) ≡ Ok (o, rest)
link_or_null-reads None rest own = refl
link_or_null-reads (Some c) rest own = rw (node-link c rest own) refl

did-short : (d : List ℕ) → is_did d ≡ true → length d < 2 ^ 64
did-short d h =
    let a = both (leb (length d) 2048 && bytes_eq (take 4 d) (codes "did:") && is_method_name (before_first is_colon (drop 4 d))) _ h in
    let b = both (leb (length d) 2048 && bytes_eq (take 4 d) (codes "did:")) _ a.0 in
    let short : length d ≤ 2048 = leb-true (length d) 2048 (both (leb (length d) 2048) _ b.0).0 in
    omega (arith, short)

rev-short : (r : List ℕ) → is_tid r ≡ true → length r < 2 ^ 64
rev-short r h =
    let letters = list_all (is_one_of (codes "234567abcdefghijklmnopqrstuvwxyz")) r in
    let long = eqb-true (length r) 13 (both (eqb (length r) 13) letters (both (eqb (length r) 13 && letters) _ h).0).0 in
    omega (arith, long)

commit-at : (c : Commit) → IsCommit c → commit_at (signed_bytes c) ≡ Ok c
unfolding commit_at signed_bytes
commit-at c is =
    let after_root : List ℕ = before_prev ++ (link_or_null c.prev ++ at_the_end) in
    let after_sig : List ℕ = before_data ++ (link c.root ++ after_root) in
    let after_rev : List ℕ = before_sig ++ (string 2 c.sig ++ after_sig) in
    let after_did : List ℕ = before_rev ++ (string 3 c.rev ++ after_rev) in
    rw (
      string-reads 3 c.did after_did (omega arith) (did-short c.did is.did),
      string-reads 3 c.rev after_rev (omega arith) (rev-short c.rev is.rev),
      string-reads 2 c.sig after_sig (omega arith) (omega (arith, is.sig)),
      link-reads c.root after_root is.root,
      link_or_null-reads c.prev at_the_end is.prev,
    ) refl

pub commit-reads_back : CommitReadsBack
unfolding read_commit
commit-reads_back c is = rw (commit-at c is, is.did, is.rev) refl

-- ---- what is read was written so

or_no_commit_ok : {A F : Type 0} (r : Result A F) (x : A) → or_no_commit r ≡ Ok x → r ≡ Ok x
or_no_commit_ok (Ok y) x e = ap (λ z. Ok z) (ok_is CommitFault y x e)
or_no_commit_ok (Err f) x e = absurd cc

literal-ok : (these bytes rest : List ℕ) → IsBytes bytes → literal these bytes ≡ Ok rest → Takes bytes these rest
literal-ok these bytes rest fits e = literal_ok these bytes rest fits (or_no_commit_ok _ _ e)

string-ok : (m : ℕ) (bytes : List ℕ) (x : List ℕ × List ℕ) → m < 7 → IsBytes bytes → string_at m bytes ≡ Ok x → Takes bytes (string m x.0) x.1
string-ok m bytes x small fits e =
    let a = bind_ok (or_no_commit (node_argument m bytes)) _ x e in
    let t = argument_of_ok m bytes a.0 small fits (or_no_commit_ok _ _ a.1) in
    let f = front_ok NotACommit a.0.0 a.0.1 x t.0.rest_fits a.2 in
    let whole : Takes bytes (head m a.0.0 ++ x.0) x.1 = Takes-then bytes (head m a.0.0) a.0.1 x.0 x.1 t.0 f.0 in
    subst (λ (n : ℕ). Takes bytes (head m n ++ x.0) x.1) (sym f.1) whole

-- what stands behind is no longer
behind-short : (bytes text rest : List ℕ) → Takes bytes text rest → length text + length rest ≤ length bytes
behind-short bytes text rest t = let e : length bytes ≡ length (text ++ rest) = ap length t.parts in omega (arith, e, length-append text rest)

abbrev Read : List ℕ → Commit → Type 0
Read bytes c = (bytes ≡ signed_bytes c) × (length c.sig ≤ length bytes) × (is_own_cid c.root ≡ true) × (is_own_cid_or_none c.prev ≡ true)

commit-ok : (bytes : List ℕ) (c : Commit) → IsBytes bytes → commit_at bytes ≡ Ok c → Read bytes c
unfolding commit_at signed_bytes
commit-ok bytes c fits e =
    bind_then _ _ _ e (λ in_did e0 r0.
    let t0 = literal-ok (before_did 6) bytes in_did fits e0 in
    bind_then _ _ _ r0 (λ did e1 r1.
    let t1 = string-ok 3 in_did did (omega arith) t0.rest_fits e1 in
    bind_then _ _ _ r1 (λ in_rev e2 r2.
    let t2 = literal-ok before_rev did.1 in_rev t1.rest_fits e2 in
    bind_then _ _ _ r2 (λ rev e3 r3.
    let t3 = string-ok 3 in_rev rev (omega arith) t2.rest_fits e3 in
    bind_then _ _ _ r3 (λ in_sig e4 r4.
    let t4 = literal-ok before_sig rev.1 in_sig t3.rest_fits e4 in
    bind_then _ _ _ r4 (λ sig e5 r5.
    let t5 = string-ok 2 in_sig sig (omega arith) t4.rest_fits e5 in
    bind_then _ _ _ r5 (λ in_data e6 r6.
    let t6 = literal-ok before_data sig.1 in_data t5.rest_fits e6 in
    bind_then _ _ _ r6 (λ root e7 r7.
    let t7 = link_at_ok in_data root t6.rest_fits (or_no_commit_ok _ _ e7) in
    bind_then _ _ _ r7 (λ in_prev e8 r8.
    let t8 = literal-ok before_prev root.1 in_prev t7.0.rest_fits e8 in
    bind_then _ _ _ r8 (λ prev e9 r9.
    let t9 = link_or_null_at_ok in_prev prev t8.rest_fits (or_no_commit_ok _ _ e9) in
    let ended = ensure_ok _ _ _ _ r9 in
    let end : prev.1 ≡ at_the_end = (bytes_eq-Decides prev.1 at_the_end).0 ended.0 in
    let made : Commit = record { did = did.0; rev = rev.0; sig = sig.0; root = root.0; prev = prev.0 } in
    let tail : in_prev ≡ link_or_null prev.0 ++ at_the_end = t9.0.parts ∙ ap (λ (y : List ℕ). link_or_null prev.0 ++ y) end in
    let tail_of_root : root.1 ≡ before_prev ++ (link_or_null prev.0 ++ at_the_end) = t8.parts ∙ ap (λ (y : List ℕ). before_prev ++ y) tail in
    let tail_of_sig : sig.1 ≡ last_fields root.0 prev.0 =
    t6.parts ∙ ap (λ (y : List ℕ). before_data ++ y) (t7.0.parts ∙ ap (λ (y : List ℕ). link root.0 ++ y) tail_of_root) in
    let tail_of_rev : rev.1 ≡ before_sig ++ (string 2 sig.0 ++ last_fields root.0 prev.0) =
    t4.parts ∙ ap (λ (y : List ℕ). before_sig ++ y) (t5.parts ∙ ap (λ (y : List ℕ). string 2 sig.0 ++ y) tail_of_sig) in
    let tail_of_did : did.1 ≡ before_rev ++ (string 3 rev.0 ++ (before_sig ++ (string 2 sig.0 ++ last_fields root.0 prev.0))) =
    t2.parts ∙ ap (λ (y : List ℕ). before_rev ++ y) (t3.parts ∙ ap (λ (y : List ℕ). string 3 rev.0 ++ y) tail_of_rev) in
    let whole : bytes ≡ signed_bytes made =
    t0.parts ∙ ap (λ (y : List ℕ). before_did 6 ++ y) (t1.parts ∙ ap (λ (y : List ℕ). string 3 did.0 ++ y) tail_of_did) in
    let b0 = behind-short bytes _ in_did t0 in
    let b1 = behind-short in_did _ did.1 t1 in
    let b2 = behind-short did.1 _ in_rev t2 in
    let b3 = behind-short in_rev _ rev.1 t3 in
    let b4 = behind-short rev.1 _ in_sig t4 in
    let b5 : length (head 2 (length sig.0) ++ sig.0) + length sig.1 ≤ length in_sig = behind-short in_sig _ sig.1 t5 in
    let l = length-append (head 2 (length sig.0)) sig.0 in
    let short : length sig.0 ≤ length bytes = omega (arith, b0, b1, b2, b3, b4, b5, l) in
    subst (Read bytes) (ok_is CommitFault made c ended.1) (whole, short, t7.1, t9.1)))))))))))

pub only-commits : OnlyCommitsAreRead
unfolding read_commit
only-commits bytes c fits short e =
    let a = bind_ok (commit_at bytes) _ c e in
    let d = ensure_ok (is_did a.0.did) BadDid _ c a.2 in
    let r = ensure_ok (is_tid a.0.rev) BadRev _ c d.1 in
    let read = commit-ok bytes a.0 fits a.1 in
    let is : IsCommit a.0 = record { did = d.0; rev = r.0; sig = omega (arith, read.1, short); root = read.2; prev = read.3 } in
    subst (λ (x : Commit). (bytes ≡ signed_bytes x) × IsCommit x) (ok_is CommitFault a.0 c r.1) (read.0, is)

-- ---- what is signed

own-length : (c : List ℕ) → is_own_cid c ≡ true → length c ≡ 36
own-length c own = eqb-true (length c) 36 (both (eqb (length c) 36) (bytes_eq (take 4 c) prefix) own).0

pub signs-unsigned : SignsUnsigned
unfolding unsigned_bytes
signs-unsigned c is none =
    let stamp : Stamp = record { did = c.did; rev = c.rev } in
    ap (λ (p : Option (List ℕ)). unsigned_bytes (record { did = c.did; rev = c.rev; sig = c.sig; root = c.root; prev = p })) none
    ∙ sym (commit-map stamp c.root (own-length c.root is.root))
