-- Entries of a node after others: their bytes, their keys and their links.
use Rattle.std.proofs.Common.{◌≡◌, ℕ, Bool, true, ◌&&◌, List, [], ◌∷◌, ◌++◌, refl, sym, ap, ◌∙◌, append_assoc}
use Rattle.std.specs.Cmp.Lexicographic.{slice_cmp}
use Rattle.std.specs.Ordering.{nat_cmp, is_lt}
use Rattle.spec.specs.Cid.{is_own_cid}
use Rattle.spec.specs.NodeFormat.{Entry, entry_bytes, entries_bytes, is_key, are_keys_after, are_links, is_own_cid_or_none}
use Rattle.spec.proofs.Bools.{both}
use Rattle.node.specs.Contents.{last_key}

pub and : (a b : Bool) → a ≡ true → b ≡ true → (a && b) ≡ true
and a b p q = rw (p, q) refl

pub entries_bytes-append : (before : List ℕ) (es more : List Entry) → entries_bytes before (es ++ more) ≡ entries_bytes before es ++ entries_bytes (last_key before es) more
entries_bytes-append before [] more = refl
entries_bytes-append before (d ∷ es) more =
    ap (λ (x : List ℕ). entry_bytes before d ++ x) (entries_bytes-append d.key es more) ∙ sym (append_assoc (entry_bytes before d) (entries_bytes d.key es) (entries_bytes (last_key d.key es) more))

pub last_key-append : (before : List ℕ) (es more : List Entry) → last_key before (es ++ more) ≡ last_key (last_key before es) more
last_key-append before [] more = refl
last_key-append before (d ∷ es) more = last_key-append d.key es more

pub are_keys_after-append : (before : List ℕ) (es more : List Entry) → are_keys_after before es ≡ true → are_keys_after (last_key before es) more ≡ true → are_keys_after before (es ++ more) ≡ true
are_keys_after-append before [] more keys others = others
are_keys_after-append before (d ∷ es) more keys others =
    let first = is_lt (slice_cmp nat_cmp before d.key) && is_key d.key in
    let parts = both first (are_keys_after d.key es) keys in
    and first (are_keys_after d.key (es ++ more)) parts.0 (are_keys_after-append d.key es more parts.1 others)

pub are_links-append : (es more : List Entry) → are_links es ≡ true → are_links more ≡ true → are_links (es ++ more) ≡ true
are_links-append [] more links others = others
are_links-append (d ∷ es) more links others =
    let first = is_own_cid d.value && is_own_cid_or_none d.tree in
    let parts = both first (are_links es) links in
    and first (are_links (es ++ more)) parts.0 (are_links-append es more parts.1 others)

-- ---- and each part by itself

pub are_keys_after-parts : (before : List ℕ) (es more : List Entry) → are_keys_after before (es ++ more) ≡ true → (are_keys_after before es ≡ true) × (are_keys_after (last_key before es) more ≡ true)
are_keys_after-parts before [] more keys = (refl, keys)
are_keys_after-parts before (d ∷ es) more keys =
    let first = is_lt (slice_cmp nat_cmp before d.key) && is_key d.key in
    let parts = both first (are_keys_after d.key (es ++ more)) keys in
    let rest = are_keys_after-parts d.key es more parts.1 in
    (and first (are_keys_after d.key es) parts.0 rest.0, rest.1)

pub are_links-parts : (es more : List Entry) → are_links (es ++ more) ≡ true → (are_links es ≡ true) × (are_links more ≡ true)
are_links-parts [] more links = (refl, links)
are_links-parts (d ∷ es) more links =
    let first = is_own_cid d.value && is_own_cid_or_none d.tree in
    let parts = both first (are_links (es ++ more)) links in
    let rest = are_links-parts es more parts.1 in
    (and first (are_links es) parts.0 rest.0, rest.1)
