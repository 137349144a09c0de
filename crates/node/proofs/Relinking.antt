-- A node with another link in a gap: its other bytes stay.
use Rattle.std.proofs.Common.{◌≡◌, ℕ, zero, suc, ◌+◌, ◌-◌, ◌<◌, ◌≤◌, ◌^◌, Bool, true, ◌&&◌, nat_lt, List, [], ◌∷◌, ◌++◌, length, take, drop, Option, None, refl, sym, ap, subst, ◌∙◌, append_assoc, arith, length-append}
use Rattle.std.specs.Cmp.Lexicographic.{slice_cmp}
use Rattle.std.specs.Ordering.{nat_cmp, is_lt}
use Rattle.std.proofs.lemmas.List.{append-nil, take_at, drop_at}
use Rattle.spec.specs.Head.{head}
use Rattle.spec.specs.Cid.{link, is_own_cid}
use Rattle.spec.specs.NodeFormat.{Entry, common, suffix_after, link_or_null, entry_bytes, entries_bytes, is_key, are_keys_after, are_links, is_own_cid_or_none, is_node}
use Rattle.spec.proofs.Bools.{both}
use Rattle.node.specs.Contents.{Contents, last_key, entries_in, Spells, IsWritten}
use Rattle.node.specs.Search.{gap_at, relink_at}
use Rattle.node.proofs.Joining.{and}
use Rattle.node.proofs.TestedNodes.{own-length}
use Rattle.node.proofs.Writing.{contents, spells-written}

-- ---- the bytes

-- a field of one letter that holds a link or null
abbrev pub field : ℕ → Option (List ℕ) → List ℕ
field name link = 0x61 ∷ name ∷ link_or_null link

-- the bytes of the entries up to this one, cut at the field of the link after it
pub record Split (n : ℕ) (ahead : List ℕ) (gap : Option (List ℕ)) (es : List Entry) : Type 0 where
  pub front : List ℕ
  pub tail : List ℕ
  pub spelled : entries_bytes ahead (take (suc n) es) ≡ front ++ (field 0x74 (gap_at (suc n) gap es) ++ tail)
  pub long : length tail ≡ 43
  pub anew : (new : Option (List ℕ)) → entries_bytes ahead (relink_at (suc n) gap es new).entries
      ≡ front ++ (field 0x74 new ++ (tail ++ entries_bytes (last_key ahead (take (suc n) es)) (drop (suc n) es)))

-- one entry before its field of the link after it
heads : List ℕ → List ℕ → List ℕ
heads ahead key =
    let k = suffix_after ahead key in (0xa4 ∷ 0x61 ∷ 0x6b ∷ head 2 (length k)) ++ k ++ (0x61 ∷ 0x70 ∷ head 0 (common ahead key))

cut : (a t v rest : List ℕ) → a ++ t ++ v ++ rest ≡ a ++ (t ++ (v ++ rest))
cut a t v rest = simp append_assoc

entry-cut : (ahead : List ℕ) (key value : List ℕ) (tree : Option (List ℕ)) (rest : List ℕ)
    → entry_bytes ahead (record { key = key; value = value; tree = tree }) ++ rest
    ≡ heads ahead key ++ (field 0x74 tree ++ ((0x61 ∷ 0x76 ∷ link value) ++ rest))
unfolding heads
entry-cut ahead key value tree rest = cut (heads ahead key) (field 0x74 tree) (0x61 ∷ 0x76 ∷ link value) rest

value-long : (e : Entry) (es : List Entry) → are_links (e ∷ es) ≡ true → length (0x61 ∷ 0x76 ∷ link e.value) ≡ 43
value-long e es links =
    let own = both (is_own_cid e.value) (is_own_cid_or_none e.tree) (both (is_own_cid e.value && is_own_cid_or_none e.tree) (are_links es) links).0 in
    omega (arith, own-length e.value own.0)

pub split : (n : ℕ) (ahead : List ℕ) (gap : Option (List ℕ)) (es : List Entry) → n < length es → are_links es ≡ true → Split n ahead gap es
split n ahead gap [] within links = absurd (omega arith)
split zero ahead gap (e ∷ es) within links = record {
  front = heads ahead e.key;
  tail = 0x61 ∷ 0x76 ∷ link e.value;
  spelled = entry-cut ahead e.key e.value e.tree []
      ∙ ap (λ (x : List ℕ). heads ahead e.key ++ (field 0x74 e.tree ++ x)) (append-nil (0x61 ∷ 0x76 ∷ link e.value));
  long = value-long e es links;
  anew = λ new. entry-cut ahead e.key e.value new (entries_bytes e.key es);
}
split (suc n) ahead gap (e ∷ []) within links = absurd (omega arith)
split (suc n) ahead gap (e ∷ f ∷ es) within links =
    let more = both (is_own_cid e.value && is_own_cid_or_none e.tree) (are_links (f ∷ es)) links in
    let s = split n e.key e.tree (f ∷ es) (omega arith) more.1 in
    let rest = entries_bytes (last_key e.key (take (suc n) (f ∷ es))) (drop (suc n) (f ∷ es)) in
    record {
      front = entry_bytes ahead e ++ s.front;
      tail = s.tail;
      spelled = ap (λ (x : List ℕ). entry_bytes ahead e ++ x) s.spelled
          ∙ sym (append_assoc (entry_bytes ahead e) s.front (field 0x74 (gap_at (suc n) e.tree (f ∷ es)) ++ s.tail));
      long = s.long;
      anew = λ new. ap (λ (x : List ℕ). entry_bytes ahead e ++ x) (s.anew new)
          ∙ sym (append_assoc (entry_bytes ahead e) s.front (field 0x74 new ++ (s.tail ++ rest)));
    }

-- ---- and copied in pieces

-- the entries up to a gap, from which another link is put in
pub record Copied (n : ℕ) (left : Option (List ℕ)) (es : List Entry) (front : List ℕ) : Type 0 where
  pub room : 43 + (2 + length (link_or_null (gap_at n left es))) ≤ length front
  pub left_is : (new : Option (List ℕ)) → (relink_at n left es new).left ≡ left
  pub anew : (new : Option (List ℕ)) (others : List ℕ) → others ≡ entries_bytes (last_key [] (take n es)) (drop n es)
      → take (length front - 43 - (2 + length (link_or_null (gap_at n left es)))) front
      ++ (field 0x74 new ++ (drop (length front - 43) front ++ others)) ≡ entries_bytes [] (relink_at n left es new).entries

copied-split : (n : ℕ) (left : Option (List ℕ)) (es : List Entry) (front : List ℕ) → Split n [] left es
    → front ≡ entries_bytes [] (take (suc n) es) → ((new : Option (List ℕ)) → (relink_at (suc n) left es new).left ≡ left)
    → Copied (suc n) left es front
copied-split n left es front s is left_is =
    let old = gap_at (suc n) left es in
    let text : front ≡ s.front ++ (field 0x74 old ++ s.tail) = is ∙ s.spelled in
    let text_too : front ≡ (s.front ++ field 0x74 old) ++ s.tail = text ∙ sym (append_assoc s.front (field 0x74 old) s.tail) in
    let len : length front ≡ length s.front + (2 + length (link_or_null old) + 43) =
    omega (arith, ap length text, length-append s.front (field 0x74 old ++ s.tail), length-append (field 0x74 old) s.tail, s.long) in
    let len_too : length (s.front ++ field 0x74 old) ≡ length s.front + (2 + length (link_or_null old)) =
    omega (arith, length-append s.front (field 0x74 old)) in
    let at = length front - 43 - (2 + length (link_or_null old)) in
    let before_it : take at front ≡ s.front = ap (take at) text ∙ take_at s.front (field 0x74 old ++ s.tail) at (omega (arith, len)) in
    let behind : drop (length front - 43) front ≡ s.tail =
    ap (drop (length front - 43)) text_too ∙ drop_at (s.front ++ field 0x74 old) s.tail (length front - 43) (omega (arith, len, len_too)) in
    record {
      room = omega (arith, len);
      left_is = left_is;
      anew = λ new others e. rw (before_it, behind, e) (sym (s.anew new));
    }

pub copied : (n : ℕ) (left : Option (List ℕ)) (es : List Entry) (front : List ℕ) → 0 < n → n ≤ length es → are_links es ≡ true
    → front ≡ entries_bytes [] (take n es) → Copied n left es front
copied zero left es front some within links is = absurd (omega arith)
copied (suc n) left [] front some within links is = absurd (omega arith)
copied (suc n) left (e ∷ es) front some within links is =
    copied-split n left (e ∷ es) front (split n [] left (e ∷ es) (omega arith) links) is (λ new. refl)

-- ---- the grammar

count-by : (n : ℕ) (gap new : Option (List ℕ)) (es : List Entry) → length (relink_at n gap es new).entries ≡ length es
count-by zero gap new es = refl
count-by (suc n) gap new [] = refl
count-by (suc n) gap new (e ∷ es) = ap suc (count-by n e.tree new es)

keys-by : (n : ℕ) (ahead : List ℕ) (gap new : Option (List ℕ)) (es : List Entry)
    → are_keys_after ahead (relink_at n gap es new).entries ≡ are_keys_after ahead es
keys-by zero ahead gap new es = refl
keys-by (suc n) ahead gap new [] = refl
keys-by (suc n) ahead gap new (e ∷ es) =
    ap (λ (b : Bool). is_lt (slice_cmp nat_cmp ahead e.key) && is_key e.key && b) (keys-by n e.key e.tree new es)

links-by : (n : ℕ) (gap new : Option (List ℕ)) (es : List Entry) → are_links es ≡ true → is_own_cid_or_none gap ≡ true
    → is_own_cid_or_none new ≡ true
    → (are_links (relink_at n gap es new).entries ≡ true) × (is_own_cid_or_none (relink_at n gap es new).left ≡ true)
links-by zero gap new es links own own_new = (links, own_new)
links-by (suc n) gap new [] links own own_new = (links, own)
links-by (suc n) gap new (e ∷ es) links own own_new =
    let parts = both (is_own_cid e.value && is_own_cid_or_none e.tree) (are_links es) links in
    let own_parts = both (is_own_cid e.value) (is_own_cid_or_none e.tree) parts.0 in
    let more = links-by n e.tree new es parts.1 own_parts.1 own_new in
    (and _ _ (and _ _ own_parts.0 more.1) more.0, own)

-- its links are of the host's form
pub linked-entries : (left : Option (List ℕ)) (es : List Entry) → is_node left es ≡ true → are_links es ≡ true
linked-entries left es node =
    let few = nat_lt (length es) (2 ^ 64) in
    let a = both (few && are_keys_after [] es && are_links es) (is_own_cid_or_none left) node in
    (both (few && are_keys_after [] es) (are_links es) a.0).1

-- its keys ascend
pub ascending-entries : (left : Option (List ℕ)) (es : List Entry) → is_node left es ≡ true → are_keys_after [] es ≡ true
ascending-entries left es node =
    let few = nat_lt (length es) (2 ^ 64) in
    let a = both (few && are_keys_after [] es && are_links es) (is_own_cid_or_none left) node in
    (both few (are_keys_after [] es) (both (few && are_keys_after [] es) (are_links es) a.0).0).1

-- ---- the last link of a node that is written

all-before : (es : List Entry) → take (length es) es ≡ es
all-before [] = refl
all-before (e ∷ es) = ap (λ (xs : List Entry). e ∷ xs) (all-before es)

none-behind : (es : List Entry) → drop (length es) es ≡ []
none-behind [] = refl
none-behind (e ∷ es) = none-behind es

last-by : (n : ℕ) (ahead : List ℕ) (gap new : Option (List ℕ)) (es : List Entry)
    → last_key ahead (relink_at n gap es new).entries ≡ last_key ahead es
last-by zero ahead gap new es = refl
last-by (suc n) ahead gap new [] = refl
last-by (suc n) ahead gap new (e ∷ es) = last-by n e.key e.tree new es

same-entries : (n : ℕ) (gap other new : Option (List ℕ)) (es : List Entry)
    → (relink_at n gap es new).entries ≡ (relink_at n other es new).entries
same-entries zero gap other new es = refl
same-entries (suc n) gap other new [] = refl
same-entries (suc n) gap other new (e ∷ es) = refl

left-by : (gap new : Option (List ℕ)) (es : List Entry) → 0 < length es → (relink_at (length es) gap es new).left ≡ gap
left-by gap new [] some = absurd (omega arith)
left-by gap new (e ∷ es) some = refl

-- what a writer has, with another link behind the last entry
pub record LastRelinked (n : ℕ) (bytes last : List ℕ) (left old new : Option (List ℕ)) (now : Contents) : Type 0 where
  pub room : 43 + (2 + length (link_or_null old)) ≤ length bytes
  pub anew : (text : List ℕ) → text ≡ take (length bytes - 43 - (2 + length (link_or_null old))) bytes ++ field 0x74 new ++ drop (length bytes - 43) bytes
      → IsWritten n text last × (contents left (entries_in n text) ≡ relink_at (length now.entries) now.left now.entries new)

last-relinked-of : (n : ℕ) (bytes last : List ℕ) (left old new : Option (List ℕ)) (es : List Entry) → Spells n bytes last es
    → n < 2 ^ 64 → 0 < length es → old ≡ gap_at (length es) left es → is_own_cid_or_none new ≡ true
    → LastRelinked n bytes last left old new (contents left es)
last-relinked-of n bytes last left old new es s small some old_is own =
    let m = length es in
    let front : bytes ≡ entries_bytes [] (take m es) = s.spelled ∙ ap (entries_bytes []) (sym (all-before es)) in
    let c = copied m left es bytes some (omega arith) s.linked front in
    let room = c.room in
    let size : 2 + length (link_or_null old) ≡ 2 + length (link_or_null (gap_at m left es)) =
    ap (λ (l : Option (List ℕ)). 2 + length (link_or_null l)) old_is in
    let made = (relink_at m left es new).entries in
    let none : [] ≡ entries_bytes (last_key [] (take m es)) (drop m es) = sym (ap (entries_bytes (last_key [] (take m es))) (none-behind es)) in
    let links = links-by m None new es s.linked refl own in
    record {
      room = omega (arith, room, size);
      anew = λ text is.
          let spells : Spells n text last made = record {
            spelled = is
                ∙ ap (λ (k : ℕ). take (length bytes - 43 - k) bytes ++ field 0x74 new ++ drop (length bytes - 43) bytes) size
                ∙ append_assoc (take (length bytes - 43 - (2 + length (link_or_null (gap_at m left es)))) bytes) (field 0x74 new) (drop (length bytes - 43) bytes)
                ∙ ap (λ (x : List ℕ). take (length bytes - 43 - (2 + length (link_or_null (gap_at m left es)))) bytes ++ (field 0x74 new ++ x))
                (sym (append-nil (drop (length bytes - 43) bytes)))
                ∙ c.anew new [] none;
            counted = s.counted ∙ sym (count-by m left new es);
            ended = s.ended ∙ sym (last-by m [] left new es);
            ascending = keys-by m [] left new es ∙ s.ascending;
            linked = ap are_links (same-entries m left None new es) ∙ links.0;
          } in
          let w = spells-written n text last left made spells small in
          (w.0, w.1 ∙ ap (λ (l : Option (List ℕ)). contents l made) (sym (left-by left new es some)));
    }

pub last-relinked : (n : ℕ) (bytes last : List ℕ) (left old new : Option (List ℕ)) (now : Contents) → IsWritten n bytes last
    → contents left (entries_in n bytes) ≡ now → n < 2 ^ 64 → 0 < length now.entries
    → old ≡ gap_at (length now.entries) now.left now.entries → is_own_cid_or_none new ≡ true
    → LastRelinked n bytes last left old new now
last-relinked n bytes last left old new now written is small some old_is own =
    let es = entries_in n bytes in
    let here : 0 < length es = subst (λ (m : Contents). 0 < length m.entries) (sym is) some in
    let link : old ≡ gap_at (length es) left es = old_is ∙ sym (ap (λ (m : Contents). gap_at (length m.entries) m.left m.entries) is) in
    subst (LastRelinked n bytes last left old new) is (last-relinked-of n bytes last left old new es written small here link own)
