-- What both ends of a node's bytes show, where they are known to be a node's.
use Rattle.std.proofs.Common.{◌≡◌, ℕ, ◌+◌, ◌-◌, ◌≤◌, ◌<◌, true, ◌&&◌, eqb, List, [], ◌∷◌, ◌++◌, length, get_or, take, drop, Option, Some, None, Result, Ok, IsOk, IfOk, Err, nat_lt, ◌^◌, refl, sym, ap, subst, ◌∙◌, append_assoc, arith}
use Rattle.std.specs.Str.{bytes_eq}
use Rattle.std.specs.Cmp.Lexicographic.{same_text}
use Rattle.std.proofs.Math.Seq.{drop-append-add}
use Rattle.std.proofs.lemmas.Bool.{eqb-true, ltb-true}
use Rattle.std.proofs.lemmas.List.{append-nil, length-append, length-drop, take-append-drop, get_or-append-add}
use Rattle.spec.specs.Reading.{IsBytes, ◌>>=◌}
use Rattle.spec.specs.Head.{CborFault, head, head_at}
use Rattle.spec.specs.Cid.{prefix, link, is_own_cid}
use Rattle.spec.specs.NodeFormat.{Entry, NodeFault, NotNode, or_not_node, common, suffix_after, link_or_null, entry_bytes, entries_bytes, node_spelling, are_keys_after, are_links, is_own_cid_or_none, is_node, literal, argument_of, link_at, link_or_null_at, entries_at, read_node}
use Rattle.spec.proofs.Bools.{both}
use Rattle.spec.proofs.HeadLaws.{head_at-head, head_takes}
use Rattle.spec.proofs.Taking.{IsBytes-drop, bind_then, ensure_ok, front-append, ok_is}
use Rattle.spec.proofs.NodeTakes.{read_node_takes}
use Rattle.node.proofs.ReadAgain.{literal-again, read-ok}
use Rattle.node.proofs.RowLaws.{all_read, end_of, whole}
use Rattle.node.specs.Contents.{IsRead, entries_of_reading, entries_shown}

-- ---- the end

pub own-length : (c : List ℕ) → is_own_cid c ≡ true → length c ≡ 36
own-length c own = eqb-true _ _ (both (eqb (length c) 36) (bytes_eq (take 4 c) prefix) own).0

-- bytes that end with the link of a record
record EndsInLink (bytes : List ℕ) : Type 0 where
  front : List ℕ
  value : List ℕ
  spelled : bytes ≡ front ++ link value
  own : length value ≡ 36

entry-end : (before : List ℕ) (e : Entry) → is_own_cid e.value ≡ true → EndsInLink (entry_bytes before e)
entry-end before e own =
    let k = suffix_after before e.key in
    record {
      front = (0xa4 ∷ 0x61 ∷ 0x6b ∷ head 2 (length k)) ++ k ++ (0x61 ∷ 0x70 ∷ head 0 (common before e.key)) ++ (0x61 ∷ 0x74 ∷ link_or_null e.tree) ++ (0x61 ∷ 0x76 ∷ []);
      value = e.value;
      spelled = simp append_assoc;
      own = own-length e.value own;
    }

entries-end : (before : List ℕ) (e : Entry) (es : List Entry) → are_links (e ∷ es) ≡ true → EndsInLink (entries_bytes before (e ∷ es))
entries-end before e [] links =
    let own = both (is_own_cid e.value) (is_own_cid_or_none e.tree) (both (is_own_cid e.value && is_own_cid_or_none e.tree) (are_links []) links).0 in
    let last = entry-end before e own.0 in
    record { front = last.front; value = last.value; spelled = append-nil (entry_bytes before e) ∙ last.spelled; own = last.own }
entries-end before e (f ∷ es) links =
    let more = both (is_own_cid e.value && is_own_cid_or_none e.tree) (are_links (f ∷ es)) links in
    let last = entries-end e.key f es more.1 in
    record {
      front = entry_bytes before e ++ last.front;
      value = last.value;
      spelled = ap (λ (x : List ℕ). entry_bytes before e ++ x) last.spelled ∙ sym (append_assoc (entry_bytes before e) last.front (link last.value));
      own = last.own;
    }

-- The left link by the last bytes: where it is a link, its field begins 43 bytes before the end; where it is null, the
-- byte there, if there is one, is in the link of the last record.
pub record LeftField (bytes : List ℕ) (left : Option (List ℕ)) : Type 0 where
  pub null : left ≡ None → 43 ≤ length bytes → get_or bytes (length bytes - 43) 0 ≡ 0x2a
  pub long : (c : List ℕ) → left ≡ Some c → 43 ≤ length bytes
  pub begins : (c : List ℕ) → left ≡ Some c → get_or bytes (length bytes - 43) 0 ≡ 0x61
  pub link : (c : List ℕ) → left ≡ Some c → link_at (drop (length bytes - 43 + 2) bytes) ≡ Ok (c, [])

abbrev start_of : List Entry → List ℕ
start_of es = 0xa2 ∷ 0x61 ∷ 0x65 ∷ head 4 (length es)

regroup : (a b c d : List ℕ) → (a ++ (b ++ c)) ++ d ≡ (a ++ b) ++ (c ++ d)
regroup a b c d = simp append_assoc

null-field : (es : List Entry) → are_links es ≡ true → 43 ≤ length (node_spelling None es)
    → get_or (node_spelling None es) (length (node_spelling None es) - 43) 0 ≡ 0x2a
null-field [] links long = absurd (omega arith)
null-field (e ∷ es) links long =
    let last = entries-end [] e es links in
    let front = start_of (e ∷ es) ++ last.front in
    let end = link last.value ++ (0x61 ∷ 0x6c ∷ 0xf6 ∷ []) in
    let text : node_spelling None (e ∷ es) ≡ front ++ end =
    ap (λ (x : List ℕ). start_of (e ∷ es) ++ x ++ (0x61 ∷ 0x6c ∷ 0xf6 ∷ [])) last.spelled
    ∙ regroup (start_of (e ∷ es)) last.front (link last.value) (0x61 ∷ 0x6c ∷ 0xf6 ∷ []) in
    let ends : length end ≡ 44 = omega (arith, length-append (link last.value) (0x61 ∷ 0x6c ∷ 0xf6 ∷ []), last.own) in
    let place : length (front ++ end) - 43 ≡ length front + 1 = omega (arith, length-append front end, ends) in
    ap (λ (x : List ℕ). get_or x (length x - 43) 0) text
    ∙ ap (λ (n : ℕ). get_or (front ++ end) n 0) place
    ∙ get_or-append-add front end 1 0

-- a link that ends the bytes is read
own-parts : (c : List ℕ) → is_own_cid c ≡ true → (c ≡ prefix ++ drop 4 c) × (length (drop 4 c) ≡ 32)
own-parts c own =
    let parts = both (eqb (length c) 36) (bytes_eq (take 4 c) prefix) own in
    let four : take 4 c ≡ prefix = same_text (take 4 c) prefix (sym parts.1) in
    (sym (take-append-drop 4 c) ∙ ap (λ (x : List ℕ). x ++ drop 4 c) four, omega (arith, length-drop 4 c, eqb-true _ _ parts.0))

link_at-link : (c : List ℕ) → is_own_cid c ≡ true → link_at (link c) ≡ Ok (c, [])
link_at-link c own =
    let parts = own-parts c own in
    let found : List ℕ → Result (List ℕ × List ℕ) NodeFault = λ x. Ok (x, []) in
    ap (λ (x : List ℕ). link_at (link x)) parts.0
    ∙ ap (λ (x : List ℕ). link_at (link (prefix ++ x))) (sym (append-nil (drop 4 c)))
    ∙ rw (front-append NotNode 32 (drop 4 c) [] parts.1) (ap found (sym parts.0))

record LinkField (bytes c : List ℕ) : Type 0 where
  long : 43 ≤ length bytes
  begins : get_or bytes (length bytes - 43) 0 ≡ 0x61
  link : link_at (drop (length bytes - 43 + 2) bytes) ≡ Ok (c, [])

link-field : (c : List ℕ) (es : List Entry) → is_own_cid c ≡ true → LinkField (node_spelling (Some c) es) c
link-field c es own =
    let front = start_of es ++ entries_bytes [] es in
    let end : List ℕ = 0x61 ∷ 0x6c ∷ link c in
    let own_long = own-length c own in
    let long : length (front ++ end) ≡ length front + 43 = omega (arith, length-append front end, own_long) in
    let place : length (front ++ end) - 43 ≡ length front + 0 = omega (arith, long) in
    let inside : length (front ++ end) - 43 + 2 ≡ length front + 2 = omega (arith, long) in
    record {
      long = omega (arith, long);
      begins = ap (λ (n : ℕ). get_or (front ++ end) n 0) place ∙ get_or-append-add front end 0 0;
      link = ap (λ (n : ℕ). link_at (drop n (front ++ end))) inside ∙ ap link_at (drop-append-add front end 2) ∙ link_at-link c own;
    }

some-is : (d c : List ℕ) → Some d ≡ Some c → d ≡ c
some-is d c e = cc

abbrev read-link : List ℕ → Result (List ℕ × List ℕ) NodeFault
read-link c = Ok (c, [])

left-of : (left : Option (List ℕ)) (es : List Entry) → is_node left es ≡ true → LeftField (node_spelling left es) left
left-of None es is =
    let links = both (nat_lt (length es) (2 ^ 64) && are_keys_after [] es) (are_links es) (both (nat_lt (length es) (2 ^ 64) && are_keys_after [] es && are_links es) (is_own_cid_or_none None) is).0 in
    record {
      null = λ e long. null-field es links.1 long;
      long = λ c e. absurd cc;
      begins = λ c e. absurd cc;
      link = λ c e. absurd cc;
    }
left-of (Some d) es is =
    let own = both (nat_lt (length es) (2 ^ 64) && are_keys_after [] es && are_links es) (is_own_cid d) is in
    let field = link-field d es own.1 in
    record {
      null = λ e long. absurd cc;
      long = λ c e. field.long;
      begins = λ c e. field.begins;
      link = λ c e. field.link ∙ ap (λ (x : List ℕ). read-link x) (some-is d c e);
    }

pub left-field : (bytes : List ℕ) (left : Option (List ℕ)) (es : List Entry) → IsBytes bytes → read_node bytes ≡ Ok (left, es) → LeftField bytes left
left-field bytes left es fits e =
    let t = read_node_takes bytes left es fits e in
    subst (λ (x : List ℕ). LeftField x left) (sym t.0) (left-of left es t.1)

-- ---- the front

-- the number of entries and the entries, read again
pub record FrontAgain (bytes : List ℕ) (es : List Entry) : Type 0 where
  pub long : 3 ≤ length bytes
  pub read : IsOk (argument_of 4 (drop 3 bytes))
  pub entries : (n : ℕ × List ℕ) → argument_of 4 (drop 3 bytes) ≡ Ok n → IsOk (entries_at n.0 [] n.1) × (entries_shown n.0 n.1 ≡ es)

-- the entries of a node whose end was read
same-entries : (xs : List Entry × List ℕ) (left : Option (List ℕ)) (es : List Entry) → end_of xs.0 xs.1 ≡ Ok (left, es) → xs.0 ≡ es
same-entries xs left es h =
    bind_then (literal (0x61 ∷ 0x6c ∷ []) xs.1) (λ in_l. link_or_null_at in_l >>= whole xs.0) (left, es) h (λ in_l e0 r0.
    bind_then (link_or_null_at in_l) (whole xs.0) (left, es) r0 (λ l e1 r1.
    let ended = ensure_ok (eqb (length l.1) 0) NotNode (λ t. Ok (l.0, xs.0)) (left, es) r1 in
    ap (λ (y : Option (List ℕ) × List Entry). y.1) (ok_is NodeFault (l.0, xs.0) (left, es) ended.1)))

pub front-again : (bytes : List ℕ) (left : Option (List ℕ)) (es : List Entry) → read_node bytes ≡ Ok (left, es) → FrontAgain bytes es
unfolding read_node entries_shown
front-again bytes left es e =
    let a = literal-again (0xa2 ∷ 0x61 ∷ 0x65 ∷ []) bytes _ (read-ok _ _ e) in
    let after = sym a.3 ∙ e in
    bind_then (argument_of 4 (drop 3 bytes)) _ (left, es) after (λ m read more.
    bind_then (entries_at m.0 [] m.1) _ (left, es) more (λ xs found rest.
    record {
      long = a.1;
      read = read-ok _ _ read;
      entries = λ n n_is.
          let same : m ≡ n = ok_is NodeFault m n (sym read ∙ n_is) in
          let got : entries_at n.0 [] n.1 ≡ Ok xs = ap (λ (y : ℕ × List ℕ). entries_at y.0 [] y.1) (sym same) ∙ found in
          (read-ok _ _ got, ap entries_of_reading got ∙ same-entries xs left es rest);
    }))

-- ---- the left link by what is tested of the end

left-if : (bytes : List ℕ) (r : Result (Option (List ℕ) × List Entry) NodeFault) (P : Option (List ℕ) → Type 0) → IsBytes bytes
    → read_node bytes ≡ r → ((left : Option (List ℕ)) → LeftField bytes left → P left) → IfOk r (λ node. P node.0)
left-if bytes (Ok x) P fits e f = f x.0 (left-field bytes x.0 x.1 fits e)
left-if bytes (Err fault) P fits e f = tt

pub short-left : (bytes : List ℕ) → IsBytes bytes → length bytes < 43 → (r : Result (Option (List ℕ) × List Entry) NodeFault) → read_node bytes ≡ r
    → IfOk r (λ node. None ≡ node.0)
short-left bytes fits short r e = left-if bytes r (λ l. None ≡ l) fits e (by-left bytes short)
  where
    by-left : (bytes : List ℕ) → length bytes < 43 → (left : Option (List ℕ)) → LeftField bytes left → None ≡ left
    by-left bytes short None field = refl
    by-left bytes short (Some c) field = let long = field.long c refl in absurd (omega (arith, long, short))

pub other-left : (bytes : List ℕ) → IsBytes bytes → (get_or bytes (length bytes - 43) 0 ≡ 0x61 → ⊥) → (r : Result (Option (List ℕ) × List Entry) NodeFault)
    → read_node bytes ≡ r → IfOk r (λ node. None ≡ node.0)
other-left bytes fits other r e = left-if bytes r (λ l. None ≡ l) fits e (by-left bytes other)
  where
    by-left : (bytes : List ℕ) → (get_or bytes (length bytes - 43) 0 ≡ 0x61 → ⊥) → (left : Option (List ℕ)) → LeftField bytes left → None ≡ left
    by-left bytes other None field = refl
    by-left bytes other (Some c) field = absurd (other (field.begins c refl))

-- the link that stands there
pub record Found (bytes : List ℕ) : Type 0 where
  pub cid : List ℕ
  pub link : link_at (drop (length bytes - 43 + 2) bytes) ≡ Ok (cid, [])
  pub left : (c : List ℕ) → c ≡ cid → IfOk (read_node bytes) (λ node. Some c ≡ node.0)

here-at : (bytes : List ℕ) (left : Option (List ℕ)) (es : List Entry) → read_node bytes ≡ Ok (left, es) → LeftField bytes left → 43 ≤ length bytes
    → get_or bytes (length bytes - 43) 0 ≡ 0x61 → Found bytes
here-at bytes None es e field long here =
    let other : 0x61 ≡ 0x2a = sym here ∙ field.null refl long in
    absurd (omega (arith, other))
here-at bytes (Some d) es e field long here = record {
  cid = d;
  link = field.link d refl;
  left = λ c same. rw e (ap (λ (x : List ℕ). Some x) same);
}

pub here-left : (bytes : List ℕ) → IsBytes bytes → 43 ≤ length bytes → get_or bytes (length bytes - 43) 0 ≡ 0x61 → IsOk (read_node bytes) → Found bytes
here-left bytes fits long here ok =
    let x = all_read (read_node bytes) ok in
    here-at bytes x.0.0 x.0.1 x.1 (left-field bytes x.0.0 x.0.1 fits x.1) long here

-- ---- both ends

head-is : (r : Result ((ℕ × ℕ) × List ℕ) CborFault) (x : (ℕ × ℕ) × List ℕ) → or_not_node r ≡ Ok x → r ≡ Ok x
head-is (Ok y) x e = let read : (ℕ × ℕ) × List ℕ → Result ((ℕ × ℕ) × List ℕ) CborFault = λ z. Ok z in ap read (ok_is NodeFault y x e)
head-is (Err f) x e = absurd cc

argument-rest : (bytes : List ℕ) (n : ℕ × List ℕ) → IsBytes bytes → argument_of 4 bytes ≡ Ok n → IsBytes n.1
argument-rest bytes n fits e =
    bind_then (or_not_node (head_at bytes)) _ n e (λ h read more.
    let a = ensure_ok (eqb h.0.0 4) NotNode (λ t. Ok (h.0.1, h.1)) n more in
    let is : h.0.0 ≡ 4 = eqb-true _ _ a.0 in
    let rest = (head_takes bytes h.0.0 h.0.1 h.1 fits (omega (arith, is)) (head-is (head_at bytes) h read)).0.rest_fits in
    subst IsBytes (ap (λ (x : ℕ × List ℕ). x.1) (ok_is NodeFault (h.0.1, h.1) n a.1)) rest)

-- behind the number of entries stand these and the left link
ends-of : (bytes : List ℕ) (left : Option (List ℕ)) (es : List Entry) (n : ℕ × List ℕ) → bytes ≡ node_spelling left es
    → is_node left es ≡ true → argument_of 4 (drop 3 bytes) ≡ Ok n → n.1 ≡ entries_bytes [] es ++ (0x61 ∷ 0x6c ∷ link_or_null left)
ends-of bytes left es n spelled node n_is =
    let few = nat_lt (length es) (2 ^ 64) in
    let a = both (few && are_keys_after [] es && are_links es) (is_own_cid_or_none left) node in
    let b = both (few && are_keys_after [] es) (are_links es) a.0 in
    let small = both few (are_keys_after [] es) b.0 in
    let after : List ℕ = entries_bytes [] es ++ (0x61 ∷ 0x6c ∷ link_or_null left) in
    let text : drop 3 bytes ≡ head 4 (length es) ++ after =
    ap (drop 3) spelled ∙ append_assoc (head 4 (length es)) (entries_bytes [] es) (0x61 ∷ 0x6c ∷ link_or_null left) in
    let read : argument_of 4 (head 4 (length es) ++ after) ≡ Ok (length es, after) =
    rw (head_at-head 4 (length es) after (omega arith) (ltb-true _ _ small.0)) refl in
    ap (λ (x : ℕ × List ℕ). x.1) (ok_is NodeFault n (length es, after) (sym n_is ∙ ap (argument_of 4) text ∙ read))

-- the parts of a node whose ends were read
pub record NodeAgain (bytes : List ℕ) (left : Option (List ℕ)) (n : ℕ × List ℕ) : Type 0 where
  pub node : read_node bytes ≡ Ok (left, entries_shown n.0 n.1)
  pub read : IsRead left n.0 n.1

pub node-again : (bytes : List ℕ) (left : Option (List ℕ)) (n : ℕ × List ℕ) → IsBytes bytes → IsOk (read_node bytes)
    → IfOk (read_node bytes) (λ node. left ≡ node.0) → argument_of 4 (drop 3 bytes) ≡ Ok n → NodeAgain bytes left n
node-again bytes left n fits ok left_is n_is =
    let x = all_read (read_node bytes) ok in
    let l : left ≡ x.0.0 = subst (λ r. IfOk r (λ node. left ≡ node.0)) x.1 left_is in
    let front = front-again bytes x.0.0 x.0.1 x.1 in
    let es = front.entries n n_is in
    let made : Option (List ℕ) → List Entry → Result (Option (List ℕ) × List Entry) NodeFault = λ y ys. Ok (y, ys) in
    let node : read_node bytes ≡ Ok (left, entries_shown n.0 n.1) = x.1 ∙ ap (λ (y : Option (List ℕ)). made y x.0.1) (sym l) ∙ ap (made left) (sym es.1) in
    record {
      node = node;
      read = record {
        fits = argument-rest (drop 3 bytes) n (IsBytes-drop 3 bytes fits) n_is;
        all = es.0;
        grammar = (read_node_takes bytes left (entries_shown n.0 n.1) fits node).1;
        ends = let t = read_node_takes bytes left (entries_shown n.0 n.1) fits node in
            ends-of bytes left (entries_shown n.0 n.1) n t.0 t.1 n_is;
      };
    }
