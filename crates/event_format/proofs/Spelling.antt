-- A message's bytes, put together piece by piece.
use Rattle.std.proofs.Common.{◌≡◌, ℕ, suc, ◌+◌, ◌<◌, List, [], ◌∷◌, ◌++◌, length, drop, get_or, Option, Some, None, refl, sym, ap, ◌∙◌, append_assoc, append-nil}
use Rattle.std.specs.Prelude.{codes}
use Rattle.std.proofs.lemmas.List.{at_drop_more}
use Rattle.spec.specs.Head.{head}
use Rattle.spec.specs.DagCbor.{Fields, Items, Link, count_values, string, spelling, spelling_of_values}
use Rattle.change_laws.specs.Told.{KeyChange}
use Rattle.event_laws.specs.Ops.{action_of, fields_of_op, link_or_null, text_or_null, values_of_ops}
use Rattle.event_format.specs.Parts.{op_size, prev_bytes}

joined_two : (v a b : List ℕ) → (v ++ a) ++ b ≡ v ++ (a ++ b)
joined_two v a b = append_assoc v a b

pub two : (v0 v1 v2 a b : List ℕ) → v1 ≡ v0 ++ a → v2 ≡ v1 ++ b → v2 ≡ v0 ++ (a ++ b)
two v0 v1 v2 a b e1 e2 = e2 ∙ ap (λ x. x ++ b) e1 ∙ joined_two v0 a b

joined_three : (v a b c : List ℕ) → ((v ++ a) ++ b) ++ c ≡ v ++ (a ++ (b ++ c))
joined_three v a b c = simp append_assoc

pub three : (v0 v1 v2 v3 a b c : List ℕ) → v1 ≡ v0 ++ a → v2 ≡ v1 ++ b → v3 ≡ v2 ++ c → v3 ≡ v0 ++ (a ++ (b ++ c))
three v0 v1 v2 v3 a b c e1 e2 e3 =
    let is : v3 ≡ ((v0 ++ a) ++ b) ++ c = cc in is ∙ joined_three v0 a b c

joined_four : (v a b c d : List ℕ) → (((v ++ a) ++ b) ++ c) ++ d ≡ v ++ (a ++ (b ++ (c ++ (d ++ []))))
joined_four v a b c d = simp (append_assoc, append-nil)

-- four fields and no more
pub four : (v0 v1 v2 v3 v4 a b c d : List ℕ) → v1 ≡ v0 ++ a → v2 ≡ v1 ++ b → v3 ≡ v2 ++ c → v4 ≡ v3 ++ d
    → v4 ≡ v0 ++ (a ++ (b ++ (c ++ (d ++ []))))
four v0 v1 v2 v3 v4 a b c d e1 e2 e3 e4 =
    let is : v4 ≡ (((v0 ++ a) ++ b) ++ c) ++ d = cc in is ∙ joined_four v0 a b c d

joined_five : (v a b c d e : List ℕ) → ((((v ++ a) ++ b) ++ c) ++ d) ++ e ≡ v ++ (a ++ (b ++ (c ++ (d ++ e))))
joined_five v a b c d e = simp append_assoc

-- four fields, and those behind them
pub five : (v0 v1 v2 v3 v4 v5 a b c d e : List ℕ) → v1 ≡ v0 ++ a → v2 ≡ v1 ++ b → v3 ≡ v2 ++ c → v4 ≡ v3 ++ d → v5 ≡ v4 ++ e
    → v5 ≡ v0 ++ (a ++ (b ++ (c ++ (d ++ e))))
five v0 v1 v2 v3 v4 v5 a b c d e e1 e2 e3 e4 e5 =
    let is : v5 ≡ ((((v0 ++ a) ++ b) ++ c) ++ d) ++ e = cc in is ∙ joined_five v0 a b c d e

-- five fields and no more
pub last_five : (v0 v1 v2 v3 v4 v5 a b c d e : List ℕ) → v1 ≡ v0 ++ a → v2 ≡ v1 ++ b → v3 ≡ v2 ++ c → v4 ≡ v3 ++ d → v5 ≡ v4 ++ e
    → v5 ≡ v0 ++ (a ++ (b ++ (c ++ (d ++ (e ++ [])))))
last_five v0 v1 v2 v3 v4 v5 a b c d e e1 e2 e3 e4 e5 =
    five v0 v1 v2 v3 v4 v5 a b c d e e1 e2 e3 e4 e5
    ∙ ap (λ x. v0 ++ (a ++ (b ++ (c ++ (d ++ x))))) (sym (append-nil e))

-- ---- operations

pub count-ops : (cs : List KeyChange) → count_values (values_of_ops cs) ≡ length cs
count-ops [] = refl
count-ops (c ∷ cs) = ap suc (count-ops cs)

pub ops-spelled : (cs : List KeyChange) → head 4 (length cs) ++ spelling_of_values (values_of_ops cs) ≡ spelling (Items (values_of_ops cs))
ops-spelled cs = ap (λ n. head 4 n ++ spelling_of_values (values_of_ops cs)) (sym (count-ops cs))

-- what was written, and what is left to write
abbrev pub Left : List KeyChange → List ℕ → ℕ → List ℕ → Type 0
Left cs start i out = start ++ spelling_of_values (values_of_ops cs) ≡ out ++ spelling_of_values (values_of_ops (drop i cs))

pub left-next : (cs : List KeyChange) (start out new : List ℕ) (i : ℕ) (c : KeyChange) → i < length cs → c ≡ get_or cs i c
    → new ≡ out ++ spelling (Fields (fields_of_op c)) → Left cs start i out → Left cs start (i + 1) new
left-next cs start out new i c lt is wrote left =
    let rest = spelling_of_values (values_of_ops (drop (i + 1) cs)) in
    left ∙ at_drop_more (λ xs. out ++ spelling_of_values (values_of_ops xs)) cs i c lt
    ∙ ap (λ x. out ++ (spelling (Fields (fields_of_op x)) ++ rest)) (sym is)
    ∙ sym (append_assoc out (spelling (Fields (fields_of_op c))) rest) ∙ ap (λ x. x ++ rest) (sym wrote)

-- ---- from one call to the next

pub whole : (v0 v1 v2 v3 a b c : List ℕ) → v0 ≡ [] → v1 ≡ v0 ++ a → v2 ≡ v1 ++ b → v3 ≡ v2 ++ c → v3 ≡ a ++ (b ++ c)
whole v0 v1 v2 v3 a b c e0 e1 e2 e3 =
    three v0 v1 v2 v3 a b c e1 e2 e3 ∙ ap (λ x. x ++ (a ++ (b ++ c))) e0

pub ops-parts : (v0 v1 v2 v3 k : List ℕ) (cs : List KeyChange) (n : ℕ) → n ≡ length cs → v1 ≡ v0 ++ k → v2 ≡ v1 ++ head 4 n
    → v3 ≡ v2 ++ spelling_of_values (values_of_ops cs) → v3 ≡ v0 ++ (k ++ spelling (Items (values_of_ops cs)))
ops-parts v0 v1 v2 v3 k cs n count e1 e2 e3 =
    three v0 v1 v2 v3 k (head 4 n) (spelling_of_values (values_of_ops cs)) e1 e2 e3
    ∙ ap (λ m. v0 ++ (k ++ (head 4 m ++ spelling_of_values (values_of_ops cs)))) count
    ∙ ap (λ x. v0 ++ (k ++ x)) (ops-spelled cs)

op-spelled : (key : List ℕ) (before after : Option (List ℕ)) → let last = string 3 (codes "action") ++ spelling (text_or_null (action_of before after)) in
    head 5 (op_size before) ++ ((string 3 (codes "cid") ++ spelling (link_or_null after)) ++ ((string 3 (codes "path") ++ string 3 key) ++ (prev_bytes before ++ last)))
    ≡ spelling (Fields (fields_of_op (record { key = key; before = before; after = after })))
op-spelled key None after =
    ap (λ x. head 5 3 ++ ((string 3 (codes "cid") ++ spelling (link_or_null after)) ++ ((string 3 (codes "path") ++ string 3 key) ++ x)))
    (sym (append-nil (string 3 (codes "action") ++ spelling (text_or_null (action_of None after)))))
op-spelled key (Some c) after =
    ap (λ x. head 5 4 ++ ((string 3 (codes "cid") ++ spelling (link_or_null after)) ++ ((string 3 (codes "path") ++ string 3 key) ++ ((string 3 (codes "prev") ++ spelling (Link c)) ++ x))))
    (sym (append-nil (string 3 (codes "action") ++ spelling (text_or_null (action_of (Some c) after)))))

pub op-parts : (v0 v1 v2 v3 v4 v5 key : List ℕ) (before after action : Option (List ℕ)) (n : ℕ) → n ≡ op_size before
    → action ≡ action_of before after → v1 ≡ v0 ++ head 5 n → v2 ≡ v1 ++ (string 3 (codes "cid") ++ spelling (link_or_null after))
    → v3 ≡ v2 ++ (string 3 (codes "path") ++ string 3 key) → v4 ≡ v3 ++ prev_bytes before
    → v5 ≡ v4 ++ (string 3 (codes "action") ++ spelling (text_or_null action))
    → v5 ≡ v0 ++ spelling (Fields (fields_of_op (record { key = key; before = before; after = after })))
op-parts v0 v1 v2 v3 v4 v5 key before after action n size is e1 e2 e3 e4 e5 =
    let cid_field = string 3 (codes "cid") ++ spelling (link_or_null after) in
    let path_field = string 3 (codes "path") ++ string 3 key in
    let last : Option (List ℕ) → List ℕ = λ a. string 3 (codes "action") ++ spelling (text_or_null a) in
    five v0 v1 v2 v3 v4 v5 (head 5 n) cid_field path_field (prev_bytes before) (last action) e1 e2 e3 e4 e5
    ∙ ap (λ m. v0 ++ (head 5 m ++ (cid_field ++ (path_field ++ (prev_bytes before ++ last action))))) size
    ∙ ap (λ a. v0 ++ (head 5 (op_size before) ++ (cid_field ++ (path_field ++ (prev_bytes before ++ last a))))) is
    ∙ ap (λ x. v0 ++ x) (op-spelled key before after)
