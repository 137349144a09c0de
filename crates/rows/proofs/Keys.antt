-- What is written has keys of the grammar.
use Rattle.std.proofs.Common.{◌≡◌, ℕ, zero, suc, Bool, true, ◌&&◌, List, [], ◌∷◌, ◌++◌, take, drop, Option, refl, ap, subst, ◌∙◌}
use Rattle.std.proofs.lemmas.List.{take-append-drop}
use Rattle.std.specs.Arc.{arc_value}
use Rattle.std.specs.declared.sync.Arc.{Arc}
use Rattle.std.specs.Cmp.Lexicographic.{slice_cmp}
use Rattle.std.specs.Ordering.{nat_cmp, is_lt}
use Rattle.spec.specs.Tree.{Pair}
use Rattle.spec.specs.NodeFormat.{Entry, Shape, LastLink, first_link, entries_of, is_key, are_keys_after}
use Rattle.node.specs.Contents.{Contents, last_key, is_next_key}
use Rattle.node.specs.Search.{relink_at}
use Rattle.node.proofs.Joining.{and, are_keys_after-append, are_keys_after-parts}
use Rattle.node.proofs.Relinking.{ascending-entries}
use Rattle.edit_laws.specs.Lawful.{Lawful, HasKeys}
use Rattle.rows.specs.Drafts.{onto, shape_in, HaveKeys}
use Rattle.rows.specs.OldNodes.{linked}

-- ---- nodes that are made

pub keys-lawful : (s : Shape) → Lawful s → HasKeys s
keys-lawful s is = ascending-entries (first_link s) (entries_of s) is

pub keys-more : {A : Type 0} (blocks : List (Arc (List ℕ) A)) (block : Arc (List ℕ) A) → HaveKeys blocks
    → HasKeys (shape_in (arc_value block)) → HaveKeys (blocks ++ block ∷ [])
keys-more [] block all one = (one, tt)
keys-more (b ∷ bs) block all one = (all.0, keys-more bs block all.1 one)

-- ---- a node in the making

-- an entry more
pub keys-next : (es : List Entry) (e : Entry) → are_keys_after [] es ≡ true → is_next_key es e.key ≡ true
    → are_keys_after [] (es ++ e ∷ []) ≡ true
keys-next es e keys next = are_keys_after-append [] es (e ∷ []) keys (and _ true next refl)

-- the keys of a part of a node follow the key before it
keys-part : (from many : ℕ) (es : List Entry) → are_keys_after [] es ≡ true
    → are_keys_after (last_key [] (take from es)) (take many (drop from es)) ≡ true
keys-part from many es keys =
    let before = last_key [] (take from es) in
    let behind = are_keys_after-parts [] (take from es) (drop from es) (ap (are_keys_after []) (take-append-drop from es) ∙ keys) in
    (are_keys_after-parts before (take many (drop from es)) (drop many (drop from es))
    (ap (are_keys_after before) (take-append-drop many (drop from es)) ∙ behind.1)).0

-- a run of an old node more
pub keys-run : (was old : List Entry) (from many : ℕ) → are_keys_after [] was ≡ true → are_keys_after [] old ≡ true
    → last_key [] was ≡ last_key [] (take from old) → are_keys_after [] (was ++ take many (drop from old)) ≡ true
keys-run was old from many keys others follows =
    are_keys_after-append [] was (take many (drop from old)) keys
    (ap (λ (k : List ℕ). are_keys_after k (take many (drop from old))) follows ∙ keys-part from many old others)

-- another link behind the last pair
pub keys-relinked : (place : ℕ) (before : List ℕ) (left new : Option (List ℕ)) (es : List Entry)
    → are_keys_after before (relink_at place left es new).entries ≡ are_keys_after before es
keys-relinked zero before left new es = refl
keys-relinked (suc place) before left new [] = refl
keys-relinked (suc place) before left new (e ∷ es) =
    ap (λ (b : Bool). is_lt (slice_cmp nat_cmp before e.key) && is_key e.key && b) (keys-relinked place e.key e.tree new es)

-- ---- the pairs so far

keys-rows : (before : List ℕ) (left last : Option (List ℕ)) (es : List Entry)
    → are_keys_after before (entries_of (onto (linked left es) (LastLink last))) ≡ are_keys_after before es
keys-rows before left last [] = refl
keys-rows before left last (e ∷ es) =
    ap (λ (b : Bool). is_lt (slice_cmp nat_cmp before e.key) && is_key e.key && b) (keys-rows e.key e.tree last es)

pub keys-so-far : (node : Contents) (last : Option (List ℕ)) (rows : List (Option (List ℕ) × Pair))
    → are_keys_after [] node.entries ≡ true → linked node.left node.entries ≡ rows → HasKeys (onto rows (LastLink last))
keys-so-far node last rows keys is =
    subst (λ (xs : List (Option (List ℕ) × Pair)). HasKeys (onto xs (LastLink last))) is
    (keys-rows [] node.left last node.entries ∙ keys)
