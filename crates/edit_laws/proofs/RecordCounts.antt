-- The records of a map after a write, counted.
use Rattle.std.proofs.Common.{◌≡◌, ℕ, ◌+◌, true, List, [], ◌∷◌, ◌++◌, map, ap, ◌∙◌, arith}
use Rattle.std.specs.List.{cons_option}
use Rattle.std.proofs.lemmas.List.{map-append}
use Rattle.std.specs.declared.cmp.Ordering.{Ordering}
use Rattle.std.specs.declared.cmp.Ordering.TheVariants.{Less, Equal, Greater}
use Rattle.std.specs.Cmp.Lexicographic.{slice_cmp}
use Rattle.std.specs.Ordering.{nat_cmp}
use Rattle.std.specs.FinMap.{is_sorted}
use Rattle.spec.specs.Tree.{Pair}
use Rattle.spec.specs.Blocks.{blocks, record_blocks}
use Rattle.spec.specs.Laws.Blocks.{parts}
use Rattle.spec.proofs.RepositoryBlocks.{blocks-parts}
use Rattle.edit_laws.specs.Order.{order}
use Rattle.edit_laws.specs.Pairs.{put_pair, put_first, delete_pair, delete_first, value_in, value_first}
use Rattle.edit_laws.specs.Changes.{count}
use Rattle.edit_laws.proofs.Lists.{count-append}

-- a count over two lists together
pub count-map_append : (mark : List ℕ → List ℕ) (c : List ℕ) (xs ys : List (List ℕ)) → count c (map mark (xs ++ ys)) ≡ count c (map mark xs) + count c (map mark ys)
count-map_append mark c xs ys = ap (count c) (map-append mark xs ys) ∙ count-append c (map mark xs) (map mark ys)

-- so each CID stands among a repository's blocks as often as among its parts
pub count-parts : (digest : List ℕ → List ℕ) (bits : ℕ) (further : List (List ℕ)) (m : List (List ℕ × List ℕ)) → is_sorted (slice_cmp nat_cmp) m ≡ true
    → (mark : List ℕ → List ℕ) (c : List ℕ) → count c (map mark (blocks digest bits further m)) ≡ count c (map mark (parts digest bits further m))
count-parts digest bits further m sorted mark c = blocks-parts digest bits further m sorted (λ bs. count c (map mark bs)) (count-map_append mark c)

-- ---- the records of a map after a put, and after a delete

put-case : (mark : List ℕ → List ℕ) (c : List ℕ) (p e : Pair) (es : List Pair) (o : Ordering)
    → count c (map mark (record_blocks (put_pair p es))) + count c (map mark (cons_option (value_in p.0 es) [])) ≡ count c (map mark (record_blocks es)) + count c (map mark (p.1 ∷ []))
    → count c (map mark (record_blocks (put_first o p e es (put_pair p es)))) + count c (map mark (cons_option (value_first o e (value_in p.0 es)) []))
    ≡ count c (map mark (record_blocks (e ∷ es))) + count c (map mark (p.1 ∷ []))
put-case mark c p e es Less i = omega arith
put-case mark c p e es Equal i = omega arith
put-case mark c p e es Greater i = omega arith

pub count-put : (mark : List ℕ → List ℕ) (c : List ℕ) (p : Pair) (es : List Pair)
    → count c (map mark (record_blocks (put_pair p es))) + count c (map mark (cons_option (value_in p.0 es) [])) ≡ count c (map mark (record_blocks es)) + count c (map mark (p.1 ∷ []))
count-put mark c p [] = omega arith
count-put mark c p (e ∷ es) = put-case mark c p e es (order e.0 p.0) (count-put mark c p es)

delete-case : (mark : List ℕ → List ℕ) (c key : List ℕ) (e : Pair) (es : List Pair) (o : Ordering)
    → count c (map mark (record_blocks (delete_pair key es))) + count c (map mark (cons_option (value_in key es) [])) ≡ count c (map mark (record_blocks es))
    → count c (map mark (record_blocks (delete_first o e es (delete_pair key es)))) + count c (map mark (cons_option (value_first o e (value_in key es)) []))
    ≡ count c (map mark (record_blocks (e ∷ es)))
delete-case mark c key e es Less i = omega arith
delete-case mark c key e es Equal i = omega arith
delete-case mark c key e es Greater i = omega arith

pub count-delete : (mark : List ℕ → List ℕ) (c key : List ℕ) (es : List Pair)
    → count c (map mark (record_blocks (delete_pair key es))) + count c (map mark (cons_option (value_in key es) [])) ≡ count c (map mark (record_blocks es))
count-delete mark c key [] = omega arith
count-delete mark c key (e ∷ es) = delete-case mark c key e es (order e.0 key) (count-delete mark c key es)
