-- The pairs of a node, one after the other.
use Rattle.std.proofs.Common.{◌≡◌, ℕ, zero, suc, ◌≤◌, List, [], ◌∷◌, ◌++◌, length, take, drop, Option, refl, ap, ◌∙◌, arith}
use Rattle.spec.specs.Tree.{Pair}
use Rattle.spec.specs.NodeFormat.{Entry, Shape, MoreLinks}
use Rattle.node.specs.Contents.{last_key}
use Rattle.node.specs.Search.{gap_at}
use Rattle.edit_laws.specs.Sources.{shape_from}
use Rattle.rows.specs.OldNodes.{linked}
use Rattle.rows.proofs.Drafting.{Links}

abbrev pub row_of : Option (List ℕ) → Entry → Option (List ℕ) × Pair
row_of l e = (l, (e.key, e.value))

-- ---- what comes next of a node

-- the next pair of what is left of a node is that of an entry
pub record Nexts (after : Option (List ℕ)) (left : List Entry) (p : Pair) (r : Shape) : Type 0 where
  pub entry : Entry
  pub others : List Entry
  pub left_is : left ≡ entry ∷ others
  pub pair_is : p ≡ (entry.key, entry.value)
  pub rest_is : r ≡ shape_from entry.tree others

pub next-of : (after l : Option (List ℕ)) (left : List Entry) (p : Pair) (r : Shape) → shape_from after left ≡ MoreLinks l p r
    → Nexts after left p r
next-of after l [] p r is = absurd cc
next-of after l (e ∷ es) p r is = record {
  entry = e;
  others = es;
  left_is = refl;
  pair_is = cc;
  rest_is = cc;
}

-- ---- entries behind a place

pub within-next : (n : ℕ) (es others : List Entry) (e : Entry) → drop n es ≡ e ∷ others → suc n ≤ length es
within-next zero [] others e is = absurd cc
within-next zero (f ∷ es) others e is = omega arith
within-next (suc n) [] others e is = absurd cc
within-next (suc n) (f ∷ es) others e is = let m = within-next n es others e is in omega (arith, m)

pub drop-next : (n : ℕ) (es others : List Entry) (e : Entry) → drop n es ≡ e ∷ others → drop (suc n) es ≡ others
drop-next zero [] others e is = absurd cc
drop-next zero (f ∷ es) others e is = cc
drop-next (suc n) [] others e is = absurd cc
drop-next (suc n) (f ∷ es) others e is = drop-next n es others e is

pub gap-next : (n : ℕ) (left : Option (List ℕ)) (es others : List Entry) (e : Entry) → drop n es ≡ e ∷ others
    → gap_at (suc n) left es ≡ e.tree
gap-next zero left [] others e is = absurd cc
gap-next zero left (f ∷ es) others e is = let same : f ≡ e = cc in ap (λ (x : Entry). x.tree) same
gap-next (suc n) left [] others e is = absurd cc
gap-next (suc n) left (f ∷ es) others e is = gap-next n f.tree es others e is

-- ---- one row more

-- with its own link
pub plain-more : (n : ℕ) (left : Option (List ℕ)) (es others : List Entry) (e : Entry) → drop n es ≡ e ∷ others
    → linked left (take (suc n) es) ≡ linked left (take n es) ++ row_of (gap_at n left es) e ∷ []
plain-more zero left [] others e is = absurd cc
plain-more zero left (f ∷ es) others e is = let same : f ≡ e = cc in ap (λ (x : Entry). row_of left x ∷ []) same
plain-more (suc n) left [] others e is = absurd cc
plain-more (suc n) left (f ∷ es) others e is =
    ap (λ (xs : Links). row_of left f ∷ xs) (plain-more n f.tree es others e is)

last-none : (before : List ℕ) (es : List Entry) → last_key before (take 0 es) ≡ before
last-none before [] = refl
last-none before (e ∷ es) = refl

-- the key of the last one
pub last-more : (n : ℕ) (before : List ℕ) (es others : List Entry) (e : Entry) → drop n es ≡ e ∷ others
    → last_key before (take (suc n) es) ≡ e.key
last-more zero before [] others e is = absurd cc
last-more zero before (f ∷ es) others e is =
    let same : f ≡ e = cc in last-none f.key es ∙ ap (λ (x : Entry). x.key) same
last-more (suc n) before [] others e is = absurd cc
last-more (suc n) before (f ∷ es) others e is = last-more n f.key es others e is
