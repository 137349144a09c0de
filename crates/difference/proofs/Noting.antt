-- The links of a line, noted one after the other.
use Rattle.std.proofs.Common.{◌≡◌, ℕ, ◌+◌, ◌<◌, Bool, true, false, cond, not, ◌||◌, List, [], ◌∷◌, ◌++◌, length, get_or, take, drop, Option, refl, sym, ap, ◌∙◌, subst, arith, append_assoc}
use Rattle.std.proofs.lemmas.List.{take_all, take_more, take-append-drop, map-append}
use Rattle.std.proofs.lemmas.Map.Text.{is_eq-slice_cmp}
use Rattle.std.proofs.lemmas.Slice.Eq.{bytes_eq-Decides}
use Rattle.std.specs.Prelude.{◌↔◌, IsTrue, is_some, is_none}
use Rattle.std.specs.BTreeSet.{BTreeSet, contains}
use Rattle.std.specs.Cmp.Lexicographic.{slice_cmp}
use Rattle.std.specs.List.{cons_option}
use Rattle.std.specs.Ordering.{nat_cmp, is_eq}
use Rattle.std.specs.Str.{bytes_eq}
use Rattle.std.specs.declared.option.Option.TheVariants.{Some, None}
use Rattle.spec.specs.NodeFormat.{Shape, LastLink}
use Rattle.edit_laws.specs.Changes.{has_cid}
use Rattle.batch_laws.specs.Links.{Rows, onto_links}
use Rattle.difference_laws.specs.Lines.{links_in, repeats}
use Rattle.difference.specs.Sides.{HasLinks, IsNoted, has_link, row_of, rows_of}
use Rattle.difference.specs.declared.line.Row.{Row}

same-eq-case : (a b : List ℕ) (s t : Bool) → bytes_eq a b ≡ s → bytes_eq b a ≡ t → s ≡ t
same-eq-case a b true true h k = refl
same-eq-case a b true false h k =
    let e = (bytes_eq-Decides b a).1 (sym ((bytes_eq-Decides a b).0 h)) in
    let c : true ≡ false = sym e ∙ k in cc
same-eq-case a b false true h k =
    let e = (bytes_eq-Decides a b).1 (sym ((bytes_eq-Decides b a).0 k)) in
    let c : true ≡ false = sym e ∙ h in cc
same-eq-case a b false false h k = refl

same-eq : (a b : List ℕ) → bytes_eq a b ≡ bytes_eq b a
same-eq a b = same-eq-case a b (bytes_eq a b) (bytes_eq b a) refl refl

or-assoc : (a b c : Bool) → ((a || b) || c) ≡ (a || (b || c))
or-assoc true b c = refl
or-assoc false b c = refl

has-append : (c : List ℕ) (xs ys : List (List ℕ)) → has_cid c (xs ++ ys) ≡ (has_cid c xs || has_cid c ys)
has-append c [] ys = refl
has-append c (x ∷ xs) ys =
    ap (λ b. bytes_eq c x || b) (has-append c xs ys) ∙ sym (or-assoc (bytes_eq c x) (has_cid c xs) (has_cid c ys))

-- ---- a set that grows

put-case : (t b : Bool) → cond t true b ≡ (b || (t || false))
put-case true true = refl
put-case true false = refl
put-case false true = refl
put-case false false = refl

pub noted-more : (cids : List (List ℕ)) (k : List ℕ) (old new : BTreeSet (List ℕ)) → HasLinks cids old
    → ((q : List ℕ) → contains (slice_cmp nat_cmp) new q
    ≡ cond (is_eq (slice_cmp nat_cmp k q)) true (contains (slice_cmp nat_cmp) old q))
    → HasLinks (cids ++ (k ∷ [])) new
noted-more cids k old new has puts = λ q.
    (puts q ∙ ap (λ t. cond t true (contains (slice_cmp nat_cmp) old q)) (is_eq-slice_cmp k q ∙ same-eq k q)
    ∙ put-case (bytes_eq q k) (contains (slice_cmp nat_cmp) old q)
    ∙ ap (λ b. b || (bytes_eq q k || false)) (has q) ∙ sym (has-append q cids (k ∷ [])))

pub not-not : (b : Bool) → not (not b) ≡ b
not-not true = refl
not-not false = refl

append-none : (xs : List (List ℕ)) → xs ++ [] ≡ xs
append-none [] = refl
append-none (x ∷ xs) = ap (λ t. x ∷ t) (append-none xs)

-- no link comes
pub no-more : (cids : List (List ℕ)) (l : Option (List ℕ)) (links : BTreeSet (List ℕ)) → l ≡ None → HasLinks cids links
    → IsNoted cids l false links
no-more cids None links e h =
    record { again_is = refl; links_are = λ c. (h c ∙ ap (has_cid c) (sym (append-none cids))) }
no-more cids (Some c) links e h = absurd cc

pub one-more : (cids : List (List ℕ)) (l : Option (List ℕ)) (k : List ℕ) (is_new : Bool) (old new : BTreeSet (List ℕ))
    → l ≡ Some k → HasLinks cids old → is_new ≡ not (contains (slice_cmp nat_cmp) old k)
    → ((q : List ℕ) → contains (slice_cmp nat_cmp) new q
    ≡ cond (is_eq (slice_cmp nat_cmp k q)) true (contains (slice_cmp nat_cmp) old q))
    → IsNoted cids l (not is_new) new
one-more cids None k is_new old new e has add puts = absurd cc
one-more cids (Some c) k is_new old new e has add puts =
    let same : c ≡ k = cc in
    record {
      again_is = ap not add ∙ not-not (contains (slice_cmp nat_cmp) old k) ∙ has k ∙ ap (λ x. has_cid x cids) (sym same);
      links_are = subst (λ x. HasLinks (cids ++ (x ∷ [])) new) (sym same) (noted-more cids k old new has puts);
    }

-- ---- links of rows

abbrev pub links_of : Rows → List (List ℕ)
links_of [] = []
links_of (x ∷ xs) = cons_option x.0 (links_of xs)

cons-append : (l : Option (List ℕ)) (xs ys : List (List ℕ)) → cons_option l (xs ++ ys) ≡ cons_option l xs ++ ys
cons-append None xs ys = refl
cons-append (Some c) xs ys = refl

pub links-line : (xs : Rows) (t : Shape) → links_in (onto_links xs t) ≡ links_of xs ++ links_in t
links-line [] t = refl
links-line (x ∷ xs) t = ap (cons_option x.0) (links-line xs t) ∙ cons-append x.0 (links_of xs) (links_in t)

pub links-append : (xs ys : Rows) → links_of (xs ++ ys) ≡ links_of xs ++ links_of ys
links-append [] ys = refl
links-append (x ∷ xs) ys = ap (cons_option x.0) (links-append xs ys) ∙ cons-append x.0 (links_of xs) (links_of ys)

-- ---- none stands twice

shuffle : (a b p d : Bool) → ((a || (p || false)) || (b || d)) ≡ ((a || b) || (p || d))
shuffle true b p d = refl
shuffle false true true d = refl
shuffle false true false d = refl
shuffle false false true d = refl
shuffle false false false d = refl

repeats-end : (xs : List (List ℕ)) (c : List ℕ) → repeats (xs ++ (c ∷ [])) ≡ (repeats xs || has_cid c xs)
repeats-end [] c = refl
repeats-end (x ∷ xs) c =
    ap (λ b. b || repeats (xs ++ (c ∷ []))) (has-append x xs (c ∷ []))
    ∙ ap (λ b. (has_cid x xs || (bytes_eq x c || false)) || b) (repeats-end xs c)
    ∙ shuffle (has_cid x xs) (repeats xs) (bytes_eq x c) (has_cid c xs)
    ∙ ap (λ t. (has_cid x xs || repeats xs) || (t || has_cid c xs)) (same-eq x c)

pub repeats-link : (xs : List (List ℕ)) (l : Option (List ℕ)) (again : Bool) → again ≡ has_link l xs → repeats xs ≡ false
    → repeats (xs ++ cons_option l []) ≡ again
repeats-link xs None again h k = ap repeats (append-none xs) ∙ k ∙ sym h
repeats-link xs (Some c) again h k = repeats-end xs c ∙ ap (λ b. b || has_cid c xs) k ∙ sym h

or-left : (a b : Bool) → a ≡ true → (a || b) ≡ true
or-left a b h = ap (λ t. t || b) h

or-right : (a b : Bool) → b ≡ true → (a || b) ≡ true
or-right true b h = refl
or-right false b h = h

more-case : (x : List ℕ) (xs ys : List (List ℕ)) (b : Bool) → has_cid x xs ≡ b → (b || repeats xs) ≡ true
    → (repeats xs ≡ true → repeats (xs ++ ys) ≡ true) → repeats ((x ∷ xs) ++ ys) ≡ true
more-case x xs ys true e h f =
    or-left (has_cid x (xs ++ ys)) (repeats (xs ++ ys)) (has-append x xs ys ∙ or-left (has_cid x xs) (has_cid x ys) e)
more-case x xs ys false e h f = or-right (has_cid x (xs ++ ys)) (repeats (xs ++ ys)) (f h)

repeats-more : (xs ys : List (List ℕ)) → repeats xs ≡ true → repeats (xs ++ ys) ≡ true
repeats-more [] ys h = absurd cc
repeats-more (x ∷ xs) ys h = more-case x xs ys (has_cid x xs) refl h (repeats-more xs ys)

-- ---- row by row

no-middle : (xs : List (List ℕ)) (l : Option (List ℕ)) (ys : List (List ℕ)) → is_some l ≡ true
    → xs ++ (cons_option l [] ++ ys) ≡ [] → ⊥
no-middle (x ∷ xs) l ys s e = cc
no-middle [] None ys s e = cc
no-middle [] (Some c) ys s e = cc

none-alone : (l : Option (List ℕ)) → is_some l ≡ false → cons_option l [] ≡ []
none-alone None s = refl
none-alone (Some c) s = absurd cc

module _ {A : Type 0} (rs : List (Row A)) (i : ℕ) (x : Row A) (short : i < length rs) (is : x ≡ get_or rs i x) where
  pub rows-more : rows_of (take (i + 1) rs) ≡ rows_of (take i rs) ++ (row_of x ∷ [])
  rows-more =
      ap rows_of (take_more rs i x short ∙ ap (λ y. take i rs ++ (y ∷ [])) (sym is))
      ∙ map-append row_of (take i rs) (x ∷ [])

  pub links-more : links_of (rows_of (take (i + 1) rs)) ≡ links_of (rows_of (take i rs)) ++ cons_option x.link []
  links-more = ap links_of rows-more ∙ links-append (rows_of (take i rs)) (row_of x ∷ [])

  rows-whole : rows_of rs ≡ rows_of (take (i + 1) rs) ++ rows_of (drop (i + 1) rs)
  rows-whole =
      ap rows_of (sym (take-append-drop (i + 1) rs)) ∙ map-append row_of (take (i + 1) rs) (drop (i + 1) rs)

  pub repeats-whole : (last : Option (List ℕ)) (again : Bool) → again ≡ has_link x.link (links_of (rows_of (take i rs)))
      → again ≡ true → repeats (links_of (rows_of (take i rs))) ≡ false
      → repeats (links_in (onto_links (rows_of rs) (LastLink last))) ≡ true
  repeats-whole last again h t clean =
      ap repeats (links-line (rows_of rs) (LastLink last)
      ∙ ap (λ z. z ++ links_in (LastLink last)) (ap links_of rows-whole
      ∙ links-append (rows_of (take (i + 1) rs)) (rows_of (drop (i + 1) rs))))
      ∙ repeats-more (links_of (rows_of (take (i + 1) rs)) ++ links_of (rows_of (drop (i + 1) rs))) (links_in (LastLink last))
      (repeats-more (links_of (rows_of (take (i + 1) rs))) (links_of (rows_of (drop (i + 1) rs)))
      (ap repeats links-more ∙ repeats-link (links_of (rows_of (take i rs))) x.link again h clean ∙ t))

  links-whole : (last : Option (List ℕ)) → links_in (onto_links (rows_of rs) (LastLink last))
      ≡ links_of (rows_of (take i rs)) ++ (cons_option x.link [] ++ (links_of (rows_of (drop (i + 1) rs)) ++ cons_option last []))
  links-whole last =
      links-line (rows_of rs) (LastLink last)
      ∙ ap (λ z. z ++ cons_option last []) (ap links_of rows-whole
      ∙ links-append (rows_of (take (i + 1) rs)) (rows_of (drop (i + 1) rs))
      ∙ ap (λ z. z ++ links_of (rows_of (drop (i + 1) rs))) links-more
      ∙ append_assoc (links_of (rows_of (take i rs))) (cons_option x.link []) (links_of (rows_of (drop (i + 1) rs))))
      ∙ append_assoc (links_of (rows_of (take i rs))) (cons_option x.link [] ++ links_of (rows_of (drop (i + 1) rs)))
      (cons_option last [])
      ∙ ap (λ z. links_of (rows_of (take i rs)) ++ z)
      (append_assoc (cons_option x.link []) (links_of (rows_of (drop (i + 1) rs))) (cons_option last []))

  -- a row with a link
  pub link-there : (last : Option (List ℕ)) → is_some x.link ≡ true
      → links_in (onto_links (rows_of rs) (LastLink last)) ≡ [] → ⊥
  link-there last s e =
      no-middle (links_of (rows_of (take i rs))) x.link (links_of (rows_of (drop (i + 1) rs)) ++ cons_option last []) s
      (sym (links-whole last) ∙ e)

  pub none-more : is_some x.link ≡ false → links_of (rows_of (take i rs)) ≡ [] → links_of (rows_of (take (i + 1) rs)) ≡ []
  none-more s e = links-more ∙ ap (λ z. z ++ cons_option x.link []) e ∙ none-alone x.link s

-- all rows, and the last link
pub links-all : {A : Type 0} (rs : List (Row A)) (n : ℕ) (last : Option (List ℕ)) → n ≡ length rs
    → links_in (onto_links (rows_of rs) (LastLink last)) ≡ links_of (rows_of (take n rs)) ++ cons_option last []
links-all rs n last many =
    links-line (rows_of rs) (LastLink last)
    ∙ ap (λ z. links_of (rows_of z) ++ cons_option last []) (sym (take_all n rs (omega (arith, many))))

-- all rows have none
pub none-last : {A : Type 0} (rs : List (Row A)) (n : ℕ) (last : Option (List ℕ)) (b : Bool) → n ≡ length rs
    → links_of (rows_of (take n rs)) ≡ [] → b ≡ is_none last
    → IsTrue b ↔ (links_in (onto_links (rows_of rs) (LastLink last)) ≡ [])
none-last rs n last b many none e =
    let whole : links_in (onto_links (rows_of rs) (LastLink last)) ≡ cons_option last [] =
    links-all rs n last many ∙ ap (λ z. z ++ cons_option last []) none in
    none-case last b whole e
  where
    none-case : (l : Option (List ℕ)) (t : Bool) → links_in (onto_links (rows_of rs) (LastLink last)) ≡ cons_option l [] → t ≡ is_none l
        → IsTrue t ↔ (links_in (onto_links (rows_of rs) (LastLink last)) ≡ [])
    none-case None t w h = ((λ k. w), λ k. h)
    none-case (Some c) t w h = ((λ k. absurd cc), λ k. let z : ◌≡◌ {A = List (List ℕ)} (c ∷ []) [] = sym w ∙ k in absurd cc)
