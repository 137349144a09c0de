-- The answers of all workers are put together in the order of the lines.
use Rattle.std.proofs.Common.{◌≡◌, ◌<◌, ◌==◌, ℕ, suc, ◌+◌, List, [], ◌∷◌, ◌++◌, length, map, take, drop, set, get_or, refl, ap, sym, ◌∙◌, subst, arith, cond, true, false, Bool, append_assoc, add-one, drop-cons, length-append}
use Rattle.std.proofs.lemmas.List.{get_or-set_other, length-set, map-set, get_or-map, take_more, length-map, length-take-le}
use Rattle.std.proofs.lemmas.Grind.{get_or-set_at}
use Rattle.std.proofs.lemmas.Bool.Decides.{nat_tests}
use Rattle.std.specs.declared.collections.VecDeque.{VecDeque}
use Rattle.std.proofs.Common.{length-drop, Global, append-nil, All}
use Rattle.scripts.specs.Merging.{AreEnough, own_answers, own_lines}
use Rattle.scripts.specs.declared.script.Line.{Line}

-- So many lines are answered. For each worker its answers there and those that are left are those
-- that it began with, and what is left is enough for its other lines.
pub record AreMerged {X : Type 0} (start : List (List X)) (lines : List Line) (count : ℕ) (xs : List X) (left : List (List X)) : Type 0 where
  pub workers : length left ≡ length start
  pub all : length xs ≡ count
  pub enough : AreEnough (drop count lines) left
  pub own : (k : ℕ) (d : List X) → k < length start → own_answers k (take count lines) xs ++ get_or left k d ≡ get_or start k d

-- ---- one more line

snoc_by : {X : Type 0} (b : Bool) (y : X) (us vs ws : List X) → us ≡ vs ++ ws → cond b (y ∷ us) us ≡ cond b (y ∷ vs) vs ++ ws
snoc_by true y us vs ws e = ap (λ zs. y ∷ zs) e
snoc_by false y us vs ws e = e

own_snoc : {X : Type 0} (k : ℕ) (lines : List Line) (xs : List X) (l : Line) (x : X) → length xs ≡ length lines
    → own_answers k (lines ++ l ∷ []) (xs ++ x ∷ []) ≡ own_answers k lines xs ++ cond (l.worker == k) (x ∷ []) []
own_snoc k [] [] l x e = refl
own_snoc k [] (y ∷ xs) l x e = absurd (omega arith)
own_snoc k (m ∷ lines) [] l x e = absurd (omega arith)
own_snoc k (m ∷ lines) (y ∷ xs) l x e =
    snoc_by (m.worker == k) y (own_answers k (lines ++ l ∷ []) (xs ++ x ∷ [])) (own_answers k lines xs) (cond (l.worker == k) (x ∷ []) [])
    (own_snoc k lines xs l x (omega arith))

-- the worker of the line has one answer less
enough_by : {X : Type 0} (b : Bool) (left : List (List X)) (w k : ℕ) (x : X) (t d : List X) (l : Line) (rest : List Line) → (w == k) ≡ b
    → w < length left → get_or left w d ≡ x ∷ t → length (get_or left k d) ≡ length (cond b (l ∷ rest) rest)
    → length (get_or (set left w t) k d) ≡ length rest
enough_by true left w k x t d l rest is lt at h =
    let same : k ≡ w = grind (arith, nat_tests) in
    let one : length (get_or left k d) ≡ length (x ∷ t) = ap length (ap (λ j. get_or left j d) same ∙ at) in
    ap length (get_or-set_at left w k t d same lt) ∙ omega (arith, one, h)
enough_by false left w k x t d l rest is lt at h = ap length (get_or-set_other left w k t d (grind (arith, nat_tests))) ∙ h

-- that answer stands at the line
own_by : {X : Type 0} (b : Bool) (left : List (List X)) (w k : ℕ) (x : X) (t d us vs : List X) → (w == k) ≡ b
    → w < length left → get_or left w d ≡ x ∷ t → us ++ get_or left k d ≡ vs
    → (us ++ cond b (x ∷ []) []) ++ get_or (set left w t) k d ≡ vs
own_by true left w k x t d us vs is lt at h =
    let same : k ≡ w = grind (arith, nat_tests) in
    ap (λ ws. (us ++ x ∷ []) ++ ws) (get_or-set_at left w k t d same lt) ∙ append_assoc us (x ∷ []) t
    ∙ sym (ap (λ ws. us ++ ws) (ap (λ j. get_or left j d) same ∙ at)) ∙ h
own_by false left w k x t d us vs is lt at h =
    ap (λ ws. (us ++ []) ++ ws) (get_or-set_other left w k t d (grind (arith, nat_tests))) ∙ ap (λ ws. ws ++ get_or left k d) (append-nil us) ∙ h

merged_by : {X : Type 0} (start left : List (List X)) (lines : List Line) (i : ℕ) (xs : List X) (l : Line) (x : X) (t : List X) → AreMerged start lines i xs left
    → i < length lines → l ≡ get_or lines i l → l.worker < length left → ((d : List X) → get_or left l.worker d ≡ x ∷ t)
    → AreMerged start lines (i + 1) (xs ++ x ∷ []) (set left l.worker t)
merged_by {X} start left lines i xs l x t m lt is small at =
    let cut : drop i lines ≡ l ∷ drop (i + 1) lines = drop-cons lines i l lt ∙ ap (λ h. h ∷ drop (suc i) lines) (sym is) ∙ ap (λ j. l ∷ drop j lines) (sym (add-one i)) in
    let more : take (i + 1) lines ≡ take i lines ++ l ∷ [] = take_more lines i l lt ∙ ap (λ h. take i lines ++ h ∷ []) (sym is) in
    record {
      workers = length-set left l.worker t ∙ m.workers;
      all = length-append xs (x ∷ []) ∙ omega (arith, m.all);
      enough = λ k d lt'. enough_by (l.worker == k) left l.worker k x t d l (own_lines k (drop (i + 1) lines)) refl small (at d)
          (m.enough k d (omega (arith, length-set left l.worker t)) ∙ ap (λ ls. length (own_lines k ls)) cut);
      own = λ k d lt'. ap (λ ls. own_answers k ls (xs ++ x ∷ []) ++ get_or (set left l.worker t) k d) more
          ∙ ap (λ ys. ys ++ get_or (set left l.worker t) k d) (own_snoc k (take i lines) xs l x (m.all ∙ sym (length-take-le i lines (omega arith))))
          ∙ own_by (l.worker == k) left l.worker k x t d (own_answers k (take i lines) xs) (get_or start k d) refl small (at d) (m.own k d lt');
    }

-- ---- over queues

abbrev pub lists : {X : Type 0} → List (VecDeque X Global) → List (List X)
lists given = map (λ q. q.items) given

pub merged_more : {X : Type 0} (start : List (List X)) (given : List (VecDeque X Global)) (lines : List Line) (i : ℕ) (xs : List X) (l : Line) (q r : VecDeque X Global) (x : X)
    → AreMerged start lines i xs (lists given) → i < length lines → l ≡ get_or lines i l → l.worker < length given
    → q ≡ get_or given l.worker q → q.items ≡ x ∷ r.items
    → AreMerged start lines (i + 1) (xs ++ x ∷ []) (lists (set given l.worker r))
merged_more {X} start given lines i xs l q r x m lt is small here at =
    subst (AreMerged start lines (i + 1) (xs ++ x ∷ [])) (sym (map-set (λ (p : VecDeque X Global). p.items) given l.worker r))
    (merged_by start (lists given) lines i xs l x r.items m lt is (omega (arith, length-map given (λ (p : VecDeque X Global). p.items)))
    (λ d. get_or-map (λ (p : VecDeque X Global). p.items) given l.worker q d small ∙ ap (λ (p : VecDeque X Global). p.items) (sym here) ∙ at))

-- the worker of a line is one of those that were given
pub is_there : {X : Type 0} (start given : List (VecDeque X Global)) (lines : List Line) (i : ℕ) (xs : List X) (l : Line)
    → AreMerged (lists start) lines i xs (lists given) → All (λ l. l.worker < length start) lines → i < length lines → l ≡ get_or lines i l → l.worker < length given
is_there {X} start given lines i xs l m h lt is =
    let small : (get_or lines i l).worker < length start = h i l lt in
    omega (arith, small, ap (λ (m : Line). m.worker) is, m.workers, length-map given (λ (p : VecDeque X Global). p.items), length-map start (λ (p : VecDeque X Global). p.items))

-- a worker with a line left has an answer left
pub has_one : {X : Type 0} (start : List (List X)) (given : List (VecDeque X Global)) (lines : List Line) (i : ℕ) (xs : List X) (l : Line) (q : VecDeque X Global)
    → AreMerged start lines i xs (lists given) → i < length lines → l ≡ get_or lines i l → l.worker < length given
    → q ≡ get_or given l.worker q → 0 < length q.items
has_one {X} start given lines i xs l q m lt is small here =
    let cut : drop i lines ≡ l ∷ drop (i + 1) lines = drop-cons lines i l lt ∙ ap (λ h. h ∷ drop (suc i) lines) (sym is) ∙ ap (λ j. l ∷ drop j lines) (sym (add-one i)) in
    let at : get_or (lists given) l.worker q.items ≡ q.items = get_or-map (λ (p : VecDeque X Global). p.items) given l.worker q q.items small ∙ ap (λ (p : VecDeque X Global). p.items) (sym here) in
    let same : (l.worker == l.worker) ≡ true = grind (arith, nat_tests) in
    let many : length (get_or (lists given) l.worker q.items) ≡ suc (length (own_lines l.worker (drop (i + 1) lines))) =
    m.enough l.worker q.items (omega (arith, length-map given (λ (p : VecDeque X Global). p.items))) ∙ ap (λ ls. length (own_lines l.worker ls)) cut
    ∙ ap (λ b. length (cond b (l ∷ own_lines l.worker (drop (i + 1) lines)) (own_lines l.worker (drop (i + 1) lines)))) same in
    omega (arith, many, ap length at)

-- a list that loses its first element and stays the same is empty
pub no_rest : {X : Type 0} (xs ys : List X) → xs ≡ ys → ys ≡ drop 1 xs → 0 < length xs → ⊥
no_rest xs ys e r some = omega (arith, ap length e, ap length r, length-drop 1 xs, some)
