-- The pairs that lines leave: keys of 1 to 1,024 bytes that ascend strictly, each with a CID of the host's form.
use Rattle.std.proofs.Common.{◌≡◌, ℕ, Bool, true, false, ◌&&◌, T, List, [], ◌∷◌, Ordering, Less, Equal, Greater, refl, ap, subst, ◌∙◌}
use Rattle.std.specs.Prelude.{fold, Result, Ok, Err}
use Rattle.std.specs.List.{list_all, before_last, after_last, list_any}
use Rattle.std.specs.FinMap.{put, is_sorted, slice_cmp-IsAntisymmetric, nat_cmp-IsAntisymmetric}
use Rattle.spec.specs.Tree.{Pair}
use Rattle.spec.specs.Cid.{CidFault, is_own_cid, cid_of_text}
use Rattle.spec.specs.NodeFormat.{is_key, is_ascending}
use Rattle.spec.proofs.Taking.{bind_then, ensure_ok, ok_is}
use Rattle.spec.proofs.CidTexts.{cid_of_text_takes}
use Rattle.console.specs.Lines.{numbered_lines, is_space}
use Rattle.spec.proofs.RecordPairs.{repository-key}
use Rattle.tree_command.specs.declared.keys.Keys.{Keys}
use Rattle.tree_command.specs.declared.keys.Keys.TheVariants as keys
use Rattle.tree_command.specs.TreeText.{LineFault, TreeFault, BadLine, BadKey, is_taken, or_bad_cid, pair_of_line, at_line, pairs_of_lines, last_of_each_key, map_of_input}
use Rattle.tree_command.proofs.LastLines.{order, is_sorted-last_of_each_key}

-- ---- a line's pair

-- both hold of it
record IsGood (e : Pair) : Type 0 where
  key : is_key e.0 ≡ true
  value : is_own_cid e.1 ≡ true

own_cid : (r : Result (List ℕ) CidFault) (c : List ℕ) → or_bad_cid r ≡ Ok c → r ≡ Ok c
own_cid (Ok x) c e = ap Ok (ok_is LineFault x c e)
own_cid (Err f) c e = absurd cc

-- a key that is taken is a key of a tree
taken_key : (taken : Keys) (key : List ℕ) → is_taken taken key ≡ true → is_key key ≡ true
taken_key keys.Any key is = is
taken_key keys.Paths key is = repository-key key is

good_line : (taken : Keys) (l : List ℕ) (e : Pair) → pair_of_line taken l ≡ Ok e → IsGood e
unfolding pair_of_line
good_line taken l e is =
    let spaced = ensure_ok (list_any is_space l) BadLine _ e is in
    let keyed = ensure_ok (is_taken taken (before_last is_space l)) BadKey _ e spaced.1 in
    bind_then (or_bad_cid (cid_of_text (after_last is_space l))) _ e keyed.1 (λ c read made.
    let pair : (before_last is_space l, c) ≡ e = ok_is LineFault _ _ made in
    subst IsGood pair (record { key = taken_key taken _ keyed.0; value = (cid_of_text_takes (after_last is_space l) c (own_cid (cid_of_text (after_last is_space l)) c read)).2 }))

-- ---- what holds of each line's pair holds of each pair that is left

both : (a b : Bool) → a ≡ true → b ≡ true → (a && b) ≡ true
both true b p q = q
both false b p q = absurd cc

one : (a b : Bool) → (a && b) ≡ true → a ≡ true
one true b h = refl
one false b h = absurd cc

other : (a b : Bool) → (a && b) ≡ true → b ≡ true
other true b h = h
other false b h = absurd cc

module _ (p : Pair → Bool) where
  put-by : (k v : List ℕ) (e : Pair) (es : List Pair) (o : Ordering) → order k e.0 ≡ o → p (k, v) ≡ true → p e ≡ true → list_all p es ≡ true → list_all p (put order k v es) ≡ true
      → list_all p (put order k v (e ∷ es)) ≡ true
  put-by k v e es Less t f here rest after = rw t (both (p (k, v)) (p e && list_all p es) f (both (p e) (list_all p es) here rest))
  put-by k v e es Equal t f here rest after =
      rw t (both (p (e.0, v)) (list_all p es) (subst (λ (q : List ℕ). p (q, v) ≡ true) (slice_cmp-IsAntisymmetric nat_cmp-IsAntisymmetric k e.0 t) f) rest)
  put-by k v e es Greater t f here rest after = rw t (both (p e) (list_all p (put order k v es)) here after)

  all-put : (k v : List ℕ) (es : List Pair) → p (k, v) ≡ true → list_all p es ≡ true → list_all p (put order k v es) ≡ true
  all-put k v [] f g = both (p (k, v)) true f refl
  all-put k v (e ∷ es) f g =
      let rest = other (p e) (list_all p es) g in
      put-by k v e es (order k e.0) refl f (one (p e) (list_all p es) g) rest (all-put k v es f rest)

  pub all-fold : (m es : List Pair) → list_all p m ≡ true → list_all p es ≡ true → list_all p (fold (λ m e. put order e.0 e.1 m) m es) ≡ true
  all-fold m [] f g = f
  all-fold m (e ∷ es) f g = all-fold (put order e.0 e.1 m) es (all-put e.0 e.1 m (one (p e) (list_all p es) g) f) (other (p e) (list_all p es) g)

  module _ (taken : Keys) (good : (l : List ℕ) (e : Pair) → pair_of_line taken l ≡ Ok e → p e ≡ true) where
    at : (n : ℕ) (l : List ℕ) (r : Result Pair LineFault) (e : Pair) → pair_of_line taken l ≡ r → at_line n r ≡ Ok e → p e ≡ true
    at n l (Ok f) e is made = good l e (is ∙ ap Ok (ok_is TreeFault f e made))
    at n l (Err f) e is made = absurd cc

    all-of : (ls : List (ℕ × List ℕ)) (es : List Pair) → pairs_of_lines taken ls ≡ Ok es → list_all p es ≡ true
    unfolding pairs_of_lines
    all-of [] es made = subst (λ (fs : List Pair). list_all p fs ≡ true) (ok_is TreeFault [] es made) refl
    all-of (l ∷ ls) es made =
        bind_then (at_line l.0 (pair_of_line taken l.1)) _ es made (λ e on next.
        bind_then (pairs_of_lines taken ls) _ es next (λ more of last.
        subst (λ (gs : List Pair). list_all p gs ≡ true) (ok_is TreeFault (e ∷ more) es last) (both (p e) (list_all p more) (at l.0 l.1 _ e refl on) (all-of ls more of))))

    all-left : (input : List ℕ) (m : List Pair) → map_of_input taken input ≡ Ok m → list_all p m ≡ true
    unfolding map_of_input
    all-left input m made =
        bind_then (pairs_of_lines taken (numbered_lines input)) _ m made (λ es of left.
        subst (λ (gs : List Pair). list_all p gs ≡ true) (ok_is TreeFault (last_of_each_key es) m left) (all-fold [] es refl (all-of (numbered_lines input) es of)))

sorted-left : (taken : Keys) (input : List ℕ) (m : List Pair) → map_of_input taken input ≡ Ok m → is_sorted order m ≡ true
unfolding map_of_input
sorted-left taken input m made =
    bind_then (pairs_of_lines taken (numbered_lines input)) _ m made (λ es of left.
    subst (λ (gs : List Pair). is_sorted order gs ≡ true) (ok_is TreeFault (last_of_each_key es) m left) (from_T _ (is_sorted-last_of_each_key es)))
  where
    from_T : (b : Bool) → T b → b ≡ true
    from_T true t = refl
    from_T false t = absurd t

-- ---- what is left

pub ascending-left : (taken : Keys) (input : List ℕ) (m : List Pair) → map_of_input taken input ≡ Ok m → is_ascending m ≡ true
ascending-left taken input m made = both (is_sorted order m) (list_all (λ e. is_key e.0) m) (sorted-left taken input m made) (all-left (λ e. is_key e.0) taken (λ l e is. (good_line taken l e is).key) input m made)
