-- Changes of records, and the same with the CIDs in place of the records.
use Rattle.std.proofs.Common.{◌≡◌, ℕ, List, [], ◌∷◌, map, refl, sym, ap, ◌∙◌, true, Option}
use Rattle.std.specs.Prelude.{option_map}
use Rattle.std.specs.List.{AllByRecursion, cons_option}
use Rattle.std.specs.declared.option.Option.TheVariants.{Some, None}
use Rattle.std.specs.declared.cmp.Ordering.{Ordering}
use Rattle.std.specs.declared.cmp.Ordering.TheVariants.{Less, Equal, Greater}
use Rattle.spec.specs.Cid.{cid, IsDigest, is_own_cid}
use Rattle.spec.specs.Tree.{Pair}
use Rattle.spec.specs.NodeFormat.{is_own_cid_or_none}
use Rattle.spec.specs.Blocks.{pairs, value_of}
use Rattle.spec.proofs.RecordPairs.{value-record}
use Rattle.edit_laws.specs.Order.{order}
use Rattle.edit_laws.specs.Pairs.{Ascending, put_pair, put_first, delete_pair, delete_first}
use Rattle.batch_laws.specs.Batch.{Change, changed, change_by, one_by_one, AreAscending, HaveOwnCids}
use Rattle.batch_laws.specs.Batch.{change_first, with_change}
use Rattle.batch_laws.specs.Previous.{values}
use Rattle.batch_laws.specs.Collecting.{with_cid, with_cids}
use Rattle.batch_laws.specs.Uses.{present_values}
use Rattle.batch_laws.specs.Laws.Collecting.{PairsAreChanged}
use Rattle.batch_laws.specs.Laws.Uses.{ValuesAreByKeys}
use Rattle.batch_laws.proofs.OneByOne.{changed-one_by_one}

own : (digest : List ℕ → List ℕ) → IsDigest digest → (bytes : List ℕ) → is_own_cid (cid digest bytes) ≡ true
unfolding cid
own digest fits bytes = rw (fits bytes) refl

module _ (digest : List ℕ → List ℕ) where
  -- ---- one more change

  with-first : (c d : Change) (ds tail : List Change) (o : Ordering) → with_cids digest (change_first o c d ds tail)
      ≡ change_first o (with_cid digest c) (with_cid digest d) (with_cids digest ds) (with_cids digest tail)
  with-first c d ds tail Less = refl
  with-first c d ds tail Equal = refl
  with-first c d ds tail Greater = refl

  pub cids-with : (c : Change) (cs : List Change)
      → with_cids digest (with_change c cs) ≡ with_change (with_cid digest c) (with_cids digest cs)
  cids-with c [] = refl
  cids-with c (d ∷ ds) =
      let o = order d.0 c.0 in
      with-first c d ds (with_change c ds) o
      ∙ ap (change_first o (with_cid digest c) (with_cid digest d) (with_cids digest ds)) (cids-with c ds)

  -- ---- what holds of keys

  pub keys-cids : (P : List ℕ → Type 0) (cs : List Change) → AllByRecursion (λ c. P c.0) cs
      → AllByRecursion (λ c. P c.0) (with_cids digest cs)
  keys-cids P [] h = tt
  keys-cids P (c ∷ cs) h = (h.0, keys-cids P cs h.1)

  pub ascending-cids : (cs : List Change) → AreAscending cs → AreAscending (with_cids digest cs)
  ascending-cids [] a = tt
  ascending-cids (c ∷ cs) a = (keys-cids (λ k. order k c.0 ≡ Greater) cs a.0, ascending-cids cs a.1)

  each-pairs : (P : List ℕ → Type 0) (es : List Pair) → AllByRecursion (λ e. P e.0) es
      → AllByRecursion (λ e. P e.0) (pairs digest es)
  each-pairs P [] h = tt
  each-pairs P (e ∷ es) h = (h.0, each-pairs P es h.1)

  pub ascending-pairs : (es : List Pair) → Ascending es → Ascending (pairs digest es)
  ascending-pairs [] a = tt
  ascending-pairs (e ∷ es) a = (each-pairs (λ k. order k e.0 ≡ Greater) es a.0, ascending-pairs es a.1)

  -- ---- values are CIDs

  own-value : IsDigest digest → (o : Option (List ℕ)) → is_own_cid_or_none (option_map (cid digest) o) ≡ true
  own-value fits None = refl
  own-value fits (Some bytes) = own digest fits bytes

  pub own-cids : IsDigest digest → (cs : List Change) → HaveOwnCids (with_cids digest cs)
  own-cids fits [] = tt
  own-cids fits (c ∷ cs) = (own-value fits c.1, own-cids fits cs)

  -- ---- the pairs of changed records

  abbrev pair_of : Pair → Pair
  pair_of e = (e.0, cid digest e.1)

  put-case : (p e : Pair) (es tail : List Pair) (o : Ordering) → pairs digest (put_first o p e es tail)
      ≡ put_first o (pair_of p) (pair_of e) (pairs digest es) (pairs digest tail)
  put-case p e es tail Less = refl
  put-case p e es tail Equal = refl
  put-case p e es tail Greater = refl

  pairs-put : (p : Pair) (es : List Pair) → pairs digest (put_pair p es) ≡ put_pair (pair_of p) (pairs digest es)
  pairs-put p [] = refl
  pairs-put p (e ∷ es) =
      let o = order e.0 p.0 in
      put-case p e es (put_pair p es) o ∙ ap (put_first o (pair_of p) (pair_of e) (pairs digest es)) (pairs-put p es)

  delete-case : (e : Pair) (es tail : List Pair) (o : Ordering) → pairs digest (delete_first o e es tail)
      ≡ delete_first o (pair_of e) (pairs digest es) (pairs digest tail)
  delete-case e es tail Less = refl
  delete-case e es tail Equal = refl
  delete-case e es tail Greater = refl

  pairs-delete : (key : List ℕ) (es : List Pair)
      → pairs digest (delete_pair key es) ≡ delete_pair key (pairs digest es)
  pairs-delete key [] = refl
  pairs-delete key (e ∷ es) =
      let o = order e.0 key in
      delete-case e es (delete_pair key es) o ∙ ap (delete_first o (pair_of e) (pairs digest es)) (pairs-delete key es)

  pairs-change : (key : List ℕ) (v : Option (List ℕ)) (es : List Pair)
      → pairs digest (change_by key v es) ≡ change_by key (option_map (cid digest) v) (pairs digest es)
  pairs-change key None es = pairs-delete key es
  pairs-change key (Some v) es = pairs-put (key, v) es

  pairs-one_by_one : (cs : List Change) (es : List Pair)
      → pairs digest (one_by_one cs es) ≡ one_by_one (with_cids digest cs) (pairs digest es)
  pairs-one_by_one [] es = refl
  pairs-one_by_one (c ∷ cs) es =
      pairs-one_by_one cs (change_by c.0 c.1 es)
      ∙ ap (one_by_one (with_cids digest cs)) (pairs-change c.0 c.1 es)

  pub pairs-changed : (cs : List Change) (es : List Pair) → AreAscending cs
      → pairs digest (changed cs es) ≡ changed (with_cids digest cs) (pairs digest es)
  pairs-changed cs es a =
      ap (pairs digest) (changed-one_by_one cs es a) ∙ pairs-one_by_one cs es
      ∙ sym (changed-one_by_one (with_cids digest cs) (pairs digest es) (ascending-cids cs a))

  -- ---- the values that keys had

  pub values-by_keys : (cs : List Change) (es : List Pair) → values (with_cids digest cs) es ≡ values cs es
  values-by_keys [] es = refl
  values-by_keys (c ∷ cs) es = ap (λ os. value_of c.0 es ∷ os) (values-by_keys cs es)

  map-option : (o : Option (List ℕ)) (bs : List (List ℕ))
      → map (cid digest) (cons_option o bs) ≡ cons_option (option_map (cid digest) o) (map (cid digest) bs)
  map-option None bs = refl
  map-option (Some b) bs = refl

  -- the CIDs of records that go are the values that go with the pairs
  pub cids-given : (cs : List Change) (m : List Pair)
      → map (cid digest) (present_values (values cs m)) ≡ present_values (values cs (pairs digest m))
  cids-given [] m = refl
  cids-given (c ∷ cs) m =
      map-option _ (present_values (values cs m)) ∙ ap (cons_option _) (cids-given cs m)
      ∙ ap (λ o. cons_option o (present_values (values cs (pairs digest m)))) (sym (value-record digest m c.0).0)

pub pairs-are_changed : PairsAreChanged
pairs-are_changed digest cs m a = (ascending-cids digest cs a, pairs-changed digest cs m a)

pub values-are_by_keys : ValuesAreByKeys
values-are_by_keys digest cs es = values-by_keys digest cs es
