-- The counts of a table, entry by entry.
use mathlib.Core.Bool.{true≢false}
use Rattle.std.proofs.Common.{zero, suc, ◌≡◌, ◌≢◌, ℕ, ◌<◌, ◌+◌, ◌%◌, ◌∷◌, [], List, refl, ap, sym, ◌∙◌, subst, cond, nat_eq, nat_lt, Bool, true, false, arith, Option, Some, None}
use Rattle.std.specs.Prelude.{◌||◌, is_some, option_map, slice_index}
use Rattle.std.specs.List.{AllByRecursion, IsDistinct, list_any}
use Rattle.std.specs.Map.{keys_of}
use Rattle.std.proofs.lemmas.Map.Keys.{IsDistinct-head, IsDistinct-tail}
use Rattle.std.proofs.lemmas.Bool.Decides.{nat_tests}
use Rattle.std.specs.BTreeMap.{is_at}
use Rattle.std.specs.Ordering.{nat_cmp, is_eq}
use Rattle.std.specs.declared.cmp.Ordering.{Ordering}
use Rattle.std.specs.declared.cmp.Ordering.TheVariants.{Less, Equal, Greater}
use Rattle.std.specs.Cmp.{eq_by_cmp_equiv, tied_itself}
use Rattle.std.specs.Cmp.Lexicographic.{slice_cmp, nat_list_cmp_total, pointwise, texts_ties}
use Rattle.std.specs.FinMap as map
use Rattle.std.specs.FinMap.{slice_cmp-IsAntisymmetric, nat_cmp-IsAntisymmetric}
use Rattle.std.specs.FinSet as set
use Rattle.store.specs.Table.{Table, Held, IsLawful, IsListing, cores_at, cores_of, entry_at, shard_of}
use Rattle.store.specs.Shards.{table_at}
use Rattle.closing.specs.Counts.{positive, count_in, counted, or_else}
use Rattle.closing.specs.Tally.{count}
use Rattle.closing.proofs.Having.{or_later}
use Rattle.closing.proofs.Entries.{look, look_listed}

same : map.IsAntisymmetric (slice_cmp nat_cmp)
same = slice_cmp-IsAntisymmetric nat_cmp-IsAntisymmetric

-- the CID is one of those that are left
abbrev pub is_key : List (List ℕ × set.FinSet nat_cmp) → List ℕ → Bool
is_key es q = list_any (λ e. is_eq (slice_cmp nat_cmp q e.0)) es

pub record Adding (old now : List (List ℕ × ℕ)) (shard : ℕ) (table : Table) (left : List (List ℕ × set.FinSet nat_cmp)) : Type 0 where
  pub once : IsDistinct (pointwise nat_eq) (keys_of left)
  pub some : (q : List ℕ) → is_key left q ≡ true → 0 < set.len (cores_at table q)
  pub each : (q : List ℕ) → count_in now q ≡ cond (is_key left q) (count_in old q) (counted old shard table q)

no_key : (es : List (List ℕ × set.FinSet nat_cmp)) (q : List ℕ) → is_key es q ≡ false → look es q ≡ set.empty
no_key [] q h = refl
no_key (e ∷ es) q h = at (is_eq (slice_cmp nat_cmp q e.0)) (no_key es q) h
  where
    at : (b : Bool) → (is_key es q ≡ false → look es q ≡ set.empty) → (b || is_key es q) ≡ false → cond b e.1 (look es q) ≡ set.empty
    at true later h = absurd (true≢false h)
    at false later h = later h

same_both : (b : Bool) (x y : Option ℕ) → x ≡ y → cond b x y ≡ y
same_both true x y e = e
same_both false x y e = refl

key_found : (es : List (List ℕ × set.FinSet nat_cmp)) (q : List ℕ) → is_key es q ≡ is_some (map.find (slice_cmp nat_cmp) q es)
key_found [] q = refl
key_found (e ∷ es) q = at (is_eq (slice_cmp nat_cmp q e.0)) (key_found es q)
  where
    at : (b : Bool) → is_key es q ≡ is_some (map.find (slice_cmp nat_cmp) q es)
        → (b || is_key es q) ≡ is_some (cond b (Some e.1) (map.find (slice_cmp nat_cmp) q es))
    at true h = refl
    at false h = h

some_held : (o : Option Held) → is_some (option_map (λ e. e.1) o) ≡ is_some o
some_held None = refl
some_held (Some e) = refl

-- each entry of a table has some core
some_core : (digest : List ℕ → List ℕ) (table : Table) (items : List (List ℕ × set.FinSet nat_cmp)) → IsListing table items → IsLawful digest table
    → (q : List ℕ) → is_key items q ≡ true → 0 < set.len (cores_at table q)
some_core digest table items is lawful q key =
    at (entry_at table q) refl (sym (some_held (entry_at table q)) ∙ sym (ap (λ (o : Option (set.FinSet nat_cmp)). is_some o) (is.all q)) ∙ sym (key_found items q) ∙ key)
  where
    at : (o : Option Held) → entry_at table q ≡ o → is_some o ≡ true → 0 < set.len (cores_of o)
    at None is h = absurd (true≢false (sym h))
    at (Some e) is h = (lawful.entries q e is).some

pub adding_start : (digest : List ℕ → List ℕ) (old : List (List ℕ × ℕ)) (shard : ℕ) (table : Table) (items : List (List ℕ × set.FinSet nat_cmp))
    → IsListing table items → IsLawful digest table → Adding old old shard table items
adding_start digest old shard table items is lawful = record {
  once = is.once;
  some = some_core digest table items is lawful;
  each = λ q. at q (is_key items q) refl;
}
  where
    none : (q : List ℕ) → set.len (cores_at table q) ≡ 0 → counted old shard table q ≡ count_in old q
    none q e = ap (λ n. cond (nat_eq (shard_of q) shard) (or_else (positive n) (count_in old q)) (count_in old q)) e ∙ same_both (nat_eq (shard_of q) shard) (count_in old q) (count_in old q) refl

    at : (q : List ℕ) (b : Bool) → is_key items q ≡ b → count_in old q ≡ cond b (count_in old q) (counted old shard table q)
    at q true h = refl
    at q false h = sym (none q (ap (λ (s : set.FinSet nat_cmp). set.len s) (sym (look_listed table items is q) ∙ no_key items q h) ∙ set.len-empty nat_cmp))

not_among : (k : List ℕ) (es : List (List ℕ × set.FinSet nat_cmp)) → AllByRecursion (λ y. pointwise nat_eq k y ≡ false) (keys_of es) → is_key es k ≡ false
not_among k [] h = refl
not_among k (e ∷ es) h = ap (λ b. b || is_key es k) (sym (texts_ties k e.0) ∙ h.0) ∙ not_among k es h.1

module _ (old : List (List ℕ × ℕ)) (shard : ℕ) (table : Table) (k : List ℕ) (s : set.FinSet nat_cmp) (left whole : List (List ℕ × set.FinSet nat_cmp)) (is : whole ≡ (k, s) ∷ left) where
  keep_case : (now : List (List ℕ × ℕ)) → counted old shard table k ≡ count_in old k → (q : List ℕ) (o : Ordering) → slice_cmp nat_cmp q k ≡ o
      → count_in now q ≡ cond (is_eq o || is_key left q) (count_in old q) (counted old shard table q)
      → count_in now q ≡ cond (is_key left q) (count_in old q) (counted old shard table q)
  keep_case now none q Less e h = h
  keep_case now none q Greater e h = h
  keep_case now none q Equal e h =
      let tied : q ≡ k = same q k e in
      h ∙ sym (turn (is_key left q) (ap (counted old shard table) tied ∙ none ∙ ap (count_in old) (sym tied)))
    where
      turn : (b : Bool) → counted old shard table q ≡ count_in old q → cond b (count_in old q) (counted old shard table q) ≡ count_in old q
      turn true e = refl
      turn false e = e

  -- the entry that comes next has some core
  pub adding_some : (now : List (List ℕ × ℕ)) → Adding old now shard table whole → 0 < set.len (cores_at table k)
  adding_some now h =
      let a : Adding old now shard table ((k, s) ∷ left) = subst (Adding old now shard table) is h in
      a.some k (ap (λ o. is_eq o || is_key left k) (tied_itself nat_list_cmp_total k))

  pub adding_keep : (now : List (List ℕ × ℕ)) → counted old shard table k ≡ count_in old k → Adding old now shard table whole → Adding old now shard table left
  adding_keep now none h =
      let a : Adding old now shard table ((k, s) ∷ left) = subst (Adding old now shard table) is h in record {
        once = IsDistinct-tail (pointwise nat_eq) k (keys_of left) a.once;
        some = λ q h. a.some q (or_later _ _ h);
        each = λ q. keep_case now none q (slice_cmp nat_cmp q k) refl (a.each q);
      }

  put_case : (now new : List (List ℕ × ℕ)) (v : ℕ) → counted old shard table k ≡ Some v → is_key left k ≡ false → (q : List ℕ) (o : Ordering) → slice_cmp nat_cmp q k ≡ o
      → count_in new q ≡ cond (is_eq o) (Some v) (count_in now q)
      → count_in now q ≡ cond (is_eq o || is_key left q) (count_in old q) (counted old shard table q)
      → count_in new q ≡ cond (is_key left q) (count_in old q) (counted old shard table q)
  put_case now new v put fresh q Less e u h = u ∙ h
  put_case now new v put fresh q Greater e u h = u ∙ h
  put_case now new v put fresh q Equal e u h =
      let tied : q ≡ k = same q k e in
      u ∙ sym put ∙ ap (counted old shard table) (sym tied) ∙ sym (ap (λ b. cond b (count_in old q) (counted old shard table q)) (ap (is_key left) tied ∙ fresh))

  pub adding_put : (now new : List (List ℕ × ℕ)) (v : ℕ) → counted old shard table k ≡ Some v
      → ((q : List ℕ) → count_in new q ≡ cond (is_at (slice_cmp nat_cmp k) q) (Some v) (count_in now q))
      → Adding old now shard table whole → Adding old new shard table left
  adding_put now new v put u h =
      let a : Adding old now shard table ((k, s) ∷ left) = subst (Adding old now shard table) is h in record {
        once = IsDistinct-tail (pointwise nat_eq) k (keys_of left) a.once;
        some = λ q h. a.some q (or_later _ _ h);
        each = λ q. put_case now new v put (not_among k left (IsDistinct-head (pointwise nat_eq) k (keys_of left) a.once)) q (slice_cmp nat_cmp q k) refl
            (u q ∙ ap (λ b. cond b (Some v) (count_in now q)) ((eq_by_cmp_equiv nat_list_cmp_total).symm k q)) (a.each q);
      }

pub adding_end : (old now : List (List ℕ × ℕ)) (shard : ℕ) (table : Table) (left : List (List ℕ × set.FinSet nat_cmp)) → left ≡ [] → Adding old now shard table left
    → (q : List ℕ) → count_in now q ≡ counted old shard table q
adding_end old now shard table left e h q = (subst (Adding old now shard table) e h).each q

-- a count in another shard, and one above 0 in this shard
pub other_counted : (old : List (List ℕ × ℕ)) (shard : ℕ) (table : Table) (k : List ℕ) → shard_of k ≢ shard → counted old shard table k ≡ count_in old k
other_counted old shard table k ne = ap (λ b. cond b (or_else (positive (set.len (cores_at table k))) (count_in old k)) (count_in old k)) (apart (shard_of k) shard ne)
  where
    apart : (a b : ℕ) → a ≢ b → nat_eq a b ≡ false
    apart a b ne = grind (arith, nat_tests)

pub put_counted : (old : List (List ℕ × ℕ)) (shard : ℕ) (table : Table) (k : List ℕ) (n : ℕ) → set.len (cores_at table k) ≡ n → 0 < set.len (cores_at table k) → shard_of k ≡ shard
    → counted old shard table k ≡ Some n
put_counted old shard table k zero e some is = absurd (omega (arith, e, some))
put_counted old shard table k (suc n) e some is =
    ap (λ b. cond b (or_else (positive (set.len (cores_at table k))) (count_in old k)) (count_in old k)) (equal (shard_of k) shard is)
    ∙ ap (λ m. or_else (positive m) (count_in old k)) e
  where
    equal : (a b : ℕ) → a ≡ b → nat_eq a b ≡ true
    equal a b e = grind (arith, nat_tests)

-- ---- the tables one after the other

or_none : (o : Option ℕ) → or_else o None ≡ o
or_none None = refl
or_none (Some n) = refl

-- the table at the next place was put to those before it
pub table_added : (tables : List Table) (at : ℕ) (t : Table) (old new : List (List ℕ × ℕ)) (cid : List ℕ) → t ≡ table_at tables at
    → count_in new cid ≡ counted old at t cid
    → count_in old cid ≡ cond (nat_lt (shard_of cid) at) (positive (count tables cid)) None
    → count_in new cid ≡ cond (nat_lt (shard_of cid) (at + 1)) (positive (count tables cid)) None
table_added tables at t old new cid is made before = made ∙ step (nat_eq (shard_of cid) at) refl
  where
    not_yet : (a b : ℕ) → nat_eq a b ≡ true → nat_lt a b ≡ false
    not_yet a b e = grind (arith, nat_tests)

    now : (a b : ℕ) → nat_eq a b ≡ true → nat_lt a (b + 1) ≡ true
    now a b e = grind (arith, nat_tests)

    still : (a b : ℕ) → nat_eq a b ≡ false → nat_lt a b ≡ nat_lt a (b + 1)
    still a b e = grind (arith, nat_tests)

    same_number : (a b : ℕ) → nat_eq a b ≡ true → b ≡ a
    same_number a b e = grind (arith, nat_tests)

    step : (b : Bool) → nat_eq (shard_of cid) at ≡ b
        → cond b (or_else (positive (set.len (cores_at t cid))) (count_in old cid)) (count_in old cid)
        ≡ cond (nat_lt (shard_of cid) (at + 1)) (positive (count tables cid)) None
    step true e =
        ap (or_else (positive (set.len (cores_at t cid)))) (before ∙ ap (λ b. cond b (positive (count tables cid)) None) (not_yet (shard_of cid) at e))
        ∙ or_none (positive (set.len (cores_at t cid)))
        ∙ ap (λ (x : Table). positive (set.len (cores_at x cid))) (is ∙ ap (table_at tables) (same_number (shard_of cid) at e))
        ∙ sym (ap (λ b. cond b (positive (count tables cid)) None) (now (shard_of cid) at e))
    step false e = before ∙ ap (λ b. cond b (positive (count tables cid)) None) (still (shard_of cid) at e)

-- all sixteen were
pub all_added : (tables : List Table) (now : List (List ℕ × ℕ)) (cid : List ℕ)
    → count_in now cid ≡ cond (nat_lt (shard_of cid) 16) (positive (count tables cid)) None → count_in now cid ≡ positive (count tables cid)
all_added tables now cid h = h ∙ ap (λ b. cond b (positive (count tables cid)) None) (below (slice_index cid 4))
  where
    below : (n : ℕ) → nat_lt (n % 16) 16 ≡ true
    below n = grind (arith, nat_tests)

pub none_added : (tables : List Table) (now : List (List ℕ × ℕ)) (cid : List ℕ) → now ≡ []
    → count_in now cid ≡ cond (nat_lt (shard_of cid) 0) (positive (count tables cid)) None
none_added tables now cid e = ap (λ es. count_in es cid) e ∙ sym (ap (λ b. cond b (positive (count tables cid)) None) (below (shard_of cid)))
  where
    below : (n : ℕ) → nat_lt n 0 ≡ false
    below n = grind (arith, nat_tests)
