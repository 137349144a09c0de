-- The pairs of a record map: a key's value is its record's CID, and lawful writes leave the pairs of
-- a tree.
use Rattle.std.proofs.Common.{◌≡◌, ℕ, suc, ◌+◌, ◌-◌, min, ◌<◌, ◌≤◌, Bool, true, false, cond, not, ◌&&◌}
use Rattle.std.proofs.Common.{List, [], ◌∷◌, length, refl, sym, ap, ◌∙◌, arith, Result, fold, Option, None}
use Rattle.std.specs.declared.option.Option.TheVariants.{Some}
use Rattle.std.specs.declared.cmp.Ordering.TheVariants.{Less, Equal, Greater}
use Rattle.std.specs.Prelude.{nat_lt, nat_le, option_map, is_some}
use Rattle.std.specs.List.{AllByRecursion, before_first, after_first, position_or_len}
use Rattle.std.specs.Str.{bytes_eq}
use Rattle.std.specs.Cmp.Lexicographic.{slice_cmp}
use Rattle.std.specs.Ordering.{nat_cmp, is_lt, eq_by_cmp}
use Rattle.std.specs.FinMap.{find, is_sorted, put}
use Rattle.std.specs.FinMap.Entries.{where_key, below_all, by_order}
use Rattle.std.proofs.lemmas.Bool.{ltb-true, lt-ltb, leb-true, le-leb}
use Rattle.std.proofs.lemmas.List.{length-take, length-drop, length-map}
use Rattle.spec.specs.Cid.{IsDigest, cid, is_own_cid}
use Rattle.spec.specs.Reading.{◌>>=◌, ensure}
use Rattle.spec.specs.Tree.{Pair}
use Rattle.spec.specs.NodeFormat.{is_key}
use Rattle.spec.specs.Blocks.{pairs, value_of}
use Rattle.spec.specs.Keys.{is_repository_key, is_slash, is_collection, is_record_key}
use Rattle.spec.specs.Writes.{Write, WriteFault, BadKey, Put, Create, Update, Delete, leaves, after_write}
use Rattle.spec.specs.Writes.{write_test, passes, is_lawful_from}
use Rattle.spec.specs.Laws.Blocks.{ValueIsOfRecord, LawfulHasPairs}
use Rattle.spec.proofs.Bools.{both, and, from_T}
use Rattle.spec.proofs.WriteLaws.{is_sorted-leaves}

abbrev Records : Type 0
Records = List (List ℕ × List ℕ)

-- ---- a key's value

value-case : (digest : List ℕ → List ℕ) (r : List ℕ) (t : Bool) (x y : Option (List ℕ)) → x ≡ option_map (cid digest) y
    → cond t (Some (cid digest r)) x ≡ option_map (cid digest) (cond t (Some r) y)
value-case digest r true x y i = refl
value-case digest r false x y i = i

value-find : (digest : List ℕ → List ℕ) (m : Records) (key : List ℕ) → value_of key (pairs digest m) ≡ option_map (cid digest) (find (slice_cmp nat_cmp) key m)
value-find digest [] key = refl
value-find digest (e ∷ m) key =
    value-case digest e.1 (eq_by_cmp (slice_cmp nat_cmp) key e.0) (value_of key (pairs digest m)) (find (slice_cmp nat_cmp) key m) (value-find digest m key)

some-mapped : (f : List ℕ → List ℕ) (o : Option (List ℕ)) → is_some o ≡ is_some (option_map f o)
some-mapped f None = refl
some-mapped f (Some x) = refl

pub value-record : ValueIsOfRecord
value-record digest m key = (
  value-find digest m key,
  some-mapped (cid digest) (find (slice_cmp nat_cmp) key m) ∙ ap is_some (sym (value-find digest m key)),
)

-- ---- a key of a repository is a key of a tree

bounds : (p l : ℕ) → 0 < l - (p + 1) → l - (p + 1) ≤ 512 → min p l ≤ 317 → (0 < l) × (l ≤ 1024)
bounds p l a b c = (omega arith, omega arith)

pub repository-key : (k : List ℕ) → is_repository_key k ≡ true → is_key k ≡ true
repository-key k h =
    let p = position_or_len is_slash k in
    let c = before_first is_slash k in
    let r = after_first is_slash k in
    let parts = both (is_collection c) (is_record_key r) h in
    let of_c = both (nat_lt 0 (length c) && nat_le (length c) 317) _ parts.0 in
    let least_c = both (nat_lt 0 (length c)) (nat_le (length c) 317) of_c.0 in
    let r1 = both _ _ parts.1 in
    let r2 = both _ _ r1.0 in
    let r3 = both _ _ r2.0 in
    let least_r = both (nat_lt 0 (length r)) (nat_le (length r) 512) r3.0 in
    let length_c : length c ≡ min p (length k) = length-take p k in
    let length_r : length r ≡ length k - (p + 1) = length-drop (p + 1) k in
    let a : 0 < length r = ltb-true 0 (length r) least_r.0 in
    let b : length r ≤ 512 = leb-true (length r) 512 least_r.1 in
    let d : length c ≤ 317 = leb-true (length c) 317 least_c.1 in
    let e = bounds p (length k) (omega arith) (omega arith) (omega arith) in
    and _ _ (lt-ltb 0 (length k) e.0) (le-leb (length k) 1024 e.1)

-- ---- the keys and the number of records after a write

abbrev HasKey : Pair → Type 0
HasKey e = is_repository_key e.0 ≡ true

all-put : (k v : List ℕ) (m : Records) → is_repository_key k ≡ true → AllByRecursion HasKey m → AllByRecursion HasKey (put (slice_cmp nat_cmp) k v m)
all-put k v [] h a = (h, tt)
all-put k v (e ∷ m) h a =
    elim (slice_cmp nat_cmp k e.0) as (λ o. AllByRecursion HasKey (by_order o ((k, v) ∷ e ∷ m) ((e.0, v) ∷ m) (e ∷ put (slice_cmp nat_cmp) k v m))) [
      | Less ↦ (h, a)
      | Equal ↦ (a.0, a.1)
      | Greater ↦ (a.0, all-put k v m h a.1)
    ]

more-put : (k v : List ℕ) (m : Records) → length (put (slice_cmp nat_cmp) k v m) ≤ suc (length m)
more-put k v [] = omega arith
more-put k v (e ∷ m) =
    let i = more-put k v m in
    elim (slice_cmp nat_cmp k e.0) as (λ o. length (by_order o ((k, v) ∷ e ∷ m) ((e.0, v) ∷ m) (e ∷ put (slice_cmp nat_cmp) k v m)) ≤ suc (suc (length m))) [
      | Less ↦ omega arith
      | Equal ↦ omega arith
      | Greater ↦ omega arith
    ]

all-where : (p : List ℕ → Bool) (m : Records) → AllByRecursion HasKey m → AllByRecursion HasKey (where_key (slice_cmp nat_cmp) p m)
all-where p [] h = tt
all-where p (e ∷ m) h =
    let rest = all-where p m h.1 in
    elim (p e.0) as (λ b. AllByRecursion HasKey (cond b (e ∷ where_key (slice_cmp nat_cmp) p m) (where_key (slice_cmp nat_cmp) p m))) [ true ↦ (h.0, rest) | false ↦ rest ]

fewer-where : (p : List ℕ → Bool) (m : Records) → length (where_key (slice_cmp nat_cmp) p m) ≤ length m
fewer-where p [] = omega arith
fewer-where p (e ∷ m) =
    let rest = fewer-where p m in
    elim (p e.0) as (λ b. length (cond b (e ∷ where_key (slice_cmp nat_cmp) p m) (where_key (slice_cmp nat_cmp) p m)) ≤ suc (length m)) [ true ↦ omega arith | false ↦ omega arith ]

-- ---- lawful writes

key-first : (t : Bool) (f : Unit {0} → Result (Unit {0}) WriteFault) → passes (ensure t BadKey >>= f) ≡ true → t ≡ true
key-first true f h = refl
key-first false f h = absurd cc

record After (m n : Records) : Type 0 where
  keys : AllByRecursion HasKey n
  more : length n ≤ suc (length m)

after-with : (m : Records) (key bytes : List ℕ) → is_repository_key key ≡ true → AllByRecursion HasKey m → After m (after_write m (Put key bytes))
after-with m key bytes h a = record { keys = all-put key bytes m h a; more = more-put key bytes m }

after-one : (m : Records) (w : Write) → passes (write_test m w) ≡ true → AllByRecursion HasKey m → After m (after_write m w)
after-one m (Put key bytes) h a = after-with m key bytes (key-first (is_repository_key key) _ h) a
after-one m (Create key bytes) h a = after-with m key bytes (key-first (is_repository_key key) _ h) a
after-one m (Update key bytes) h a = after-with m key bytes (key-first (is_repository_key key) _ h) a
after-one m (Delete key) h a =
    record { keys = all-where (λ k. not (bytes_eq key k)) m a; more = let i = fewer-where (λ k. not (bytes_eq key k)) m in omega arith }

record Left (count : ℕ) (m : Records) : Type 0 where
  keys : AllByRecursion HasKey m
  most : length m ≤ count

after-all : (m : Records) (ws : List Write) (count : ℕ) → is_lawful_from m ws ≡ true → Left count m → Left (count + length ws) (fold after_write m ws)
after-all m [] count h l = record { keys = l.keys; most = let i = l.most in omega arith }
after-all m (w ∷ ws) count h l =
    let p = both (passes (write_test m w)) (is_lawful_from (after_write m w) ws) h in
    let a = after-one m w p.0 l.keys in
    let i = after-all (after_write m w) ws (suc count) p.1 (record { keys = a.keys; most = let j = a.more in let k = l.most in omega arith }) in
    record { keys = i.keys; most = let j = i.most in omega arith }

-- ---- the pairs of a record map

below-pairs : (digest : List ℕ → List ℕ) (k : List ℕ) (m : Records) → below_all (slice_cmp nat_cmp) k (pairs digest m) ≡ below_all (slice_cmp nat_cmp) k m
below-pairs digest k [] = refl
below-pairs digest k (e ∷ m) = ap (λ t. is_lt (slice_cmp nat_cmp k e.0) && t) (below-pairs digest k m)

sorted-pairs : (digest : List ℕ → List ℕ) (m : Records) → is_sorted (slice_cmp nat_cmp) (pairs digest m) ≡ is_sorted (slice_cmp nat_cmp) m
sorted-pairs digest [] = refl
sorted-pairs digest (e ∷ m) =
    ap (λ t. t && is_sorted (slice_cmp nat_cmp) (pairs digest m)) (below-pairs digest e.0 m) ∙ ap (λ t. below_all (slice_cmp nat_cmp) e.0 m && t) (sorted-pairs digest m)

keys-pairs : (digest : List ℕ → List ℕ) (m : Records) → AllByRecursion HasKey m → AllByRecursion (λ e. is_key e.0 ≡ true) (pairs digest m)
keys-pairs digest [] h = tt
keys-pairs digest (e ∷ m) h = (repository-key e.0 h.0, keys-pairs digest m h.1)

own : (digest : List ℕ → List ℕ) → IsDigest digest → (bytes : List ℕ) → is_own_cid (cid digest bytes) ≡ true
unfolding cid
own digest fits bytes = rw (fits bytes) refl

values-pairs : (digest : List ℕ → List ℕ) → IsDigest digest → (m : Records) → AllByRecursion (λ e. is_own_cid e.1 ≡ true) (pairs digest m)
values-pairs digest fits [] = tt
values-pairs digest fits (e ∷ m) = (own digest fits e.1, values-pairs digest fits m)

pub lawful-pairs : LawfulHasPairs
lawful-pairs digest fits ws lawful few =
    let left = after-all [] ws 0 lawful (record { keys = tt; most = omega arith }) in
    let m = leaves ws in
    let most = left.most in
    let same : length (pairs digest m) ≡ length m = length-map m (λ (e : List ℕ × List ℕ). (e.0, cid digest e.1)) in
    record {
      sorted = sorted-pairs digest m ∙ from_T _ (is_sorted-leaves ws);
      keys = keys-pairs digest m left.keys;
      values = values-pairs digest fits m;
      count = omega arith;
    }
