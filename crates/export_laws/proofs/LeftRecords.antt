-- The records that lawful writes leave: lawful records under lawful keys, and no more of them than there are writes.
use Rattle.std.proofs.Common.{◌≡◌, ℕ, suc, ◌+◌, ◌≤◌, Bool, true, false, cond, not, List, [], ◌∷◌, length, refl, subst, arith, Result, Ok, Err, fold, inl, inr}
use Rattle.std.specs.Prelude.{Contains}
use Rattle.std.specs.List.{AllByRecursion}
use Rattle.std.specs.Str.{bytes_eq}
use Rattle.std.specs.declared.cmp.Ordering.TheVariants.{Less, Equal, Greater}
use Rattle.std.specs.Cmp.Lexicographic.{slice_cmp}
use Rattle.std.specs.Ordering.{nat_cmp}
use Rattle.std.specs.FinMap.{put}
use Rattle.std.specs.FinMap.Entries.{where_key, by_order}
use Rattle.spec.specs.Reading.{◌>>=◌, ensure}
use Rattle.spec.specs.Keys.{is_repository_key}
use Rattle.spec.specs.Blocks.{record_blocks}
use Rattle.spec.specs.Writes.{Write, WriteFault, BadKey, KeyExists, NoSuchKey, Put, Create, Update, Delete, after_write, leaves, has_key, write_test, record_test, passes, is_lawful_from, is_lawful_list}
use Rattle.spec.proofs.Bools.{both}
use Rattle.spec.proofs.Once.{head_or_tail}

abbrev Records : Type 0
Records = List (List ℕ × List ℕ)

-- a lawful record under a lawful key
abbrev pub IsGood : List ℕ × List ℕ → Type 0
IsGood e = (is_repository_key e.0 ≡ true) × (record_test e.1 ≡ Ok tt)

-- ---- a write that passes

passed : (r : Result (Unit {0}) WriteFault) → passes r ≡ true → r ≡ Ok tt
passed (Ok u) h = refl
passed (Err f) h = absurd cc

passed-first : (r : Result (Unit {0}) WriteFault) (f : Unit {0} → Result (Unit {0}) WriteFault) → passes (r >>= f) ≡ true → r ≡ Ok tt
passed-first (Ok u) f h = refl
passed-first (Err e) f h = absurd cc

key-first : (t : Bool) (f : Unit {0} → Result (Unit {0}) WriteFault) → passes (ensure t BadKey >>= f) ≡ true → t ≡ true
key-first true f h = refl
key-first false f h = absurd cc

after-key : (t : Bool) (f : Unit {0} → Result (Unit {0}) WriteFault) → passes (ensure t BadKey >>= f) ≡ true → passes (f tt) ≡ true
after-key true f h = h
after-key false f h = absurd cc

-- ---- the records after it

good-put : (k v : List ℕ) (m : Records) → is_repository_key k ≡ true → record_test v ≡ Ok tt → AllByRecursion IsGood m
    → AllByRecursion IsGood (put (slice_cmp nat_cmp) k v m)
good-put k v [] key record_ok a = ((key, record_ok), tt)
good-put k v (e ∷ m) key record_ok a =
    elim (slice_cmp nat_cmp k e.0) as (λ o. AllByRecursion IsGood (by_order o ((k, v) ∷ e ∷ m) ((e.0, v) ∷ m) (e ∷ put (slice_cmp nat_cmp) k v m))) [
      | Less ↦ ((key, record_ok), a)
      | Equal ↦ ((a.0.0, record_ok), a.1)
      | Greater ↦ (a.0, good-put k v m key record_ok a.1)
    ]

more-put : (k v : List ℕ) (m : Records) → length (put (slice_cmp nat_cmp) k v m) ≤ suc (length m)
more-put k v [] = omega arith
more-put k v (e ∷ m) =
    let i = more-put k v m in
    elim (slice_cmp nat_cmp k e.0) as (λ o. length (by_order o ((k, v) ∷ e ∷ m) ((e.0, v) ∷ m) (e ∷ put (slice_cmp nat_cmp) k v m)) ≤ suc (suc (length m))) [
      | Less ↦ omega arith
      | Equal ↦ omega arith
      | Greater ↦ omega arith
    ]

good-where : (p : List ℕ → Bool) (m : Records) → AllByRecursion IsGood m → AllByRecursion IsGood (where_key (slice_cmp nat_cmp) p m)
good-where p [] a = tt
good-where p (e ∷ m) a =
    let rest = good-where p m a.1 in
    elim (p e.0) as (λ b. AllByRecursion IsGood (cond b (e ∷ where_key (slice_cmp nat_cmp) p m) (where_key (slice_cmp nat_cmp) p m))) [ true ↦ (a.0, rest) | false ↦ rest ]

fewer-where : (p : List ℕ → Bool) (m : Records) → length (where_key (slice_cmp nat_cmp) p m) ≤ length m
fewer-where p [] = omega arith
fewer-where p (e ∷ m) =
    let rest = fewer-where p m in
    elim (p e.0) as (λ b. length (cond b (e ∷ where_key (slice_cmp nat_cmp) p m) (where_key (slice_cmp nat_cmp) p m)) ≤ suc (length m)) [ true ↦ omega arith | false ↦ omega arith ]

-- so many good ones at most
pub record Left (count : ℕ) (m : Records) : Type 0 where
  pub good : AllByRecursion IsGood m
  pub most : length m ≤ count

after-put : (count : ℕ) (m : Records) (key bytes : List ℕ) → is_repository_key key ≡ true → record_test bytes ≡ Ok tt → Left count m
    → Left (suc count) (after_write m (Put key bytes))
after-put count m key bytes key_ok record_ok l = record {
  good = good-put key bytes m key_ok record_ok l.good;
  most = let i = more-put key bytes m in let j = l.most in omega arith;
}

after-one : (count : ℕ) (m : Records) (w : Write) → passes (write_test m w) ≡ true → Left count m → Left (suc count) (after_write m w)
after-one count m (Put key bytes) h l =
    let next = after-key (is_repository_key key) (λ _. record_test bytes) h in
    after-put count m key bytes (key-first (is_repository_key key) (λ _. record_test bytes) h) (passed (record_test bytes) next) l
after-one count m (Create key bytes) h l =
    let last = λ (_ : Unit {0}). ensure (not (has_key m key)) KeyExists in
    let next = after-key (is_repository_key key) (λ _. record_test bytes >>= last) h in
    after-put count m key bytes (key-first (is_repository_key key) (λ _. record_test bytes >>= last) h) (passed-first (record_test bytes) last next) l
after-one count m (Update key bytes) h l =
    let last = λ (_ : Unit {0}). ensure (has_key m key) NoSuchKey in
    let next = after-key (is_repository_key key) (λ _. record_test bytes >>= last) h in
    after-put count m key bytes (key-first (is_repository_key key) (λ _. record_test bytes >>= last) h) (passed-first (record_test bytes) last next) l
after-one count m (Delete key) h l = record {
  good = good-where (λ k. not (bytes_eq key k)) m l.good;
  most = let i = fewer-where (λ k. not (bytes_eq key k)) m in let j = l.most in omega arith;
}

after-all : (count : ℕ) (m : Records) (ws : List Write) → is_lawful_from m ws ≡ true → Left count m → Left (count + length ws) (fold after_write m ws)
after-all count m [] h l = record { good = l.good; most = let i = l.most in omega arith }
after-all count m (w ∷ ws) h l =
    let p = both (passes (write_test m w)) (is_lawful_from (after_write m w) ws) h in
    let i = after-all (suc count) (after_write m w) ws p.1 (after-one count m w p.0 l) in
    record { good = i.good; most = let j = i.most in omega arith }

pub left-by : (ws : List Write) → is_lawful_list ws ≡ true → Left (length ws) (leaves ws)
left-by ws h =
    let i = after-all 0 [] ws h (record { good = tt; most = omega arith }) in
    record { good = i.good; most = let j = i.most in omega arith }

-- ---- keys and records, each by itself

pub good-keys : (m : Records) → AllByRecursion IsGood m → AllByRecursion (λ e. is_repository_key e.0 ≡ true) m
good-keys [] a = tt
good-keys (e ∷ m) a = (a.0.0, good-keys m a.1)

pub good-records : (m : Records) → AllByRecursion IsGood m → AllByRecursion (λ e. record_test e.1 ≡ Ok tt) m
good-records [] a = tt
good-records (e ∷ m) a = (a.0.1, good-records m a.1)

pub good-block : (m : Records) → AllByRecursion IsGood m → (b : List ℕ) → Contains (record_blocks m) b → record_test b ≡ Ok tt
good-block [] a b i = absurd (omega (arith, i.1))
good-block (e ∷ m) a b i =
    elim (head_or_tail b e.1 (record_blocks m) i) [
      | inl same ↦ subst (λ (x : List ℕ). record_test x ≡ Ok tt) same a.0.1
      | inr later ↦ good-block m a.1 b later
    ]
