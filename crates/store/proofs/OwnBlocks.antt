-- What the sixteen shards of a store keep that nobody shares.
use Rattle.std.proofs.Common.{◌≡◌, ℕ, zero, suc, ◌<◌, ◌≤◌, List, [], ◌∷◌, length, cond, Bool, true, false, refl, sym, ap, subst, ◌∙◌, arith}
use Rattle.std.specs.Prelude.{Option, Some, None, Result, Ok, Err, IfErr, OnOk, OnErr, ◌==◌, slice_index_or, slice_set}
use Rattle.std.proofs.Math.ListN.{length-set}
use Rattle.std.proofs.lemmas.List.{get_or-set_same}
use Rattle.std.specs.Ordering.{nat_cmp, is_eq}
use Rattle.std.specs.declared.cmp.Ordering.{Ordering}
use Rattle.std.specs.declared.cmp.Ordering.TheVariants.{Less, Equal, Greater}
use Rattle.std.specs.Cmp.Lexicographic.{slice_cmp, nat_list_cmp_total}
use Rattle.std.specs.FinMap as map
use Rattle.std.specs.FinSet as set
use Rattle.std.specs.declared.sync.Arc.{Arc}
use Rattle.spec.specs.Cid.{cid as cid_of}
use Rattle.store.specs.Faults.{IsRefusal, IsRefusalBeside}
use Rattle.store.specs.Keys.{Key}
use Rattle.store.specs.Table.{Table, Held, empty_table, entered, entry_at, left, left_entry, shard_of, IsLawful}
use Rattle.store.specs.Shards.{AreEmpty, AreShardsOf, HasFullShard, HasOwnBlocks, IsMadeIn, no_table, own_shard, table_at}
use Rattle.store.specs.Stores.{IsAnswer}
use Rattle.store.specs.declared.fault.StoreFault.{StoreFault}
use Rattle.store.specs.declared.fault.StoreFault.TheVariants.{Full}
use Rattle.store.proofs.Tables.{same}

-- ---- empty shards

pub none_own : (place limit : ℕ) (key : Key) → HasOwnBlocks place (empty_table limit key)
none_own place limit key q e h = absurd (let never : None ≡ Some e = sym (map.get-empty (slice_cmp nat_cmp) q) ∙ h in cc)

-- a property of each shard that is there, and of none
everywhere : (P : ℕ → Table → Type 0) (ts : List Table) → length ts ≡ 16 → ((place : ℕ) → P place no_table)
    → ((place : ℕ) → place < 16 → P place (table_at ts place)) → (place : ℕ) → P place (table_at ts place)
everywhere P ts sixteen none some place = from (λ k. P k) ts place none (λ h. some place (subst (λ n. place < n) sixteen h))
  where
    from : (P : ℕ → Table → Type 0) (ts : List Table) (place : ℕ) → ((k : ℕ) → P k no_table)
        → (place < length ts → P place (table_at ts place)) → P place (table_at ts place)
    from P [] place none some = none place
    from P (t ∷ ts) zero none some = some (omega arith)
    from P (t ∷ ts) (suc place) none some = from (λ k. P (suc k)) ts place (λ k. none (suc k)) (λ h. some (omega (arith, h)))

pub all_empty : (limit : ℕ) (ts : List Table) → length ts ≡ 16 → AreEmpty limit ts → AreShardsOf limit ts
all_empty limit ts sixteen empty = record {
  limits = λ place h. ap (λ t. t.limit) (empty place h);
  own = everywhere HasOwnBlocks ts sixteen (λ place. none_own place 0 no_table.key)
      (λ place h. subst (HasOwnBlocks place) (sym (empty place h)) (none_own place limit (table_at ts place).key));
}

-- ---- a shard that changes in its place

set_each : (P : ℕ → Table → Type 0) (ts : List Table) (s : ℕ) (t : Table) → s < length ts
    → ((place : ℕ) → P place (table_at ts place)) → P s t
    → (place : ℕ) → P place (table_at (slice_set ts s t) place)
set_each P [] s t h p q place = absurd (omega arith)
set_each P (x ∷ ts) zero t h p q zero = q
set_each P (x ∷ ts) zero t h p q (suc place) = p (suc place)
set_each P (x ∷ ts) (suc s) t h p q zero = p zero
set_each P (x ∷ ts) (suc s) t h p q (suc place) = set_each (λ k. P (suc k)) ts s t (omega arith) (λ k. p (suc k)) q place

within : (ts : List Table) (s : ℕ) → length ts ≡ 16 → s < 16 → s < length ts
within ts s sixteen small = subst (λ n. s < n) (sym sixteen) small

-- a shard that is there, whatever stands for one that isn't
pub found : (ts : List Table) (s : ℕ) (d : Table) → length ts ≡ 16 → s < 16 → slice_index_or ts s d ≡ table_at ts s
found ts s d sixteen small = any ts s d (within ts s sixteen small)
  where
    any : (ts : List Table) (s : ℕ) (d : Table) → s < length ts → slice_index_or ts s d ≡ table_at ts s
    any [] s d h = absurd (omega arith)
    any (x ∷ ts) zero d h = refl
    any (x ∷ ts) (suc s) d h = any ts s d (omega arith)

pub still_sixteen : (ts : List Table) (s : ℕ) (t : Table) → length ts ≡ 16 → length (slice_set ts s t) ≡ 16
still_sixteen ts s t sixteen = length-set ts s t ∙ sixteen

shards_set : (limit : ℕ) (ts : List Table) (s : ℕ) (t : Table) → length ts ≡ 16 → AreShardsOf limit ts → s < 16 → t.limit ≡ limit
    → HasOwnBlocks s t → AreShardsOf limit (slice_set ts s t)
shards_set limit ts s t sixteen is small this own =
    let here = within ts s sixteen small in record {
      limits = set_each (λ k u. k < 16 → u.limit ≡ limit) ts s t here is.limits (λ _. this);
      own = set_each HasOwnBlocks ts s t here is.own own;
    }

-- ---- a block is put, or taken out

module _ (place : ℕ) (t : Table) (k : List ℕ) (own : HasOwnBlocks place t) (here : shard_of k ≡ place) where
  own_put_at : (v : Held) (q : List ℕ) (e : Held) (r : Ordering) → slice_cmp nat_cmp q k ≡ r
      → cond (is_eq r) (Some v) (entry_at t q) ≡ Some e → shard_of q ≡ place
  own_put_at v q e Less tied h = own q e h
  own_put_at v q e Equal tied h = ap shard_of (same q k tied) ∙ here
  own_put_at v q e Greater tied h = own q e h

  own_put : (v : Held) → HasOwnBlocks place (record t { entries = map.insert t.entries k v })
  own_put v = λ q e h. own_put_at v q e (slice_cmp nat_cmp q k) refl (sym (map.get-insert nat_list_cmp_total t.entries k v q) ∙ h)

  own_cut_at : (q : List ℕ) (e : Held) (r : Ordering) → cond (is_eq r) None (entry_at t q) ≡ Some e → shard_of q ≡ place
  own_cut_at q e Less h = own q e h
  own_cut_at q e Equal h = absurd cc
  own_cut_at q e Greater h = own q e h

  own_cut : HasOwnBlocks place (record t { entries = map.remove t.entries k })
  own_cut = λ q e h. own_cut_at q e (slice_cmp nat_cmp q k) (sym (map.get-remove nat_list_cmp_total t.entries k q) ∙ h)

  own_left_entry : (core : ℕ) (o : Option Held) → HasOwnBlocks place (left_entry t k core o)
  own_left_entry core None = own
  own_left_entry core (Some e) = either (set.len (set.remove e.1 core) == 0)
    where
      either : (b : Bool) → HasOwnBlocks place (cond {A = Table} b (record t { entries = map.remove t.entries k })
          (record t { entries = map.insert t.entries k (e.0, set.remove e.1 core) }))
      either true = own_cut
      either false = own_put (e.0, set.remove e.1 core)

left_limit : (t : Table) (k : List ℕ) (core : ℕ) (o : Option Held) → (left_entry t k core o).limit ≡ t.limit
left_limit t k core None = refl
left_limit t k core (Some e) = either (set.len (set.remove e.1 core) == 0)
  where
    either : (b : Bool) → (cond {A = Table} b (record t { entries = map.remove t.entries k })
        (record t { entries = map.insert t.entries k (e.0, set.remove e.1 core) })).limit ≡ t.limit
    either true = refl
    either false = refl

-- ---- a core comes, or goes

-- what was asked for is entered, and what is refused changes nothing
pub shards_asked : {T E : Type 0} (limit : ℕ) (ts : List Table) (s : ℕ) (k bytes : List ℕ) (core : ℕ) (old new : Table) (r : Result T E)
    → length ts ≡ 16 → AreShardsOf limit ts → s < 16 → s ≡ shard_of k → old ≡ table_at ts s
    → OnOk r (new ≡ entered old k bytes core) → OnErr r (new ≡ old) → AreShardsOf limit (slice_set ts s new)
shards_asked limit ts s k bytes core old new (Ok x) sixteen is small of_k here made kept =
    let t = table_at ts s in
    subst (λ n. AreShardsOf limit (slice_set ts s n)) (sym (made ∙ ap (λ o. entered o k bytes core) here))
    (shards_set limit ts s (entered t k bytes core) sixteen is small (is.limits s small) (own_put s t k (is.own s) (sym of_k) _))
shards_asked limit ts s k bytes core old new (Err f) sixteen is small of_k here made kept =
    subst (λ n. AreShardsOf limit (slice_set ts s n)) (sym (kept ∙ here))
    (shards_set limit ts s (table_at ts s) sixteen is small (is.limits s small) (is.own s))

pub shards_released : (limit : ℕ) (ts : List Table) (s : ℕ) (k : List ℕ) (core : ℕ) (old new : Table) → length ts ≡ 16 → AreShardsOf limit ts
    → s < 16 → s ≡ shard_of k → old ≡ table_at ts s → new ≡ left old k core → AreShardsOf limit (slice_set ts s new)
shards_released limit ts s k core old new sixteen is small of_k here made =
    let t = table_at ts s in
    subst (λ n. AreShardsOf limit (slice_set ts s n)) (sym (made ∙ ap (λ o. left o k core) here))
    (shards_set limit ts s (left t k core) sixteen is small (left_limit t k core (entry_at t k) ∙ is.limits s small)
    (own_left_entry s t k (is.own s) (sym of_k) core (entry_at t k)))

-- ---- a shard that is full

at_limit : (D A : Type 0) (t : Table) (bytes : List ℕ) (o : Option Held) → IsRefusalBeside {D = D} {A = A} t bytes o Full → t.limit ≤ map.len t.entries
at_limit D A t bytes None is = is
at_limit D A t bytes (Some e) is = absurd is

was_full : (D A : Type 0) (digest : List ℕ → List ℕ) (limit : ℕ) (ts : List Table) (s : ℕ) (bytes : List ℕ) (old : Table) → AreShardsOf limit ts
    → s < 16 → old ≡ table_at ts s → IsLawful digest old → IsRefusal {D = D} {A = A} digest old bytes Full → HasFullShard digest limit
was_full D A digest limit ts s bytes old is small here lawful full = record {
  place = s;
  shard = old;
  lawful = lawful;
  own = subst (HasOwnBlocks s) (sym here) (is.own s);
  full = subst (λ n. n ≤ map.len old.entries) (ap (λ t. t.limit) here ∙ is.limits s small) (at_limit D A old bytes _ full);
}

-- A store answers that it's full only where a shard is. That shard is read again after the answer.
pub full_asked : {T D A : Type 0} (digest : List ℕ → List ℕ) (limit : ℕ) (ts : List Table) (s : ℕ) (bytes : List ℕ) (old new d : Table)
    (r : Result T (StoreFault D A)) → length ts ≡ 16 → AreShardsOf limit ts → s < 16 → old ≡ table_at ts s
    → IsLawful digest (slice_index_or (slice_set ts s new) s d) → OnErr r (new ≡ old) → IfErr r (IsRefusal digest old bytes) → r ≡ Err Full
    → HasFullShard digest limit
full_asked {T} {D} {A} digest limit ts s bytes old new d r sixteen is small here lawful kept fault full =
    was_full D A digest limit ts s bytes old is small here
    (subst (IsLawful digest) (get_or-set_same ts s new d (within ts s sixteen small) ∙ subst (λ q. OnErr q (new ≡ old)) full kept) lawful)
    (subst (λ q. IfErr q (IsRefusal digest old bytes)) full fault)

-- ---- what becomes of the shards, where one of them has changed

set_same : (ts : List Table) (s : ℕ) → s < length ts → slice_set ts s (table_at ts s) ≡ ts
set_same [] s h = absurd (omega arith)
set_same (t ∷ ts) zero h = refl
set_same (t ∷ ts) (suc s) h = ap (λ us. t ∷ us) (set_same ts s (omega arith))

-- a core has left in a block's own shard
pub left_here : (ts : List Table) (s : ℕ) (k : List ℕ) (core : ℕ) (old new : Table) → s ≡ shard_of k → old ≡ table_at ts s → new ≡ left old k core
    → slice_set ts s new ≡ slice_set ts (shard_of k) (left (table_at ts (shard_of k)) k core)
left_here ts s k core old new of_k here made =
    ap (λ t. slice_set ts s t) (made ∙ ap (λ o. left o k core) here) ∙ ap (λ n. slice_set ts n (left (table_at ts n) k core)) of_k

module _ {D A : Type 0} (digest : List ℕ → List ℕ) (bytes : List ℕ) (core : ℕ) where
  -- a block's own shard was asked
  pub made_here : (ts : List Table) (s : ℕ) (old new : Table) (r : Result (Arc (List ℕ) A × ℕ) (StoreFault D A)) → length ts ≡ 16 → s < 16
      → s ≡ shard_of (cid_of digest bytes) → old ≡ table_at ts s
      → OnOk r (new ≡ entered old (cid_of digest bytes) bytes core) → OnErr r (new ≡ old)
      → IsMadeIn digest bytes core ts r (slice_set ts s new)
  made_here ts s old new (Ok x) sixteen small of_k here made kept = record {
    entered = ap (λ t. slice_set ts s t) (made ∙ ap (λ o. entered o (cid_of digest bytes) bytes core) here)
        ∙ ap (λ n. slice_set ts n (entered (table_at ts n) (cid_of digest bytes) bytes core)) of_k;
    unchanged = tt;
  }
  made_here ts s old new (Err f) sixteen small of_k here made kept = record {
    entered = tt;
    unchanged = ap (λ t. slice_set ts s t) (kept ∙ here) ∙ set_same ts s (within ts s sixteen small);
  }

  pub refused_here : (ts : List Table) (s : ℕ) (old : Table) (r : Result (Arc (List ℕ) A × ℕ) (StoreFault D A))
      → s ≡ shard_of (cid_of digest bytes) → old ≡ table_at ts s
      → IfErr r (IsRefusal digest old bytes) → IfErr r (IsRefusal digest (own_shard digest ts bytes) bytes)
  refused_here ts s old r of_k here fault = subst (λ t. IfErr r (IsRefusal digest t bytes)) (here ∙ ap (table_at ts) of_k) fault

  pub answered_full : (before after : ℕ) (r : Result (Arc (List ℕ) A × ℕ) (StoreFault D A)) → r ≡ Err Full → after ≡ suc before
      → IsAnswer digest bytes core before r after
  answered_full before after r full counted =
      subst (λ q. IsAnswer digest bytes core before q after) (sym full) (record { hold = tt; fault = tt; counted = counted })
