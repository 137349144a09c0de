-- There are such readings: the cores that a shard's table has under each CID, and those that the table of its shard has.
use Rattle.std.proofs.Common.{◌≡◌, ℕ, zero, suc, ◌<◌, List, length, refl, ap, sym, subst, ◌∙◌, cond, Bool, true, false, nat_eq, arith}
use Rattle.std.specs.Prelude.{Option, None, Some, not, ◌&&◌, ◌||◌, ◌==◌, ◌≢◌, if◌then◌else◌, slice_set}
use Rattle.std.specs.Arc.{arc_value}
use Rattle.std.specs.BTreeMap.{is_at}
use Rattle.std.specs.Cmp.{eq_by_cmp_equiv, nat_cmp_total, unsigned_tied}
use Rattle.std.specs.Cmp.Lexicographic.{slice_cmp, nat_list_cmp_total}
use Rattle.std.specs.FinMap as map
use Rattle.std.specs.FinSet as set
use Rattle.std.specs.Ordering.{nat_cmp, is_eq}
use Rattle.std.specs.declared.cmp.Ordering.{Ordering}
use Rattle.std.specs.declared.cmp.Ordering.TheVariants.{Less, Equal, Greater}
use Rattle.std.proofs.lemmas.Bool.Decides.{nat_tests}
use Rattle.std.proofs.lemmas.List.{get_or-set_same, get_or-set_other}
use Rattle.cid.specs.declared.digest.Digest.{Ghosts}
use Rattle.spec.specs.Cid.{cid as cid_of}
use Rattle.store.specs.Shards.{IsMadeIn, cores_in, left_in, no_table, table_at}
use Rattle.store.specs.Stores.{Entered, IsMade, IsReading, with_core}
use Rattle.store.specs.Table.{Table, Held, cores_at, cores_of, entered, entry_at, left, left_entry, shard_of}
use Rattle.store.specs.declared.lent_shard.LentShard.{LentShard}
use Rattle.store.specs.declared.lent_shards.LentShards.{LentShards}
use Rattle.store.proofs.Tables.{same}

turn : (k q : List ℕ) → is_at (slice_cmp nat_cmp k) q ≡ is_eq (slice_cmp nat_cmp q k)
turn k q = (eq_by_cmp_equiv nat_list_cmp_total).symm k q

is_same : (k q : List ℕ) (r : Ordering) → slice_cmp nat_cmp k q ≡ r → is_eq r ≡ true → k ≡ q
is_same k q Less tied h = absurd cc
is_same k q Equal tied h = same k q tied
is_same k q Greater tied h = absurd cc

here : (k q : List ℕ) → is_at (slice_cmp nat_cmp k) q ≡ true → k ≡ q
here k q h = is_same k q (slice_cmp nat_cmp k q) refl h

-- ---- one table

-- an entry that a core has left: it goes with its last one
abbrev without_core : ℕ → Option Held → Option Held
without_core core None = None
without_core core (Some e) =
    if set.len (set.remove e.1 core) == 0 then None else Some (e.0, set.remove e.1 core)

-- what a core leaves under a CID, and under the others
left_at : (t : Table) (c : List ℕ) (core : ℕ) (q : List ℕ)
    → entry_at (left t c core) q ≡ cond (is_at (slice_cmp nat_cmp c) q) (without_core core (entry_at t q)) (entry_at t q)
left_at t c core q = at_entry (entry_at t c) refl
  where
    same_key : (o : Option Held) (b : Bool) → is_at (slice_cmp nat_cmp c) q ≡ b → entry_at t c ≡ o
        → cond b (without_core core o) (entry_at t q) ≡ cond b (without_core core (entry_at t q)) (entry_at t q)
    same_key o true e a = ap (without_core core) (sym a ∙ ap (entry_at t) (here c q e))
    same_key o false e a = refl

    none_left : (b : Bool) → is_at (slice_cmp nat_cmp c) q ≡ b → entry_at t c ≡ None → entry_at t q ≡ cond b None (entry_at t q)
    none_left true e a = ap (entry_at t) (sym (here c q e)) ∙ a
    none_left false e a = refl

    of_entry : (e : Held) (b : Bool)
        → entry_at (cond b (record t { entries = map.remove t.entries c })
        (record t { entries = map.insert t.entries c (e.0, set.remove e.1 core) })) q
        ≡ cond (is_at (slice_cmp nat_cmp c) q) (cond b None (Some (e.0, set.remove e.1 core))) (entry_at t q)
    of_entry e true = map.get-remove nat_list_cmp_total t.entries c q ∙ ap (λ b. cond b None (entry_at t q)) (sym (turn c q))
    of_entry e false = map.get-insert nat_list_cmp_total t.entries c (e.0, set.remove e.1 core) q
        ∙ ap (λ b. cond b (Some (e.0, set.remove e.1 core)) (entry_at t q)) (sym (turn c q))

    at_entry : (o : Option Held) → entry_at t c ≡ o → entry_at (left_entry t c core o) q
        ≡ cond (is_at (slice_cmp nat_cmp c) q) (without_core core (entry_at t q)) (entry_at t q)
    at_entry None a = none_left (is_at (slice_cmp nat_cmp c) q) refl a ∙ same_key None (is_at (slice_cmp nat_cmp c) q) refl a
    at_entry (Some e) a = of_entry e (nat_eq (set.len (set.remove e.1 core)) 0) ∙ same_key (Some e) (is_at (slice_cmp nat_cmp c) q) refl a

above_zero : (n : ℕ) → nat_eq (suc n) zero ≡ false
above_zero n = grind (arith, nat_tests)

abbrev nobody : set.FinSet nat_cmp
nobody = set.empty

-- the cores of an entry that one of them left
cores_without : (core : ℕ) (o : Option Held) → cores_of (without_core core o) ≡ set.remove (cores_of o) core
cores_without core None = set.same_set nat_cmp_total map.nat_cmp-IsAntisymmetric _ _ (λ q.
    set.contains-empty nat_cmp q ∙ sym (set.contains-remove nat_cmp_total nobody core q ∙ none _ (set.contains nobody q) (set.contains-empty nat_cmp q)))
  where
    none : (a b : Bool) → b ≡ false → (a && b) ≡ false
    none true b e = e
    none false b e = refl
cores_without core (Some e) = of_size (set.len (set.remove e.1 core)) refl
  where
    of_size : (n : ℕ) → set.len (set.remove e.1 core) ≡ n
        → cores_of (cond (nat_eq n 0) None (Some (e.0, set.remove e.1 core))) ≡ set.remove e.1 core
    of_size zero z = sym (set.empty_of_len (set.remove e.1 core) z)
    of_size (suc n) z = ap (λ b. cores_of (cond b None (Some (e.0, set.remove e.1 core)))) (above_zero n)

-- whether a table has a core under a CID
abbrev pub entered_for : Table → Entered
entered_for t c core = set.contains (cores_at t c) core

-- one core more
with_more : (t : Table) (k bytes : List ℕ) (core : ℕ) (c : List ℕ) (n : ℕ)
    → entered_for (entered t k bytes core) c n ≡ with_core (entered_for t) k core true c n
with_more t k bytes core c n =
    ap (λ (o : Option Held). set.contains (cores_of o) n)
    (map.get-insert nat_list_cmp_total t.entries k (bytes, set.insert (cores_at t k) core) c
    ∙ ap (λ b. cond b (Some (bytes, set.insert (cores_at t k) core)) (entry_at t c)) (sym (turn k c)))
    ∙ by_key (is_at (slice_cmp nat_cmp k) c) refl
  where
    either : (b x : Bool) → (b || x) ≡ cond (true && b) true x
    either true x = refl
    either false x = refl

    by_key : (b : Bool) → is_at (slice_cmp nat_cmp k) c ≡ b
        → set.contains (cores_of (cond b (Some (bytes, set.insert (cores_at t k) core)) (entry_at t c))) n ≡ cond (b && nat_eq n core) true (entered_for t c n)
    by_key true e =
        set.contains-insert nat_cmp_total (cores_at t k) core n
        ∙ ap (λ b. b || set.contains (cores_at t k) n) (unsigned_tied n core)
        ∙ either (nat_eq n core) (set.contains (cores_at t k) n)
        ∙ ap (λ q. cond (true && nat_eq n core) true (set.contains (cores_at t q) n)) (here k c e)
    by_key false e = refl

-- one core less
with_less : (t : Table) (k : List ℕ) (core : ℕ) (c : List ℕ) (n : ℕ)
    → entered_for (left t k core) c n ≡ with_core (entered_for t) k core false c n
with_less t k core c n =
    ap (λ (o : Option Held). set.contains (cores_of o) n) (left_at t k core c) ∙ by_key (is_at (slice_cmp nat_cmp k) c)
  where
    either : (b x : Bool) → (not b && x) ≡ cond (true && b) false x
    either true x = refl
    either false x = refl

    by_key : (b : Bool) → set.contains (cores_of (cond b (without_core core (entry_at t c)) (entry_at t c))) n
        ≡ cond (b && nat_eq n core) false (entered_for t c n)
    by_key true =
        ap (λ (s : set.FinSet nat_cmp). set.contains s n) (cores_without core (entry_at t c))
        ∙ set.contains-remove nat_cmp_total (cores_at t c) core n
        ∙ ap (λ b. not b && set.contains (cores_at t c) n) (unsigned_tied n core)
        ∙ either (nat_eq n core) (set.contains (cores_at t c) n)
    by_key false = refl

-- So what a clause says of each reading it says of the shard that is lent. What its acquires and its releases make of it is
-- here in the words of its `BlockStore`.
pub shard_reading : {D A : Type 0} (digest : List ℕ → List ℕ)
    → IsReading {S = LentShard D A} {D = D} {A = A} digest (λ s b core result t. IsMade digest (arc_value b) core s.shard.now result t.shard.now)
    (λ s h t. t.shard.now ≡ left s.shard.now (cid_of digest (arc_value h.0)) h.1) (λ s. entered_for s.shard.now)
shard_reading digest = record {
  acquired = λ s b core h t a. λ i c n.
      (ap (λ x. entered_for x c n) a.entered ∙ with_more s.shard.now (cid_of digest (arc_value b)) (arc_value b) core c n) i;
  refused = λ s b core fault t a. ap entered_for a.unchanged;
  released = λ s h t a. λ i c n. (ap (λ x. entered_for x c n) a ∙ with_less s.shard.now (cid_of digest (arc_value h.0)) h.1 c n) i;
}

-- ---- sixteen tables

-- whether the table of a CID's shard has a core under it
abbrev pub entered_among : List Table → Entered
entered_among ts c core = set.contains (cores_in ts (shard_of c) c) core

same_place : (m n : ℕ) → nat_eq m n ≡ true → m ≡ n
same_place m n e = grind (arith, nat_tests)

own_place : (k : List ℕ) → shard_of k < 16
own_place k = omega arith

-- a step of one table is one of all
placed : (ts : List Table) (k : List ℕ) (u : Table) (core : ℕ) (there : Bool) → shard_of k < length ts
    → ((c : List ℕ) (n : ℕ) → entered_for u c n ≡ with_core (entered_for (table_at ts (shard_of k))) k core there c n)
    → (c : List ℕ) (n : ℕ) → entered_among (slice_set ts (shard_of k) u) c n ≡ with_core (entered_among ts) k core there c n
placed ts k u core there small step c n = by_place (nat_eq (shard_of c) (shard_of k)) refl
  where
    elsewhere : (b : Bool) → is_at (slice_cmp nat_cmp k) c ≡ b → nat_eq (shard_of c) (shard_of k) ≡ false → b ≡ false
    elsewhere true e other = absurd (let tied : nat_eq (shard_of c) (shard_of k) ≡ true = ap (λ q. nat_eq (shard_of c) (shard_of q)) (here k c e) ∙ itself (shard_of c) in cc)
      where
        itself : (m : ℕ) → nat_eq m m ≡ true
        itself m = grind (arith, nat_tests)
    elsewhere false e other = refl

    apart : nat_eq (shard_of c) (shard_of k) ≡ false → shard_of c ≢ shard_of k
    apart other same = grind (arith, nat_tests)

    by_place : (b : Bool) → nat_eq (shard_of c) (shard_of k) ≡ b
        → entered_among (slice_set ts (shard_of k) u) c n ≡ with_core (entered_among ts) k core there c n
    by_place true e =
        let own = same_place (shard_of c) (shard_of k) e in
        ap (λ (place : ℕ). entered_for (table_at (slice_set ts (shard_of k) u) place) c n) own
        ∙ ap (λ (t : Table). entered_for t c n) (get_or-set_same ts (shard_of k) u no_table small)
        ∙ step c n
        ∙ ap (λ (place : ℕ). with_core (entered_for (table_at ts place)) k core there c n) (sym own)
    by_place false e =
        ap (λ (t : Table). entered_for t c n) (get_or-set_other ts (shard_of k) (shard_of c) u no_table (apart e))
        ∙ ap (λ b. cond (b && nat_eq n core) there (entered_among ts c n)) (sym (elsewhere (is_at (slice_cmp nat_cmp k) c) refl e))

-- the same of the sixteen that are lent
pub shards_reading : {D A : Type 0} (g : Ghosts D) (limit : ℕ) (digest : List ℕ → List ℕ)
    → IsReading {S = LentShards D limit A g} {D = D} {A = A} digest (λ s b core result t. IsMadeIn digest (arc_value b) core s.shards.now result t.shards.now)
    (λ s h t. t.shards.now ≡ left_in digest s.shards.now h) (λ s. entered_among s.shards.now)
shards_reading g limit digest = record {
  acquired = λ s b core h t a.
      let k = cid_of digest (arc_value b) in
      let own = table_at s.shards.now (shard_of k) in
      λ i c n. (ap (λ ts. entered_among ts c n) a.entered
      ∙ placed s.shards.now k (entered own k (arc_value b) core) core true (subst (λ m. shard_of k < m) (sym s.sixteen) (own_place k)) (with_more own k (arc_value b) core) c n) i;
  refused = λ s b core fault t a. ap entered_among a.unchanged;
  released = λ s h t a.
      let k = cid_of digest (arc_value h.0) in
      let own = table_at s.shards.now (shard_of k) in
      λ i c n. (ap (λ ts. entered_among ts c n) a
      ∙ placed s.shards.now k (left own k h.1) h.1 false (subst (λ m. shard_of k < m) (sym s.sixteen) (own_place k)) (with_less own k h.1) c n) i;
}
