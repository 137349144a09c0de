-- The cores of a shard's entries in their places, and what becomes of them.
use mathlib.Core.Bool.{true≢false}
use Rattle.std.proofs.Common.{◌≡◌, ◌≢◌, ℕ, zero, suc, ◌<◌, ◌≤◌, ◌+◌, ◌-◌, List, [], ◌∷◌, length, refl, sym, ap, subst, ◌∙◌, cond, nat_eq, Bool, true, false, arith}
use Rattle.std.specs.Prelude.{◌⊎◌, Option, Result, Ok, Err, OnOk, OnErr, None, Some, IsSome, IsSomeAnd, is_some, count_by, option_map, slice_index_or}
use Rattle.std.proofs.Common.{inl, inr}
use Rattle.std.proofs.lemmas.Bool.Decides.{nat_tests}
use Rattle.std.proofs.lemmas.List.Sums.{sum_by-cons}
use Rattle.std.specs.Cmp.{tied_itself}
use Rattle.std.specs.Cmp.Lexicographic.{slice_cmp, nat_list_cmp_total, pointwise, texts_ties}
use Rattle.std.specs.FinMap as map
use Rattle.std.specs.List.{IsDistinct}
use Rattle.std.specs.Map.{keys_of}
use Rattle.std.specs.Ordering.{is_eq}
use Rattle.std.specs.declared.cmp.Ordering.{Ordering}
use Rattle.std.specs.declared.cmp.Ordering.TheVariants.{Less, Equal, Greater}
use Rattle.std.proofs.lemmas.Option.{none-some, same_Some}
use Rattle.std.specs.Ordering.{nat_cmp}
use Rattle.std.specs.FinSet as set
use Rattle.spec.specs.Cid.{cid as cid_of}
use Rattle.slab.specs.Slab.{ContainsKey, HasRoomFor, Updates, SameValues, get, slab_len, with_value}
use Rattle.slab.proofs.SlabLemmas.{Updates-with_value}
use Rattle.store.specs.Cores.{IsSetOfMore}
use Rattle.store.specs.Places.{Sets, Slots, Stored, cores_in, held_in, held_of, key_at, key_of, key_of_entry, set_or_none, HasMore, HaveTheirSets, IsMoved, IsSound, StaysAt}
use Rattle.store.specs.declared.shard.entry.Holders.{Holders}
use Rattle.store.specs.declared.shard.entry.Holders.TheVariants.{One, Several}
use Rattle.store.specs.Keys.{Key}
use Rattle.store.specs.Table.{Held, IsEntry, IsLawful, entered, left, table_view}
use Rattle.store.proofs.CoreSets.{more_left}
use Rattle.store.proofs.Tables.{Updated, at, cut_view, get_view, lawful_added, lawful_changed, lawful_empty, lawful_taken, left_view_last, left_view_some, len_view, entered_view, entry_entered, entry_first, put_view, same, same_view}

-- ---- a set under a key

pub more_at : (s : Sets) (key : ℕ) (v : set.FinSet nat_cmp) → get s key ≡ Some v → HasMore s key → IsSetOfMore v
more_at s key v e h = subst (λ o. IsSomeAnd o IsSetOfMore) e h

pub has_more : (s : Sets) (key : ℕ) (v : set.FinSet nat_cmp) → get s key ≡ Some v → IsSetOfMore v → HasMore s key
has_more s key v e h = subst (λ o. IsSomeAnd o IsSetOfMore) (sym e) h

some_of : (o : Option (set.FinSet nat_cmp)) → IsSomeAnd o IsSetOfMore → IsSome o
some_of None h = absurd h
some_of (Some v) h = refl

contains_key : (s : Sets) (key : ℕ) → HasMore s key → ContainsKey s key
contains_key s key h = some_of (get s key) h

-- ---- what may become of the sets

-- nothing
pub moved_not : (s : Sets) (o : Option ℕ) → ((key : ℕ) → o ≡ Some key → HasMore s key) → IsMoved s s o o
moved_not s o there = record {
  others = λ key a b. refl;
  ended = λ key a b. absurd (b a);
  fresh = λ key a b. absurd (b a);
  there = there;
  capacity = refl;
}

-- the set under a key changes
pub moved_within : (s t : Sets) (key : ℕ) (v : set.FinSet nat_cmp) → Updates s t key (Some v) → IsSetOfMore v
    → t.capacity ≡ s.capacity → IsMoved s t (Some key) (Some key)
moved_within s t key v u is kept = record {
  others = λ k a b. u.others k (λ e. a (ap Some (sym e)));
  ended = λ k a b. absurd (b a);
  fresh = λ k a b. absurd (b a);
  there = λ k e. subst (HasMore t) (same_Some key k e) (has_more t key v u.changed is);
  capacity = kept;
}

-- a set comes
pub moved_new : (s t : Sets) (key : ℕ) (v : set.FinSet nat_cmp) → get s key ≡ None → Updates s t key (Some v) → IsSetOfMore v
    → t.capacity ≡ s.capacity → IsMoved s t None (Some key)
moved_new s t key v free u is kept = record {
  others = λ k a b. u.others k (λ e. b (ap Some (sym e)));
  ended = λ k e b. absurd (none-some k e);
  fresh = λ k e b. subst (λ (x : ℕ). get s x ≡ None) (same_Some key k e) free;
  there = λ k e. subst (HasMore t) (same_Some key k e) (has_more t key v u.changed is);
  capacity = kept;
}

-- in the set under a key, which is the one that was read
pub moved_written : (s : Sets) (key : ℕ) (old v : set.FinSet nat_cmp) → get s key ≡ Some old → IsSetOfMore v
    → IsMoved s (with_value s key v) (Some key) (Some key)
moved_written s key old v e is = moved_within s (with_value s key v) key v (Updates-with_value s key v (ap is_some e)) is refl

pub stays : (s : Sets) (key core : ℕ) (old v : set.FinSet nat_cmp) → get s key ≡ Some old → v ≡ set.remove old core → HasMore s key
    → set.len v ≢ 1 → StaysAt s (with_value s key v) key core
stays s key core old v e made there not_one =
    let u : Updates s (with_value s key v) key (Some v) = Updates-with_value s key v (ap is_some e) in record {
      left = ap set_or_none u.changed ∙ made ∙ ap (λ o. set.remove (set_or_none o) core) (sym e);
      moved = moved_written s key old v e (subst IsSetOfMore (sym made)
          (more_left old core (more_at s key old e there) (λ one. not_one (ap (λ (t : set.FinSet nat_cmp). set.len t) made ∙ one))));
    }

-- ---- the keys of entries

tied_key : (k q : List ℕ) (r : Ordering) → slice_cmp nat_cmp k q ≡ r → is_eq r ≡ true → k ≡ q
tied_key k q Less tied h = absurd (true≢false (sym h))
tied_key k q Equal tied h = same k q tied
tied_key k q Greater tied h = absurd (true≢false (sym h))

is_key : (k q : List ℕ) → pointwise nat_eq k q ≡ true → k ≡ q
is_key k q h = tied_key k q (slice_cmp nat_cmp k q) refl (sym (texts_ties k q) ∙ h)

key_itself : (k q : List ℕ) → k ≡ q → pointwise nat_eq k q ≡ true
key_itself k q e = ap (pointwise nat_eq k) (sym e) ∙ texts_ties k k ∙ ap is_eq (tied_itself nat_list_cmp_total k)

decide : (o : Option ℕ) (key : ℕ) → (o ≡ Some key) ⊎ (o ≢ Some key)
decide None key = inr (λ e. none-some key e)
decide (Some k) key = by_number (nat_eq k key) refl
  where
    by_number : (b : Bool) → nat_eq k key ≡ b → (Some k ≡ Some key) ⊎ (Some k ≢ Some key)
    by_number true e = inl (ap Some (let t : k ≡ key = grind (arith, nat_tests) in t))
    by_number false e = inr (λ t. let n : k ≡ key = same_Some k key t in let never : nat_eq k key ≡ true = grind (arith, nat_tests) in true≢false (sym never ∙ e))

-- what a list has under a CID, with the cores themselves
pub held_at : (slots : Slots) (es : List (List ℕ × Stored)) (q : List ℕ) → at (held_in slots es) q ≡ option_map (held_of slots) (at es q)
held_at slots [] q = refl
held_at slots (e ∷ es) q = step (pointwise nat_eq q e.0) (held_at slots es q)
  where
    step : (b : Bool) → at (held_in slots es) q ≡ option_map (held_of slots) (at es q)
        → cond b (Some (held_of slots e.1)) (at (held_in slots es) q) ≡ option_map (held_of slots) (cond b (Some e.1) (at es q))
    step true rest = refl
    step false rest = rest

pub held_found : (slots : Slots) (es : List (List ℕ × Stored)) (q : List ℕ) (o : Option Stored) → at es q ≡ o → at (held_in slots es) q ≡ option_map (held_of slots) o
held_found slots es q o e = held_at slots es q ∙ ap (option_map (held_of slots)) e

pub none_held : (slots : Slots) (es : List (List ℕ × Stored)) (q : List ℕ) → at (held_in slots es) q ≡ None → at es q ≡ None
none_held slots es q h = none (at es q) (sym (held_at slots es q) ∙ h)
  where
    none : (o : Option Stored) → option_map (held_of slots) o ≡ None → o ≡ None
    none None e = refl
    none (Some x) e = absurd (none-some (held_of slots x) (sym e))

-- where each key has the same set, each entry has the same cores
pub held_same : (s t : Sets) → SameValues s t → (es : List (List ℕ × Stored)) → held_in t.slots es ≡ held_in s.slots es
held_same s t keep [] = refl
held_same s t keep (e ∷ es) = λ i. (e.0, (e.1.0, of_holders e.1.1 i)) ∷ held_same s t keep es i
  where
    of_holders : (h : Holders) → cores_in t.slots h ≡ cores_in s.slots h
    of_holders (One core) = refl
    of_holders (Several key) = ap set_or_none (keep key)

pub keys_held : (slots : Slots) (es : List (List ℕ × Stored)) → keys_of es ≡ keys_of (held_in slots es)
keys_held slots [] = refl
keys_held slots (e ∷ es) = ap (λ ks. e.0 ∷ ks) (keys_held slots es)

pub length_held : (slots : Slots) (es : List (List ℕ × Stored)) → length (held_in slots es) ≡ length es
length_held slots [] = refl
length_held slots (e ∷ es) = ap suc (length_held slots es)

-- there are as many
pub size_held : (slots : Slots) (es : List (List ℕ × Stored)) → IsDistinct (pointwise nat_eq) (keys_of es)
    → map.len (map.from_entries {R = slice_cmp nat_cmp} (held_in slots es)) ≡ length es
size_held slots es once = len_view (held_in slots es) (subst (IsDistinct (pointwise nat_eq)) (keys_held slots es) once) ∙ length_held slots es

-- ---- one entry changes, and the sets with it

module _ (es fs : List (List ℕ × Stored)) (s t : Sets) (c : List ℕ) (o p : Option Stored)
    (own : HaveTheirSets es s) (here : at es c ≡ o) (moved : IsMoved s t (key_of_entry o) (key_of_entry p)) (updated : Updated es fs c p) where
  key_now : (q : List ℕ) (b : Bool) → pointwise nat_eq c q ≡ b → key_at fs q ≡ cond b (key_of_entry p) (key_at es q)
  key_now q b e = ap key_of_entry (updated q ∙ ap (λ x. cond x p (at es q)) e) ∙ over b
    where
      over : (b : Bool) → key_of_entry (cond b p (at es q)) ≡ cond b (key_of_entry p) (key_at es q)
      over true = refl
      over false = refl

  not_before : (q : List ℕ) (key : ℕ) → pointwise nat_eq c q ≡ false → key_at es q ≡ Some key → key_of_entry o ≢ Some key
  not_before q key other e b = true≢false (sym (key_itself c q (own.apart c q key (ap key_of_entry here ∙ b) e)) ∙ other)

  not_after : (q : List ℕ) (key : ℕ) → pointwise nat_eq c q ≡ false → key_at es q ≡ Some key → key_of_entry p ≢ Some key
  not_after q key other e a = true≢false
      (sym (contains_key s key (own.there q key e)) ∙ ap is_some (moved.fresh key a (not_before q key other e)))

  kept : (q : List ℕ) (key : ℕ) → pointwise nat_eq c q ≡ false → key_at es q ≡ Some key → get t key ≡ get s key
  kept q key other e = moved.others key (not_before q key other e) (not_after q key other e)

  -- the other entries have their cores
  pub held_moved : Updated (held_in s.slots es) (held_in t.slots fs) c (option_map (held_of t.slots) p)
  held_moved q = held_at t.slots fs q ∙ ap (option_map (held_of t.slots)) (updated q) ∙ by_key (pointwise nat_eq c q) refl
    where
      of_holders : (h : Holders) → pointwise nat_eq c q ≡ false → key_at es q ≡ key_of h → cores_in t.slots h ≡ cores_in s.slots h
      of_holders (One core) other e = refl
      of_holders (Several key) other e = ap set_or_none (kept q key other e)

      of_entry : (x : Option Stored) → pointwise nat_eq c q ≡ false → at es q ≡ x → option_map (held_of t.slots) x ≡ option_map (held_of s.slots) x
      of_entry None other e = refl
      of_entry (Some x) other e = ap (λ cores. Some (x.0, cores)) (of_holders x.1 other (ap key_of_entry e))

      by_key : (b : Bool) → pointwise nat_eq c q ≡ b
          → option_map (held_of t.slots) (cond b p (at es q)) ≡ cond b (option_map (held_of t.slots) p) (at (held_in s.slots es) q)
      by_key true e = refl
      by_key false e = of_entry (at es q) e refl ∙ sym (held_at s.slots es q)

  -- each still has its own set
  pub sets_moved : map.len (map.from_entries {R = slice_cmp nat_cmp} fs) ≤ t.capacity → HaveTheirSets fs t
  sets_moved room = record {
    there = λ q key e. there q key (pointwise nat_eq c q) refl e;
    apart = λ q r key e f. apart q r key (pointwise nat_eq c q) (pointwise nat_eq c r) refl refl e f;
    used = used;
    room = room;
  }
    where
      there : (q : List ℕ) (key : ℕ) (b : Bool) → pointwise nat_eq c q ≡ b → key_at fs q ≡ Some key → HasMore t key
      there q key true b e = moved.there key (sym (key_now q true b) ∙ e)
      there q key false b e =
          let old : key_at es q ≡ Some key = sym (key_now q false b) ∙ e in
          subst (λ x. IsSomeAnd x IsSetOfMore) (sym (kept q key b old)) (own.there q key old)

      apart : (q r : List ℕ) (key : ℕ) (a b : Bool) → pointwise nat_eq c q ≡ a → pointwise nat_eq c r ≡ b
          → key_at fs q ≡ Some key → key_at fs r ≡ Some key → q ≡ r
      apart q r key true true a b e f = sym (is_key c q a) ∙ is_key c r b
      apart q r key true false a b e f = absurd (not_after r key b (sym (key_now r false b) ∙ f) (sym (key_now q true a) ∙ e))
      apart q r key false true a b e f = absurd (not_after q key a (sym (key_now q false a) ∙ e) (sym (key_now r true b) ∙ f))
      apart q r key false false a b e f = own.apart q r key (sym (key_now q false a) ∙ e) (sym (key_now r false b) ∙ f)

      still : (key : ℕ) → key_of_entry o ≢ Some key → (q : List ℕ) (b : Bool) → pointwise nat_eq c q ≡ b → key_at es q ≡ Some key → key_at fs q ≡ Some key
      still key before q true b e = absurd (before (sym (ap key_of_entry here) ∙ ap (key_at es) (is_key c q b) ∙ e))
      still key before q false b e = key_now q false b ∙ e

      used : (key : ℕ) → ContainsKey t key → (q : List ℕ) × (key_at fs q ≡ Some key)
      used key some = elim (decide (key_of_entry p) key) [
        | inl after ↦ (c, key_now c true (key_itself c c refl) ∙ after)
        | inr not ↦ elim (decide (key_of_entry o) key) [
          | inl before ↦ absurd (true≢false (sym some ∙ ap is_some (moved.ended key before not)))
          | inr never ↦
              let old = own.used key (ap is_some (sym (moved.others key never not)) ∙ some) in
              (old.0, still key never old.0 (pointwise nat_eq c old.0) refl old.1)
        ]
      ]

-- ---- room for a set

someone : (o : Option Stored) (key : ℕ) → key_of_entry o ≡ Some key → is_some o ≡ true
someone None key e = absurd (none-some key e)
someone (Some x) key e = refl

-- a map with an entry has one less without it
less_one : (m : map.FinMap (slice_cmp nat_cmp) Stored) (q : List ℕ) → is_some (map.get m q) ≡ true → map.len (map.remove m q) + 1 ≡ map.len m
less_one m q there = by_size (map.len m) refl (map.len-remove nat_list_cmp_total m q ∙ ap (λ b. cond b (map.len m - 1) (map.len m)) there)
  where
    by_size : (n : ℕ) → map.len m ≡ n → map.len (map.remove m q) ≡ map.len m - 1 → map.len (map.remove m q) + 1 ≡ map.len m
    by_size zero e cut = absurd (true≢false (sym there ∙ ap (λ (x : map.FinMap (slice_cmp nat_cmp) Stored). is_some (map.get x q)) (map.empty_of_len m e)
        ∙ ap is_some (map.get-empty (slice_cmp nat_cmp) q)))
    by_size (suc n) e cut = omega (arith, e, cut)

-- what is under another key stays
still_there : (m : map.FinMap (slice_cmp nat_cmp) Stored) (k q : List ℕ) (key : ℕ) → key_of_entry (map.get m k) ≢ Some key
    → key_of_entry (map.get m q) ≡ Some key → key_of_entry (map.get (map.remove m k) q) ≡ Some key
still_there m k q key differ e = ap key_of_entry (map.get-remove nat_list_cmp_total m k q) ∙ by_order (slice_cmp nat_cmp q k) refl
  where
    by_order : (r : Ordering) → slice_cmp nat_cmp q k ≡ r → key_of_entry (cond (is_eq r) None (map.get m q)) ≡ Some key
    by_order Less tied = e
    by_order Equal tied = absurd (differ (ap (λ x. key_of_entry (map.get m x)) (sym (same q k tied)) ∙ e))
    by_order Greater tied = e

-- sets of which each has an entry of its own are no more than these
tally : (slots : Slots) (first : ℕ) (m : map.FinMap (slice_cmp nat_cmp) Stored)
    → ((k : ℕ) → IsSome (slice_index_or slots k None) → (q : List ℕ) × (key_of_entry (map.get m q) ≡ Some (first + k)))
    → count_by is_some slots ≤ map.len m
tally [] first m each = omega arith
tally (None ∷ rest) first m each =
    let later = tally rest (first + 1) m (λ k some. let w = each (suc k) some in (w.0, w.1 ∙ ap Some (next k))) in
    omega (arith, later, sum_by-cons (λ o. cond (is_some o) 1 0) None rest)
  where
    next : (k : ℕ) → first + suc k ≡ first + 1 + k
    next k = omega arith
tally (Some v ∷ rest) first m each =
    let w = each zero refl in
    let one = less_one m w.0 (someone (map.get m w.0) (first + zero) w.1) in
    let later = tally rest (first + 1) (map.remove m w.0) (λ k some.
    let x = each (suc k) some in
    (x.0, still_there m w.0 x.0 (first + 1 + k) (λ e. apart k (same_Some (first + zero) (first + 1 + k) (sym w.1 ∙ e))) (x.1 ∙ ap Some (next k)))) in
    omega (arith, later, one, sum_by-cons (λ o. cond (is_some o) 1 0) (Some v) rest)
  where
    next : (k : ℕ) → first + suc k ≡ first + 1 + k
    next k = omega arith

    apart : (k : ℕ) → first + zero ≡ first + 1 + k → ⊥
    apart k e = omega (arith, e)

module _ (es : List (List ℕ × Stored)) (s : Sets) (own : HaveTheirSets es s) where
  used_in : (key : ℕ) → ContainsKey s key → (q : List ℕ) × (key_of_entry (map.get (map.from_entries {R = slice_cmp nat_cmp} es) q) ≡ Some (0 + key))
  used_in key some = let w = own.used key some in (w.0, ap key_of_entry (get_view es w.0) ∙ w.1 ∙ ap Some (zeroth key))
    where
      zeroth : (key : ℕ) → key ≡ 0 + key
      zeroth key = omega arith

  -- there are no more sets than entries
  pub no_more : slab_len s ≤ map.len (map.from_entries {R = slice_cmp nat_cmp} es)
  no_more = tally s.slots 0 (map.from_entries es) used_in

  -- and fewer where an entry has none
  pub has_room : (c : List ℕ) (e : Stored) → at es c ≡ Some e → key_of e.1 ≡ None → HasRoomFor s 1
  has_room c e here none =
      let m = map.from_entries {R = slice_cmp nat_cmp} es in
      let found : map.get m c ≡ Some e = get_view es c ∙ here in
      let one = less_one m c (ap is_some found) in
      let fewer = tally s.slots 0 (map.remove m c) (λ k some.
      let w = used_in k some in
      (w.0, still_there m c w.0 (0 + k) (λ x. none-some (0 + k) (sym (ap key_of_entry found ∙ none) ∙ x)) w.1)) in
      let room = own.room in
      omega (arith, one, fewer, room)

  -- the sets that are there stay, and more may come
  pub sets_grown : (t : Sets) → SameValues s t → s.capacity ≤ t.capacity → HaveTheirSets es t
  sets_grown t keep more = record {
    there = λ q key e. subst (λ x. IsSomeAnd x IsSetOfMore) (sym (keep key)) (own.there q key e);
    apart = own.apart;
    used = λ key some. own.used key (ap is_some (sym (keep key)) ∙ some);
    room = let room = own.room in omega (arith, room, more);
  }

-- ---- the whole, after a change

module _ (digest : List ℕ → List ℕ) (es fs : List (List ℕ × Stored)) (s t : Sets) (limit : ℕ) (c : List ℕ) where
  -- an entry has changed
  pub sound_changed : (e w : Stored) → IsSound digest es s limit → at es c ≡ Some e → IsMoved s t (key_of e.1) (key_of w.1)
      → Updated es fs c (Some w) → IsEntry digest c (held_of t.slots w) → IsSound digest fs t limit
  sound_changed e w sound here moved u is = record {
    lawful = λ key. lawful_changed digest (held_in s.slots es) (held_in t.slots fs) limit key c (held_of s.slots e) (held_of t.slots w) (sound.lawful key)
        (held_at s.slots es c ∙ ap (option_map (held_of s.slots)) here) is
        (held_moved es fs s t c (Some e) (Some w) sound.placed here moved u);
    placed = sets_moved es fs s t c (Some e) (Some w) sound.placed here moved u
        (let room = sound.placed.room in
        let kept = moved.capacity in
        let size = ap (λ (m : map.FinMap (slice_cmp nat_cmp) Stored). map.len m) (put_view es fs c w u) ∙ map.len-insert nat_list_cmp_total (map.from_entries es) c w
        ∙ ap (λ (x : Option Stored). cond (is_some x) (map.len (map.from_entries {R = slice_cmp nat_cmp} es)) (map.len (map.from_entries {R = slice_cmp nat_cmp} es) + 1)) (get_view es c ∙ here) in
        omega (arith, room, kept, size));
  }

  -- an entry has gone
  pub sound_taken : (e : Stored) → IsSound digest es s limit → at es c ≡ Some e → IsMoved s t (key_of e.1) None
      → Updated es fs c None → IsSound digest fs t limit
  sound_taken e sound here moved u = record {
    lawful = λ key. lawful_taken digest (held_in s.slots es) (held_in t.slots fs) limit key c (sound.lawful key)
        (held_moved es fs s t c (Some e) None sound.placed here moved u);
    placed = sets_moved es fs s t c (Some e) None sound.placed here moved u
        (let room = sound.placed.room in
        let kept = moved.capacity in
        let size = ap (λ (m : map.FinMap (slice_cmp nat_cmp) Stored). map.len m) (cut_view es fs c u) ∙ map.len-remove nat_list_cmp_total (map.from_entries es) c
        ∙ ap (λ (x : Option Stored). cond (is_some x) (map.len (map.from_entries {R = slice_cmp nat_cmp} es) - 1) (map.len (map.from_entries {R = slice_cmp nat_cmp} es))) (get_view es c ∙ here) in
        omega (arith, room, kept, size));
  }

  -- an entry of one core has come, and there is room for a set of its cores
  pub sound_added : (w : Stored) → IsSound digest es s limit → at es c ≡ None → key_of w.1 ≡ None
      → map.len (map.from_entries {R = slice_cmp nat_cmp} (held_in s.slots es)) < limit
      → map.len (map.from_entries {R = slice_cmp nat_cmp} es) < t.capacity → SameValues s t → s.capacity ≤ t.capacity
      → Updated es fs c (Some w) → IsEntry digest c (held_of t.slots w) → IsSound digest fs t limit
  sound_added w sound here none free room keep more u is =
      let own = sets_grown es s sound.placed t keep more in
      let moved : IsMoved t t None (key_of w.1) = subst (λ (o : Option ℕ). IsMoved t t None o) (sym none)
      (moved_not t None (λ key x. absurd (none-some key x))) in record {
        lawful = λ key. lawful_added digest (held_in s.slots es) (held_in t.slots fs) limit key c (held_of t.slots w) (sound.lawful key) free is
            (subst (λ (xs : List (List ℕ × Held)). Updated xs (held_in t.slots fs) c (Some (held_of t.slots w))) (held_same s t keep es)
            (held_moved es fs t t c None (Some w) own here moved u));
        placed = sets_moved es fs t t c None (Some w) own here moved u
            (let size = ap (λ (m : map.FinMap (slice_cmp nat_cmp) Stored). map.len m) (put_view es fs c w u) ∙ map.len-insert nat_list_cmp_total (map.from_entries es) c w
            ∙ ap (λ (x : Option Stored). cond (is_some x) (map.len (map.from_entries {R = slice_cmp nat_cmp} es)) (map.len (map.from_entries {R = slice_cmp nat_cmp} es) + 1)) (get_view es c ∙ here) in
            omega (arith, room, size));
      }

-- only room for more sets has come
pub sound_grown : (digest : List ℕ → List ℕ) (es fs : List (List ℕ × Stored)) (s t : Sets) (limit : ℕ) → IsSound digest es s limit
    → fs ≡ es → SameValues s t → s.capacity ≤ t.capacity → IsSound digest fs t limit
sound_grown digest es fs s t limit sound kept keep more = subst (λ (xs : List (List ℕ × Stored)). IsSound digest xs t limit) (sym kept) (record {
  lawful = λ key. subst (λ (xs : List (List ℕ × Held)). IsLawful digest (table_view xs limit key)) (sym (held_same s t keep es)) (sound.lawful key);
  placed = sets_grown es s sound.placed t keep more;
})

-- and is not seen
pub view_grown : (es fs : List (List ℕ × Stored)) (s t : Sets) (limit : ℕ) (key : Key) → fs ≡ es → SameValues s t
    → table_view (held_in t.slots fs) limit key ≡ table_view (held_in s.slots es) limit key
view_grown es fs s t limit key kept keep = ap (λ (xs : List (List ℕ × Stored)). table_view (held_in t.slots xs) limit key) kept
    ∙ ap (λ (xs : List (List ℕ × Held)). table_view xs limit key) (held_same s t keep es)

-- there are no entries and no sets
pub sound_empty : (digest : List ℕ → List ℕ) (es : List (List ℕ × Stored)) (s : Sets) (limit : ℕ) → es ≡ [] → s.slots ≡ [] → IsSound digest es s limit
sound_empty digest es s limit empty bare = subst (λ (xs : List (List ℕ × Stored)). IsSound digest xs s limit) (sym empty) (record {
  lawful = lawful_empty digest limit;
  placed = record {
    there = λ q key e. absurd (none-some key e);
    apart = λ q r key e f. absurd (none-some key e);
    used = λ key some. absurd (true≢false (sym some ∙ ap (λ (xs : Slots). is_some (slice_index_or xs key None)) bare));
    room = subst (λ (n : ℕ). n ≤ s.capacity) (sym (map.len-empty (slice_cmp nat_cmp) Stored)) (omega arith);
  };
})

-- ---- what contracts see, after a change

-- the key is that of before
pub view_under : (es : List (List ℕ × Held)) (limit : ℕ) (new old : Key) → new ≡ old → table_view es limit new ≡ table_view es limit old
view_under es limit new old same = ap (table_view es limit) same

pub on_ok_two : {X Y P Q R : Type 0} (r : Result X Y) → (P → Q → R) → OnOk r P → OnOk r Q → OnOk r R
on_ok_two (Ok x) f p q = f p q
on_ok_two (Err y) f p q = tt

-- a core has come to an entry, or all is as before
pub entry_after : {X Y : Type 0} (digest : List ℕ → List ℕ) (k : List ℕ) (x y : Held) (core : ℕ) (r : Result X Y) → core < 1024 → IsEntry digest k x
    → y.0 ≡ x.0 → OnOk r (y.1 ≡ set.insert x.1 core) → OnErr r (y.1 ≡ x.1) → IsEntry digest k y
entry_after digest k x y core (Ok h) small is bytes more not =
    subst (λ (z : Held). IsEntry digest k z) (λ i. (sym bytes i, sym more i)) (entry_entered digest k x core small is)
entry_after digest k x y core (Err f) small is bytes more not = subst (λ (z : Held). IsEntry digest k z) (λ i. (sym bytes i, sym not i)) is

-- a new entry
pub entry_new : (digest : List ℕ → List ℕ) (k bytes : List ℕ) (x : Held) (core : ℕ) → core < 1024 → k ≡ cid_of digest bytes
    → x.0 ≡ bytes → x.1 ≡ set.insert set.empty core → IsEntry digest k x
entry_new digest k bytes x core small name is cores = subst (λ (z : Held). IsEntry digest k z) (λ i. (sym is i, sym cores i))
    (subst (λ (q : List ℕ). IsEntry digest q (bytes, set.insert set.empty core)) (sym name) (entry_first digest bytes core small))

module _ (es fs : List (List ℕ × Stored)) (s t : Sets) (limit : ℕ) (key : Key) (k : List ℕ) (e : Stored)
    (own : HaveTheirSets es s) (here : at es k ≡ Some e) where
  -- a core has come
  pub view_entered : (w : Stored) (bytes : List ℕ) (core : ℕ) → IsMoved s t (key_of e.1) (key_of w.1) → Updated es fs k (Some w)
      → w.0 ≡ e.0 → e.0 ≡ bytes → cores_in t.slots w.1 ≡ set.insert (cores_in s.slots e.1) core
      → table_view (held_in t.slots fs) limit key ≡ entered (table_view (held_in s.slots es) limit key) k bytes core
  view_entered w bytes core moved u same_bytes of_bytes more =
      let held : held_of t.slots w ≡ (bytes, set.insert (cores_in s.slots e.1) core) = λ i. ((same_bytes ∙ of_bytes) i, more i) in
      entered_view (held_in s.slots es) (held_in t.slots fs) limit key k bytes core (Some (held_of s.slots e)) (held_found s.slots es k (Some e) here)
      (subst (λ (z : Held). Updated (held_in s.slots es) (held_in t.slots fs) k (Some z)) held (held_moved es fs s t k (Some e) (Some w) own here moved u))

  -- all is as before
  pub view_same : (w : Stored) → IsMoved s t (key_of e.1) (key_of w.1) → Updated es fs k (Some w) → w.0 ≡ e.0
      → cores_in t.slots w.1 ≡ cores_in s.slots e.1 → table_view (held_in t.slots fs) limit key ≡ table_view (held_in s.slots es) limit key
  view_same w moved u same_bytes same_cores =
      let held : held_of t.slots w ≡ held_of s.slots e = λ i. (same_bytes i, same_cores i) in
      same_view (held_in s.slots es) (held_in t.slots fs) limit key k (held_of s.slots e) (held_found s.slots es k (Some e) here)
      (subst (λ (z : Held). Updated (held_in s.slots es) (held_in t.slots fs) k (Some z)) held (held_moved es fs s t k (Some e) (Some w) own here moved u))

  -- a core has left, and others are left
  pub view_left : (w : Stored) (core : ℕ) → IsMoved s t (key_of e.1) (key_of w.1) → Updated es fs k (Some w) → w.0 ≡ e.0
      → cores_in t.slots w.1 ≡ set.remove (cores_in s.slots e.1) core → nat_eq (set.len (set.remove (cores_in s.slots e.1) core)) 0 ≡ false
      → table_view (held_in t.slots fs) limit key ≡ left (table_view (held_in s.slots es) limit key) k core
  view_left w core moved u same_bytes less more =
      let held : held_of t.slots w ≡ (e.0, set.remove (cores_in s.slots e.1) core) = λ i. (same_bytes i, less i) in
      left_view_some (held_in s.slots es) (held_in t.slots fs) limit key k core (held_of s.slots e) (held_found s.slots es k (Some e) here)
      (subst (λ (z : Held). Updated (held_in s.slots es) (held_in t.slots fs) k (Some z)) held (held_moved es fs s t k (Some e) (Some w) own here moved u)) more

  -- the last one has left
  pub view_ended : (core : ℕ) → IsMoved s t (key_of e.1) None → Updated es fs k None → nat_eq (set.len (set.remove (cores_in s.slots e.1) core)) 0 ≡ true
      → table_view (held_in t.slots fs) limit key ≡ left (table_view (held_in s.slots es) limit key) k core
  view_ended core moved u last =
      left_view_last (held_in s.slots es) (held_in t.slots fs) limit key k core (held_of s.slots e) (held_found s.slots es k (Some e) here)
      (held_moved es fs s t k (Some e) None own here moved u) last

-- a block has come with its first core
pub view_added : (es fs : List (List ℕ × Stored)) (s t : Sets) (limit : ℕ) (key : Key) (k : List ℕ) (w : Stored) (bytes : List ℕ) (core : ℕ)
    → HaveTheirSets es s → at es k ≡ None → SameValues s t → s.capacity ≤ t.capacity → key_of w.1 ≡ None → Updated es fs k (Some w)
    → w.0 ≡ bytes → cores_in t.slots w.1 ≡ set.insert set.empty core
    → table_view (held_in t.slots fs) limit key ≡ entered (table_view (held_in s.slots es) limit key) k bytes core
view_added es fs s t limit key k w bytes core own here keep more none u of_bytes first =
    let held : held_of t.slots w ≡ (bytes, set.insert set.empty core) = λ i. (of_bytes i, first i) in
    let moved : IsMoved t t None (key_of w.1) = subst (λ (o : Option ℕ). IsMoved t t None o) (sym none) (moved_not t None (λ key x. absurd (none-some key x))) in
    entered_view (held_in s.slots es) (held_in t.slots fs) limit key k bytes core None (held_found s.slots es k None here)
    (subst (λ (z : Held). Updated (held_in s.slots es) (held_in t.slots fs) k (Some z)) held
    (subst (λ (xs : List (List ℕ × Held)). Updated xs (held_in t.slots fs) k (Some (held_of t.slots w))) (held_same s t keep es)
    (held_moved es fs t t k None (Some w) (sets_grown es s own t keep more) here moved u)))
