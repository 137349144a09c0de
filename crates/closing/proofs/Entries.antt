-- The steps of the comparison of cores with tables.
use mathlib.Core.Bool.{true≢false}
use Rattle.std.proofs.Common.{zero, suc, ◌≡◌, ◌≢◌, ℕ, ◌<◌, ◌≤◌, ◌+◌, ◌∷◌, [], ◌++◌, List, length, take, drop, get_or, refl, ap, sym, ◌∙◌, subst, cond, nat_eq, Bool, true, false, arith, Option, Some, None, ◌⊎◌, inl, inr, ⊎_elim, bytes_eq, All, ◌%◌}
use Rattle.std.specs.Prelude.{◌&&◌, ◌||◌, option_map}
use Rattle.std.specs.List.{AllByRecursion, IsDistinct}
use Rattle.std.specs.Map.{keys_of}
use Rattle.std.proofs.lemmas.List.Elements.{recursion_from_All}
use Rattle.std.proofs.lemmas.Bool.Decides.{nat_tests}
use Rattle.std.proofs.lemmas.List.{take_more, length-take, get_or_read}
use Rattle.std.proofs.lemmas.Slice.Eq.{bytes_eq-Decides}
use Rattle.std.proofs.lemmas.Map.Keys.{IsDistinct-head, IsDistinct-tail}
use Rattle.std.specs.Ordering.{nat_cmp, is_eq}
use Rattle.std.specs.declared.cmp.Ordering.{Ordering}
use Rattle.std.specs.declared.cmp.Ordering.TheVariants.{Less, Equal, Greater}
use Rattle.std.specs.Cmp.{tied_itself}
use Rattle.std.specs.Cmp.Lexicographic.{slice_cmp, nat_list_cmp_total, pointwise, texts_ties}
use Rattle.std.specs.FinMap as map
use Rattle.std.specs.FinMap.{slice_cmp-IsAntisymmetric, nat_cmp-IsAntisymmetric}
use Rattle.std.specs.FinSet as set
use Rattle.spec.specs.Cid.{cid as cid_of}
use Rattle.store.specs.Table.{Table, Held, cores_at, cores_of, shard_of, entry_at, IsListing, IsLawful}
use Rattle.spec.specs.States.{State}
use Rattle.store.specs.Shards.{no_table}
use Rattle.closing.specs.Tally.{has, has_in, entered, have, NumberedFrom, IsEven, IsMiscounted, IsMisnumbered, IsEntered, IsMissed, AllHave, IsWithout, AreHad, AreWithout}

-- ---- numbers

numbered_push : (n : ℕ) (ss : List State) (s : State) → NumberedFrom n ss → s.me ≡ n + length ss → NumberedFrom n (ss ++ s ∷ [])
numbered_push n [] s is e = (omega (arith, e), tt)
numbered_push n (x ∷ ss) s is e = (is.0, numbered_push (suc n) ss s is.1 (omega (arith, e)))

pub numbered_more : (ss : List State) (i : ℕ) (s : State) → i < length ss → s ≡ get_or ss i s → s.me ≡ i → NumberedFrom 0 (take i ss) → NumberedFrom 0 (take (i + 1) ss)
numbered_more ss i s less e me is =
    subst (NumberedFrom 0) (sym (take_more ss i s less)) (numbered_push 0 (take i ss) (get_or ss i s) is
    (ap (λ (x : State). x.me) (sym e) ∙ omega (arith, me, length-take i ss)))

parted : (ss : List State) (i : ℕ) (d : State) → i < length ss → ss ≡ take i ss ++ get_or ss i d ∷ drop (suc i) ss
parted [] i d less = absurd (omega arith)
parted (s ∷ ss) zero d less = refl
parted (s ∷ ss) (suc i) d less = ap (λ xs. s ∷ xs) (parted ss i d (omega arith))

pub misnumbered : (ss : List State) (i : ℕ) (s : State) → i < length ss → s ≡ get_or ss i s → s.me ≢ i → IsMisnumbered ss
misnumbered ss i s less e other = (
  take i ss,
  get_or ss i s,
  drop (suc i) ss,
  parted ss i s less,
  λ same. other (ap (λ (x : State). x.me) e ∙ same ∙ omega (arith, length-take i ss)),
)

module _ (digest : List ℕ → List ℕ) (bits : ℕ) (cid : List ℕ) where
  or-false : (b : Bool) → (b || false) ≡ b
  or-false true = refl
  or-false false = refl

  -- numbers from n on don't have an earlier one
  not_before : (n : ℕ) (ss : List State) (number : ℕ) → NumberedFrom n ss → number < n → have digest bits ss cid number ≡ false
  not_before n [] number is less = refl
  not_before n (s ∷ ss) number is less =
      ap (λ b. (b && has digest bits s cid) || have digest bits ss cid number) (other s.me n number is.0 less)
      ∙ not_before (suc n) ss number is.1 (omega arith)
    where
      other : (me n number : ℕ) → me ≡ n → number < n → nat_eq me number ≡ false
      other me n number e less = grind (arith, nat_tests)

  have_here : (n : ℕ) (ss : List State) (at number : ℕ) (d : State) → NumberedFrom n ss → number ≡ n + at → at < length ss
      → have digest bits ss cid number ≡ has digest bits (get_or ss at d) cid
  have_here n [] at number d is e less = absurd (omega arith)
  have_here n (s ∷ ss) zero number d is e less =
      ap (λ b. (b && has digest bits s cid) || have digest bits ss cid number) (this s.me n number is.0 e)
      ∙ ap (λ b. has digest bits s cid || b) (not_before (suc n) ss number is.1 (omega (arith, e))) ∙ or-false _
    where
      this : (me n number : ℕ) → me ≡ n → number ≡ n + 0 → nat_eq me number ≡ true
      this me n number e f = grind (arith, nat_tests)
  have_here n (s ∷ ss) (suc at) number d is e less =
      ap (λ b. (b && has digest bits s cid) || have digest bits ss cid number) (other s.me n number is.0 e)
      ∙ have_here (suc n) ss at number d is.1 (omega (arith, e)) (omega arith)
    where
      other : (me n number : ℕ) → me ≡ n → number ≡ n + suc at → nat_eq me number ≡ false
      other me n number e f = grind (arith, nat_tests)

  have_beyond : (n : ℕ) (ss : List State) (number : ℕ) → NumberedFrom n ss → n + length ss ≤ number → have digest bits ss cid number ≡ false
  have_beyond n [] number is more = refl
  have_beyond n (s ∷ ss) number is more =
      ap (λ b. (b && has digest bits s cid) || have digest bits ss cid number) (other s.me n number is.0 (omega arith))
      ∙ have_beyond (suc n) ss number is.1 (omega arith)
    where
      other : (me n number : ℕ) → me ≡ n → n < number → nat_eq me number ≡ false
      other me n number e less = grind (arith, nat_tests)

-- the core at a place, and beyond all places
pub have_at : (digest : List ℕ → List ℕ) (bits : ℕ) (ss : List State) (cid : List ℕ) (number : ℕ) (s : State) → NumberedFrom 0 ss → number < length ss → s ≡ get_or ss number s
    → has digest bits s cid ≡ have digest bits ss cid number
have_at digest bits ss cid number s is less e = ap (λ (x : State). has digest bits x cid) e ∙ sym (have_here digest bits cid 0 ss number number s is (omega arith) less)

pub have_none : (digest : List ℕ → List ℕ) (bits : ℕ) (ss : List State) (cid : List ℕ) (number : ℕ) → NumberedFrom 0 ss → length ss ≤ number
    → false ≡ have digest bits ss cid number
have_none digest bits ss cid number is more = sym (have_beyond digest bits cid 0 ss number is (omega arith))

-- ---- the blocks of a core

-- of the core's CIDs, those that aren't left are entered
abbrev pub Done : (List ℕ → List ℕ) → ℕ → State → List Table → List (List ℕ) → Type 0
Done digest bits s tables left = (cid : List ℕ) → has digest bits s cid ≡ true → (set.contains (entered tables cid) s.me ≡ true) ⊎ (has_in digest left cid ≡ true)

-- those that are left are the core's
abbrev pub Left : (List ℕ → List ℕ) → ℕ → State → List (List ℕ) → Type 0
Left digest bits s left = (cid : List ℕ) → has_in digest left cid ≡ true → has digest bits s cid ≡ true

module _ (digest : List ℕ → List ℕ) (bits : ℕ) (s : State) (tables : List Table) where
  pub done_start : (bs : List (List ℕ)) → ((cid : List ℕ) → has_in digest bs cid ≡ has digest bits s cid) → Done digest bits s tables bs × Left digest bits s bs
  done_start bs same = (λ cid h. inr (same cid ∙ h), λ cid h. sym (same cid) ∙ h)

  step : (b : List ℕ) (left : List (List ℕ)) (cid : List ℕ) → set.contains (entered tables (cid_of digest b)) s.me ≡ true
      → (t : Bool) → bytes_eq (cid_of digest b) cid ≡ t → (t || has_in digest left cid) ≡ true
      → (set.contains (entered tables cid) s.me ≡ true) ⊎ (has_in digest left cid ≡ true)
  step b left cid is true e h = inl (ap (λ (c : List ℕ). set.contains (entered tables c) s.me) (sym ((bytes_eq-Decides (cid_of digest b) cid).0 e)) ∙ is)
  step b left cid is false e h = inr h

  pub done_step : (b : List ℕ) (left whole : List (List ℕ)) → whole ≡ b ∷ left → set.contains (entered tables (cid_of digest b)) s.me ≡ true
      → Done digest bits s tables whole × Left digest bits s whole → Done digest bits s tables left × Left digest bits s left
  done_step b left whole e is h =
      let d = subst (λ bs. Done digest bits s tables bs × Left digest bits s bs) e h in (
        λ cid in_s. ⊎_elim (λ done. inl done) (λ more. step b left cid is (bytes_eq (cid_of digest b) cid) refl more) (d.0 cid in_s),
        λ cid more. d.1 cid (later (bytes_eq (cid_of digest b) cid) _ more),
      )
    where
      later : (x y : Bool) → y ≡ true → (x || y) ≡ true
      later true y e = refl
      later false y e = e

  pub missed : (b : List ℕ) (left whole : List (List ℕ)) → whole ≡ b ∷ left → set.contains (entered tables (cid_of digest b)) s.me ≡ false
      → Left digest bits s whole → IsMissed digest bits s tables
  missed b left whole e not h =
      (cid_of digest b, subst (Left digest bits s) e h (cid_of digest b) (ap (λ t. t || has_in digest left (cid_of digest b)) ((bytes_eq-Decides (cid_of digest b) (cid_of digest b)).1 refl)), not)

  pub done_end : (left : List (List ℕ)) → left ≡ [] → Done digest bits s tables left → IsEntered digest bits s tables
  done_end left e h cid in_s = ⊎_elim (λ done. done) (λ more. absurd (true≢false (sym more))) (subst (Done digest bits s tables) e h cid in_s)

-- the table of a CID
pub entered_at : (tables : List Table) (cid : List ℕ) (at : ℕ) (t : Table) → length tables ≡ 16 → at ≡ shard_of cid → at < 16 → t ≡ get_or tables at t → entered tables cid ≡ cores_at (get_or tables at t) cid
entered_at tables cid at t size e less is =
    ap (λ (x : Table). cores_at x cid) (ap (λ n. get_or tables n no_table) (sym e) ∙ sym (get_or_read tables at t (omega (arith, size)) is no_table) ∙ is)

-- what a look-up for a block and a core answers
pub looked_up : (tables : List Table) (cid name : List ℕ) (me core at : ℕ) (t : Table) (r : Bool) → length tables ≡ 16 → name ≡ cid → core ≡ me → at ≡ shard_of name → at < 16
    → t ≡ get_or tables at t → r ≡ set.contains (cores_at (get_or tables at t) name) core → set.contains (entered tables cid) me ≡ r
looked_up tables cid name me core at t r size named mine e less is answer =
    ap (λ (c : List ℕ). set.contains (entered tables c) me) (sym named)
    ∙ ap (λ (s : set.FinSet nat_cmp). set.contains s me) (entered_at tables name at t size e less is)
    ∙ ap (λ (n : ℕ). set.contains (cores_at (get_or tables at t) name) n) (sym mine)
    ∙ sym answer

-- ---- the entries of a table

-- the set under a CID
abbrev pub look : List (List ℕ × set.FinSet nat_cmp) → List ℕ → set.FinSet nat_cmp
look [] q = set.empty
look (e ∷ es) q = cond (is_eq (slice_cmp nat_cmp q e.0)) e.1 (look es q)

pub record Going (digest : List ℕ → List ℕ) (bits : ℕ) (cores : List State) (shard : ℕ) (table : Table) (left : List (List ℕ × set.FinSet nat_cmp)) : Type 0 where
  pub once : IsDistinct (pointwise nat_eq) (keys_of left)
  pub done : (cid : List ℕ) (number : ℕ) → shard_of cid ≡ shard → set.contains (cores_at table cid) number ≡ true
      → (have digest bits cores cid number ≡ true) ⊎ (set.contains (look left cid) number ≡ true)
  pub rest : (cid : List ℕ) (number : ℕ) → set.contains (look left cid) number ≡ true → set.contains (cores_at table cid) number ≡ true

abbrev or_nobody : Option (set.FinSet nat_cmp) → set.FinSet nat_cmp
or_nobody None = set.empty
or_nobody (Some s) = s

look_found : (es : List (List ℕ × set.FinSet nat_cmp)) (q : List ℕ) → look es q ≡ or_nobody (map.find (slice_cmp nat_cmp) q es)
look_found [] q = refl
look_found (e ∷ es) q = at_head (is_eq (slice_cmp nat_cmp q e.0)) (look_found es q)
  where
    at_head : (b : Bool) → look es q ≡ or_nobody (map.find (slice_cmp nat_cmp) q es)
        → cond b e.1 (look es q) ≡ or_nobody (cond b (Some e.1) (map.find (slice_cmp nat_cmp) q es))
    at_head true h = refl
    at_head false h = h

cores_found : (o : Option Held) → or_nobody (option_map (λ e. e.1) o) ≡ cores_of o
cores_found None = refl
cores_found (Some e) = refl

-- what a listing has under a CID is what its table has
pub look_listed : (t : Table) (items : List (List ℕ × set.FinSet nat_cmp)) → IsListing t items → (q : List ℕ) → look items q ≡ cores_at t q
look_listed t items is q = look_found items q ∙ ap or_nobody (is.all q) ∙ cores_found (entry_at t q)

look_apart : (k : List ℕ) (es : List (List ℕ × set.FinSet nat_cmp)) → AllByRecursion (λ y. pointwise nat_eq k y ≡ false) (keys_of es) → look es k ≡ set.empty
look_apart k [] h = refl
look_apart k (e ∷ es) h = ap (λ b. cond b e.1 (look es k)) (sym (texts_ties k e.0) ∙ h.0) ∙ look_apart k es h.1

same : map.IsAntisymmetric (slice_cmp nat_cmp)
same = slice_cmp-IsAntisymmetric nat_cmp-IsAntisymmetric

module _ (digest : List ℕ → List ℕ) (bits : ℕ) (cores : List State) (shard : ℕ) (table : Table) where
  pub going_start : (items : List (List ℕ × set.FinSet nat_cmp)) → IsListing table items → Going digest bits cores shard table items
  going_start items is = record {
    once = is.once;
    done = λ cid number in_shard h. inr (ap (λ (s : set.FinSet nat_cmp). set.contains s number) (look_listed table items is cid) ∙ h);
    rest = λ cid number h. ap (λ (s : set.FinSet nat_cmp). set.contains s number) (sym (look_listed table items is cid)) ∙ h;
  }

  done_case : (k : List ℕ) (s : set.FinSet nat_cmp) (left : List (List ℕ × set.FinSet nat_cmp)) → (shard_of k ≡ shard → AllHave digest bits cores k s)
      → (cid : List ℕ) (number : ℕ) → shard_of cid ≡ shard → (o : Ordering) → slice_cmp nat_cmp cid k ≡ o
      → set.contains (cond (is_eq o) s (look left cid)) number ≡ true → (have digest bits cores cid number ≡ true) ⊎ (set.contains (look left cid) number ≡ true)
  done_case k s left all cid number in_shard Less e h = inr h
  done_case k s left all cid number in_shard Greater e h = inr h
  done_case k s left all cid number in_shard Equal e h =
      let is : cid ≡ k = same cid k e in
      inl (ap (λ (c : List ℕ). have digest bits cores c number) is ∙ all (ap shard_of (sym is) ∙ in_shard) number h)

  rest_case : (k : List ℕ) (s : set.FinSet nat_cmp) (left : List (List ℕ × set.FinSet nat_cmp)) → AllByRecursion (λ y. pointwise nat_eq k y ≡ false) (keys_of left)
      → (cid : List ℕ) (number : ℕ) (o : Ordering) → slice_cmp nat_cmp cid k ≡ o
      → set.contains (look left cid) number ≡ true → set.contains (cond (is_eq o) s (look left cid)) number ≡ true
  rest_case k s left apart cid number Less e h = h
  rest_case k s left apart cid number Greater e h = h
  rest_case k s left apart cid number Equal e h =
      let is : cid ≡ k = same cid k e in
      absurd (true≢false (sym h ∙ ap (λ (c : List ℕ). set.contains (look left c) number) is
      ∙ ap (λ (x : set.FinSet nat_cmp). set.contains x number) (look_apart k left apart) ∙ set.contains-empty nat_cmp number))

  pub going_step : (k : List ℕ) (s : set.FinSet nat_cmp) (left whole : List (List ℕ × set.FinSet nat_cmp)) → whole ≡ (k, s) ∷ left
      → (shard_of k ≡ shard → AllHave digest bits cores k s) → Going digest bits cores shard table whole → Going digest bits cores shard table left
  going_step k s left whole e all h =
      let g : Going digest bits cores shard table ((k, s) ∷ left) = subst (Going digest bits cores shard table) e h in record {
        once = IsDistinct-tail (pointwise nat_eq) k (keys_of left) g.once;
        done = λ cid number in_shard x. ⊎_elim (λ y. inl y) (λ y. done_case k s left all cid number in_shard (slice_cmp nat_cmp cid k) refl y) (g.done cid number in_shard x);
        rest = λ cid number x. g.rest cid number (rest_case k s left (IsDistinct-head (pointwise nat_eq) k (keys_of left) g.once) cid number (slice_cmp nat_cmp cid k) refl x);
      }

  -- what an item has, the table has under its CID
  pub going_item : (k : List ℕ) (s : set.FinSet nat_cmp) (left whole : List (List ℕ × set.FinSet nat_cmp)) → whole ≡ (k, s) ∷ left
      → Going digest bits cores shard table whole → (number : ℕ) → set.contains s number ≡ true → set.contains (cores_at table k) number ≡ true
  going_item k s left whole e h number x =
      let g : Going digest bits cores shard table ((k, s) ∷ left) = subst (Going digest bits cores shard table) e h in
      g.rest k number (ap (λ o. set.contains (cond (is_eq o) s (look left k)) number) (tied_itself nat_list_cmp_total k) ∙ x)

  pub going_without : (k : List ℕ) (s : set.FinSet nat_cmp) (left whole : List (List ℕ × set.FinSet nat_cmp)) → whole ≡ (k, s) ∷ left
      → Going digest bits cores shard table whole → shard_of k ≡ shard → IsWithout digest bits cores k s → AreWithout digest bits cores shard table
  going_without k s left whole e h in_shard a = (k, in_shard, (a.0, going_item k s left whole e h a.0 a.1, a.2))

  pub going_end : (left : List (List ℕ × set.FinSet nat_cmp)) → left ≡ [] → Going digest bits cores shard table left → AreHad digest bits cores shard table
  going_end left e h cid in_shard number x =
      let g : Going digest bits cores shard table [] = subst (Going digest bits cores shard table) e h in
      ⊎_elim (λ y. y) (λ y. absurd (true≢false (sym y ∙ set.contains-empty nat_cmp number))) (g.done cid number in_shard x)

small_in : (digest : List ℕ → List ℕ) (t : Table) (cid : List ℕ) (number : ℕ) → IsLawful digest t → (o : Option Held) → entry_at t cid ≡ o → set.contains (cores_of o) number ≡ true → number < 1024
small_in digest t cid number l None e h = absurd (true≢false (sym h ∙ set.contains-empty nat_cmp number))
small_in digest t cid number l (Some x) e h = (l.entries cid x e).small number h

-- cores that are entered are below 1,024
pub small_at : (digest : List ℕ → List ℕ) (t : Table) (cid : List ℕ) (number : ℕ) → IsLawful digest t → set.contains (cores_at t cid) number ≡ true → number < 1024
small_at digest t cid number l h = small_in digest t cid number l (entry_at t cid) refl h

-- ---- the whole

true_both : (a b : Bool) → (a ≡ true → b ≡ true) → (b ≡ true → a ≡ true) → a ≡ b
true_both true true f g = refl
true_both false false f g = refl
true_both true false f g = sym (f refl)
true_both false true f g = g refl

module _ (digest : List ℕ → List ℕ) (bits : ℕ) (tables : List Table) (cid : List ℕ) (number : ℕ) where
  one_case : (s : State) (a : Bool) → nat_eq s.me number ≡ a → (b : Bool) → has digest bits s cid ≡ b → (rest : Bool)
      → IsEntered digest bits s tables → (rest ≡ true → set.contains (entered tables cid) number ≡ true)
      → ((a && b) || rest) ≡ true → set.contains (entered tables cid) number ≡ true
  one_case s true me true h rest is later x = ap (λ n. set.contains (entered tables cid) n) (sym (number_is s.me number me)) ∙ is cid h
    where
      number_is : (a b : ℕ) → nat_eq a b ≡ true → a ≡ b
      number_is a b e = grind (arith, nat_tests)
  one_case s true me false h rest is later x = later x
  one_case s false me b h rest is later x = later x

  from_have : (cores : List State) → AllByRecursion (λ s. IsEntered digest bits s tables) cores → have digest bits cores cid number ≡ true
      → set.contains (entered tables cid) number ≡ true
  from_have [] all h = absurd (true≢false (sym h))
  from_have (s ∷ ss) all h = one_case s (nat_eq s.me number) refl (has digest bits s cid) refl (have digest bits ss cid number) all.0 (from_have ss all.1) h

  have_own : (cores : List State) (at : ℕ) (s : State) → at < length cores → s ≡ get_or cores at s → has digest bits s cid ≡ true → s.me ≡ number
      → have digest bits cores cid number ≡ true
  have_own [] at s less e h n = absurd (omega arith)
  have_own (x ∷ xs) zero s less e h n =
      ap (λ b. b || have digest bits xs cid number) (both_true (this x.me number (ap (λ (y : State). y.me) (sym e) ∙ n)) (ap (λ (y : State). has digest bits y cid) (sym e) ∙ h))
    where
      this : (a b : ℕ) → a ≡ b → nat_eq a b ≡ true
      this a b e = grind (arith, nat_tests)

      both_true : {a b : Bool} → a ≡ true → b ≡ true → (a && b) ≡ true
      both_true {a} {b} p q = (λ i. p i && q i)
  have_own (x ∷ xs) (suc at) s less e h n = later (nat_eq x.me number && has digest bits x cid) _ (have_own xs at s (omega arith) e h n)
    where
      later : (x y : Bool) → y ≡ true → (x || y) ≡ true
      later true y e = refl
      later false y e = e

-- all tables up to the last, and all cores
pub is_even : (digest : List ℕ → List ℕ) (bits : ℕ) (cores : List State) (tables : List Table) → NumberedFrom 0 cores
    → All (λ s. IsEntered digest bits s tables) cores → length tables ≡ 16
    → ((shard : ℕ) → shard < 16 → AreHad digest bits cores shard (get_or tables shard no_table)) → IsEven digest bits cores tables
is_even digest bits cores tables numbered all size had = record {
  numbered = numbered;
  same = λ cid number. true_both _ _
      (λ h. had (shard_of cid) (mod_lt _) cid refl number h)
      (from_have digest bits tables cid number cores (recursion_from_All (λ s. IsEntered digest bits s tables) cores all));
}
  where
    mod_lt : (n : ℕ) → n % 16 < 16
    mod_lt n = omega arith

pub missed_is : (digest : List ℕ → List ℕ) (bits : ℕ) (cores : List State) (tables : List Table) (at : ℕ) (s : State) → at < length cores → s ≡ get_or cores at s
    → IsMissed digest bits s tables → IsMiscounted digest bits cores tables
missed_is digest bits cores tables at s less e m =
    (m.0, s.me, λ same. true≢false (sym (have_own digest bits tables m.0 s.me cores at s less e m.1 refl) ∙ sym same ∙ m.2))

pub without_is : (digest : List ℕ → List ℕ) (bits : ℕ) (cores : List State) (tables : List Table) (shard : ℕ) (t : Table) → length tables ≡ 16 → shard < 16 → t ≡ get_or tables shard t
    → AreWithout digest bits cores shard t → IsMiscounted digest bits cores tables
without_is digest bits cores tables shard t size less e a = (
  a.0,
  a.2.0,
  λ same. true≢false (sym a.2.1 ∙ ap (λ (x : Table). set.contains (cores_at x a.0) a.2.0)
      (get_or_read tables shard t (omega (arith, size)) e no_table ∙ ap (λ n. get_or tables n no_table) (sym a.1)) ∙ same ∙ a.2.2),
)
