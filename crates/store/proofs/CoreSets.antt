-- Sets of one core, of two and of more.
use mathlib.Core.Bool.{true≢false}
use Rattle.std.proofs.Common.{◌≡◌, ◌≢◌, ℕ, zero, suc, ◌<◌, ◌+◌, ◌-◌, refl, sym, ap, subst, ◌∙◌, cond, nat_eq, Bool, true, false, arith}
use Rattle.std.specs.Prelude.{Option, None, Some, MatchOption, not, ◌&&◌, ◌||◌}
use Rattle.std.proofs.lemmas.Bool.Decides.{nat_tests}
use Rattle.std.specs.Ordering.{nat_cmp}
use Rattle.std.specs.Cmp.{nat_cmp_total, unsigned_tied}
use Rattle.std.specs.FinSet as set
use Rattle.std.specs.FinSet.{nat_cmp-IsAntisymmetric}
use Rattle.store.specs.Cores.{HasNoneFrom, IsNextFrom, IsOnly, IsSetOfMore}

abbrev nobody : set.FinSet nat_cmp
nobody = set.empty

abbrev one : ℕ → set.FinSet nat_cmp
one core = set.insert set.empty core

-- sets with the same members are the same
same : (s t : set.FinSet nat_cmp) → ((q : ℕ) → set.contains s q ≡ set.contains t q) → s ≡ t
same s t each = set.same_set nat_cmp_total nat_cmp-IsAntisymmetric s t each

in_insert : (s : set.FinSet nat_cmp) (k q : ℕ) → set.contains (set.insert s k) q ≡ (nat_eq q k || set.contains s q)
in_insert s k q = set.contains-insert nat_cmp_total s k q ∙ ap (λ b. b || set.contains s q) (unsigned_tied q k)

in_remove : (s : set.FinSet nat_cmp) (k q : ℕ) → set.contains (set.remove s k) q ≡ (not (nat_eq q k) && set.contains s q)
in_remove s k q = set.contains-remove nat_cmp_total s k q ∙ ap (λ b. not b && set.contains s q) (unsigned_tied q k)

in_one : (core q : ℕ) → set.contains (one core) q ≡ nat_eq q core
in_one core q = in_insert nobody core q ∙ ap (λ b. nat_eq q core || b) (set.contains-empty nat_cmp q) ∙ alone (nat_eq q core)
  where
    alone : (b : Bool) → (b || false) ≡ b
    alone true = refl
    alone false = refl

itself : (n : ℕ) → nat_eq n n ≡ true
itself n = grind (arith, nat_tests)

tied : (m n : ℕ) → nat_eq m n ≡ true → m ≡ n
tied m n e = grind (arith, nat_tests)

apart : (m n : ℕ) → m ≢ n → nat_eq m n ≡ false
apart m n d = grind (arith, nat_tests)

second : (a b : Bool) → (a && b) ≡ true → b ≡ true
second true b h = h
second false b h = absurd (true≢false (sym h))

-- ---- how many

pub len_one : (core : ℕ) → set.len (one core) ≡ 1
len_one core = set.len-insert nat_cmp_total nobody core
    ∙ ap (λ b. cond b (set.len nobody) (set.len nobody + 1)) (set.contains-empty nat_cmp core)
    ∙ ap (λ (n : ℕ). n + 1) (set.len-empty nat_cmp)

grown : (b : Bool) (n : ℕ) → 1 < n → 1 < cond b n (n + 1)
grown true n h = h
grown false n h = omega arith

less : (b : Bool) (n : ℕ) → 1 < n → 0 < cond b (n - 1) n
less true n h = omega arith
less false n h = omega arith

some_left : (s : set.FinSet nat_cmp) (core : ℕ) → 1 < set.len s → 0 < set.len (set.remove s core)
some_left s core more = subst (λ (n : ℕ). 0 < n) (sym (set.len-remove nat_cmp_total s core)) (less (set.contains s core) (set.len s) more)

-- what a set without members is
no_member : (s : set.FinSet nat_cmp) → ((q : ℕ) → set.contains s q ≡ false) → set.len s ≡ 0
no_member s none = ap (λ (t : set.FinSet nat_cmp). set.len t) (same s nobody (λ q. none q ∙ sym (set.contains-empty nat_cmp q))) ∙ set.len-empty nat_cmp

-- a set of one core is known by any member
alone : (s : set.FinSet nat_cmp) (core : ℕ) → set.len s ≡ 1 → set.contains s core ≡ true → s ≡ one core
alone s core single there = same s (one core) (λ q. by_core q (nat_eq q core) refl ∙ sym (in_one core q))
  where
    rest : set.remove s core ≡ nobody
    rest = set.empty_of_len (set.remove s core)
        (set.len-remove nat_cmp_total s core ∙ ap (λ b. cond b (set.len s - 1) (set.len s)) there ∙ ap (λ (n : ℕ). n - 1) single)

    by_core : (q : ℕ) (b : Bool) → nat_eq q core ≡ b → set.contains s q ≡ b
    by_core q true e = ap (set.contains s) (tied q core e) ∙ there
    by_core q false e =
        sym (in_remove s core q ∙ ap (λ b. not b && set.contains s q) e)
        ∙ ap (λ (t : set.FinSet nat_cmp). set.contains t q) rest ∙ set.contains-empty nat_cmp q

pub only_or_not : (s : set.FinSet nat_cmp) (o : Option ℕ) → set.len s ≡ 1
    → ((core : ℕ) → set.contains s core ≡ true → core < 1024)
    → MatchOption o (HasNoneFrom s 0) (IsNextFrom s 0) → MatchOption o (set.len s ≢ 1) (IsOnly s)
only_or_not s None single small none = absurd (let never : set.len s ≡ 0 = no_member s (λ q. none q (omega arith)) in omega (arith, never, single))
only_or_not s (Some core) single small next = record { small = small core next.there; alone = alone s core single next.there }

-- ---- one core comes or leaves

-- the core that is there comes again
pub again : (core : ℕ) → one core ≡ set.insert (one core) core
again core = same (one core) (set.insert (one core) core) (λ q.
    in_one core q ∙ sym (in_insert (one core) core q ∙ ap (λ b. nat_eq q core || b) (in_one core q) ∙ twice (nat_eq q core)))
  where
    twice : (b : Bool) → (b || b) ≡ b
    twice true = refl
    twice false = refl

-- a second core comes
pub both : (held core : ℕ) → held < 1024 → core < 1024 → held ≢ core → IsSetOfMore (set.insert (one held) core)
both held core small fits differ = record {
  more = subst (λ (n : ℕ). 1 < n) (sym (set.len-insert nat_cmp_total (one held) core
      ∙ ap (λ b. cond b (set.len (one held)) (set.len (one held) + 1)) (in_one held core ∙ apart core held (λ e. differ (sym e)))
      ∙ ap (λ (n : ℕ). n + 1) (len_one held))) (omega arith);
  small = λ q h. either q (nat_eq q core) (nat_eq q held) refl refl (sym (in_insert (one held) core q ∙ ap (λ b. nat_eq q core || b) (in_one held q)) ∙ h);
}
  where
    either : (q : ℕ) (a b : Bool) → nat_eq q core ≡ a → nat_eq q held ≡ b → (nat_eq q core || nat_eq q held) ≡ true → q < 1024
    either q true b e f h = let t = tied q core e in omega (arith, t, fits)
    either q false true e f h = let t = tied q held f in omega (arith, t, small)
    either q false false e f h = absurd (true≢false (sym h ∙ ap (λ x. x || nat_eq q held) e ∙ f))

-- one more core comes
pub one_more : (s : set.FinSet nat_cmp) (core : ℕ) → core < 1024 → IsSetOfMore s → IsSetOfMore (set.insert s core)
one_more s core fits is = record {
  more = subst (λ (n : ℕ). 1 < n) (sym (set.len-insert nat_cmp_total s core)) (grown (set.contains s core) (set.len s) is.more);
  small = λ q h. either q (nat_eq q core) refl (sym (in_insert s core q) ∙ h);
}
  where
    either : (q : ℕ) (a : Bool) → nat_eq q core ≡ a → (nat_eq q core || set.contains s q) ≡ true → q < 1024
    either q true e h = let t = tied q core e in omega (arith, t, fits)
    either q false e h = is.small q (sym (ap (λ x. x || set.contains s q) e) ∙ h)

-- what is left is known by its numbers
pub small_left : (s : set.FinSet nat_cmp) (core : ℕ) → IsSetOfMore s → (q : ℕ) → set.contains (set.remove s core) q ≡ true → q < 1024
small_left s core is q h = is.small q (second (not (nat_eq q core)) (set.contains s q) (sym (in_remove s core q) ∙ h))

-- more than one core is left
pub more_left : (s : set.FinSet nat_cmp) (core : ℕ) → IsSetOfMore s → set.len (set.remove s core) ≢ 1 → IsSetOfMore (set.remove s core)
more_left s core is not_one = record {
  more = two (set.len (set.remove s core)) (some_left s core is.more) not_one;
  small = small_left s core is;
}
  where
    two : (n : ℕ) → 0 < n → n ≢ 1 → 1 < n
    two zero h d = absurd (omega (arith, h))
    two (suc zero) h d = absurd (d refl)
    two (suc (suc n)) h d = omega arith

-- whether the one core leaves
pub last_of_one : (held core : ℕ) → nat_eq held core ≡ nat_eq (set.len (set.remove (one held) core)) 0
last_of_one held core = by_core (nat_eq held core) refl
  where
    by_core : (b : Bool) → nat_eq held core ≡ b → b ≡ nat_eq (set.len (set.remove (one held) core)) 0
    by_core true e = sym (ap (λ (n : ℕ). nat_eq n 0) (set.len-remove nat_cmp_total (one held) core
        ∙ ap (λ b. cond b (set.len (one held) - 1) (set.len (one held))) (in_one held core ∙ ap (λ (n : ℕ). nat_eq core n) (tied held core e) ∙ itself core)
        ∙ ap (λ (n : ℕ). n - 1) (len_one held)))
    by_core false e = sym (ap (λ (n : ℕ). nat_eq n 0) (set.len-remove nat_cmp_total (one held) core
        ∙ ap (λ b. cond b (set.len (one held) - 1) (set.len (one held))) (in_one held core ∙ turned (nat_eq core held) refl e)
        ∙ len_one held))
      where
        turned : (b : Bool) → nat_eq core held ≡ b → nat_eq held core ≡ false → b ≡ false
        turned true f e = absurd (true≢false (sym (ap (nat_eq held) (tied core held f) ∙ itself held) ∙ e))
        turned false f e = refl

-- another core leaves
pub other_left : (held core : ℕ) → nat_eq held core ≡ false → one held ≡ set.remove (one held) core
other_left held core e = same (one held) (set.remove (one held) core) (λ q. in_one held q ∙ by_core q (nat_eq q held) refl ∙ sym (in_remove (one held) core q ∙ ap (λ b. not (nat_eq q core) && b) (in_one held q)))
  where
    by_core : (q : ℕ) (b : Bool) → nat_eq q held ≡ b → nat_eq q held ≡ (not (nat_eq q core) && nat_eq q held)
    by_core q true f = f ∙ sym (ap (λ b. not (nat_eq q core) && b) f ∙ ap (λ b. not b && true) (ap (λ (n : ℕ). nat_eq n core) (tied q held f) ∙ e))
    by_core q false f = f ∙ sym (ap (λ b. not (nat_eq q core) && b) f ∙ none (nat_eq q core))
      where
        none : (b : Bool) → (not b && false) ≡ false
        none true = refl
        none false = refl

-- one core is left, and so not none
pub one_left : (s : set.FinSet nat_cmp) (core last : ℕ) → set.remove s core ≡ one last → false ≡ nat_eq (set.len (set.remove s core)) 0
one_left s core last e = sym (ap (λ (t : set.FinSet nat_cmp). nat_eq (set.len t) 0) e ∙ ap (λ (n : ℕ). nat_eq n 0) (len_one last))
