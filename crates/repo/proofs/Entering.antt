-- The cores that a repository's calls enter in its store.
use Rattle.std.proofs.Common.{◌≡◌, ◌∙◌, ℕ, List, ap, sym, subst, refl, false}
use Rattle.std.specs.Prelude.{Option, is_some, option_map}
use Rattle.std.specs.Cmp.Lexicographic.{slice_cmp}
use Rattle.std.specs.FinMap as map
use Rattle.std.specs.Ordering.{nat_cmp}
use Rattle.spec.specs.States.{State}
use Rattle.store.specs.Stores.{Store}
use Rattle.kept.specs.Counts.{Keeping, none_kept}
use Rattle.kept.specs.Entering.{Enters, EntersKept, no_block}
use Rattle.kept.specs.Leaving.{is_held}
use Rattle.kept.proofs.Entering.{in_words, then}
use Rattle.repo.specs.Cores.{IsCore}
use Rattle.repo.specs.Readings.{has_block}
use Rattle.repo.proofs.Ended.{held}

-- nothing is held so far
none_held : (me : ℕ) (c : List ℕ) → is_held (none_kept me) c ≡ false
none_held me c = ap (λ (o : Option (List ℕ × ℕ)). is_some (option_map (λ u. u.0) o)) (map.get-empty (slice_cmp nat_cmp) c)

module _ {S D A : Type 0} (digest : List ℕ → List ℕ) (store : Store S D A) where
  -- a core that has just been opened
  pub opened : (me : ℕ) (k l : Keeping) (x y : S) → k ≡ none_kept me → EntersKept digest store k l x y
      → Enters digest store me no_block (is_held l) x y
  opened me k l x y e h =
      in_words digest store me (is_held (none_kept me)) (is_held l) no_block (is_held l) x y (λ c. sym (none_held me c)) (λ c. refl)
      (subst (λ (n : Keeping). EntersKept digest store n l x y) e h)

  -- one that is refused, and gives back what it holds
  pub not_opened : (me : ℕ) (k l : Keeping) (x y z : S) → k ≡ none_kept me → l.me ≡ k.me → EntersKept digest store k l x y
      → Enters digest store l.me (is_held l) no_block y z → Enters digest store me no_block no_block x z
  not_opened me k l x y z e same h end =
      then digest store me no_block (is_held l) no_block x y z (opened me k l x y e h)
      (subst (λ n. Enters digest store n (is_held l) no_block y z) (same ∙ ap (λ (n : Keeping). n.me) e) end)

module _ {S D A : Type 0} (digest : List ℕ → List ℕ) (bits : ℕ) (store : Store S D A) where
  -- what a core's blocks keep is what its states have
  pub core_entered : (seen s t : State) (root next : List ℕ) (commit last : Option (List ℕ)) (k l : Keeping) (x y : S) → s ≡ seen
      → k.me ≡ s.me → IsCore digest bits s root commit k → l.me ≡ t.me → IsCore digest bits t next last l
      → EntersKept digest store k l x y
      → Enters digest store seen.me (has_block digest bits seen) (has_block digest bits t) x y
  core_entered seen s t root next commit last k l x y e mine is yours are h =
      subst (λ (z : State). Enters digest store z.me (has_block digest bits z) (has_block digest bits t) x y) e
      (subst (λ me. Enters digest store me (has_block digest bits s) (has_block digest bits t) x y) mine
      (in_words digest store k.me (is_held k) (is_held l) (has_block digest bits s) (has_block digest bits t) x y
      (λ c. sym (held digest bits s root commit k is mine c)) (λ c. sym (held digest bits t next last l are yours c)) h))

  -- a core's first state, and its last
  pub first_entered : (t : State) (root : List ℕ) (commit : Option (List ℕ)) (k : Keeping) (x y : S) → k.me ≡ t.me → IsCore digest bits t root commit k
      → Enters digest store t.me no_block (is_held k) x y → Enters digest store t.me no_block (has_block digest bits t) x y
  first_entered t root commit k x y mine is h =
      in_words digest store t.me no_block (is_held k) no_block (has_block digest bits t) x y (λ c. refl)
      (λ c. sym (held digest bits t root commit k is mine c)) h

  pub last_entered : (seen s : State) (root : List ℕ) (commit : Option (List ℕ)) (k : Keeping) (x y : S) → s ≡ seen → k.me ≡ s.me
      → IsCore digest bits s root commit k → Enters digest store k.me (is_held k) no_block x y
      → Enters digest store seen.me (has_block digest bits seen) no_block x y
  last_entered seen s root commit k x y e mine is h =
      subst (λ (z : State). Enters digest store z.me (has_block digest bits z) no_block x y) e
      (subst (λ me. Enters digest store me (has_block digest bits s) no_block x y) mine
      (in_words digest store k.me (is_held k) no_block (has_block digest bits s) no_block x y
      (λ c. sym (held digest bits s root commit k is mine c)) (λ c. refl) h))
