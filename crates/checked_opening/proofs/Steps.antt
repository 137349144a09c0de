-- The steps of an opening, put together.
use Rattle.std.proofs.Common.{◌≡◌, ℕ, ◌≤◌, true, false, List, [], ◌∷◌, length, Ok, refl, sym, ap, subst, ◌∙◌, arith}
use Rattle.std.specs.Prelude.{◌==◌, map}
use Rattle.std.proofs.lemmas.Bool.{eqb-true}
use Rattle.spec.specs.Stamps.{Stamp}
use Rattle.spec.specs.Writes.{Write}
use Rattle.spec.specs.SignedCommits.{Commit}
use Rattle.spec.specs.States.{State, after_batch, fresh, state_test}
use Rattle.block.specs.Writes.{writes_of}
use Rattle.block.specs.declared.write.Write.{Write as Written}
use Rattle.batches.specs.declared.fault.RepoFault.{RepoFault}
use Rattle.store.specs.Stores.{Store}
use Rattle.repository_check.specs.Views.{keyed_record}
use Rattle.repository_check.specs.declared.repository.Record.{Record}
use Rattle.kept.specs.Entering.{Enters, no_block}
use Rattle.kept.proofs.Entering.{then}
use Rattle.repo.specs.Readings.{has_block}
use Rattle.repo.specs.Refusals.{IsRefusal}
use Rattle.checked_opening.specs.Opening.{AreOpenable, Passes, after_one, creates, opened, stamp_in}
use Rattle.checked_opening.specs.Refusals.{AreRefused, IsBatchRefusal}
use Rattle.checked_opening.proofs.Creating.{passes-creates}
use Rattle.checked_opening.proofs.Refused.{after-opening, batch-refused}

abbrev Records : Type 0
Records = List (List ℕ × List ℕ)

-- ---- one batch, or none

pub after-none : {A : Type 0} (s : State) (stamp : Stamp) (ws : List (Written A)) → (length ws == 0) ≡ true → s ≡ after_one s stamp (writes_of ws)
after-none s stamp [] none = refl
after-none s stamp (w ∷ ws) none = let e : length (w ∷ ws) ≡ 0 = eqb-true (length (w ∷ ws)) 0 none in absurd (omega arith)

pub after-some : {A : Type 0} (s t : State) (stamp : Stamp) (ws : List (Written A)) → (length ws == 0) ≡ false → t ≡ after_batch s stamp (writes_of ws)
    → t ≡ after_one s stamp (writes_of ws)
after-some s t stamp [] some h = absurd cc
after-some s t stamp (w ∷ ws) some h = h

pub passes-some : {A : Type 0} (s : State) (stamp : Stamp) (ws : List (Written A)) → (length ws == 0) ≡ false → Passes s stamp (writes_of ws)
    → state_test s stamp (writes_of ws) ≡ Ok tt
passes-some s stamp [] some h = absurd cc
passes-some s stamp (w ∷ ws) some h = h

pub some-refused : {D A : Type 0} (digest : List ℕ → List ℕ) (bits : ℕ) (s : State) (stamp : Stamp) (ws : List (Written A)) (before after : ℕ)
    (refusal : ℕ × RepoFault D A) → (length ws == 0) ≡ false → Passes s stamp (writes_of ws)
    → IsRefusal digest bits s stamp (writes_of ws) before after refusal → IsBatchRefusal digest bits s stamp (writes_of ws) before after refusal.1
some-refused digest bits s stamp ws before after refusal some passes h =
    batch-refused _ _ digest bits s stamp (writes_of ws) before after refusal.0 refusal.1 (passes-some s stamp ws some passes) h

-- ---- the writes that were made

-- those that are lent are those of the records that were lent
pub created : {A : Type 0} (rs ss : List (Record A)) (ws vs : List (Written A)) → ss ≡ rs → vs ≡ ws
    → writes_of ws ≡ creates (map keyed_record ss) → writes_of vs ≡ creates (map keyed_record rs)
created rs ss ws vs e f h = ap writes_of f ∙ h ∙ ap (λ xs. creates (map keyed_record xs)) e

-- ---- after the opening

pub is-after : (me limit : ℕ) (c : Commit) (m : Records) (core : State) (stamp : Stamp) (ws : List Write) → core ≡ fresh me limit → stamp ≡ stamp_in c
    → ws ≡ creates m → after_one core stamp ws ≡ opened me limit c m
is-after me limit c m core stamp ws e f g =
    ap (λ (s : State). after_one s stamp ws) e ∙ ap (λ (t : Stamp). after_one (fresh me limit) t ws) f
    ∙ ap (λ (vs : List Write). after_one (fresh me limit) (stamp_in c) vs) g

pub is-passed : (digest : List ℕ → List ℕ) (bits me limit : ℕ) (c : Commit) (m : Records) (core : State) (stamp : Stamp) (ws : List Write) → core ≡ fresh me limit
    → stamp ≡ stamp_in c → ws ≡ creates m → AreOpenable digest bits c m → length m ≤ limit → Passes core stamp ws
is-passed digest bits me limit c m core stamp ws e f g is room =
    subst (λ (s : State). Passes s stamp ws) (sym e) (subst (λ (t : Stamp). Passes (fresh me limit) t ws) (sym f)
    (subst (λ (vs : List Write). Passes (fresh me limit) (stamp_in c) vs) (sym g) (passes-creates digest bits me limit c m is room)))

pub is-refused : {D A : Type 0} (digest : List ℕ → List ℕ) (bits me limit : ℕ) (c : Commit) (m : Records) (core : State) (stamp : Stamp) (ws : List Write)
    (before opening after end : ℕ) (fault : RepoFault D A) → core ≡ fresh me limit → stamp ≡ stamp_in c → ws ≡ creates m → opening ≡ before → end ≡ after
    → IsBatchRefusal digest bits core stamp ws opening after fault
    → AreRefused digest bits (fresh me limit) (stamp_in c) (creates m) before end fault
is-refused digest bits me limit c m core stamp ws before opening after end fault e f g same last h =
    subst (λ (n : ℕ). AreRefused digest bits (fresh me limit) (stamp_in c) (creates m) before n fault) (sym last)
    (after-opening digest bits (fresh me limit) (stamp_in c) (creates m) before after fault
    (subst (λ (n : ℕ). IsBatchRefusal digest bits (fresh me limit) (stamp_in c) (creates m) n after fault) same
    (subst (λ (vs : List Write). IsBatchRefusal digest bits (fresh me limit) (stamp_in c) vs opening after fault) g
    (subst (λ (t : Stamp). IsBatchRefusal digest bits (fresh me limit) t ws opening after fault) f
    (subst (λ (s : State). IsBatchRefusal digest bits s stamp ws opening after fault) e h)))))

-- ---- in the store

module _ {S D A : Type 0} (digest : List ℕ → List ℕ) (store : Store S D A) where
  pub entered-after : (bits me limit : ℕ) (core after : State) (s t u : S) → core ≡ fresh me limit
      → Enters digest store me no_block (has_block digest bits (fresh me limit)) s t
      → Enters digest store core.me (has_block digest bits core) (has_block digest bits after) t u
      → Enters digest store me no_block (has_block digest bits after) s u
  entered-after bits me limit core after s t u e a b =
      then digest store me no_block (has_block digest bits (fresh me limit)) (has_block digest bits after) s t u a
      (subst (λ (c : State). Enters digest store c.me (has_block digest bits c) (has_block digest bits after) t u) e b)

  -- a batch that was refused, and then the end
  pub left-after : (bits me limit : ℕ) (core after : State) (s t u v : S) → core ≡ fresh me limit → after ≡ core
      → Enters digest store me no_block (has_block digest bits (fresh me limit)) s t
      → Enters digest store core.me (has_block digest bits core) (has_block digest bits after) t u
      → Enters digest store after.me (has_block digest bits after) no_block u v
      → Enters digest store me no_block no_block s v
  left-after bits me limit core after s t u v e same a b d =
      then digest store me no_block (has_block digest bits after) no_block s u v (entered-after bits me limit core after s t u e a b)
      (subst (λ (n : ℕ). Enters digest store n (has_block digest bits after) no_block u v) (ap (λ (c : State). c.me) (same ∙ e)) d)
