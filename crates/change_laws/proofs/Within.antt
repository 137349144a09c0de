-- What it means that a batch keeps within what a tree has for it.
use Rattle.std.proofs.Common.{◌≡◌, ℕ, Bool, true, false, cond, ◌&&◌, List, [], ◌∷◌, ◌++◌, length, refl, ap, Option, Result, Ok, Err}
use Rattle.std.specs.Prelude.{nat_le}
use Rattle.std.specs.List.{AllByRecursion}
use Rattle.std.specs.declared.option.Option.TheVariants.{None}
use Rattle.std.proofs.lemmas.Bool.{le-leb, leb-true}
use Rattle.std.specs.Cmp.Lexicographic.{slice_cmp}
use Rattle.std.specs.Ordering.{nat_cmp, is_lt}
use Rattle.spec.specs.Reading.{◌>>=◌}
use Rattle.spec.specs.Layer.{layer}
use Rattle.spec.specs.NodeFormat.{Shape, LastLink, entries_of, is_key, are_keys_after}
use Rattle.spec.proofs.Bools.{both, and}
use Rattle.edit_laws.specs.Lawful.{HasKeys}
use Rattle.edit_laws.specs.Sources.{shown_by}
use Rattle.batch_laws.specs.Counts.{most_from}
use Rattle.batch_laws.specs.Links.{Rows, LinkEdge, LinkClear, LinkWaiting, LinkOpened, Step, Top, onto_links}
use Rattle.batch_laws.specs.Written.{AllGoOn}
use Rattle.batch_laws.specs.Within.{IsWithin, asked, at_top}
use Rattle.change_laws.specs.Within.{has_keys, have_keys, go_on, is_within}
use Rattle.change_laws.specs.Told.{KeyChange, undone}
use Rattle.change_laws.specs.Given.{NotTree, given_at, or_stop, or_fault, batch_over, batch_given}
use Rattle.change_laws.specs.Verdict.{change_verdict}

-- ---- keys

pub all-keys : (made : List Shape) → AllByRecursion HasKeys made → have_keys made ≡ true
all-keys [] h = refl
all-keys (s ∷ made) h = and (has_keys s) (have_keys made) h.0 (all-keys made h.1)

pub keys-all : (made : List Shape) → have_keys made ≡ true → AllByRecursion HasKeys made
keys-all [] h = tt
keys-all (s ∷ made) h = let k = both (has_keys s) (have_keys made) h in (k.0, keys-all made k.1)

-- what stands behind some rows says nothing of their keys
rows-keys : (before : List ℕ) (rows : Rows) (s : Shape) → are_keys_after before (entries_of (onto_links rows s)) ≡ true
    → are_keys_after before (entries_of (onto_links rows (LastLink None))) ≡ true
rows-keys before [] s h = refl
rows-keys before (x ∷ rows) s h =
    let key = x.1.0 in
    let own = is_lt (slice_cmp nat_cmp before key) && is_key key in
    let k = both own (are_keys_after key (entries_of (onto_links rows s))) h in
    and own (are_keys_after key (entries_of (onto_links rows (LastLink None)))) k.0 (rows-keys key rows s k.1)

pub all-go_on : (s : LinkEdge) → AllGoOn HasKeys s → go_on s ≡ true
all-go_on LinkClear h = refl
all-go_on (LinkWaiting c) h = refl
all-go_on (LinkOpened rows s) h =
    and (has_keys (onto_links rows (LastLink None))) (go_on s) (rows-keys [] rows h.0.0 h.0.1) (all-go_on s h.1)

pub go_on-all : (s : LinkEdge) → go_on s ≡ true → AllGoOn HasKeys s
go_on-all LinkClear h = tt
go_on-all (LinkWaiting c) h = tt
go_on-all (LinkOpened rows s) h =
    let k = both (has_keys (onto_links rows (LastLink None))) (go_on s) h in
    ((LastLink None, k.0), go_on-all s k.1)

-- ---- within

-- what the test says
pub within-says : (most : ℕ) (step : Step Top) → is_within most step ≡ true → IsWithin most (at_top step)
within-says most (Ok x) h =
    let n = length (x.1.read ++ x.0.1) in
    let k = both (nat_le n most) (have_keys x.1.made) h in
    (leb-true n most k.0, record { made = keys-all x.1.made k.1; begun = tt })
within-says most (Err e) h =
    let n = asked e.why e.log in
    let k = both (nat_le n most) (have_keys e.log.made && go_on e.edge) h in
    let w = both (have_keys e.log.made) (go_on e.edge) k.1 in
    (leb-true n most k.0, record { made = keys-all e.log.made w.0; begun = go_on-all e.edge w.1 })

pub within-is : (most : ℕ) (step : Step Top) → IsWithin most (at_top step) → is_within most step ≡ true
within-is most (Ok x) h =
    let n = length (x.1.read ++ x.0.1) in
    and (nat_le n most) (have_keys x.1.made) (le-leb n most h.0) (all-keys x.1.made h.1.made)
within-is most (Err e) h =
    let n = asked e.why e.log in
    and (nat_le n most) (have_keys e.log.made && go_on e.edge) (le-leb n most h.0)
    (and (have_keys e.log.made) (go_on e.edge) (all-keys e.log.made h.1.made) (all-go_on e.edge h.1.begun))

-- ---- not within

pub not-within : (most : ℕ) (step : Step Top) → (¬ IsWithin most (at_top step)) → is_within most step ≡ false
not-within most step h = by (is_within most step) refl
  where
    by : (b : Bool) → is_within most step ≡ b → is_within most step ≡ false
    by true q = absurd (h (within-says most step q))
    by false q = q

no-both : (b : Bool) → b ≡ false → b ≡ true → ⊥
no-both true h k = absurd cc
no-both false h k = absurd cc

pub beyond-is : (most : ℕ) (step : Step Top) → is_within most step ≡ false → ¬ IsWithin most (at_top step)
beyond-is most step h = λ w. no-both (is_within most step) h (within-is most step w)

-- ---- what a verdict makes of it

pub within-is_stop : {A : Type 0} (gives : List ℕ → Option A) (most : ℕ) (step : Step Top) → is_within most step ≡ true
    → or_fault gives most step ≡ or_stop gives step
within-is_stop gives most step h = ap (λ b. cond b (or_stop gives step) (Err NotTree)) h

pub beyond-is_fault : {A : Type 0} (gives : List ℕ → Option A) (most : ℕ) (step : Step Top) → is_within most step ≡ false
    → or_fault gives most step ≡ Err NotTree
beyond-is_fault gives most step h = ap (λ b. cond b (or_stop gives step) (Err NotTree)) h

-- so the verdict is that there is no tree
err-first : {A B E : Type 0} (r : Result A E) (f : A → Result B E) (fault : E) → r ≡ Err fault → (r >>= f) ≡ Err fault
err-first r f fault h = ap (λ t. t >>= f) h

pub beyond-is_verdict : (digest : List ℕ → List ℕ) (bits : ℕ) (before after : List ℕ) (given : List (List ℕ))
    (cs : List KeyChange) → let gives = given_at digest given in
    is_within (most_from (layer digest bits) (undone cs) (shown_by gives after))
    (batch_over digest bits gives (undone cs) after) ≡ false
    → change_verdict digest bits before after given cs ≡ Err NotTree
unfolding change_verdict
beyond-is_verdict digest bits before after given cs h =
    let gives = given_at digest given in
    let most = most_from (layer digest bits) (undone cs) (shown_by gives after) in
    err-first (batch_given digest bits given (undone cs) after) _ NotTree
    (beyond-is_fault gives most (batch_over digest bits gives (undone cs) after) h)
