-- The changes of a batch that was taken: their keys, and what these have before it and after it.
use Rattle.std.proofs.Common.{◌≡◌, ℕ, suc, true, ◌&&◌, List, [], ◌∷◌, map, refl, sym, ap, ap₂, subst, ◌∙◌}
use Rattle.std.specs.Prelude.{Option, Some, None, option_map, Result, Ok, Err}
use Rattle.std.proofs.lemmas.List.{append-nil}
use Rattle.std.proofs.lemmas.Slice.Eq.{bytes_eq-Decides}
use Rattle.std.specs.List.{AllByRecursion}
use Rattle.spec.specs.Cid.{IsDigest, cid}
use Rattle.spec.specs.Reading.{◌>>=◌, ensure}
use Rattle.spec.specs.NodeFormat.{is_key}
use Rattle.spec.specs.Tree.{Pair}
use Rattle.spec.specs.Blocks.{pairs, value_of}
use Rattle.spec.specs.Stamps.{Stamp}
use Rattle.spec.specs.Writes.{Write, WriteFault, batch_test, leaves}
use Rattle.spec.specs.States.{State, records}
use Rattle.edit_laws.specs.Order.{order}
use Rattle.edit_laws.specs.Staged.{records_after}
use Rattle.batch_laws.specs.Batch.{Change, changed}
use Rattle.batch_laws.specs.Collecting.{collected, with_cids}
use Rattle.batch_laws.specs.Previous.{values}
use Rattle.batch_laws.proofs.WritesAtOnce.{collected-are_keyed, passed-have_keys}
use Rattle.key_changes.specs.Keyed.{are_ascending, are_changes, are_later, have_keys, is_greater}
use Rattle.key_changes.proofs.Ascending.{keyed-changes}
use Rattle.change_laws.specs.Told.{KeyChange, undone}
use Rattle.change_laws.specs.Given as laws
use Rattle.change_laws.specs.Verdict.{are_told, is_same}
use Rattle.step_laws.specs.Turned.{done}
use Rattle.repo.proofs.Exchanging.{pairs-changed_after}
use Rattle.change_proofs.specs.Provings.{told_by}
use Rattle.change_proofs.specs.StepProvings.{IsStepOf}
use Rattle.change_commands.specs.Texts.{change_between, changes_of_batch}
use Rattle.repository_commands.specs.Faults.{Fault}
use Rattle.repository_commands.specs.Puts.{Given}
use Rattle.repository_commands.specs.Texts.{at_its_line, state_of, state_of_given, unless_stopped, writes_check}

-- ---- that changes can be taken is a matter of their keys

module _ (f g : Change → Change) (same : (c : Change) → (f c).0 ≡ (g c).0) where
  later-same : (k l : List ℕ) → k ≡ l → (cs : List Change) → are_later k (map f cs) ≡ are_later l (map g cs)
  later-same k l e [] = refl
  later-same k l e (c ∷ cs) = ap₂ (λ a b. a && b) (ap₂ (λ x y. is_greater (order x y)) (same c) e) (later-same k l e cs)

  ascending-same : (cs : List Change) → are_ascending (map f cs) ≡ are_ascending (map g cs)
  ascending-same [] = refl
  ascending-same (c ∷ cs) = ap₂ (λ a b. a && b) (later-same (f c).0 (g c).0 (same c) cs) (ascending-same cs)

  keys-same : (cs : List Change) → have_keys (map f cs) ≡ have_keys (map g cs)
  keys-same [] = refl
  keys-same (c ∷ cs) = ap₂ (λ a b. a && b) (ap is_key (same c)) (keys-same cs)

  changes-same : (cs : List Change) → are_changes (map f cs) ≡ are_changes (map g cs)
  changes-same cs = ap₂ (λ a b. a && b) (ascending-same cs) (keys-same cs)

undone-between : (digest : List ℕ → List ℕ) (s t : State) (cs : List Change)
    → undone (map (change_between digest s t) cs) ≡ map (λ c. (c.0, value_of c.0 (pairs digest (records s)))) cs
undone-between digest s t [] = refl
undone-between digest s t (c ∷ cs) = ap (λ us. (c.0, value_of c.0 (pairs digest (records s))) ∷ us) (undone-between digest s t cs)

passed-at : (numbers : List ℕ) (r : Result (Unit {0}) (ℕ × WriteFault)) → at_its_line numbers r ≡ Ok tt → r ≡ Ok tt
passed-at numbers (Ok ok) e = refl
passed-at numbers (Err f) e = absurd cc

-- of writes that are taken
pub writes-keyed : (digest : List ℕ → List ℕ) → IsDigest digest → (s : State) (given : Given) → writes_check s given ≡ Ok tt
    → are_changes (with_cids digest (collected given.writes)) ≡ true
writes-keyed digest fits s given h =
    let passed = passed-at given.numbers (batch_test s.limit s.accepted given.writes) h in
    keyed-changes (with_cids digest (collected given.writes))
    (collected-are_keyed digest fits given.writes (passed-have_keys s.limit s.accepted given.writes passed)).0

pub batch-keyed : (digest : List ℕ → List ℕ) → IsDigest digest → (s t : State) (given : Given) → writes_check s given ≡ Ok tt
    → are_changes (undone (changes_of_batch digest s t given.writes)) ≡ true
batch-keyed digest fits s t given h =
    ap are_changes (undone-between digest s t (collected given.writes))
    ∙ changes-same (λ c. (c.0, value_of c.0 (pairs digest (records s)))) (λ c. (c.0, option_map (cid digest) c.1)) (λ c. refl) (collected given.writes)
    ∙ writes-keyed digest fits s given h

-- the writes are taken where there is a repository after them
writes-taken : {A : Type 0} (r : Result (Unit {0}) Fault) (stop : Result (Unit {0}) Fault) (x y : A)
    → (r >>= (λ ok. stop >>= (λ all. Ok x))) ≡ Ok y → r ≡ Ok tt
writes-taken (Ok ok) stop x y e = refl
writes-taken (Err f) stop x y e = absurd cc

abbrev or_first : {A : Type 0} → A → Result A Fault → A
or_first x (Ok y) = y
or_first x (Err f) = x

-- and this is it
state-taken : {A : Type 0} (r : Result (Unit {0}) Fault) (stop : Result (Unit {0}) Fault) (x y : A)
    → (r >>= (λ ok. stop >>= (λ all. Ok x))) ≡ Ok y → x ≡ y
state-taken (Ok ok) (Ok all) x y e = ap (or_first x) e
state-taken (Ok ok) (Err f) x y e = absurd cc
state-taken (Err f) stop x y e = absurd cc

pub taken-writes : (s t : State) (stamp : Stamp) (given : Given) → state_of_given s stamp given ≡ Ok t → writes_check s given ≡ Ok tt
unfolding state_of_given
taken-writes s t stamp given e = writes-taken (writes_check s given) (unless_stopped given.stop) (state_of s stamp given.writes) t e

taken-state : (s t : State) (stamp : Stamp) (given : Given) → state_of_given s stamp given ≡ Ok t → state_of s stamp given.writes ≡ t
unfolding state_of_given
taken-state s t stamp given e = state-taken (writes_check s given) (unless_stopped given.stop) (state_of s stamp given.writes) t e

records-taken : (s : State) (stamp : Stamp) (ws : List Write) → records (state_of s stamp ws) ≡ records_after s ws
records-taken s stamp [] = ap leaves (sym (append-nil s.accepted))
records-taken s stamp (w ∷ ws) = refl

-- the pairs after them are those before with the changes done
pub pairs-taken : (digest : List ℕ → List ℕ) (s t : State) (stamp : Stamp) (given : Given) → state_of_given s stamp given ≡ Ok t
    → pairs digest (records t) ≡ changed (with_cids digest (collected given.writes)) (pairs digest (records s))
pairs-taken digest s t stamp given e =
    ap (λ (u : State). pairs digest (records u)) (sym (taken-state s t stamp given e))
    ∙ ap (pairs digest) (records-taken s stamp given.writes)
    ∙ sym (pairs-changed_after digest s given.writes)

-- ---- what the keys have is what is told

same-self : (x : Option (List ℕ)) → is_same x x ≡ true
same-self None = refl
same-self (Some x) = (bytes_eq-Decides x x).1 refl

told-from : (digest : List ℕ → List ℕ) (s t : State) (place : ℕ) (cs : List Change)
    → are_told place (values (undone (map (change_between digest s t) cs)) (pairs digest (records t))) (map (change_between digest s t) cs) ≡ Ok tt
told-from digest s t place [] = refl
told-from digest s t place (c ∷ cs) =
    let v = value_of c.0 (pairs digest (records t)) in
    ap (λ b. ensure b (laws.OtherValue place) >>= (λ same. are_told (suc place) (values (undone (map (change_between digest s t) cs)) (pairs digest (records t))) (map (change_between digest s t) cs))) (same-self v)
    ∙ told-from digest s t (suc place) cs

pub all-told : (digest : List ℕ → List ℕ) (s t : State) (ws : List Write)
    → told_by (pairs digest (records t)) (changes_of_batch digest s t ws) ≡ Ok tt
all-told digest s t ws = told-from digest s t 0 (collected ws)

-- ---- what was told ahead of a batch is what it came to

abbrev made : List ℕ → Option (List ℕ) → Option (List ℕ) → KeyChange
made key before after = record { key = key; before = before; after = after }

abbrev first_key : List Change → List ℕ
first_key [] = []
first_key (c ∷ cs) = c.0

abbrev later : List Change → List Change
later [] = []
later (c ∷ cs) = cs

module _ (digest : List ℕ → List ℕ) (s t : State) where
  abbrev Before : KeyChange → Type 0
  Before c = value_of c.key (pairs digest (records s)) ≡ c.before

  abbrev After : KeyChange → Type 0
  After c = value_of c.key (pairs digest (records t)) ≡ c.after

  one-told : (d : KeyChange) (key : List ℕ) → d.key ≡ key → Before d → After d
      → d ≡ made key (value_of key (pairs digest (records s))) (value_of key (pairs digest (records t)))
  one-told d key e b a =
      ap (λ v. made d.key v d.after) (sym b)
      ∙ ap (made d.key (value_of d.key (pairs digest (records s)))) (sym a)
      ∙ ap (λ k. made k (value_of k (pairs digest (records s))) (value_of k (pairs digest (records t)))) e

  told-is : (told : List KeyChange) (cs : List Change) → done told ≡ with_cids digest cs → AllByRecursion Before told
      → AllByRecursion After told → told ≡ map (change_between digest s t) cs
  told-is [] [] e b a = refl
  told-is [] (c ∷ cs) e b a = absurd cc
  told-is (d ∷ ds) [] e b a = absurd cc
  told-is (d ∷ ds) (c ∷ cs) e b a =
      ap₂ (λ x xs. x ∷ xs) (one-told d c.0 (ap first_key e) b.0 a.0) (told-is ds cs (ap later e) b.1 a.1)

  pub ahead-told : (ws : List Write)
      → pairs digest (records t) ≡ changed (with_cids digest (collected ws)) (pairs digest (records s))
      → (after : List ℕ) (told : List KeyChange) (nodes : List (List ℕ))
      → IsStepOf digest 2 (with_cids digest (collected ws)) (pairs digest (records s)) after told nodes
      → told ≡ changes_of_batch digest s t ws
  ahead-told ws is after told nodes step =
      told-is told (collected ws) step.done_is step.differ.before
      (subst (λ (es : List Pair). AllByRecursion (λ c. value_of c.key es ≡ c.after) told) (sym is) step.differ.after)
