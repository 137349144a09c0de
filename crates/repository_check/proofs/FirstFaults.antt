-- A fault of a check is the first one.
use Rattle.std.proofs.Common.{◌≡◌, ℕ, suc, Bool, true, false, List, [], ◌∷◌, Option, Result, Ok, Err, refl, ap, subst, ◌∙◌}
use Rattle.std.specs.Prelude.{IfSome}
use Rattle.std.specs.declared.option.Option.TheVariants.{Some, None}
use Rattle.spec.specs.Reading.{◌>>=◌, ensure, Fails}
use Rattle.spec.specs.Tree.{Pair}
use Rattle.spec.specs.CarReading.{CarFault, Section, read_car, are_named, block_with}
use Rattle.spec.specs.SignedCommits.{Commit, CommitFault, read_commit}
use Rattle.spec.specs.Exports.{ExportFault, OfCar, Misnamed, NoCommit, OfCommit, NotTheTree, OfRecord, RecordFault, IsTree, IsFirstFault, of_car, of_commit, or_no_commit, named_file, commit_with, opened, record_for, at_place, records_from}

-- ---- the phases before the tree

-- a fault of these phases
abbrev IsEarly : ExportFault → Type 0
IsEarly (OfCar f) = Unit {0}
IsEarly Misnamed = Unit {0}
IsEarly NoCommit = Unit {0}
IsEarly (OfCommit f) = Unit {0}
IsEarly NotTheTree = ⊥
IsEarly (OfRecord place f) = ⊥

abbrev Car : Type 0
Car = List ℕ × List Section

module _ (digest : List ℕ → List ℕ) where
  named-early : (car : Car) (f : ExportFault) (t : Bool) → (ensure t Misnamed >>= λ (ok : Unit {0}). Ok car) ≡ Err f → IsEarly f
  named-early car f true h = absurd cc
  named-early car f false h = let e : Misnamed ≡ f = cc in subst IsEarly e tt

  car-early : (r : Result Car CarFault) (f : ExportFault)
      → (of_car r >>= λ (car : Car). ensure (are_named digest car.1) Misnamed >>= λ (ok : Unit {0}). Ok car) ≡ Err f → IsEarly f
  car-early (Ok car) f h = named-early car f (are_named digest car.1) h
  car-early (Err g) f h = let e : OfCar g ≡ f = cc in subst IsEarly e tt

  file-early : (file : List ℕ) (f : ExportFault) → named_file digest file ≡ Err f → IsEarly f
  file-early file f h = car-early (read_car file) f h

read-early : (r : Result Commit CommitFault) (f : ExportFault) → of_commit r ≡ Err f → IsEarly f
read-early (Ok c) f h = absurd cc
read-early (Err g) f h = let e : OfCommit g ≡ f = cc in subst IsEarly e tt

block-early : (o : Option (List ℕ)) (f : ExportFault)
    → (or_no_commit o >>= λ (b : List ℕ). of_commit (read_commit b)) ≡ Err f → IsEarly f
block-early None f h = let e : NoCommit ≡ f = cc in subst IsEarly e tt
block-early (Some b) f h = read-early (read_commit b) f h

commit-early : (root : List ℕ) (ss : List Section) (f : ExportFault) → commit_with root ss ≡ Err f → IsEarly f
commit-early root ss f h = block-early (block_with root ss) f h

early-first : (digest : List ℕ → List ℕ) (bits : ℕ) (file : List ℕ) (f : ExportFault) → IsEarly f → opened digest file ≡ Err f
    → IsFirstFault digest bits file f
early-first digest bits file (OfCar g) early h = h
early-first digest bits file Misnamed early h = h
early-first digest bits file NoCommit early h = h
early-first digest bits file (OfCommit g) early h = h
early-first digest bits file NotTheTree early h = absurd early
early-first digest bits file (OfRecord place g) early h = absurd early

-- how a file is opened
pub opened-as : (digest : List ℕ → List ℕ) (file : List ℕ) (car : Car) (c : Commit) → named_file digest file ≡ Ok car
    → commit_with car.0 car.1 ≡ Ok c → opened digest file ≡ Ok (car.1, c)
unfolding opened
opened-as digest file car c e h =
    ap (λ (r : Result Car ExportFault). r >>= λ (car : Car). commit_with car.0 car.1 >>= λ (c : Commit). Ok (car.1, c)) e
    ∙ ap (λ (r : Result Commit ExportFault). r >>= λ (c : Commit). Ok (car.1, c)) h

no-file : (digest : List ℕ → List ℕ) (file : List ℕ) (f : ExportFault) → named_file digest file ≡ Err f → opened digest file ≡ Err f
unfolding opened
no-file digest file f e =
    ap (λ (r : Result Car ExportFault). r >>= λ (car : Car). commit_with car.0 car.1 >>= λ (c : Commit). Ok (car.1, c)) e

no-commit : (digest : List ℕ → List ℕ) (file : List ℕ) (car : Car) (f : ExportFault) → named_file digest file ≡ Ok car
    → commit_with car.0 car.1 ≡ Err f → opened digest file ≡ Err f
unfolding opened
no-commit digest file car f e h =
    ap (λ (r : Result Car ExportFault). r >>= λ (car : Car). commit_with car.0 car.1 >>= λ (c : Commit). Ok (car.1, c)) e
    ∙ ap (λ (r : Result Commit ExportFault). r >>= λ (c : Commit). Ok (car.1, c)) h

-- ---- each phase's fault

fails-first : {X : Type 0} (First : ExportFault → Type 0) (o : Option ExportFault) (read : Result X ExportFault) → Fails o read
    → ((f : ExportFault) → read ≡ Err f → First f) → IfSome o First
fails-first First None read h k = tt
fails-first First (Some f) read h k = k f h

module _ (digest : List ℕ → List ℕ) (bits : ℕ) (file : List ℕ) where
  pub first-of_file : (o : Option ExportFault) → Fails o (named_file digest file) → IfSome o (IsFirstFault digest bits file)
  first-of_file o h =
      fails-first (IsFirstFault digest bits file) o (named_file digest file) h
      (λ f e. early-first digest bits file f (file-early digest file f e) (no-file digest file f e))

  pub first-of_commit : (car : Car) (o : Option ExportFault) → named_file digest file ≡ Ok car
      → Fails o (commit_with car.0 car.1) → IfSome o (IsFirstFault digest bits file)
  first-of_commit car o e h =
      fails-first (IsFirstFault digest bits file) o (commit_with car.0 car.1) h
      (λ f q. early-first digest bits file f (commit-early car.0 car.1 f q) (no-commit digest file car f e q))

-- ---- records

abbrev IsLate : ExportFault → Type 0
IsLate (OfCar f) = ⊥
IsLate Misnamed = ⊥
IsLate NoCommit = ⊥
IsLate (OfCommit f) = ⊥
IsLate NotTheTree = ⊥
IsLate (OfRecord place f) = Unit {0}

records-late : (place : ℕ) (first : Result (List ℕ) RecordFault) (rest : Result (List (List ℕ)) ExportFault) (f : ExportFault)
    → (at_place place first >>= λ (r : List ℕ). rest >>= λ (rs : List (List ℕ)). Ok (r ∷ rs)) ≡ Err f
    → ((g : ExportFault) → rest ≡ Err g → IsLate g) → IsLate f
records-late place (Err g) rest f h late = let e : OfRecord place g ≡ f = cc in subst IsLate e tt
records-late place (Ok r) (Ok rs) f h late = absurd cc
records-late place (Ok r) (Err g) f h late = let e : g ≡ f = cc in subst IsLate e (late g refl)

all-late : (ss : List Section) (place : ℕ) (es : List Pair) (f : ExportFault) → records_from ss place es ≡ Err f → IsLate f
all-late ss place [] f h = absurd cc
all-late ss place (e ∷ es) f h = records-late place (record_for ss e) (records_from ss (suc place) es) f h (all-late ss (suc place) es)

late-first : (digest : List ℕ → List ℕ) (bits : ℕ) (file : List ℕ) (ss : List Section) (c : Commit) (es : List Pair) (f : ExportFault)
    → IsLate f → opened digest file ≡ Ok (ss, c) → IsTree digest bits ss c.root es → records_from ss 0 es ≡ Err f
    → IsFirstFault digest bits file f
late-first digest bits file ss c es (OfCar g) late is_open tree h = absurd late
late-first digest bits file ss c es Misnamed late is_open tree h = absurd late
late-first digest bits file ss c es NoCommit late is_open tree h = absurd late
late-first digest bits file ss c es (OfCommit g) late is_open tree h = absurd late
late-first digest bits file ss c es NotTheTree late is_open tree h = absurd late
late-first digest bits file ss c es (OfRecord place g) late is_open tree h =
    record { sections = ss; commit = c; opened_as = is_open; pairs = es; tree = tree; refused = h }

pub first-of_records : (digest : List ℕ → List ℕ) (bits : ℕ) (file : List ℕ) (ss : List Section) (c : Commit) (es : List Pair)
    (o : Option ExportFault) → opened digest file ≡ Ok (ss, c) → IsTree digest bits ss c.root es
    → Fails o (records_from ss 0 es) → IfSome o (IsFirstFault digest bits file)
first-of_records digest bits file ss c es o is_open tree h =
    fails-first (IsFirstFault digest bits file) o (records_from ss 0 es) h
    (λ f q. late-first digest bits file ss c es f (all-late ss 0 es f q) is_open tree q)
