-- A write tested by the changes of those before it.
use Rattle.std.proofs.Common.{◌≡◌, ℕ, ◌+◌, ◌<◌, Bool, true, false, ltb, List, [], ◌∷◌, ◌++◌, length, map, take, get_or, refl, sym, ap, subst, ◌∙◌, arith, Result, Ok, Option, None, cond}
use Rattle.std.proofs.lemmas.List.{map-append}
use Rattle.std.specs.declared.option.Option.TheVariants.{Some}
use Rattle.std.specs.declared.cmp.Ordering.{Ordering}
use Rattle.std.specs.declared.cmp.Ordering.TheVariants.{Less, Equal, Greater}
use Rattle.std.specs.Prelude.{nat_lt, is_some, option_map}
use Rattle.std.specs.Arc.{arc_value}
use Rattle.std.specs.Borrow.{Bor}
use Rattle.std.specs.declared.sync.Arc.{Arc}
use Rattle.std.specs.BTreeMap.{insert_entry, is_at}
use Rattle.std.specs.Map.{lookup}
use Rattle.std.specs.FinMap.{find, put}
use Rattle.std.specs.FinMap.Entries.{by_order}
use Rattle.std.specs.Cmp.Lexicographic.{slice_cmp}
use Rattle.std.specs.Ordering.{nat_cmp, is_eq, match_ordering}
use Rattle.spec.specs.Reading.{◌>>=◌, ensure}
use Rattle.spec.specs.Tree.{Pair}
use Rattle.spec.specs.Writes.{Write, WriteFault, WritesFull, key_of, has_key, test_when, batch_test}
use Rattle.spec.specs.States.{State, records}
use Rattle.spec.proofs.Bools.{from_T}
use Rattle.spec.proofs.BatchLaws.{fold-append}
use Rattle.spec.proofs.BatchSteps.{batch-goes_on}
use Rattle.spec.proofs.WriteLaws.{is_sorted-leaves}
use Rattle.edit_laws.specs.Staged.{records_after}
use Rattle.batch_laws.specs.Batch.{Change, at_key, with_change}
use Rattle.batch_laws.specs.Collecting.{change_of, collected, there_after}
use Rattle.batch_laws.specs.Staged.{old_pairs}
use Rattle.batch_laws.proofs.WritesAtOnce.{key-is_known}
use Rattle.batch_laws.proofs.ChangeMaps.{changes-are_entries}
use Rattle.batch_laws.proofs.WritesAtOnce.{one_more-collected}
use Rattle.kept.specs.Counts.{Counts}
use Rattle.batches.specs.Tests.{write_fault, IsTestFault}
use Rattle.batches.specs.Values.{write_of, shared_writes}
use Rattle.batches.specs.declared.fault.RepoFault.{RepoFault}
use Rattle.batches.specs.Write as Code
use Rattle.repo.specs.Refusals.{next_test}
use Rattle.repo.specs.Tested.{is_there, test_after, HaveSameTest, IsTestStart, IsFailedWrite}
use Rattle.repo.proofs.Testing.{cut-at, length-of, one-more-write, room-at}

-- ---- the map of changes

abbrev pub by_bytes : Bor (List ℕ) → Bor (List ℕ) → Ordering
by_bytes a b = slice_cmp nat_cmp a.now b.now

-- entries as changes, whatever shows the record that the last write of a key leaves
abbrev changes_by : {V : Type 0} → (V → Option (List ℕ)) → List (Bor (List ℕ) × V) → List Change
changes_by left es = map (λ e. (e.0.now, left e.1)) es

-- an entry that is inserted is one more change
module _ {V : Type 0} (left : V → Option (List ℕ)) where
  insert-put : (es : List (Bor (List ℕ) × V)) (k : Bor (List ℕ)) (v : V)
      → changes_by left (insert_entry by_bytes es k v) ≡ put (slice_cmp nat_cmp) k.now (left v) (changes_by left es)
  insert-put [] k v = refl
  insert-put (e ∷ es) k v = by (slice_cmp nat_cmp k.now e.0.now) (insert-put es k v)
    where
      by : (o : Ordering) → changes_by left (insert_entry by_bytes es k v) ≡ put (slice_cmp nat_cmp) k.now (left v) (changes_by left es)
          → changes_by left (match_ordering o ((k, v) ∷ e ∷ es) ((e.0, v) ∷ es) (e ∷ insert_entry by_bytes es k v))
          ≡ by_order o ((k.now, left v) ∷ changes_by left (e ∷ es)) ((e.0.now, left v) ∷ changes_by left es)
          ((e.0.now, left e.1) ∷ put (slice_cmp nat_cmp) k.now (left v) (changes_by left es))
      by Less h = refl
      by Equal h = refl
      by Greater h = ap (λ (cs : List Change). (e.0.now, left e.1) ∷ cs) h

  pub changes-insert : (es : List (Bor (List ℕ) × V)) (k : Bor (List ℕ)) (v : V)
      → map (λ e. (e.0.now, left e.1)) (insert_entry by_bytes es k v) ≡ with_change (k.now, left v) (map (λ e. (e.0.now, left e.1)) es)
  changes-insert es k v = insert-put es k v ∙ sym (changes-are_entries (k.now, left v) (changes_by left es) []).2

  -- what is found under a key is its change
  found-case : (t : Bool) (v : V) (o : Option V) (p : Option (Option (List ℕ)))
      → option_map left o ≡ p → option_map left (cond t (Some v) o) ≡ cond t (Some (left v)) p
  found-case true v o p e = refl
  found-case false v o p e = e

  lookup-find : (key : List ℕ) (es : List (Bor (List ℕ) × V))
      → option_map left (lookup (is_at (λ (k : Bor (List ℕ)). slice_cmp nat_cmp key k.now)) es)
      ≡ find (slice_cmp nat_cmp) key (changes_by left es)
  lookup-find key [] = refl
  lookup-find key (e ∷ es) = found-case (is_eq (slice_cmp nat_cmp key e.0.now)) e.1 _ _ (lookup-find key es)

  pub lookup-change : (key : List ℕ) (es : List (Bor (List ℕ) × V))
      → option_map left (lookup (is_at (λ (k : Bor (List ℕ)). slice_cmp nat_cmp key k.now)) es)
      ≡ at_key key (map (λ e. (e.0.now, left e.1)) es)
  lookup-change key es = lookup-find key es ∙ sym (changes-are_entries (key, None) (changes_by left es) key).1

-- lent bytes are there where their values are
pub some-lent : (o : Option (Bor (List ℕ))) (r : Option (List ℕ)) → option_map (λ bytes. bytes.now) o ≡ r → is_some o ≡ is_some r
some-lent None r e = ap is_some e
some-lent (Some x) r e = ap is_some e

-- what the changes say of a key
pub said : (o : Option (Option (List ℕ))) (there before : Bool) → Some there ≡ option_map is_some o → there ≡ there_after o before
said None there before e = absurd cc
said (Some v) there before e = some-same there (is_some v) e
  where
    some-same : (a b : Bool) → Some a ≡ Some b → a ≡ b
    some-same a b e = cc

pub unsaid : (o : Option (Option (List ℕ))) (before : Bool) → None ≡ option_map is_some o → before ≡ there_after o before
unsaid None before e = refl
unsaid (Some v) before e = absurd cc

pub unnamed : (o : Option (Option (List ℕ))) (times : ℕ) → None ≡ option_map is_some o → is_some o ≡ true → times ≡ 0
unnamed None times e named = absurd cc
unnamed (Some v) times e named = absurd cc

-- ---- the test of a write

known : (digest : List ℕ → List ℕ) (s : State) (before : List Write) (key : List ℕ)
    → has_key (records_after s before) key ≡ is_there (collected before) (old_pairs digest s) key
known digest s before key =
    ap (λ m. has_key m key) (fold-append [] s.accepted before)
    ∙ (key-is_known digest (records s) before key (from_T _ (is_sorted-leaves s.accepted))).there

-- with the changes of the writes before it, a write has its test
pub next-is : (digest : List ℕ → List ℕ) (s : State) (before : List Write) (room : Bool) (changes : List Change) (w : Write)
    → room ≡ nat_lt (length (s.accepted ++ before)) s.limit → changes ≡ collected before
    → next_test s before w ≡ test_after room changes (old_pairs digest s) w
next-is digest s before room changes w r c =
    ap (λ (t : Bool). ensure (nat_lt (length (s.accepted ++ before)) s.limit) WritesFull >>= λ (ok : Unit {0}). test_when t w)
    (known digest s before (key_of w) ∙ ap (λ cs. is_there cs (old_pairs digest s) (key_of w)) (sym c))
    ∙ ap (λ (t : Bool). ensure t WritesFull >>= λ (ok : Unit {0}). test_when (is_there changes (old_pairs digest s) (key_of w)) w) (sym r)

-- with room, by a presence that gives the same test
pub tested-by : (room : Bool) (changes : List Change) (es : List Pair) (w : Write) (there : Bool) → room ≡ true
    → HaveSameTest there (is_there changes es (key_of w)) w → test_after room changes es w ≡ test_when there w
tested-by room changes es w there r same =
    ap (λ (t : Bool). ensure t WritesFull >>= λ (ok : Unit {0}). test_when (is_there changes es (key_of w)) w) r ∙ sym same

-- ---- the writes of a batch up to a place, and the one there

pub one-more-change : {X : Type 0} (seen : X → Write) (ws : List X) (i : ℕ) (x : X) (old new : List Change)
    → i < length ws → x ≡ get_or ws i x → old ≡ collected (map seen (take i ws))
    → new ≡ with_change (change_of (seen x)) old → new ≡ collected (map seen (take (i + 1) ws))
one-more-change seen ws i x old new l e o n =
    n ∙ ap (with_change (change_of (seen x))) o
    ∙ sym (one_more-collected (λ bytes. bytes) (map seen (take i ws)) (seen x)).0
    ∙ ap collected (sym (one-more-write seen ws i x l e))

module _ (digest : List ℕ → List ℕ) (bits : ℕ) (s : State) (room : ℕ) (root : List ℕ) (m : Counts)
    (start : IsTestStart digest bits s room root m) where
  this-is : {A : Type 0} (ws : List (Arc (Code.Write A) A)) (i : ℕ) (x : Arc (Code.Write A) A) (changes : List Change)
      → i < length ws → changes ≡ collected (shared_writes (take i ws))
      → next_test s (shared_writes (take i ws)) (write_of (arc_value x))
      ≡ test_after (ltb i room) changes (old_pairs digest s) (write_of (arc_value x))
  this-is ws i x changes l c =
      next-is digest s (shared_writes (take i ws)) (ltb i room) changes (write_of (arc_value x))
      (room-at s.accepted (shared_writes (take i ws)) i room s.limit start.room_is
      (length-of (λ w. write_of (arc_value w)) ws i (omega arith))) c

  pub passes-on : {A : Type 0} (ws : List (Arc (Code.Write A) A)) (i : ℕ) (x : Arc (Code.Write A) A) (changes : List Change)
      → i < length ws → x ≡ get_or ws i x → changes ≡ collected (shared_writes (take i ws))
      → batch_test s.limit s.accepted (shared_writes (take i ws)) ≡ Ok tt
      → test_after (ltb i room) changes (old_pairs digest s) (write_of (arc_value x)) ≡ Ok tt
      → batch_test s.limit s.accepted (shared_writes (take (i + 1) ws)) ≡ Ok tt
  passes-on ws i x changes l e c passed passes =
      ap (batch_test s.limit s.accepted) (one-more-write (λ w. write_of (arc_value w)) ws i x l e)
      ∙ batch-goes_on s.limit s.accepted (shared_writes (take i ws)) (write_of (arc_value x)) passed
      (this-is ws i x changes l c ∙ passes)

  pub fails-at : {D A : Type 0} (ws : List (Arc (Code.Write A) A)) (i : ℕ) (x : Arc (Code.Write A) A) (changes : List Change) (fault : RepoFault D A)
      → i < length ws → x ≡ get_or ws i x → changes ≡ collected (shared_writes (take i ws))
      → batch_test s.limit s.accepted (shared_writes (take i ws)) ≡ Ok tt
      → IsTestFault write_fault (test_after (ltb i room) changes (old_pairs digest s) (write_of (arc_value x))) fault
      → IsFailedWrite s (shared_writes ws) (i, fault)
  fails-at {D} {A} ws i x changes fault l e c passed fails =
      let cut = cut-at ws i x l e in
      record {
        before = shared_writes (take i ws);
        here = write_of (arc_value x);
        after = shared_writes cut.rest;
        whole = ap (λ (xs : List (Arc (Code.Write A) A)). shared_writes xs) cut.whole
            ∙ map-append (λ w. write_of (arc_value w)) (take i ws) (x ∷ cut.rest);
        place = length-of (λ w. write_of (arc_value w)) ws i (omega arith);
        passed = passed;
        fault = subst (λ (r : Result (Unit {0}) WriteFault). IsTestFault write_fault r fault) (sym (this-is ws i x changes l c)) fails;
      }
