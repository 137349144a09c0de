-- Where the batch of changes leads.
use Rattle.std.proofs.Common.{◌≡◌, ℕ, suc, Bool, true, false, cond, List, [], T, ◌∷◌, fold, refl, sym, ap, subst, ◌∙◌, arith, Option, Some, None, Result, Ok, Err}
use Rattle.std.specs.Prelude.{option_map}
use Rattle.std.specs.List.{AllByRecursion}
use Rattle.std.specs.Cmp.Lexicographic.{slice_cmp}
use Rattle.std.specs.Ordering.{nat_cmp}
use Rattle.std.specs.FinMap.{is_sorted}
use Rattle.std.specs.Str.{bytes_eq}
use Rattle.std.proofs.lemmas.Slice.Eq.{bytes_eq-Decides}
use Rattle.spec.specs.Cid.{IsDigest, cid}
use Rattle.spec.specs.Tree.{Pair}
use Rattle.spec.specs.Blocks.{ArePairs, block_at, pairs, value_of}
use Rattle.spec.specs.Stamps.{Stamp}
use Rattle.spec.specs.Writes.{Write, Put, Delete, after_write, key_of, record_of}
use Rattle.spec.specs.States.{State, IsLawful, after_batch, records}
use Rattle.spec.proofs.Bools.{from_T}
use Rattle.spec.proofs.BatchLaws.{fold-append}
use Rattle.spec.proofs.RecordPairs.{lawful-pairs}
use Rattle.spec.proofs.WriteLaws.{is_sorted-after_write, is_sorted-leaves}
use Rattle.batch_laws.specs.Batch.{Change, AreAscending, IsLater, change_by, changed, one_by_one}
use Rattle.batch_laws.specs.Collecting.{with_cid, change_of}
use Rattle.batch_laws.proofs.OneByOne.{changed-one_by_one}
use Rattle.batch_laws.proofs.WritesAtOnce.{writes-are_collected}
use Rattle.change_laws.specs.Told.{KeyChange, DifferBy, undone}
use Rattle.change_laws.proofs.Undone.{differ-undone, undone-differ}
use Rattle.step_laws.specs.Turned.{done, turned}
use Rattle.step_laws.proofs.Turning.{differ-turned, turned-differ, undone-turned}
use Rattle.difference_taking.specs.Writing.{batch_of, front_or_place, write_for, write_to, writes_from}

abbrev Records : Type 0
Records = List (List ℕ × List ℕ)

-- ---- one write

-- it writes what its change says
pub record Writes (digest : List ℕ → List ℕ) (c : KeyChange) (w : Write) : Type 0 where
  pub key : key_of w ≡ c.key
  pub value : option_map (cid digest) (record_of w) ≡ c.after

found-case : (digest : List ℕ → List ℕ) (c b x : List ℕ) (t : Bool) (later : Option (List ℕ)) → bytes_eq (cid digest b) c ≡ t
    → cond t (Some b) later ≡ Some x → (later ≡ Some x → cid digest x ≡ c) → cid digest x ≡ c
found-case digest c b x true later e h i =
    let same : b ≡ x = cc in sym (ap (cid digest) same) ∙ (bytes_eq-Decides (cid digest b) c).0 e
found-case digest c b x false later e h i = i h

pub found-named : (digest : List ℕ → List ℕ) (c x : List ℕ) (bs : List (List ℕ)) → block_at digest c bs ≡ Some x → cid digest x ≡ c
found-named digest c x [] h = absurd cc
found-named digest c x (b ∷ bs) h =
    found-case digest c b x (bytes_eq (cid digest b) c) (block_at digest c bs) refl h (found-named digest c x bs)

put-writes : (digest : List ℕ → List ℕ) (given : List (List ℕ)) (key c : List ℕ) (before : Option (List ℕ)) (w : Write) (o : Option (List ℕ))
    → block_at digest c given ≡ o → option_map (λ bytes. Put key bytes) o ≡ Some w
    → Writes digest (record { key = key; before = before; after = Some c }) w
put-writes digest given key c before w None e h = absurd cc
put-writes digest given key c before w (Some b) e h =
    let is : Put key b ≡ w = cc in
    record {
      key = sym (ap key_of is);
      value = sym (ap (λ (v : Write). option_map (cid digest) (record_of v)) is)
          ∙ ap (λ (v : List ℕ). Some v) (found-named digest c b given e);
    }

pub writes-it : (digest : List ℕ → List ℕ) (given : List (List ℕ)) (key : List ℕ) (before after : Option (List ℕ)) (w : Write)
    → write_to (λ c. block_at digest c given) key after ≡ Some w
    → Writes digest (record { key = key; before = before; after = after }) w
writes-it digest given key before None w h =
    let is : Delete key ≡ w = cc in
    record { key = sym (ap key_of is); value = sym (ap (λ (v : Write). option_map (cid digest) (record_of v)) is) }
writes-it digest given key before (Some c) w h = put-writes digest given key c before w (block_at digest c given) refl h

-- so what it does to records its change does to their pairs
pub one-write : (digest : List ℕ → List ℕ) (c : KeyChange) (w : Write) (m : Records) → Writes digest c w
    → T (is_sorted (slice_cmp nat_cmp) m) → pairs digest (after_write m w) ≡ change_by c.key c.after (pairs digest m)
one-write digest c w m is sorted =
    (writes-are_collected digest m (w ∷ []) (from_T _ sorted)).pairs_are
    ∙ changed-one_by_one (with_cid digest (change_of w) ∷ []) (pairs digest m) (tt, tt)
    ∙ ap (λ (k : List ℕ). change_by k (option_map (cid digest) (record_of w)) (pairs digest m)) is.key
    ∙ ap (λ (v : Option (List ℕ)). change_by c.key v (pairs digest m)) is.value

-- ---- all of them

-- the first write of a batch, and the others
pub record IsFirst (o : Option Write) (later : Result (List Write) ℕ) (ws : List Write) : Type 0 where
  pub first : Write
  pub others : List Write
  pub first_is : o ≡ Some first
  pub others_are : later ≡ Ok others
  pub whole : first ∷ others ≡ ws

pub first-of : (place : ℕ) (o : Option Write) (later : Result (List Write) ℕ) (ws : List Write) → front_or_place place o later ≡ Ok ws
    → IsFirst o later ws
first-of place None later ws h = absurd cc
first-of place (Some w) (Ok vs) ws h = record { first = w; others = vs; first_is = refl; others_are = refl; whole = cc }
first-of place (Some w) (Err p) ws h = absurd cc

batch-does : (digest : List ℕ → List ℕ) (given : List (List ℕ)) (place : ℕ) (cs : List KeyChange) (ws : List Write) (m : Records)
    → writes_from digest given place cs ≡ Ok ws → T (is_sorted (slice_cmp nat_cmp) m)
    → pairs digest (fold after_write m ws) ≡ one_by_one (done cs) (pairs digest m)
batch-does digest given place [] ws m h sorted =
    let none : [] ≡ ws = cc in sym (ap (λ (vs : List Write). pairs digest (fold after_write m vs)) none)
batch-does digest given place (c ∷ cs) ws m h sorted =
    let f = first-of place (write_for digest given c) (writes_from digest given (suc place) cs) ws h in
    let is = writes-it digest given c.key c.before c.after f.first f.first_is in
    sym (ap (λ (vs : List Write). pairs digest (fold after_write m vs)) f.whole)
    ∙ batch-does digest given (suc place) cs f.others (after_write m f.first) f.others_are (is_sorted-after_write m f.first sorted)
    ∙ ap (one_by_one (done cs)) (one-write digest c f.first m is sorted)

-- ---- between two repositories

later-done : (key : List ℕ) (cs : List KeyChange) → AllByRecursion (IsLater key) (undone cs) → AllByRecursion (IsLater key) (done cs)
later-done key [] h = tt
later-done key (c ∷ cs) h = (h.0, later-done key cs h.1)

pub ascends-done : (cs : List KeyChange) → AreAscending (undone cs) → AreAscending (done cs)
ascends-done [] h = tt
ascends-done (c ∷ cs) h = (later-done c.key cs h.0, ascends-done cs h.1)

module _ (digest : List ℕ → List ℕ) (given : List (List ℕ)) (cs : List KeyChange) (ascends : AreAscending (undone cs)) where
  ascends-turned : AreAscending (undone (turned cs))
  ascends-turned = subst AreAscending (sym (undone-turned cs)) (ascends-done cs ascends)

  module _ (fits : IsDigest digest) (old : State) (lawful : IsLawful old) where
    abbrev es : List Pair
    es = pairs digest (records old)

    lawful-are : (s : State) → IsLawful s → ArePairs (pairs digest (records s))
    lawful-are s is =
        let a = is.within_limit in
        let b = is.limit_fits in
        lawful-pairs digest fits s.accepted is.writes (omega arith)

    -- the pairs after the batch are those with the changes done
    pub pairs-after : (stamp : Stamp) (batch : List Write) → batch_of digest given cs ≡ Ok batch
        → pairs digest (records (after_batch old stamp batch)) ≡ changed (done cs) es
    pairs-after stamp batch h =
        ap (pairs digest) (fold-append [] old.accepted batch)
        ∙ batch-does digest given 0 cs batch (records old) h (is_sorted-leaves old.accepted)
        ∙ sym (changed-one_by_one (done cs) es (ascends-done cs ascends))

    had-turned : (ds : List KeyChange) → AllByRecursion (λ c. value_of c.key es ≡ c.before) ds
        → AllByRecursion (λ c. value_of c.key es ≡ c.after) (turned ds)
    had-turned [] h = tt
    had-turned (d ∷ ds) h = (h.0, had-turned ds h.1)

    -- so they differ from those before by just these changes, where each key had what is told
    pub differ-after : (stamp : Stamp) (batch : List Write) → batch_of digest given cs ≡ Ok batch
        → AllByRecursion (λ c. value_of c.key es ≡ c.before) cs
        → DifferBy cs es (pairs digest (records (after_batch old stamp batch)))
    differ-after stamp batch h had =
        subst (λ (fs : List Pair). DifferBy cs es fs) (sym (pairs-after stamp batch h))
        (differ-turned cs es (changed (done cs) es)
        (subst (λ (us : List Change). DifferBy (turned cs) (changed us es) es) (undone-turned cs)
        (undone-differ (turned cs) es ascends-turned (lawful-are old lawful) (had-turned cs had))))

    -- and whatever differs from them by these changes are these
    pub others-are : (stamp : Stamp) (batch : List Write) → batch_of digest given cs ≡ Ok batch
        → (other : State) → IsLawful other → DifferBy cs es (pairs digest (records other))
        → pairs digest (records (after_batch old stamp batch)) ≡ pairs digest (records other)
    others-are stamp batch h other is d =
        pairs-after stamp batch h
        ∙ ap (λ (us : List Change). changed us es) (sym (undone-turned cs))
        ∙ sym (differ-undone (turned cs) (pairs digest (records other)) es ascends-turned (lawful-are other is) (lawful-are old lawful)
        (turned-differ cs es (pairs digest (records other)) d))
