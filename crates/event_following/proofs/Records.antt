-- Of a message that was read a record is given for each operation that leaves one.
use Rattle.std.proofs.Common.{◌≡◌, ℕ, suc, Bool, true, false, cond, List, [], ◌∷◌, map, refl, sym, ap, ◌∙◌, Option, Result, Ok, Err}
use Rattle.std.specs.Prelude.{option_map}
use Rattle.std.specs.List.{AllByRecursion}
use Rattle.std.specs.declared.option.Option.TheVariants.{Some, None}
use Rattle.std.specs.declared.cmp.Ordering.{Ordering}
use Rattle.std.specs.declared.cmp.Ordering.TheVariants.{Less, Equal, Greater}
use Rattle.std.specs.Str.{bytes_eq}
use Rattle.std.proofs.lemmas.Slice.Eq.{bytes_eq-Decides}
use Rattle.spec.specs.Reading.{◌>>=◌}
use Rattle.spec.specs.Cid.{cid}
use Rattle.spec.specs.Blocks.{block_at}
use Rattle.spec.specs.CarReading.{Section, are_named, block_with, blocks_of, is_named, section_with}
use Rattle.spec.specs.Writes.{Write, Put}
use Rattle.spec.proofs.Bools.{both}
use Rattle.spec.proofs.Taking.{bind_ok, ensure_ok}
use Rattle.edit_laws.specs.Order.{order}
use Rattle.change_laws.specs.Told.{KeyChange}
use Rattle.event_laws.specs.Verdict.{Checked, EventFault, OtherPrevious, Placed, RecordMissing, after_test, commit_in, insert_at, insert_op, or_missing, ordered, ordered_ops, placed_from, records_test, sections_of}
use Rattle.difference_taking.specs.Writing.{batch_of, front_or_place, in_front, write_for, writes_from}
use Rattle.commit_events.specs.Reading.{told_message}
use Rattle.commit_events.specs.Steps.{single_event, told_commit}
use Rattle.commit_events.proofs.Named.{named-read}

-- a block with this CID is given
abbrev pub IsGiven : (List ℕ → List ℕ) → List (List ℕ) → Option (List ℕ) → Type 0
IsGiven digest bs None = Unit {0}
IsGiven digest bs (Some c) = (b : List ℕ) × (block_at digest c bs ≡ Some b)

-- ---- by the CID that a section states

stated : (digest : List ℕ → List ℕ) (c : List ℕ) (s : Section) → is_named digest s ≡ true
    → bytes_eq (cid digest s.block) c ≡ bytes_eq s.cid c
stated digest c s h = ap (λ (x : List ℕ). bytes_eq x c) ((bytes_eq-Decides (cid digest s.block) s.cid).0 h)

at-case : (s : Section) (t u : Bool) (o : Option Section) (p : Option (List ℕ)) → u ≡ t → p ≡ option_map (λ x. x.block) o
    → cond u (Some s.block) p ≡ option_map (λ x. x.block) (cond t (Some s) o)
at-case s true u o p e i = ap (λ (b : Bool). cond b (Some s.block) p) e
at-case s false u o p e i = ap (λ (b : Bool). cond b (Some s.block) p) e ∙ i

pub at-stated : (digest : List ℕ → List ℕ) (c : List ℕ) (ss : List Section) → are_named digest ss ≡ true
    → block_at digest c (blocks_of ss) ≡ block_with c ss
at-stated digest c [] h = refl
at-stated digest c (s ∷ ss) h =
    let b = both (is_named digest s) (are_named digest ss) h in
    at-case s (bytes_eq s.cid c) (bytes_eq (cid digest s.block) c) (section_with c ss) (block_at digest c (blocks_of ss))
    (stated digest c s b.0) (at-stated digest c ss b.1)

-- ---- a record for each operation

was-there : (fault : EventFault) (o : Option (List ℕ)) (b : List ℕ) → or_missing fault o ≡ Ok b → o ≡ Some b
was-there fault None b e = absurd cc
was-there fault (Some x) b e = cc

module _ (digest : List ℕ → List ℕ) (ss : List Section) (named : are_named digest ss ≡ true) where
  one-given : (place : ℕ) (after : Option (List ℕ)) (x : Unit {0}) → after_test ss place after ≡ Ok x
      → IsGiven digest (blocks_of ss) after
  one-given place None x e = tt
  one-given place (Some c) x e =
      let b = bind_ok (or_missing (RecordMissing place) (block_with c ss)) _ x e in
      (b.0, at-stated digest c ss named ∙ was-there (RecordMissing place) (block_with c ss) b.0 b.1)

  all-given : (place : ℕ) (ops : List KeyChange) (x : Unit {0}) → records_test ss place ops ≡ Ok x
      → AllByRecursion (λ c. IsGiven digest (blocks_of ss) c.after) ops
  all-given place [] x e = tt
  all-given place (c ∷ cs) x e =
      let b = bind_ok (after_test ss place c.after) (λ y. records_test ss (suc place) cs) x e in
      (one-given place c.after b.0 b.1, all-given (suc place) cs x b.2)

-- ---- in the order of their keys

module _ (P : KeyChange → Type 0) where
  abbrev AllPlaced : List Placed → Type 0
  AllPlaced ds = AllByRecursion (λ d. P d.1) ds

  at-insert : (o : Ordering) (c d : Placed) (ds more : List Placed) → P c.1 → AllPlaced (d ∷ ds) → AllPlaced more
      → AllPlaced (insert_at o c d ds more)
  at-insert Less c d ds more p h i = (h.0, i)
  at-insert Equal c d ds more p h i = (h.0, i)
  at-insert Greater c d ds more p h i = (p, h)

  all-insert : (c : Placed) (ds : List Placed) → P c.1 → AllPlaced ds → AllPlaced (insert_op c ds)
  all-insert c [] p h = (p, tt)
  all-insert c (d ∷ ds) p h =
      at-insert (order d.1.key c.1.key) c d ds (insert_op c ds) p h (all-insert c ds p h.1)

  all-placed : (place : ℕ) (sorted : List Placed) (cs : List KeyChange) → AllByRecursion P cs → AllPlaced sorted
      → AllPlaced (ordered sorted (placed_from place cs))
  all-placed place sorted [] h i = i
  all-placed place sorted (c ∷ cs) h i =
      all-placed (suc place) (insert_op (place, c) sorted) cs h.1 (all-insert (place, c) sorted h.0 i)

  alone : (ds : List Placed) → AllPlaced ds → AllByRecursion P (map (λ x. x.1) ds)
  alone [] h = tt
  alone (d ∷ ds) h = (h.0, alone ds h.1)

  all-ordered : (ops : List KeyChange) → AllByRecursion P ops → AllByRecursion P (ordered_ops ops)
  all-ordered ops h = alone (ordered [] (placed_from 0 ops)) (all-placed 0 [] ops h tt)

-- ---- so the batch has each of its writes

module _ (digest : List ℕ → List ℕ) (bs : List (List ℕ)) where
  has-write : (key : List ℕ) (before after : Option (List ℕ)) → IsGiven digest bs after
      → (w : Write) × (write_for digest bs (record { key = key; before = before; after = after }) ≡ Some w)
  has-write key before None h = (_, refl)
  has-write key before (Some c) h = (Put key h.0, ap (option_map (λ bytes. Put key bytes)) h.1)

  no-fault : (w : Write) (later : Result (List Write) ℕ) (p : ℕ) → in_front w later ≡ Err p → later ≡ Err p
  no-fault w (Ok ws) p e = absurd cc
  no-fault w (Err q) p e = cc

  has-writes : (place : ℕ) (cs : List KeyChange) → AllByRecursion (λ c. IsGiven digest bs c.after) cs → (p : ℕ)
      → writes_from digest bs place cs ≡ Err p → ⊥
  has-writes place [] h p e = absurd cc
  has-writes place (c ∷ cs) h p e =
      let w = has-write c.key c.before c.after h.0 in
      let later = writes_from digest bs (suc place) cs in
      has-writes (suc place) cs h.1 p
      (no-fault w.0 later p (sym (ap (λ (o : Option Write). front_or_place place o later) w.1) ∙ e))

-- ---- of a message that was read

same-ok : {A : Type 0} (x y : A) → ◌≡◌ {A = Result A EventFault} (Ok x) (Ok y) → x ≡ y
same-ok x y e = cc

pub none-missing : (digest : List ℕ → List ℕ) (previous message : List ℕ) (x : Checked) → told_message digest previous message ≡ Ok x
    → (place : ℕ) → batch_of digest (blocks_of x.sections) (ordered_ops x.event.ops) ≡ Err place → ⊥
unfolding told_message told_commit
none-missing digest previous message x read place missing =
    let a = bind_ok (single_event message) _ x read in
    let e = a.0 in
    let b = ensure_ok (bytes_eq e.before previous) OtherPrevious _ x a.2 in
    let s = bind_ok (sections_of digest e.commit e.blocks) _ x b.1 in
    let c = bind_ok (commit_in s.0 e >>= (λ h. records_test s.0 0 e.ops >>= (λ r. Ok h))) _ x s.2 in
    let h = bind_ok (commit_in s.0 e) _ c.0 c.1 in
    let r = bind_ok (records_test s.0 0 e.ops) _ c.0 h.2 in
    let is = same-ok (record { event = e; commit = c.0; sections = s.0 }) x c.2 in
    let given = all-given digest s.0 (named-read digest e.commit e.blocks s.0 s.1) 0 e.ops r.0 r.1 in
    has-writes digest (blocks_of s.0) 0 (ordered_ops e.ops)
    (all-ordered (λ o. IsGiven digest (blocks_of s.0) o.after) e.ops given) place
    (ap (λ (y : Checked). batch_of digest (blocks_of y.sections) (ordered_ops y.event.ops)) is ∙ missing)
