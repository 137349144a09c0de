-- What is read of a source that has a repository's records is what they say.
use Rattle.std.proofs.Common.{◌≡◌, ℕ, suc, ◌+◌, ◌<◌, ◌≤◌, Bool, true, false, cond, List, [], ◌∷◌, ◌++◌, length, drop, get_or, Option, Result, Ok, Err, refl, sym, ap, subst, ◌∙◌}
use Rattle.std.specs.Prelude.{Contains, option_map}
use Rattle.std.specs.Arc.{arc_value}
use Rattle.std.specs.List.{AllByRecursion, cons_option}
use Rattle.std.specs.declared.option.Option.TheVariants.{Some, None}
use Rattle.std.specs.declared.sync.Arc.{Arc}
use Rattle.std.specs.Cmp.Lexicographic.{slice_cmp}
use Rattle.std.specs.Ordering.{nat_cmp, eq_by_cmp}
use Rattle.std.specs.FinMap.{find}
use Rattle.std.proofs.lemmas.List.{at_drop_more, drop_all}
use Rattle.std.proofs.lemmas.Slice.Eq.{bytes_eq-Decides}
use Rattle.spec.specs.Reading.{◌>>=◌, Fails}
use Rattle.spec.specs.Cid.{cid}
use Rattle.spec.specs.Tree.{Pair}
use Rattle.spec.specs.Blocks.{pairs, record_at, record_blocks, value_of}
use Rattle.spec.specs.Sources.{HasBlocks}
use Rattle.spec.proofs.RecordPairs.{value-record}
use Rattle.spec.proofs.RootLaws.{in_head, in_tail}
use Rattle.spec.proofs.Taking.{bind_ok, ensure_ok}
use Rattle.spec.specs.Commits.{commit_blocks}
use Rattle.spec.specs.States.{State, last_stamp, records, state_blocks, state_root}
use Rattle.spec.proofs.RepositoryBlocks.{record-in}
use Rattle.lookups.specs.Trees.{HasTree, bytes_given}
use Rattle.repo.proofs.Exchanging.{sorted-records}
use Rattle.batch_laws.specs.Previous.{values}
use Rattle.change_laws.specs.Told.{KeyChange, undone}
use Rattle.change_laws.specs.Given.{ChangeFault, OtherValue}
use Rattle.change_laws.specs.Verdict.{are_told, is_same}
use Rattle.event_writing_laws.specs.Telling.{UntoldFault as Untold, of_values, size_test, sizes_test}
use Rattle.event_writing_laws.specs.Messages.{left_test, records_left}
use Rattle.event_writing.specs.Sources.{HasRecords, record_given, records_given, sizes_given}

abbrev Records : Type 0
Records = List (List ℕ × List ℕ)

-- ---- one after the other

-- those from a place on
pub next-given : {A : Type 0} (gives : List ℕ → Option (Arc (List ℕ) A)) (ops : List KeyChange) (i : ℕ) (c : KeyChange)
    → i < length ops → c ≡ get_or ops i c
    → records_given gives (drop i ops) ≡ record_given gives c.after ++ records_given gives (drop (i + 1) ops)
next-given gives ops i c lt is =
    at_drop_more (λ (xs : List KeyChange). records_given gives xs) ops i c lt
    ∙ ap (λ (y : KeyChange). records_given gives (y ∷ drop (i + 1) ops)) (sym is)

pub none-given : {A : Type 0} (gives : List ℕ → Option (Arc (List ℕ) A)) (ops : List KeyChange) (i : ℕ) → length ops ≤ i
    → records_given gives (drop i ops) ≡ []
none-given gives ops i all = ap (λ (xs : List KeyChange). records_given gives xs) (drop_all i ops all)

-- ---- one record

-- what is seen of what was lent
pub lent-given : {X A : Type 0} (view : X → Arc (List ℕ) A) (lent : Option X) (given : Option (Arc (List ℕ) A))
    → option_map view lent ≡ given
    → cons_option (option_map (λ x. arc_value (view x)) lent) [] ≡ cons_option (option_map arc_value given) []
lent-given view None given e = ap (λ (o : Option (Arc _ _)). cons_option (option_map arc_value o) []) e
lent-given view (Some x) given e = ap (λ (o : Option (Arc _ _)). cons_option (option_map arc_value o) []) e

-- under a CID, where there is one
pub lent-at : {X A : Type 0} (view : X → Arc (List ℕ) A) (lent : Option X) (gives : List ℕ → Option (Arc (List ℕ) A))
    (cid : Option (List ℕ)) (c : List ℕ) → cid ≡ Some c → option_map view lent ≡ gives c
    → cons_option (option_map (λ x. arc_value (view x)) lent) [] ≡ record_given gives cid
lent-at view lent gives cid c is e = lent-given view lent (gives c) e ∙ ap (record_given gives) (sym is)

found-case : (e : List ℕ × List ℕ) (m : Records) (b : List ℕ) (t : Bool) (o : Option (List ℕ))
    → (o ≡ Some b → Contains (record_blocks m) b) → cond t (Some e.1) o ≡ Some b → Contains (record_blocks (e ∷ m)) b
found-case e m b true o i h =
    let same : e.1 ≡ b = cc in subst (Contains (record_blocks (e ∷ m))) same (in_head e.1 (record_blocks m))
found-case e m b false o i h = in_tail e.1 b (record_blocks m) (i h)

found-in : (key : List ℕ) (m : Records) (b : List ℕ) → find (slice_cmp nat_cmp) key m ≡ Some b → Contains (record_blocks m) b
found-in key [] b h = absurd cc
found-in key (e ∷ m) b h =
    found-case e m b (eq_by_cmp (slice_cmp nat_cmp) key e.0) (find (slice_cmp nat_cmp) key m) (found-in key m b) h

given-case : {A : Type 0} (digest : List ℕ → List ℕ) (gives : List ℕ → Option (Arc (List ℕ) A)) (after o : Option (List ℕ))
    → ((b : List ℕ) → o ≡ Some b → bytes_given gives (cid digest b) ≡ Some b) → option_map (cid digest) o ≡ after
    → record_given gives after ≡ cons_option o []
given-case digest gives after None has e = ap (record_given gives) (sym e)
given-case digest gives after (Some b) has e =
    ap (record_given gives) (sym e) ∙ ap (λ (x : Option (List ℕ)). cons_option x []) (has b refl)

module _ {A : Type 0} (digest : List ℕ → List ℕ) (gives : List ℕ → Option (Arc (List ℕ) A)) (m : Records)
    (has : HasBlocks digest (bytes_given gives) (record_blocks m)) where
  record-agrees : (c : KeyChange) → value_of c.key (pairs digest m) ≡ c.after → record_given gives c.after ≡ record_at m c.key
  record-agrees c told =
      given-case digest gives c.after (find (slice_cmp nat_cmp) c.key m) (λ b h. has b (found-in c.key m b h))
      (sym (value-record digest m c.key).0 ∙ told)

  -- ---- of all operations whose keys have what is told

  pub records-agree : (ops : List KeyChange) → AllByRecursion (λ c. value_of c.key (pairs digest m) ≡ c.after) ops
      → records_given gives ops ≡ records_left m ops
  records-agree [] told = refl
  records-agree (c ∷ cs) told =
      ap (λ (x : List (List ℕ)). x ++ records_given gives cs) (record-agrees c told.0)
      ∙ ap (λ (x : List (List ℕ)). record_at m c.key ++ x) (records-agree cs told.1)

  pub sizes-agree : (place : ℕ) (ops : List KeyChange) → AllByRecursion (λ c. value_of c.key (pairs digest m) ≡ c.after) ops
      → sizes_given gives place ops ≡ sizes_test m place ops
  sizes-agree place [] told = refl
  sizes-agree place (c ∷ cs) told =
      ap (λ (x : List (List ℕ)). size_test place x >>= (λ y. sizes_given gives (suc place) cs)) (record-agrees c told.0)
      ∙ bind-same (size_test place (record_at m c.key)) (sizes_given gives (suc place) cs) (sizes_test m (suc place) cs)
      (sizes-agree (suc place) cs told.1)
    where
      bind-same : (r one other : Result (Unit {0}) Untold) → one ≡ other → (r >>= (λ y. one)) ≡ (r >>= (λ y. other))
      bind-same r one other e = ap (λ (x : Result (Unit {0}) Untold). r >>= (λ y. x)) e

-- ---- values

same-is : (x y : Option (List ℕ)) → is_same x y ≡ true → x ≡ y
same-is None None h = refl
same-is None (Some y) h = absurd cc
same-is (Some x) None h = absurd cc
same-is (Some x) (Some y) h = ap (λ (t : List ℕ). Some t) ((bytes_eq-Decides x y).0 h)

pub told-each : (place : ℕ) (cs : List KeyChange) (es : List Pair) → are_told place (values (undone cs) es) cs ≡ Ok tt
    → AllByRecursion (λ c. value_of c.key es ≡ c.after) cs
told-each place [] es e = tt
told-each place (c ∷ cs) es e =
    let b = ensure_ok (is_same (value_of c.key es) c.after) (OtherValue place)
    (λ same. are_told (suc place) (values (undone cs) es) cs) tt e in
    (same-is (value_of c.key es) c.after b.0, told-each (suc place) cs es b.1)

-- ---- what a batch left

were-told : (r : Result (Unit {0}) ChangeFault) (x : Unit {0}) → of_values r ≡ Ok x → r ≡ Ok tt
were-told (Ok tt) x e = refl
were-told (Err f) x e = absurd cc

-- two steps of which the first went well
then-two : (r next : Result (Unit {0}) Untold) (x : Unit {0}) → r ≡ Ok x → (r >>= (λ y. next)) ≡ next
then-two r next x e = ap (λ (t : Result (Unit {0}) Untold). t >>= (λ y. next)) e

module _ (digest : List ℕ → List ℕ) (m : Records) (ops : List KeyChange) where
  abbrev valued : Result (Unit {0}) Untold
  valued = of_values (are_told 0 (values (undone ops) (pairs digest m)) ops)

  told-valued : (x : Unit {0}) → valued ≡ Ok x → AllByRecursion (λ c. value_of c.key (pairs digest m) ≡ c.after) ops
  told-valued x e = told-each 0 ops (pairs digest m) (were-told (are_told 0 (values (undone ops) (pairs digest m)) ops) x e)

  pub told-left : (x : Unit {0}) → left_test digest m ops ≡ Ok x
      → AllByRecursion (λ c. value_of c.key (pairs digest m) ≡ c.after) ops
  unfolding left_test
  told-left x e = let b = bind_ok valued (λ y. sizes_test m 0 ops) x e in told-valued b.0 b.1

  pub values-left : (o : Option Untold) → Fails o valued → Fails o (left_test digest m ops)
  unfolding left_test
  values-left None h = tt
  values-left (Some f) h = ap (λ (t : Result (Unit {0}) Untold). t >>= (λ y. sizes_test m 0 ops)) h

  module _ {A : Type 0} (gives : List ℕ → Option (Arc (List ℕ) A)) (has : HasBlocks digest (bytes_given gives) (record_blocks m))
      (x : Unit {0}) (told : valued ≡ Ok x) where
    sizes-are : left_test digest m ops ≡ sizes_given gives 0 ops
    unfolding left_test
    sizes-are =
        then-two valued (sizes_test m 0 ops) x told ∙ sym (sizes-agree digest gives m has 0 ops (told-valued x told))

    pub sizes-left : (o : Option Untold) → Fails o (sizes_given gives 0 ops) → Fails o (left_test digest m ops)
    sizes-left None h = tt
    sizes-left (Some f) h = sizes-are ∙ h

    pub all-left : (y : Unit {0}) → sizes_given gives 0 ops ≡ Ok y → left_test digest m ops ≡ Ok y
    all-left y h = sizes-are ∙ h

-- ---- of a state

-- a source of a state's blocks and of its tree has its records
pub state-has : (digest : List ℕ → List ℕ) (bits : ℕ) (gives : List ℕ → Option (List ℕ)) (s : State) (root : List ℕ)
    → root ≡ state_root digest bits s → HasBlocks digest gives (state_blocks digest bits s)
    → HasTree digest bits gives (state_root digest bits s) (pairs digest (records s)) → HasRecords digest bits gives root (records s)
state-has digest bits gives s root is blocks tree = record {
  tree = subst (λ (r : List ℕ). HasTree digest bits gives r (pairs digest (records s))) (sym is) tree;
  records = λ b i. blocks b (record-in digest bits (commit_blocks (last_stamp s) (state_root digest bits s)) (records s) (sorted-records s) b i);
}
