-- What a check found is what the file is the export of.
use Rattle.std.proofs.Common.{◌≡◌, ℕ, zero, suc, ◌<◌, Bool, true, false, cond, List, [], ◌∷◌, length, get_or, Option, Result, Ok, Err, refl, sym, ap, subst, ◌∙◌, arith}
use Rattle.std.specs.Prelude.{option_map}
use Rattle.std.specs.declared.option.Option.TheVariants.{Some, None}
use Rattle.std.specs.List.{list_all, AllByRecursion}
use Rattle.std.specs.Str.{bytes_eq}
use Rattle.std.proofs.lemmas.Slice.Eq.{bytes_eq-Decides}
use Rattle.spec.specs.Reading.{◌>>=◌, ensure}
use Rattle.spec.specs.Cid.{cid}
use Rattle.spec.specs.Tree.{Pair}
use Rattle.spec.specs.Keys.{is_repository_key}
use Rattle.spec.specs.Writes.{WriteFault, BadKey, record_test}
use Rattle.spec.specs.Blocks.{ArePairs, pairs, record_blocks, root as root_of}
use Rattle.spec.specs.Sources.{HasBlocks, HasNodes}
use Rattle.spec.specs.CarReading.{Section, are_named, is_named, section_with, block_with, car_bytes}
use Rattle.spec.specs.SignedCommits.{Commit, signed_bytes}
use Rattle.spec.specs.Exports.{ExportFault, RecordFault, IsExport, IsTree, given_by, of_test, or_no_record, record_for, at_place, records_from, keyed}
use Rattle.spec.proofs.Bools.{both}
use Rattle.repository_check.specs.Parts.{IsNamedCar, IsCommitAt}

-- ---- what is found is named by its block

found-named : (digest : List ℕ → List ℕ) (s : Section) (ss : List Section) (c b : List ℕ) (t : Bool) → bytes_eq s.cid c ≡ t
    → option_map (λ s. s.block) (cond t (Some s) (section_with c ss)) ≡ Some b → is_named digest s ≡ true
    → (block_with c ss ≡ Some b → cid digest b ≡ c) → cid digest b ≡ c
found-named digest s ss c b true e h named rest =
    let block : s.block ≡ b = cc in
    ap (cid digest) (sym block) ∙ (bytes_eq-Decides (cid digest s.block) s.cid).0 named ∙ (bytes_eq-Decides s.cid c).0 e
found-named digest s ss c b false e h named rest = rest h

pub named-found : (digest : List ℕ → List ℕ) (ss : List Section) (c b : List ℕ) → are_named digest ss ≡ true
    → block_with c ss ≡ Some b → cid digest b ≡ c
named-found digest [] c b named e = absurd cc
named-found digest (s ∷ ss) c b named e =
    let p = both (is_named digest s) (list_all (is_named digest) ss) named in
    found-named digest s ss c b (bytes_eq s.cid c) refl e p.0 (named-found digest ss c b p.1)

-- ---- records that were taken

-- the sections have this record for the pair, and it is lawful
pub record IsRecord (ss : List Section) (e : Pair) (r : List ℕ) : Type 0 where
  pub key : is_repository_key e.0 ≡ true
  pub found : block_with e.1 ss ≡ Some r
  pub lawful : record_test r ≡ Ok tt

abbrev pub AreRecords : List Section → List Pair → List (List ℕ) → Type 0
AreRecords ss [] [] = Unit {0}
AreRecords ss [] (r ∷ rs) = ⊥
AreRecords ss (e ∷ es) [] = ⊥
AreRecords ss (e ∷ es) (r ∷ rs) = IsRecord ss e r × AreRecords ss es rs

abbrev tested : List ℕ → Result (Unit {0}) WriteFault → Result (List ℕ) RecordFault
tested b w = of_test w >>= λ (ok : Unit {0}). Ok b

abbrev looked_up : Bool → Option (List ℕ) → Result (List ℕ) RecordFault
looked_up t o = of_test (ensure t BadKey) >>= λ (ok : Unit {0}). or_no_record o >>= λ (b : List ℕ). tested b (record_test b)

tested-ok : (b r : List ℕ) (w : Result (Unit {0}) WriteFault) → record_test b ≡ w → tested b w ≡ Ok r
    → (b ≡ r) × (record_test b ≡ Ok tt)
tested-ok b r (Ok u) e h = (cc, e)
tested-ok b r (Err f) e h = absurd cc

looked-up_ok : (ss : List Section) (e : Pair) (r : List ℕ) (t : Bool) (o : Option (List ℕ)) → is_repository_key e.0 ≡ t
    → block_with e.1 ss ≡ o → looked_up t o ≡ Ok r → IsRecord ss e r
looked-up_ok ss e r false o key found h = absurd cc
looked-up_ok ss e r true None key found h = absurd cc
looked-up_ok ss e r true (Some b) key found h =
    let p = tested-ok b r (record_test b) refl h in
    record {
      key = key;
      found = found ∙ ap (λ (x : List ℕ). Some x) p.0;
      lawful = sym (ap record_test p.0) ∙ p.1;
    }

record-ok : (ss : List Section) (e : Pair) (r : List ℕ) → record_for ss e ≡ Ok r → IsRecord ss e r
record-ok ss e r h = looked-up_ok ss e r (is_repository_key e.0) (block_with e.1 ss) refl refl h

-- a record, and those of the pairs after it
abbrev then_records : Result (List ℕ) ExportFault → Result (List (List ℕ)) ExportFault → Result (List (List ℕ)) ExportFault
then_records first rest = first >>= λ (r : List ℕ). rest >>= λ (rs : List (List ℕ)). Ok (r ∷ rs)

-- the records begin with one, and go on with the others
record Begins (rs : List (List ℕ)) (first : Result (List ℕ) RecordFault) (rest : Result (List (List ℕ)) ExportFault) : Type 0 where
  record_is : List ℕ
  others : List (List ℕ)
  whole : rs ≡ record_is ∷ others
  first_is : first ≡ Ok record_is
  rest_is : rest ≡ Ok others

begins : (place : ℕ) (rs : List (List ℕ)) (first : Result (List ℕ) RecordFault) (rest : Result (List (List ℕ)) ExportFault)
    → then_records (at_place place first) rest ≡ Ok rs → Begins rs first rest
begins place rs (Ok r) (Ok others) h = record { record_is = r; others = others; whole = cc; first_is = refl; rest_is = refl }
begins place rs (Ok r) (Err f) h = absurd cc
begins place rs (Err f) rest h = absurd cc

pub records-ok : (ss : List Section) (place : ℕ) (es : List Pair) (rs : List (List ℕ)) → records_from ss place es ≡ Ok rs
    → AreRecords ss es rs
records-ok ss place [] [] h = tt
records-ok ss place [] (r ∷ rs) h = absurd cc
records-ok ss place (e ∷ es) rs h =
    let b = begins place rs (record_for ss e) (records_from ss (suc place) es) h in
    subst (AreRecords ss (e ∷ es)) (sym b.whole)
    (record-ok ss e b.record_is b.first_is, records-ok ss (suc place) es b.others b.rest_is)

pub records-length : (ss : List Section) (es : List Pair) (rs : List (List ℕ)) → AreRecords ss es rs → length es ≡ length rs
records-length ss [] [] h = refl
records-length ss [] (r ∷ rs) h = absurd h
records-length ss (e ∷ es) [] h = absurd h
records-length ss (e ∷ es) (r ∷ rs) h = ap suc (records-length ss es rs h.1)

-- ---- the records under their keys

at-each : {X : Type 0} (P : X → Type 0) (xs : List X) (x : X) (i : ℕ) → AllByRecursion P xs → i < length xs → get_or xs i x ≡ x → P x
at-each P [] x i all lt is = absurd (omega arith)
at-each P (y ∷ ys) x zero all lt is = subst P is all.0
at-each P (y ∷ ys) x (suc i) all lt is = at-each P ys x i all.1 (omega arith) is

module _ (digest : List ℕ → List ℕ) (ss : List Section) (named : are_named digest ss ≡ true) where
  pub pairs-keyed : (es : List Pair) (rs : List (List ℕ)) → AreRecords ss es rs → pairs digest (keyed es rs) ≡ es
  pairs-keyed [] [] h = refl
  pairs-keyed [] (r ∷ rs) h = absurd h
  pairs-keyed (e ∷ es) [] h = absurd h
  pairs-keyed (e ∷ es) (r ∷ rs) h =
      ap (λ (c : List ℕ). (e.0, c) ∷ pairs digest (keyed es rs)) (named-found digest ss e.1 r named h.0.found)
      ∙ ap (λ (t : List Pair). e ∷ t) (pairs-keyed es rs h.1)

  keys-keyed : (es : List Pair) (rs : List (List ℕ)) → AreRecords ss es rs
      → AllByRecursion (λ e. is_repository_key e.0 ≡ true) (keyed es rs)
  keys-keyed [] [] h = tt
  keys-keyed [] (r ∷ rs) h = absurd h
  keys-keyed (e ∷ es) [] h = absurd h
  keys-keyed (e ∷ es) (r ∷ rs) h = (h.0.key, keys-keyed es rs h.1)

  records-keyed : (es : List Pair) (rs : List (List ℕ)) → AreRecords ss es rs
      → AllByRecursion (λ e. record_test e.1 ≡ Ok tt) (keyed es rs)
  records-keyed [] [] h = tt
  records-keyed [] (r ∷ rs) h = absurd h
  records-keyed (e ∷ es) [] h = absurd h
  records-keyed (e ∷ es) (r ∷ rs) h = (h.0.lawful, records-keyed es rs h.1)

  blocks-keyed : (es : List Pair) (rs : List (List ℕ)) → AreRecords ss es rs
      → AllByRecursion (λ b. given_by ss (cid digest b) ≡ Some b) (record_blocks (keyed es rs))
  blocks-keyed [] [] h = tt
  blocks-keyed [] (r ∷ rs) h = absurd h
  blocks-keyed (e ∷ es) [] h = absurd h
  blocks-keyed (e ∷ es) (r ∷ rs) h =
      (ap (given_by ss) (named-found digest ss e.1 r named h.0.found) ∙ h.0.found, blocks-keyed es rs h.1)

  has-keyed : (es : List Pair) (rs : List (List ℕ)) → AreRecords ss es rs → HasBlocks digest (given_by ss) (record_blocks (keyed es rs))
  has-keyed es rs h b c =
      at-each (λ x. given_by ss (cid digest x) ≡ Some x) (record_blocks (keyed es rs)) b c.0 (blocks-keyed es rs h) c.1 c.2

-- ---- the export

pub is-export : (digest : List ℕ → List ℕ) (bits : ℕ) (file : List ℕ) (car : List ℕ × List Section) (c : Commit) (es : List Pair)
    (rs : List (List ℕ)) → IsNamedCar digest file car → IsCommitAt car.0 car.1 c → IsTree digest bits car.1 c.root es
    → records_from car.1 0 es ≡ Ok rs → IsExport digest bits file c (keyed es rs)
is-export digest bits file car c es rs named at tree taken =
    let ss : List Section = car.1 in
    let are = records-ok ss 0 es rs taken in
    let same : es ≡ pairs digest (keyed es rs) = sym (pairs-keyed digest ss named.named es rs are) in
    let root : car.0 ≡ cid digest (signed_bytes c) = sym (named-found digest ss car.0 (signed_bytes c) named.named at.found) in
    record {
      sections = ss;
      spelled = named.spelled ∙ ap (λ (r : List ℕ). car_bytes r ss) root;
      lawful = named.lawful;
      named = named.named;
      commit = at.lawful;
      has_commit = sym (ap (given_by ss) root) ∙ at.found;
      pairs_are = subst ArePairs same tree.pairs;
      root_is = tree.root_is ∙ ap (root_of digest bits) same;
      has_nodes = subst (HasNodes digest bits (given_by ss)) same tree.nodes;
      has_records = has-keyed digest ss named.named es rs are;
      keys = keys-keyed digest ss named.named es rs are;
      records = records-keyed digest ss named.named es rs are;
    }
