-- The records that operations leave are found, and are such.
use Rattle.std.proofs.Common.{◌≡◌, ℕ, suc, Bool, true, false, cond, List, [], ◌∷◌, ◌++◌, length, refl, sym, ap, ◌∙◌, Option, Result, Ok}
use Rattle.std.specs.Prelude.{Contains, IfSome, nat_le, option_map}
use Rattle.std.specs.List.{AllByRecursion, cons_option}
use Rattle.std.specs.declared.option.Option.TheVariants.{Some, None}
use Rattle.std.specs.Cmp.Lexicographic.{slice_cmp}
use Rattle.std.specs.Ordering.{nat_cmp, eq_by_cmp}
use Rattle.std.specs.FinMap.{find}
use Rattle.std.proofs.lemmas.List.Elements.{Contains-append_right}
use Rattle.spec.specs.Reading.{◌>>=◌, ensure}
use Rattle.spec.specs.Cid.{cid}
use Rattle.spec.specs.Blocks.{pairs, record_at, value_of}
use Rattle.spec.specs.CarReading.{Section, block_with}
use Rattle.spec.specs.Writes.{WriteFault, record_test}
use Rattle.spec.proofs.RecordPairs.{value-record}
use Rattle.spec.proofs.RootLaws.{in_head}
use Rattle.spec.proofs.Taking.{bind_ok}
use Rattle.export_laws.proofs.LeftRecords.{IsGood}
use Rattle.change_laws.specs.Told.{KeyChange}
use Rattle.event_times.specs.Limits.{most_record_bytes}
use Rattle.event_laws.specs.Verdict as verdict
use Rattle.event_laws.specs.Verdict.{EventFault, after_test, of_record, or_missing, records_test}
use Rattle.event_writing_laws.specs.Telling.{RecordSize, size_test, sizes_test}
use Rattle.event_writing_laws.specs.Messages.{records_left}

abbrev Records : Type 0
Records = List (List ℕ × List ℕ)

pub ensured : {E : Type 0} (t : Bool) (fault : E) (x : Unit {0}) → ensure t fault ≡ Ok x → t ≡ true
ensured true fault x e = refl
ensured false fault x e = absurd cc

-- ---- a record under a key is one of the records

good-case : (t : Bool) (b : List ℕ) (o : Option (List ℕ)) → record_test b ≡ Ok tt → IfSome o (λ x. record_test x ≡ Ok tt)
    → IfSome (cond t (Some b) o) (λ x. record_test x ≡ Ok tt)
good-case true b o h k = h
good-case false b o h k = k

pub good-found : (m : Records) (key : List ℕ) → AllByRecursion IsGood m
    → IfSome (find (slice_cmp nat_cmp) key m) (λ b. record_test b ≡ Ok tt)
good-found [] key a = tt
good-found (e ∷ m) key a =
    good-case (eq_by_cmp (slice_cmp nat_cmp) key e.0) e.1 (find (slice_cmp nat_cmp) key m) a.0.1 (good-found m key a.1)

module _ (digest : List ℕ → List ℕ) (m : Records) (ss : List Section) where
  abbrev IsGiven : List ℕ → Type 0
  IsGiven b = block_with (cid digest b) ss ≡ Some b

  taken-record : (place : ℕ) (b : List ℕ) → IsGiven b → nat_le (length b) most_record_bytes ≡ true → record_test b ≡ Ok tt
      → after_test ss place (Some (cid digest b)) ≡ Ok tt
  taken-record place b is short good =
      ap (λ (o : Option (List ℕ)). or_missing (verdict.RecordMissing place) o >>= (λ (x : List ℕ). ensure (nat_le (length x) most_record_bytes) (verdict.RecordSize place) >>= (λ (y : Unit {0}). of_record place (record_test x)))) is
      ∙ ap (λ (t : Bool). ensure t (verdict.RecordSize place) >>= (λ (y : Unit {0}). of_record place (record_test b))) short
      ∙ ap (λ (r : Result (Unit {0}) WriteFault). of_record place r) good

  one-record : (place : ℕ) (o after : Option (List ℕ)) (rest : List (List ℕ)) (x : Unit {0}) → option_map (cid digest) o ≡ after
      → ((b : List ℕ) → Contains (cons_option o [] ++ rest) b → IsGiven b) → size_test place (cons_option o []) ≡ Ok x
      → IfSome o (λ b. record_test b ≡ Ok tt) → after_test ss place after ≡ Ok tt
  one-record place None after rest x e known size good = ap (after_test ss place) (sym e)
  one-record place (Some b) after rest x e known size good =
      ap (after_test ss place) (sym e)
      ∙ taken-record place b (known b (in_head b rest)) (ensured (nat_le (length b) most_record_bytes) (RecordSize place) x size) good

  pub all-records : (place : ℕ) (ops : List KeyChange) → AllByRecursion IsGood m
      → AllByRecursion (λ c. value_of c.key (pairs digest m) ≡ c.after) ops
      → ((b : List ℕ) → Contains (records_left m ops) b → IsGiven b) → sizes_test m place ops ≡ Ok tt
      → records_test ss place ops ≡ Ok tt
  all-records place [] good after known sizes = refl
  all-records place (c ∷ cs) good after known sizes =
      let s = bind_ok (size_test place (record_at m c.key)) (λ x. sizes_test m (suc place) cs) tt sizes in
      ap (λ (r : Result (Unit {0}) EventFault). r >>= (λ x. records_test ss (suc place) cs))
      (one-record place (find (slice_cmp nat_cmp) c.key m) c.after (records_left m cs) s.0
      (sym (value-record digest m c.key).0 ∙ after.0) known s.1 (good-found m c.key good))
      ∙ all-records (suc place) cs good after.1
      (λ b i. known b (Contains-append_right (record_at m c.key) (records_left m cs) b i)) s.2
