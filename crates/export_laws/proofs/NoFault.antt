-- An export has no fault.
use Rattle.std.proofs.Common.{◌≡◌, ℕ, suc, true, List, [], ◌∷◌, ◌++◌, Result, Ok, Err, refl, sym, ap, subst, ◌∙◌}
use Rattle.std.specs.List.{AllByRecursion}
use Rattle.spec.specs.Cid.{IsDigest}
use Rattle.spec.specs.Tree.{Pair}
use Rattle.spec.specs.Keys.{is_repository_key}
use Rattle.spec.specs.Writes.{record_test}
use Rattle.spec.specs.Blocks.{IsClashFree, nodes, pairs, record_blocks}
use Rattle.spec.specs.Sources.{HasBlocks}
use Rattle.spec.specs.CarReading.{Section}
use Rattle.spec.specs.SignedCommits.{Commit}
use Rattle.spec.specs.Exports.{ExportFault, OfCar, Misnamed, NoCommit, OfCommit, NotTheTree, OfRecord, IsExport, IsTree, given_by, opened, records_from}
use Rattle.spec.proofs.Taking.{ok_is}
use Rattle.spec.proofs.BlockLaws.{IsClashFree-append}
use Rattle.spec.proofs.RootLaws.{in_head, in_tail, root-names}
use Rattle.signed_commits.proofs.CommitLaws.{commit-reads_back}
use Rattle.export_laws.specs.Laws.{ExportHasNoFault}
use Rattle.export_laws.proofs.OfOne.{no-clash, read-as}

abbrev Records : Type 0
Records = List (List ℕ × List ℕ)

not-both : {A : Type 0} (x : A) (f : ExportFault) (r : Result A ExportFault) → r ≡ Ok x → r ≡ Err f → ⊥
not-both x f r e h = absurd cc

-- ---- it opens

opened-as : (digest : List ℕ → List ℕ) (bits : ℕ) (file : List ℕ) (c : Commit) (m : Records) → IsDigest digest
    → (p : IsExport digest bits file c m) → opened digest file ≡ Ok (p.sections, c)
unfolding opened
opened-as digest bits file c m fits p =
    rw (read-as digest bits file c m fits p, p.named, p.has_commit, commit-reads_back c p.commit) refl

-- ---- its records are taken

records-taken : (digest : List ℕ → List ℕ) (ss : List Section) (place : ℕ) (m : Records) → HasBlocks digest (given_by ss) (record_blocks m)
    → AllByRecursion (λ e. is_repository_key e.0 ≡ true) m → AllByRecursion (λ e. record_test e.1 ≡ Ok tt) m
    → records_from ss place (pairs digest m) ≡ Ok (record_blocks m)
records-taken digest ss place [] has keys tests = refl
records-taken digest ss place (e ∷ m) has keys tests =
    rw (
      keys.0,
      has e.1 (in_head e.1 (record_blocks m)),
      tests.0,
      records-taken digest ss (suc place) m (λ b i. has b (in_tail e.1 b (record_blocks m) i)) keys.1 tests.1,
    ) refl

-- ---- the law

module _ (digest : List ℕ → List ℕ) (bits : ℕ) (file : List ℕ) (c : Commit) (m : Records) (fits : IsDigest digest)
    (p : IsExport digest bits file c m) where
  abbrev Opened : Type 0
  Opened = List Section × Commit

  -- what the file opens as is the export's sections and its commit
  same : (ss : List Section) (d : Commit) → opened digest file ≡ Ok (ss, d) → ◌≡◌ {A = Opened} (ss, d) (p.sections, c)
  same ss d e = ok_is ExportFault (ss, d) (p.sections, c) (sym e ∙ opened-as digest bits file c m fits p)

  tree : IsTree digest bits p.sections c.root (pairs digest m)
  tree = record { pairs = p.pairs_are; root_is = p.root_is; nodes = p.has_nodes }

  -- any pairs of a tree with its root are those of its records
  same-pairs : (es : List Pair) → IsTree digest bits p.sections c.root es → es ≡ pairs digest m
  same-pairs es is =
      let xs = nodes digest bits es in
      let ys = nodes digest bits (pairs digest m) in
      let free : IsClashFree digest (xs ++ ys) =
      IsClashFree-append digest xs ys (no-clash digest p.sections xs xs is.nodes is.nodes) (no-clash digest p.sections ys ys p.has_nodes p.has_nodes)
      (no-clash digest p.sections xs ys is.nodes p.has_nodes) in
      root-names digest bits fits es (pairs digest m) is.pairs p.pairs_are free (sym is.root_is ∙ p.root_is)

  no-record_fault : (es : List Pair) (fault : ExportFault) → IsTree digest bits p.sections c.root es → records_from p.sections 0 es ≡ Err fault → ⊥
  no-record_fault es fault is refused =
      not-both (record_blocks m) fault (records_from p.sections 0 (pairs digest m))
      (records-taken digest p.sections 0 m p.has_records p.keys p.records)
      (ap (records_from p.sections 0) (sym (same-pairs es is)) ∙ refused)

pub export-no_fault : ExportHasNoFault
export-no_fault digest bits file c m (OfCar f) fits p is = not-both (p.sections, c) (OfCar f) (opened digest file) (opened-as digest bits file c m fits p) is
export-no_fault digest bits file c m Misnamed fits p is = not-both (p.sections, c) Misnamed (opened digest file) (opened-as digest bits file c m fits p) is
export-no_fault digest bits file c m NoCommit fits p is = not-both (p.sections, c) NoCommit (opened digest file) (opened-as digest bits file c m fits p) is
export-no_fault digest bits file c m (OfCommit f) fits p is = not-both (p.sections, c) (OfCommit f) (opened digest file) (opened-as digest bits file c m fits p) is
export-no_fault digest bits file c m NotTheTree fits p is =
    is.no_tree (pairs digest m)
    (subst (λ (x : List Section × Commit). IsTree digest bits x.0 x.1.root (pairs digest m))
    (sym (same digest bits file c m fits p is.sections is.commit is.opened_as)) (tree digest bits file c m fits p))
export-no_fault digest bits file c m (OfRecord place f) fits p is =
    let e = same digest bits file c m fits p is.sections is.commit is.opened_as in
    no-record_fault digest bits file c m fits p is.pairs (OfRecord place f)
    (subst (λ (x : List Section × Commit). IsTree digest bits x.0 x.1.root is.pairs) e is.tree)
    (subst (λ (x : List Section × Commit). records_from x.0 0 is.pairs ≡ Err (OfRecord place f)) e is.refused)
