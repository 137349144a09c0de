-- The phases of a check, one after the other.
use Rattle.std.proofs.Common.{Vec, ◌≡◌, ℕ, List, length, Option, Ok, sym, ap, subst, ◌∙◌}
use Rattle.std.specs.Prelude.{IfSome}
use Rattle.std.specs.declared.option.Option.TheVariants.{Some, None}
use Rattle.std.specs.Borrow.{Bor}
use Rattle.std.proofs.lemmas.List.{length-map}
use Rattle.spec.specs.Reading.{Fails}
use Rattle.spec.specs.Tree.{Pair}
use Rattle.spec.specs.Blocks.{pairs}
use Rattle.spec.specs.CarReading.{Section}
use Rattle.spec.specs.SignedCommits.{Commit}
use Rattle.spec.specs.Exports.{ExportFault, IsExport, IsTree, IsFirstFault, named_file, commit_with, opened, records_from, keyed}
use Rattle.repository_check.specs.Parts.{IsNamedCar, IsCommitAt, NoTree}
use Rattle.repository_check.specs.Views.{lent, pairs_of}
use Rattle.repository_check.proofs.Exporting.{records-ok, records-length, pairs-keyed, is-export}
use Rattle.repository_check.proofs.FirstFaults.{opened-as, first-of_commit, first-of_records}

no-tree : (digest : List ℕ → List ℕ) (bits : ℕ) (file : List ℕ) (ss : List Section) (c : Commit) (o : Option ExportFault)
    → opened digest file ≡ Ok (ss, c) → IfSome o (NoTree digest bits ss c.root) → IfSome o (IsFirstFault digest bits file)
no-tree digest bits file ss c None is_open h = tt
no-tree digest bits file ss c (Some f) is_open h =
    subst (IsFirstFault digest bits file) (sym h.is) (record { sections = ss; commit = c; opened_as = is_open; no_tree = h.none })

module _ (digest : List ℕ → List ℕ) (bits : ℕ) (file : List ℕ) (car : List ℕ × List Section) (root : List ℕ) (ss : List Section)
    (root_is : root ≡ car.0) (ss_is : ss ≡ car.1) (read : named_file digest file ≡ Ok car) where
  car-is : (root, ss) ≡ car
  car-is = ap (λ (r : List ℕ). (r, ss)) root_is ∙ ap (λ (s : List Section). (car.0, s)) ss_is

  read-as : named_file digest file ≡ Ok (root, ss)
  read-as = read ∙ ap (λ (x : List ℕ × List Section). Ok x) (sym car-is)

  pub first-commit : (o : Option ExportFault) → Fails o (commit_with root ss) → IfSome o (IsFirstFault digest bits file)
  first-commit o h = first-of_commit digest bits file (root, ss) o read-as h

  module _ (c : Commit) (commit_is : commit_with root ss ≡ Ok c) (top : List ℕ) (top_is : top ≡ c.root) where
    opens : opened digest file ≡ Ok (ss, c)
    opens = opened-as digest file (root, ss) c read-as commit_is

    pub first-tree : (o : Option ExportFault) → IfSome o (NoTree digest bits ss top) → IfSome o (IsFirstFault digest bits file)
    first-tree o h = no-tree digest bits file ss c o opens (subst (λ (r : List ℕ). IfSome o (NoTree digest bits ss r)) top_is h)

    module _ (es : List Pair) (tree : IsTree digest bits ss top es) where
      tree-is : IsTree digest bits ss c.root es
      tree-is = subst (λ (r : List ℕ). IsTree digest bits ss r es) top_is tree

      pub first-record : (o : Option ExportFault) → Fails o (records_from ss 0 es) → IfSome o (IsFirstFault digest bits file)
      first-record o h = first-of_records digest bits file ss c es o opens tree-is h

      module _ (rs : List (List ℕ)) (taken : records_from ss 0 es ≡ Ok rs) (named : IsNamedCar digest file car)
          (m : List (List ℕ × List ℕ)) (m_is : m ≡ keyed es rs) where
        named-as : IsNamedCar digest file (root, ss)
        named-as = subst (IsNamedCar digest file) (sym car-is) named

        pub exported : IsCommitAt root ss c → IsExport digest bits file c m
        exported at =
            subst (IsExport digest bits file c) (sym m_is) (is-export digest bits file (root, ss) c es rs named-as at tree-is taken)

        pub cids-are : (listed : List Pair) → listed ≡ es → listed ≡ pairs digest m
        cids-are listed is =
            is ∙ sym (ap (pairs digest) m_is ∙ pairs-keyed digest ss named-as.named es rs (records-ok ss 0 es rs taken))

-- as many records as pairs
pub as-many : {A : Type 0} (ss : List Section) (ps : List (Vec ℕ A × List ℕ)) (bs : List (Bor (List ℕ)))
    → records_from ss 0 (pairs_of ps) ≡ Ok (lent bs) → length ps ≡ length bs
as-many ss ps bs taken =
    sym (length-map ps (λ (p : Vec ℕ _ × List ℕ). (p.0.items, p.1)))
    ∙ records-length ss (pairs_of ps) (lent bs) (records-ok ss 0 (pairs_of ps) (lent bs) taken)
    ∙ length-map bs (λ (b : Bor (List ℕ)). b.now)
