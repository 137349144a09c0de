-- What a file is the export of can be opened.
use Rattle.std.proofs.Common.{◌≡◌, ℕ, List, [], ◌∷◌, refl, sym, ap, ◌∙◌}
use Rattle.std.specs.Prelude.{◌&&◌}
use Rattle.std.specs.Cmp.Lexicographic.{slice_cmp}
use Rattle.std.specs.Ordering.{nat_cmp, is_lt}
use Rattle.std.specs.FinMap.{is_sorted}
use Rattle.std.specs.FinMap.Entries.{below_all}
use Rattle.spec.specs.Blocks.{pairs}
use Rattle.checked_opening.specs.Laws.{ExportIsOpenable}

abbrev Records : Type 0
Records = List (List ℕ × List ℕ)

-- records ascend where their pairs do
below-pairs : (digest : List ℕ → List ℕ) (k : List ℕ) (m : Records)
    → below_all (slice_cmp nat_cmp) k (pairs digest m) ≡ below_all (slice_cmp nat_cmp) k m
below-pairs digest k [] = refl
below-pairs digest k (e ∷ m) = ap (λ t. is_lt (slice_cmp nat_cmp k e.0) && t) (below-pairs digest k m)

sorted-pairs : (digest : List ℕ → List ℕ) (m : Records)
    → is_sorted (slice_cmp nat_cmp) (pairs digest m) ≡ is_sorted (slice_cmp nat_cmp) m
sorted-pairs digest [] = refl
sorted-pairs digest (e ∷ m) =
    ap (λ t. t && is_sorted (slice_cmp nat_cmp) (pairs digest m)) (below-pairs digest e.0 m)
    ∙ ap (λ t. below_all (slice_cmp nat_cmp) e.0 m && t) (sorted-pairs digest m)

pub export-openable : ExportIsOpenable
export-openable digest bits file c m is = record {
  did = is.commit.did;
  rev = is.commit.rev;
  sorted = sym (sorted-pairs digest m) ∙ is.pairs_are.sorted;
  keys = is.keys;
  records = is.records;
  root_is = is.root_is;
}
