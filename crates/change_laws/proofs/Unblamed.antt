-- Over some blocks of a tree nothing is said against a block, but that one is missing.
use Rattle.std.proofs.Common.{ℕ, List, sym, subst, Option, Ok, Err}
use Rattle.spec.specs.Layer.{layer}
use Rattle.spec.specs.Blocks.{root as root_of}
use Rattle.edit_laws.specs.Sources.{shown_by}
use Rattle.batch_laws.specs.Counts.{most_from}
use Rattle.batch_laws.specs.Links.{LinkTooDeep, NotShown, Step, Stop, Top}
use Rattle.change_laws.specs.Told.{undone}
use Rattle.change_laws.specs.Given.{given_at, unshown, stop_fault_of, or_stop, or_fault, batch_over}
use Rattle.change_laws.specs.Laws.{node_cids, IsLack, OnlyLacks, IsOfTree, TreeOnlyMissing}
use Rattle.change_laws.proofs.Within.{within-is, within-is_stop}
use Rattle.change_laws.proofs.Missing.{Tells, says}
use Rattle.change_laws.proofs.Partial.{tree-only_lacks}

module _ (cids : List (List ℕ)) (gives : List ℕ → Option (List ℕ)) where
  why-missing : (why : Stop) → IsLack cids gives why → IsOfTree cids (stop_fault_of gives why)
  why-missing (NotShown c) h = subst (λ o. IsOfTree cids (unshown c o)) (sym h.0) h.1
  why-missing LinkTooDeep h = absurd h

  stop-missing : (most : ℕ) (step : Step Top) → OnlyLacks cids gives most step
      → Tells (IsOfTree cids) (λ place. tt) tt (or_stop gives step)
  stop-missing most (Ok x) h = tt
  stop-missing most (Err e) h = why-missing e.why h.1

  only-missing : (most : ℕ) (step : Step Top) → OnlyLacks cids gives most step
      → Tells (IsOfTree cids) (λ place. tt) tt (or_fault gives most step)
  only-missing most step h =
      subst (Tells (IsOfTree cids) (λ place. tt) tt) (sym (within-is_stop gives most step (within-is most step h.0)))
      (stop-missing most step h)

pub tree-only_missing : TreeOnlyMissing
tree-only_missing digest bits fits es are free given others before cs keyed fault e =
    let gives = given_at digest given in
    let root = root_of digest bits es in
    let cids = node_cids digest bits es in
    says (IsOfTree cids) (λ place. tt) tt digest bits before root given cs
    (only-missing cids gives (most_from (layer digest bits) (undone cs) (shown_by gives root))
    (batch_over digest bits gives (undone cs) root)
    (tree-only_lacks digest bits fits es are free given others (undone cs) keyed)) fault e
