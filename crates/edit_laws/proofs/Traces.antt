-- Where no node is read on a path, and where the path ends at once.
use Rattle.std.proofs.Common.{◌≡◌, ℕ, zero, suc, Bool, true, false, cond, nat_eq, List, [], refl, sym, ap, ◌∙◌}
use Rattle.std.specs.declared.cmp.Ordering.TheVariants.{Equal}
use Rattle.std.proofs.lemmas.Bool.{eq-eqb}
use Rattle.spec.specs.Tree.{Pair, Node, Part, Last, More, Nothing}
use Rattle.edit_laws.specs.Order.{order}
use Rattle.edit_laws.specs.TreeEdit.{locate}
use Rattle.edit_laws.specs.Trace.{delete_path_nodes, lowest_at, beside, seam_pairs, merge_pairs}
use Rattle.edit_laws.proofs.Orders.{order-equal}

pub nodes-none : (layer : List ℕ → ℕ) (n : ℕ) (key : List ℕ) → delete_path_nodes layer n key (Last Nothing) ≡ []
nodes-none layer zero key = refl
nodes-none layer (suc n) key = go (nat_eq (layer key) (suc n)) (nodes-none layer n key)
  where
    go : (b : Bool) → delete_path_nodes layer n key (Last Nothing) ≡ []
        → cond b [] (delete_path_nodes layer n key (Last Nothing)) ≡ []
    go true h = refl
    go false h = h

-- where the node is of the key's layer
pub row-here : (layer : List ℕ → ℕ) (key : List ℕ) (n : ℕ) (m : Node) → nat_eq (layer key) n ≡ true
    → lowest_at layer n key m ≡ (n, (locate key m).here)
row-here layer key zero m h = refl
row-here layer key (suc n) m h = rw h refl

pub single-seam : (layer : List ℕ → ℕ) (key : List ℕ) (p : Part) (e : Pair) (q : Part) → order e.0 key ≡ Equal
    → seam_pairs layer (layer e.0) key (More p e (Last q)) ≡ merge_pairs (layer e.0) p q
single-seam layer key p e q h =
    let t = layer e.0 in
    let b : nat_eq (layer key) t ≡ true = eq-eqb (layer key) t (ap layer (sym (order-equal e.0 key h))) in
    ap (λ (r : ℕ × Node). beside key r.1 (merge_pairs r.0) []) (row-here layer key t (More p e (Last q)) b)
    ∙ rw (h, h) refl
