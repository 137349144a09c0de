-- The pairs of entries are those of a tree.
use Rattle.std.proofs.Common.{◌≡◌, ℕ, zero, suc, ◌<◌, ◌≤◌, ◌^◌, true, List, [], ◌∷◌, length, get_or, arith}
use Rattle.std.specs.List.{AllByRecursion}
use Rattle.std.proofs.lemmas.List.{length-map}
use Rattle.spec.specs.Cid.{is_own_cid}
use Rattle.spec.specs.NodeFormat.{is_ascending}
use Rattle.spec.specs.Blocks.{ArePairs}
use Rattle.repository_check.proofs.Trees.{ascending-pairs}
use Rattle.difference_commands.specs.Views.{Entry, pair_of, pairs_in}

own-from : (ps : List Entry) → ((k : ℕ) → k < length ps → (d : Entry) → is_own_cid (get_or ps k d).1 ≡ true)
    → AllByRecursion (λ e. is_own_cid e.1 ≡ true) (pairs_in ps)
own-from [] h = tt
own-from (p ∷ ps) h = (h zero (omega arith) p, own-from ps (λ k lt d. h (suc k) (omega arith) d))

pub own-each : (ps : List Entry) (n : ℕ) → length ps ≤ n
    → ((k : ℕ) → k < n → (d : Entry) → is_own_cid (get_or ps k d).1 ≡ true)
    → AllByRecursion (λ e. is_own_cid e.1 ≡ true) (pairs_in ps)
own-each ps n end h = own-from ps (λ k lt d. h k (omega arith) d)

pub are-pairs : (ps : List Entry) → is_ascending (pairs_in ps) ≡ true
    → AllByRecursion (λ e. is_own_cid e.1 ≡ true) (pairs_in ps) → length ps < 2 ^ 63 → ArePairs (pairs_in ps)
are-pairs ps up own few =
    let a = ascending-pairs (pairs_in ps) up in
    let count : length (pairs_in ps) ≡ length ps = length-map ps pair_of in
    record { sorted = a.sorted; keys = a.keys; values = own; count = omega arith }
