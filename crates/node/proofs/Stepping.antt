-- Keys put together from rows: for callers of `KeyBuf::step` on the entries of a node.
use Rattle.std.proofs.Common.{◌≡◌, ℕ, ◌+◌, ◌≤◌, true, ltb, leb, List, ◌++◌, length, take, arith}
use Rattle.std.proofs.lemmas.Bool.{leb-true}
use Rattle.std.proofs.lemmas.List.{length-drop}
use Rattle.spec.specs.NodeFormat.{Entry, common, is_key}
use Rattle.spec.proofs.Bools.{both}
use Rattle.node.specs.Rows.{row_after}
use Rattle.node.proofs.CommonParts.{key-again}
use Rattle.node.proofs.Comparing.{common-turn}
use Rattle.node.proofs.Finding.{common-fits}

-- an entry keeps no more than the key before has
pub prefix-fits : (before : List ℕ) (e : Entry) → (row_after before e).prefix ≤ length before
prefix-fits before e = common-fits before e.key

-- its key is no longer than a key may be
pub key-fits : (before : List ℕ) (e : Entry) → is_key e.key ≡ true → (row_after before e).prefix + length (row_after before e).suffix ≤ 1024
key-fits before e is =
    let long : length e.key ≤ 1024 = leb-true (length e.key) 1024 (both (ltb 0 (length e.key)) (leb (length e.key) 1024) is).1 in
    omega (arith, length-drop (common before e.key) e.key, common-fits e.key before, common-turn e.key before)

-- what is kept of the key before and the suffix make the entry's key
pub key-stepped : (before : List ℕ) (e : Entry) → take (row_after before e).prefix before ++ (row_after before e).suffix ≡ e.key
key-stepped before e = key-again before e.key
