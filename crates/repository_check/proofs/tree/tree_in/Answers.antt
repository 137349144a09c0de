use Rattle.std.proofs.Common.{Vec, ◌≡◌, ℕ, ◌<◌, ◌^◌, true, List, length, sym, ap, subst, ◌∙◌, arith}
use Rattle.std.specs.List.{AllByRecursion}
use Rattle.spec.specs.Cid.{is_own_cid}
use Rattle.spec.specs.NodeFormat.{is_ascending}
use Rattle.repository_check.specs.Parts.{IsRebuilt}
use Rattle.repository_check.specs.Views.{pairs_of}
use Rattle.repository_check.proofs.Refusals.{not-ascending, not-rebuilt}
use Rattle.repository_check.proofs.Trees.{ascending-pairs, is-tree}
use Rattle.repository_check.proofs.tree.tree_in.Goals as goal

pub is_rebuilt-requires-clause-ascending : goal.is_rebuilt-requires-clause-ascending
is_rebuilt-requires-clause-ascending g c =
    ap (λ ps. is_ascending (pairs_of ps)) (c.deref-2.ensures.value ∙ sym c.deref.ensures.value) ∙ sym c.is_ascending.ensures
    ∙ c.if-not-is_ascending.false

pub returns-then-not-is_ascending-clause-fault : goal.returns-then-not-is_ascending-clause-fault
returns-then-not-is_ascending-clause-fault g c =
    not-ascending g.D.Digest.digest_of g.row.B c.args.places.now c.args.root.now
    (pairs_of c.in_ok-pairs.pairs.items) c.is_ascending.result c.in_ok-pairs.ensures
    (c.is_ascending.ensures ∙ ap (λ ps. is_ascending (pairs_of ps)) c.deref.ensures.value) c.if-not-is_ascending.true

pub returns-then-not-branch-clause-fault : goal.returns-then-not-branch-clause-fault
returns-then-not-branch-clause-fault g c =
    let Rebuilt = λ (ps : List (Vec ℕ g.row.A.Denot × List ℕ)).
    IsRebuilt g.D.Digest.digest_of g.row.B c.args.places.now c.args.root.now (pairs_of ps) in
    not-rebuilt g.D.Digest.digest_of g.row.B c.args.places.now c.args.root.now
    (pairs_of c.in_ok-pairs.pairs.items) c.in_ok-is_rebuilt.field-0 c.in_ok-pairs.ensures
    (λ r. c.in_ok-is_rebuilt.ensures.rebuilt.1 (subst Rebuilt (sym c.deref-2.ensures.value) r)) c.if-not-branch.true

pub returns-clause-tree : goal.returns-clause-tree
returns-clause-tree g c =
    let Rebuilt = λ (ps : List (Vec ℕ g.row.A.Denot × List ℕ)).
    IsRebuilt g.D.Digest.digest_of g.row.B c.args.places.now c.args.root.now (pairs_of ps) in
    let up : is_ascending (pairs_of c.in_ok-pairs.pairs.items) ≡ true =
    ap (λ ps. is_ascending (pairs_of ps)) (sym c.deref.ensures.value) ∙ sym c.is_ascending.ensures ∙ c.if-not-is_ascending.false in
    let own = subst (λ (ps : List (Vec ℕ g.row.A.Denot × List ℕ)). AllByRecursion (λ e. is_own_cid e.1 ≡ true) (pairs_of ps))
    c.deref-3.ensures.value c.have_own_cids.ensures.own in
    let few : length c.in_ok-pairs.pairs.items < 2 ^ 63 =
    let q : length c.deref-3.result.now ≡ length c.in_ok-pairs.pairs.items = ap length c.deref-3.ensures.value in
    let k = c.have_own_cids.ensures.count in
    omega (arith, q, k) in
    is-tree g.D.Digest.digest_of g.row.B c.args.places.now c.args.root.now c.in_ok-pairs.pairs.items
    (ascending-pairs (pairs_of c.in_ok-pairs.pairs.items) up) own few
    (subst Rebuilt c.deref-2.ensures.value (c.in_ok-is_rebuilt.ensures.rebuilt.0 c.if-not-branch.false))
