use Rattle.std.proofs.Common.{◌≤◌, ℕ, List, ◌++◌, ◌∷◌, [], length, map, take, ap, sym, subst, ◌∙◌}
use Rattle.std.specs.Arc.{arc_value}
use Rattle.std.specs.List.{cons_option}
use Rattle.std.proofs.lemmas.List.{length-map}
use Rattle.spec.specs.Cid.{cid}
use Rattle.spec.specs.Blocks.{pairs}
use Rattle.spec.specs.States.{records}
use Rattle.batch_laws.specs.Batch.{Change}
use Rattle.batch_laws.specs.Collecting.{with_cids}
use Rattle.batch_laws.specs.Previous.{values}
use Rattle.batch_laws.specs.Uses.{present_values}
use Rattle.batches.specs.Values.{stamp_of}
use Rattle.edit.specs.Batches.{nodes_read}
use Rattle.repo.specs.Exchanging.{IsExchangeOf}
use Rattle.repo.proofs.Edits.{exchange-made, tested-tree}
use Rattle.repo.proofs.Telling.{first-taken, first-within}
use Rattle.repo.proofs.exchanges.exchange_of.Goals as goal

pub returns-clause-exchange : goal.returns-clause-exchange
returns-clause-exchange g c = λ s batch on.
    let dig = g.D.Digest.digest_of in
    let tree = tested-tree dig g.row.B s batch c.args.root c.args.before c.args.stamp.now c.args.changes.now c.args.kept.now.uses on g.met.D.Digest.digest_len in
    let edit = c.in-Ok-edit_for.edit in
    let come = c.in-Ok-all_that_come.come in
    let go = c.in-Ok-all_that_go.go in
    let brought = map arc_value c.in-Ok.records.items in
    let block = arc_value c.in-Ok-commit_block.block in
    let of = c.in-Ok-edit_for.ensures.edit (pairs dig (records s)) tree in
    let gone_is = c.in-Ok-all_that_go.ensures ∙ ap (λ os. (edit.drop.items ++ present_values os) ++ cons_option c.args.before []) c.deref-3.ensures.value in
    let made = exchange-made dig g.row.B s batch c.args.root c.args.before c.args.stamp.now c.args.changes.now c.args.kept.now.uses on edit
    brought block c.cid-commit.result (map arc_value come.items) go.items of c.in-Ok.ensures.made c.in-Ok-commit_block.ensures
    (c.cid-commit.ensures ∙ ap (cid dig) c.deref-2.ensures) c.in-Ok-all_that_come.ensures gone_is in
    let nodes = c.len-nodes.result in
    let gone = c.len-gone.result in
    let last = cons_option c.args.before [] in
    let all = map arc_value come.items in
    let added = map arc_value edit.add.items in
    let nodes_is = c.len-nodes.ensures ∙ edit.add.ok.0 ∙ sym (length-map edit.add.items arc_value) in
    let gone_many = c.len-gone.ensures ∙ edit.drop.ok.0 in
    let come_is = c.in-Ok-all_that_come.ensures in
    let changes_are = on.changes_are in
    record {
      exchange = subst (λ (bs : List (List ℕ)). IsExchangeOf dig g.row.B s (stamp_of c.args.stamp.now) batch edit.root c.cid-commit.result bs all
          (take gone go.items) go.items)
          (sym (ap (take nodes) come_is ∙ first-taken added brought (block ∷ []) nodes nodes_is))
          (subst (λ (ds : List (List ℕ)). IsExchangeOf dig g.row.B s (stamp_of c.args.stamp.now) batch edit.root c.cid-commit.result added all ds go.items)
          (sym (ap (take gone) gone_is ∙ first-taken edit.drop.items (present_values edit.previous.items) last gone gone_many)) made);
      nodes_within = subst (λ (n : ℕ). nodes ≤ n) (sym (ap length come_is) ∙ length-map come.items arc_value) (first-within added brought (block ∷ []) nodes nodes_is);
      gone_within = subst (λ (n : ℕ). gone ≤ n) (sym (ap length gone_is)) (first-within edit.drop.items (present_values edit.previous.items) last gone gone_many);
      read_is = c.in-Ok-edit_for.ensures.nodes (pairs dig (records s)) tree
          ∙ ap (λ (cs : List Change). nodes_read dig g.row.B (with_cids dig cs) (pairs dig (records s))) changes_are;
      values_are = of.previous_is ∙ ap (λ (cs : List Change). values (with_cids dig cs) (pairs dig (records s))) changes_are;
    }
