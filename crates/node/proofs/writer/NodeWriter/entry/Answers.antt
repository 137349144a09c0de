use Rattle.node.specs.Rows.{row_at}
use Rattle.std.proofs.Common.{List, ℕ, arith, ap, ◌∙◌, rules}
use Rattle.spec.specs.NodeFormat.{Entry, common}
use Rattle.cid.specs.CidRef.{bytes_of}
use Rattle.node.proofs.Writing.{count-fits, WritesOne, one_more}
use Rattle.node.proofs.writer.NodeWriter.entry.Goals as goal

pub overflow_add-self : goal.overflow_add-self
overflow_add-self g c =
    let v = c.self.inside.entries in
    omega (arith, count-fits c.self.inside.count v.items c.self.inside.last _ c.self.invariant, v.small, v.ok.0, v.ok.1)

pub invariant_of-self : goal.invariant_of-self
invariant_of-self g c =
    let v = c.self.inside.entries in
    let e : Entry = record { key = c.args.key.now; value = bytes_of c.args.value; tree = c.args.tree } in
    let one : WritesOne c.common_len-prefix.result v.items c.self.inside.last c.push_entry.new.out.items c.change.new.self _ e = record {
      shared = c.common_len-prefix.ensures.value ∙ ap (λ (x : List ℕ). common x e.key) c.key.ensures;
      tree_is = c.lend-tree.ensures.value;
      text_is = c.in-Ok.ensures.ok;
      whole_is = c.change.ensures;
    } in
    (one_more _ _ _ _ _ _ _ e c.self.inside.left _ c.self.invariant one c.self.view_is c.requires c.args.value.own c.lend-tree.ensures.own (omega (arith, v.small, v.ok.0, v.ok.1))).0

pub returns-in-Ok-clause-ok : goal.returns-in-Ok-clause-ok
returns-in-Ok-clause-ok g c =
    let v = c.self.inside.entries in
    let e : Entry = record { key = c.args.key.now; value = bytes_of c.args.value; tree = c.args.tree } in
    let one : WritesOne c.common_len-prefix.result v.items c.self.inside.last c.push_entry.new.out.items c.change.new.self _ e = record {
      shared = c.common_len-prefix.ensures.value ∙ ap (λ (x : List ℕ). common x e.key) c.key.ensures;
      tree_is = c.lend-tree.ensures.value;
      text_is = c.in-Ok.ensures.ok;
      whole_is = c.change.ensures;
    } in
    (one_more _ _ _ _ _ _ _ e c.self.inside.left _ c.self.invariant one c.self.view_is c.requires c.args.value.own c.lend-tree.ensures.own (omega (arith, v.small, v.ok.0, v.ok.1))).1

pub invariant_of-self-in-Err : goal.invariant_of-self-in-Err
unfolding row_at
invariant_of-self-in-Err g c = search rules

pub returns-in-Err-clause-unchanged : goal.returns-in-Err-clause-unchanged
unfolding row_at
returns-in-Err-clause-unchanged g c = search rules
