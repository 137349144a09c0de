use Rattle.std.proofs.Common.{◌≡◌, ℕ, List, [], ◌∷◌, ◌++◌, true, false, length, map, refl, sym, ap, ◌∙◌, subst, append_assoc, arith, rules}
use Rattle.std.specs.Arc.{arc_value}
use Rattle.std.specs.Vec.Iter.{into_iter_items}
use Rattle.std.proofs.lemmas.Result.{err_from_is_err_and}
use Rattle.spec.specs.Blocks.{IsClashFree}
use Rattle.edit_laws.specs.Changes.{add_of}
use Rattle.edit.specs.Refusals.{IsRefusal}
use Rattle.edit.proofs.Among.{refusal-within, among-read, among-made, turn-read, turn-held, turn-new, over, added-free}
use Rattle.spec.specs.Cid.{cid}
use Rattle.edit.specs.Firsts.{HasPlaces}
use Rattle.edit.proofs.Placed.{placed-more, count-twice}
use Rattle.edit.proofs.differences.added.Goals as goal
use Rattle.edit.proofs.differences.added.Goals.{else-not-branch-via-then-not-branch+in_ok-is_among-2+else-not-branch-2, else-not-branch-via-else-not-branch}

pub returns-in_err-is_among-clause-fault : goal.returns-in_err-is_among-clause-fault
returns-in_err-is_among-clause-fault g c =
    let p = err_from_is_err_and c.from_residual-in_err-is_among.result c.from_residual-in_err-is_among.ensures.1 in
    let at = c.loop-block in
    let read = map arc_value c.args.read.now in
    let whole = sym c.into_iter-block-iterator.ensures.into_iter_gives.0 ∙ at.invariant.whole
    ∙ ap (λ ys. at.yielded ++ ys) c.in-Some.ensures.steps.0 in
    rw (p.1, p.2)
    (refusal-within g.D.Digest.digest_of ⊥ (arc_value c.in-Some.block ∷ read) (map arc_value c.args.made.items ++ read)
    c.in_err-is_among.field-0.0
    (among-read arc_value read c.args.made.items at.yielded (into_iter_items c.next.new.self) c.in-Some.block whole)
    c.in_err-is_among.ensures.fault)

pub returns-in_err-is_among-2-clause-fault : goal.returns-in_err-is_among-2-clause-fault
returns-in_err-is_among-2-clause-fault g c =
    let p = err_from_is_err_and c.from_residual-in_err-is_among-2.result c.from_residual-in_err-is_among-2.ensures.1 in
    let at = c.loop-block in
    let read = map arc_value c.args.read.now in
    let whole = sym c.into_iter-block-iterator.ensures.into_iter_gives.0 ∙ at.invariant.whole
    ∙ ap (λ ys. at.yielded ++ ys) c.in-Some.ensures.steps.0 in
    rw (p.1, p.2)
    (refusal-within g.D.Digest.digest_of ⊥ (arc_value c.in-Some.block ∷ map arc_value at.add.items)
    (map arc_value c.args.made.items ++ read) c.in_err-is_among-2.field-0.0
    (among-made arc_value read c.args.made.items at.yielded (into_iter_items c.next.new.self) c.in-Some.block whole
    g.D.Digest.digest_of (map arc_value at.add.items) at.invariant.added)
    (subst (λ (ys : List (List ℕ)). IsRefusal g.D.Digest.digest_of (arc_value c.in-Some.block ∷ ys) ⊥ c.in_err-is_among-2.field-0.0)
    (ap (map arc_value) c.deref.ensures.value) c.in_err-is_among-2.ensures.fault))

pub loop-block-preserved-then-not-branch-2 : goal.loop-block-preserved-then-not-branch-2
loop-block-preserved-then-not-branch-2 g c =
    let at = c.loop-block in
    let steps : into_iter_items at.block-iterator ≡ c.in-Some.block ∷ into_iter_items c.next.new.self = c.in-Some.ensures.steps.0 in
    let unread : c.in_ok-is_among.field-0 ≡ false = search rules in
    let unmade : c.in_ok-is_among-2.field-0 ≡ false = search rules in
    record {
      added = turn-new arc_value g.D.Digest.digest_of (map arc_value c.args.read.now) at.yielded at.add.items c.in-Some.block
          at.invariant.added c.in_ok-is_among.field-0 c.in_ok-is_among-2.field-0 c.deref.result.now c.push-then-not-branch-2.new.self.items
          unread c.in_ok-is_among.ensures.found c.deref.ensures.value unmade c.in_ok-is_among-2.ensures.found
          c.in_ok-push-2.ensures.items;
      placed = placed-more arc_value g.D.Digest.digest_of at.add.items c.push-then-not-branch-2.new.self.items c.in-Some.block c.cid.result c.push.new.self
          (c.in_ok-push.ensures (map (cid g.D.Digest.digest_of) (map arc_value at.add.items)) at.invariant.placed
          (count-twice arc_value g.D.Digest.digest_of at.add.items c.len.result (search rules))) (search rules)
          c.in_ok-push-2.ensures.items;
      whole = at.invariant.whole ∙ ap (λ ys. at.yielded ++ ys) steps
          ∙ sym (append_assoc at.yielded (c.in-Some.block ∷ []) (into_iter_items c.next.new.self));
      left = let was = at.invariant.left in let gone = c.in-Some.ensures.steps.1 in let short = ap length steps in omega arith;
    }

pub loop-block-preserved : goal.loop-block-preserved
loop-block-preserved g c =
    let at = c.loop-block in
    let steps : into_iter_items at.block-iterator ≡ c.in-Some.block ∷ into_iter_items c.next.new.self = c.in-Some.ensures.steps.0 in
    record {
      added = elim c.else-not-branch.branch [
        | else-not-branch-via-then-not-branch+in_ok-is_among-2+else-not-branch-2 w ↦
            (let unread : c.in_ok-is_among.field-0 ≡ false = search rules in
            let held : w.in_ok-is_among-2.field-0 ≡ true = search rules in
            turn-held arc_value g.D.Digest.digest_of (map arc_value c.args.read.now) at.yielded at.add.items c.in-Some.block
            at.invariant.added c.in_ok-is_among.field-0 w.in_ok-is_among-2.field-0 w.deref.result.now
            unread c.in_ok-is_among.ensures.found w.deref.ensures.value held w.in_ok-is_among-2.ensures.found)
        | else-not-branch-via-else-not-branch w ↦
            (let was_read : c.in_ok-is_among.field-0 ≡ true = search rules in
            turn-read arc_value g.D.Digest.digest_of (map arc_value c.args.read.now) at.yielded at.add.items c.in-Some.block
            at.invariant.added c.in_ok-is_among.field-0 was_read c.in_ok-is_among.ensures.found)
      ];
      placed = at.invariant.placed;
      whole = at.invariant.whole ∙ ap (λ ys. at.yielded ++ ys) steps
          ∙ sym (append_assoc at.yielded (c.in-Some.block ∷ []) (into_iter_items c.next.new.self));
      left = let was = at.invariant.left in let gone = c.in-Some.ensures.steps.1 in let short = ap length steps in omega arith;
    }

pub returns-clause-add : goal.returns-clause-add
returns-clause-add g c =
    let at = c.loop-block in
    let none : length (into_iter_items at.block-iterator) ≡ 0 = sym at.invariant.left ∙ c.in-None.ensures.steps.0 in
    let all = over c.args.made.items at.yielded (into_iter_items at.block-iterator)
    (sym c.into_iter-block-iterator.ensures.into_iter_gives.0 ∙ at.invariant.whole) none in
    at.invariant.added.added
    ∙ ap (add_of g.D.Digest.digest_of (map arc_value c.args.read.now)) (ap (map arc_value) all)

pub returns-clause-clash_free : goal.returns-clause-clash_free
returns-clause-clash_free g c = λ free. c.loop-block.invariant.added.clash_free free

pub returns-clause-made : goal.returns-clause-made
returns-clause-made g c =
    let at = c.loop-block in
    let read = map arc_value c.args.read.now in
    let none : length (into_iter_items at.block-iterator) ≡ 0 = sym at.invariant.left ∙ c.in-None.ensures.steps.0 in
    let all = over c.args.made.items at.yielded (into_iter_items at.block-iterator)
    (sym c.into_iter-block-iterator.ensures.into_iter_gives.0 ∙ at.invariant.whole) none in
    λ free. subst (λ (ys : List (List ℕ)). IsClashFree g.D.Digest.digest_of (ys ++ read)) (ap (map arc_value) all)
    (added-free g.D.Digest.digest_of read (map arc_value at.yielded) (map arc_value at.add.items) at.invariant.added free)

pub is_among-requires-then-not-branch : goal.is_among-requires-then-not-branch
is_among-requires-then-not-branch g c =
    subst (λ (ys : List _). HasPlaces (map (cid g.D.Digest.digest_of) (map arc_value ys)) c.loop-block.new)
    (sym c.deref.ensures.value) c.loop-block.invariant.placed

pub loop-block-init : goal.loop-block-init
loop-block-init g c = record {
  added = search rules;
  placed = subst (λ (ys : List _). HasPlaces (map (cid g.D.Digest.digest_of) (map arc_value ys)) c.in_ok-new.new)
      (sym c.new-add.ensures.items) c.in_ok-new.ensures;
  whole = refl;
  left = search rules;
}
