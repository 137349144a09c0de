use Rattle.std.proofs.Common.{ap, refl, ◌∙◌, map}
use Rattle.std.specs.Arc.{arc_value}
use Rattle.spec.specs.Cid.{cid}
use Rattle.spec.specs.States.{fresh}
use Rattle.kept.specs.Counts.{Keeping}
use Rattle.repo.specs.Views.{state_view}
use Rattle.repo.proofs.Applying.{asked}
use Rattle.repo.proofs.Entering.{first_entered, not_opened, opened}
use Rattle.repo.proofs.Fresh.{empty-state, first-exchanged, first-refused, fresh-core, open-refused, one-block}
use Rattle.repo.proofs.cores.Core.open.Goals as goal

pub invariant_of-result : goal.invariant_of-result
invariant_of-result g c =
    let dig = g.D.Digest.digest_of in
    let come = map arc_value c.in_ok-come.come.items in
    let block = arc_value c.in_ok-node.node in
    let one = one-block c.in_ok-come.come.items c.in_ok-node.node c.in_ok-come.ensures.items in
    let kept = c.exchange.new.self in
    let are = first-exchanged dig c.args.me c.open-kept.result kept block come c.open-kept.ensures one c.in-Ok.ensures.exchanged c.in-Ok.ensures.no_other c.in-Ok.ensures.clash_free in
    let me = ap (λ (k : Keeping). k.me) (c.in-Ok.ensures.exchanged) ∙ ap (λ (k : Keeping). k.me) c.open-kept.ensures in
    fresh-core dig g.row.B c.args.me c.args.limit (state_view kept.me c.args.limit c.new.result.items c.new-in-Ok.result.items) block c.cid-root.result kept
    c.requires.least_bits c.requires.most_bits c.requires.small c.requires.least c.requires.most
    (empty-state kept.me c.args.me c.args.limit c.new.result.items c.new-in-Ok.result.items me c.new.ensures.items c.new-in-Ok.ensures.items)
    c.in_ok-node.ensures (c.cid-root.ensures ∙ ap (cid dig) c.deref.ensures) are

pub returns-in-Ok-clause-entered : goal.returns-in-Ok-clause-entered
returns-in-Ok-clause-entered g c =
    let dig = g.D.Digest.digest_of in
    let come = map arc_value c.in_ok-come.come.items in
    let block = arc_value c.in_ok-node.node in
    let one = one-block c.in_ok-come.come.items c.in_ok-node.node c.in_ok-come.ensures.items in
    let kept = c.exchange.new.self in
    let are = first-exchanged dig c.args.me c.open-kept.result kept block come c.open-kept.ensures one c.in-Ok.ensures.exchanged c.in-Ok.ensures.no_other c.in-Ok.ensures.clash_free in
    let me = ap (λ (k : Keeping). k.me) (c.in-Ok.ensures.exchanged) ∙ ap (λ (k : Keeping). k.me) c.open-kept.ensures in
    first_entered dig g.row.B g.S.BlockStore (fresh c.args.me c.args.limit) c.cid-root.result _ kept c.args.store.now c.exchange.new.store me
    (fresh-core dig g.row.B c.args.me c.args.limit (fresh c.args.me c.args.limit) block c.cid-root.result kept
    c.requires.least_bits c.requires.most_bits c.requires.small c.requires.least c.requires.most refl
    c.in_ok-node.ensures (c.cid-root.ensures ∙ ap (cid dig) c.deref.ensures) are)
    (opened dig g.S.BlockStore c.args.me c.open-kept.result kept c.args.store.now c.exchange.new.store c.open-kept.ensures c.in-Ok.ensures.entered)

pub returns-in-Err-clause-fault : goal.returns-in-Err-clause-fault
returns-in-Err-clause-fault g c =
    let dig = g.D.Digest.digest_of in
    let come = map arc_value c.in_ok-come.come.items in
    let block = arc_value c.in_ok-node.node in
    let one = one-block c.in_ok-come.come.items c.in_ok-node.node c.in_ok-come.ensures.items in
    open-refused dig g.row.B c.args.me c.args.limit block (g.S.BlockStore.fulls c.args.store.now) _ c.from.result c.in_ok-node.ensures
    (first-refused dig block come (g.S.BlockStore.fulls c.args.store.now) _ c.in-Err.fault c.from.result c.from.ensures one (c.end.ensures.fulls ∙ c.in-Err.ensures.fulls) c.in-Err.ensures.fault)

pub returns-in-Err-clause-counted : goal.returns-in-Err-clause-counted
returns-in-Err-clause-counted g c =
    asked (g.S.BlockStore.fulls c.args.store.now) _ c.in-Err.fault c.from.result c.from.ensures (c.end.ensures.fulls ∙ c.in-Err.ensures.fulls)

pub returns-in-Err-clause-left : goal.returns-in-Err-clause-left
returns-in-Err-clause-left g c =
    not_opened g.D.Digest.digest_of g.S.BlockStore c.args.me c.open-kept.result c.exchange.new.self c.args.store.now c.exchange.new.store c.end.new.store c.open-kept.ensures
    (ap (λ (k : Keeping). k.me) c.in-Err.ensures.unchanged) c.in-Err.ensures.entered c.end.ensures.entered
