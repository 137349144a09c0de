use Rattle.std.proofs.Common.{◌∙◌, ap, subst}
use Rattle.std.specs.Prelude.{map as each}
use Rattle.std.specs.Arc.{arc_value}
use Rattle.spec.specs.Blocks.{IsClashFree}
use Rattle.kept.specs.Counts.{Counts, Keeping, HaveNoOther, exchanged, gained, lost}
use Rattle.kept.specs.Entering.{EntersKept, has_entry}
use Rattle.kept.specs.Uses.{counted, keeping_of}
use Rattle.kept.proofs.Gains.{alone-no_other, alone-clash_free}
use Rattle.kept.proofs.Entering.{kept_entered, then}
use Rattle.kept.proofs.Keepings.{keeping_same}
use Rattle.kept.proofs.Outcomes.{on_err_known}
use Rattle.kept.proofs.kept.Kept.exchange.Goals as goal

pub invariant_of-self : goal.invariant_of-self
invariant_of-self g c = record { small = c.self.invariant.small; entries = c.in_err-gain.ensures.uses }

pub invariant_of-self-2 : goal.invariant_of-self-2
invariant_of-self-2 g c = record {
  small = c.self.invariant.small;
  entries = (c.lose.ensures.followed c.self.inside.me c.in_ok-gain.ensures.uses).0;
}

pub returns-clause-exchanged : goal.returns-clause-exchanged
returns-clause-exchanged g c =
    let dig = g.D.Digest.digest_of in
    keeping_same c.self.inside.me
    (c.lose.ensures.lost
    ∙ ap (λ (m : Counts). lost m c.args.go.now)
    (c.in_ok-gain.ensures.gained ∙ ap (λ xs. gained dig (counted c.self.inside.blocks) (each arc_value xs)) c.deref.ensures.value))
    ∙ ap (λ (k : Keeping). exchanged dig k (each arc_value c.args.come.items) c.args.go.now) c.self.view_is

pub returns-clause-no_other : goal.returns-clause-no_other
returns-clause-no_other g c =
    let dig = g.D.Digest.digest_of in
    subst (λ (k : Keeping). HaveNoOther dig k.uses (each arc_value c.args.come.items)) c.self.view_is
    (subst (λ xs. HaveNoOther dig (counted c.self.inside.blocks) (each arc_value xs)) c.deref.ensures.value
    (alone-no_other dig (counted c.self.inside.blocks) _ c.in_ok-gain.ensures.alone))

pub returns-clause-clash_free : goal.returns-clause-clash_free
returns-clause-clash_free g c =
    subst (λ xs. IsClashFree g.D.Digest.digest_of (each arc_value xs)) c.deref.ensures.value
    (alone-clash_free g.D.Digest.digest_of (counted c.self.inside.blocks) _ c.in_ok-gain.ensures.alone)

pub returns-in_err-gain-clause-unchanged : goal.returns-in_err-gain-clause-unchanged
returns-in_err-gain-clause-unchanged g c =
    on_err_known c.from_residual.result (keeping_same c.self.inside.me c.in_err-gain.ensures.unchanged ∙ c.self.view_is)

pub returns-clause-entered : goal.returns-clause-entered
returns-clause-entered g c =
    let dig = g.D.Digest.digest_of in
    let me = c.self.inside.me in
    let m = c.self.inside.blocks in
    let n = c.lose.new.self in
    let less = c.lose.ensures.followed me c.in_ok-gain.ensures.uses in
    subst (λ (k : Keeping). EntersKept dig g.S.BlockStore k (keeping_of me n) c.args.store.now c.lose.new.store) c.self.view_is
    (kept_entered dig g.S.BlockStore me m n c.args.store.now c.lose.new.store c.self.invariant
    (record { small = c.self.invariant.small; entries = less.0 })
    (then dig g.S.BlockStore me (has_entry m) (has_entry c.gain.new.self) (has_entry n)
    c.args.store.now c.gain.new.store c.lose.new.store c.in_ok-gain.ensures.entered less.1))

pub returns-in_err-gain-clause-entered : goal.returns-in_err-gain-clause-entered
returns-in_err-gain-clause-entered g c =
    let dig = g.D.Digest.digest_of in
    let me = c.self.inside.me in
    let m = c.self.inside.blocks in
    let n = c.gain.new.self in
    subst (λ (k : Keeping). EntersKept dig g.S.BlockStore k (keeping_of me n) c.args.store.now c.gain.new.store) c.self.view_is
    (kept_entered dig g.S.BlockStore me m n c.args.store.now c.gain.new.store c.self.invariant
    (record { small = c.self.invariant.small; entries = c.in_err-gain.ensures.uses }) c.in_err-gain.ensures.entered)
