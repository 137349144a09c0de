use Rattle.std.proofs.Common.{◌≡◌, ◌∙◌, ◌∷◌, [], ◌+◌, ◌++◌, take, ap, sym, refl, subst, arith, ℕ, List}
use Rattle.std.specs.Prelude.{is_some}
use Rattle.std.specs.Arc.{arc_value}
use Rattle.kept.specs.Counts.{Counts, ComeAlone, HasNoOther, gained, raised}
use Rattle.kept.specs.Entering.{has_entry}
use Rattle.kept.specs.Uses.{Uses, AreUses, at, counted}
use Rattle.kept.proofs.Counting.{all_used, raised_counted, raised_no_other, uses_raised}
use Rattle.kept.proofs.Entering.{stays, then}
use Rattle.kept.proofs.Exchanging.{bytes_of, block_further, block_in, refusal_of_one}
use Rattle.kept.proofs.Gains.{gained-more, alone-more}
use Rattle.kept.proofs.use_map.UseMap.gain.Goals as goal

pub returns-in_err-reserve-clause-uses : goal.returns-in_err-reserve-clause-uses
returns-in_err-reserve-clause-uses g c =
    subst (λ (m : Uses g.row.D.Denot g.row.A.Denot). AreUses g.D.Digest.digest_of c.args.me (at m)) (sym c.reserve.ensures) c.requires.uses

pub loop-place-init : goal.loop-place-init
loop-place-init g c =
    let same = c.reserve.ensures in
    record {
      gained = ap (λ (m : Uses g.row.D.Denot g.row.A.Denot). counted m) same;
      alone = tt;
      uses = subst (λ (m : Uses g.row.D.Denot g.row.A.Denot). AreUses g.D.Digest.digest_of c.args.me (at m)) (sym same) c.requires.uses;
      fulls = refl;
      entered = stays g.D.Digest.digest_of g.S.BlockStore c.args.me (has_entry c.args.self.now) (has_entry c.reserve.new.self) c.args.store.now
          (λ q. ap (λ (m : Uses g.row.D.Denot g.row.A.Denot). is_some (at m q)) same);
    }

pub loop-place-preserved : goal.loop-place-preserved
loop-place-preserved g c =
    let dig = g.D.Digest.digest_of in
    let so_far = c.loop-place in
    let come = c.args.come.now in
    let x = c.index-come-place.result in
    let before = counted c.args.self.now in
    let first = bytes_of (take so_far.place come) in
    let more : bytes_of (take (so_far.place + 1) come) ≡ first ++ arc_value x ∷ [] = block_further come so_far.place x (omega arith) c.index-come-place.is in
    let e = c.in-Ok.ensures in
    record {
      gained = raised_counted dig c.args.me so_far.self c.raise.new.self (arc_value x) e.raised
          ∙ ap (λ (m : Counts). raised dig m (arc_value x)) so_far.invariant.gained
          ∙ sym (gained-more dig before first (arc_value x))
          ∙ ap (gained dig before) (sym more);
      alone = subst (λ (bs : List (List ℕ)). ComeAlone dig before bs) (sym more)
          (alone-more dig before first (arc_value x) so_far.invariant.alone
          (subst (λ (m : Counts). HasNoOther dig m (arc_value x)) so_far.invariant.gained
          (raised_no_other dig c.args.me so_far.self c.raise.new.self (arc_value x) e.raised)));
      uses = uses_raised dig c.args.me (at so_far.self) (at c.raise.new.self) (arc_value x) so_far.invariant.uses e.raised;
      fulls = e.fulls ∙ so_far.invariant.fulls;
      entered = then dig g.S.BlockStore c.args.me (has_entry c.args.self.now) (has_entry so_far.self) (has_entry c.raise.new.self)
          c.args.store.now so_far.store c.raise.new.store so_far.invariant.entered e.entered;
    }

pub returns-in-Err-clause-unchanged : goal.returns-in-Err-clause-unchanged
returns-in-Err-clause-unchanged g c =
    c.take_back.ensures.taken_back (counted c.args.self.now) (all_used c.args.self.now) c.loop-place.invariant.alone
    (ap (λ (m : Uses g.row.D.Denot g.row.A.Denot). counted m) c.in-Err.ensures.unchanged ∙ c.loop-place.invariant.gained)

pub returns-in-Err-clause-fault : goal.returns-in-Err-clause-fault
returns-in-Err-clause-fault g c =
    let x = c.index-come-place.result in
    refusal_of_one g.D.Digest.digest_of (bytes_of c.args.come.now) (arc_value x) c.in-Err.fault
    (block_in c.args.come.now c.loop-place.place x (omega arith) c.index-come-place.is) c.in-Err.ensures.fault

pub returns-in-Err-clause-uses : goal.returns-in-Err-clause-uses
returns-in-Err-clause-uses g c =
    (c.take_back.ensures.followed c.args.me
    (subst (λ (m : Uses g.row.D.Denot g.row.A.Denot). AreUses g.D.Digest.digest_of c.args.me (at m)) (sym c.in-Err.ensures.unchanged) c.loop-place.invariant.uses)).0

pub returns-in-Err-clause-entered : goal.returns-in-Err-clause-entered
returns-in-Err-clause-entered g c =
    let so_far = c.loop-place in
    let back = c.take_back.ensures.followed c.args.me
    (subst (λ (m : Uses g.row.D.Denot g.row.A.Denot). AreUses g.D.Digest.digest_of c.args.me (at m)) (sym c.in-Err.ensures.unchanged) so_far.invariant.uses) in
    then g.D.Digest.digest_of g.S.BlockStore c.args.me (has_entry c.args.self.now) (has_entry c.raise.new.self) (has_entry c.take_back.new.self)
    c.args.store.now c.raise.new.store c.take_back.new.store
    (then g.D.Digest.digest_of g.S.BlockStore c.args.me (has_entry c.args.self.now) (has_entry so_far.self) (has_entry c.raise.new.self)
    c.args.store.now so_far.store c.raise.new.store so_far.invariant.entered c.in-Err.ensures.entered)
    back.1
