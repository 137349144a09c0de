use Rattle.std.proofs.Common.{◌≡◌, ◌∙◌, sym, ap, subst, refl, Some, None}
use Rattle.std.specs.Prelude.{Option}
use Rattle.std.specs.FinMap as map
use Rattle.kept.specs.Entering.{Follows}
use Rattle.kept.specs.Uses.{Uses, at, lowered_in, Updated}
use Rattle.kept.specs.declared.kept_use.Use.{Use}
use Rattle.kept.proofs.Entries.{the_same, listed_at, seen_at, seen_updated, none_put, put_cut, lowered_left, lowered_gone, shown_change}
use Rattle.kept.proofs.Entering.{none_some, one_stays, one_goes, put_here, following_first, following_lowered}
use Rattle.kept.proofs.use_map.UseMap.lower.Goals as goal
use Rattle.kept.proofs.use_map.UseMap.lower.Goals.{in-Some-remove, in_default-remove}

pub returns-in_default-clause-lowered : goal.returns-in_default-clause-lowered
returns-in_default-clause-lowered g c =
    let es = c.self.inside.blocks.entries in
    let k = c.args.cid.now in
    let none : listed_at es k ≡ None = sym (seen_at es k) ∙ sym c.in_default.ensures.value in
    let f : Option (Use g.row.D.Denot g.row.A.Denot) → Option (Use g.row.D.Denot g.row.A.Denot) = λ o. lowered_in o in
    shown_change f es _ c.args.self.now k c.self.view_is
    (λ q. ap (λ m. listed_at m.entries q) c.get_mut.follows.holds-at-none ∙ none_put (listed_at es) k q (f (listed_at es k)) none (ap f none))

pub returns-then-lower-clause-lowered : goal.returns-then-lower-clause-lowered
returns-then-lower-clause-lowered g c =
    let es = c.self.inside.blocks.entries in
    let fs = (c.get_mut.follows.lender c.lower.new.self).entries in
    let k = c.args.cid.now in
    let f : Option (Use g.row.D.Denot g.row.A.Denot) → Option (Use g.row.D.Denot g.row.A.Denot) = λ o. lowered_in o in
    let seen = c.in-Some.ensures.value in
    let here : listed_at es k ≡ Some c.in-Some.held.now = sym (seen_at es k) ∙ sym seen in
    let w = c.get_mut.follows.holds c.lower.new.self in
    let put : Updated (listed_at es) (listed_at fs) k (Some c.lower.new.self) = seen_updated es fs k _ (w.3 (rw (sym seen) refl)).0 in
    shown_change f es fs c.args.self.now k c.self.view_is
    (lowered_left (listed_at es) (listed_at fs) k c.in-Some.held.now c.lower.new.self here c.lower.ensures.lowered (sym c.lower.ensures.used ∙ c.if-lower.true) put)

pub returns-clause-lowered : goal.returns-clause-lowered
returns-clause-lowered g c =
    let es = c.self.inside.blocks.entries in
    let ms = (c.get_mut.follows.lender c.lower.new.self).entries in
    let fs = c.remove.new.self.entries in
    let k = c.args.cid.now in
    let f : Option (Use g.row.D.Denot g.row.A.Denot) → Option (Use g.row.D.Denot g.row.A.Denot) = λ o. lowered_in o in
    let seen = c.in-Some.ensures.value in
    let here : listed_at es k ≡ Some c.in-Some.held.now = sym (seen_at es k) ∙ sym seen in
    let w = c.get_mut.follows.holds c.lower.new.self in
    let put : Updated (listed_at es) (listed_at ms) k (Some c.lower.new.self) = seen_updated es ms k _ (w.3 (rw (sym seen) refl)).0 in
    shown_change f es fs c.args.self.now k c.self.view_is
    (lowered_gone (listed_at es) (listed_at fs) k c.in-Some.held.now c.lower.new.self here c.lower.ensures.lowered (sym c.lower.ensures.used ∙ c.if-lower.false)
    (put_cut (listed_at es) (listed_at ms) (listed_at fs) k c.lower.new.self put (seen_updated ms fs k _ c.remove.ensures.updates.0)))

pub returns-in_default-clause-followed : goal.returns-in_default-clause-followed
returns-in_default-clause-followed g c =
    following_first g.D.Digest.digest_of g.S.BlockStore (at c.args.self.now) (at (map.from_entries c.get_mut.follows.lender-at-none.entries)) c.args.store.now
    (λ q. ap (λ m. at (map.from_entries m.entries) q) c.get_mut.follows.holds-at-none
    ∙ ap (λ (n : Uses g.row.D.Denot g.row.A.Denot). at n q) c.self.view_is)

pub returns-then-lower-clause-followed : goal.returns-then-lower-clause-followed
returns-then-lower-clause-followed g c =
    let es = c.self.inside.blocks.entries in
    let fs = (c.get_mut.follows.lender c.lower.new.self).entries in
    let k = c.args.cid.now in
    let seen = c.in-Some.ensures.value in
    let here : listed_at es k ≡ Some c.in-Some.held.now = sym (seen_at es k) ∙ sym seen in
    let w = c.get_mut.follows.holds c.lower.new.self in
    let put : Updated (listed_at es) (listed_at fs) k (Some c.lower.new.self) = seen_updated es fs k _ (w.3 (rw (sym seen) refl)).0 in
    let f : Option (Use g.row.D.Denot g.row.A.Denot) → Option (Use g.row.D.Denot g.row.A.Denot) = λ o. lowered_in o in
    following_lowered g.D.Digest.digest_of g.S.BlockStore c.args.self.now (map.from_entries fs) c.args.store.now c.args.store.now k
    (shown_change f es fs c.args.self.now k c.self.view_is
    (lowered_left (listed_at es) (listed_at fs) k c.in-Some.held.now c.lower.new.self here c.lower.ensures.lowered (sym c.lower.ensures.used ∙ c.if-lower.true) put))
    (λ me are. one_stays g.D.Digest.digest_of g.S.BlockStore es fs c.args.self.now k c.in-Some.held.now c.lower.new.self me
    c.args.store.now c.self.view_is here put)

pub returns-clause-followed : goal.returns-clause-followed
returns-clause-followed g c =
    let es = c.self.inside.blocks.entries in
    let ms = (c.get_mut.follows.lender c.lower.new.self).entries in
    let fs = c.remove.new.self.entries in
    let k = c.args.cid.now in
    let seen = c.in-Some.ensures.value in
    let here : listed_at es k ≡ Some c.in-Some.held.now = sym (seen_at es k) ∙ sym seen in
    let w = c.get_mut.follows.holds c.lower.new.self in
    let put : Updated (listed_at es) (listed_at ms) k (Some c.lower.new.self) = seen_updated es ms k _ (w.3 (rw (sym seen) refl)).0 in
    let cut : Updated (listed_at ms) (listed_at fs) k None = seen_updated ms fs k _ c.remove.ensures.updates.0 in
    let still : listed_at ms k ≡ Some c.lower.new.self = put_here (listed_at es) (listed_at ms) k c.lower.new.self put in
    let f : Option (Use g.row.D.Denot g.row.A.Denot) → Option (Use g.row.D.Denot g.row.A.Denot) = λ o. lowered_in o in
    let changed = shown_change f es fs c.args.self.now k c.self.view_is
    (lowered_gone (listed_at es) (listed_at fs) k c.in-Some.held.now c.lower.new.self here c.lower.ensures.lowered (sym c.lower.ensures.used ∙ c.if-lower.false)
    (put_cut (listed_at es) (listed_at ms) (listed_at fs) k c.lower.new.self put cut)) in
    elim c.match-remove.branch [
      | in-Some-remove w ↦
          let gone : w.in-Some-remove.unused ≡ c.lower.new.self = the_same w.in-Some-remove.unused c.lower.new.self
          (w.in-Some-remove.ensures.value ∙ seen_at ms k ∙ still) in
          let left = subst (λ (u : Use g.row.D.Denot g.row.A.Denot). g.S.BlockStore.leaves c.args.store.now u.hold w.give_back.new.store) gone w.give_back.ensures.left in
          subst (λ (t : g.row.S.Denot). Follows g.D.Digest.digest_of g.S.BlockStore (at c.args.self.now) (at (map.from_entries fs)) c.args.store.now t) (sym w.store-is)
          (following_lowered g.D.Digest.digest_of g.S.BlockStore c.args.self.now (map.from_entries fs) c.args.store.now w.give_back.new.store k changed
          (one_goes g.D.Digest.digest_of g.S.BlockStore es ms fs c.args.self.now k c.in-Some.held.now c.lower.new.self c.args.store.now w.give_back.new.store c.self.view_is here
          (ap (λ (u : Use g.row.D.Denot g.row.A.Denot). u.hold) c.lower.ensures.lowered) put cut left))
      | in_default-remove w ↦ absurd (none_some c.lower.new.self (w.in_default-remove.ensures.value ∙ seen_at ms k ∙ still))
    ]
