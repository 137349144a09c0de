use Rattle.std.proofs.Common.{◌≡◌, ◌∙◌, sym, ap, subst, refl, ℕ, List, Some, None}
use Rattle.std.specs.Prelude.{Ok, is_some}
use Rattle.std.specs.Arc.{arc_value}
use Rattle.std.proofs.lemmas.Result.{on_err_weaker}
use Rattle.spec.specs.Cid.{cid as cid_of}
use Rattle.std.specs.FinMap as map
use Rattle.kept.specs.Entering.{Enters, has_entry}
use Rattle.kept.specs.Uses.{Uses, at, Updated, IsUse}
use Rattle.kept.specs.declared.kept_use.Use.{Use}
use Rattle.kept.proofs.Entries.{listed_at, seen_at, seen_updated, raised_held, raised_new, same_entry, shown_at, shown_same, shown_raised}
use Rattle.kept.proofs.Entering.{in_words, one_comes, one_stays, one_tried, none_some}
use Rattle.kept.proofs.Outcomes.{on_ok_two}
use Rattle.kept.proofs.use_map.UseMap.raise.Goals as goal
use Rattle.kept.proofs.use_map.UseMap.raise.Goals.{in-Some-before, in_default-before}

pub raise-requires : goal.raise-requires
raise-requires g c =
    let k = c.cid-cid.result in
    let here : Some c.in-Some.held.now ≡ listed_at c.self.inside.blocks.entries k = c.in-Some.ensures.value ∙ seen_at c.self.inside.blocks.entries k in
    let name : k ≡ cid_of g.D.Digest.digest_of (arc_value c.args.block.now) = c.cid-cid.ensures ∙ ap (cid_of g.D.Digest.digest_of) c.deref.ensures in
    let is = c.requires.uses k c.in-Some.held.now (sym (here ∙ shown_at c.self.inside.blocks.entries c.args.self.now c.self.view_is k)) in
    sym name ∙ is.named

pub returns-in-Some-clause-raised : goal.returns-in-Some-clause-raised
returns-in-Some-clause-raised g c =
    let es = c.self.inside.blocks.entries in
    let fs = (c.get_mut.follows.lender c.raise.new.self).entries in
    let k = c.cid-cid.result in
    let seen = c.in-Some.ensures.value in
    let here : listed_at es k ≡ Some c.in-Some.held.now = sym (seen_at es k) ∙ sym seen in
    let name : k ≡ cid_of g.D.Digest.digest_of (arc_value c.args.block.now) = c.cid-cid.ensures ∙ ap (cid_of g.D.Digest.digest_of) c.deref.ensures in
    let w = c.get_mut.follows.holds c.raise.new.self in
    let put : Updated (listed_at es) (listed_at fs) k (Some c.raise.new.self) = seen_updated es fs k _ (w.3 (rw (sym seen) refl)).0 in
    let is : IsUse g.D.Digest.digest_of c.args.me k c.in-Some.held.now =
    c.requires.uses k c.in-Some.held.now (sym (shown_at es c.args.self.now c.self.view_is k) ∙ here) in
    on_ok_two c.raise.result
    (λ e b. shown_raised g.D.Digest.digest_of c.args.me es fs c.args.self.now (arc_value c.args.block.now) c.self.view_is
    (raised_held g.D.Digest.digest_of c.args.me (listed_at es) (listed_at fs) (arc_value c.args.block.now) k c.in-Some.held.now c.raise.new.self name is e b here put))
    c.raise.ensures.raised c.raise.ensures.same_bytes

pub returns-in-Some-clause-unchanged : goal.returns-in-Some-clause-unchanged
returns-in-Some-clause-unchanged g c =
    let es = c.self.inside.blocks.entries in
    let fs = (c.get_mut.follows.lender c.raise.new.self).entries in
    let k = c.cid-cid.result in
    let seen = c.in-Some.ensures.value in
    let here : listed_at es k ≡ Some c.in-Some.held.now = sym (seen_at es k) ∙ sym seen in
    let w = c.get_mut.follows.holds c.raise.new.self in
    let put : Updated (listed_at es) (listed_at fs) k (Some c.raise.new.self) = seen_updated es fs k _ (w.3 (rw (sym seen) refl)).0 in
    on_err_weaker c.raise.result
    (λ e. shown_same es fs c.args.self.now c.self.view_is (same_entry (listed_at es) (listed_at fs) k c.in-Some.held.now c.raise.new.self here put e))
    c.raise.ensures.unchanged

pub returns-clause-raised : goal.returns-clause-raised
returns-clause-raised g c =
    let es = c.self.inside.blocks.entries in
    let fs = c.insert.new.self.entries in
    let k = c.cid-cid.result in
    let name : k ≡ cid_of g.D.Digest.digest_of (arc_value c.args.block.now) = c.cid-cid.ensures ∙ ap (cid_of g.D.Digest.digest_of) c.deref.ensures in
    let none : listed_at es k ≡ None = sym (seen_at es k) ∙ sym c.in_default.ensures.value in
    let kept : c.get_mut.follows.lender-at-none.entries ≡ es = ap (λ m. m.entries) c.get_mut.follows.holds-at-none in
    let w : Use g.row.D.Denot g.row.A.Denot = record { hold = c.in_ok-hold.hold; uses = 1 } in
    let a = c.requires.store c.args.store.now c.in_ok-shared.shared c.args.me (Ok c.in_ok-hold.hold) c.acquire.new.self c.in_ok-hold.ensures.answer in
    shown_raised g.D.Digest.digest_of c.args.me es fs c.args.self.now (arc_value c.args.block.now) c.self.view_is
    (raised_new g.D.Digest.digest_of c.args.me (listed_at es) (listed_at fs) (arc_value c.args.block.now) k w name
    (a.hold.0 ∙ c.in_ok-shared.ensures) a.hold.1 refl none
    (subst (λ (xs : List (List ℕ × Use g.row.D.Denot g.row.A.Denot)). Updated (listed_at xs) (listed_at fs) k (Some w)) kept (seen_updated c.get_mut.follows.lender-at-none.entries fs k _ c.in-Ok.ensures.updates.0)))

pub returns-in-Some-clause-entered : goal.returns-in-Some-clause-entered
returns-in-Some-clause-entered g c =
    let es = c.self.inside.blocks.entries in
    let fs = (c.get_mut.follows.lender c.raise.new.self).entries in
    let k = c.cid-cid.result in
    let seen = c.in-Some.ensures.value in
    let here : listed_at es k ≡ Some c.in-Some.held.now = sym (seen_at es k) ∙ sym seen in
    let w = c.get_mut.follows.holds c.raise.new.self in
    let put : Updated (listed_at es) (listed_at fs) k (Some c.raise.new.self) = seen_updated es fs k _ (w.3 (rw (sym seen) refl)).0 in
    one_stays g.D.Digest.digest_of g.S.BlockStore es fs c.args.self.now k c.in-Some.held.now c.raise.new.self c.args.me c.args.store.now c.self.view_is here put

pub returns-in-Err-clause-entered : goal.returns-in-Err-clause-entered
returns-in-Err-clause-entered g c =
    let es = c.self.inside.blocks.entries in
    let k = c.cid-cid.result in
    let name : k ≡ cid_of g.D.Digest.digest_of (arc_value c.args.block.now) = c.cid-cid.ensures ∙ ap (cid_of g.D.Digest.digest_of) c.deref.ensures in
    let none : at c.args.self.now k ≡ None = sym (shown_at es c.args.self.now c.self.view_is k) ∙ sym (seen_at es k) ∙ sym c.in_default.ensures.value in
    let a = c.requires.store c.args.store.now c.in_ok-shared.shared c.args.me (Ok c.in_ok-hold.hold) c.acquire.new.self c.in_ok-hold.ensures.answer in
    let back : c.in-Err.field-0.value.1.hold ≡ c.in_ok-hold.hold =
    ap (λ p. p.1.hold) c.in-Err.ensures.value_returned in
    let kept : c.insert.new.self.entries ≡ es = c.in-Err.ensures.err ∙ ap (λ m. m.entries) c.get_mut.follows.holds-at-none in
    in_words g.D.Digest.digest_of g.S.BlockStore c.args.me (has_entry c.args.self.now) (has_entry c.args.self.now) (has_entry c.args.self.now) (has_entry (map.from_entries c.insert.new.self.entries))
    c.args.store.now c.give_back.new.store (λ q. refl)
    (λ q. ap (λ xs. is_some (at (map.from_entries xs) q)) kept ∙ ap (λ (n : Uses g.row.D.Denot g.row.A.Denot). is_some (at n q)) c.self.view_is)
    (one_tried g.D.Digest.digest_of g.S.BlockStore c.args.self.now k c.in_ok-shared.shared c.in_ok-hold.hold c.in-Err.field-0.value.1.hold c.args.me
    c.args.store.now c.acquire.new.self c.give_back.new.store (name ∙ ap (cid_of g.D.Digest.digest_of) (sym c.in_ok-shared.ensures)) none c.in_ok-hold.ensures.made
    (name ∙ ap (cid_of g.D.Digest.digest_of) (sym (ap (λ h. arc_value h.0) back ∙ a.hold.0 ∙ c.in_ok-shared.ensures))) (ap (λ h. h.1) back ∙ a.hold.1) c.give_back.ensures.left)

pub returns-clause-entered : goal.returns-clause-entered
returns-clause-entered g c =
    let es = c.self.inside.blocks.entries in
    let fs = c.insert.new.self.entries in
    let k = c.cid-cid.result in
    let name : k ≡ cid_of g.D.Digest.digest_of (arc_value c.args.block.now) = c.cid-cid.ensures ∙ ap (cid_of g.D.Digest.digest_of) c.deref.ensures in
    let none : listed_at es k ≡ None = sym (seen_at es k) ∙ sym c.in_default.ensures.value in
    let kept : c.get_mut.follows.lender-at-none.entries ≡ es = ap (λ m. m.entries) c.get_mut.follows.holds-at-none in
    let w : Use g.row.D.Denot g.row.A.Denot = record { hold = c.in_ok-hold.hold; uses = 1 } in
    let put : Updated (listed_at es) (listed_at fs) k (Some w) =
    subst (λ (xs : List (List ℕ × Use g.row.D.Denot g.row.A.Denot)). Updated (listed_at xs) (listed_at fs) k (Some w)) kept
    (seen_updated c.get_mut.follows.lender-at-none.entries fs k _ c.in-Ok.ensures.updates.0) in
    let come = one_comes g.D.Digest.digest_of g.S.BlockStore es fs c.args.self.now k c.in_ok-shared.shared c.in_ok-hold.hold w c.args.me c.args.store.now c.acquire.new.self
    c.self.view_is (name ∙ ap (cid_of g.D.Digest.digest_of) (sym c.in_ok-shared.ensures)) put c.in_ok-hold.ensures.made in
    elim c.match-before.branch [
      | in-Some-before w ↦ absurd (none_some w.in-Some-before.other
          (sym none ∙ sym (ap (λ m. listed_at m.entries k) c.get_mut.follows.holds-at-none)
          ∙ sym (sym w.in-Some-before.is ∙ c.in-Ok.ensures.old ∙ seen_at c.get_mut.follows.lender-at-none.entries k)))
      | in_default-before w ↦
          subst (λ (t : g.row.S.Denot). Enters g.D.Digest.digest_of g.S.BlockStore c.args.me (has_entry c.args.self.now) (has_entry (map.from_entries fs)) c.args.store.now t) (sym w.store-is) come
    ]
