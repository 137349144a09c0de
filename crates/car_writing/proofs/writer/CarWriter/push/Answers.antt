use Rattle.std.proofs.Common.{Bool, List, ℕ, cond, not, ◌++◌, sym, ap, subst, ◌∙◌}
use Rattle.spec.specs.Car.{section, sized}
use Rattle.car_writing.specs.Once.{IsPut, Written, has}
use Rattle.car_writing.proofs.Putting.{HasOneMore, is-put}
use Rattle.car_writing.proofs.writer.CarWriter.push.Goals as goal

abbrev written : List ℕ → List (List ℕ) → Written
written bytes cids = record { bytes = bytes; cids = cids }

pub returns-else-branch : goal.returns-else-branch
returns-else-branch g c =
    let digest = g.D.Digest.digest_of in
    let b = c.args.block.now in
    let bytes = c.self.inside.bytes.items in
    let before = c.self.inside.cids.keys in
    let after = c.insert.new.self.keys in
    subst (λ (old : Written). IsPut digest b old (written bytes after)) c.self.view_is
    (is-put digest (written bytes before) (written bytes after) b c.in_ok-insert.field-0
    (subst (λ (x : List ℕ). HasOneMore before x after) c.requires c.in_ok-insert.ensures.updates.0)
    (c.in_ok-insert.ensures.added ∙ ap (λ (x : List ℕ). not (has before x)) c.requires)
    (sym (ap (λ (t : Bool). cond t (bytes ++ section digest b) bytes) c.if-branch.false)))

pub returns-in_ok-push_section : goal.returns-in_ok-push_section
returns-in_ok-push_section g c =
    let digest = g.D.Digest.digest_of in
    let b = c.args.block.now in
    let bytes = c.self.inside.bytes.items in
    let before = c.self.inside.cids.keys in
    let after = c.insert.new.self.keys in
    subst (λ (old : Written). IsPut digest b old (written c.push_section.new.out.items after)) c.self.view_is
    (is-put digest (written bytes before) (written c.push_section.new.out.items after) b c.in_ok-insert.field-0
    (subst (λ (x : List ℕ). HasOneMore before x after) c.requires c.in_ok-insert.ensures.updates.0)
    (c.in_ok-insert.ensures.added ∙ ap (λ (x : List ℕ). not (has before x)) c.requires)
    (c.in_ok-push_section.ensures ∙ ap (λ (x : List ℕ). bytes ++ sized (x ++ b)) c.requires
    ∙ sym (ap (λ (t : Bool). cond t (bytes ++ section digest b) bytes) c.if-branch.true)))
