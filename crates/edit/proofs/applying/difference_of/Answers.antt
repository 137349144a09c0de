use Rattle.std.proofs.Common.{◌≡◌, ◌++◌, ℕ, List, map, sym, ap, ◌∙◌, subst, take}
use Rattle.std.specs.Arc.{arc_value}
use Rattle.std.proofs.lemmas.List.{take-map}
use Rattle.spec.specs.Blocks.{IsClashFree}
use Rattle.edit_laws.specs.Changes.{add_of, drop_of}
use Rattle.edit_laws.specs.Laws.Edits.{bytes_of}
use Rattle.edit.specs.States.{shapes_in}
use Rattle.edit.proofs.applying.difference_of.Goals as goal

pub returns-clause-add : goal.returns-clause-add
returns-clause-add g c =
    let digest = g.D.Digest.digest_of in
    let read : map arc_value c.args.changed.edge.read.items ≡ bytes_of (shapes_in c.args.changed.edge.read.items) =
    subst (λ ys. map arc_value ys ≡ bytes_of (shapes_in ys)) c.deref.ensures.value c.in_ok-old.ensures.spelled in
    let made = ap (λ m. map arc_value m.items) c.into_blocks-made.ensures.same ∙ c.into_blocks-made.ensures.nodes in
    subst (λ (bs : List (List ℕ)). map arc_value c.in_ok-add.add.items ≡ add_of digest bs
    (bytes_of (shapes_in c.args.changed.edge.made.items))) read
    (subst (λ (bs : List (List ℕ)). map arc_value c.in_ok-add.add.items ≡ add_of digest
    (map arc_value c.args.changed.edge.read.items) bs) made
    (subst (λ ys. map arc_value c.in_ok-add.add.items ≡ add_of digest (map arc_value ys)
    (map arc_value c.into_blocks-made.result.items)) c.deref-4.ensures.value c.in_ok-add.ensures.add))

pub returns-clause-drop : goal.returns-clause-drop
returns-clause-drop g c =
    let digest = g.D.Digest.digest_of in
    let read : map arc_value c.args.changed.edge.read.items ≡ bytes_of (shapes_in c.args.changed.edge.read.items) =
    subst (λ ys. map arc_value ys ≡ bytes_of (shapes_in ys)) c.deref.ensures.value c.in_ok-old.ensures.spelled in
    let made = ap (λ m. map arc_value m.items) c.into_blocks-made.ensures.same ∙ c.into_blocks-made.ensures.nodes in
    let was : c.in_ok-drop.drop.items ≡ drop_of digest (map arc_value c.into_blocks-made.result.items)
    (map arc_value (take c.args.changed.gone c.args.changed.edge.read.items)) = c.in_ok-drop.ensures
    ∙ ap (λ ys. drop_of digest (map arc_value ys) (map arc_value (take c.args.changed.gone c.deref-3.result.now)))
    c.deref-2.ensures.value
    ∙ ap (λ ys. drop_of digest (map arc_value c.into_blocks-made.result.items) (map arc_value (take c.args.changed.gone ys)))
    c.deref-3.ensures.value in
    subst (λ (bs : List (List ℕ)). c.in_ok-drop.drop.items ≡ drop_of digest
    (bytes_of (shapes_in c.args.changed.edge.made.items)) (take c.args.changed.gone bs)) read
    (subst (λ (bs : List (List ℕ)). c.in_ok-drop.drop.items ≡ drop_of digest bs
    (take c.args.changed.gone (map arc_value c.args.changed.edge.read.items))) made
    (subst (λ (bs : List (List ℕ)). c.in_ok-drop.drop.items ≡ drop_of digest (map arc_value c.into_blocks-made.result.items) bs)
    (sym (take-map arc_value c.args.changed.gone c.args.changed.edge.read.items)) was))

pub returns-clause-free : goal.returns-clause-free
returns-clause-free g c =
    let digest = g.D.Digest.digest_of in
    let read : map arc_value c.args.changed.edge.read.items ≡ bytes_of (shapes_in c.args.changed.edge.read.items) =
    subst (λ ys. map arc_value ys ≡ bytes_of (shapes_in ys)) c.deref.ensures.value c.in_ok-old.ensures.spelled in
    subst (λ (bs : List (List ℕ)). IsClashFree digest bs → IsClashFree digest (map arc_value c.in_ok-add.add.items ++ bs)) read
    (subst (λ ys. IsClashFree digest (map arc_value ys)
    → IsClashFree digest (map arc_value c.in_ok-add.add.items ++ map arc_value ys))
    c.deref-4.ensures.value c.in_ok-add.ensures.clash_free)

pub returns-clause-all_free : goal.returns-clause-all_free
returns-clause-all_free g c =
    let digest = g.D.Digest.digest_of in
    let read : map arc_value c.args.changed.edge.read.items ≡ bytes_of (shapes_in c.args.changed.edge.read.items) =
    subst (λ ys. map arc_value ys ≡ bytes_of (shapes_in ys)) c.deref.ensures.value c.in_ok-old.ensures.spelled in
    let made = ap (λ m. map arc_value m.items) c.into_blocks-made.ensures.same ∙ c.into_blocks-made.ensures.nodes in
    subst (λ (bs : List (List ℕ)). IsClashFree digest bs
    → IsClashFree digest (bytes_of (shapes_in c.args.changed.edge.made.items) ++ bs)) read
    (subst (λ (bs : List (List ℕ)). IsClashFree digest (map arc_value c.args.changed.edge.read.items)
    → IsClashFree digest (bs ++ map arc_value c.args.changed.edge.read.items)) made
    (subst (λ ys. IsClashFree digest (map arc_value ys)
    → IsClashFree digest (map arc_value c.into_blocks-made.result.items ++ map arc_value ys))
    c.deref-4.ensures.value c.in_ok-add.ensures.made))

pub returns-clause-read : goal.returns-clause-read
returns-clause-read g c =
    c.in_ok-read.ensures ∙ ap (λ ys. bytes_of (shapes_in ys)) c.deref-5.ensures.value
