-- The laws of walks.
use Rattle.std.proofs.Common.{◌≡◌, ℕ, zero, suc, List, [], ◌∷◌, take, map, refl, sym, ap, ◌∙◌, subst, append-nil, arith}
use Rattle.std.specs.Prelude.{filter}
use Rattle.spec.specs.Layer.{layer}
use Rattle.spec.specs.Tree.{Pair, Last, Nothing, Sub, top, pairs_under, EachNode}
use Rattle.spec.specs.NodeFormat.{shape}
use Rattle.spec.specs.Blocks.{is_from}
use Rattle.spec.specs.Laws.Tree.{HasPairs}
use Rattle.spec.proofs.LayeredTrees.{HasPairs-top}
use Rattle.spec.proofs.TreeLaws.{pairs-top}
use Rattle.edit_laws.specs.Pairs.{Ascending}
use Rattle.edit_laws.specs.Walk.{walk_reads, nodes_meeting, last_key}
use Rattle.edit_laws.specs.Sources.{shown_by}
use Rattle.edit_laws.specs.Laws.Walks.{WalkIsListed, WalkReadsRange, WalkBound, WalkOverSource}
use Rattle.edit_laws.proofs.LookupTheorems.{within-bound}
use Rattle.edit_laws.proofs.OverSource.{holds-top}
use Rattle.edit_laws.proofs.RecordMaps.{ascending-sorted}
use Rattle.edit_laws.proofs.SourceLaws.{walk-holds, reads-hold, walk-most}
use Rattle.edit_laws.proofs.WalkPairs.{walk-pairs}
use Rattle.edit_laws.proofs.WalkReads.{reads-first}

pub walk-is_listed : WalkIsListed
walk-is_listed layer limit n from es s l =
    let a = subst Ascending (sym (pairs-top layer es)) (ascending-sorted es s) in
    walk-pairs limit n from (Sub (top layer es)) [] (within-bound layer n es l) a tt tt
    ∙ ap (take limit) (append-nil (filter (is_from from) (pairs_under (top layer es)))
    ∙ ap (filter (is_from from)) (pairs-top layer es))

-- each subtree has a pair, and the top too where there are pairs
filled-top : (layer : List ℕ → ℕ) (e : Pair) (es : List Pair) → EachNode HasPairs (Sub (top layer (e ∷ es)))
filled-top layer e es = (
  (λ none. let q : e ∷ es ≡ [] = sym (pairs-top layer (e ∷ es)) ∙ none in cc),
  HasPairs-top layer (e ∷ es),
)

empty-reads : (limit n : ℕ) (from : List ℕ)
    → walk_reads (suc limit) (suc n) from (Sub (Last Nothing)) [] ≡ Last Nothing ∷ []
empty-reads limit zero from = refl
empty-reads limit (suc n) from = refl

pub walk-reads_range : WalkReadsRange
walk-reads_range layer zero n from es s l more = absurd (omega arith)
walk-reads_range layer (suc limit) zero from es s l more = absurd (omega arith)
walk-reads_range layer (suc limit) (suc n) from [] s l more = empty-reads limit n from
walk-reads_range layer (suc limit) (suc n) from (e ∷ es) s l more =
    let fs = e ∷ es in
    let m = top layer fs in
    let a = subst Ascending (sym (pairs-top layer fs)) (ascending-sorted fs s) in
    reads-first limit (suc n) from (Sub m) (within-bound layer (suc n) fs l) (filled-top layer e es) a
    ∙ ap (λ (t : List Pair). nodes_meeting from (last_key from (take (suc limit) (filter (is_from from) t))) (Sub m))
    (pairs-top layer fs)

pub walk-bound : WalkBound
walk-bound = walk-most

pub walk-over_source : WalkOverSource
walk-over_source digest bits fits gives n limit from es are has l =
    let lay = layer digest bits in
    let p = Sub (top lay es) in
    let shows = shown_by gives in
    let holds = holds-top digest bits fits gives es are has in
    record {
      given = walk-holds digest shows limit n from p [] holds tt ∙ walk-is_listed lay limit n from es are.sorted l;
      reads = λ more. reads-hold digest shows limit n from p [] holds tt
          ∙ ap (map (shape digest)) (walk-reads_range lay limit n from es are.sorted l more);
    }
