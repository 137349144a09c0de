-- The changes of a difference can be proved, and their proof shows them.
use Rattle.std.proofs.Common.{◌≡◌, ℕ, suc, Bool, true, List, [], ◌∷◌, refl, ap, subst, ◌∙◌, Option, arith}
use Rattle.std.specs.declared.option.Option.TheVariants.{Some, None}
use Rattle.std.specs.Prelude.{Ok}
use Rattle.std.specs.List.{AllByRecursion}
use Rattle.std.specs.declared.sync.Arc.{Arc}
use Rattle.std.proofs.lemmas.Slice.Eq.{bytes_eq-Decides}
use Rattle.spec.specs.Reading.{◌>>=◌, ensure}
use Rattle.spec.specs.Tree.{Pair}
use Rattle.spec.specs.Blocks.{ArePairs, pairs, value_of}
use Rattle.spec.specs.States.{IsLawful, State, records}
use Rattle.spec.proofs.RecordPairs.{lawful-pairs}
use Rattle.spec.specs.Cid.{IsDigest}
use Rattle.batch_laws.specs.Previous.{values}
use Rattle.key_changes.proofs.Ascending.{keyed-changes}
use Rattle.change_laws.specs.Told.{KeyChange, undone}
use Rattle.change_laws.specs.Given.{OtherValue}
use Rattle.change_laws.specs.Verdict.{are_told, is_same}
use Rattle.difference.specs.Differences.{IsDifferenceOf}
use Rattle.core_differences.specs.Spans.{AreTrue, IsShownBy, IsSpan}

same-value : (o p : Option (List ℕ)) → o ≡ p → is_same o p ≡ true
same-value o p e = subst (λ (q : Option (List ℕ)). is_same o q ≡ true) e (itself o)
  where
    itself : (o : Option (List ℕ)) → is_same o o ≡ true
    itself None = refl
    itself (Some x) = (bytes_eq-Decides x x).1 refl

true-told : (place : ℕ) (es : List Pair) (cs : List KeyChange) → AllByRecursion (λ c. value_of c.key es ≡ c.after) cs
    → are_told place (values (undone cs) es) cs ≡ Ok tt
true-told place es [] h = refl
true-told place es (c ∷ cs) h =
    ap (λ (t : Bool). ensure t (OtherValue place) >>= (λ same. are_told (suc place) (values (undone cs) es) cs))
    (same-value (value_of c.key es) c.after h.0)
    ∙ true-told (suc place) es cs h.1

module _ (digest : List ℕ → List ℕ) (bits : ℕ) (old new : State) (cs : List KeyChange) (come go : List (List ℕ))
    (d : IsDifferenceOf digest bits (pairs digest (records old)) (pairs digest (records new)) cs come go) where
  -- they are true of the new tree
  pub are-true : AreTrue digest new cs
  are-true = record {
    keyed = keyed-changes (undone cs) d.keyed;
    told = true-told 0 (pairs digest (records new)) cs d.differ.differ.after;
  }

  -- and their proof is that of a span
  pub is-span : {A : Type 0} (shown : List (Arc (List ℕ) A)) → ArePairs (pairs digest (records old)) → IsShownBy digest bits new cs shown
      → IsSpan digest bits old new cs shown
  is-span shown are shows = record {
    differ = d.differ;
    shows = λ given apart all. shows (pairs digest (records old)) are d.differ.differ given apart all;
  }

-- the pairs of a lawful repository are those of a tree
pub lawful-are : (digest : List ℕ → List ℕ) → IsDigest digest → (s : State) → IsLawful s → ArePairs (pairs digest (records s))
lawful-are digest fits s lawful =
    let a = lawful.within_limit in
    let b = lawful.limit_fits in
    lawful-pairs digest fits s.accepted lawful.writes (omega arith)
