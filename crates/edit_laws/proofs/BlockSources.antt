-- Sources that have the blocks of a repository.
use Rattle.std.proofs.Common.{◌≡◌, ℕ, Bool, true, false, List, refl, sym, ap, ◌∙◌, inl, inr, Option, None}
use Rattle.std.specs.declared.option.Option.TheVariants.{Some}
use Rattle.std.specs.Prelude.{nat_lt, if◌then◌else◌}
use Rattle.std.proofs.lemmas.Bool.{ltb-true, lt-ltb}
use Rattle.std.proofs.lemmas.List.Elements.{Contains-append_cases}
use Rattle.spec.specs.Cid.{cid}
use Rattle.spec.specs.Blocks.{block_at}
use Rattle.spec.proofs.RepositoryBlocks.{node-in, block-none, block-some}
use Rattle.spec.specs.Sources.{HasBlocks}
use Rattle.edit_laws.specs.Uses.{uses}
use Rattle.edit_laws.specs.Laws.Sources.{SourceIsClashFree, BlocksAreSource, SourceHasNodes, SourceGivesBlock}
use Rattle.edit_laws.specs.Laws.Uses.{ClashIsNew}
use Rattle.edit_laws.proofs.Using.{used_at, user}

some_is : {A : Type 0} (x y : A) → ◌≡◌ {A = Option A} (Some x) (Some y) → x ≡ y
some_is x y e = cc

pub source-free : SourceIsClashFree
source-free digest gives bs has a b in_a in_b e = some_is a b (sym (has a in_a) ∙ ap gives e ∙ has b in_b)

pub blocks-source : BlocksAreSource
blocks-source digest bs free b h = block-some digest (cid digest b) b bs h refl (λ x i e. free x b i h e)

pub source-nodes : SourceHasNodes
source-nodes digest bits further m sorted gives has b h = has b (node-in digest bits further m sorted b h)

gives-case : (digest : List ℕ → List ℕ) (bs : List (List ℕ)) (gives : List ℕ → Option (List ℕ)) → HasBlocks digest gives bs → (c : List ℕ) (t : Bool) → nat_lt 0 (uses digest c bs) ≡ t
    → block_at digest c bs ≡ (if t then gives c else None)
gives-case digest bs gives has c true e =
    let k = ltb-true 0 (uses digest c bs) e in
    let u = user digest c bs k in
    let g : gives c ≡ Some u.block = ap gives (sym u.is) ∙ has u.block u.here in
    block-some digest c u.block bs u.here u.is (λ b h q. source-free digest gives bs has b u.block h u.here (q ∙ sym u.is)) ∙ sym g
gives-case digest bs gives has c false e =
    block-none digest c bs (λ b h q. let k = lt-ltb 0 (uses digest c bs) (used_at digest bs b c q h) in absurd cc)

pub source-gives : SourceGivesBlock
source-gives digest bs gives has c = gives-case digest bs gives has c (nat_lt 0 (uses digest c bs)) refl

-- of two blocks that clash, one is new
pub clash-new : ClashIsNew
clash-new digest old new free a b in_a in_b clash =
    elim (Contains-append_cases old new a in_a) [
      | inr n ↦ inl n
      | inl o ↦ elim (Contains-append_cases old new b in_b) [ inr n ↦ inr n | inl p ↦ absurd (clash.1 (free a b o p clash.0)) ]
    ]
