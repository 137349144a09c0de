-- The file of a signed commit: its header, the section of the commit, and those of the blocks of a tree.
use Rattle.std.proofs.Common.{◌≡◌, ℕ, ◌+◌, ◌-◌, ◌^◌, Bool, List, [], ◌++◌, length, map, Option, option_map, Result, min, refl, sym, ap, subst, ◌∙◌}
use Rattle.std.specs.Prelude.{IsErr}
use Rattle.std.specs.declared.option.Option.TheVariants.{Some, None}
use Rattle.std.specs.List.{flat_map}
use Rattle.std.proofs.lemmas.List.{length-append}
use Rattle.spec.specs.Cid.{cid, IsDigest}
use Rattle.spec.specs.Blocks.{blocks, firsts, pairs}
use Rattle.spec.specs.Car.{header, section}
use Rattle.spec.specs.Sources.{HasBlocks}
use Rattle.spec.specs.SignedCommits.{signed_bytes}
use Rattle.spec.specs.Stamps as stamps
use Rattle.spec.specs.States.{State, last_stamp, records, state_blocks, state_commit, state_root}
use Rattle.lookups.specs.Steps.{layers}
use Rattle.lookups.specs.Trees.{HasTree}
use Rattle.export_laws.specs.SignedCars.{car_over, signed_commit, state_signed_car}
use Rattle.export.specs.Founds.{may_repeat}
use Rattle.export.specs.Once.{AreSingle, capped, sections}
use Rattle.export.specs.Outs.{TakesBeginning, Takes}
use Rattle.export.specs.Walks.{Walking, blocks_left, blocks_met, commit_block, sections_left}
use Rattle.export.proofs.Exported.{single-met, tree-met}
use Rattle.export.proofs.FirstOnes.{fresh-all}
use Rattle.export.proofs.Leaving.{stops-first, stops-second, stops-third, takes-three}
use Rattle.export.proofs.Sectioned.{met-due}
use Rattle.export.proofs.Singles.{single-later}
use Rattle.export.proofs.WholeFile.{sum-of}

-- ---- part by part

module _ {X : Type 0} (view : X → List ℕ) (digest : List ℕ → List ℕ) (was : List ℕ → Option X) (most : ℕ) (commit root : List ℕ) where
  abbrev shown : List ℕ → Option (List ℕ)
  shown d = option_map view (was d)

  abbrev all : List ℕ
  all = car_over digest commit (blocks_met shown most None root)

  abbrev first : List ℕ
  first = section digest commit

  abbrev top : Walking
  top = record { most = most; link = Some root; stack = [] }

  -- what is written behind the commit stands once
  pub walk-single : (may_repeat : List ℕ → Bool) (w : Walking) → w ≡ top → AreSingle digest may_repeat (blocks_met shown most None root)
      → AreSingle digest may_repeat (blocks_left shown w)
  walk-single may_repeat w at single = subst (AreSingle digest may_repeat) (met-due digest shown most None root w at) single

  module _ (cids : List (List ℕ)) (w : Walking) (none : cids ≡ []) (at : w ≡ top) where
    abbrev rest : List ℕ
    rest = sections_left digest shown cids w

    rest-is : flat_map (section digest) (firsts (cid digest) (blocks_met shown most None root)) ≡ rest
    rest-is =
        ap (λ bs. flat_map (section digest) (firsts (cid digest) bs)) (met-due digest shown most None root w at)
        ∙ ap (flat_map (section digest)) (sym (fresh-all digest (blocks_left shown w)))
        ∙ ap (λ x. sections digest x (blocks_left shown w)) (sym none)

    module _ (name : List ℕ) (named : name ≡ cid digest commit) where
      file-parts : all ≡ header name ++ (first ++ rest)
      file-parts = ap (λ x. header (cid digest commit) ++ (first ++ x)) rest-is ∙ ap (λ x. header x ++ (first ++ rest)) (sym named)

      pub stops-name : {T E : Type 0} (old new : List ℕ) (r : Result T E) → IsErr r → TakesBeginning old new (header name) → Takes old new r all
      stops-name old new r err t = stops-first old (header name) first rest all file-parts new r err t

      pub stops-commit : {T E : Type 0} (old one new : List ℕ) (r : Result T E) → one ≡ old ++ header name → IsErr r → TakesBeginning one new first
          → Takes old new r all
      stops-commit old one new r a err t = stops-second old (header name) first rest all file-parts one new r a err t

      pub stops-tree : {T E : Type 0} (old one two new : List ℕ) (r : Result T E) → one ≡ old ++ header name → two ≡ one ++ first → IsErr r
          → TakesBeginning two new rest → Takes old new r all
      stops-tree old one two new r a b err t = stops-third old (header name) first rest all file-parts one two new r a b err t

      pub file-taken : (old one two new : List ℕ) → one ≡ old ++ header name → two ≡ one ++ first → new ≡ two ++ rest → new ≡ old ++ all
      file-taken old one two new a b d = takes-three old (header name) first rest all file-parts one two new a b d

      pub file-length : (h f others sum total : ℕ) → h ≡ length (header name) → f ≡ length first → others ≡ capped (length rest)
          → sum ≡ min (f + others) (2 ^ 64 - 1) → total ≡ min (h + sum) (2 ^ 64 - 1) → total ≡ capped (length all)
      file-length h f others sum total a b d e g =
          sum-of h sum total (length (header name)) (length (first ++ rest)) (length all) a
          (sum-of f others sum (length first) (length rest) (length (first ++ rest)) b d e (length-append first rest)) g
          (ap length file-parts ∙ length-append (header name) (first ++ rest))

-- before the first batch there is no file
pub none-met : (digest : List ℕ → List ℕ) (bits : ℕ) (s : State) (sig : List ℕ) (o : Option stamps.Stamp) → o ≡ last_stamp s
    → ◌≡◌ {A = Option stamps.Stamp} None o → ◌≡◌ {A = Option (List ℕ)} None (state_signed_car digest bits s sig)
none-met digest bits s sig o last_is is =
    ap (option_map (λ t. car_over digest (signed_bytes (signed_commit t (state_root digest bits s) sig)) (blocks digest bits [] (records s)))) (is ∙ last_is)

-- ---- over a source that has a repository's blocks

module _ (digest : List ℕ → List ℕ) (gives : List ℕ → Option (List ℕ)) (bits : ℕ) (fits : IsDigest digest) (s : State)
    (has : HasBlocks digest gives (state_blocks digest bits s))
    (tree : HasTree digest bits gives (state_root digest bits s) (pairs digest (records s))) (root : List ℕ) (root_is : root ≡ state_root digest bits s)
    (most : ℕ) (most_is : most ≡ layers bits) where
  met : blocks_met gives most None root ≡ blocks digest bits [] (records s)
  met = ap (λ n. blocks_met gives n None root) most_is ∙ tree-met digest gives bits fits s has tree root root_is

  -- what is written is the file of the state
  pub signed-met : (sig block : List ℕ) (o : Option stamps.Stamp) (stamp : stamps.Stamp) → o ≡ last_stamp s
      → ◌≡◌ {A = Option stamps.Stamp} (Some stamp) o → block ≡ signed_bytes (signed_commit stamp root sig)
      → ◌≡◌ {A = Option (List ℕ)} (Some (car_over digest block (blocks_met gives most None root))) (state_signed_car digest bits s sig)
  signed-met sig block o stamp last_is is block_is =
      ap (λ bs. Some (car_over digest block bs)) met
      ∙ ap (λ b. Some (car_over digest b (blocks digest bits [] (records s)))) block_is
      ∙ ap (λ r. Some (car_over digest (signed_bytes (signed_commit stamp r sig)) (blocks digest bits [] (records s)))) root_is
      ∙ ap (option_map (λ t. car_over digest (signed_bytes (signed_commit t (state_root digest bits s) sig)) (blocks digest bits [] (records s)))) (is ∙ last_is)

  -- nodes and records that a repository uses no more than once stand there no more than once
  pub single-tree : AreSingle digest (may_repeat digest bits s) (blocks_met gives most None root)
  single-tree =
      subst (λ n. AreSingle digest (may_repeat digest bits s) (blocks_met gives n None root)) (sym most_is)
      (single-later digest (may_repeat digest bits s) (commit_block gives (state_commit digest bits s)) (blocks_met gives (layers bits) None root)
      (single-met digest gives bits fits s has tree (state_commit digest bits s) root refl root_is))
