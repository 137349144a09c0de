-- The repository as it will be with a batch, lent before that is accepted.
use Rattle.std.proofs.Common.{◌≡◌, ℕ, List, sym, subst, inl, Option}
use Rattle.std.specs.Prelude.{Contains}
use Rattle.spec.specs.Cid.{cid, IsDigest}
use Rattle.spec.specs.Blocks.{IsClashFree, pairs}
use Rattle.spec.specs.Sources.{HasBlocks}
use Rattle.spec.specs.Stamps.{Stamp}
use Rattle.spec.specs.States.{State, IsLawful, after_batch, records, state_blocks, state_root}
use Rattle.spec.specs.Writes.{Write}
use Rattle.spec.proofs.StateLaws.{batch-keeps_state}
use Rattle.edit_laws.specs.Sources.{Extends}
use Rattle.lookups.specs.Trees.{HasTree}
use Rattle.store.specs.declared.fault.StoreFault.{StoreFault}
use Rattle.store.specs.declared.fault.StoreFault.TheVariants as stores
use Rattle.kept.specs.Counts.{Keeping, HaveNoOther, bytes_at, exchanged, gained}
use Rattle.kept.specs.Faults.{IsNotFull, IsRefusalOfOne}
use Rattle.kept.proofs.Gains.{lost-is}
use Rattle.kept.proofs.LentTrees.{lent_tree}
use Rattle.batches.specs.Tests.{of_store}
use Rattle.batches.specs.declared.fault.RepoFault.{RepoFault}
use Rattle.repo.specs.BlockFaults.{IsBlockFault}
use Rattle.repo.specs.Exchanging.{IsExchangeOf}
use Rattle.repo.specs.Keeping.{AreKept}
use Rattle.repo.specs.Refusals.{IsStagedBatch}
use Rattle.repo.proofs.Exchanging.{exchanged-staged}
use Rattle.repo.proofs.Keeping.{kept-tree}
use Rattle.repo.proofs.LastPlace.{blocks-after, come-shown}

module _ (digest : List ℕ → List ℕ) (bits : ℕ) (s : State) (stamp : Stamp) (batch : List Write) (root commit : List ℕ)
    (add come drop go : List (List ℕ)) (is : IsExchangeOf digest bits s stamp batch root commit add come drop go) where
  -- what is lent has all that is kept after the exchange
  module _ (fits : IsDigest digest) (k : Keeping) (lawful : IsLawful s) (kept : AreKept digest (state_blocks digest bits s) k.uses)
      (none : HaveNoOther digest k.uses come) (free : IsClashFree digest come) (gives : List ℕ → Option (List ℕ))
      (lends : Extends (bytes_at (gained digest k.uses come)) gives) where
    staged : IsStagedBatch digest bits s stamp batch root commit (exchanged digest k come go).uses
    staged = exchanged-staged digest bits fits s stamp batch root commit add come drop go k lawful kept is none free

    extends : Extends (bytes_at (exchanged digest k come go).uses) gives
    extends c b h = lends c b ((lost-is (gained digest k.uses come) go).same c b h)

    pub after-lends : HasBlocks digest gives (state_blocks digest bits (after_batch s stamp batch))
    after-lends b h = extends (cid digest b) b (staged.kept.has b h)

    pub after-lends_tree : HasTree digest bits gives (state_root digest bits (after_batch s stamp batch))
        (pairs digest (records (after_batch s stamp batch)))
    after-lends_tree =
        lent_tree digest bits (bytes_at (exchanged digest k come go).uses) gives (state_root digest bits (after_batch s stamp batch))
        (pairs digest (records (after_batch s stamp batch))) extends
        (kept-tree digest bits fits (after_batch s stamp batch) (exchanged digest k come go).uses
        (batch-keeps_state s stamp batch lawful is.passes) staged.kept)

  -- of two blocks that clash one is of the repository after it
  pub not-lent : {D A : Type 0} (fault : StoreFault D A) (here : RepoFault D A) → here ≡ of_store fault → IsRefusalOfOne digest come fault
      → IsNotFull fault → IsBlockFault digest (state_blocks digest bits (after_batch s stamp batch)) 0 0 here
  not-lent {D} {A} fault here e h n =
      subst (λ (f : RepoFault D A). IsBlockFault digest (state_blocks digest bits (after_batch s stamp batch)) 0 0 f) (sym e) (by fault h n)
    where
      by : (f : StoreFault D A) → IsRefusalOfOne digest come f → IsNotFull f
          → IsBlockFault digest (state_blocks digest bits (after_batch s stamp batch)) 0 0 (of_store f)
      by (stores.Collision pair) r m = record {
        clash = r.1;
        here = inl (subst (λ (bs : List (List ℕ)). Contains bs pair.0) (blocks-after s stamp batch is.passes digest bits)
            (come-shown digest bits s stamp batch root commit add come drop go is pair.0 r.0));
      }
      by stores.Full r m = absurd m
      by stores.NoMemory r m = tt
