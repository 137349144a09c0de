-- What a commit does to the blocks of a repository.
use Rattle.std.proofs.Common.{◌≡◌, ◌++◌, arith}
use Rattle.std.specs.declared.option.Option.TheVariants.{Some}
use Rattle.spec.specs.Cid.{cid}
use Rattle.spec.specs.Blocks.{nodes, pairs, record_blocks}
use Rattle.spec.proofs.RepositoryBlocks.{node-in, record-in, each-part}
use Rattle.edit_laws.specs.Laws.Uses.{CommitKeepsUses}
use Rattle.edit_laws.proofs.RecordCounts.{count-map_append, count-parts}

-- further blocks in place of others
pub commit-uses : CommitKeepsUses
commit-uses digest bits old new m gives sorted has has_new = (
  each-part digest bits new m sorted (λ b. gives (cid digest b) ≡ Some b) has_new
      (λ b h. has b (node-in digest bits old m sorted b h)) (λ b h. has b (record-in digest bits old m sorted b h)),
  λ c. let i = count-parts digest bits old m sorted (cid digest) c in
      let j = count-parts digest bits new m sorted (cid digest) c in
      let a = count-map_append (cid digest) c old (nodes digest bits (pairs digest m) ++ record_blocks m) in
      let b = count-map_append (cid digest) c new (nodes digest bits (pairs digest m) ++ record_blocks m) in
      omega arith,
)
