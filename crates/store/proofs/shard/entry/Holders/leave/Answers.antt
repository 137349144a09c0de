use Rattle.std.proofs.Common.{sym, ap, ◌∙◌, nat_eq}
use Rattle.std.specs.FinSet as set
use Rattle.store.specs.Places.{cores_in, set_at}
use Rattle.store.proofs.CoreSets.{last_of_one, one_left, other_left}
use Rattle.store.proofs.shard.entry.Holders.leave.Goals as goal

pub returns-in-One-clause-last : goal.returns-in-One-clause-last
returns-in-One-clause-last g c =
    last_of_one c.in-One.held c.args.core
    ∙ ap (λ h. nat_eq (set.len (set.remove (cores_in c.args.sets.now.slots h) c.args.core)) 0) (sym c.in-One.is)

pub returns-in-One-clause-left : goal.returns-in-One-clause-left
returns-in-One-clause-left g c other =
    ap (cores_in c.args.sets.now.slots) c.in-One.is
    ∙ other_left c.in-One.held c.args.core other
    ∙ ap (λ h. set.remove (cores_in c.args.sets.now.slots h) c.args.core) (sym c.in-One.is)

pub returns-in-Some-clause-last : goal.returns-in-Some-clause-last
returns-in-Some-clause-last g c =
    one_left (set_at c.args.sets.now.slots c.in-Several.key) c.args.core c.in-Some.last c.in-Some.ensures.left
    ∙ ap (λ h. nat_eq (set.len (set.remove (cores_in c.args.sets.now.slots h) c.args.core)) 0) (sym c.in-Several.is)
