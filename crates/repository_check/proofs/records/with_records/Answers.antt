use Rattle.std.proofs.Common.{refl}
use Rattle.repository_check.proofs.Taken.{keyed-more, pairs-more, still-long, all-ended, keyed-all, pairs-all}
use Rattle.repository_check.proofs.records.with_records.Goals as goal

pub loop-key-preserved : goal.loop-key-preserved
loop-key-preserved g c =
    let now = c.loop-key.key-iterator in
    let after = c.next.new.self in
    record {
      keyed_all = keyed-more now.a.rest.items after.a.rest.items (c.in-Some.key, c.in-Some.cid) c.in-Some.ensures.steps.0.0
          now.b.rest.items after.b.rest.items c.in-Some.bytes c.in-Some.ensures.steps.1.0 c.loop-key.all.items c.push.new.self.items _
          c.in_ok-push.ensures.items _ refl c.loop-key.invariant.keyed_all;
      pairs_all = pairs-more now.a.rest.items after.a.rest.items (c.in-Some.key, c.in-Some.cid) c.in-Some.ensures.steps.0.0
          now.b.rest.items after.b.rest.items c.in-Some.bytes c.in-Some.ensures.steps.1.0 c.loop-key.all.items c.push.new.self.items _
          c.in_ok-push.ensures.items _ refl c.loop-key.invariant.pairs_all;
      same = still-long now.a.rest.items after.a.rest.items (c.in-Some.key, c.in-Some.cid) c.in-Some.ensures.steps.0.0
          now.b.rest.items after.b.rest.items c.in-Some.bytes c.in-Some.ensures.steps.1.0 c.loop-key.all.items c.push.new.self.items _
          c.in_ok-push.ensures.items c.loop-key.invariant.same;
    }

pub returns-clause-keyed : goal.returns-clause-keyed
returns-clause-keyed g c =
    let a = c.loop-key.key-iterator.a.rest in
    let b = c.loop-key.key-iterator.b.rest in
    keyed-all a.items b.items (all-ended a.items b.items a.len b.len a.ok.0 b.ok.0 c.loop-key.invariant.same c.in-None.ensures.steps)
    c.loop-key.all.items _ c.loop-key.invariant.keyed_all

pub returns-clause-pairs : goal.returns-clause-pairs
returns-clause-pairs g c =
    let a = c.loop-key.key-iterator.a.rest in
    let b = c.loop-key.key-iterator.b.rest in
    pairs-all a.items b.items (all-ended a.items b.items a.len b.len a.ok.0 b.ok.0 c.loop-key.invariant.same c.in-None.ensures.steps)
    c.loop-key.all.items _ c.loop-key.invariant.pairs_all
