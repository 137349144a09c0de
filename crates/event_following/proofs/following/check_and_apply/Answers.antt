use Rattle.std.proofs.Common.{rules, ◌<◌, ◌^◌, ◌∙◌}
use prog.Memory.{size}
use denote.Param.{layout, number, param}
use Rattle.repo.specs.contracts.cores.Core as core
use Rattle.event_format.specs.Views.{event_of}
use Rattle.commit_events.specs.Views.{checked_of}
use Rattle.event_following.proofs.Steps.{followed-empty, followed-is, leads-so, lent-keyed, lent-ops, none-told, read-of, some-told}
use Rattle.event_following.proofs.Unfollowed.{has-records-lent, other-root, refused-counted, refused-lent, unread-counted, unread-is}
use Rattle.event_following.proofs.following.check_and_apply.Goals as goal

pub returns-in-Err-clause-fault : goal.returns-in-Err-clause-fault
returns-in-Err-clause-fault g c =
    let full = g.S.BlockStore.fulls c.args.store.now in
    unread-is g.D.Digest.digest_of g.row.B c.args.core.now c.args.message.now full full c.in-Err.fault c.unread.result c.unread.ensures
    c.in-Err.ensures.plain c.root.result c.root.ensures.value c.in-Err.ensures.read

pub returns-in-Err-clause-counted : goal.returns-in-Err-clause-counted
returns-in-Err-clause-counted g c =
    unread-counted (g.S.BlockStore.fulls c.args.store.now) c.in-Err.fault c.unread.result c.unread.ensures

pub lead_to-requires : goal.lead_to-requires
lead_to-requires g c =
    let ops = (event_of c.in-Ok.checked.event).ops in
    let same = lent-ops ops c.in_ok-sorted.sorted.items c.deref.result.now c.in_ok-changes.changes.items c.deref-2.result.now
    c.in_ok-sorted.ensures c.deref.ensures.value c.in_ok-changes.ensures c.deref-2.ensures.value in
    let fits : size (layout (core.the_row (param 0 g.row.D) (number g.row.B) (param 2 g.row.A) g.D.Digest g.A.Allocator)) < 2 ^ 63 =
    search (c.requires-raw, rules) in
    (fits, (c.requires.least, lent-keyed ops c.deref-2.result.now same c.in-Ok.ensures.keyed))

pub returns-then-not-leads-clause-fault : goal.returns-then-not-leads-clause-fault
returns-then-not-leads-clause-fault g c =
    let digest = g.D.Digest.digest_of in
    let old = c.args.core.now in
    let x = checked_of c.in-Ok.checked in
    let read = read-of digest g.row.B old c.args.message.now x c.root.result c.root.ensures.value c.in-Ok.ensures.read in
    let same = lent-ops x.event.ops c.in_ok-sorted.sorted.items c.deref.result.now c.in_ok-changes.changes.items c.deref-2.result.now
    c.in_ok-sorted.ensures c.deref.ensures.value c.in_ok-changes.ensures c.deref-2.ensures.value in
    other-root digest g.row.B old c.args.message.now x read c.deref-2.result.now same c.root_named.result c.root_named.ensures
    c.in_ok-leads.leads c.in_ok-leads.ensures c.if-not-leads.true

pub returns-in-Ok-taken-clause-followed : goal.returns-in-Ok-taken-clause-followed
returns-in-Ok-taken-clause-followed g c =
    let digest = g.D.Digest.digest_of in
    let old = c.args.core.now in
    let message = c.args.message.now in
    let x = checked_of c.in-Ok.checked in
    let read = read-of digest g.row.B old message x c.root.result c.root.ensures.value c.in-Ok.ensures.read in
    let same = lent-ops x.event.ops c.in_ok-sorted.sorted.items c.deref.result.now c.in_ok-changes.changes.items c.deref-2.result.now
    c.in_ok-sorted.ensures c.deref.ensures.value c.in_ok-changes.ensures c.deref-2.ensures.value in
    let again = lent-ops x.event.ops c.in_ok-sorted.sorted.items c.deref.result.now c.in_ok-changes.changes.items c.deref-3.result.now
    c.in_ok-sorted.ensures c.deref.ensures.value c.in_ok-changes.ensures c.deref-3.ensures.value in
    let leads = leads-so digest g.row.B old message x c.deref-2.result.now same c.root_named.result c.root_named.ensures
    c.in_ok-leads.leads c.in_ok-leads.ensures c.if-not-leads.false in
    followed-is digest g.row.B old message x g.met.D.Digest.digest_len c.root.ensures.lawful c.taken.new.core read leads
    c.deref-3.result.now again (lent-keyed x.event.ops c.deref-3.result.now again c.in-Ok.ensures.keyed) c.in-Ok-taken.applied
    c.in-Ok-taken.ensures.taken c.in-Ok-taken.ensures.differ

pub refused-requires : goal.refused-requires
refused-requires g c =
    let digest = g.D.Digest.digest_of in
    let old = c.args.core.now in
    let message = c.args.message.now in
    let x = checked_of c.in-Ok.checked in
    let read = read-of digest g.row.B old message x c.root.result c.root.ensures.value c.in-Ok.ensures.read in
    let again = lent-ops x.event.ops c.in_ok-sorted.sorted.items c.deref.result.now c.in_ok-changes.changes.items c.deref-3.result.now
    c.in_ok-sorted.ensures c.deref.ensures.value c.in_ok-changes.ensures c.deref-3.ensures.value in
    has-records-lent digest g.row.B old message (g.S.BlockStore.fulls c.args.store.now) (g.S.BlockStore.fulls c.taken.new.store) x read
    c.deref-3.result.now again c.in-Err-taken.fault c.in-Err-taken.ensures.fault

pub returns-clause-fault : goal.returns-clause-fault
returns-clause-fault g c =
    let digest = g.D.Digest.digest_of in
    let old = c.args.core.now in
    let message = c.args.message.now in
    let x = checked_of c.in-Ok.checked in
    let read = read-of digest g.row.B old message x c.root.result c.root.ensures.value c.in-Ok.ensures.read in
    let same = lent-ops x.event.ops c.in_ok-sorted.sorted.items c.deref.result.now c.in_ok-changes.changes.items c.deref-2.result.now
    c.in_ok-sorted.ensures c.deref.ensures.value c.in_ok-changes.ensures c.deref-2.ensures.value in
    let again = lent-ops x.event.ops c.in_ok-sorted.sorted.items c.deref.result.now c.in_ok-changes.changes.items c.deref-3.result.now
    c.in_ok-sorted.ensures c.deref.ensures.value c.in_ok-changes.ensures c.deref-3.ensures.value in
    let leads = leads-so digest g.row.B old message x c.deref-2.result.now same c.root_named.result c.root_named.ensures
    c.in_ok-leads.leads c.in_ok-leads.ensures c.if-not-leads.false in
    refused-lent digest g.row.B old message (g.S.BlockStore.fulls c.args.store.now) (g.S.BlockStore.fulls c.taken.new.store) x read leads
    (some-told x.event.ops c.as_slice.result.now c.is_empty.result c.is_empty.ensures c.as_slice.ensures.value c.if-is_empty.false)
    c.deref-3.result.now again c.deref-in-Err-taken.result.now (c.deref-in-Err-taken.ensures.value ∙ c.in_ok-sorted.ensures)
    c.in-Err-taken.fault c.refused.result c.refused.ensures c.in-Err-taken.ensures.fault

pub returns-clause-counted : goal.returns-clause-counted
returns-clause-counted g c =
    refused-counted (g.S.BlockStore.fulls c.args.store.now) (g.S.BlockStore.fulls c.taken.new.store) c.deref-in-Err-taken.result.now
    c.in-Err-taken.fault c.refused.result c.in-Err-taken.ensures.counted c.refused.ensures

pub returns-then-is_empty-clause-followed : goal.returns-then-is_empty-clause-followed
returns-then-is_empty-clause-followed g c =
    let digest = g.D.Digest.digest_of in
    let old = c.args.core.now in
    let message = c.args.message.now in
    let x = checked_of c.in-Ok.checked in
    let read = read-of digest g.row.B old message x c.root.result c.root.ensures.value c.in-Ok.ensures.read in
    let same = lent-ops x.event.ops c.in_ok-sorted.sorted.items c.deref.result.now c.in_ok-changes.changes.items c.deref-2.result.now
    c.in_ok-sorted.ensures c.deref.ensures.value c.in_ok-changes.ensures c.deref-2.ensures.value in
    let leads = leads-so digest g.row.B old message x c.deref-2.result.now same c.root_named.result c.root_named.ensures
    c.in_ok-leads.leads c.in_ok-leads.ensures c.if-not-leads.false in
    followed-empty digest g.row.B old message x read leads
    (none-told x.event.ops c.as_slice.result.now c.is_empty.result c.is_empty.ensures c.as_slice.ensures.value c.if-is_empty.true)
