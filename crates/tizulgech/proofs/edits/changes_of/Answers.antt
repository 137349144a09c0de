use Rattle.std.proofs.Common.{◌≡◌, ◌<◌, ◌≤◌, rules, arith, take, map, length}
use Rattle.std.specs.Prelude.{None}
use Rattle.buffers.specs.Framing.{cid_or_none_at, with_values}
use Rattle.buffers.proofs.Beside.{value_none}
use Rattle.tizulgech.proofs.Rows.{values_done}
use Rattle.tizulgech.proofs.edits.changes_of.Goals as goal

pub returns-in_default : goal.returns-in_default
returns-in_default c =
    let within : c.loop-key.key-index < length c.args.keys.now = grind arith in
    let found : cid_or_none_at (take 36 c.loop-key.rest.now) ≡ None = search rules in
    value_none cid_or_none_at (λ key. key.now) c.args.values _ _ c.args.keys.now c.loop-key.key-index c.loop-key.rest.now c.loop-key.invariant within found

pub returns : goal.returns
returns c =
    let few : length c.args.keys.now ≤ c.loop-key.key-index = c.loop-key-test.false in
    let none : length c.loop-key.rest.now ≡ 0 = grind arith in
    values_done cid_or_none_at (λ key. key.now) (with_values cid_or_none_at (map (λ key. key.now) c.args.keys.now) c.args.values.now) c.loop-key.changes.items c.args.keys.now c.loop-key.key-index c.loop-key.rest.now c.loop-key.invariant few none
