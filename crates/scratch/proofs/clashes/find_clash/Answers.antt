use Rattle.std.proofs.Common.{◌<◌, length, sym, ◌∙◌, rules, nat_eq}
use Rattle.std.specs.Arc.{arc_value}
use Rattle.std.specs.HashMap.{get}
use Rattle.std.specs.Cmp.Lexicographic.{pointwise}
use Rattle.scratch.proofs.Seen.{Sees-all, place_below, Sees-clashing, Sees-same, Sees-new}
use Rattle.scratch.proofs.clashes.find_clash.Goals as goal

pub bounds-blocks-earlier : goal.bounds-blocks-earlier
bounds-blocks-earlier g c =
    place_below arc_value g.D.Digest.digest_of c.args.blocks.now c.loop-place.place c.index-blocks-place.result (get (pointwise nat_eq) c.loop-place.seen) c.cid.result
    c.loop-place-test.true c.index-blocks-place.is (cc) c.loop-place.invariant c.in-Some.earlier (sym c.in_ok-earlier.ensures.old ∙ c.in-Some.is)

pub offset_bounds-blocks-earlier : goal.offset_bounds-blocks-earlier
offset_bounds-blocks-earlier g c = let h : c.in-Some.earlier < length c.args.blocks.now = bounds-blocks-earlier g c in search rules

pub returns-then-ne : goal.returns-then-ne
returns-then-ne g c =
    Sees-clashing arc_value g.D.Digest.digest_of c.args.blocks.now c.loop-place.place c.index-blocks-place.result (get (pointwise nat_eq) c.loop-place.seen) c.cid.result
    c.loop-place-test.true c.index-blocks-place.is (cc) c.loop-place.invariant c.in-Some.earlier c.index-blocks-earlier.result c.bytes.result.now c.bytes-in-loop-place.result.now
    (sym c.in_ok-earlier.ensures.old ∙ c.in-Some.is) c.index-blocks-earlier.is (cc) (cc) (sym c.ne.ensures ∙ c.if-ne.true)

pub loop-place-preserved : goal.loop-place-preserved
loop-place-preserved g c =
    Sees-same arc_value g.D.Digest.digest_of c.args.blocks.now c.loop-place.place c.index-blocks-place.result (get (pointwise nat_eq) c.loop-place.seen) c.cid.result
    c.loop-place-test.true c.index-blocks-place.is (cc) c.loop-place.invariant c.in-Some.earlier c.index-blocks-earlier.result c.bytes.result.now c.bytes-in-loop-place.result.now
    (get (pointwise nat_eq) c.insert.new.self)
    (sym c.in_ok-earlier.ensures.old ∙ c.in-Some.is) c.index-blocks-earlier.is (cc) (cc) (sym c.ne.ensures ∙ c.if-ne.false) c.in_ok-earlier.ensures.updates.0

pub loop-place-preserved-in_default : goal.loop-place-preserved-in_default
loop-place-preserved-in_default g c =
    Sees-new arc_value g.D.Digest.digest_of c.args.blocks.now c.loop-place.place c.index-blocks-place.result (get (pointwise nat_eq) c.loop-place.seen) c.cid.result
    c.loop-place-test.true c.index-blocks-place.is (cc) c.loop-place.invariant
    (get (pointwise nat_eq) c.insert.new.self) (sym c.in_ok-earlier.ensures.old ∙ c.in_default.is) c.in_ok-earlier.ensures.updates.0

pub returns : goal.returns
returns g c =
    Sees-all arc_value g.D.Digest.digest_of c.args.blocks.now c.loop-place.place (get (pointwise nat_eq) c.loop-place.seen) c.loop-place-test.false c.loop-place.auto.place-end c.loop-place.invariant
