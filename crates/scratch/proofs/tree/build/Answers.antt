use Rattle.std.proofs.Common.{map, ap, ◌∙◌, arith, rules}
use Rattle.std.specs.Arc.{arc_value}
use Rattle.spec.specs.Blocks.{nodes, root, IsClashFree}
use Rattle.scratch.specs.Pairs.{pairs_of}
use Rattle.scratch.proofs.Whole.{once, free-nodes, clash-among, at_none}
use Rattle.scratch.proofs.tree.build.Goals as goal

pub returns-in-None-clause-root : goal.returns-in-None-clause-root
returns-in-None-clause-root g c =
    c.in_ok-built.ensures.root ∙ ap (root g.D.Digest.digest_of g.row.B) c.in_ok-rows.ensures.same

pub returns-in-None-clause-blocks : goal.returns-in-None-clause-blocks
returns-in-None-clause-blocks g c =
    c.in_ok-built.ensures.blocks ∙ ap (nodes g.D.Digest.digest_of g.row.B) c.in_ok-rows.ensures.same

pub returns-in-None-clause-once : goal.returns-in-None-clause-once
returns-in-None-clause-once g c =
    once g.D.Digest.digest_of g.row.B g.met.D.Digest.digest_len c.in_ok-rows.rows.items (pairs_of g.K.AsSlice.items c.args.pairs.now) (map arc_value c.deref.result.now)
    c.in_ok-rows.ensures.same c.requires.ascending (omega arith)
    (ap (map arc_value) c.deref.ensures.value ∙ c.in_ok-built.ensures.blocks ∙ ap (nodes g.D.Digest.digest_of g.row.B) c.in_ok-rows.ensures.same)
    (at_none (IsClashFree g.D.Digest.digest_of (map arc_value c.deref.result.now)) _ c.in_ok-find_clash.field-0 c.in-None.is c.in_ok-find_clash.ensures)

pub returns-in-None-clause-clash_free : goal.returns-in-None-clause-clash_free
returns-in-None-clause-clash_free g c =
    free-nodes g.D.Digest.digest_of g.row.B (pairs_of g.K.AsSlice.items c.args.pairs.now) (map arc_value c.deref.result.now)
    (ap (map arc_value) c.deref.ensures.value ∙ c.in_ok-built.ensures.blocks ∙ ap (nodes g.D.Digest.digest_of g.row.B) c.in_ok-rows.ensures.same)
    (at_none (IsClashFree g.D.Digest.digest_of (map arc_value c.deref.result.now)) _ c.in_ok-find_clash.field-0 c.in-None.is c.in_ok-find_clash.ensures)

pub returns-in_ok-show_clash-in-Some-clause-fault : goal.returns-in_ok-show_clash-in-Some-clause-fault
returns-in_ok-show_clash-in-Some-clause-fault g c =
    clash-among g.D.Digest.digest_of (map arc_value c.deref-in-Some.result.now) (nodes g.D.Digest.digest_of g.row.B (pairs_of g.K.AsSlice.items c.args.pairs.now)) c.in_ok-show_clash-in-Some.field-0
    (ap (map arc_value) c.deref-in-Some.ensures.value ∙ c.in_ok-built.ensures.blocks ∙ ap (nodes g.D.Digest.digest_of g.row.B) c.in_ok-rows.ensures.same)
    c.in_ok-show_clash-in-Some.ensures

pub show_clash-requires : goal.show_clash-requires
show_clash-requires g c = search rules
