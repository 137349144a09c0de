use Rattle.std.proofs.Common.{take, ap}
use Rattle.console.proofs.Leaving.{leaves-less, leaves-same, cut-at}
use Rattle.console.proofs.writing.write_whole.Goals as goal
use Rattle.console.proofs.writing.write_whole.Goals.{in-Ok, in-Err+else-ne}

pub tries-preserved : goal.tries-preserved
tries-preserved g c =
    let before = g.W.Write.contents c.args.out.now in
    let now = g.W.Write.contents c.tries.out in
    let after = g.W.Write.contents c.write.new.self in
    elim c.match-write.branch [
      | in-Ok w ↦ leaves-less before now after c.args.bytes.now c.tries.rest.now (take w.in-Ok.n c.tries.rest.now) c.match-write.rest.now c.tries.invariant
          (cut-at w.in-Ok.n c.tries.rest.now c.match-write.rest.now (ap (λ b. b.now) w.rest-is)) w.in-Ok.ensures.bytes
      | in-Err+else-ne w ↦ rw w.rest-is (leaves-same before now after c.args.bytes.now c.tries.rest.now c.tries.invariant w.in-Err.ensures.bytes)
    ]
