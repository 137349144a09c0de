use Rattle.std.proofs.Common.{◌≡◌, ◌+◌, take}
use Rattle.difference.specs.Missing.{lacked}
use Rattle.difference.proofs.lacking.lacked.Given as goal

abbrev pub invariant-loop-cid : goal.invariant-loop-cid
invariant-loop-cid g l = record {
  found : l.all.items ≡ lacked (g.S.Source.gives l.initial.src) (take l.cid-index l.cids);
  counted : g.S.Source.reads l.src ≡ g.S.Source.reads l.initial.src + l.cid-index;
  same : g.S.Source.gives l.src ≡ g.S.Source.gives l.initial.src;
}
