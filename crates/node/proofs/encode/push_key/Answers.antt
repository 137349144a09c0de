use Rattle.node.proofs.Growing.{Extends-through}
use Rattle.node.proofs.encode.push_key.Goals as goal

pub returns-clause-kept : goal.returns-clause-kept
returns-clause-kept g c =
    Extends-through c.args.out.now.items c.push_suffix_head.new.out.items c.args.suffix.now c.extend_from_slice.new.self.items c.push_prefix.new.out.items
    c.in_ok-push_suffix_head.ensures.kept c.in_ok-extend_from_slice.ensures.items c.push_prefix.ensures.kept
