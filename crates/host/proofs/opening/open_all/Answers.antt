use Rattle.std.proofs.Common.{rules}
use Rattle.host.proofs.opening.open_all.Goals as goal

pub open-requires : goal.open-requires
open-requires g c = (search rules, (c.requires.least_bits, (c.requires.most_bits, (search rules, (c.requires.least, (c.requires.most, search rules))))))

pub give_back-requires : goal.give_back-requires
give_back-requires g c = (search rules, search rules)
