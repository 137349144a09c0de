use Rattle.std.proofs.Common.{◌∙◌, ◌≡◌, Bool, false, refl, true, codes}
use Rattle.clap.specs.Words.{found_of}
use Rattle.clap.proofs.WalkLemmas.{one_text-rows}
use Rattle.difference_commands.proofs.words.values_of.Goals as goal

both : (b : Bool) → b ≡ true → b ≡ false → ⊥
both b p q = absurd (cc (p, q))

pub returns-then-get_flag : goal.returns-then-get_flag
returns-then-get_flag c = record {
  records = λ is. refl;
  cids = λ is. absurd (both c.get_flag.result c.if-get_flag.true (c.get_flag.ensures.other (one_text-rows (found_of c.args.words.now) (codes "records") ∙ is)));
}

pub returns-else-get_flag : goal.returns-else-get_flag
returns-else-get_flag c = record {
  records = λ is. absurd (both c.get_flag.result (c.get_flag.ensures.value (one_text-rows (found_of c.args.words.now) (codes "records") ∙ is)) c.if-get_flag.false);
  cids = λ is. refl;
}
