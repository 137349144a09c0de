use Rattle.std.proofs.Common.{◌∙◌, ◌≡◌, Bool, false, refl, true, codes}
use Rattle.clap.specs.Words.{found_of}
use Rattle.clap.proofs.WalkLemmas.{one_text-rows}
use Rattle.change_commands.proofs.direction.direction_of.Goals as goal

both : (b : Bool) → b ≡ true → b ≡ false → ⊥
both b p q = absurd (cc (p, q))

pub returns-then-get_flag : goal.returns-then-get_flag
returns-then-get_flag c = record {
  inversion = λ is. refl;
  forward = λ is. absurd (both c.get_flag.result c.if-get_flag.true (c.get_flag.ensures.other (one_text-rows (found_of c.args.words.now) (codes "inversion") ∙ is)));
}

pub returns-else-get_flag : goal.returns-else-get_flag
returns-else-get_flag c = record {
  inversion = λ is. absurd (both c.get_flag.result (c.get_flag.ensures.value (one_text-rows (found_of c.args.words.now) (codes "inversion") ∙ is)) c.if-get_flag.false);
  forward = λ is. refl;
}
