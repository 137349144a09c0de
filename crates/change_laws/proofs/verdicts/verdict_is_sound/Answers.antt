use Rattle.change_laws.proofs.Showing.{verdict-sound}
use Rattle.change_laws.proofs.verdicts.verdict_is_sound.Goals as goal

pub returns : goal.returns
returns c = verdict-sound
