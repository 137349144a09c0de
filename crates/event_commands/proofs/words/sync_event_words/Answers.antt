use Rattle.record_forms.proofs.Arguments.{local, shaped}
use Rattle.event_commands.specs.Words.{alone, sync_event_shape}
use Rattle.event_commands.proofs.words.sync_event_words.Goals as goal

pub returns : goal.returns
returns c =
    let app = alone sync_event_shape in
    record { shape = shaped c.told_words.result app c.told_words.ensures; local = local c.told_words.result app c.told_words.ensures }
