-- The words of a message, as the definitions see them.
use Rattle.std.specs.Prelude.{option_map}
use Rattle.event_commands.specs.Texts.{Words}
use Rattle.event_commands.specs.declared.command.EventWords.{EventWords}

abbrev pub words_of : EventWords → Words
words_of w = record {
  did = w.did.now;
  rev = w.rev.now;
  since = option_map (λ s. s.now) w.since;
  seq = w.seq;
  time = w.time.now;
  sig = w.sig.now;
}
