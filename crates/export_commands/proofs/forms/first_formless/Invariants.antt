use Rattle.std.proofs.Common.{◌≡◌, drop, map}
use Rattle.repository_check.specs.Views.{keyed_record}
use Rattle.export_commands.specs.Texts.{formless, formless_from}
use Rattle.export_commands.proofs.forms.first_formless.Given as goal

abbrev pub invariant-loop-place : goal.invariant-loop-place
invariant-loop-place g l =
    formless (map keyed_record l.records) ≡ formless_from l.place (map keyed_record (drop l.place l.records))
