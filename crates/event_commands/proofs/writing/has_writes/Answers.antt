use Rattle.std.proofs.Common.{◌≡◌, ◌∙◌, sym, ap, length}
use Rattle.std.specs.Prelude.{not, ◌==◌}
use Rattle.std.proofs.lemmas.List.{length-map}
use Rattle.block.specs.Writes.{write_of}
use Rattle.event_commands.proofs.writing.has_writes.Goals as goal

pub returns : goal.returns
returns c =
    ap not (c.is_empty.ensures ∙ ap (λ ws. length ws == 0) c.as_slice.ensures.value ∙ ap (λ n. n == 0) (sym (length-map c.args.batch.now.writes.items write_of)))
