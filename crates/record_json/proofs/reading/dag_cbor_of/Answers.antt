use Rattle.std.proofs.Common.{ap, ◌∙◌, ◌++◌}
use Rattle.std.specs.Prelude.{string_bytes}
use Rattle.spec.specs.DagCbor.{spelling}
use Rattle.record_json.specs.Kinds.{kind_of}
use Rattle.record_json.proofs.Records.{IsFault-whole}
use Rattle.record_json.proofs.reading.dag_cbor_of.Goals as goal

pub returns-in-Ok : goal.returns-in-Ok
returns-in-Ok g c =
    let p = c.in-Ok.ensures in (p.0, p.1, p.2 ∙ ap (λ out. out ++ spelling p.0) c.new-out.ensures.items)

pub returns-in-Err : goal.returns-in-Err
returns-in-Err g c =
    IsFault-whole (kind_of c.in-Err.kind) (string_bytes c.new-path.result) (string_bytes c.push_record.new.path) _ c.new-path.ensures.bytes c.in-Err.ensures
