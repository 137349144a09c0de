use Rattle.std.proofs.Common.{◌≡◌, ap, ◌∙◌, arith}
use Rattle.json.specs.Json.{document}
use Rattle.dagcbor.specs.View.{view}
use Rattle.record_json.specs.Form.{json_of}
use Rattle.record_json.proofs.Trees.{document-json_of}
use Rattle.record_json.proofs.writing.json_of.Goals as goal

pub returns-clause-is_json : goal.returns-clause-is_json
returns-clause-is_json g c =
    let v = view c.args.value.now in
    let text : c.into_inner.result.items ≡ json_of v = grind arith in
    ap document text ∙ document-json_of v c.requires.lawful c.requires.form
