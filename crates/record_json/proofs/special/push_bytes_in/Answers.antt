use Rattle.std.proofs.Common.{◌≡◌, ◌++◌, Ok, sym, ap, ◌∙◌}
use Rattle.base64.specs.Engines.{standard_no_pad_indifferent}
use Rattle.base64.specs.GeneralPurpose.{decode_of}
use Rattle.spec.specs.DagCbor.{Bytes, spelling}
use Rattle.json.specs.Value.{value_view}
use Rattle.record_json.specs.Reading.{or_bad_bytes, bytes_in}
use Rattle.record_json.proofs.Pushes.{view-String}
use Rattle.record_json.proofs.special.push_bytes_in.Goals as goal

pub returns-in_ok-push_bytes-in-Ok : goal.returns-in_ok-push_bytes-in-Ok
returns-in_ok-push_bytes-in-Ok g c =
    let text = c.in-String.text in
    let bytes = c.in-Ok.bytes in
    let seen : bytes_in (value_view c.args.value.now) ≡ or_bad_bytes (decode_of standard_no_pad_indifferent text.now) = ap bytes_in (ap value_view c.in-String.is ∙ view-String _ text) in
    let found : decode_of standard_no_pad_indifferent text.now ≡ Ok bytes.items = ap (decode_of standard_no_pad_indifferent) (sym c.as_bytes.ensures.value) ∙ c.in-Ok.ensures.ok in
    (Bytes bytes.items, seen ∙ ap or_bad_bytes found, c.in_ok-push_bytes-in-Ok.ensures ∙ ap (λ b. c.args.out.now.items ++ spelling (Bytes b)) c.deref.ensures.value)
