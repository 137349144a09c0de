use Rattle.std.proofs.Common.{◌≡◌, false, subst}
use Rattle.std.specs.Prelude.{string_bytes}
use Rattle.std.specs.Str.{is_utf8}
use Rattle.std.proofs.lemmas.Str.{IsUtf8-from_is_utf8}
use Rattle.std.proofs.lemmas.Bool.{false_from_ne_true}
use Rattle.record_json.specs.Puts.{Spells}
use Rattle.record_json.proofs.Spelt.{as_text, no_text}
use Rattle.record_json.proofs.texts.dag_cbor_of_bytes.Goals as goal

pub returns-in_default : goal.returns-in_default
returns-in_default g c =
    let other : is_utf8 c.args.bytes.now ≡ false = false_from_ne_true _ (λ e. c.in_default.ensures.cases.0 (IsUtf8-from_is_utf8 _ e)) in
    no_text c.args.bytes.now (string_bytes c.new.result) other c.new.ensures.bytes

pub returns : goal.returns
returns g c = subst (Spells c.dag_cbor_of.result) (as_text c.args.bytes.now c.in-Ok.text.now c.in-Ok.ensures.cases.0 c.in-Ok.ensures.cases.1) c.dag_cbor_of.ensures
