use Rattle.std.proofs.Common.{◌≡◌, true, false, Err, sym, ap, ◌∙◌, arith}
use Rattle.std.proofs.lemmas.Result.{err_from_is_err_and}
use Rattle.spec.specs.DagCbor.{spelling}
use Rattle.json.specs.Value.{value_view}
use Rattle.record_json.specs.Kinds.{kind_of}
use Rattle.record_json.proofs.Pushes.{PutsAt-fails}
use Rattle.record_json.proofs.Records.{FailsAt-no_json, FailsAt-value, FailsAt-no_map, PutsAt-record}
use Rattle.record_json.proofs.reading.push_record.Goals as goal

pub returns-in_err-value : goal.returns-in_err-value
returns-in_err-value g c =
    let p = err_from_is_err_and c.from_residual.result c.from_residual.ensures.1 in
    let k = c.in_err-value.field-0.0 in
    PutsAt-fails spelling c.from_residual.result k _ _ _ _ _ (p.1 ∙ ap Err p.2) (FailsAt-no_json (kind_of k) _ c.args.text.now c.in_err-value.ensures)

pub returns-in_err-push_value : goal.returns-in_err-push_value
returns-in_err-push_value g c =
    let p = err_from_is_err_and c.from_residual-in_err-push_value.result c.from_residual-in_err-push_value.ensures.1 in
    let k = c.in_err-push_value.field-0.0 in
    PutsAt-fails spelling c.from_residual-in_err-push_value.result k _ _ _ _ _ (p.1 ∙ ap Err p.2)
    (FailsAt-value (kind_of k) _ _ c.args.text.now (value_view c.in_ok-value.value) c.in_ok-value.ensures c.in_err-push_value.ensures)

pub returns-then-not-is_map_tree : goal.returns-then-not-is_map_tree
returns-then-not-is_map_tree g c =
    let none : c.is_map_tree.result ≡ false = grind arith in
    FailsAt-no_map _ _ _ _ c.args.text.now (value_view c.in_ok-value.value) c.in_ok-value.ensures (sym c.is_map_tree.ensures ∙ none) c.in_ok-push_value.ensures

pub returns : goal.returns
returns g c =
    let is : c.is_map_tree.result ≡ true = grind arith in
    PutsAt-record _ _ _ _ c.args.text.now (value_view c.in_ok-value.value) c.in_ok-value.ensures (sym c.is_map_tree.ensures ∙ is) c.in_ok-push_value.ensures
