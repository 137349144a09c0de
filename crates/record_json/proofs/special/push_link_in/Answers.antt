use Rattle.std.proofs.Common.{◌≡◌, ◌++◌, ap, ◌∙◌}
use Rattle.spec.specs.DagCbor.{Link, spelling}
use Rattle.json.specs.Value.{value_view}
use Rattle.record_json.specs.LinkText.{link_of_text}
use Rattle.record_json.specs.Reading.{or_bad_link, link_in}
use Rattle.record_json.proofs.Pushes.{view-String}
use Rattle.record_json.proofs.Records.{link_found}
use Rattle.record_json.proofs.special.push_link_in.Goals as goal

pub returns-in_ok-push_link-in-Some : goal.returns-in_ok-push_link-in-Some
returns-in_ok-push_link-in-Some g c =
    let text = c.in-String.text in
    let cid = c.in-Some.cid in
    let seen : link_in (value_view c.args.value.now) ≡ or_bad_link (link_of_text text.now) = ap link_in (ap value_view c.in-String.is ∙ view-String _ text) in (
      Link cid.items,
      seen ∙ ap or_bad_link (link_found c.in_ok-cid.field-0 cid c.as_bytes.result.now text.now c.in_ok-cid.ensures c.in-Some.is c.as_bytes.ensures.value),
      c.in_ok-push_link-in-Some.ensures ∙ ap (λ b. c.args.out.now.items ++ spelling (Link b)) c.deref.ensures.value,
    )
