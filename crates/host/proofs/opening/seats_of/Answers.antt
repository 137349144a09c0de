use Rattle.std.proofs.Common.{◌≡◌, ◌∙◌, ◌∷◌, ◌++◌, [], sym, rules}
use Rattle.std.proofs.lemmas.List.{map-append}
use Rattle.std.proofs.lemmas.List.Elements.{All-rest}
use Rattle.notices.specs.Views.{PassView}
use Rattle.host.specs.Views.{fresh_seat}
use Rattle.host.proofs.opening.seats_of.Goals as goal

pub loop-pass-preserved : goal.loop-pass-preserved
loop-pass-preserved g c =
    let i = c.loop-pass.invariant in
    let x : PassView = c.in-Some.pass in
    let f = fresh_seat c.args.repos in
    let unseen = c.in_ok-seen.ensures.items_if_clones_equal (λ y h. h) in
    let same : record { pass = x; seen = c.in_ok-seen.seen.items } ≡ f x = λ j. record { pass = x; seen = unseen j } in record {
      seats = c.push_reserved.ensures.items ∙ (λ j. i.seats j ++ same j ∷ []) ∙ sym (map-append f c.loop-pass.yielded (x ∷ []));
      room = search rules;
      left = All-rest (λ (p : PassView). p.sent ≡ []) c.in-Some.pass c.next.new.self.rest.items c.loop-pass.pass-iterator.rest.items c.in-Some.ensures.steps.0 i.left;
    }
