use Rattle.std.proofs.Common.{◌≡◌, sym, ◌∙◌, arith}
use Rattle.std.specs.Str.{bytes_eq}
use Rattle.std.proofs.lemmas.Bool.{cond-true, cond-false}
use Rattle.json.specs.Value.{value_view, members_view}
use Rattle.record_json.specs.Form.{link_key}
use Rattle.record_json.specs.Reading.{link_in, bytes_in, special_of}
use Rattle.record_json.proofs.Pushes.{Puts-same}
use Rattle.record_json.proofs.Records.{special_of-many, special_of-one}
use Rattle.record_json.proofs.special.push_special.Goals as goal

pub returns-then-len-ne1 : goal.returns-then-len-ne1
returns-then-len-ne1 g c = special_of-many c.args.members.now.items (λ one. let few = c.args.members.now.ok.0 in omega arith)

pub returns-then-eq : goal.returns-then-eq
returns-then-eq g c =
    let ms = c.args.members.now.items in
    let m = c.index-member.result.now in
    let few = c.args.members.now.ok.0 in
    let is : special_of (members_view ms) ≡ link_in (value_view m.1) =
    special_of-one ms m (omega arith) c.index-member.ensures ∙ cond-true (bytes_eq m.0.now link_key) (link_in (value_view m.1)) (bytes_in (value_view m.1)) (sym c.eq.ensures ∙ c.if-eq.true) in
    Puts-same c.push_link_in.result _ _ _ _ is c.push_link_in.ensures

pub returns-else-eq : goal.returns-else-eq
returns-else-eq g c =
    let ms = c.args.members.now.items in
    let m = c.index-member.result.now in
    let few = c.args.members.now.ok.0 in
    let is : special_of (members_view ms) ≡ bytes_in (value_view m.1) =
    special_of-one ms m (omega arith) c.index-member.ensures ∙ cond-false (bytes_eq m.0.now link_key) (link_in (value_view m.1)) (bytes_in (value_view m.1)) (sym c.eq.ensures ∙ c.if-eq.false) in
    Puts-same c.push_bytes_in.result _ _ _ _ is c.push_bytes_in.ensures
