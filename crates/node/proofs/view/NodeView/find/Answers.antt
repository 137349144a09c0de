use Rattle.std.proofs.Common.{[], option_map, sym, ap, ◌∙◌}
use Rattle.cid.specs.CidRef.{bytes_of}
use Rattle.node.specs.Views.{row_of, row_with}
use Rattle.node.proofs.Finding.{place_sought, place-sought}
use Rattle.node.proofs.view.NodeView.find.Goals as goal

pub returns-in-Some-clause-place : goal.returns-in-Some-clause-place
returns-in-Some-clause-place c =
    let key = c.args.key.now in
    let node = c.args.self.now in
    let gap = option_map bytes_of c.seek-sought.result.gap in
    let row = sym (ap (option_map row_of) c.in-Some.is) ∙ c.seek-sought.ensures.row in
    ap (place_sought key gap) row
    ∙ ap (λ g. place_sought key g (row_with key [] node.entries)) c.seek-sought.ensures.gap
    ∙ place-sought [] key node.left node.entries

pub returns-in-Some-clause-row : goal.returns-in-Some-clause-row
returns-in-Some-clause-row c = sym c.seek-sought.ensures.row ∙ ap (option_map row_of) c.in-Some.is

pub returns-in-None-clause-place : goal.returns-in-None-clause-place
returns-in-None-clause-place c =
    let key = c.args.key.now in
    let node = c.args.self.now in
    let gap = option_map bytes_of c.seek-sought.result.gap in
    let row = sym (ap (option_map row_of) c.in-None.is) ∙ c.seek-sought.ensures.row in
    c.place_in_gap.ensures.place key
    ∙ ap (place_sought key gap) row
    ∙ ap (λ g. place_sought key g (row_with key [] node.entries)) c.seek-sought.ensures.gap
    ∙ place-sought [] key node.left node.entries

pub returns-in-None-clause-row : goal.returns-in-None-clause-row
returns-in-None-clause-row c = c.place_in_gap.ensures.row c.args.key.now c.args.self.now.entries
