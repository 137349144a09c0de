use Rattle.std.proofs.Common.{◌∙◌, ℕ, ◌+◌, ◌≤◌, List, [], Option, ap, arith, length, refl, subst, sym}
use Rattle.std.specs.List.{cons_option}
use Rattle.std.proofs.lemmas.Result.{err_from_is_err_and}
use Rattle.std.specs.declared.vec.Vec.{Vec}
use Rattle.lookups.specs.Steps.{nodes_given}
use Rattle.difference_laws.specs.Lines.{link_without}
use Rattle.difference.specs.Sides.{AreOpened, AreStopped, IsBegun, IsLackAt, IsSpread, IsTop, links_among, rows_of, rows_without, shapes_in, top_after}
use Rattle.difference.proofs.Needing.{among-line}
use Rattle.difference.proofs.Opens.{begun-still, begun-top, line-opened, line-stops, own-links, rows-stop}
use Rattle.difference.proofs.side.Side.open.Goals as goal

pub returns-in_err-open_rows-clause-stopped : goal.returns-in_err-open_rows-clause-stopped
returns-in_err-open_rows-clause-stopped g c =
    let p = err_from_is_err_and c.from_residual-in_err-open_rows.result c.from_residual-in_err-open_rows.ensures.1 in
    let old = c.args.self.now in
    let gives = g.S.Source.gives c.args.src.now in
    let keys = c.args.shared.now.keys in
    let fault = c.in_err-open_rows.field-0.0 in
    rw (p.1, p.2)
    (rows-stop gives (nodes_given gives) keys (rows_of old.line.rows.items) old.line.last (shapes_in old.read.items) fault
    (subst (λ (v : Vec _ _). AreStopped gives (nodes_given gives) (rows_without keys (rows_of v.items)) (shapes_in old.read.items) fault)
    c.replace-rows.ensures.value c.in_err-open_rows.ensures.stopped))

pub spread-requires : goal.spread-requires
spread-requires g c κs =
    let old = c.args.self.now in
    let keys = c.args.shared.now.keys in
    let gives = g.S.Source.gives c.args.src.now in
    let link = c.unless.ensures keys (own-links c.args.shared.now) ∙ ap (link_without keys) c.in_ok-open_rows.ensures.after in
    let known = begun-top gives (rows_of old.line.rows.items) old.line.last old.top old.read.items keys c.unless.result
    c.requires.begun link in (
      (refl, tt),
      subst (λ (v : List ℕ → _). IsTop v c.unless.result c.open_rows.new.self.top) (sym c.in_ok-open_rows.ensures.same)
          (subst (λ (t : Option _). IsTop gives c.unless.result t) (sym c.in_ok-open_rows.ensures.top) known),
    )

pub returns-in_err-self-clause-stopped : goal.returns-in_err-self-clause-stopped
returns-in_err-self-clause-stopped g c =
    let p = err_from_is_err_and c.from_residual-in_err-self.result c.from_residual-in_err-self.ensures.1 in
    let old = c.args.self.now in
    let mid = c.open_rows.new.self in
    let gives = g.S.Source.gives c.args.src.now in
    let keys = c.args.shared.now.keys in
    let fault = c.in_err-self.field-0.0 in
    let link = c.unless.ensures keys (own-links c.args.shared.now) ∙ ap (link_without keys) c.in_ok-open_rows.ensures.after in
    let so_far = subst (λ (v : Vec _ _). AreOpened (nodes_given gives) (rows_without keys (rows_of v.items))
    (rows_of mid.line.rows.items) (shapes_in old.read.items) (shapes_in mid.read.items)) c.replace-rows.ensures.value
    c.in_ok-open_rows.ensures.opened in
    let lack = subst (λ (v : List ℕ → _). IsLackAt v (nodes_given v) c.unless.result fault) c.in_ok-open_rows.ensures.same
    c.in_err-self.ensures.lack in
    rw (p.1, p.2)
    (line-stops gives (nodes_given gives) keys (rows_of old.line.rows.items) (rows_of mid.line.rows.items) old.line.last
    c.unless.result (shapes_in old.read.items) (shapes_in mid.read.items) link so_far fault lack)

pub returns-clause-opened : goal.returns-clause-opened
returns-clause-opened g c =
    let old = c.args.self.now in
    let mid = c.open_rows.new.self in
    let then = c.spread.new.self in
    let gives = g.S.Source.gives c.args.src.now in
    let keys = c.args.shared.now.keys in
    let link = c.unless.ensures keys (own-links c.args.shared.now) ∙ ap (link_without keys) c.in_ok-open_rows.ensures.after in
    let so_far = subst (λ (v : Vec _ _). AreOpened (nodes_given gives) (rows_without keys (rows_of v.items))
    (rows_of mid.line.rows.items) (shapes_in old.read.items) (shapes_in mid.read.items)) c.replace-rows.ensures.value
    c.in_ok-open_rows.ensures.opened in
    let spread = subst (λ (v : List ℕ → _). IsSpread (nodes_given v) c.unless.result (rows_of mid.line.rows.items)
    (rows_of then.line.rows.items) (shapes_in mid.read.items) (shapes_in then.read.items) c.in_ok-self.field-0)
    c.in_ok-open_rows.ensures.same c.in_ok-self.ensures.spread in
    line-opened gives (nodes_given gives) keys (rows_of old.line.rows.items) (rows_of mid.line.rows.items) old.line.last
    c.unless.result (shapes_in old.read.items) (shapes_in mid.read.items) link so_far (rows_of then.line.rows.items)
    (shapes_in then.read.items) c.in_ok-self.field-0 spread

pub returns-clause-begun : goal.returns-clause-begun
returns-clause-begun g c =
    let old = c.args.self.now in
    let mid = c.open_rows.new.self in
    let then = c.spread.new.self in
    let gives = g.S.Source.gives c.args.src.now in
    let keys = c.args.shared.now.keys in
    let link = c.unless.result in
    let so_far = subst (λ (v : Vec _ _). AreOpened (nodes_given gives) (rows_without keys (rows_of v.items))
    (rows_of mid.line.rows.items) (shapes_in old.read.items) (shapes_in mid.read.items)) c.replace-rows.ensures.value
    c.in_ok-open_rows.ensures.opened in
    let spread = subst (λ (v : List ℕ → _). IsSpread (nodes_given v) c.unless.result (rows_of mid.line.rows.items)
    (rows_of then.line.rows.items) (shapes_in mid.read.items) (shapes_in then.read.items) c.in_ok-self.field-0)
    c.in_ok-open_rows.ensures.same c.in_ok-self.ensures.spread in
    subst (λ (t : Option _). IsBegun gives (rows_of then.line.rows.items) c.in_ok-self.field-0 t then.read.items)
    (sym (c.in_ok-self.ensures.top ∙ ap (top_after link) c.in_ok-open_rows.ensures.top))
    (begun-still gives (nodes_given gives) keys old.top (rows_of old.line.rows.items) (rows_of mid.line.rows.items)
    (rows_of then.line.rows.items) old.line.last link c.in_ok-self.field-0 old.read.items mid.read.items then.read.items
    c.requires.begun so_far c.in_ok-open_rows.ensures.grown spread)

pub returns-in_err-open_rows-clause-most : goal.returns-in_err-open_rows-clause-most
returns-in_err-open_rows-clause-most g c =
    let old = c.args.self.now in
    let keys = c.args.shared.now.keys in
    let k = subst (λ (v : Vec _ _). g.S.Source.reads c.open_rows.new.src ≤ g.S.Source.reads c.args.src.now
    + links_among keys (rows_of v.items)) c.replace-rows.ensures.value c.in_err-open_rows.ensures.most in
    let all = among-line keys (rows_of old.line.rows.items) old.line.last in
    omega arith

pub returns-in_err-self-clause-most : goal.returns-in_err-self-clause-most
returns-in_err-self-clause-most g c =
    let old = c.args.self.now in
    let keys = c.args.shared.now.keys in
    let k = subst (λ (v : Vec _ _). g.S.Source.reads c.open_rows.new.src ≤ g.S.Source.reads c.args.src.now
    + links_among keys (rows_of v.items)) c.replace-rows.ensures.value c.in_ok-open_rows.ensures.most in
    let link = c.unless.ensures keys (own-links c.args.shared.now) ∙ ap (link_without keys) c.in_ok-open_rows.ensures.after in
    let l = c.in_err-self.ensures.most in
    let m = ap (λ z. length (cons_option z [])) link in
    let all = among-line keys (rows_of old.line.rows.items) old.line.last in
    omega arith

pub returns-clause-most : goal.returns-clause-most
returns-clause-most g c =
    let old = c.args.self.now in
    let keys = c.args.shared.now.keys in
    let k = subst (λ (v : Vec _ _). g.S.Source.reads c.open_rows.new.src ≤ g.S.Source.reads c.args.src.now
    + links_among keys (rows_of v.items)) c.replace-rows.ensures.value c.in_ok-open_rows.ensures.most in
    let link = c.unless.ensures keys (own-links c.args.shared.now) ∙ ap (link_without keys) c.in_ok-open_rows.ensures.after in
    let l = c.in_ok-self.ensures.most in
    let m = ap (λ z. length (cons_option z [])) link in
    let all = among-line keys (rows_of old.line.rows.items) old.line.last in
    omega arith
