use Rattle.std.proofs.Common.{ℕ, ◌+◌, ◌-◌, List, IsOk, length, refl, sym, ap, subst, ◌∙◌, arith}
use Rattle.std.proofs.lemmas.List.{take_rest}
use Rattle.spec.specs.NodeFormat.{link_at, read_node}
use Rattle.spec.proofs.Taking.{ok_is}
use Rattle.cid.specs.CidRef.{bytes_of}
use Rattle.node.proofs.ReadAgain.{read-ok}
use Rattle.node.proofs.TestedNodes.{short-left, other-left, here-left}
use Rattle.node.proofs.tested.tested_left.Goals as goal

pub returns-then-bytes-lt-LEFT_LINK : goal.returns-then-bytes-lt-LEFT_LINK
returns-then-bytes-lt-LEFT_LINK c =
    short-left c.args.bytes.now (λ i. omega (arith, c.type_inv.bytes i)) c.if-bytes-lt-LEFT_LINK.true (read_node c.args.bytes.now) refl

pub returns-then-bytes-start-ne97 : goal.returns-then-bytes-start-ne97
returns-then-bytes-start-ne97 c =
    other-left c.args.bytes.now (λ i. omega (arith, c.type_inv.bytes i)) c.if-bytes-start-ne97.true (read_node c.args.bytes.now) refl

pub tested_link-requires : goal.tested_link-requires
tested_link-requires c =
    let bytes = c.args.bytes.now in
    let found = here-left bytes (λ i. omega (arith, c.type_inv.bytes i)) c.if-bytes-lt-LEFT_LINK.false c.if-bytes-start-ne97.false c.requires in
    subst (λ (x : List ℕ). IsOk (link_at x)) (sym (take_rest bytes (length bytes - 43 + 2))) (read-ok _ _ found.link)

pub returns : goal.returns
returns c =
    let bytes = c.args.bytes.now in
    let found = here-left bytes (λ i. omega (arith, c.type_inv.bytes i)) c.if-bytes-lt-LEFT_LINK.false c.if-bytes-start-ne97.false c.requires in
    let same = sym c.tested_link.ensures ∙ ap link_at (take_rest bytes (length bytes - 43 + 2)) ∙ found.link in
    found.left (bytes_of c.tested_link.result.0) (ap (λ (x : List ℕ × List ℕ). x.0) (ok_is _ _ _ same))
