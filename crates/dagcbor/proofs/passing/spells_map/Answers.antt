use Rattle.std.proofs.Common.{◌≡◌, ◌==◌, ℕ, List, length, Bool, true, false, refl, Ok, Err, sym, ap, subst, ◌∙◌}
use Rattle.std.proofs.lemmas.Result.{err_from_is_err_and}
use Rattle.spec.specs.Reading.{Fails}
use Rattle.spec.specs.Head.{Major}
use Rattle.spec.specs.DagCbor.{content_of}
use Rattle.dagcbor.specs.Levels.{within}
use Rattle.dagcbor.specs.Passed.{after, is_map_head}
use Rattle.dagcbor.specs.Fault.{cbor_fault_of}
use Rattle.dagcbor.proofs.Readings.{Gives-at_err}
use Rattle.dagcbor.proofs.Passed.{no-head, no-content, spells}
use Rattle.dagcbor.proofs.passing.spells_map.Goals as goal

pub returns-in_err-major-clause-read : goal.returns-in_err-major-clause-read
returns-in_err-major-clause-read c =
    let p = err_from_is_err_and c.from_residual.result c.from_residual.ensures.1 in
    Gives-at_err _ cbor_fault_of c.in_err-major.field-0.0 c.from_residual.result _ (p.1 ∙ ap Err p.2)
    (no-head (cbor_fault_of c.in_err-major.field-0.0) c.args.bytes.now c.in_err-major.ensures.read)

pub returns-in_err-rest-clause-read : goal.returns-in_err-rest-clause-read
returns-in_err-rest-clause-read c =
    let p = err_from_is_err_and c.from_residual-in_err-rest.result c.from_residual-in_err-rest.ensures.1 in
    let o = cbor_fault_of c.in_err-rest.field-0.0 in
    let h : (ℕ × ℕ) × List ℕ = ((c.in_ok-major.major, c.in_ok-major.n), c.in_ok-major.rest.now) in
    let fails = subst (λ (m : Major). Fails o (after (content_of (within 64) m c.in_ok-major.n c.in_ok-major.rest.now))) c.major_of-major.ensures c.in_err-rest.ensures.read in
    Gives-at_err _ cbor_fault_of c.in_err-rest.field-0.0 c.from_residual-in_err-rest.result _ (p.1 ∙ ap Err p.2)
    (no-content o c.args.bytes.now h c.in_ok-major.ensures.read fails)

pub returns-then-not-is_empty-clause-read : goal.returns-then-not-is_empty-clause-read
returns-then-not-is_empty-clause-read c =
    let h : (ℕ × ℕ) × List ℕ = ((c.in_ok-major.major, c.in_ok-major.n), c.in_ok-major.rest.now) in
    let rest = c.in_ok-rest.rest.now in
    let found = subst (λ (m : Major). after (content_of (within 64) m c.in_ok-major.n c.in_ok-major.rest.now) ≡ Ok rest) c.major_of-major.ensures c.in_ok-rest.ensures.read in
    let some : (length rest == 0) ≡ false = sym c.if-not-is_empty.ensures in
    rw (spells c.args.bytes.now h rest c.in_ok-major.ensures.read found, some) refl

pub returns-clause-read : goal.returns-clause-read
returns-clause-read c =
    let h : (ℕ × ℕ) × List ℕ = ((c.in_ok-major.major, c.in_ok-major.n), c.in_ok-major.rest.now) in
    let rest = c.in_ok-rest.rest.now in
    let found = subst (λ (m : Major). after (content_of (within 64) m c.in_ok-major.n c.in_ok-major.rest.now) ≡ Ok rest) c.major_of-major.ensures c.in_ok-rest.ensures.read in
    let none : (length rest == 0) ≡ true = sym c.if-not-is_empty.ensures in
    rw (spells c.args.bytes.now h rest c.in_ok-major.ensures.read found, none) (ap (λ (b : Bool). Ok b) (ap is_map_head (sym c.major_of-major.ensures) ∙ sym c.is_map.ensures))
