use Rattle.std.proofs.Common.{◌≡◌, ◌∙◌, ◌+◌, ◌-◌, ◌<◌, ℕ, [], Ok, Err, length, sym, ap, ap₂, subst, arith, rules}
use Rattle.std.proofs.lemmas.Result.{err_from_is_err_and}
use Rattle.std.specs.Prelude.{IfErr}
use Rattle.spec.specs.Reading.{Gives}
use Rattle.repository_commands.proofs.Making.{passed}
use Rattle.event_commands.specs.Faults.{message_fault_of}
use Rattle.event_commands.specs.Refusals.{IsOfNoLine}
use Rattle.event_commands.specs.Texts.{lines_of_stream, told_from}
use Rattle.event_commands.proofs.Streams.{fails_same, none_more, none_of, nothing_left, some_of, told_on, untold}
use Rattle.event_commands.proofs.checking.lines_of.Goals as goal

pub loop-turn-init : goal.loop-turn-init
loop-turn-init g c =
    let digest = g.D.Digest.digest_of in
    let stream = c.args.stream.now in
    let all : length stream ≡ length stream - 0 = omega arith in
    let one : 1 ≡ 0 + 1 = omega arith in
    let none : [] ≡ c.new-text.result.items = search rules in
    ap₂ (λ said most. told_from digest c.args.form said most 1 c.args.previous stream) none all
    ∙ ap (λ n. told_from digest c.args.form c.new-text.result.items (length stream - 0) n c.args.previous stream) one

pub returns-then-is_empty-clause-lines : goal.returns-then-is_empty-clause-lines
returns-then-is_empty-clause-lines g c =
    let l = c.loop-turn in
    l.invariant ∙ nothing_left g.D.Digest.digest_of c.args.form l.text.items _ _ l.root l.rest.now (none_of (length l.rest.now) c.is_empty.result c.is_empty.ensures c.if-is_empty.true)

pub returns-in_err-root-clause-lines : goal.returns-in_err-root-clause-lines
returns-in_err-root-clause-lines g c =
    let digest = g.D.Digest.digest_of in
    let p = err_from_is_err_and c.from_residual.result c.from_residual.ensures.1 in
    let l = c.loop-turn in
    let f = c.in_err-root.field-0.0 in
    let stream = c.args.stream.now in
    subst (λ r. Gives (λ bytes. bytes.items) message_fault_of r (lines_of_stream digest c.args.form c.args.previous stream)) (sym (p.1 ∙ ap Err p.2))
    (fails_same (message_fault_of f) _ _ l.invariant
    (untold digest c.args.form l.text.items (length stream) l.turn l.root l.rest.now c.first_frame.result.0.now c.first_frame.result.1.now (omega arith)
    (some_of (length l.rest.now) c.is_empty.result c.is_empty.ensures c.if-is_empty.false) c.first_frame.ensures (message_fault_of f) c.in_err-root.ensures.lines))

pub loop-turn-preserved : goal.loop-turn-preserved
loop-turn-preserved g c =
    let l = c.loop-turn in
    l.invariant
    ∙ told_on g.D.Digest.digest_of c.args.form l.text.items (length c.args.stream.now) l.turn l.root l.rest.now c.first_frame.result.0.now c.first_frame.result.1.now
    (omega arith) (some_of (length l.rest.now) c.is_empty.result c.is_empty.ensures c.if-is_empty.false) c.first_frame.ensures c.push_lines.new.text.items c.in_ok-root.root c.in_ok-root.ensures.lines

pub returns-clause-lines : goal.returns-clause-lines
returns-clause-lines g c =
    let l = c.loop-turn in
    let end : length c.args.stream.now - l.turn ≡ 0 = omega arith in
    l.invariant ∙ ap (λ most. told_from g.D.Digest.digest_of c.args.form l.text.items most (l.turn + 1) l.root l.rest.now) end
    ∙ none_more g.D.Digest.digest_of c.args.form l.text.items (l.turn + 1) l.root l.rest.now

pub returns-in_err-root-clause-lineless : goal.returns-in_err-root-clause-lineless
returns-in_err-root-clause-lineless g c =
    passed (λ r. IfErr r (λ e. IsOfNoLine e)) c.from_residual.result c.in_err-root.field-0.0 c.from_residual.ensures.1 c.in_err-root.ensures.lineless
