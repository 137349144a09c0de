use Rattle.std.proofs.Common.{◌≡◌, Ok, sym, ap, subst, ◌∙◌}
use Rattle.spec.specs.Reading.{Gives}
use Rattle.console.specs.Lines.{numbered_lines}
use Rattle.repository_commands.specs.Faults.{text_fault_of}
use Rattle.repository_commands.specs.Texts.{blocks_of_lines, verify_text}
use Rattle.repository_commands.specs.Views.{blocks_of}
use Rattle.console.proofs.Known.{for_known}
use Rattle.repository_commands.proofs.Making.{made_by_fault, made_by_input, made_of, verify_unrooted, verify_unkeyed, verify_unlined, verify_lined}
use Rattle.repository_commands.proofs.verifying.answer_made.Goals as goal

pub returns-in_err-root-clause-made : goal.returns-in_err-root-clause-made
returns-in_err-root-clause-made g c =
    let digest = g.D.Digest.digest_of in
    let root = c.args.root.now in
    let key = c.args.key.now in
    let f = c.in_err-root.field-0.0 in
    made_by_fault (λ v. v.items) (verify_text digest root key) (g.R.Read.remaining c.args.input.now) c.from_residual.result f c.from_residual.ensures.1
    (verify_unrooted digest root key (text_fault_of f) c.in_err-root.ensures.root)

pub returns-in_err-check_key-clause-made : goal.returns-in_err-check_key-clause-made
returns-in_err-check_key-clause-made g c =
    let digest = g.D.Digest.digest_of in
    let root = c.args.root.now in
    let key = c.args.key.now in
    let f = c.in_err-check_key.field-0.0 in
    made_by_fault (λ v. v.items) (verify_text digest root key) (g.R.Read.remaining c.args.input.now) c.from_residual-in_err-check_key.result f c.from_residual-in_err-check_key.ensures.1
    (verify_unkeyed digest root key c.in_ok-root.root c.in_ok-root.ensures.root (text_fault_of f) c.in_err-check_key.ensures.check)

pub returns-in_err-blocks-clause-made : goal.returns-in_err-blocks-clause-made
returns-in_err-blocks-clause-made g c =
    let digest = g.D.Digest.digest_of in
    let root = c.args.root.now in
    let key = c.args.key.now in
    let read = g.R.Read.remaining c.args.input.now in
    let f = c.in_err-blocks.field-0.0 in
    made_by_input (λ v. v.items) (verify_text digest root key) read c.from_residual-in_err-blocks.result f c.from_residual-in_err-blocks.ensures.1
    (for_known _ _ read (λ xs e. verify_unlined digest root key c.in_ok-root.root c.in_ok-root.ensures.root c.in_ok-check_key.ensures.check (text_fault_of f) xs e) c.in_err-blocks.ensures.blocks)

pub returns-clause-made : goal.returns-clause-made
returns-clause-made g c =
    let digest = g.D.Digest.digest_of in
    let root = c.args.root.now in
    let key = c.args.key.now in
    let lent = blocks_of c.deref.result.now in
    let given = blocks_of c.in_ok-blocks.blocks.items in
    made_of (λ v. v.items) (verify_text digest root key) (g.R.Read.remaining c.args.input.now) c.answer_of_blocks.result (λ xs. blocks_of_lines (numbered_lines xs) ≡ Ok given) c.in_ok-blocks.ensures.blocks
    (λ xs e. subst (Gives (λ v. v.items) text_fault_of c.answer_of_blocks.result)
    (sym (verify_lined digest root key c.in_ok-root.root c.in_ok-root.ensures.root c.in_ok-check_key.ensures.check xs lent (e ∙ ap (λ vs. Ok (blocks_of vs)) (sym c.deref.ensures.value))))
    c.answer_of_blocks.ensures.line)
