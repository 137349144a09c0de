use Rattle.std.proofs.Common.{◌∙◌, ◌≡◌, [], ap, ap₂, rules, true}
use Rattle.std.proofs.lemmas.Result.{IfOk-weaker}
use Rattle.clap.specs.Words.{App, app_of, with_subcommand}
use Rattle.console.specs.FileWords.{with_file}
use Rattle.tree_command.specs.Words.{tree_shape}
use Rattle.repository_commands.specs.Words.{with_commands}
use Rattle.change_commands.specs.Words.{with_commands as with_change_commands}
use Rattle.event_commands.specs.Words.{with_commands as with_event_commands}
use Rattle.export_commands.specs.Words.{with_commands as with_export_commands}
use Rattle.difference_commands.specs.Words.{changes_shape}
use Rattle.explain_command.specs.Words.{explain_shape}
use Rattle.run_command.specs.Words.{run_shape}
use Rattle.commands.specs.CommandLine.{msthost, program_shape}
use Rattle.commands.proofs.command_line.command.Goals as goal

pub returns : goal.returns
unfolding msthost
returns c =
    let alone : App = record { top = record program_shape { is_leaf = true }; subs = [] } in
    let start : app_of c.disable_help_subcommand-program.result ≡ alone = search rules in
    let one = c.in_ok-program.ensures ∙ ap (λ a. with_subcommand a (with_file tree_shape)) start in
    let two = c.in_ok-program-2.ensures
    ∙ ap with_commands one in
    let three = c.in_ok-program-3.ensures
    ∙ ap with_change_commands two in
    let four = c.in_ok-program-4.ensures ∙ ap with_event_commands three in
    let five = c.in_ok-program-5.ensures ∙ ap with_export_commands four in
    let six = c.in_ok-program-6.ensures ∙ ap (λ a. with_subcommand a changes_shape) five in
    let seven = c.in_ok-program-7.ensures ∙ ap (λ a. with_subcommand a (with_file run_shape)) six in
    let eight = c.in_ok-program-8.ensures ∙ ap (λ a. with_subcommand a explain_shape) seven in
    IfOk-weaker c.subcommand.result _ _
    (λ r adds. adds.shape c.help.ensures.local ∙ ap₂ with_subcommand eight c.help.ensures.shape) c.subcommand.ensures
