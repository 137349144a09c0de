use Rattle.std.proofs.Common.{◌≡◌, subst, sym, []}
use Rattle.std.specs.Prelude.{IsSomeAnd}
use Rattle.clap.specs.Kinds.{HasKind}
use Rattle.clap.specs.Walk.{texts}
use Rattle.clap.specs.Words.{app_of, fault_of}
use Rattle.commands.specs.CommandLine.{IsCommandName, IsNamed, file_given, msthost, name_of}
use Rattle.commands.proofs.Asking.{by_faults, handed_on, found_rows, named}
use Rattle.commands.proofs.command_line.asked_of.Goals as goal

pub returns-in_err-matches-clause-refused : goal.returns-in_err-matches-clause-refused
returns-in_err-matches-clause-refused c =
    let kind = by_faults (app_of c.in_ok-command.field-0) c.in_ok-command.ensures (texts c.args.words.now)
    (λ kinds. HasKind kinds c.in_err-matches.field-0.0) c.in_err-matches.ensures.kinds in
    handed_on (HasKind (fault_of msthost (texts c.args.words.now))) c.in_err-matches.field-0.0 c.from_residual-in_err-matches.result c.from_residual-in_err-matches.ensures.1 kind

pub asked_in-requires : goal.asked_in-requires
asked_in-requires c =
    let words = texts c.args.words.now in
    let app = app_of c.in_ok-command.field-0 in
    let is = c.in_ok-command.ensures in
    let none = by_faults app is words (λ kinds. kinds ≡ []) c.in_ok-matches.ensures.kinds in
    let found = found_rows app is words c.in_ok-matches.matches c.in_ok-matches.ensures.matches in
    subst (λ o. IsSomeAnd o (λ s. IsCommandName s.0)) (sym found) (named words none)

pub returns-clause-asked : goal.returns-clause-asked
returns-clause-asked c =
    let words = texts c.args.words.now in
    let app = app_of c.in_ok-command.field-0 in
    let is = c.in_ok-command.ensures in
    record {
      faultless = by_faults app is words (λ kinds. kinds ≡ []) c.in_ok-matches.ensures.kinds;
      found = subst (λ o. IsSomeAnd o (λ s. IsNamed s.0 s.1 c.asked_in.result.request))
          (found_rows app is words c.in_ok-matches.matches c.in_ok-matches.ensures.matches) c.asked_in.ensures.request;
    }

pub returns-clause-file : goal.returns-clause-file
returns-clause-file c =
    let words = texts c.args.words.now in
    subst (λ o. name_of c.asked_in.result.file ≡ file_given o)
    (found_rows (app_of c.in_ok-command.field-0) c.in_ok-command.ensures words c.in_ok-matches.matches c.in_ok-matches.ensures.matches) c.asked_in.ensures.file
