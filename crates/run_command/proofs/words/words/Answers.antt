use Rattle.std.proofs.Common.{◌∙◌, ◌≡◌, ℕ, List, [], ap, ap₂, codes}
use Rattle.std.specs.Int.{int_max, int_min}
use Rattle.std.specs.Prelude.{ℤ, IfOk, pos}
use Rattle.std.proofs.lemmas.Result.{IfOk-weaker}
use Rattle.clap.specs.Words.{App, new_app, rule_of, signed_between}
use Rattle.clap.specs.declared.builder.arg.Arg.{Arg}
use Rattle.clap.specs.declared.builder.value_parser.ValueParser.{ValueParser}
use Rattle.record_forms.proofs.Arguments.{ReadsAs, local, shaped, with_arg}
use Rattle.run_command.specs.Words.{number_rule, run_shape, up_to}
use Rattle.run_command.proofs.words.words.Goals as goal

-- the ends of a range of `u32`
in_range : {a b least most : ℤ} → a ≡ least → b ≡ most → signed_between (int_max (pos 0) a) (int_min (pos 4294967295) b)
    ≡ signed_between (int_max (pos 0) least) (int_min (pos 4294967295) most)
in_range = ap₂ (λ a b. signed_between (int_max (pos 0) a) (int_min (pos 4294967295) b))

number_read : {p q : ValueParser} (arg : Arg) (id other : List ℕ) → rule_of arg ≡ number_rule id p other → p ≡ q
    → rule_of arg ≡ number_rule id q other
number_read arg id other made is = made ∙ ap (λ p. number_rule id p other) is

pub returns : goal.returns
returns c =
    let app : App = record { top = run_shape; subs = [] } in
    let none : ReadsAs c.described.result (new_app (codes "run")) = (c.described.ensures.app, c.described.ensures.local) in
    let repos : c.range-repos.result ≡ up_to 1024 =
    rw c.value_parser.ensures at c.range-repos.ensures ∙ in_range c.new.ensures.start c.new.ensures.end in
    let workers : c.range-workers.result ≡ up_to 64 =
    rw c.value_parser-2.ensures at c.range-workers.ensures ∙ in_range c.new-2.ensures.start c.new-2.ensures.end in
    let queue : c.range-queue.result ≡ up_to 65536 =
    rw c.value_parser-3.ensures at c.range-queue.ensures ∙ in_range c.new-3.ensures.start c.new-3.ensures.end in
    let one = with_arg _ _ c.number.result _ _ c.in_ok-arg.ensures none
    (number_read c.number.result _ _ c.number.ensures.rule repos) c.number.ensures.local in
    let two = with_arg _ _ c.number-2.result _ _ c.in_ok-arg-2.ensures one
    (number_read c.number-2.result _ _ c.number-2.ensures.rule workers) c.number-2.ensures.local in
    let three = with_arg _ _ c.number-3.result _ _ c.in_ok-arg-3.ensures two
    (number_read c.number-3.result _ _ c.number-3.ensures.rule queue) c.number-3.ensures.local in
    let four = with_arg _ _ c.did.result _ _ c.in_ok-arg-4.ensures three c.did.ensures.rule c.did.ensures.local in
    let five : IfOk c.arg-5.result (λ r. ReadsAs r app) = IfOk-weaker c.arg-5.result _ _
    (λ r adds. with_arg _ r c.json_option.result _ _ adds four c.json_option.ensures.rule c.json_option.ensures.local)
    c.arg-5.ensures in
    record { shape = shaped c.arg-5.result app five; local = local c.arg-5.result app five }
