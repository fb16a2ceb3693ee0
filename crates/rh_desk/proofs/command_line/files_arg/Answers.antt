use Rattle.std.proofs.Common.{rules, ap, ◌∙◌, ◌≡◌, Option, Some}
use Rattle.clap.specs.Lexer.{usize_max}
use Rattle.clap.specs.Words.{Rule, rule_of}
use Rattle.clap.specs.declared.builder.action.ArgAction.TheVariants.{Append}
use Rattle.clap.specs.declared.builder.range.ValueRange.{ValueRange}
use Rattle.rh_desk.specs.CommandLine.{files_rule}
use Rattle.rh_desk.proofs.CommandLemmas.{some-is}
use Rattle.rh_desk.proofs.command_line.files_arg.Goals as goal

pub returns-clause-rule : goal.returns-clause-rule
returns-clause-rule c =
    let any : Option ValueRange = Some (record { start_inclusive = 0; end_inclusive = usize_max }) in
    let range : c.num_args.result.num_vals ≡ any = some-is _ _ c.num_args.ensures.1 in
    let with_range : Option ValueRange → Rule = λ r. rule_of (record c.help.result { num_vals = r; action = Some Append }) in
    let ranged : with_range any ≡ files_rule = search rules in
    ap rule_of c.action.ensures ∙ ap (λ a. rule_of (record a { action = Some Append })) c.num_args.ensures.0 ∙ ap with_range range ∙ ranged
