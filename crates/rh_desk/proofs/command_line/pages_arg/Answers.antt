use Rattle.std.proofs.Common.{ap, ◌∙◌, ◌≡◌, codes, pos, Option, Some}
use Rattle.rh_defs.specs.declared.sizes.TheConstants.{MAX_PAGES, MIN_PAGES}
use Rattle.clap.specs.Words.{Rule, rule_of}
use Rattle.clap.specs.declared.builder.arg.Arg.{Arg}
use Rattle.clap.specs.declared.builder.value_parser.ValueParser.{ValueParser}
use Rattle.clap.specs.declared.builder.value_parser.ValueParser.TheVariants.{Signed}
use Rattle.rh_desk.specs.CommandLine.{pages_rule}
use Rattle.rh_desk.proofs.command_line.pages_arg.Goals as goal

pub returns-clause-rule : goal.returns-clause-rule
returns-clause-rule c =
    let given = c.value_parser-2.ensures.given in
    let made : c.range.result ≡ Signed (pos MIN_PAGES) (pos MAX_PAGES) = rw c.value_parser.ensures at c.range.ensures in
    let parser : c.value_parser-2.result.value_parser ≡ Some (Signed (pos MIN_PAGES) (pos MAX_PAGES)) = given.1 ∙ ap Some (given.2 ∙ made) in
    let with_parser : Option ValueParser → Rule = λ p. rule_of (record c.help.result { value_parser = p }) in
    let known : with_parser (Some (Signed (pos MIN_PAGES) (pos MAX_PAGES))) ≡ pages_rule =
    rw (c.help.ensures, c.value_name.ensures, c.long.ensures)
    (ap (λ (r : Rule). record r { long = Some (codes "pages"); value_names = 1; parser = Some (Signed (pos MIN_PAGES) (pos MAX_PAGES)) }) c.new.ensures.rule) in
    ap rule_of c.value_parser-2.ensures.others ∙ ap with_parser parser ∙ known

pub returns-clause-local : goal.returns-clause-local
returns-clause-local c =
    ap (λ (a : Arg). a.global) c.value_parser-2.ensures.others ∙ rw (c.help.ensures, c.value_name.ensures, c.long.ensures) c.new.ensures.optional.1
