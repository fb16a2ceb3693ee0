use Rattle.std.proofs.Common.{map, string_bytes, subst}
use Rattle.clap.specs.Words.{subcommand_rows_of}
use Rattle.rh_desk.specs.Requests.{AsksFor}
use Rattle.rh_desk.specs.declared.request.Request.TheVariants.{Check}
use Rattle.rh_desk.proofs.DoneLemmas.{words-ask}
use Rattle.rh_desk.proofs.words.run_words.Goals as goal

pub returns-in-Some-Check-clause-ends : goal.returns-in-Some-Check-clause-ends
returns-in-Some-Check-clause-ends g c =
    words-ask g.R.File.Read.remaining (map string_bytes c.args.words.now) (subcommand_rows_of c.in-Ok.matches)
    (Check c.in-Some-Check.kind c.in-Some-Check.file) _ _ c.in-Ok.ensures.found c.in-Ok.ensures.fails
    (subst (AsksFor (subcommand_rows_of c.in-Ok.matches)) c.in-Some-Check.field-0-is c.in-Some-Check.ensures.asked)
    (c.check_file.ensures.of_input, c.check_file.ensures.of_file)
