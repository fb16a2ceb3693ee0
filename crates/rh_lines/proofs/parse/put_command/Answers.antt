use Rattle.std.proofs.Common.{refl}
use Rattle.rh_defs.specs.Grammar.{rows}
use Rattle.rh_lines.proofs.LineLemmas.{by_none, none-both}
use Rattle.rh_lines.proofs.parse.put_command.Goals as goal

pub returns-clause-means : goal.returns-clause-means
unfolding rows
returns-clause-means c =
    by_none c.args.words.now
    (none-both c.in_default.ensures.other (none-both c.in_default-read_command.ensures.other
    (none-both c.in_default-read_command-2.ensures.other
    (none-both c.in_default-read_command-3.ensures.other c.in_default-read_command-4.ensures.other)))) refl
