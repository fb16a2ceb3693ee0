use Rattle.std.proofs.Common.{codes, subst}
use Rattle.clap.specs.Words.{found_of}
use Rattle.clap.proofs.WalkLemmas.{one_text-rows}
use Rattle.rh_desk.specs.Requests.{AsksMarked}
use Rattle.rh_desk.proofs.RequestLemmas.{marks-asked}
use Rattle.rh_desk.proofs.command_line.is_marked.Goals as goal

pub returns : goal.returns
returns c =
    let given = c.get_flag.ensures in
    subst (λ t. AsksMarked t c.get_flag.result) (one_text-rows (found_of c.args.found.now) (codes "marked"))
    (marks-asked _ c.get_flag.result given.none given.value given.other)
