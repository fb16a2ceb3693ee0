use Rattle.std.proofs.Common.{codes, false, refl, subst, true, None, Some}
use Rattle.clap.specs.Words.{found_of}
use Rattle.clap.proofs.WalkLemmas.{one_text-rows}
use Rattle.rh_desk.specs.Requests.{AsksLens}
use Rattle.rh_desk.proofs.RequestLemmas.{lens-asked, no-lens-asked}
use Rattle.rh_desk.proofs.command_line.lens_asked.Goals as goal

pub returns-then-get_flag-clause-asked : goal.returns-then-get_flag-clause-asked
returns-then-get_flag-clause-asked c =
    subst (λ t. AsksLens t (Some (record { width = 960; scale = 16 }))) (one_text-rows (found_of c.args.found.now) (codes "lens"))
    (lens-asked _ true c.if-get_flag.ensures.none c.if-get_flag.ensures.other refl)

pub returns-else-get_flag-clause-asked : goal.returns-else-get_flag-clause-asked
returns-else-get_flag-clause-asked c =
    subst (λ t. AsksLens t None) (one_text-rows (found_of c.args.found.now) (codes "lens"))
    (no-lens-asked _ false c.if-get_flag.ensures.value refl)
