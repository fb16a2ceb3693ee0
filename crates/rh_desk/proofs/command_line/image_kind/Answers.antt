use Rattle.std.proofs.Common.{codes, false, refl, subst, true}
use Rattle.clap.specs.Words.{found_of}
use Rattle.clap.proofs.WalkLemmas.{one_text-rows}
use Rattle.rh_desk.specs.Requests.{AsksKind}
use Rattle.rh_desk.specs.declared.request.ImageKind.TheVariants.{Heap, Slot}
use Rattle.rh_desk.proofs.RequestLemmas.{heap-asked, slot-asked}
use Rattle.rh_desk.proofs.command_line.image_kind.Goals as goal

pub returns-then-get_flag : goal.returns-then-get_flag
returns-then-get_flag c =
    subst (λ t. AsksKind t Slot) (one_text-rows (found_of c.args.found.now) (codes "slot"))
    (slot-asked _ true c.if-get_flag.ensures.none c.if-get_flag.ensures.other refl)

pub returns-else-get_flag : goal.returns-else-get_flag
returns-else-get_flag c =
    subst (λ t. AsksKind t Heap) (one_text-rows (found_of c.args.found.now) (codes "slot"))
    (heap-asked _ false c.if-get_flag.ensures.value refl)
