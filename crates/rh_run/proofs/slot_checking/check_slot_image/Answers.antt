use Rattle.std.proofs.Common.{refl}
use Rattle.rh_run.proofs.SlotSumLaws.{slot_sums_are_words}
use Rattle.rh_run.proofs.slot_checking.check_slot_image.Goals as goal

pub sums_row-requires : goal.sums_row-requires
sums_row-requires g c =
    slot_sums_are_words c.args.image.now c.in-Ok.sums c.in-Ok.ensures.sums (c.in-Ok.ensures.ok.0 refl)
