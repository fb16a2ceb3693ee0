use Rattle.std.proofs.Common.{refl}
use Rattle.rh_run.proofs.SumLaws.{sums_are_words}
use Rattle.rh_run.proofs.checking.check_image.Goals as goal

pub sums_row-requires : goal.sums_row-requires
sums_row-requires g c =
    sums_are_words c.args.image.now c.in-Ok.sums c.in-Ok.ensures.sums (c.in-Ok.ensures.ok.0 refl) c.has_small_end.ensures
