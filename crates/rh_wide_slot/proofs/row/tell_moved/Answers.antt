use Rattle.std.proofs.Common.{refl, ◌∙◌, arith}
use Rattle.rh_wide_slot.proofs.EntryLaws.{telling_start, telling_fits, telling_moved, telling_passed}
use Rattle.rh_wide_slot.proofs.row.tell_moved.Goals as goal
use Rattle.rh_wide_slot.proofs.row.tell_moved.Goals.{then-place-from, else-place-from}

pub walk-init : goal.walk-init
walk-init c = telling_start _ _ _ _

pub overflow_cast-to : goal.overflow_cast-to
overflow_cast-to c =
    let fits = telling_fits _ _ _ _ _ _ _ c.requires.slot c.walk.invariant c.walk-test.true c.requires.within _ c.word_in-place.ensures in
    omega arith

pub walk-preserved : goal.walk-preserved
walk-preserved c = elim c.if-place-from.branch [
  | then-place-from w ↦ telling_moved _ _ _ _ _ _ _ c.requires.slot c.walk.invariant c.walk-test.true c.requires.within _ _ _ _ _
      c.word_in-place.ensures w.if-place-from.true refl refl (w.bytes-is ∙ w.put_word_in.ensures) w.moved-is
  | else-place-from w ↦ telling_passed _ _ _ _ _ _ _ c.requires.slot c.walk.invariant c.walk-test.true c.requires.within _ _ _
      c.word_in-place.ensures w.if-place-from.false w.bytes-is w.moved-is
]
