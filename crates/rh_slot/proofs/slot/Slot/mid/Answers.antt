use Rattle.rh_slot.proofs.Common.{refl, ap, ◌∙◌, to_z-of_z, moved, no_answer, slot_in}
use Rattle.std.proofs.Common.{w32}
use Rattle.rh_defs.specs.Slot.{taken_out}
use Rattle.rh_slot.proofs.LeaveLaws.{refuses, in_other_words}
use Rattle.rh_slot.proofs.EditLaws.{mid_none, mid_above, mid_short, mid_at}
use Rattle.rh_slot.proofs.slot.Slot.mid.Goals as goal

pub returns-in_default : goal.returns-in_default
returns-in_default g c =
    refuses _ _ _ _ _ (ap no_answer (mid_none _ _ _ _ (slot_in (g.S.Words.memory c.args.store.now) c.args.self) c.in_default.ensures)) refl c.requires.slot

pub returns-then-spot-offset : goal.returns-then-spot-offset
returns-then-spot-offset g c = refuses _ _ _ _ _ (ap no_answer (mid_above _ _ _ c.args.by _ _ _ c.in-Some.ensures c.if-spot-offset.true)) refl c.requires.slot

pub returns-then-offset-out : goal.returns-then-offset-out
returns-then-offset-out g c =
    refuses _ _ _ _ _ (ap no_answer (mid_short _ _ _ _ c.args.by _ _ _ c.in-Some.ensures
    (c.taken_out-out.ensures.value ∙ ap taken_out (to_z-of_z w32 c.args.by c.ranges.by)) c.if-offset-out.true)) refl c.requires.slot

pub returns : goal.returns
returns g c =
    let t = c.in-Some.ensures.at in
    in_other_words _ _ _ _ _ _
    (ap no_answer (mid_at _ _ _ _ _ c.args.by _ _ _ _ t (c.taken_out-out.ensures.value ∙ ap taken_out (to_z-of_z w32 c.args.by c.ranges.by))
    (c.put_in.ensures.value ∙ ap (moved 0) (to_z-of_z w32 c.args.by c.ranges.by)) c.if-spot-offset.false c.if-offset-out.false))
    (c.splice.ensures _ t)
