use Rattle.rh_slot.proofs.Common.{subst, sym, Carried}
use Rattle.rh_defs.proofs.SlotLaws.{Lie-carried}
use Rattle.rh_slot.proofs.ShiftLaws.{shifted}
use Rattle.rh_slot.proofs.row.shift.Goals as goal

pub write_anchors-requires-clause-row : goal.write_anchors-requires-clause-row
write_anchors-requires-clause-row g c =
    let r = c.requires.row in
    record {
      blocks = r.blocks;
      lie = Lie-carried _ _ _ _ r.blocks (subst (Carried _ _ c.args.from c.args.to) (sym r.sum) c.slide.ensures.carried) r.lie;
      sum = r.sum;
      anchors = r.anchors;
    }

pub returns-clause-shifted : goal.returns-clause-shifted
returns-clause-shifted g c = λ fs l e.
    shifted _ _ _ _ _ _ fs c.slide.ensures.carried c.slide.ensures.only.outside c.requires.high c.write_anchors.ensures.only.outside c.requires.target l e
    (c.write_anchors.ensures.hung fs (Lie-carried _ _ _ _ fs (subst (Carried _ _ c.args.from c.args.to) (sym e) c.slide.ensures.carried) l) e)
