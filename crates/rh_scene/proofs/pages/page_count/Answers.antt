use Rattle.rh_scene.proofs.Common.{◌∙◌, owner_seen}
use Rattle.rh_scene.proofs.Holders.{count-fixed, count-made, count-slot, if-some, none-made, none-slot}
use Rattle.rh_scene.proofs.pages.page_count.Goals as goal
use Rattle.rh_scene.proofs.pages.page_count.Goals.{in-Fixed, in-Made+in-Some, in-Made+in-None, in-Slot+in-Some-task, in-Slot+in-None-task}

pub returns : goal.returns
returns g c = if-some (owner_seen c.args.owner (g.S.Sight.desk c.args.sight.now)) _ (λ o e. elim c.match-owner.branch [
  | in-Fixed w ↦ w.count-is
      ∙ count-fixed c.recall_desk.ensures c.args.owner o w.in-Fixed.number w.fixed_pages-count.result w.in-Fixed.is e w.fixed_pages-count.ensures
  | in-Made+in-Some w ↦ w.count-is ∙ count-made c.recall_desk.ensures c.args.owner o w.in-Made.i _ w.in-Made.is e w.in-Some.ensures.some
  | in-Made+in-None w ↦ absurd (none-made c.recall_desk.ensures c.args.owner o w.in-Made.i w.in-Made.is e w.in-None.ensures.none)
  | in-Slot+in-Some-task w ↦ (let s = w.in-Some-task.ensures.some in w.count-is
      ∙ (s.2.pages ∙ count-slot c.recall_desk.ensures c.args.owner o w.in-Slot.i s.0 w.in-Slot.is e s.1))
  | in-Slot+in-None-task w ↦ absurd (none-slot c.recall_desk.ensures c.args.owner o w.in-Slot.i w.in-Slot.is e w.in-None-task.ensures.none)
])
