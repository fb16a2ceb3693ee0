use Rattle.rh_scene.proofs.Common.{◌≡◌, ◌∙◌, ℕ, [], ◌∷◌, ◌++◌, ap, ap₂, map-append, Task, task_pages, Holding, holdings_of, slot_holding}
use Rattle.rh_figure.specs.Share.{SlotOf}
use Rattle.rh_scene.specs.SightOwners.{holding_of}
use Rattle.rh_scene.proofs.Places.{filled-all, filled-more}
use Rattle.rh_scene.proofs.kept.push_slots.Goals as goal

slot-told : (h n : ℕ) (t : Task) (x : Holding) → x ≡ (SlotOf h, n) → h ≡ t.handle → n ≡ task_pages t → x ≡ slot_holding t
slot-told h n t x e p q = e ∙ ap₂ (λ k m. let y : Holding = (SlotOf k, m) in y) p q

pub tasks-preserved : goal.tasks-preserved
tasks-preserved g c =
    let s = c.in-Some.ensures.some in
    let same = slot-told c.in-Some.task.handle c.in-Some.task.pages s.0 (SlotOf c.in-Some.task.handle, c.in-Some.task.pages)
    (λ i. (SlotOf c.in-Some.task.handle, c.in-Some.task.pages)) s.2.handle s.2.pages in
    ap holdings_of c.push.ensures.items
    ∙ (map-append holding_of c.tasks.list.items _
    ∙ (ap (λ (x : Holding). holdings_of c.tasks.list.items ++ x ∷ []) same
    ∙ filled-more slot_holding (g.S.Sight.desk c.args.sight.now).tasks c.tasks.i (holdings_of c.args.list.now.items) (holdings_of c.tasks.list.items)
    c.tasks.invariant s.0 s.1))

pub returns : goal.returns
returns g c =
    filled-all slot_holding (g.S.Sight.desk c.args.sight.now).tasks c.tasks.i (holdings_of c.args.list.now.items) (holdings_of c.tasks.list.items)
    c.tasks.invariant c.in_default.ensures.none
