use Rattle.rh_scene.proofs.Common.{◌≡◌, ◌∙◌, Some, ap, sym, Task}
use Rattle.rh_defs.specs.Post.{held_by}
use Rattle.rh_figure.specs.Scene.{ref_of}
use Rattle.rh_scene.specs.SightMessages.{held_ref}
use Rattle.rh_scene.proofs.Posts.{held-is}
use Rattle.rh_scene.proofs.step_sender.held_at.Goals as goal

pub returns : goal.returns
returns g c = λ t e.
    let d = g.S.Sight.desk c.args.sight.now in
    let s = c.in-Some.ensures.some in
    let q : Some s.0 ≡ Some t = sym s.1 ∙ e in
    let same : s.0 ≡ t = cc in
    let handle : c.in-Some.task.handle ≡ t.handle = s.2.handle ∙ ap (λ (x : Task). x.handle) same in
    c.held_ref.ensures
    ∙ (ap (held_ref c.in-Some.task.handle) (c.deref.ensures.0 ∙ c.messages.ensures)
    ∙ (held-is d c.recall_desk.ensures c.in-Some.task.handle ∙ ap (λ h. ref_of (held_by h d.post.seats)) handle))
