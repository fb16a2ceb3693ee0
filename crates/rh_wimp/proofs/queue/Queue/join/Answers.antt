-- The new entry is that of a task with no messages.
use Rattle.rh_wimp.proofs.Common.{sym, subst, Chains, HasEntry, ArePostChains, post_join, module_heap_in}
use Rattle.rh_wimp.proofs.JoinLaws.{join-spells}
use Rattle.rh_wimp.proofs.queue.Queue.join.Goals as goal

pub returns-clause-spells : goal.returns-clause-spells
returns-clause-spells c = λ h post s.
    let q : Chains = record { entries = c.self.inside.entries.items; live = c.self.inside.live; next_ref = c.self.inside.next_ref } in
    let s' : ArePostChains h q post = subst (λ (k : Chains). ArePostChains h k post) (sym c.self.view_is) s in
    subst (λ es. ArePostChains h (record { entries = es; live = q.live; next_ref = q.next_ref }) (post_join c.args.handle post)) (sym c.push.ensures.items)
    (join-spells h q post c.args.handle s' (λ e. c.requires.new (subst (HasEntry c.args.handle) c.self.view_is e)))

pub returns-clause-still : goal.returns-clause-still
returns-clause-still c =
    λ m module_area w. record {
      area = w.area;
      post = post_join c.args.handle w.post;
      spells = returns-clause-spells c
          (module_heap_in m module_area) w.post w.spells;
    }
