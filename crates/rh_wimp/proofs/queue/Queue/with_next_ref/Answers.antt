use Rattle.rh_wimp.proofs.Common.{[], sym, subst, ◌∙◌, Post, module_heap_in, ArePostChains}
use Rattle.rh_wimp.proofs.JoinLaws.{start-spells}
use Rattle.rh_wimp.proofs.queue.Queue.with_next_ref.Goals as goal

pub returns-clause-starts : goal.returns-clause-starts
returns-clause-starts c = λ m module_area w.
    let h = module_heap_in m module_area in
    let p : Post = record { seats = []; queued = []; heap = h; next_ref = c.args.next_ref } in
    record {
      area = w;
      post = p;
      spells = subst (λ es. ArePostChains h (record { entries = es; live = 0; next_ref = c.from.result }) p) (sym c.new.ensures)
          (subst (λ r. ArePostChains h (record { entries = []; live = 0; next_ref = r }) p) (sym (c.from.ensures ∙ c.next_ref.view_is))
          (start-spells h c.args.next_ref));
    }
