use Rattle.rh_wimp.proofs.Common.{length, sym, ap, subst, ◌∙◌, arith, module_heap_in, Chains, SpellsPostIn, rows_of, ◌++◌, held_items, waiting_items}
use Rattle.rh_wimp.proofs.ItemLaws.{items-few}
use Rattle.rh_wimp.proofs.queue.Queue.list.Goals as goal

pub push_waiting-requires-clause-rows : goal.push_waiting-requires-clause-rows
push_waiting-requires-clause-rows g c =
    let m = g.S.Words.memory c.args.store.now in
    let post = c.requires.post in
    let q : Chains = record { entries = c.self.inside.entries.items; live = c.self.inside.live; next_ref = c.self.inside.next_ref } in
    let s : SpellsPostIn m c.args.module_area q post = subst (λ (k : Chains). SpellsPostIn m c.args.module_area k post)
    (sym c.self.view_is) c.requires.spells in
    (rows_of post, (s.rows, omega (arith, items-few (module_heap_in m c.args.module_area) q post s, ap length c.clear.ensures)))

pub push_held-requires-clause-rows : goal.push_held-requires-clause-rows
push_held-requires-clause-rows g c =
    let m = g.S.Words.memory c.args.store.now in
    let post = c.requires.post in
    let q : Chains = record { entries = c.self.inside.entries.items; live = c.self.inside.live; next_ref = c.self.inside.next_ref } in
    let s : SpellsPostIn m c.args.module_area q post = subst (λ (k : Chains). SpellsPostIn m c.args.module_area k post)
    (sym c.self.view_is) c.requires.spells in
    let few = items-few (module_heap_in m c.args.module_area) q post s in
    let none = ap length c.clear.ensures in
    let waiting = c.push_waiting.ensures (rows_of post) s.rows (omega (arith, few, none)) ∙ ap (λ l. l ++ waiting_items (rows_of post)) c.clear.ensures in
    (rows_of post, (s.rows, omega (arith, few, ap length waiting)))

pub returns : goal.returns
returns g c = λ post s'.
    let m = g.S.Words.memory c.args.store.now in
    let q : Chains = record { entries = c.self.inside.entries.items; live = c.self.inside.live; next_ref = c.self.inside.next_ref } in
    let s : SpellsPostIn m c.args.module_area q post = subst (λ (k : Chains). SpellsPostIn m c.args.module_area k post) (sym c.self.view_is) s' in
    let few = items-few (module_heap_in m c.args.module_area) q post s in
    let none = ap length c.clear.ensures in
    let waiting = c.push_waiting.ensures (rows_of post) s.rows (omega (arith, few, none)) ∙ ap (λ l. l ++ waiting_items (rows_of post)) c.clear.ensures in
    c.push_held.ensures (rows_of post) s.rows (omega (arith, few, ap length waiting)) ∙ ap (λ l. l ++ held_items (rows_of post)) waiting
