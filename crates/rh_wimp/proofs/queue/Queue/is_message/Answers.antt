use Rattle.rh_wimp.proofs.Common.{sym, subst, ◌∙◌, module_heap_in, Chains, SpellsPostIn, rows_of, wants}
use Rattle.rh_defs.specs.Post.{post_is_message}
use Rattle.rh_wimp.specs.declared.searching.Wanted.TheVariants.{At}
use Rattle.rh_wimp.proofs.SearchLaws.{Codeless, rows-have, rows_elsewhere, short-rows}
use Rattle.rh_wimp.proofs.queue.Queue.is_message.Goals as goal

pub any_entry-requires-clause-rows : goal.any_entry-requires-clause-rows
any_entry-requires-clause-rows g c =
    let m = g.S.Words.memory c.args.store.now in
    let post = c.requires.post in
    let q : Chains = record { entries = c.self.inside.entries.items; live = c.self.inside.live; next_ref = c.self.inside.next_ref } in
    let s : SpellsPostIn m c.args.module_area q post = subst (λ (k : Chains). SpellsPostIn m c.args.module_area k post)
    (sym c.self.view_is) c.requires.spells in
    (rows_of post, (s.rows, short-rows (module_heap_in m c.args.module_area) q post s))

pub returns : goal.returns
unfolding post_is_message
returns g c = λ post s'.
    let m = g.S.Words.memory c.args.store.now in
    let q : Chains = record { entries = c.self.inside.entries.items; live = c.self.inside.live; next_ref = c.self.inside.next_ref } in
    let s : SpellsPostIn m c.args.module_area q post = subst (λ (k : Chains). SpellsPostIn m c.args.module_area k post) (sym c.self.view_is) s' in
    c.any_entry.ensures (rows_of post) s.rows (short-rows (module_heap_in m c.args.module_area) q post s) ∙ rows-have
    (wants (At c.args.block)) post s.recipients

pub returns-then-not-has_code : goal.returns-then-not-has_code
unfolding post_is_message
returns-then-not-has_code g c = λ post s.
    let m = g.S.Words.memory c.args.store.now in
    let none : Codeless m c.args.module_area c.args.block =
    record {
      area = c.requires.area;
      small = g.met.S.Words.small c.args.store.now c.args.module_area.area.0;
      none = sym c.has_code.ensures ∙ c.if-not-has_code.true;
    } in
    sym (rows_elsewhere m c.args.module_area c.args.block none c.args.self.now.entries (rows_of post) s.rows)
    ∙ rows-have (wants (At c.args.block)) post s.recipients
