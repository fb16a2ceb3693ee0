use Rattle.rh_wimp.proofs.Common.{◌≡◌, sym, subst, ◌∙◌, arith, release_block, module_heap_in, Turns, HasBlock, entry_at, no_entry, Entry}
use Rattle.std.proofs.lemmas.List.{get_or_default}
use Rattle.rh_wimp.proofs.placing.put_down.Goals as goal

pub free-requires-clause-block : goal.free-requires-clause-block
free-requires-clause-block g c =
    let es = c.args.entries.now.items in
    let there : c.index-entry.result.now ≡ entry_at es c.args.at =
    c.index-entry.ensures ∙ get_or_default es c.args.at c.index-entry.result.now no_entry (omega arith) in
    subst (λ (e : Entry). HasBlock e.held 4 (module_heap_in (g.S.Words.memory c.args.store.now) c.args.module_area)) (sym there) c.requires.held

pub returns-clause-heap : goal.returns-clause-heap
returns-clause-heap g c =
    let es = c.args.entries.now.items in
    let m = g.S.Words.memory c.args.store.now in
    let there : c.index-entry.result.now ≡ entry_at es c.args.at =
    c.index-entry.ensures ∙ get_or_default es c.args.at c.index-entry.result.now no_entry (omega arith) in
    subst (λ (e : Entry). Turns m (g.S.Words.memory c.free.new.store) c.args.module_area
    (release_block e.held (module_heap_in m c.args.module_area))) there c.free.ensures
