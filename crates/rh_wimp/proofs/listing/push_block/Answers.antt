use Rattle.rh_wimp.proofs.Common.{sym, ap, ◌++◌, ◌∷◌, [], ◌∙◌, length, map, arith, true, append-nil, module_heap_in, held_list, message_item_of}
use Rattle.rh_wimp.proofs.ItemLaws.{nothing-held}
use Rattle.rh_wimp.proofs.SearchLaws.{held-some}
use Rattle.rh_wimp.proofs.listing.push_block.Goals as goal

pub returns-then-held-eq0 : goal.returns-then-held-eq0
returns-then-held-eq0 g c = λ o s few.
    sym (ap (λ x. c.args.items.now.items ++ map (message_item_of c.args.to true) (held_list x))
    (nothing-held (module_heap_in (g.S.Words.memory c.args.store.now) c.args.module_area) o c.args.held s c.if-held-eq0.true)
    ∙ append-nil c.args.items.now.items)

pub read_item-requires-clause-lies : goal.read_item-requires-clause-lies
read_item-requires-clause-lies g c =
    let r = c.requires.held in
    let w = held-some (module_heap_in (g.S.Words.memory c.args.store.now) c.args.module_area) c.args.held r.0 r.1.0 c.if-held-eq0.false in
    (0, (w.parcel, record { lies = w.lies; block_is = w.block; small = omega arith }))

pub push-requires : goal.push-requires
push-requires g c =
    let r = c.requires.held in
    let w = held-some (module_heap_in (g.S.Words.memory c.args.store.now) c.args.module_area) c.args.held r.0 r.1.0 c.if-held-eq0.false in
    let room = r.1.1 in
    (omega arith, omega (arith, ap (λ o. length (held_list o)) w.is))

pub returns : goal.returns
returns g c = λ o s few.
    let w = held-some (module_heap_in (g.S.Words.memory c.args.store.now) c.args.module_area) c.args.held o s c.if-held-eq0.false in
    c.push.ensures.items
    ∙ ap (λ x. c.args.items.now.items ++ x ∷ []) (c.read_item.ensures 0 w.parcel (record { lies = w.lies; block_is = w.block; small = omega arith }))
    ∙ sym (ap (λ x. c.args.items.now.items ++ map (message_item_of c.args.to true) (held_list x)) w.is)
