use Rattle.rh_wimp.proofs.Common.{◌≡◌, ◌+◌, ◌≤◌, List, length, arith, most_messages, Parcel, has-less, module_heap_in, Chain, first_block}
use Rattle.rh_wimp.proofs.ItemLaws.{Meets, links-has, walk-begins, walk-none, walk-on, walk-past, walk-some}
use Rattle.rh_wimp.proofs.listing.push_chain.Goals as goal
use Rattle.rh_wimp.proofs.listing.push_chain.Goals.{Else-block-eq0}
use Rattle.rh_wimp.proofs.listing.push_chain.Given as given

pub loop-turn-init : goal.loop-turn-init
loop-turn-init g c = λ ps e l few. walk-begins (module_heap_in
    (g.S.Words.memory c.args.store.now) c.args.module_area) c.args.first c.args.to ps c.args.items.now.items e l few

pub returns-then-block-eq0 : goal.returns-then-block-eq0
returns-then-block-eq0 g c = λ ps e l few.
    walk-none (module_heap_in
    (g.S.Words.memory c.args.store.now) c.args.module_area) c.loop-turn.block _ c.args.to ps c.args.items.now.items c.loop-turn.items.items
    (c.loop-turn.invariant ps e l few) c.if-block-eq0.true

-- the message whose block is the next one
here : (g : given.Over) (c : Else-block-eq0 g) (ps : List Parcel) → c.args.first ≡ first_block ps 0
    → Chain (module_heap_in (g.S.Words.memory c.args.store.now) c.args.module_area) ps 0 → length c.args.items.now.items + length ps ≤ most_messages
    → Meets (g.S.Words.memory c.args.store.now) c.args.module_area c.loop-turn.block c.loop-turn._turn c.args.to ps c.args.items.now.items
    c.loop-turn.items.items
here g c ps e l few =
    walk-some (g.S.Words.memory c.args.store.now) c.args.module_area c.loop-turn.block c.loop-turn._turn c.args.to ps c.args.items.now.items
    c.loop-turn.items.items
    c.requires.module (g.met.S.Words.small c.args.store.now c.args.module_area.area.0)
    (c.loop-turn.invariant ps e l few) c.if-block-eq0.false

pub read_item-requires-clause-lies : goal.read_item-requires-clause-lies
read_item-requires-clause-lies g c =
    let r = c.requires.chain in
    let w = here g (goal.at.read_item-requires-clause-lies g c).Else-block-eq0 r.0 r.1.0 r.1.1 r.1.2 in
    (first_block w.rest 0, (w.parcel, w.links))

pub push-requires : goal.push-requires
push-requires g c =
    let r = c.requires.chain in
    let w = here g (goal.at.push-requires g c).Else-block-eq0 r.0 r.1.0 r.1.1 r.1.2 in
    let room = w.room in
    (omega arith, omega arith)

pub read_word-block-requires-clause-block : goal.read_word-block-requires-clause-block
read_word-block-requires-clause-block g c =
    let r = c.requires.chain in
    let w = here g (goal.at.read_word-block-requires-clause-block g c).Else-block-eq0 r.0 r.1.0 r.1.1 r.1.2 in
    has-less c.loop-turn.block 28 4 (module_heap_in (g.S.Words.memory c.args.store.now) c.args.module_area) (omega arith) (links-has w.links)

pub loop-turn-preserved : goal.loop-turn-preserved
loop-turn-preserved g c = λ ps e l few.
    let w = here g (goal.at.loop-turn-preserved g c).Else-block-eq0 ps e l few in
    walk-on (g.S.Words.memory c.args.store.now) c.args.module_area c.loop-turn.block c.loop-turn._turn c.args.to c.read_word-block.result ps
    c.args.items.now.items
    c.loop-turn.items.items _ c.read_item.result w
    c.push.ensures.items (c.read_item.ensures (first_block w.rest 0) w.parcel w.links) c.read_word-block.ensures

pub returns : goal.returns
returns g c = λ ps e l few.
    walk-past (module_heap_in (g.S.Words.memory c.args.store.now) c.args.module_area) c.loop-turn.block c.loop-turn._turn c.args.to ps c.args.items.now.items
    c.loop-turn.items.items (c.loop-turn.invariant ps e l few) (omega arith)
