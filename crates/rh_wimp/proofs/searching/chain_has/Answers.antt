use Rattle.rh_wimp.proofs.Common.{◌≡◌, ◌+◌, ◌≤◌, suc, List, length, refl, subst, arith, most_messages, Parcel, has-less, module_heap_in, Chain, first_block}
use Rattle.rh_wimp.proofs.Common.{wants}
use Rattle.rh_wimp.proofs.SearchLaws.{Ahead, Here, ahead-none, ahead-past, ahead-some, found-here, here-has, one-on}
use Rattle.rh_wimp.proofs.searching.chain_has.Goals as goal
use Rattle.rh_wimp.proofs.searching.chain_has.Goals.{Else-block-eq0}
use Rattle.rh_wimp.proofs.searching.chain_has.Given as given

pub loop-turn-init : goal.loop-turn-init
loop-turn-init g c = λ ps e l few. record { rest = ps; block_is = e; chain = l; few = omega arith; same = refl }

pub returns-then-block-eq0 : goal.returns-then-block-eq0
returns-then-block-eq0 g c = λ ps e l few. ahead-none (module_heap_in (g.S.Words.memory c.args.store.now) c.args.module_area) c.loop-turn.block _
    (wants c.args.wanted.now)
    ps (c.loop-turn.invariant ps e l few) c.if-block-eq0.true

-- the message whose block is the next one
here : (g : given.Over) (c : Else-block-eq0 g) (ps : List Parcel) → c.args.first ≡ first_block ps 0
    → Chain (module_heap_in (g.S.Words.memory c.args.store.now) c.args.module_area) ps 0 → length ps ≤ most_messages
    → Here (g.S.Words.memory c.args.store.now) c.args.module_area c.loop-turn.block c.loop-turn._turn (wants c.args.wanted.now) ps
here g c ps e l few =
    ahead-some (g.S.Words.memory c.args.store.now) c.args.module_area c.loop-turn.block c.loop-turn._turn (wants c.args.wanted.now) ps c.requires.module
    (g.met.S.Words.small c.args.store.now c.args.module_area.area.0)
    (c.loop-turn.invariant ps e l few) c.if-block-eq0.false

pub matches_wanted-requires-clause-lies : goal.matches_wanted-requires-clause-lies
matches_wanted-requires-clause-lies g c =
    let r = c.requires.chain in
    let w = here g (goal.at.matches_wanted-requires-clause-lies g c).Else-block-eq0 r.0 r.1.0 r.1.1 r.1.2 in
    (first_block w.rest 0, (w.parcel, (w.lies, w.block_is, w.small)))

pub returns-then-matches_wanted : goal.returns-then-matches_wanted
returns-then-matches_wanted g c = λ ps e l few.
    let w = here g (goal.at.returns-then-matches_wanted g c).Else-block-eq0 ps e l few in
    found-here (g.S.Words.memory c.args.store.now) c.args.module_area c.loop-turn.block c.loop-turn._turn (wants c.args.wanted.now) ps w c.matches_wanted.result
    (c.matches_wanted.ensures (first_block w.rest 0) w.parcel w.lies w.block_is w.small) c.if-matches_wanted.true

pub read_word-block-requires-clause-block : goal.read_word-block-requires-clause-block
read_word-block-requires-clause-block g c =
    let m = g.S.Words.memory c.args.store.now in
    let r = c.requires.chain in
    let w = here g (goal.at.read_word-block-requires-clause-block g c).Else-block-eq0 r.0 r.1.0 r.1.1 r.1.2 in
    has-less c.loop-turn.block 24 4 (module_heap_in m c.args.module_area) (omega arith)
    (here-has m c.args.module_area c.loop-turn.block c.loop-turn._turn (wants c.args.wanted.now) r.0 w)

pub loop-turn-preserved : goal.loop-turn-preserved
loop-turn-preserved g c = λ ps e l few.
    let m = g.S.Words.memory c.args.store.now in
    let w = here g (goal.at.loop-turn-preserved g c).Else-block-eq0 ps e l few in
    subst (λ n. Ahead (module_heap_in m c.args.module_area) c.read_word-block.result n (wants c.args.wanted.now) ps)
    (let z : suc c.loop-turn._turn ≡ c.loop-turn._turn + 1 = omega arith in z)
    (one-on m c.args.module_area c.loop-turn.block c.loop-turn._turn (wants c.args.wanted.now) ps w c.matches_wanted.result c.read_word-block.result
    (c.matches_wanted.ensures (first_block w.rest 0) w.parcel w.lies w.block_is w.small) c.if-matches_wanted.false c.read_word-block.ensures)

pub returns : goal.returns
returns g c = λ ps e l few. ahead-past (module_heap_in (g.S.Words.memory c.args.store.now) c.args.module_area) c.loop-turn.block c.loop-turn._turn
    (wants c.args.wanted.now)
    ps (c.loop-turn.invariant ps e l few) (omega arith)
