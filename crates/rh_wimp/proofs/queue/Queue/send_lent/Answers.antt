use Rattle.rh_wimp.proofs.Common.{◌≡◌, ℕ, ◌+◌, ◌-◌, ◌<◌, length, sym, ap, subst, ◌∙◌, arith, err_from_is_err_and, Ok, None, answer_of, left_of, Memory}
use Rattle.rh_wimp.proofs.Common.{OnlyArea, OnlyArea-both, IsModule, module_heap_in, HasBlock, Chains, RowsLie, ArePostChains, SpellsPostIn, HasEntry, entry_at}
use Rattle.rh_wimp.proofs.Common.{rows_of}
use Rattle.rh_wimp.proofs.Common.{Post, held_by, block_within}
use Rattle.rh_defs.proofs.MemoryLaws.{OnlyArea-self}
use Rattle.rh_defs.proofs.PostLaws.{post_send-handles}
use Rattle.rh_wimp.proofs.LeavesLaws.{handles-stay, left}
use Rattle.rh_wimp.specs.Moves.{Relinks}
use Rattle.rh_wimp.specs.Inner.Settling.{Settled}
use Rattle.rh_wimp.specs.Inner.ChainEdits.{longer_chains}
use Rattle.rh_wimp.specs.Inner.LetterRefusals.{refusal_for}
use Rattle.rh_defs.specs.Post.{post_send, queued_in}
use Rattle.rh_wimp.proofs.SendLaws.{admitted-refs, owns-longer, send-refused, send-short, send-granted, Joined, letter-joined, letter-settled, last-stays}
use Rattle.rh_wimp.proofs.SendLaws.{new-there}
use Rattle.rh_wimp.proofs.queue.Queue.send_lent.Goals as goal
use Rattle.rh_wimp.proofs.queue.Queue.send_lent.Goals.{In_ok-block}
use Rattle.rh_wimp.proofs.queue.Queue.send_lent.Given as given

pub returns-in_err-to-clause-answer : goal.returns-in_err-to-clause-answer
returns-in_err-to-clause-answer g c = λ post p.
    let m = g.S.Words.memory c.args.store.now in
    let e = err_from_is_err_and c.from_residual.result c.from_residual.ensures.1 in
    let refused = send-refused
    (module_heap_in m c.args.module_area) c.args.self.now post m.free c.args.letter.now c.in_err-to.field-0.0 p c.in_err-to.ensures.refused in
    rw (e.1, e.2) (sym (ap answer_of refused))

pub returns-in_err-to-clause-leaves : goal.returns-in_err-to-clause-leaves
returns-in_err-to-clause-leaves g c = left c.requires.queue (λ post p.
    let m = g.S.Words.memory c.args.store.now in
    let refused = send-refused
    (module_heap_in m c.args.module_area) c.args.self.now post m.free c.args.letter.now c.in_err-to.field-0.0 p c.in_err-to.ensures.refused in
    subst (λ r. ArePostChains (module_heap_in m c.args.module_area) c.args.self.now (left_of post r)) (sym refused) p) c.requires.queue.area (OnlyArea-self
    (g.S.Words.memory c.args.store.now) c.args.module_area.area.0 c.requires.queue.area.opened)

pub returns-in_err-block-clause-answer : goal.returns-in_err-block-clause-answer
returns-in_err-block-clause-answer g c = λ post p.
    let m = g.S.Words.memory c.args.store.now in
    let e = err_from_is_err_and c.from_residual-in_err-block.result c.from_residual-in_err-block.ensures.1 in
    let refused = send-short (module_heap_in m c.args.module_area) c.args.self.now post m.free c.args.letter.now c.in_err-block.field-0.0 p
    c.in_ok-to.ensures.ok c.in_err-block.ensures.answer in
    rw (e.1, e.2) (sym (ap answer_of refused))

pub returns-in_err-block-clause-leaves : goal.returns-in_err-block-clause-leaves
returns-in_err-block-clause-leaves g c =
    let m = g.S.Words.memory c.args.store.now in
    let same = sym c.in_err-block.ensures.err in
    left c.requires.queue (λ post p.
    let m = g.S.Words.memory c.args.store.now in
    let refused = send-short (module_heap_in m c.args.module_area) c.args.self.now post m.free c.args.letter.now c.in_err-block.field-0.0 p
    c.in_ok-to.ensures.ok c.in_err-block.ensures.answer in
    subst (λ (n : Memory). ArePostChains (module_heap_in n c.args.module_area) c.args.self.now (left_of post (post_send m.free c.args.letter.now post)))
    (sym c.in_err-block.ensures.err)
    (subst (λ r. ArePostChains (module_heap_in m c.args.module_area) c.args.self.now (left_of post r)) (sym refused) p))
    (subst (λ (n : Memory). IsModule n c.args.module_area) same c.requires.queue.area)
    (subst (λ (n : Memory). OnlyArea m n c.args.module_area.area.0) same (OnlyArea-self m c.args.module_area.area.0 c.requires.queue.area.opened))

-- ---- the block
there : (g : given.Over) (c : In_ok-block g) → IsModule (g.S.Words.memory c.place.new.store) c.args.module_area ×
    (OnlyArea (g.S.Words.memory c.args.store.now) (g.S.Words.memory c.place.new.store) c.args.module_area.area.0 × HasBlock c.in_ok-block.block 0
    (module_heap_in (g.S.Words.memory c.place.new.store) c.args.module_area))
there g c = new-there (g.S.Words.memory c.args.store.now) (g.S.Words.memory c.place.new.store) c.args.module_area _ c.in_ok-block.block _
    c.in_ok-block.ensures.answer c.in_ok-block.ensures.placed

pub append-requires-clause-module : goal.append-requires-clause-module
append-requires-clause-module g c = (there g (goal.at.append-requires-clause-module g c).In_ok-block).0

-- the queue as its fields have it
seen : (g : given.Over) (c : In_ok-block g) → Chains
seen g c = record { entries = c.self.inside.entries.items; live = c.self.inside.live; next_ref = c.self.inside.next_ref }

abbrev Asks : (g : given.Over) (c : In_ok-block g) → Chains → Post → Type 0
Asks g c q post =
    SpellsPostIn (g.S.Words.memory c.args.store.now) c.args.module_area q post × (refusal_for c.args.letter.now.to q ≡ None)
    × (c.in_ok-to.to < length q.entries) × ((entry_at q.entries c.in_ok-to.to).handle ≡ c.args.letter.now.to) × HasEntry c.args.letter.now.from q

asks : (g : given.Over) (c : In_ok-block g) (post : Post) → SpellsPostIn (g.S.Words.memory c.args.store.now) c.args.module_area c.args.self.now post
    → Asks g c (seen g c) post
unfolding seen
asks g c post p =
    subst (λ q. Asks g c q post) (sym c.self.view_is) (p, c.in_ok-to.ensures.ok, c.in_ok-to.ensures.found.0, c.in_ok-to.ensures.found.1, c.requires.from)

pub append-requires-clause-last : goal.append-requires-clause-last
unfolding seen
append-requires-clause-last g c =
    let o = (goal.at.append-requires-clause-last g c).In_ok-block in
    let a = asks g o c.requires.queue.post c.requires.queue.spells in
    last-stays (g.S.Words.memory c.args.store.now) (g.S.Words.memory c.place.new.store) c.args.module_area
    (seen g o) c.requires.queue.post _ c.in_ok-block.block
    c.in_ok-to.to _ a.0 a.2
    c.in_ok-block.ensures.answer c.in_ok-block.ensures.placed

pub append-requires-clause-small : goal.append-requires-clause-small
append-requires-clause-small g c =
    let n = g.S.Words.memory c.place.new.store in
    let w = there g (goal.at.append-requires-clause-small g c).In_ok-block in
    omega (arith, block_within n c.args.module_area c.in_ok-block.block 0 w.0 w.1.1, g.met.S.Words.small c.place.new.store c.args.module_area.area.0)

-- ---- the letter, claimed, written and linked
joined : (g : given.Over) (c : In_ok-block g) (k : Memory) (post : Post) → SpellsPostIn
    (g.S.Words.memory c.args.store.now) c.args.module_area c.args.self.now post
    → Relinks (g.S.Words.memory c.place.new.store) k c.args.module_area (entry_at c.self.inside.entries.items c.in_ok-to.to).last c.in_ok-block.block
    → Joined (g.S.Words.memory c.args.store.now) (g.S.Words.memory c.place.new.store) k c.args.module_area (seen g c) post c.args.letter.now c.in_ok-to.to
    c.in_ok-block.block
unfolding seen
joined g c k post p r =
    let a = asks g c post p in
    letter-joined (g.S.Words.memory c.args.store.now) (g.S.Words.memory c.place.new.store) k c.args.module_area (seen g c) post c.args.letter.now c.in_ok-to.to
    c.in_ok-block.block
    a.0 a.1 a.2 a.3 c.in_ok-block.ensures.fits c.in_ok-block.ensures.answer c.in_ok-block.ensures.placed r.heap

pub answer-freed-requires-clause-rows : goal.answer-freed-requires-clause-rows
unfolding seen
answer-freed-requires-clause-rows g c =
    let o = (goal.at.answer-freed-requires-clause-rows g c).In_ok-block in
    let j = joined g o (g.S.Words.memory c.append.new.store) c.requires.queue.post c.requires.queue.spells c.append.ensures.heap in (
      rows_of (queued_in c.args.letter.now (j.plain, c.in_ok-block.block) c.requires.queue.post),
      subst (λ es. RowsLie (module_heap_in (g.S.Words.memory c.append.new.store) c.args.module_area) es
          (rows_of (queued_in c.args.letter.now (j.plain, c.in_ok-block.block) c.requires.queue.post))) (sym c.append.ensures.entries) j.spells.rows,
    )

pub invariant_of-self : goal.invariant_of-self
unfolding seen
invariant_of-self g c =
    let o = (goal.at.invariant_of-self g c).In_ok-block in
    let a = asks g o c.requires.queue.post c.requires.queue.spells in
    let few = admitted-refs c.args.letter.now.to (seen g o) a.1 in
    omega arith

pub returns-clause-answer : goal.returns-clause-answer
unfolding seen
returns-clause-answer g c = λ post p.
    let o = (goal.at.returns-clause-answer g c).In_ok-block in
    let m = g.S.Words.memory c.args.store.now in
    let a = asks g o post p in
    let j = joined g o (g.S.Words.memory c.append.new.store) post p c.append.ensures.heap in
    ap Ok a.0.next_ref ∙ sym (ap answer_of (send-granted (module_heap_in m c.args.module_area) (seen g o) post m.free c.args.letter.now
    (j.plain, c.in_ok-block.block)
    j.admitted j.granted))

pub returns-clause-leaves : goal.returns-clause-leaves
unfolding seen
returns-clause-leaves g c = left c.requires.queue (λ post p.
    let o = (goal.at.returns-clause-leaves g c).In_ok-block in
    let m = g.S.Words.memory c.args.store.now in
    let n = g.S.Words.memory c.append.new.store in
    let k = g.S.Words.memory c.answer-freed.new.store in
    let l = c.args.letter.now in
    let b : ℕ = c.in_ok-block.block in
    let to : ℕ = c.in_ok-to.to in
    let q : Chains = seen g o in
    let a = asks g o post p in
    let j = joined g o n post p c.append.ensures.heap in
    let new : Post = queued_in l (j.plain, b) post in
    let i : ℕ = a.4.0 in
    let w = owns-longer (module_heap_in m c.args.module_area) (module_heap_in n c.args.module_area) q post l to b i j.plain j.spells a.2 a.4.1.0 a.4.1.1 in
    let rows = subst (λ es. RowsLie (module_heap_in n c.args.module_area) es (rows_of new)) (sym c.append.ensures.entries) j.spells.rows in
    let settled = c.answer-freed.ensures.settles (rows_of new) i rows w.row w.named in
    let settled' : Settled n k c.args.module_area (longer_chains to b q).entries c.answer-freed.new.entries.items i l.your_ref (held_by l.from post.seats)
    c.answer-freed.result =
    subst (λ es. Settled n k c.args.module_area es c.answer-freed.new.entries.items i l.your_ref (held_by l.from post.seats) c.answer-freed.result)
    c.append.ensures.entries
    (subst (λ x. Settled n k c.args.module_area c.append.new.entries.items c.answer-freed.new.entries.items i l.your_ref x c.answer-freed.result) w.held
    settled) in
    let done = letter-settled n k c.args.module_area q post l to b i c.answer-freed.result j.plain c.answer-freed.new.entries.items j.spells w.entry w.handle
    settled' in
    subst (λ r. ArePostChains (module_heap_in k c.args.module_area)
    (record { entries = c.answer-freed.new.entries.items; live = q.live + 1 - c.answer-freed.result; next_ref = q.next_ref + 1 }) (left_of post r))
    (sym (send-granted (module_heap_in m c.args.module_area) q post m.free l (j.plain, b) j.admitted j.granted)) done)
    c.answer-freed.ensures.module (let w = there g (goal.at.returns-clause-leaves g c).In_ok-block in
    OnlyArea-both (g.S.Words.memory c.args.store.now) (g.S.Words.memory c.place.new.store)
    (g.S.Words.memory c.answer-freed.new.store) c.args.module_area.area.0 w.1.0
    (OnlyArea-both (g.S.Words.memory c.place.new.store) (g.S.Words.memory c.append.new.store)
    (g.S.Words.memory c.answer-freed.new.store) c.args.module_area.area.0
    c.append.ensures.heap.only c.answer-freed.ensures.only))

pub returns-clause-handles : goal.returns-clause-handles
returns-clause-handles g c =
    let m = g.S.Words.memory c.args.store.now in
    let k = g.S.Words.memory c.answer-freed.new.store in
    let post = c.requires.queue.post in
    let l = (returns-clause-leaves g c).spells post c.requires.queue.spells in
    handles-stay (module_heap_in m c.args.module_area) (module_heap_in k c.args.module_area) c.args.self.now _ post
    (left_of post (post_send m.free c.args.letter.now post))
    c.requires.queue.spells l (post_send-handles m.free c.args.letter.now post)
