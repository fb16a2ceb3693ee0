use Rattle.rh_wimp.proofs.Common.{◌≡◌, ◌+◌, sym, ap, subst, ◌∙◌, arith, Some, None, ◌==◌, position, poked, word_bytes, module_heap_in, Chains, ArePostChains}
use Rattle.rh_wimp.proofs.Common.{MayBounce}
use Rattle.rh_wimp.proofs.Common.{bounced, Entry, block_within, has-less}
use Rattle.rh_wimp.proofs.PollLaws.{bounce-has, bounce-from, bounce-last, bounce-gone, bounce-done}
use Rattle.rh_wimp.proofs.PostLaws.{found-at}
use Rattle.rh_wimp.proofs.queue.Queue.bounce.Goals as goal

pub read_word-requires-clause-block : goal.read_word-requires-clause-block
read_word-requires-clause-block g c =
    let m = g.S.Words.memory c.args.store.now in
    let l = c.requires.loose in
    has-less c.args.block 24 16 (module_heap_in m c.args.module_area) (omega arith)
    (bounce-has m c.args.module_area c.args.self.now l.0 l.1.0 c.args.block l.1.1)

pub free-requires-clause-block : goal.free-requires-clause-block
free-requires-clause-block g c =
    let m = g.S.Words.memory c.args.store.now in
    let l = c.requires.loose in
    has-less c.args.block 24 4 (module_heap_in m c.args.module_area) (omega arith)
    (bounce-has m c.args.module_area c.args.self.now l.0 l.1.0 c.args.block l.1.1)

pub returns-in_default-clause-spells : goal.returns-in_default-clause-spells
returns-in_default-clause-spells g c = λ post p b.
    let m = g.S.Words.memory c.args.store.now in
    let q : Chains = record { entries = c.self.inside.entries.items; live = c.self.inside.live; next_ref = c.self.inside.next_ref } in
    let b' : MayBounce m c.args.module_area q post p c.args.block = subst (λ (x : Chains). MayBounce m c.args.module_area x post p c.args.block)
    (sym c.self.view_is) b in
    let from = bounce-from m c.args.module_area q post p c.args.block b' c.read_word.result c.read_word.ensures in
    let none : position (λ (e : Entry). e.handle == p.message.from) q.entries ≡ None =
    ap (λ n. position (λ (e : Entry). e.handle == n) q.entries) (sym from) ∙ sym c.in_default.ensures in
    subst (λ (x : Chains). ArePostChains (module_heap_in (g.S.Words.memory c.free.new.store) c.args.module_area) x (bounced p post)) c.self.view_is
    (bounce-gone m c.args.module_area q post p c.args.block b' none (module_heap_in (g.S.Words.memory c.free.new.store) c.args.module_area) c.free.ensures.heap)

pub write_word-requires-clause-block : goal.write_word-requires-clause-block
write_word-requires-clause-block g c =
    let m = g.S.Words.memory c.args.store.now in
    let l = c.requires.loose in
    has-less c.args.block 24 8 (module_heap_in m c.args.module_area) (omega arith)
    (bounce-has m c.args.module_area c.args.self.now l.0 l.1.0 c.args.block l.1.1)

pub append-requires-clause-last : goal.append-requires-clause-last
append-requires-clause-last g c =
    let m = g.S.Words.memory c.args.store.now in
    let n = g.S.Words.memory c.write_word.new.store in
    let q : Chains = record { entries = c.self.inside.entries.items; live = c.self.inside.live; next_ref = c.self.inside.next_ref } in
    let l = c.requires.loose in
    let b' : MayBounce m c.args.module_area q l.0 l.1.0 c.args.block =
    subst (λ (x : Chains). MayBounce m c.args.module_area x l.0 l.1.0 c.args.block) (sym c.self.view_is) l.1.1 in
    let w = found-at q.entries c.read_word.result c.in-Some.to (sym c.in-Some.ensures) in
    bounce-last m c.args.module_area q l.0 l.1.0 c.args.block b' n c.in-Some.to 4 _ w.0 c.write_word.ensures.heap

pub append-requires-clause-small : goal.append-requires-clause-small
append-requires-clause-small g c =
    let m = g.S.Words.memory c.args.store.now in
    let l = c.requires.loose in
    omega (
      arith,
      block_within m c.args.module_area c.args.block 24 c.requires.module (bounce-has m c.args.module_area c.args.self.now l.0 l.1.0 c.args.block l.1.1),
      g.met.S.Words.small c.args.store.now c.args.module_area.area.0,
    )

pub returns-clause-spells : goal.returns-clause-spells
returns-clause-spells g c = λ post p b.
    let m = g.S.Words.memory c.args.store.now in
    let k = g.S.Words.memory c.append.new.store in
    let q : Chains = record { entries = c.self.inside.entries.items; live = c.self.inside.live; next_ref = c.self.inside.next_ref } in
    let b' : MayBounce m c.args.module_area q post p c.args.block = subst (λ (x : Chains). MayBounce m c.args.module_area x post p c.args.block)
    (sym c.self.view_is) b in
    let from = bounce-from m c.args.module_area q post p c.args.block b' c.read_word.result c.read_word.ensures in
    let some : position (λ (e : Entry). e.handle == p.message.from) q.entries ≡ Some c.in-Some.to =
    ap (λ n. position (λ (e : Entry). e.handle == n) q.entries) (sym from) ∙ sym c.in-Some.ensures in
    subst (λ es. ArePostChains (module_heap_in k c.args.module_area) (record { entries = es; live = q.live + 1; next_ref = q.next_ref }) (bounced p post))
    (sym c.append.ensures.entries)
    (bounce-done m c.args.module_area q post p c.args.block b' c.in-Some.to some (module_heap_in (g.S.Words.memory c.write_word.new.store) c.args.module_area)
    (module_heap_in k c.args.module_area) (c.write_word.ensures.heap ∙ ap
    (λ n. poked c.args.block 4 (word_bytes n) (module_heap_in m c.args.module_area)) c.number.ensures)
    c.append.ensures.heap.heap)
