use Rattle.rh_wimp.proofs.Common.{◌≡◌, true, false, sym, subst, ◌∙◌, arith, has-less, eqb_same, Post, module_heap_in, ArePostChains}
use Rattle.rh_wimp.proofs.EndLaws.{from-dying, from-other, may-vanish}
use Rattle.rh_wimp.proofs.PollLaws.{bounce-from, bounce-has}
use Rattle.rh_wimp.proofs.PostLaws.{eq_of}
use Rattle.rh_wimp.proofs.queue.Queue.bounce_from.Goals as goal

pub read_word-requires-clause-block : goal.read_word-requires-clause-block
read_word-requires-clause-block g c =
    let m = g.S.Words.memory c.args.store.now in
    let l = c.requires.loose in
    has-less c.args.block 24 16 (module_heap_in m c.args.module_area) (omega arith)
    (bounce-has m c.args.module_area c.args.self.now l.0 l.1.0 c.args.block l.1.1)

pub free-requires-clause-block : goal.free-requires-clause-block
free-requires-clause-block g c =
    let m = g.S.Words.memory c.args.store.now in
    let l = c.requires.loose in
    has-less c.args.block 24 4 (module_heap_in m c.args.module_area) (omega arith)
    (bounce-has m c.args.module_area c.args.self.now l.0 l.1.0 c.args.block l.1.1)

pub returns-then-eq-clause-spells : goal.returns-then-eq-clause-spells
returns-then-eq-clause-spells g c = λ post p b.
    let m = g.S.Words.memory c.args.store.now in
    let k = module_heap_in (g.S.Words.memory c.free.new.store) c.args.module_area in
    let from = bounce-from m c.args.module_area c.args.self.now post p c.args.block b c.read_word.result c.read_word.ensures in
    let same = eq_of c.read_word.result c.args.dying (sym c.eq.ensures ∙ c.if-eq.true) in
    subst (λ (y : Post). ArePostChains k c.args.self.now y) (sym (from-dying c.args.dying p post (sym from ∙ same)))
    (may-vanish m c.args.module_area c.args.self.now post p c.args.block k b c.free.ensures.heap)

pub returns-else-eq-clause-spells : goal.returns-else-eq-clause-spells
returns-else-eq-clause-spells g c = λ post p b.
    let m = g.S.Words.memory c.args.store.now in
    let k = module_heap_in (g.S.Words.memory c.bounce.new.store) c.args.module_area in
    let from = bounce-from m c.args.module_area c.args.self.now post p c.args.block b c.read_word.result c.read_word.ensures in
    subst (λ (y : Post). ArePostChains k c.bounce.new.self y)
    (sym (from-other c.args.dying p post (λ z. let bad : true ≡ false = sym (eqb_same c.read_word.result c.args.dying (from ∙ z)) ∙ sym c.eq.ensures
    ∙ c.if-eq.false in cc)))
    (c.bounce.ensures.spells post p b)
