use Rattle.rh_wimp.proofs.Common.{sym, ap, subst, ◌∙◌, arith, has-less, is_recorded, Post, module_heap_in, ArePostChains}
use Rattle.rh_wimp.proofs.EndLaws.{ended-bounces, ended-vanishes, may-vanish}
use Rattle.rh_wimp.proofs.PollLaws.{bounce-has}
use Rattle.rh_wimp.proofs.queue.Queue.end_message.Goals as goal

pub free-requires-clause-block : goal.free-requires-clause-block
free-requires-clause-block g c =
    let m = g.S.Words.memory c.args.store.now in
    let l = c.requires.loose in
    has-less c.args.block 24 4 (module_heap_in m c.args.module_area) (omega arith)
    (bounce-has m c.args.module_area c.args.self.now l.0 l.1.0 c.args.block l.1.1)

pub returns-then-is_recorded-clause-spells : goal.returns-then-is_recorded-clause-spells
returns-then-is_recorded-clause-spells g c = λ post p b.
    let k = module_heap_in (g.S.Words.memory c.bounce_from.new.store) c.args.module_area in
    let code = c.read_code.ensures p (record { lies = b.loose.lies; block_is = b.block_is }) in
    subst (λ (y : Post). ArePostChains k c.bounce_from.new.self y) (sym (ended-bounces c.args.dying p post
    (ap is_recorded (sym code) ∙ sym c.is_recorded.ensures ∙ c.if-is_recorded.true)))
    (c.bounce_from.ensures.spells post p b)

pub returns-else-is_recorded-clause-spells : goal.returns-else-is_recorded-clause-spells
returns-else-is_recorded-clause-spells g c = λ post p b.
    let m = g.S.Words.memory c.args.store.now in
    let k = module_heap_in (g.S.Words.memory c.free.new.store) c.args.module_area in
    let code = c.read_code.ensures p (record { lies = b.loose.lies; block_is = b.block_is }) in
    subst (λ (y : Post). ArePostChains k c.args.self.now y) (sym (ended-vanishes c.args.dying p post
    (ap is_recorded (sym code) ∙ sym c.is_recorded.ensures ∙ c.if-is_recorded.false)))
    (may-vanish m c.args.module_area c.args.self.now post p c.args.block k b c.free.ensures.heap)
