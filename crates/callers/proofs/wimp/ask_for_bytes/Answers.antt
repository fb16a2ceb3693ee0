use Rattle.std.proofs.Common.{◌∙◌}
use Rattle.std.proofs.lemmas.Result.{err_from_is_err_and}
use Rattle.rh_defs.proofs.MemoryLaws.{OnlyArea-both}
use Rattle.rh_module.specs.ModuleArea.{module_heap_in}
use Rattle.callers.specs.Wimp.{two_idle}
use Rattle.callers.proofs.PostFacts.{fetch-answer, fetch-polled, second_live}
use Rattle.callers.proofs.wimp.ask_for_bytes.Goals as goal

pub returns-in_err-send-clause-answer : goal.returns-in_err-send-clause-answer
returns-in_err-send-clause-answer g c =
    let h = module_heap_in (g.S.Words.memory c.args.store.now) c.args.module_area in
    let p = err_from_is_err_and c.from_residual.result c.from_residual.ensures.1 in
    rw (p.1, p.2) (fetch-answer _ c.args.buffer c.args.length h _ (c.in_err-send.ensures.answer (two_idle h) c.requires.idle))

pub returns-in_err-send-clause-handles : goal.returns-in_err-send-clause-handles
returns-in_err-send-clause-handles g c = c.in_err-send.ensures.handles ∙ c.requires.handles

pub returns-in_err-send-clause-only : goal.returns-in_err-send-clause-only
returns-in_err-send-clause-only g c = let left = c.in_err-send.ensures.leaves in left.only

pub returns-clause-answer : goal.returns-clause-answer
returns-clause-answer g c =
    let h = module_heap_in (g.S.Words.memory c.args.store.now) c.args.module_area in
    fetch-answer _ c.args.buffer c.args.length h _ (c.in_ok-send.ensures.answer (two_idle h) c.requires.idle)

pub returns-clause-handles : goal.returns-clause-handles
returns-clause-handles g c = c.poll.ensures.handles ∙ c.in_ok-send.ensures.handles ∙ c.requires.handles

pub returns-clause-event : goal.returns-clause-event
returns-clause-event g c =
    let h = module_heap_in (g.S.Words.memory c.args.store.now) c.args.module_area in
    c.poll.ensures.answer _ (c.in_ok-send.ensures.leaves.spells (two_idle h) c.requires.idle)
    ∙ fetch-polled _ c.args.buffer c.args.length _ h (c.in_ok-send.ensures.answer (two_idle h) c.requires.idle)

pub returns-clause-post : goal.returns-clause-post
returns-clause-post g c =
    let h = module_heap_in (g.S.Words.memory c.args.store.now) c.args.module_area in
    c.poll.ensures.leaves.spells _ (c.in_ok-send.ensures.leaves.spells (two_idle h) c.requires.idle)

pub returns-clause-only : goal.returns-clause-only
returns-clause-only g c = OnlyArea-both _ _ _ _ c.in_ok-send.ensures.leaves.only c.poll.ensures.leaves.only

pub poll-requires-clause-live : goal.poll-requires-clause-live
poll-requires-clause-live g c = second_live c.args.queue.now c.send.new.self c.in_ok-send.ensures.handles c.requires.handles
