use Rattle.rh_module.specs.ModuleArea.{module_heap_in}
use Rattle.std.proofs.Common.{length, ap, ◌∙◌, arith}
use Rattle.std.proofs.lemmas.Result.{err_from_is_err_and}
use Rattle.rh_defs.specs.Blocks.{poked}
use Rattle.rh_defs.specs.Heap.{Heap}
use Rattle.rh_defs.proofs.MemoryLaws.{OnlyArea-both}
use Rattle.callers.proofs.BlockFacts.{claimed-has, claimed-puts, kept-has}
use Rattle.callers.proofs.module.keep_bytes.Goals as goal

pub returns-in_err-address-clause-answer : goal.returns-in_err-address-clause-answer
returns-in_err-address-clause-answer g c =
    let p = err_from_is_err_and c.from_residual.result c.from_residual.ensures.1 in
    rw (p.1, p.2) c.in_err-address.ensures.answer

pub returns-in_err-address-clause-only : goal.returns-in_err-address-clause-only
returns-in_err-address-clause-only g c = c.in_err-address.ensures.only

pub write_bytes-requires-clause-block : goal.write_bytes-requires-clause-block
write_bytes-requires-clause-block g c =
    claimed-has _ (length c.args.bytes.now) _ _ (module_heap_in (g.S.Words.memory c.args.store.now) c.args.module_area)
    (module_heap_in (g.S.Words.memory c.claim.new.store) c.args.module_area) c.in_ok-address.ensures.answer c.in_ok-address.ensures.heap (omega arith)

pub returns-clause-heap : goal.returns-clause-heap
returns-clause-heap g c = c.write_bytes.ensures.heap ∙ ap (λ (h : Heap). poked c.in_ok-address.address 0 c.args.bytes.now h) c.in_ok-address.ensures.heap

pub returns-clause-kept : goal.returns-clause-kept
returns-clause-kept g c =
    claimed-puts _ _ _ _ _ _ _ c.in_ok-address.ensures.answer c.in_ok-address.ensures.heap c.write_bytes.ensures.heap

pub returns-clause-block : goal.returns-clause-block
returns-clause-block g c =
    kept-has _ _ _ (module_heap_in (g.S.Words.memory c.claim.new.store) c.args.module_area) _
    (claimed-has _ (length c.args.bytes.now) _ _ (module_heap_in (g.S.Words.memory c.args.store.now) c.args.module_area)
    (module_heap_in (g.S.Words.memory c.claim.new.store) c.args.module_area) c.in_ok-address.ensures.answer c.in_ok-address.ensures.heap (omega arith))
    c.write_bytes.ensures.heap

pub returns-clause-only : goal.returns-clause-only
returns-clause-only g c = OnlyArea-both _ _ _ _ c.in_ok-address.ensures.only c.write_bytes.ensures.only
