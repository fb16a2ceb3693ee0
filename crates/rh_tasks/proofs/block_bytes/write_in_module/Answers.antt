use Rattle.rh_tasks.proofs.Common.{ap, arith, err_from_is_err_and, no_answer, module_heap_in}
use Rattle.rh_slot.proofs.EditLaws.{beyond}
use Rattle.rh_tasks.proofs.BlockWrites.{module-refuses, module-writes, written-beyond, written-nowhere}
use Rattle.rh_tasks.proofs.SightLaws.{sized-bytes, unsized-block}
use Rattle.rh_tasks.proofs.block_bytes.write_in_module.Goals as goal

pub returns-in_err-size : goal.returns-in_err-size
returns-in_err-size g c =
    let m = g.S.Words.memory c.args.store.now in
    let h = module_heap_in m c.args.area in
    let p = err_from_is_err_and c.from_residual.result c.from_residual.ensures.1 in
    let absent = unsized-block c.args.address h _ c.in_err-size.ensures in
    rw (p.1, p.2, absent.1)
    (module-refuses m c.args.area c.requires _ _ (ap no_answer (written-nowhere c.args.address c.args.offset c.args.from.now h absent.0)))

pub returns-then-not-fits : goal.returns-then-not-fits
returns-then-not-fits g c =
    let m = g.S.Words.memory c.args.store.now in
    let h = module_heap_in m c.args.area in
    let some = sized-bytes c.args.address h c.in_ok-size.size c.in_ok-size.ensures in
    let short = beyond _ _ _ c.fits.ensures c.if-not-fits.true in
    module-refuses m c.args.area c.requires _ _
    (ap no_answer (written-beyond c.args.address c.args.offset c.args.from.now h some.0 some.1.0 (omega (arith, short, some.1.1))))

pub write_bytes-requires-clause-block : goal.write_bytes-requires-clause-block
write_bytes-requires-clause-block g c =
    let h = module_heap_in (g.S.Words.memory c.args.store.now) c.args.area in
    let some = sized-bytes c.args.address h c.in_ok-size.size c.in_ok-size.ensures in
    record { bytes = some.0; found = some.1.0; room = omega (arith, c.fits.ensures.0 c.if-not-fits.false, some.1.1) }

pub returns : goal.returns
returns g c =
    let m = g.S.Words.memory c.args.store.now in
    let h = module_heap_in m c.args.area in
    let some = sized-bytes c.args.address h c.in_ok-size.size c.in_ok-size.ensures in
    module-writes m c.args.area c.requires (g.S.Words.memory c.write_bytes.new.store) c.args.address c.args.offset c.args.from.now some.0 some.1.0
    (omega (arith, c.fits.ensures.0 c.if-not-fits.false, some.1.1)) c.write_bytes.ensures
