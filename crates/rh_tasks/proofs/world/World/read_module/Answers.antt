use Rattle.rh_tasks.proofs.Common.{◌≡◌, ℕ, ◌∙◌, ap, length, refl, subst, sym, arith, err_from_is_err_and, Some, None, Ok, Granted, part-drop, module_heap_in}
use Rattle.rh_tasks.proofs.Common.{the_module, ends}
use Rattle.rh_defs.specs.Blocks.{block_bytes}
use Rattle.rh_module.proofs.BlockBytes.{block_within}
use Rattle.rh_slot.proofs.EditLaws.{beyond}
use Rattle.rh_tasks.specs.Sights.{module_shown}
use Rattle.rh_tasks.proofs.Readers.{if-ok, if-err}
use Rattle.rh_tasks.proofs.SightLaws.{module-given, module-short, module-unsized, sized-bytes, unsized-block}
use Rattle.rh_tasks.proofs.world.World.read_module.Goals as goal

pub returns-in_err-place : goal.returns-in_err-place
unfolding module_shown
returns-in_err-place g c =
    let p = err_from_is_err_and c.from_residual.result c.from_residual.ensures.1 in
    rw (p.1, p.2) (if-err _ _ (ends _ c.in_err-place.ensures.err) (refl, refl))

pub returns-in_err-size : goal.returns-in_err-size
returns-in_err-size g c =
    let h = module_heap_in (g.S.Words.memory c.self.inside.store) the_module in
    let p = err_from_is_err_and c.from_residual-in_err-size.result c.from_residual-in_err-size.ensures.1 in
    let absent = unsized-block c.in_ok-place.place h _ c.in_err-size.ensures in
    let away = subst (λ (a : ℕ). block_bytes a h ≡ None) c.in_ok-place.ensures.ok.0 absent.0 in
    let none = rw (← c.self.view_is) at c.in_ok-place.ensures.ok.1 in
    rw (p.1, p.2, absent.1, ← c.self.view_is)
    (if-err _ _ (module-unsized c.self.invariant c.args.address none c.args.offset (length c.args.to.now) away) (refl, refl))

pub returns-then-not-fits : goal.returns-then-not-fits
returns-then-not-fits g c =
    let h = module_heap_in (g.S.Words.memory c.self.inside.store) the_module in
    let some = sized-bytes c.in_ok-place.place h c.in_ok-size.size c.in_ok-size.ensures in
    let here = subst (λ (a : ℕ). block_bytes a h ≡ Some some.0) c.in_ok-place.ensures.ok.0 some.1.0 in
    let none = rw (← c.self.view_is) at c.in_ok-place.ensures.ok.1 in
    let short = beyond _ _ _ c.fits.ensures c.if-not-fits.true in
    rw (← c.self.view_is)
    (if-err _ _ (module-short c.self.invariant c.args.address none c.args.offset (length c.args.to.now) some.0 here (omega (arith, short, some.1.1)))
    (refl, refl))

pub read_bytes-requires-clause-block : goal.read_bytes-requires-clause-block
read_bytes-requires-clause-block g c =
    let some = sized-bytes c.in_ok-place.place (module_heap_in (g.S.Words.memory c.self.inside.store) the_module) c.in_ok-size.size c.in_ok-size.ensures in
    record { bytes = some.0; found = some.1.0; room = omega (arith, c.fits.ensures.0 c.if-not-fits.false, some.1.1) }

pub overflow_cast-result : goal.overflow_cast-result
overflow_cast-result g c =
    let m = g.S.Words.memory c.self.inside.store in
    let some = sized-bytes c.in_ok-place.place (module_heap_in m the_module) c.in_ok-size.size c.in_ok-size.ensures in
    let is = c.self.invariant.areas.module_area in
    let room = block_within m the_module c.in_ok-place.place c.in_ok-size.size is
    (record { bytes = some.0; found = some.1.0; room = omega (arith, some.1.1) }) in
    omega (arith, room, g.met.S.Words.small c.self.inside.store 1)

pub returns : goal.returns
returns g c =
    let h = module_heap_in (g.S.Words.memory c.self.inside.store) the_module in
    let some = sized-bytes c.in_ok-place.place h c.in_ok-size.size c.in_ok-size.ensures in
    let here = subst (λ (a : ℕ). block_bytes a h ≡ Some some.0) c.in_ok-place.ensures.ok.0 some.1.0 in
    let none = rw (← c.self.view_is) at c.in_ok-place.ensures.ok.1 in
    let inside = c.fits.ensures.0 c.if-not-fits.false in
    let n = length c.args.to.now in
    rw (← c.self.view_is)
    (if-ok _ _ (module-given c.self.invariant c.args.address none c.args.offset n some.0 here (omega (arith, inside, some.1.1))) (
      ap (λ (k : ℕ). let r : Granted ℕ = Ok k in r) (sym some.1.1),
      c.read_bytes.ensures some.0 some.1.0 ∙ part-drop some.0 c.args.offset n (omega (arith, inside, some.1.1)),
    ))
