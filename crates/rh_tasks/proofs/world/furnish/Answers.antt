use Rattle.rh_tasks.proofs.Common.{◌≡◌, ap, sym, subst, ◌∙◌, arith, empty_heap, IsModule, module_heap_in, the_module}
use Rattle.rh_module.specs.declared.module.Module.{Module}
use Rattle.rh_tasks.proofs.Openings.{none-opened, next-opened, opens, six-opened, open-at, page-long, page-open, furnished}
use Rattle.rh_tasks.proofs.PageLaws.{not-refused}
use Rattle.rh_tasks.proofs.world.furnish.Goals as goal

pub loop-area-init : goal.loop-area-init
loop-area-init g c = none-opened (g.S.Words.memory c.args.store.now) _ c.requires.fresh

pub unwrap-requires : goal.unwrap-requires
unwrap-requires g c = opens c.open.result _ c.open.ensures.refused (omega (arith, c.loop-area.invariant.count, c.loop-area-test.true))

pub loop-area-preserved : goal.loop-area-preserved
loop-area-preserved g c =
    let ok = rw c.unwrap.ensures at c.open.ensures.ok in
    let least = rw c.unwrap.ensures at c.open.ensures.least in
    next-opened (g.S.Words.memory c.loop-area.store) _ c.loop-area._area _ c.unwrap.result.0 c.loop-area.invariant (omega (arith, c.loop-area-test.true))
    ok.0 ok.1 least

-- all six are open
pub grow-requires : goal.grow-requires
grow-requires g c = open-at (six-opened _ _ _ c.loop-area.invariant c.loop-area.auto._area-end c.loop-area-test.false) 1 (omega arith)

pub unwrap-requires-2 : goal.unwrap-requires-2
unwrap-requires-2 g c = not-refused c.grow.result _ 1 c.grow.ensures.refused (omega (arith, c.loop-area.invariant.free, c.requires.least))

pub start-requires-clause-opened : goal.start-requires-clause-opened
start-requires-clause-opened g c =
    page-open (six-opened _ _ _ c.loop-area.invariant c.loop-area.auto._area-end c.loop-area-test.false) (omega (arith, c.requires.least))
    (rw c.unwrap-2.ensures at c.grow.ensures.ok)

pub start-requires-clause-page : goal.start-requires-clause-page
start-requires-clause-page g c =
    omega (
      arith,
      page-long (six-opened _ _ _ c.loop-area.invariant c.loop-area.auto._area-end c.loop-area-test.false) (omega (arith, c.requires.least))
          (rw c.unwrap-2.ensures at c.grow.ensures.ok),
    )

pub returns : goal.returns
returns g c =
    let six = six-opened _ _ _ c.loop-area.invariant c.loop-area.auto._area-end c.loop-area-test.false in
    let is = rw c.unwrap-2.ensures at c.grow.ensures.ok in
    let one : c.start.result ≡ the_module = ap (λ a. let k : Module = record { area = a } in k) c.start.ensures.area in
    let n = g.S.Words.memory c.start.new.store in
    let StillIs : Module → Type 0 = λ k. IsModule n k in
    furnished six (omega (arith, c.requires.least)) is c.start.ensures.only (subst StillIs one c.start.ensures.still)
    (ap (module_heap_in n) (sym one) ∙ c.start.ensures.heap ∙ ap empty_heap (page-long six (omega (arith, c.requires.least)) is))
