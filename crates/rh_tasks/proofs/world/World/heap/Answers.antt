use Rattle.rh_tasks.proofs.Common.{◌∙◌, sym, arith, err_from_is_err_and, ends, nobody, owned}
use Rattle.rh_defs.specs.Questions.{heap_at}
use Rattle.rh_tasks.proofs.QuestionLaws.{of-slot}
use Rattle.rh_tasks.proofs.Readers.{listed_heap, listed-none, listed-some, small-largest, small-free, small-place, small-piece}
use Rattle.rh_tasks.proofs.world.World.heap.Goals as goal

pub returns-in_err-slot : goal.returns-in_err-slot
unfolding heap_at
returns-in_err-slot g c =
    let p = err_from_is_err_and c.from_residual.result c.from_residual.ensures.1 in
    rw (p.1, p.2, c.in_err-slot.ensures.err.0, ← c.self.view_is) (sym (ends _ (nobody _ _ _ _ _ _ c.in_err-slot.ensures.err.1)))

pub overflow_cast-sums-2 : goal.overflow_cast-sums-2
overflow_cast-sums-2 g c =
    omega (
      arith,
      c.describe-length.ensures.largest,
      small-largest (owned c.self.invariant c.in_ok-slot.ensures.ok) (g.met.S.Words.small c.self.inside.store c.in_ok-slot.slot.area.0),
    )

pub overflow_cast-sums-3 : goal.overflow_cast-sums-3
overflow_cast-sums-3 g c =
    omega (
      arith,
      c.describe-length.ensures.total,
      small-free (owned c.self.invariant c.in_ok-slot.ensures.ok) (g.met.S.Words.small c.self.inside.store c.in_ok-slot.slot.area.0),
    )

pub returns-in_default : goal.returns-in_default
unfolding heap_at
returns-in_default g c =
    rw (← c.self.view_is, c.describe-length.ensures.end, c.describe-length.ensures.largest, c.describe-length.ensures.total)
    (sym (of-slot c.self.invariant c.in_ok-slot.ensures.ok (λ s. listed_heap c.args.place s.heap) ∙ listed-none c.args.place _ c.in_default.ensures))

pub segment_item-requires-clause-low : goal.segment_item-requires-clause-low
segment_item-requires-clause-low g c =
    small-place (owned c.self.invariant c.in_ok-slot.ensures.ok) (g.met.S.Words.small c.self.inside.store c.in_ok-slot.slot.area.0) c.args.place
    c.in-Some.segment c.in-Some.ensures

pub segment_item-requires-clause-small : goal.segment_item-requires-clause-small
segment_item-requires-clause-small g c =
    small-piece (owned c.self.invariant c.in_ok-slot.ensures.ok) (g.met.S.Words.small c.self.inside.store c.in_ok-slot.slot.area.0) c.args.place
    c.in-Some.segment c.in-Some.ensures

pub returns : goal.returns
unfolding heap_at
returns g c =
    rw (← c.self.view_is, c.describe-length.ensures.end, c.describe-length.ensures.largest, c.describe-length.ensures.total)
    (sym (of-slot c.self.invariant c.in_ok-slot.ensures.ok (λ s. listed_heap c.args.place s.heap)
    ∙ listed-some c.args.place _ c.in-Some.segment c.segment_item.result c.in-Some.ensures c.segment_item.ensures))
