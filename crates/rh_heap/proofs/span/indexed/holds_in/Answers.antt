use Rattle.rh_heap.proofs.Common.{◌+◌, ◌*◌, sym, ap, ◌∙◌, arith, is_inside, heap_in}
use Rattle.rh_heap.proofs.HoldLaws.{held_below, held_above, held_unmarked, held_marked}
use Rattle.rh_heap.proofs.IndexLaws.{size_read, last_used}
use Rattle.rh_heap.proofs.span.indexed.holds_in.Goals.{then-address-via-then-address, then-address-via-else-address+then-read-address}
use Rattle.rh_heap.proofs.span.indexed.holds_in.Goals as goal

pub returns-then-address : goal.returns-then-address
returns-then-address g c =
    let h = heap_in (g.S.Words.memory c.args.store.now) c.args.span in
    elim c.then-address.branch [
      | then-address-via-then-address w ↦ sym (held_below h _ _ w.if-address.true)
      | then-address-via-else-address+then-read-address w ↦
          sym (held_above _ _ h _ _ _ c.requires.span.spells w.read.ensures.value w.if-read-address.true)
    ]

pub returns-in_default : goal.returns-in_default
returns-in_default g c =
    let h = heap_in (g.S.Words.memory c.args.store.now) c.args.span in
    sym (held_unmarked _ h _ _ c.requires.span.spells.heap.tidy c.requires.starts c.in_default.ensures)

pub overflow_sub-size : goal.overflow_sub-size
overflow_sub-size g c =
    let u = last_used _ _ _ _ c.requires.starts c.in-Some.ensures in
    omega (arith, c.read-size.ensures.value, size_read _ _ _ c.requires.span.spells _ u)

pub returns : goal.returns
returns g c =
    let s = c.requires.span.spells in
    let u = last_used _ _ _ _ c.requires.starts c.in-Some.ensures in
    let least = c.if-address.false in
    c.is_inside.ensures
    ∙ ap (is_inside c.args.address c.args.n (8 * c.in-Some.k + 4)) (omega (arith, c.read-size.ensures.value, size_read _ _ _ s _ u))
    ∙ sym (held_marked _ _ _ _ _ s.heap.tidy c.requires.starts (omega arith) c.in-Some.ensures u)
