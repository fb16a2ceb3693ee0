use Rattle.std.proofs.Common.{refl, sym, ap, ◌∙◌, arith}
use Rattle.std.proofs.lemmas.Bool.Decides.{nat_tests}
use Rattle.vf_heap.specs.HeapStatus.{found_status, image_status}
use Rattle.vf_heap.proofs.Images.{taken, looked_at}
use Rattle.vf_heap.proofs.image.image_status.Goals as goal

pub returns-then-len-lt-HEAP_FIRST-clause-status : goal.returns-then-len-lt-HEAP_FIRST-clause-status
unfolding image_status
returns-then-len-lt-HEAP_FIRST-clause-status c = grind (arith, nat_tests)

pub returns-then-word_in-ne-HEAP_WORD-clause-status : goal.returns-then-word_in-ne-HEAP_WORD-clause-status
unfolding image_status
returns-then-word_in-ne-HEAP_WORD-clause-status c = grind (arith, nat_tests)

pub returns-then-len-end-clause-status : goal.returns-then-len-end-clause-status
unfolding image_status
returns-then-len-end-clause-status c = grind (arith, nat_tests)

pub returns-in-Ok-clause-status : goal.returns-in-Ok-clause-status
returns-in-Ok-clause-status c =
    ap found_status c.in-Ok.ensures.fault ∙ sym (looked_at c.args.memory.now _ c.if-len-lt-HEAP_FIRST.false
    c.if-len-gt-LONGEST.false (sym c.word_in.ensures ∙ c.if-word_in-ne-HEAP_WORD.false) c.word_in-end.ensures c.if-len-end.false)

pub returns-in-Ok-clause-heap : goal.returns-in-Ok-clause-heap
returns-in-Ok-clause-heap c z =
    taken c.args.memory.now c.word_in-end.result c.if-len-gt-LONGEST.false c.if-len-end.false (c.in-Ok.ensures.ok.0 refl)

pub returns-in-Err-clause-status : goal.returns-in-Err-clause-status
returns-in-Err-clause-status c =
    c.fault_status.ensures ∙ ap found_status c.in-Err.ensures.fault ∙ sym (looked_at c.args.memory.now _
    c.if-len-lt-HEAP_FIRST.false c.if-len-gt-LONGEST.false (sym c.word_in.ensures ∙ c.if-word_in-ne-HEAP_WORD.false)
    c.word_in-end.ensures c.if-len-end.false)
