use Rattle.std.proofs.Common.{to_z, of_z, ◌≡◌, length, sym, ap, ◌∙◌}
use Rattle.std.specs.Prelude.{ℤ}
use Rattle.std.specs.Int.{w32}
use Rattle.std.proofs.lemmas.Int.{to_z-of_z}
use Rattle.rh_defs.specs.HeapImage.{heap_of}
use Rattle.rh_defs.specs.Pieces.{moved}
use Rattle.vf_heap.proofs.Ends.{misfit, beyond, answered}
use Rattle.vf_heap.proofs.plain.extend.Goals as goal

pub returns-then-end-ne0-clause-status : goal.returns-then-end-ne0-clause-status
returns-then-end-ne0-clause-status c =
    let d = c.args.delta in
    let h = heap_of c.args.memory.now 0 in
    let back = to_z-of_z w32 d c.ranges.delta in
    let end : c.moved-end.result ≡ moved h.end d =
    c.moved-end.ensures.value ∙ ap (λ k. moved k (to_z w32 (of_z w32 d))) c.end.ensures.end ∙ ap (λ (x : ℤ). moved h.end x) back in
    sym (misfit (length c.args.memory.now) _ d h c.requires.few end c.if-len-end.false c.if-end-ne0.true)

pub returns-then-len-end-clause-status : goal.returns-then-len-end-clause-status
returns-then-len-end-clause-status c =
    let d = c.args.delta in
    let h = heap_of c.args.memory.now 0 in
    let back = to_z-of_z w32 d c.ranges.delta in
    let end : c.moved-end.result ≡ moved h.end d =
    c.moved-end.ensures.value ∙ ap (λ k. moved k (to_z w32 (of_z w32 d))) c.end.ensures.end ∙ ap (λ (x : ℤ). moved h.end x) back in
    sym (beyond (length c.args.memory.now) _ d h c.requires.few end c.if-len-end.true)

pub returns-clause-status : goal.returns-clause-status
returns-clause-status c =
    let d = c.args.delta in
    let b = c.args.memory.now in
    let h = heap_of b 0 in
    let back = to_z-of_z w32 d c.ranges.delta in
    let end : c.moved-end.result ≡ moved h.end d =
    c.moved-end.ensures.value ∙ ap (λ k. moved k (to_z w32 (of_z w32 d))) c.end.ensures.end ∙ ap (λ (x : ℤ). moved h.end x) back in
    c.outcome_status.ensures ∙ answered (length b) _ d _ b c.extend_heap.new.memory c.extend_heap.result back
    c.extend_heap.ensures c.requires.few end c.if-end-ne0.false c.if-len-end.false
