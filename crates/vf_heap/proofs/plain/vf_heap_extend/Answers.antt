use Rattle.std.proofs.Common.{length, sym, arith}
use Rattle.std.specs.Int.{w64}
use Rattle.std.proofs.lemmas.Int.{to_z-of_z}
use Rattle.vf_heap.proofs.Ends.{overlong}
use Rattle.vf_heap.proofs.Far.{down, up}
use Rattle.vf_heap.proofs.plain.vf_heap_extend.Goals as goal

pub returns-then-memory-gt-LONGEST-clause-status : goal.returns-then-memory-gt-LONGEST-clause-status
returns-then-memory-gt-LONGEST-clause-status c =
    sym (overlong (length c.args.memory.now) c.args.delta _ (omega (arith, c.if-memory-gt-LONGEST.true)))

pub returns-in-Err-clause-status : goal.returns-in-Err-clause-status
returns-in-Err-clause-status c =
    let d = c.args.delta in
    let heap = c.requires (omega (arith, c.if-memory-gt-LONGEST.false)) in
    sym (down c.args.memory.now d _ (to_z-of_z w64 d c.ranges.delta) heap c.in-Err.ensures c.if-delta-lt0.true)

pub returns-in-Err-2-clause-status : goal.returns-in-Err-2-clause-status
returns-in-Err-2-clause-status c =
    let d = c.args.delta in
    let heap = c.requires (omega (arith, c.if-memory-gt-LONGEST.false)) in
    sym (up c.args.memory.now d _ (to_z-of_z w64 d c.ranges.delta) heap c.in-Err-2.ensures c.if-delta-lt0.false)
