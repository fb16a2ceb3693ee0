use Rattle.std.proofs.Common.{arith, length-take, length-drop}
use Rattle.rh_lines.proofs.SplitLemmas.{found_last, found_next, found_full, still_room, no_room}
use Rattle.rh_lines.proofs.words.split.Goals as goal

pub returns-in_default-clause-items : goal.returns-in_default-clause-items
returns-in_default-clause-items c =
    found_last (λ w. w.now) c.args.line.now c.pieces.rest.now c.pieces.found.items c.push_word.new.found.items c.pieces.invariant.so_far
    c.pieces.invariant.room (λ k lt. c.in_default.ensures k (omega arith) lt) c.push_word.ensures.items

pub returns-then-is_full-clause-items : goal.returns-then-is_full-clause-items
returns-then-is_full-clause-items c =
    let at = c.in-Some.ensures in
    found_full (λ w. w.now) c.args.line.now c.push_word-in-pieces.new.found.items _
    (found_next (λ w. w.now) c.args.line.now c.pieces.rest.now c.in-Some.end c.pieces.found.items c.push_word-in-pieces.new.found.items
    c.pieces.invariant.so_far at.0.high (λ k lt. at.0.before k (omega arith) lt) at.1 c.push_word-in-pieces.ensures.items) (no_room _ _
    c.is_full.ensures.value c.if-is_full.true)

pub pieces-preserved : goal.pieces-preserved
pieces-preserved c =
    let at = c.in-Some.ensures in
    record {
      room = still_room (λ w. w.now) c.pieces.found.items _ _ _ c.pieces.invariant.room c.push_word-in-pieces.ensures.items c.is_full.ensures.value
          c.if-is_full.false;
      few = simp (length-take, length-drop) (omega arith);
      short = c.push_word-in-pieces.ensures.short;
      so_far = found_next (λ w. w.now) c.args.line.now c.pieces.rest.now c.in-Some.end c.pieces.found.items c.push_word-in-pieces.new.found.items
          c.pieces.invariant.so_far at.0.high (λ k lt. at.0.before k (omega arith) lt) at.1 c.push_word-in-pieces.ensures.items;
    }
