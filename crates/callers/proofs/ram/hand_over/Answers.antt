use Rattle.std.proofs.Common.{◌≡◌, ◌+◌, Some, sym, ap, ◌∙◌, refl, length}
use Rattle.std.specs.Prelude.{slice_get}
use Rattle.std.proofs.lemmas.Option.{slice_get-get_or}
use Rattle.callers.proofs.ram.hand_over.Goals as goal

pub loop-turn-preserved : goal.loop-turn-preserved
loop-turn-preserved c =
    let letter = c.in-Some.letter.now in
    let low = rw (c.deref.ensures.value) at c.in-Some.ensures.lookup.3.0 in
    let same = rw (c.deref.ensures.value) at c.in-Some.ensures.lookup.1 in
    let at = slice_get-get_or c.loop-turn.mail.items c.loop-turn.turn letter low ∙ ap Some (sym same) in
    let way = c.take_turn-answer.ensures c.loop-turn.turn c.loop-turn.mail.items letter c.loop-turn.invariant at c.heard_at-message.ensures refl in
    rw (c.in_ok-post.ensures, c.take_turn-answer.auto.buffer) way
