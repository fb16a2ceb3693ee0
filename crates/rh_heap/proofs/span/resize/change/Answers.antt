use Rattle.std.proofs.Common.{◌∙◌}
use Rattle.rh_heap.proofs.ChangeLaws.{changed_stays, changed_shrinks, changed_into, changed_top, changed_moves}
use Rattle.rh_heap.proofs.span.resize.change.Goals as goal

pub returns-in-Stays-clause-changed : goal.returns-in-Stays-clause-changed
returns-in-Stays-clause-changed g c = changed_stays _ _ _ _ c.requires.found c.requires.span.spells c.in-Stays.ensures

pub returns-in-Shrinks-clause-changed : goal.returns-in-Shrinks-clause-changed
returns-in-Shrinks-clause-changed g c =
    changed_shrinks (g.S.Words.memory c.args.store.now) (g.S.Words.memory c.shrink.new.store) _ _ _ c.requires.found c.in-Shrinks.ensures
    c.shrink.ensures.spells

pub returns-in-IntoHole-clause-changed : goal.returns-in-IntoHole-clause-changed
returns-in-IntoHole-clause-changed g c =
    changed_into (g.S.Words.memory c.args.store.now) (g.S.Words.memory c.widen.new.store) _ _ _ c.requires.found _ c.in-IntoHole.ensures c.widen.ensures.spells

pub returns-else-read-spot-clause-changed : goal.returns-else-read-spot-clause-changed
returns-else-read-spot-clause-changed g c =
    changed_top (g.S.Words.memory c.args.store.now) (g.S.Words.memory c.raise.new.store) _ _ _ c.requires.found _
    (c.read.ensures.value ∙ c.requires.span.spells.last) c.if-read-spot.false c.in-AtTop.ensures c.raise.ensures.spells

pub returns-in-Some-clause-changed : goal.returns-in-Some-clause-changed
returns-in-Some-clause-changed g c =
    changed_moves (g.S.Words.memory c.args.store.now) (g.S.Words.memory c.move_block.new.store) _ _ _ c.requires.found _ c.in-Moves.ensures
    c.in-Some.ensures.moved
