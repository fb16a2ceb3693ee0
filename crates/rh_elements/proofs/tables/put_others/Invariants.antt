use Rattle.rh_elements.proofs.Common.{◌≡◌, ◌++◌, take, escape}
use Rattle.rh_elements.specs.Inner.DrawLetters.{behind_commas}
use Rattle.rh_elements.proofs.tables.put_others.Given as goal

-- the messages so far were written
abbrev pub invariant-loop-entry : goal.invariant-loop-entry
invariant-loop-entry g l =
    g.P.Pen.offered l.pen ≡ g.P.Pen.offered l.initial.pen ++ escape (behind_commas (take l.entry-index l.others))
