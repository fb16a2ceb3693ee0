use Rattle.rh_pictures.proofs.Common.{◌≡◌, ◌-◌, length, drop, list_any, Task, has_letters_in}
use Rattle.rh_pictures.proofs.walks.letters.has_letterboxes.Given as goal

-- no task so far has a message
abbrev pub invariant-tasks : goal.invariant-tasks
invariant-tasks g l =
    let d = g.S.Sight.desk l.sight in
    list_any (λ (t : Task). has_letters_in t.handle l.messages) (drop l.i d.tasks)
    ≡ list_any (λ (t : Task). has_letters_in t.handle l.messages) d.tasks

abbrev pub decreases-tasks : goal.decreases-tasks
decreases-tasks g l = length (g.S.Sight.desk l.sight).tasks - l.i
