use Rattle.rh_scene.proofs.Common.{◌≡◌, ◌<◌, ◌≤◌, ◌∙◌, ℕ, Bool, true, false, length, ap, sym, arith, ◌==◌, slice_get_within, Task}
use Rattle.rh_defs.specs.Desk.{most_tasks}
use Rattle.rh_scene.proofs.Places.{find-here, find-none, find-on}
use Rattle.rh_scene.proofs.tasks.task_with.Goals as goal

abbrev is_with : ℕ → Task → Bool
is_with h t = t.handle == h

pub returns-then-eq-clause-some : goal.returns-then-eq-clause-some
returns-then-eq-clause-some g c =
    let s = c.in-Some.ensures.some in
    let taken : is_with c.args.handle s.0 ≡ true = ap (λ n. n == c.args.handle) (sym s.2.handle) ∙ (sym c.eq.ensures ∙ c.if-eq.true) in
    (s.0, s.1, find-here (is_with c.args.handle) (g.S.Sight.desk c.args.sight.now).tasks c.tasks.i c.tasks.invariant s.0 s.1 taken)

pub overflow_add-i : goal.overflow_add-i
overflow_add-i g c =
    let s = c.in-Some.ensures.some in
    let few : length (g.S.Sight.desk c.args.sight.now).tasks ≤ most_tasks = c.in-Some.ensures.few in
    omega (arith, few, slice_get_within (g.S.Sight.desk c.args.sight.now).tasks c.tasks.i s.0 s.1)

pub tasks-smaller : goal.tasks-smaller
tasks-smaller g c =
    let s = c.in-Some.ensures.some in
    let inside : c.tasks.i < length (g.S.Sight.desk c.args.sight.now).tasks = slice_get_within (g.S.Sight.desk c.args.sight.now).tasks c.tasks.i s.0 s.1 in
    omega arith

pub tasks-preserved : goal.tasks-preserved
tasks-preserved g c =
    let s = c.in-Some.ensures.some in
    let left : is_with c.args.handle s.0 ≡ false = ap (λ n. n == c.args.handle) (sym s.2.handle) ∙ (sym c.eq.ensures ∙ c.if-eq.false) in
    find-on (is_with c.args.handle) (g.S.Sight.desk c.args.sight.now).tasks c.tasks.i c.tasks.invariant s.0 s.1 left

pub returns-clause-none : goal.returns-clause-none
returns-clause-none g c = find-none (is_with c.args.handle) (g.S.Sight.desk c.args.sight.now).tasks c.tasks.i c.tasks.invariant c.in_default.ensures.none
