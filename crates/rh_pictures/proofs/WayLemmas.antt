-- The arrows of a chart, one by one.
use Rattle.rh_pictures.proofs.Common.{◌≡◌, ℕ, Bool, true, false, refl, ap, sym, ◌∙◌, List, [], ◌∷◌, ◌++◌, ◌==◌, not, filter, flat_map, inserted, steps_in}
use Rattle.rh_pictures.proofs.Common.{tasks_in, MessageArrow, arrows_seen}
use Rattle.rh_sheet.specs.Chart.{Arrow, ordered}
use Rattle.rh_pictures.specs.Inner.WaySteps.{with_step}

-- ---- steps, from the last arrow on

abbrev pub with_steps : List MessageArrow → List ℕ → List ℕ
with_steps [] steps = steps
with_steps (w ∷ ws) steps = with_step w.start (with_step w.stop (with_steps ws steps))

pub with_steps-last : (ws : List MessageArrow) (w : MessageArrow) (steps : List ℕ) → with_steps (ws ++ w ∷ []) steps
    ≡ with_steps ws (with_step w.start (with_step w.stop steps))
with_steps-last [] w steps = refl
with_steps-last (v ∷ ws) w steps = ap (λ z. with_step v.start (with_step v.stop z)) (with_steps-last ws w steps)

ordered-step : (s : ℕ) (ss : List ℕ) → ordered (filter (λ n. not (n == 0)) (s ∷ ss)) ≡ with_step s (ordered (filter (λ n. not (n == 0)) ss))
ordered-step s ss = go (s == 0) refl
  where
    go : (b : Bool) → (s == 0) ≡ b → ordered (filter (λ n. not (n == 0)) (s ∷ ss)) ≡ with_step s (ordered (filter (λ n. not (n == 0)) ss))
    go true e = rw e refl
    go false e = rw e refl

-- the steps of a chart
pub steps-are : (ws : List MessageArrow) → with_steps ws [] ≡ steps_in (arrows_seen ws)
steps-are [] = refl
steps-are (w ∷ ws) =
    let more : List ℕ = flat_map (λ (a : Arrow). a.start ∷ a.stop ∷ []) (arrows_seen ws) in
    ap (λ z. with_step w.start (with_step w.stop z)) (steps-are ws)
    ∙ (ap (with_step w.start) (sym (ordered-step w.stop more)) ∙ sym (ordered-step w.start (w.stop ∷ more)))

-- ---- tasks

abbrev pub with_tasks : List MessageArrow → List ℕ → List ℕ
with_tasks [] tasks = tasks
with_tasks (w ∷ ws) tasks = inserted w.from (inserted w.to (with_tasks ws tasks))

pub with_tasks-last : (ws : List MessageArrow) (w : MessageArrow) (tasks : List ℕ) → with_tasks (ws ++ w ∷ []) tasks
    ≡ with_tasks ws (inserted w.from (inserted w.to tasks))
with_tasks-last [] w tasks = refl
with_tasks-last (v ∷ ws) w tasks = ap (λ z. inserted v.from (inserted v.to z)) (with_tasks-last ws w tasks)

pub tasks-are : (ws : List MessageArrow) → with_tasks ws [] ≡ tasks_in (arrows_seen ws)
tasks-are [] = refl
tasks-are (w ∷ ws) = ap (λ z. inserted w.from (inserted w.to z)) (tasks-are ws)
