use Rattle.rh_pictures.proofs.Common.{◌≡◌, ◌+◌, true, false, drop, ap, sym, refl, ◌∙◌, ◌||◌, list_any, Task, has_letters_in}
use Rattle.rh_pictures.proofs.PlaceLemmas.{walk-off, walk-on, walk-to}
use Rattle.rh_pictures.proofs.walks.letters.has_letterboxes.Goals as goal

pub returns-then-has_letters : goal.returns-then-has_letters
returns-then-has_letters g c =
    let s = c.in-Some.ensures.some in
    let ms = c.args.messages.now in
    let xs = (g.S.Sight.desk c.args.sight.now).tasks in
    let P = λ (t : Task). has_letters_in t.handle ms in
    let e : P s.0 ≡ true = ap (λ n. has_letters_in n ms) (sym s.2.handle) ∙ (sym c.has_letters.ensures ∙ c.if-has_letters.true) in
    walk-to (list_any P) xs c.tasks.i c.tasks.invariant s.0 true s.1 (ap (λ b. b || list_any P (drop (c.tasks.i + 1) xs)) e)

pub tasks-preserved : goal.tasks-preserved
tasks-preserved g c =
    let s = c.in-Some.ensures.some in
    let ms = c.args.messages.now in
    let xs = (g.S.Sight.desk c.args.sight.now).tasks in
    let P = λ (t : Task). has_letters_in t.handle ms in
    let e : P s.0 ≡ false = ap (λ n. has_letters_in n ms) (sym s.2.handle) ∙ (sym c.has_letters.ensures ∙ c.if-has_letters.false) in
    walk-on (list_any P) xs c.tasks.i c.tasks.invariant s.0 s.1 (ap (λ b. b || list_any P (drop (c.tasks.i + 1) xs)) e)

pub returns : goal.returns
returns g c =
    let ms = c.args.messages.now in
    walk-off (list_any (λ (t : Task). has_letters_in t.handle ms)) (g.S.Sight.desk c.args.sight.now).tasks c.tasks.i c.tasks.invariant false
    c.in_default.ensures.none refl
