-- Tasks and seats by their places.
use Rattle.std.proofs.Common.{◌≡◌, ℕ, zero, suc, ◌+◌, ◌≤◌, ◌<◌, refl, ap, sym, ◌∙◌, arith, List, [], ◌∷◌, length}
use Rattle.std.specs.Prelude.{Some, map, find, slice_get, ◌==◌}
use Rattle.std.proofs.lemmas.List.{length-map}
use Rattle.std.proofs.lemmas.Option.{slice_get_within}
use Rattle.rh_defs.specs.Desk.{Desk, Task, task_at, edit_task, with_task}
use Rattle.rh_defs.specs.Laws.{IsDesk, Rise, Ascend}
use Rattle.rh_defs.specs.Order.{IsReordered}
use Rattle.rh_tasks.specs.Inner.PollSteps.{IsAt}
use Rattle.rh_tasks.proofs.Lists.{Sits}
use Rattle.rh_tasks.proofs.Frames.{if_apart, if_same}

-- ---- lists

pub some-same : {A : Type 0} {x y : A} → (let a : _ = Some x in a) ≡ Some y → x ≡ y
some-same e = cc

pub member-at : {A : Type 0} (xs : List A) (i : ℕ) → i < length xs → (x : A) × (slice_get xs i ≡ Some x)
member-at [] i h = absurd (omega (arith, h))
member-at (x ∷ xs) zero h = (x, refl)
member-at (x ∷ xs) (suc i) h = member-at xs i (omega (arith, h))

-- numbers that go up are at least the least one
pub rise-at : {A : Type 0} (number : A → ℕ) (least next : ℕ) (xs : List A) (i : ℕ) (x : A) → Rise number least next xs → slice_get xs i ≡ Some x
    → least ≤ number x
rise-at number least next [] i x up at = absurd cc
rise-at number least next (y ∷ xs) zero x up at = omega (arith, up.0, ap number (some-same at))
rise-at number least next (y ∷ xs) (suc i) x up at = omega (arith, up.0, rise-at number (number y + 1) next xs i x up.1 at)

-- the member of a list that stands at a place of a mapped one
pub mapped-inside : {A B : Type 0} (f : A → B) (xs : List A) (i : ℕ) (y : B) → slice_get (map f xs) i ≡ Some y → i < length xs
mapped-inside f xs i y at = omega (arith, slice_get_within (map f xs) i y at, length-map xs f)

pub mapped-at : {A B : Type 0} (f : A → B) (xs : List A) (i : ℕ) (x : A) → Sits xs i x → slice_get (map f xs) i ≡ Some (f x)
mapped-at f [] i x at = absurd (omega (arith, at.inside))
mapped-at f (y ∷ xs) zero x at = ap (λ z. Some (f z)) at.is
mapped-at f (y ∷ xs) (suc i) x at = mapped-at f xs i x (record { inside = omega (arith, at.inside); is = at.is })

pub mapped-is : {A B : Type 0} (f : A → B) (xs : List A) (i : ℕ) (x : A) (y : B) → Sits xs i x → slice_get (map f xs) i ≡ Some y → f x ≡ y
mapped-is f xs i x y at e = some-same (sym (mapped-at f xs i x at) ∙ e)

-- ---- a task is edited

-- the task at a place is the first with its handle
pub found-at : (h least next : ℕ) (tasks : List Task) (i : ℕ) (t : Task) → Ascend least next tasks → slice_get tasks i ≡ Some t → t.handle ≡ h
    → find (λ (x : Task). x.handle == h) tasks ≡ Some t
found-at h least next [] i t up at is = absurd cc
found-at h least next (x ∷ tasks) zero t up at is = if_same x.handle h _ _ (ap (λ (y : Task). y.handle) (some-same at) ∙ is) ∙ at
found-at h least next (x ∷ tasks) (suc i) t up at is =
    if_apart x.handle h _ _ (λ q. absurd (omega (arith, q, is, rise-at (λ (y : Task). y.handle) (x.handle + 1) next tasks i t up.1 at)))
    ∙ found-at h (x.handle + 1) next tasks i t up.1 at is

-- and it is the one that is edited
pub edited-at : (h : ℕ) (edit : Task → Task) (least next : ℕ) (tasks : List Task) (i : ℕ) (t : Task) → Ascend least next tasks → slice_get tasks i ≡ Some t
    → t.handle ≡ h → slice_get (edit_task h edit tasks) i ≡ Some (edit t)
edited-at h edit least next [] i t up at is = absurd cc
edited-at h edit least next (x ∷ tasks) zero t up at is =
    ap (λ (l : List Task). slice_get l 0) (if_same x.handle h _ _ (ap (λ (y : Task). y.handle) (some-same at) ∙ is)) ∙ ap (λ y. Some (edit y)) (some-same at)
edited-at h edit least next (x ∷ tasks) (suc i) t up at is =
    ap (λ (l : List Task). slice_get l (suc i)) (if_apart x.handle h _ _
    (λ q. absurd (omega (arith, q, is, rise-at (λ (y : Task). y.handle) (x.handle + 1) next tasks i t up.1 at))))
    ∙ edited-at h edit (x.handle + 1) next tasks i t up.1 at is

-- ---- a desk's task at a place

pub task-found : (d : Desk) (i : ℕ) (t : Task) → IsDesk d → IsAt i t d → task_at t.handle d ≡ Some t
task-found d i t is at = found-at t.handle 0 d.next_handle d.tasks i t is.handles at refl

-- the desk has the edited task there
pub edited-is : (d : Desk) (i : ℕ) (t : Task) (edit : Task → Task) → IsDesk d → IsAt i t d → IsAt i (edit t) (with_task t.handle edit d)
unfolding with_task
edited-is d i t edit is at = edited-at t.handle edit 0 d.next_handle d.tasks i t is.handles at refl

-- two desks with the same tasks
pub same-at : (d e : Desk) (i : ℕ) (t : Task) → e.tasks ≡ d.tasks → IsAt i t d → IsAt i t e
same-at d e i t same at = ap (λ (l : List Task). slice_get l i) same ∙ at

pub reordered-at : (d e : Desk) (i : ℕ) (t : Task) → IsReordered d e → IsAt i t d → IsAt i t e
reordered-at d e i t r at = same-at d e i t (ap (λ (x : Desk). x.tasks) r.rest) at

-- a place has one task
pub one-at : (d : Desk) (i : ℕ) (t u : Task) → IsAt i t d → IsAt i u d → t ≡ u
one-at d i t u p q = some-same (sym p ∙ q)
