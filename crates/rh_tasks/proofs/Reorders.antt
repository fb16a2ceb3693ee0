-- Desks that differ in the order of messages to different tasks alone.
use Rattle.std.proofs.Common.{◌≡◌, ℕ, Bool, true, false, cond, refl, ap, sym, subst, ◌∙◌, arith, List, [], ◌∷◌}
use Rattle.std.specs.Prelude.{filter, ◌==◌}
use Rattle.std.specs.List.{AllByRecursion}
use Rattle.rh_defs.specs.Messages.{Parcel}
use Rattle.rh_defs.specs.Post.{Post}
use Rattle.rh_defs.specs.Desk.{Desk, Task, with_task}
use Rattle.rh_defs.specs.Laws.{IsDesk, IsPost, IsQueued}
use Rattle.rh_defs.specs.Order.{is_to, SameForEach, requeued, with_queue, IsReordered}
use Rattle.rh_defs.proofs.Orders.{same-length}

pub same-refl : (queue : List Parcel) → SameForEach queue queue
same-refl queue = record { each = λ h. refl }

pub same-trans : {a b c : List Parcel} → SameForEach a b → SameForEach b c → SameForEach a c
same-trans p q = record { each = λ h. p.each h ∙ q.each h }

pub reordered-refl : (d : Desk) → IsReordered d d
reordered-refl d = record { same = same-refl d.post.queued; rest = refl }

pub reordered-trans : {a b c : Desk} → IsReordered a b → IsReordered b c → IsReordered a c
reordered-trans {a} {b} {c} p q = record { same = same-trans p.same q.same; rest = q.rest ∙ ap (with_queue c.post.queued) p.rest }

-- an edit of a task doesn't see the order
pub edit-alike : {d e : Desk} (h : ℕ) (edit : Task → Task) → IsReordered d e → IsReordered (with_task h edit d) (with_task h edit e)
unfolding with_task
edit-alike h edit r = record { same = r.same; rest = ap (with_task h edit) r.rest }

pub same-alike : {d e : Desk} → d ≡ e → IsReordered d e
same-alike {d} q = subst (IsReordered d) q (reordered-refl d)

-- ---- what holds of every queued message

all-filtered : {A : Type 0} (P : A → Type 0) (test : A → Bool) (xs : List A) → AllByRecursion P xs → AllByRecursion P (filter test xs)
all-filtered P test [] all = tt
all-filtered P test (x ∷ xs) all =
    elim (test x) as (λ b. AllByRecursion P (cond b (x ∷ filter test xs) (filter test xs)))
    [ true ↦ (all.0, all-filtered P test xs all.1) | false ↦ all-filtered P test xs all.1 ]

equal : (n : ℕ) → (n == n) ≡ true
equal n = grind arith

all-each : (P : Parcel → Type 0) (ps : List Parcel) → ((h : ℕ) → AllByRecursion P (filter (is_to h) ps)) → AllByRecursion P ps
all-each P [] all = tt
all-each P (p ∷ ps) all =
    let own : AllByRecursion P (cond true (p ∷ filter (is_to p.to) ps) (filter (is_to p.to) ps)) =
    subst (λ (b : Bool). AllByRecursion P (cond b (p ∷ filter (is_to p.to) ps) (filter (is_to p.to) ps))) (equal p.to) (all p.to) in
    (own.0, all-each P ps (λ h. behind h (p.to == h) (all h)))
  where
    behind : (h : ℕ) (b : Bool) → AllByRecursion P (cond b (p ∷ filter (is_to h) ps) (filter (is_to h) ps)) → AllByRecursion P (filter (is_to h) ps)
    behind h true a = a.1
    behind h false a = a

pub all-same : (P : Parcel → Type 0) (ps qs : List Parcel) → SameForEach ps qs → AllByRecursion P ps → AllByRecursion P qs
all-same P ps qs same all = all-each P qs (λ h. subst (AllByRecursion P) (same.each h) (all-filtered P (is_to h) ps all))

-- ---- the desk

post-requeued : (post : Post) (queue : List Parcel) → SameForEach post.queued queue → IsPost post → IsPost (requeued queue post)
post-requeued post queue same is = record {
  heap = is.heap;
  few = omega (arith, is.few, same-length post.queued queue same);
  refs = is.refs;
  queued = all-same (IsQueued post.next_ref post.seats) post.queued queue same is.queued;
  held = is.held;
}

pub desk-reordered : (a b : Desk) → IsReordered a b → IsDesk a → IsDesk b
desk-reordered a b r is = subst IsDesk (sym r.rest) (record {
  pool = is.pool;
  pages = is.pages;
  handles = is.handles;
  last = is.last;
  few = is.few;
  slots = is.slots;
  seats = is.seats;
  post = post-requeued a.post b.post.queued r.same is.post;
  areas = is.areas;
  made = is.made;
  scrap = is.scrap;
})
