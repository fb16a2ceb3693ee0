-- The turns of a death.
use Rattle.rh_wimp.proofs.Common.{◌≡◌, ℕ, ◌+◌, ◌<◌, ◌≤◌, List, [], ◌∷◌, length, refl, sym, ap, subst, ◌∙◌, arith, Option, Some, None, true, false, ◌==◌, Heap}
use Rattle.rh_wimp.proofs.Common.{release_block, Memory, OnlyArea, Parcel, is_recorded, Post, held_by, bounced, without_block, post_death, most_messages}
use Rattle.rh_wimp.proofs.Common.{cond_true}
use Rattle.rh_wimp.proofs.Common.{cond_false, eqb_same, eqb_apart, IsModule, module_heap_in, Module, Chains, ArePostChains, Lifted, MayBounce, SpellsPostIn}
use Rattle.rh_wimp.proofs.Common.{entry_at}
use Rattle.rh_wimp.proofs.Common.{ended_from, lifted, queue_to, settled_from, without_seat}
use Rattle.rh_defs.specs.Post.{bounce_all}
use Rattle.rh_wimp.specs.Inner.LooseMessages.{TakesFirst}
use Rattle.rh_wimp.specs.Inner.Deaths.{Drained, Drains, bounced_from}
use Rattle.rh_wimp.proofs.BounceLaws.{vanished}
use Rattle.rh_wimp.proofs.DeathLaws.{death-settled, death-step, queue-ended, seats-ended, seats-from}
use Rattle.rh_wimp.proofs.LeaveLaws.{left_chains, seat-left}
use Rattle.rh_wimp.proofs.PollLaws.{Stays, none-held, same-handle, same-length}
use Rattle.rh_wimp.proofs.PostLaws.{seat_at}
use Rattle.rh_wimp.proofs.SearchLaws.{fewer-filter}
use Rattle.rh_wimp.proofs.SendLaws.{as_many, seated}
use Rattle.rh_wimp.proofs.TakeLaws.{first-none, first-some, rest_of}

-- ---- one message
-- a loose message whose block was freed
pub may-vanish : (m : Memory) (module_area : Module) (q : Chains) (post : Post) (p : Parcel) (block : ℕ) (k : Heap) → MayBounce m module_area q post p block
    → k ≡ release_block block (module_heap_in m module_area) → ArePostChains k q (without_block p post)
may-vanish m module_area q post p block k w e =
    subst (λ (g : Heap). ArePostChains g q (without_block p post)) (sym (e ∙ ap (λ a. release_block a (module_heap_in m module_area)) w.block_is))
    (vanished (module_heap_in m module_area) q post p w.spells w.loose)

pub from-dying : (h : ℕ) (p : Parcel) (post : Post) → p.message.from ≡ h → bounced_from h p post ≡ without_block p post
from-dying h p post e = cond_true (p.message.from == h) (without_block p post) (bounced p post) (eqb_same p.message.from h e)

pub from-other : (h : ℕ) (p : Parcel) (post : Post) → (p.message.from ≡ h → ⊥) → bounced_from h p post ≡ bounced p post
from-other h p post ne = cond_false (p.message.from == h) (without_block p post) (bounced p post) (eqb_apart p.message.from h ne)

pub ended-bounces : (h : ℕ) (p : Parcel) (post : Post) → is_recorded p.code ≡ true → ended_from h p post ≡ bounced_from h p post
ended-bounces h p post e = cond_true (is_recorded p.code) (bounced_from h p post) (without_block p post) e

pub ended-vanishes : (h : ℕ) (p : Parcel) (post : Post) → is_recorded p.code ≡ false → ended_from h p post ≡ without_block p post
ended-vanishes h p post e = cond_false (is_recorded p.code) (bounced_from h p post) (without_block p post) e

-- ---- the turns
pub drained-start : (m : Memory) (module_area : Module) (q : Chains) (post : Post) (h : ℕ) → SpellsPostIn m module_area q post → Drains m module_area q post h 0
drained-start m module_area q post h s =
    let f = fewer-filter (λ (p : Parcel). p.to == h) post.queued in
    let few = s.few in
    (post, record { spells = s; same = refl; few = omega arith; seats = refl })

pub drained-step : (m n k : Memory) (module_area : Module) (q q1 q2 : Chains) (post now : Post) (h turn block : ℕ) (t : Parcel × List Parcel)
    → Drained m module_area q post h turn now → Lifted n module_area q1 now h block t
    → SpellsPostIn k module_area q2 (ended_from h t.0 (rest_of t.1 now)) → Drains k module_area q2 post h (turn + 1)
drained-step m n k module_area q q1 q2 post now h turn block t d w s =
    let f = first-some h now.queued t w.first in
    let l = ap length f.same in
    let e = ap length (queue-ended h t.0 (rest_of t.1 now)) in
    let few = d.few in (
      ended_from h t.0 (rest_of t.1 now),
      record { spells = s; same = death-step h now t.0 t.1 f ∙ d.same; few = omega arith; seats = seats-ended h t.0 (rest_of t.1 now) ∙ d.seats },
    )

pub drained-end : (m n : Memory) (module_area : Module) (q q1 : Chains) (post now : Post) (h turn : ℕ) → Drained m module_area q post h turn now
    → TakesFirst n module_area q1 now h None → Drains n module_area q1 post h most_messages
drained-end m n module_area q q1 post now h turn d w =
    let l = ap length (first-none h now.queued w.0) in
    (now, record { spells = w.1; same = d.same; few = omega arith; seats = d.seats })

-- what the loop keeps
pub record Ends (m n : Memory) (module_area : Module) (q k : Chains) (h i turn : ℕ) : Type 0 where
  pub still : IsModule n module_area
  pub only : OnlyArea m n module_area.area.0
  pub within : i < length k.entries
  pub handle : (entry_at k.entries i).handle ≡ h
  pub drains : (post : Post) → SpellsPostIn m module_area q post → Drains n module_area k post h turn

-- ---- places
-- the place of a task stays where the seats have the same handles
pub place-stays : (h g : Heap) (q k : Chains) (post other : Post) (i : ℕ) → length other.seats ≡ length post.seats
    → (seat_at other.seats i).handle ≡ (seat_at post.seats i).handle → ArePostChains h q post → ArePostChains g k other → i < length q.entries → Stays q k i
place-stays h g q k post other i el eh s t l =
    let a = as_many h q post s in
    let b = as_many g k other t in
    record { within = omega arith; handle = (seated g k other i t (omega arith)).handle ∙ eh ∙ sym (seated h q post i s l).handle }

pub settled-stays : (h g : Heap) (q k : Chains) (post : Post) (x i : ℕ) (o : Option Parcel) → ArePostChains h q post → ArePostChains g k (settled_from x o post)
    → i < length q.entries → Stays q k i
settled-stays h g q k post x i None s t l = place-stays h g q k post post i refl refl s t l
settled-stays h g q k post x i (Some p) s t l =
    let e = seats-from x p (lifted x post) in
    place-stays h g q k post (bounced_from x p (lifted x post)) i (ap length e ∙ same-length x post.seats)
    (ap (λ ss. (seat_at ss i).handle) e ∙ same-handle x post.seats i) s t l

pub settled-none : (x : ℕ) (o : Option Parcel) (post : Post) → held_by x post.seats ≡ o → held_by x (settled_from x o post).seats ≡ None
settled-none x None post e = e
settled-none x (Some p) post e = ap (held_by x) (seats-from x p (lifted x post)) ∙ none-held x post.seats

-- ---- the end
no_length : (ps : List Parcel) → length ps ≤ 0 → ps ≡ []
no_length [] l = refl
no_length (p ∷ ps) l = absurd (omega arith)

-- once no message is left for the handle, its seat goes
pub death-done : (m : Memory) (module_area : Module) (q : Chains) (post : Post) (x i : ℕ) → i < length q.entries → (entry_at q.entries i).handle ≡ x
    → Drains m module_area q (settled_from x (held_by x post.seats) post) x most_messages → ArePostChains (module_heap_in m module_area) (left_chains i q)
    (post_death x post)
death-done m module_area q post x i lt e d =
    let now : Post = d.0 in
    let few = d.1.few in
    let empty : queue_to x now.queued ≡ [] = no_length (queue_to x now.queued) (omega arith) in
    let none : held_by x now.seats ≡ None = ap (held_by x) d.1.seats ∙ settled-none x (held_by x post.seats) post refl in
    let is : post_death x post ≡ without_seat x now = death-settled x post ∙ sym d.1.same ∙ ap (λ l. bounce_all l (without_seat x now)) empty in
    subst (λ (y : Post). ArePostChains (module_heap_in m module_area) (left_chains i q) y) (sym is)
    (seat-left (module_heap_in m module_area) q now x i d.1.spells lt e none empty)
