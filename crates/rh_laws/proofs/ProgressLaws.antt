-- Polls alone: the messages that are taken, and rounds of all tasks, after which the post is at rest.
use Rattle.rh_laws.proofs.Common.{◌≡◌, ℕ, ◌+◌, ◌≤◌, Bool, true, false, List, [], ◌∷◌, ◌++◌, length, Option, Some, None, refl, sym, ap, subst, ◌∙◌, ◌⊎◌, inl}
use Rattle.rh_laws.proofs.Common.{inr, arith, ◌==◌, ◌&&◌, find, if◌then◌else◌, filter, nat_eq, Ok, Err, AllByRecursion, eq-eqb, bytes_eq-Decides, Command}
use Rattle.rh_laws.proofs.Common.{NoName, Reply, Granted, ◌>>=◌, found_or, or_else, total, IsDesk, Parcel, Post, Seat, bounce_held, first_for, has_seat}
use Rattle.rh_laws.proofs.Common.{held_by, post_poll, taken_from, all_in_range, in_range, Desk, Task, has_name, named, with_delivered, after, replies}
use Rattle.rh_laws.proofs.Common.{start_with, poll, poll_taken, step, after-is, start-is, step-keeps, Edits, Has, Offers, and_left, and_right, first_is}
use Rattle.rh_laws.proofs.Common.{has_of, none_some, fits, keeps, found_task, task_of, view}
use Rattle.std.specs.List.{Contains}
use Rattle.rh_defs.specs.declared.command.Command.TheVariants as command
use Rattle.rh_defs.specs.declared.reply.Reply.TheVariants as reply
use Rattle.rh_defs.specs.Laws.{IsQueued}
use Rattle.rh_defs.specs.Post.{taken}
use Rattle.rh_safety.specs.Names.{HaveOwnNames}
use Rattle.rh_safety.proofs.NameLaws.{always_own_names}
use Rattle.rh_safety.proofs.SeenFrames.{HaveOwnSeats}
use Rattle.rh_defs.specs.AnyMessage.{read_body}
use Rattle.rh_safety.specs.RawIds.{Gave}
use Rattle.rh_safety.proofs.Keeps.{Stands}
use Rattle.rh_safety.proofs.SeenLaws.{stands_after}
use Rattle.rh_safety.proofs.View.{of}
use Rattle.rh_laws.specs.Progress.{AlwaysProgresses, IsAtRest, NamesAll, events, held_work, is_event, parcel_work, polls, post_work, rounds_of}
use Rattle.rh_laws.proofs.Addresses.{all-has}
use Rattle.rh_laws.proofs.WorkPosts.{IsIdle, held-some, queued-some}
use Rattle.rh_laws.proofs.WorkTasks.{names_of, tasks_work, work_offered}
use Rattle.rh_laws.proofs.WorkTurns.{turn, work-is}

-- ---- replies

events-more : (r : Reply) (rs : List Reply) → events (r ∷ rs) ≡ events (r ∷ []) + events rs
events-more r rs = go (is_event r)
  where
    go : (b : Bool) → length (if b then r ∷ filter is_event rs else filter is_event rs) ≡ length (if b then r ∷ [] else []) + events rs
    go true = omega arith
    go false = omega arith

events-few : (r : Reply) → events (r ∷ []) ≤ 1
events-few r = go (is_event r)
  where
    go : (b : Bool) → length (if b then r ∷ [] else []) ≤ 1
    go true = omega arith
    go false = omega arith

-- ---- a desk that a run reaches

record Kept (o : Offers) (d : Desk) : Type 0 where
  edits : Edits
  gave : Gave
  stands : Stands o edits gave (view d)
  is : IsDesk d

kept-polled : {o : Offers} (d : Desk) (name : List ℕ) → in_range (command.Poll name) ≡ true → Kept o d → Kept o (step d (command.Poll name)).0
kept-polled d name ranged k = record {
  edits = k.edits;
  gave = k.gave;
  stands = keeps (command.Poll name) ranged d k.stands (fits d k.is);
  is = step-keeps d (command.Poll name) ranged k.is;
}

kept-after : {o : Offers} (names : List (List ℕ)) (d : Desk) → all_in_range (polls names) ≡ true → Kept o d → Kept o (after d (polls names))
kept-after [] d ranged k = k
kept-after (name ∷ names) d ranged k =
    kept-after names _ (and_right (in_range (command.Poll name)) _ ranged)
    (kept-polled d name (and_left (in_range (command.Poll name)) _ ranged) k)

-- ---- polls one after the other

record Ran (o : Offers) (d : Desk) (commands : List Command) : Type 0 where
  falls : events (replies d commands) + work_offered o (after d commands) ≤ work_offered o d
  sends : (after d commands).post.next_ref ≤ d.post.next_ref + events (replies d commands)
  names : names_of (after d commands).tasks ≡ names_of d.tasks

same-offered : (o : Offers) (d e : Desk) → e.tasks ≡ d.tasks → e.post ≡ d.post → work_offered o e ≡ work_offered o d
same-offered o d e tasks post =
    ap (λ (p : Post). post_work p + tasks_work o e.tasks) post ∙ ap (λ ts. post_work d.post + tasks_work o ts) tasks

ran : {o : Offers} (names : List (List ℕ)) (d : Desk) → all_in_range (polls names) ≡ true → Kept o d → Ran o d (polls names)
ran [] d ranged k = record { falls = omega arith; sends = omega arith; names = refl }
ran {o} (name ∷ names) d ranged k =
    let in_c = and_left (in_range (command.Poll name)) _ ranged in
    let r : Reply = (step d (command.Poll name)).1 in
    let next : Desk = (step d (command.Poll name)).0 in
    let z = ran names next (and_right (in_range (command.Poll name)) _ ranged) (kept-polled d name in_c k) in
    let falls = z.falls in
    let sends = z.sends in
    let more = events-more r (replies next (polls names)) in
    let few = events-few r in
    elim (turn d name k.is k.stands) [
      | inl w ↦
          let less = w.work in
          let sent = w.next in
          record { falls = omega (arith, falls, more, few, less); sends = omega (arith, sends, more, sent); names = z.names ∙ w.names }
      | inr w ↦
          let same = same-offered o d next w.tasks w.post in
          let none = w.none in
          let refs : next.post.next_ref ≡ d.post.next_ref = ap (λ (p : Post). p.next_ref) w.post in
          record {
            falls = omega (arith, falls, more, same, none);
            sends = omega (arith, sends, more, refs, none);
            names = z.names ∙ ap names_of w.tasks;
          }
    ]

-- ---- a round

-- each task that was polled was idle
record Still (d : Desk) (names : List (List ℕ)) : Type 0 where
  post : (after d (polls names)).post ≡ d.post
  idle : (name : List ℕ) → Has name names → (t : Task) → named name d ≡ Ok t → IsIdle t.handle d.post (post_poll t.handle d.post).0

same-named : (name : List ℕ) (d e : Desk) → e.tasks ≡ d.tasks → named name e ≡ named name d
unfolding named
same-named name d e same = ap (λ ts. found_or (find (has_name name) ts) NoName) same

pub found-named : (d : Desk) (name : List ℕ) (t : Task) → find (has_name name) d.tasks ≡ Some t → named name d ≡ Ok t
unfolding named found_or
found-named d name t found = ap (λ (v : Option Task). found_or v NoName) found

round : {o : Offers} (names : List (List ℕ)) (d : Desk) → all_in_range (polls names) ≡ true → Kept o d →
    (work_offered o (after d (polls names)) + 1 ≤ work_offered o d) ⊎ Still d names
round [] d ranged k = inr (record { post = refl; idle = λ name has. absurd has })
round {o} (name ∷ names) d ranged k =
    let in_c = and_left (in_range (command.Poll name)) _ ranged in
    let rest = and_right (in_range (command.Poll name)) _ ranged in
    let next : Desk = (step d (command.Poll name)).0 in
    let after_one = kept-polled d name in_c k in
    elim (turn d name k.is k.stands) [
      | inl w ↦
          let less = w.work in
          let falls = (ran names next rest after_one).falls in
          inl (omega (arith, less, falls))
      | inr w ↦
          let same = same-offered o d next w.tasks w.post in
          elim (round names next rest after_one) [
            | inl z ↦ inl (omega (arith, z, same))
            | inr s ↦ inr (record { post = s.post ∙ w.post; idle = both next w.post w.tasks w.idle s })
          ]
    ]
  where
    both : (next : Desk) → next.post ≡ d.post → next.tasks ≡ d.tasks →
        ((t : Task) → named name d ≡ Ok t → IsIdle t.handle d.post (post_poll t.handle d.post).0) → Still next names →
        (other : List ℕ) → Has other (name ∷ names) → (t : Task) →
        named other d ≡ Ok t → IsIdle t.handle d.post (post_poll t.handle d.post).0
    both next p q idle s other (inl here) t found = idle t (ap (λ n. named n d) here ∙ found)
    both next p q idle s other (inr has) t found =
        subst (λ (p : Post). IsIdle t.handle p (post_poll t.handle p).0) p (s.idle other has t (same-named other d next q ∙ found))

-- ---- at rest

-- a member of a list, and all of them
all-from : {A : Type 0} (P : A → Type 0) (xs : List A) → ((x : A) → Has x xs → P x) → AllByRecursion P xs
all-from P [] each = tt
all-from P (x ∷ xs) each = (each x (inl refl), all-from P xs (λ y has. each y (inr has)))

-- what is there is found
pub find-has : {A : Type 0} (p : A → Bool) (xs : List A) (x : A) → Has x xs → p x ≡ true → (y : A) × (find p xs ≡ Some y)
find-has p [] x has passes = absurd has
find-has {A} p (y ∷ xs) x (inl same) passes = (y, let e : p y ≡ true = ap p same ∙ passes in rw e refl)
find-has {A} p (y ∷ xs) x (inr has) passes = go (p y) (find-has p xs x has passes)
  where
    go : (b : Bool) → (z : A) × (find p xs ≡ Some z) → (z : A) × ((if b then Some y else find p xs) ≡ Some z)
    go true rest = (y, refl)
    go false rest = rest

has-seat : (seats : List Seat) (s : Seat) → Has s seats → has_seat s.handle seats ≡ true
has-seat [] s has = absurd has
has-seat (y ∷ seats) s (inl same) = let e : nat_eq y.handle s.handle ≡ true = eq-eqb _ _ (ap (λ (z : Seat). z.handle) same) in rw e refl
has-seat (y ∷ seats) s (inr has) = go (y.handle == s.handle) (has-seat seats s has)
  where
    go : (b : Bool) → has_seat s.handle seats ≡ true → (if b then true else has_seat s.handle seats) ≡ true
    go true rest = refl
    go false rest = rest

first-some : (p : Parcel) (queue : List Parcel) → first_for p.to (p ∷ queue) ≡ Some (p, queue)
first-some p queue = let e : nat_eq p.to p.to ≡ true = eq-eqb _ _ refl in rw e refl

module _ (d : Desk) (names : List (List ℕ)) (s : Still d names) (all : NamesAll d names) (is : IsDesk d) (own : HaveOwnNames d) where
  -- each live task was polled
  seat-idle : (k : ℕ) → has_seat k d.post.seats ≡ true → IsIdle k d.post (post_poll k d.post).0
  seat-idle k seat = of_task (task_of k d.tasks) refl (sym ((fits d is).seats k) ∙ seat)
    where
      idle : (t u : Task) → task_of k d.tasks ≡ Some t → Has t.name names → find (has_name t.name) d.tasks ≡ Some u →
          IsIdle k d.post (post_poll k d.post).0
      idle t u at has found =
          let there = found_task (has_name t.name) d.tasks u (fits d is).handles found in
          let name : u.name ≡ t.name = (bytes_eq-Decides u.name t.name).0 (first_is (has_name t.name) d.tasks u found).1 in
          let same : u.handle ≡ k = own u.handle k u t there at name in
          let known : named t.name d ≡ Ok u = found-named d t.name u found in
          subst (λ j. IsIdle j d.post (post_poll j d.post).0) same (s.idle t.name has u known)

      of_task : (v : Option Task) → task_of k d.tasks ≡ v → of (λ t. true) false v ≡ true → IsIdle k d.post (post_poll k d.post).0
      of_task None at live = absurd cc
      of_task (Some t) at live =
          let has : Has t d.tasks = (first_is (λ (y : Task). y.handle == k) d.tasks t at).0 in
          let name : Has t.name names = has_of names t.name (all-has (λ (y : Task). Contains names y.name) d.tasks t all has) in
          let found = find-has (has_name t.name) d.tasks t has ((bytes_eq-Decides t.name t.name).1 refl) in
          idle t found.0 at name found.1

  still-rests : IsAtRest d.post
  still-rests = record {
    queue = of_queue d.post.queued refl is.post.queued;
    held = all-from (λ (x : Seat). x.holds ≡ None) d.post.seats (λ x has.
        let w = seat-idle x.handle (has-seat d.post.seats x has) in
        let seats : HaveOwnSeats d.post = subst HaveOwnSeats w.same ((fits d is).polled x.handle) in
        sym (seats x has) ∙ w.bare);
  }
    where
      of_queue : (queue : List Parcel) → d.post.queued ≡ queue → AllByRecursion (IsQueued d.post.next_ref d.post.seats) queue → queue ≡ []
      of_queue [] q live = refl
      of_queue (p ∷ queue) q live =
          let w = seat-idle p.to live.0.live in
          absurd (none_some (first_for p.to (p ∷ queue)) (ap (first_for p.to) (sym q) ∙ w.none) (first-some p queue))

-- where there is nothing to do, the post is at rest
nothing-rests : (post : Post) → post_work post ≡ 0 → IsAtRest post
nothing-rests post none = record {
  queue = of_queue post.queued (omega (arith, none));
  held = of_seats post.seats (omega (arith, none));
}
  where
    of_queue : (queue : List Parcel) → total parcel_work queue ≡ 0 → queue ≡ []
    of_queue [] e = refl
    of_queue (p ∷ queue) e = absurd (let z = queued-some p.code (read_body p.message.body) in omega (arith, z, e))

    of_seats : (seats : List Seat) → total (λ (s : Seat). held_work s.holds) seats ≡ 0 → AllByRecursion (λ (s : Seat). s.holds ≡ None) seats
    of_seats [] e = tt
    of_seats (s ∷ seats) e = (held-some s.holds (omega (arith, e)), of_seats seats (omega (arith, e)))

-- a post at rest stays at rest
rest-held : (h : ℕ) (seats : List Seat) → AllByRecursion (λ (s : Seat). s.holds ≡ None) seats → held_by h seats ≡ None
rest-held h [] all = refl
rest-held h (s ∷ seats) all = go (s.handle == h) (rest-held h seats all.1)
  where
    go : (b : Bool) → held_by h seats ≡ None → (if b then s.holds else held_by h seats) ≡ None
    go true rest = all.0
    go false rest = rest

rest-poll : (h : ℕ) (post : Post) → IsAtRest post → post_poll h post ≡ (post, None)
unfolding post_poll
rest-poll h post rest =
    ap (λ held. taken h (bounce_held h held post)) (rest-held h post.seats rest.held)
    ∙ ap (λ queue. taken_from h (first_for h queue) post) rest.queue

-- nothing comes of the poll
of_grant : (d : Desk) (r : Granted Task) → IsAtRest d.post →
    (or_else (r >>= λ t. Ok (poll_taken (with_delivered (post_poll t.handle d.post).0 d) t (post_poll t.handle d.post).1))
    (λ refusal. (d, reply.Refused refusal))).0.post ≡ d.post
unfolding ◌>>=◌ or_else poll_taken with_delivered
of_grant d (Ok t) rest = ap (λ (x : Post × Option Parcel). (poll_taken (with_delivered x.0 d) t x.1).0.post) (rest-poll t.handle d.post rest)
of_grant d (Err refusal) rest = refl

rest-step : (d : Desk) (name : List ℕ) → IsAtRest d.post → (step d (command.Poll name)).0.post ≡ d.post
unfolding poll
rest-step d name rest = of_grant d (named name d) rest

rest-after : (names : List (List ℕ)) (d : Desk) → IsAtRest d.post → IsAtRest (after d (polls names)).post
rest-after [] d rest = rest
rest-after (name ∷ names) d rest = rest-after names _ (subst IsAtRest (sym (rest-step d name rest)) rest)

-- ---- rounds

pub after-both : (d : Desk) (xs ys : List Command) → after d (xs ++ ys) ≡ after (after d xs) ys
after-both d [] ys = refl
after-both d (x ∷ xs) ys = after-both (step d x).0 xs ys

ranged-first : (xs ys : List Command) → all_in_range (xs ++ ys) ≡ true → all_in_range xs ≡ true
ranged-first [] ys ranged = refl
ranged-first (x ∷ xs) ys ranged =
    and-both (in_range x) (all_in_range xs) (and_left (in_range x) _ ranged) (ranged-first xs ys (and_right (in_range x) _ ranged))
  where
    and-both : (a b : Bool) → a ≡ true → b ≡ true → (a && b) ≡ true
    and-both true b p q = q
    and-both false b p q = absurd cc

ranged-rest : (xs ys : List Command) → all_in_range (xs ++ ys) ≡ true → all_in_range ys ≡ true
ranged-rest [] ys ranged = ranged
ranged-rest (x ∷ xs) ys ranged = ranged-rest xs ys (and_right (in_range x) _ ranged)

ranged-both : (xs ys : List Command) → all_in_range xs ≡ true → all_in_range ys ≡ true → all_in_range (xs ++ ys) ≡ true
ranged-both [] ys p q = q
ranged-both (x ∷ xs) ys p q = go (in_range x) p (λ rest. ranged-both xs ys rest q)
  where
    go : (b : Bool) → (b && all_in_range xs) ≡ true → (all_in_range xs ≡ true → all_in_range (xs ++ ys) ≡ true) →
        (b && all_in_range (xs ++ ys)) ≡ true
    go true rest more = more rest
    go false rest more = rest

-- what is asked of the names, by the names alone
names-to : (names : List (List ℕ)) (ts : List Task) → AllByRecursion (λ (t : Task). Contains names t.name) ts → AllByRecursion (Contains names) (names_of ts)
names-to names [] all = tt
names-to names (t ∷ ts) all = (all.0, names-to names ts all.1)

names-from : (names : List (List ℕ)) (ts : List Task) → AllByRecursion (Contains names) (names_of ts) → AllByRecursion (λ (t : Task). Contains names t.name) ts
names-from names [] all = tt
names-from names (t ∷ ts) all = (all.0, names-from names ts all.1)

all-named : (d e : Desk) → names_of e.tasks ≡ names_of d.tasks → (rounds : List (List (List ℕ))) → AllByRecursion (NamesAll d) rounds →
    AllByRecursion (NamesAll e) rounds
all-named d e same [] all = tt
all-named d e same (names ∷ rounds) all = (
  names-from names e.tasks (subst (AllByRecursion (Contains names)) (sym same) (names-to names d.tasks all.0)),
  all-named d e same rounds all.1,
)

-- the names differ after any polls
abbrev OwnAfter : Desk → Type 0
OwnAfter d = (commands : List Command) → all_in_range commands ≡ true → HaveOwnNames (after d commands)

rest-rounds : (rounds : List (List (List ℕ))) (d : Desk) → IsAtRest d.post → IsAtRest (after d (rounds_of rounds)).post
rest-rounds [] d rest = rest
rest-rounds (names ∷ rounds) d rest =
    subst (λ (e : Desk). IsAtRest e.post) (sym (after-both d (polls names) (rounds_of rounds)))
    (rest-rounds rounds (after d (polls names)) (rest-after names d rest))

rounds-rest : {o : Offers} (rounds : List (List (List ℕ))) (d : Desk) → all_in_range (rounds_of rounds) ≡ true → Kept o d → OwnAfter d →
    AllByRecursion (NamesAll d) rounds → work_offered o d ≤ length rounds → IsAtRest (after d (rounds_of rounds)).post
rounds-rest [] d ranged k own all few = nothing-rests d.post (omega (arith, few))
rounds-rest {o} (names ∷ rounds) d ranged k own all few =
    let first = ranged-first (polls names) (rounds_of rounds) ranged in
    let rest = ranged-rest (polls names) (rounds_of rounds) ranged in
    let next : Desk = after d (polls names) in
    subst (λ (e : Desk). IsAtRest e.post) (sym (after-both d (polls names) (rounds_of rounds)))
    (elim (round names d first k) [
      | inl w ↦ rounds-rest rounds next rest (kept-after names d first k)
          (λ commands in_range. subst HaveOwnNames (after-both d (polls names) commands)
          (own (polls names ++ commands) (ranged-both (polls names) commands first in_range)))
          (all-named d next (ran names d first k).names rounds all.1) (omega (arith, w, few))
      | inr s ↦ rest-rounds rounds next (subst IsAtRest (sym s.post) (still-rests d names s all.0 k.is (own [] refl)))
    ])

-- ---- the law

pub always-progresses : AlwaysProgresses
always-progresses pool handle ref files commands from ranged =
    let d : Desk = start_with pool files handle ref in
    let e : Desk = after d commands in
    let is : IsDesk e = after-is d commands ranged (start-is pool handle ref files from) in
    let stands = stands_after pool handle ref files commands from ranged in
    let k : Kept _ e = record { edits = _; gave = _; stands = stands; is = is } in
    let own : OwnAfter e = λ more in_range. subst HaveOwnNames (after-both d commands more)
    (always_own_names pool handle ref files (commands ++ more) from (ranged-both commands more ranged in_range)) in
    let here = work-is e is stands in
    record {
      falls = λ names in_range.
          let z = ran names e in_range k in
          let later = kept-after names e in_range k in
          let there = work-is (after e (polls names)) later.is later.stands in
          let falls = z.falls in
          record { falls = omega (arith, falls, here, there); sends = z.sends };
      rests = λ rounds in_range all few. rounds-rest rounds e in_range k own all (omega (arith, few, here));
    }
