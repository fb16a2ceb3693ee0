-- A poll of a desk that a run reaches leaves less to do, or the post as it was.
use Rattle.rh_laws.proofs.Common.{◌≡◌, ℕ, ◌+◌, ◌≤◌, Bool, true, false, List, [], ◌∷◌, Option, Some, None, refl, sym, ap, subst, ◌∙◌, ◌⊎◌, inl, inr, arith}
use Rattle.rh_laws.proofs.Common.{◌==◌, if◌then◌else◌, nat_eq, Ok, Err, option_map, eq-eqb, Outgoing, Granted, ◌>>=◌, or_else, Split, total, Flex, Parcel}
use Rattle.rh_laws.proofs.Common.{Post, held_by, post_poll, out_id, Desk, Task, named, with_delivered, Answer, IsDesk, handled, poll, poll_taken, step, Edits}
use Rattle.rh_laws.proofs.Common.{Has, Offers, Ascend, either, is_equal, fits, the_task, field_is, blocks_of, task_of, view}
use Rattle.rh_defs.specs.declared.command.Command.TheVariants as command
use Rattle.rh_defs.specs.declared.reply.Reply.TheVariants as reply
use Rattle.rh_defs.specs.declared.transfer.Outgoing.TheVariants as outgoing
use Rattle.rh_defs.specs.declared.reply.Outcome.TheVariants as outcome
use Rattle.rh_defs.specs.AnyMessage.{as_read}
use Rattle.rh_defs.specs.RawTasks.{is_raw}
use Rattle.rh_defs.specs.Transfer.{received}
use Rattle.rh_safety.specs.RawIds.{Gave}
use Rattle.rh_safety.proofs.Keeps.{Stands}
use Rattle.rh_safety.proofs.SeenLaws.{block_is}
use Rattle.rh_safety.proofs.SeenTasks.{Distinct, NotIn}
use Rattle.rh_laws.specs.Progress.{events, out_work, source_work, task_work, work, work_queued}
use Rattle.rh_laws.proofs.WorkPosts.{IsIdle, OfTaken, polled-is}
use Rattle.rh_laws.proofs.WorkTasks.{Here, names_of, offered_work, outs_work, tasks_work, work_offered}
use Rattle.rh_laws.proofs.WorkPolls.{Falls, Owns, handled-falls, plain-falls}

-- ---- by what was offered

-- the sources are what was offered
pub good-owns : {o : Offers} {e : Edits} {R : Gave} (d : Desk) (t : Task) → task_of t.handle d.tasks ≡ Some t → Stands o e R (view d) → Owns o t
good-owns d t is g =
    let h : ℕ = t.handle in
    let sends : (view d).sending h ≡ t.sending = field_is (λ y. y.sending) [] h d.tasks t is in
    let blocks : (view d).block h ≡ blocks_of t.slot = field_is (λ y. blocks_of y.slot) (λ a. None) h d.tasks t is in
    record {
      ids = subst (Ascend out_id) sends (g.good.inv.order.outs h);
      sources = λ x has s found.
          let there_out = subst (Has (outgoing.Open x)) (sym sends) has in
          let w = g.good.inv.outs.source h x there_out in
          let there : blocks_of t.slot x.anchor ≡ Some w.all = ap (λ (f : ℕ → Option (List ℕ)). f x.anchor) (sym blocks) ∙ w.there in
          let here : blocks_of t.slot x.anchor ≡ Some s.here.bytes =
          block_is t.slot x.anchor ∙ ap (option_map (λ (b : Split Flex). b.here.bytes)) found in
          sym (g.same x.id (g.raws.outs h (outgoing.Open x) there_out)) ∙ w.offered ∙ (sym there ∙ here);
    }

-- two sizes that are the same of each member
total-same : {A : Type 0} (f g : A → ℕ) (xs : List A) → ((x : A) → Has x xs → f x ≡ g x) → total f xs ≡ total g xs
total-same f g [] same = refl
total-same f g (x ∷ xs) same =
    let here = same x (inl refl) in
    let rest = total-same f g xs (λ y has. same y (inr has)) in
    omega (arith, here, rest)

not_in-has : (h : ℕ) (ts : List Task) (t : Task) → NotIn h ts → Has t ts → t.handle ≡ h → ⊥
not_in-has h [] t out has same = has
not_in-has h (y ∷ ts) t out (inl e) same = out.0 (ap (λ (z : Task). z.handle) e ∙ same)
not_in-has h (y ∷ ts) t out (inr has) same = not_in-has h ts t out.1 has same

-- a live task is that of its handle
pub has-task : (ts : List Task) (t : Task) → Distinct ts → Has t ts → task_of t.handle ts ≡ Some t
has-task [] t apart has = absurd has
has-task (y ∷ ts) t apart (inl same) =
    let e : nat_eq y.handle t.handle ≡ true = eq-eqb _ _ (ap (λ (z : Task). z.handle) same) in rw e (ap Some same)
has-task (y ∷ ts) t apart (inr has) = go (y.handle == t.handle) refl (has-task ts t apart.1 has)
  where
    go : (b : Bool) → nat_eq y.handle t.handle ≡ b → task_of t.handle ts ≡ Some t → (if b then Some y else task_of t.handle ts) ≡ Some t
    go true e rest = absurd (not_in-has y.handle ts t apart.0 has (sym (is_equal _ _ e)))
    go false e rest = rest

-- the work at a desk, by its sources and by what was offered
pub work-is : {o : Offers} {e : Edits} {R : Gave} (d : Desk) → IsDesk d → Stands o e R (view d) → work d ≡ work_offered o d
work-is {o} d is g =
    let same : total task_work d.tasks ≡ tasks_work o d.tasks = total-same task_work (λ (t : Task). outs_work o t.sending) d.tasks (λ t has.
    total-same (out_work t.slot) (offered_work o) t.sending (out-same t (has-task d.tasks t (fits d is).handles has))) in
    omega (arith, same)
  where
    out-same : (t : Task) → task_of t.handle d.tasks ≡ Some t → (v : Outgoing) → Has v t.sending → out_work t.slot v ≡ offered_work o v
    out-same t at (outgoing.Open x) has =
        let sends : (view d).sending t.handle ≡ t.sending = field_is (λ y. y.sending) [] t.handle d.tasks t at in
        let blocks : (view d).block t.handle ≡ blocks_of t.slot = field_is (λ y. blocks_of y.slot) (λ a. None) t.handle d.tasks t at in
        let there_out = subst (Has (outgoing.Open x)) (sym sends) has in
        let w = g.good.inv.outs.source t.handle x there_out in
        let there : blocks_of t.slot x.anchor ≡ Some w.all = ap (λ (f : ℕ → Option (List ℕ)). f x.anchor) (sym blocks) ∙ w.there in
        ap (λ v. source_work v x.count) (sym (block_is t.slot x.anchor) ∙ there ∙ sym w.offered ∙
        g.same x.id (g.raws.outs t.handle (outgoing.Open x) there_out))
    out-same t at (outgoing.Done id k) has = refl
    out-same t at (outgoing.Failed id k) has = refl

-- ---- one poll

-- there is less to do, and no more was sent than taken
pub record Busy (o : Offers) (d : Desk) (a : Answer) : Type 0 where
  pub work : work_offered o a.0 + 1 ≤ work_offered o d
  pub next : a.0.post.next_ref ≤ d.post.next_ref + events (a.1 ∷ [])
  pub names : names_of a.0.tasks ≡ names_of d.tasks

-- nothing was taken or held
pub record Idle (d : Desk) (name : List ℕ) (a : Answer) : Type 0 where
  pub tasks : a.0.tasks ≡ d.tasks
  pub post : a.0.post ≡ d.post
  pub none : events (a.1 ∷ []) ≡ 0
  pub idle : (t : Task) → named name d ≡ Ok t → IsIdle t.handle d.post (post_poll t.handle d.post).0

abbrev pub Turn : Offers → Desk → List ℕ → Answer → Type 0
Turn o d name a = Busy o d a ⊎ Idle d name a

module _ {o : Offers} {e : Edits} {R : Gave} (d : Desk) (name : List ℕ) (is : IsDesk d) (g : Stands o e R (view d)) where
  module _ (t : Task) (found : named name d ≡ Ok t) where
    abbrev polled : Post × Option Parcel
    polled = post_poll t.handle d.post

    at : task_of t.handle d.tasks ≡ Some t
    at = the_task d name t (fits d is) found

    by-taken : (v : Option Parcel) → OfTaken t.handle d.post polled.0 v → Turn o d name (poll_taken (with_delivered polled.0 d) t v)
    unfolding poll_taken with_delivered
    by-taken None (inl w) =
        let less = w.0 in
        let next = w.1 in
        inl (record { work = omega (arith, less); next = omega (arith, next); names = refl })
    by-taken None (inr w) = inr (record {
      tasks = refl;
      post = w.same;
      none = refl;
      idle = λ u again.
          let same : u ≡ t = let z : ◌≡◌ {A = Granted Task} (Ok u) (Ok t) = sym again ∙ found in cc in
          subst (λ (y : Task). IsIdle y.handle d.post (post_poll y.handle d.post).0) (sym same) w;
    })
    by-taken (Some m) w =
        let after : Desk = with_delivered polled.0 d in
        let held : Option Parcel = held_by t.handle polled.0.seats in
        let on : Here o t.handle t.sending 0 (work_offered o after) d.post.next_ref held (names_of d.tasks) after = record {
          work = omega arith;
          sends = field_is (λ y. y.sending) [] t.handle d.tasks t at;
          holds = refl;
          next = w.next;
          names = refl;
        } in
        let own = good-owns d t at g in
        let read = as_read m in
        let z : Falls o t own (work_offered o after) d.post.next_ref held (names_of d.tasks) (work_queued m.code read.message.body)
        (received after t read) =
        either (Falls o t own (work_offered o after) d.post.next_ref held (names_of d.tasks) (work_queued m.code read.message.body))
        (is_raw t.manner) (after, outcome.Taken) (handled after t read m.code)
        (λ its. plain-falls o t own (work_offered o after) d.post.next_ref held (names_of d.tasks) w.room after outcome.Taken on)
        (λ plays. handled-falls o t own (work_offered o after) d.post.next_ref held (names_of d.tasks) read after on w.lets m.code w.back w.room) in
        let falls = z.work in
        let taken = w.work in
        let next = z.next in
        inl (record { work = omega (arith, falls, taken); next = omega (arith, next); names = z.names })

  poll-turn : (r : Granted Task) → named name d ≡ r →
      Turn o d name (or_else (r >>= λ t. Ok (poll_taken (with_delivered (post_poll t.handle d.post).0 d) t (post_poll t.handle d.post).1))
      (λ refusal. (d, reply.Refused refusal)))
  unfolding ◌>>=◌ or_else
  poll-turn (Ok t) found = by-taken t found (post_poll t.handle d.post).1 (polled-is t.handle d.post)
  poll-turn (Err refusal) found = inr (record {
    tasks = refl;
    post = refl;
    none = refl;
    idle = λ t again. absurd (let z : ◌≡◌ {A = Granted Task} (Err refusal) (Ok t) = sym found ∙ again in cc);
  })

  pub turn : Turn o d name (step d (command.Poll name))
  unfolding poll
  turn = poll-turn (named name d) refl
