-- What a task with code of its own holds is answered, and nothing is sent.
use Rattle.rh_tasks.proofs.Common.{◌≡◌, ℕ, true, false, refl, ap, sym, ◌∙◌, List, Option, Some, None, Ok, Err, not, option_map, Memory, FileList}
use Rattle.rh_tasks.proofs.Common.{Granted, Parcel, Desk, with_delivered, Answer, IsReordered, Answers, Chains, Seat, MadeArea, Kept, the_module}
use Rattle.rh_tasks.proofs.Common.{task_of, desk_of, IsWorld, FoundSeat, begins, stops, past, sits, named-is}
use Rattle.std.specs.Prelude.{unwrap_or}
use Rattle.rh_defs.specs.declared.refusal.Refusal.TheVariants.{WrongManner}
use Rattle.rh_defs.specs.declared.reply.Reply.TheVariants as reply
use Rattle.rh_defs.specs.Post.{held_by, put_down}
use Rattle.rh_defs.specs.RawCommands.{ack, ref_of_held}
use Rattle.rh_defs.specs.RawTasks.{is_raw}
use Rattle.rh_wimp.specs.QueueCalls.{LeavesChains}
use Rattle.rh_tasks.proofs.Posts.{is-post}
use Rattle.rh_tasks.proofs.Takes.{delivered-world, delivered-here, good-answer, kept_then}

ref-told : (o : Option Parcel) → unwrap_or (option_map (λ (p : Parcel). p.message.my_ref) o) 0 ≡ ref_of_held o
ref-told None = refl
ref-told (Some p) = refl

module _ {m : Memory} {seats : List Seat} {made : List MadeArea} {files : FileList} {kept : Kept} {name : List ℕ} {i : ℕ} {s : Seat}
    (w : IsWorld m seats made files kept) (f : FoundSeat name seats i s) where
  abbrev d : Desk
  d = desk_of m seats made files kept

  pub ack-refused : is_raw s.manner ≡ false → ack d name ≡ Err WrongManner
  unfolding ack task_of
  ack-refused e = begins _ (named-is m made files kept f) (stops (not (is_raw s.manner)) WrongManner _ (ap not e))

  module _ (raw : is_raw s.manner ≡ true) {n : Memory} {k : Chains} (l : LeavesChains m n the_module kept.queue k (put_down s.handle)) where
    pub ack-world : IsWorld n seats made files (kept_then w (sits f) l)
    ack-world = delivered-world w (sits f) l (good-answer w (sits f))

    acked : ack d name ≡ Ok (with_delivered (put_down s.handle d.post) d, reply.Answering (ref_of_held (held_by s.handle d.post.seats)))
    unfolding ack task_of
    acked = begins _ (named-is m made files kept f) (past (not (is_raw s.manner)) WrongManner _ (ap not raw) refl)

    pub ack-done : (answered : Option ℕ)
        → Answers m the_module kept.queue (λ post. option_map (λ (p : Parcel). p.message.my_ref) (held_by s.handle post.seats)) answered
        → (y : Desk) × ((ack d name ≡ Ok (y, reply.Answering (unwrap_or answered 0))) × IsReordered y
        (desk_of n seats made files (kept_then w (sits f) l)))
    ack-done answered a =
        let told : ref_of_held (held_by s.handle d.post.seats) ≡ unwrap_or answered 0 =
        sym (ref-told (held_by s.handle d.post.seats)) ∙ sym (ap (λ o. unwrap_or o 0) (a d.post (is-post w))) in (
          with_delivered (put_down s.handle d.post) d,
          (
            acked ∙ ap (λ r. let g : Granted Answer = Ok (with_delivered (put_down s.handle d.post) d, reply.Answering r) in g) told,
            delivered-here w (sits f) l (good-answer w (sits f)),
          ),
        )
