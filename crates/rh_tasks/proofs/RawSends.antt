-- Messages of any action that a task with code of its own sends.
use Rattle.rh_tasks.proofs.Common.{◌≡◌, ℕ, Bool, true, false, refl, ap, sym, ◌∙◌, List, Some, None, Ok, Err, not, nat_le, if◌then◌else◌, set, Memory}
use Rattle.rh_tasks.proofs.Common.{FileList, Letter, Refusal, Granted, ◌>>=◌, ◌>>◌, refuse_if, answer_of, left_of, Desk, next_ref, send_letter, Answer}
use Rattle.rh_tasks.proofs.Common.{post_send, IsReordered, Answers, Chains, HasEntry, Seat, MadeArea, Kept, the_module, task_of, desk_of, IsWorld, FoundSeat}
use Rattle.rh_tasks.proofs.Common.{with_last, begins, ends, sits, named-is}
use Rattle.rh_defs.specs.declared.refusal.Refusal.TheVariants.{WrongManner, BadRef}
use Rattle.rh_defs.specs.declared.reply.Reply.TheVariants as reply
use Rattle.rh_defs.specs.RawCommands.{after_answer, raw_letter, send}
use Rattle.rh_defs.specs.RawTasks.{is_raw}
use Rattle.rh_wimp.specs.PostIn.{post_of}
use Rattle.rh_wimp.specs.QueueCalls.{LeavesChains}
use Rattle.rh_tasks.specs.Inner.RawSteps.{refusal_after, letter_refusal}
use Rattle.rh_tasks.proofs.Repeats.{answered-alike, answered_file, from-live, letter-refused, letter-sent, letter-stopped, letter_then, ref-is}

-- ---- what is asked behind a letter that was sent

-- it is refused
pub both-stop : {B : Type 0} (b c : Bool) (x : Granted B) {r : Refusal}
    → Some r ≡ (if b then Some WrongManner else if c then Some BadRef else None) → (refuse_if b WrongManner >> refuse_if c BadRef >> x) ≡ Err r
unfolding ◌>>=◌ ◌>>◌ refuse_if
both-stop true c x {r} e = let same : r ≡ WrongManner = cc in ap (λ q. Err q) (sym same)
both-stop false true x {r} e = let same : r ≡ BadRef = cc in ap (λ q. Err q) (sym same)
both-stop false false x e = absurd cc

-- it isn't
pub both-pass : {B : Type 0} (b c : Bool) (x : Granted B) → None ≡ (if b then Some WrongManner else if c then Some BadRef else None)
    → (refuse_if b WrongManner >> refuse_if c BadRef >> x) ≡ x
unfolding ◌>>=◌ ◌>>◌ refuse_if
both-pass true c x e = absurd cc
both-pass false true x e = absurd cc
both-pass false false x e = refl

-- ---- the command

module _ {m : Memory} {seats : List Seat} {made : List MadeArea} {files : FileList} {kept : Kept} {name : List ℕ} {i : ℕ} {s : Seat}
    (w : IsWorld m seats made files kept) (f : FoundSeat name seats i s) (recorded : Bool) (h ref a : ℕ) (bytes : List ℕ) where
  abbrev d : Desk
  d = desk_of m seats made files kept

  abbrev pub letter : Letter
  letter = raw_letter s.handle recorded h ref a bytes

  abbrev then_sent : Desk → Granted Answer
  then_sent sent = refuse_if (not (is_raw s.manner)) WrongManner >> refuse_if (nat_le (next_ref d) ref) BadRef
      >> Ok (after_answer sent, reply.Sent (next_ref d))

  send-is : send d name recorded h ref a bytes ≡ (send_letter letter d >>= then_sent)
  unfolding send task_of
  send-is = begins _ (named-is m made files kept f) refl

  next-is : kept.queue.next_ref ≡ next_ref d
  unfolding post_of
  next-is = refl

  pub send-live : HasEntry letter.from kept.queue
  send-live = from-live w (sits f) letter refl

  -- it is refused in any case
  pub send-wrong : {r : Refusal} → Some r ≡ letter_refusal s ref kept.queue.next_ref → {said : Refusal}
      → Answers m the_module kept.queue (λ p. refusal_after (post_send m.free letter p) r) said → send d name recorded h ref a bytes ≡ Err said
  send-wrong {r} e given =
      send-is ∙ letter-stopped w (sits f) letter refl then_sent r
      (λ sent. both-stop (not (is_raw s.manner)) (nat_le (next_ref d) ref) _ (e ∙ ap (letter_refusal s ref) next-is)) given

  pub send-refused : {r : Refusal} → Answers m the_module kept.queue (λ p. answer_of (post_send m.free letter p)) (Err r)
      → send d name recorded h ref a bytes ≡ Err r
  send-refused given = send-is ∙ ends _ (letter-refused w (sits f) letter refl given)

  module _ (may : None ≡ letter_refusal s ref kept.queue.next_ref) {n : Memory} {k : Chains} (my_ref : ℕ)
      (given : Answers m the_module kept.queue (λ p. answer_of (post_send m.free letter p)) (Ok my_ref))
      (l : LeavesChains m n the_module kept.queue k (λ p. left_of p (post_send m.free letter p))) where
    abbrev sent_desk : Desk
    sent_desk = after_answer (letter_then w (sits f) letter refl my_ref given l)

    sent : send d name recorded h ref a bytes ≡ Ok (sent_desk, reply.Sent my_ref)
    sent =
        send-is ∙ begins _ (letter-sent w (sits f) letter refl my_ref given l)
        (both-pass (not (is_raw s.manner)) (nat_le (next_ref d) ref) _ (may ∙ ap (letter_refusal s ref) next-is)
        ∙ ap (λ x. let r : Granted Answer = Ok (sent_desk, reply.Sent x) in r) (sym (ref-is w (sits f) letter refl my_ref given l)))

    pub send-done : (y : Desk) × ((send d name recorded h ref a bytes ≡ Ok (y, reply.Sent my_ref)) × IsReordered y
        (desk_of n (set seats i (with_last letter my_ref s)) made files
        (record kept { queue = k; scrap = answered_file w (sits f) letter refl my_ref given l })))
    send-done = (sent_desk, (sent, answered-alike w (sits f) letter refl my_ref given l))
