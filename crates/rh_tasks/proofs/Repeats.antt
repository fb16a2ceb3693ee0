-- Letters that a task sends.
use Rattle.rh_tasks.proofs.Common.{Bool, false, if◌then◌else◌, ◌≤◌, length, bytes, grant-holds, with_delivered, SpellsPostIn}
use Rattle.rh_tasks.proofs.Common.{◌≡◌, ℕ, refl, ap, sym, subst, ◌∙◌, List, Option, Some, None, Ok, Err, true, option_map, set, Memory, OnlyArea-self}
use Rattle.rh_tasks.proofs.Common.{FileList, Letter, Refusal, Granted, ◌>>=◌, ◌>>◌, found_or, answer_of, left_of, in_range, Post, post_send, Desk, Task}
use Rattle.rh_tasks.proofs.Common.{
  free_pages,
  next_ref,
  with_task,
  with_post,
  send_letter,
  Answer,
  IsDesk,
  IsReordered,
  IsSlotIn,
  Answers,
  Chains,
  HasEntry,
  post_in,
  Seat,
}
use Rattle.rh_tasks.proofs.Common.{MadeArea, Kept, kept_of, the_module, HasSlot, task_of, desk_of, shown_of, IsWorld, ScrapFile, FoundSeat, with_last, Sits}
use Rattle.rh_tasks.proofs.Common.{all-at, set_same, begins, ends, sits, named-is, free-is, granted-keeps, Moves}
use Rattle.rh_defs.specs.declared.command.Command.TheVariants as command
use Rattle.rh_defs.specs.declared.refusal.Refusal.TheVariants.{NothingSent}
use Rattle.rh_defs.specs.declared.reply.Reply.TheVariants as reply
use Rattle.rh_defs.specs.Commands.{after_letter, repeat}
use Rattle.rh_defs.specs.RawCommands.{after_answer}
use Rattle.rh_defs.specs.RawTasks.{is_raw}
use Rattle.rh_defs.proofs.Desks.{after_answer-keeps, send_letter-keeps}
use Rattle.rh_wimp.specs.QueueCalls.{LeavesChains}
use Rattle.rh_tasks.specs.declared.seat.SentLetter.{SentLetter}
use Rattle.rh_tasks.specs.View.{kept_file, last_of, scrap_size}
use Rattle.rh_tasks.specs.declared.next_numbers.NextNumbers.{NextNumbers}
use Rattle.rh_tasks.specs.Inner.RawSteps.{refusal_after}
use Rattle.rh_tasks.specs.WorldLetters.{from_last, again}
use Rattle.rh_tasks.proofs.Chains.{answered, answer-refused}
use Rattle.rh_tasks.proofs.Posts.{is-post, has-entry}
use Rattle.rh_tasks.proofs.Deaths.{kept-fits, scrap-kept}
use Rattle.rh_tasks.proofs.Sends.{desk_then, sent-alike, sent-world}

-- a letter that is sent gets the next ref
sent-ref : {A B C : Type 0} (first : Granted A) (there : Granted B) (out : B → C) (n : ℕ) (p : C × ℕ)
    → (first >> (there >>= (λ b. let r : Granted (C × ℕ) = Ok (out b, n) in r))) ≡ Ok p → p.1 ≡ n
unfolding ◌>>◌ ◌>>=◌
sent-ref (Ok a) (Ok b) out n p e = let same : ◌≡◌ {A = _ × ℕ} (out b, n) p = cc in sym (ap (λ (x : _ × ℕ). x.1) same)
sent-ref (Ok a) (Err r) out n p e = absurd cc
sent-ref (Err r) there out n p e = absurd cc

pub post_send-ref : (free : ℕ) (l : Letter) (post : Post) (p : Post × ℕ) → post_send free l post ≡ Ok p → p.1 ≡ post.next_ref
unfolding post_send
post_send-ref free l post p e = sent-ref _ _ _ post.next_ref p e

-- what is shown of a world that stays
pub same-shown : {m n : Memory} {seats seats' : List Seat} {queue queue' : Chains} (made : List MadeArea) (files : FileList) (next : NextNumbers)
    (scrap : Option ScrapFile) → n ≡ m → seats' ≡ seats → queue' ≡ queue
    → shown_of n seats' made files (kept_of next queue' scrap) ≡ shown_of m seats made files (kept_of next queue scrap)
same-shown made files next scrap p q r = rw (p, q, r) refl

-- ---- the last letter once more

module _ {B : Type 0} (h : ℕ) (next : Letter → Granted B) where
  abbrev once_more : Option SentLetter → Granted B
  once_more last = found_or (option_map last_of last) NothingSent >>= (λ sent. next (record sent.0 { from = h }))

  pub again-sent : (last : Option SentLetter) (letter : Letter) → from_last h last ≡ Ok letter → once_more last ≡ next letter
  unfolding ◌>>=◌ found_or
  again-sent None letter e = absurd cc
  again-sent (Some sent) letter e =
      let l : Letter = record sent.letter { from = h } in
      let same : l ≡ letter = cc in
      ap next same

  pub again-refused : (last : Option SentLetter) (r : Refusal) → from_last h last ≡ Err r → once_more last ≡ Err r
  unfolding ◌>>=◌ found_or
  again-refused None r e = let same : NothingSent ≡ r = cc in ap (λ x. Err x) same
  again-refused (Some sent) r e = absurd cc

again-from : (h : ℕ) (last : Option SentLetter) (letter : Letter) → from_last h last ≡ Ok letter → letter.from ≡ h
again-from h None letter e = absurd cc
again-from h (Some sent) letter e =
    let l : Letter = record sent.letter { from = h } in
    let same : l ≡ letter = cc in
    sym (ap (λ (x : Letter). x.from) same)

-- a step that is granted or refused, behind which all is refused
chain-after : {A B C : Type 0} (g : Granted A) (made : A → B) (next : B → Granted C) (r : Refusal) → ((b : B) → next b ≡ Err r)
    → ((g >>= (λ a. Ok (made a))) >>= next) ≡ Err (refusal_after g r)
unfolding ◌>>=◌
chain-after (Ok a) made next r all = all (made a)
chain-after (Err first) made next r all = refl

-- ---- a letter from a task

module _ {m : Memory} {seats : List Seat} {made : List MadeArea} {files : FileList} {kept : Kept} {i : ℕ} {s : Seat}
    (w : IsWorld m seats made files kept) (at : Sits seats i s) (letter : Letter) (own : letter.from ≡ s.handle) where
  abbrev d : Desk
  d = desk_of m seats made files kept

  abbrev post : Post
  post = post_in m the_module kept.queue

  abbrev given : Granted (Post × ℕ)
  given = post_send m.free letter post

  pub from-live : HasEntry letter.from kept.queue
  from-live = subst (λ h. HasEntry h kept.queue) (sym own) (has-entry w at)

  -- it can't be sent
  pub letter-refused : {r : Refusal} → Answers m the_module kept.queue (λ p. answer_of (post_send m.free letter p)) (Err r) → send_letter letter d ≡ Err r
  unfolding send_letter
  letter-refused a = ends _ (ap (λ free. post_send free letter post) (free-is w) ∙ answer-refused given (a post (is-post w)))

  -- it is refused in any case
  pub letter-stopped : {B : Type 0} (next : Desk → Granted B) (r : Refusal) → ((sent : Desk) → next sent ≡ Err r) → {said : Refusal}
      → Answers m the_module kept.queue (λ p. refusal_after (post_send m.free letter p) r) said → (send_letter letter d >>= next) ≡ Err said
  unfolding send_letter
  letter-stopped next r all a =
      chain-after (post_send (free_pages d) letter post) _ next r all
      ∙ ap (λ free. Err (refusal_after (post_send free letter post) r)) (free-is w) ∙ ap (λ x. Err x) (sym (a post (is-post w)))

  module _ {n : Memory} {k : Chains} (ref : ℕ) (a : Answers m the_module kept.queue (λ p. answer_of (post_send m.free letter p)) (Ok ref))
      (l : LeavesChains m n the_module kept.queue k (λ p. left_of p (post_send m.free letter p))) where
    abbrev edit : Task → Task
    edit t = record t { last_sent = Some (letter, ref) }

    has : IsSlotIn m s.slot
    has = all-at (HasSlot m) seats i s w.areas.slots at

    pub last-moves : Moves m m s (with_last letter ref s) edit
    unfolding task_of
    last-moves = record { handle = refl; area = refl; still = has; only = OnlyArea-self m s.slot.area.0 has.opened; task = refl }

    given-is : given ≡ Ok (left_of post given, ref)
    given-is = answered (left_of post given) ref post given (a post (is-post w)) refl

    pub ref-is : ref ≡ next_ref d
    ref-is = post_send-ref m.free letter post (left_of post given, ref) given-is

    abbrev pub letter_then : Desk
    letter_then = desk_then w at last-moves l kept.scrap w.scrap

    pub letter-sent : send_letter letter d ≡ Ok letter_then
    unfolding send_letter with_task
    letter-sent =
        begins _ (ap (λ free. post_send free letter post) (free-is w) ∙ given-is)
        (ap (λ h. let r : Granted Desk = Ok (with_task h edit (with_post (left_of post given) d)) in r) own)

    -- a scrap file whose DataLoad it answers is given up
    abbrev pub answered_file : Option ScrapFile
    answered_file = kept_file (left_of post given) kept.scrap

    pub answered-spells : SpellsPostIn n the_module k (left_of post given)
    answered-spells = l.spells post (is-post w)

    fits : scrap_size answered_file ≤ length (bytes m 5)
    fits = kept-fits (left_of post given) kept.scrap _ w.scrap

    answered-is : desk_then w at last-moves l answered_file fits ≡ after_answer letter_then
    unfolding with_delivered
    answered-is = ap (λ o. let x : Desk = record letter_then { scrap = o } in x) (scrap-kept m (left_of post given) kept.scrap)

    pub answered-good : IsDesk (after_answer letter_then)
    answered-good = after_answer-keeps letter_then (grant-holds (send_letter-keeps letter d w.desk) letter-sent).desk

    pub answered-world : IsWorld n (set seats i (with_last letter ref s)) made files (record kept { queue = k; scrap = answered_file })
    answered-world = sent-world w at last-moves l answered_file fits (subst IsDesk (sym answered-is) answered-good)

    pub answered-alike : IsReordered (after_answer letter_then)
        (desk_of n (set seats i (with_last letter ref s)) made files (record kept { queue = k; scrap = answered_file }))
    answered-alike =
        subst (λ (x : Desk). IsReordered x (desk_of n (set seats i (with_last letter ref s)) made files (record kept { queue = k; scrap = answered_file })))
        answered-is (sent-alike w at last-moves l answered_file fits (subst IsDesk (sym answered-is) answered-good))

-- ---- the command that sends it once more

module _ {m : Memory} {seats : List Seat} {made : List MadeArea} {files : FileList} {kept : Kept} {name : List ℕ} {i : ℕ} {s : Seat}
    (w : IsWorld m seats made files kept) (f : FoundSeat name seats i s) where
  abbrev e : Desk
  e = desk_of m seats made files kept

  -- what is done with the letter
  abbrev then_sent : Letter → Granted Answer
  then_sent letter = send_letter letter e >>= (λ sent. Ok (after_letter s.manner sent, reply.Sent (next_ref e)))

  -- a seat that is written as it was
  pub seat-kept : set seats i s ≡ seats
  seat-kept = set_same seats i s (sits f)

  pub repeat-nothing : {r : Refusal} → again s ≡ Err r → repeat e name ≡ Err r
  unfolding repeat task_of
  repeat-nothing {r} h = begins _ (named-is m made files kept f) (again-refused s.handle then_sent s.last_sent r h)

  module _ (letter : Letter) (last : again s ≡ Ok letter) where
    pub again-own : letter.from ≡ s.handle
    again-own = again-from s.handle s.last_sent letter last

    repeat-is : repeat e name ≡ then_sent letter
    unfolding repeat task_of
    repeat-is = begins _ (named-is m made files kept f) (again-sent s.handle then_sent s.last_sent letter last)

    pub repeat-refused : {r : Refusal} → Answers m the_module kept.queue (λ p. answer_of (post_send m.free letter p)) (Err r) → repeat e name ≡ Err r
    repeat-refused a = repeat-is ∙ ends _ (letter-refused w (sits f) letter again-own a)

    module _ {n : Memory} {k : Chains} (ref : ℕ) (a : Answers m the_module kept.queue (λ p. answer_of (post_send m.free letter p)) (Ok ref))
        (l : LeavesChains m n the_module kept.queue k (λ p. left_of p (post_send m.free letter p))) (ranged : in_range (command.Repeat name) ≡ true) where
      abbrev again_desk : Desk
      again_desk = letter_then w (sits f) letter again-own ref a l

      -- by whether the task has code of its own
      repeated : (b : Bool) → is_raw s.manner ≡ b → repeat e name ≡ Ok (if b then after_answer again_desk else again_desk, reply.Sent ref)
      repeated b is =
          repeat-is ∙ begins _ (letter-sent w (sits f) letter again-own ref a l)
          (ap (λ c. let r : Granted (Desk × _) = Ok (if c then after_answer again_desk else again_desk, reply.Sent (next_ref e)) in r) is
          ∙ ap (λ x. let r : Granted (Desk × _) = Ok (if b then after_answer again_desk else again_desk, reply.Sent x) in r)
          (sym (ref-is w (sits f) letter again-own ref a l)))

      pub repeat-answered : is_raw s.manner ≡ true → (x : Desk) × ((repeat e name ≡ Ok (x, reply.Sent ref)) × IsReordered x
          (desk_of n (set seats i (with_last letter ref s)) made files
          (record kept { queue = k; scrap = answered_file w (sits f) letter again-own ref a l })))
      repeat-answered raw = (after_answer again_desk, (repeated true raw, answered-alike w (sits f) letter again-own ref a l))

      module _ (played : is_raw s.manner ≡ false) where
        is-desk : IsDesk again_desk
        is-desk = granted-keeps e again_desk (command.Repeat name) (reply.Sent ref) (repeated false played) ranged w.desk

        pub repeat-world : IsWorld n (set seats i (with_last letter ref s)) made files (record kept { queue = k })
        repeat-world = sent-world w (sits f) (last-moves w (sits f) letter again-own ref a l) l kept.scrap w.scrap is-desk

        pub repeat-done : (x : Desk) × ((repeat e name ≡ Ok (x, reply.Sent ref)) × IsReordered x
            (desk_of n (set seats i (with_last letter ref s)) made files (record kept { queue = k })))
        repeat-done = (again_desk, (repeated false played, sent-alike w (sits f) (last-moves w (sits f) letter again-own ref a l) l kept.scrap w.scrap is-desk))
