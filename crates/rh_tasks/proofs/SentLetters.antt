-- A letter of the task at a place, sent or refused.
use Rattle.rh_tasks.proofs.Common.{◌≡◌, ℕ, refl, ap, sym, ◌∙◌, List, Result, Ok, Err, IfOk, OnErr, Some, map, slice_get, get_or, set, Memory, FileList}
use Rattle.rh_tasks.proofs.Common.{Letter, Refusal, answer_of, left_of, post_send, Desk, Task, IsDesk, grant-holds, Answers, Chains, Seat, MadeArea, Kept}
use Rattle.rh_tasks.proofs.Common.{the_module, task_of, desk_of, shown_of, IsWorld, with_last, Sends, Sits, set_same, mapped-is}
use Rattle.rh_defs.proofs.Desks.{send_letter-keeps}
use Rattle.rh_wimp.specs.QueueCalls.{LeavesChains}
use Rattle.rh_tasks.proofs.Places.{mapped-inside}
use Rattle.rh_tasks.proofs.Sends.{sent-alike, sent-world}
use Rattle.rh_tasks.proofs.Repeats.{last-moves, letter_then, letter-refused, letter-sent, ref-is}

-- a seat at a place of the desk's
module _ {m : Memory} {seats : List Seat} {made : List MadeArea} {files : FileList} {kept : Kept} {i : ℕ} {t : Task}
    (w : IsWorld m seats made files kept) where
  pub at-place : {s : Seat} → slice_get (map (task_of m) seats) i ≡ Some t → get_or seats i s ≡ s → Sits seats i s
  at-place there is = record { inside = mapped-inside (task_of m) seats i t there; is = is }

  pub own-letter : {s : Seat} → Sits seats i s → slice_get (map (task_of m) seats) i ≡ Some t → (letter : Letter) → letter.from ≡ t.handle
      → letter.from ≡ s.handle
  unfolding task_of
  own-letter {s} at there letter own = own ∙ sym (ap (λ (x : Task). x.handle) (mapped-is (task_of m) seats i s t at there))

module _ {m : Memory} {seats : List Seat} {made : List MadeArea} {files : FileList} {kept : Kept} {i : ℕ} {s : Seat}
    (w : IsWorld m seats made files kept) (at : Sits seats i s) where
  abbrev before : Desk
  before = desk_of m seats made files kept

  -- a seat that is written as it was, beside what is as it was
  pub world-kept : {n : Memory} {k : Chains} {t : Seat} → n ≡ m → k ≡ kept.queue → t ≡ s → IsWorld n (set seats i t) made files (record kept { queue = k })
  world-kept p q r = rw (p, q, r, set_same seats i s at) w

  pub shown-kept : {n : Memory} {k : Chains} {t : Seat} → n ≡ m → k ≡ kept.queue → t ≡ s
      → shown_of n (set seats i t) made files (record kept { queue = k }) ≡ shown_of m seats made files kept
  shown-kept p q r = rw (p, q, r, set_same seats i s at) refl

  module _ (letter : Letter) (own : letter.from ≡ s.handle) {n : Memory} {k : Chains} (t : Seat)
      (l : LeavesChains m n the_module kept.queue k (λ p. left_of p (post_send m.free letter p))) where
    abbrev after : Kept
    after = record kept { queue = k }

    module _ (ref : ℕ) (a : Answers m the_module kept.queue (λ p. answer_of (post_send m.free letter p)) (Ok ref)) where
      abbrev then : Desk
      then = letter_then w at letter own ref a l

      is-desk : IsDesk then
      is-desk = (grant-holds (send_letter-keeps letter before w.desk) (letter-sent w at letter own ref a l)).desk

      letter-world : IsWorld n (set seats i (with_last letter ref s)) made files after
      letter-world = sent-world w at (last-moves w at letter own ref a l) l kept.scrap w.scrap is-desk

      letter-done : Sends letter (shown_of m seats made files kept) (shown_of n (set seats i (with_last letter ref s)) made files after) (Ok ref)
      letter-done = (
        ref-is w at letter own ref a l,
        (then, (letter-sent w at letter own ref a l, sent-alike w at (last-moves w at letter own ref a l) l kept.scrap w.scrap is-desk)),
      )

    pub sends-world : (r : Result ℕ Refusal) → Answers m the_module kept.queue (λ p. answer_of (post_send m.free letter p)) r
        → IfOk r (λ ref. t ≡ with_last letter ref s) → OnErr r ((n ≡ m) × ((k ≡ kept.queue) × (t ≡ s))) → IsWorld n (set seats i t) made files after
    sends-world (Ok ref) a ok err = rw ok (letter-world ref a)
    sends-world (Err r) a ok err = world-kept err.0 err.1.0 err.1.1

    pub sends-done : (r : Result ℕ Refusal) → Answers m the_module kept.queue (λ p. answer_of (post_send m.free letter p)) r
        → IfOk r (λ ref. t ≡ with_last letter ref s)
        → OnErr r ((n ≡ m) × ((k ≡ kept.queue) × (t ≡ s))) → Sends letter (shown_of m seats made files kept) (shown_of n (set seats i t) made files after) r
    sends-done (Ok ref) a ok err = rw ok (letter-done ref a)
    sends-done (Err r) a ok err = (letter-refused w at letter own a, shown-kept err.0 err.1.0 err.1.1)
