-- Each command on messages, against its rows of the table.
use Rattle.rh_laws.proofs.Common.{◌≡◌, ℕ, ◌^◌, Bool, true, false, cond, List, [], ◌∷◌, ◌++◌, length, Option, Some, None, refl, sym, ap, ◌∙◌, arith, find}
use Rattle.rh_laws.proofs.Common.{is_none}
use Rattle.rh_laws.proofs.Common.{is_some, not, ◌||◌, ◌==◌, if◌then◌else◌, list_any, NoTask, NoRoom, Busy, BadSize, Letter, Outgoing, Incoming}
use Rattle.rh_laws.proofs.Common.{Granted, ◌>>=◌, save_letter, Parcel, module_claim, open_of, Seat, has_seat, post_poll, post_send, Desk, Task}
use Rattle.rh_laws.proofs.Common.{has_name, named, next_ref, send_letter, task_at, with_delivered, Answer, cancel_in, cancel_out, poll}
use Rattle.rh_laws.proofs.Common.{poll_taken, repeat, save, IsDesk, eqb_apart, eqb_same}
use Rattle.rh_defs.specs.declared.refusal.Refusal.TheVariants.{NoRefs, QueueFull, WrongManner}
use Rattle.rh_defs.specs.declared.command.Command.TheVariants as command
use Rattle.rh_defs.specs.declared.transfer.Outgoing.TheVariants as outgoing
use Rattle.rh_defs.specs.declared.transfer.Incoming.TheVariants as incoming
use Rattle.rh_defs.specs.Messages.{parcel_size}
use Rattle.rh_defs.specs.Records.{is_meant}
use Rattle.rh_defs.specs.Sender as sender
use Rattle.rh_defs.specs.Receiver as receiver
use Rattle.rh_defs.specs.Post.{message_of, sendable}
use Rattle.rh_defs.specs.Laws.{seat_handles, task_handles}
use Rattle.rh_laws.specs.RefusalOrder.{RefusalRow, refusal_in}
use Rattle.rh_laws.specs.RefusalRooms.{lacks, message_size}
use Rattle.rh_laws.specs.Conditions.{conditions, is_coming_one, is_open_one, lacks_module_room, send_rows}
use Rattle.rh_laws.proofs.RefusalSteps.{GoesBy, done, drop_row, found_as, found_then, granted_then, in_steps, in_steps_both, one_row, passes, refused_if}
use Rattle.rh_laws.proofs.RefusalSteps.{refused_then}
use Rattle.rh_laws.proofs.RefusalRoomLaws.{le_same, need-short, size-same}
use Rattle.rh_laws.proofs.RefusalCalls.{idle-then}

-- ---- who is live

-- a handle has a seat where it is a live task's
pub seat-of : (h : ℕ) (seats : List Seat) (tasks : List Task) → seat_handles seats ≡ task_handles tasks
    → has_seat h seats ≡ is_some (find (λ (t : Task). t.handle == h) tasks)
seat-of h [] [] e = refl
seat-of h [] (t ∷ tasks) e = absurd cc
seat-of h (s ∷ seats) [] e = absurd cc
seat-of h (s ∷ seats) (t ∷ tasks) e =
    let here : s.handle ≡ t.handle = cc in
    let rest : seat_handles seats ≡ task_handles tasks = cc in
    ap (λ (k : ℕ). cond (k == h) true (has_seat h seats)) here ∙ go (t.handle == h) (seat-of h seats tasks rest)
  where
    go : (b : Bool) → has_seat h seats ≡ is_some (find (λ (t : Task). t.handle == h) tasks)
        → cond b true (has_seat h seats) ≡ is_some (if b then Some t else find (λ (t : Task). t.handle == h) tasks)
    go true rest = refl
    go false rest = rest

-- a task that is found passes other tests
found-passes : {A : Type 0} (p q : A → Bool) (xs : List A) (x : A) → find p xs ≡ Some x → q x ≡ true
    → is_some (find q xs) ≡ true
found-passes p q [] x e fits = absurd cc
found-passes {A} p q (y ∷ xs) x e fits = go (p y) (q y) refl refl e (λ f. found-passes p q xs x f fits)
  where
    go : (b c : Bool) → p y ≡ b → q y ≡ c → cond b (Some y) (find p xs) ≡ Some x
        → (find p xs ≡ Some x → is_some (find q xs) ≡ true) → is_some {T = A} (cond c (Some y) (find q xs)) ≡ true
    go b true u v f rest = refl
    go true false u v f rest = absurd (let same : y ≡ x = cc in let no : q x ≡ false = ap q (sym same) ∙ v in cc)
    go false false u v f rest = rest f

-- ---- what can be cancelled

none-coming : (id : Option ℕ) (records : List Incoming)
    → is_none (find (receiver.is_wanted id) records) ≡ not (list_any (is_coming_one id) records)
none-coming id [] = refl
none-coming id (r ∷ records) =
    go (receiver.is_wanted id r) (is_coming_one id r) (same r) (none-coming id records)
  where
    same : (r : Incoming) → receiver.is_wanted id r ≡ is_coming_one id r
    same (incoming.Fetching f) = refl
    same _ = refl

    go : (b c : Bool) → b ≡ c
        → is_none (find (receiver.is_wanted id) records) ≡ not (list_any (is_coming_one id) records)
        → is_none (cond b (Some r) (find (receiver.is_wanted id) records)) ≡ not (c || list_any (is_coming_one id) records)
    go true true e rest = refl
    go false false e rest = rest
    go true false e rest = absurd cc
    go false true e rest = absurd cc

none-open : (id : Option ℕ) (records : List Outgoing)
    → is_none (open_of (λ x. is_meant id x.id) records) ≡ not (list_any (is_open_one id) records)
none-open id [] = refl
none-open id (outgoing.Open x ∷ records) = go (is_meant id x.id) (none-open id records)
  where
    go : (b : Bool) → is_none (open_of (λ x. is_meant id x.id) records) ≡ not (list_any (is_open_one id) records)
        → is_none (cond b (Some x) (open_of (λ x. is_meant id x.id) records)) ≡ not (b || list_any (is_open_one id) records)
    go true rest = refl
    go false rest = rest
none-open id (outgoing.Done i n ∷ records) = none-open id records
none-open id (outgoing.Failed i n ∷ records) = none-open id records

-- ---- letters

module _ (d : Desk) (is : IsDesk d) where
  pub send-then : (l : Letter) (next : Desk → Granted Answer) (rows : List RefusalRow) → ((u : Desk) → GoesBy (next u) rows)
      → GoesBy (send_letter l d >>= next) (send_rows (is_none (task_at l.to d)) (lacks_module_room (message_size l.body) d) d ++ rows)
  unfolding send_letter post_send sendable module_claim
  send-then l next rows f =
      let big : (parcel_size (message_of l 0) == 0) ≡ false = eqb_apart (parcel_size (message_of l 0)) 0 (omega arith) in
      let size : parcel_size (message_of l 0) ≡ message_size l.body = size-same l in
      in_steps _ _ _ _ (in_steps_both _ _ _ _ (in_steps_both _ _ _ _
      (refused_if _ _ NoTask _ _ (ap not (seat-of l.to d.post.seats d.tasks is.seats)) λ live.
      in_steps_both _ _ _ _ (refused_if _ _ NoRefs _ _ (le_same (2 ^ 32) (next_ref d) 4294967296 (next_ref d) (λ h. h) (λ h. h)) λ more.
      refused_if _ _ QueueFull _ _ refl λ few.
      in_steps _ _ _ _ (in_steps _ _ _ _ (granted_then _ tt _ _ (passes _ BadSize big)
      (in_steps _ _ _ _ (refused_if _ _ NoRoom _ _
      (ap (λ (x : ℕ). lacks x d) (need-short (parcel_size (message_of l 0)) d.post.heap)
      ∙ ap (λ (n : ℕ). lacks_module_room n d) size) λ fits.
      granted_then _ _ _ _ refl (granted_then _ _ _ _ refl (granted_then _ _ _ _ refl (f _)))))))))))

  pub save-goes : (name : List ℕ) (k : ℕ) (to leaf : List ℕ)
      → GoesBy (save d name k to leaf) (conditions d (command.Save name k to leaf))
  unfolding save named
  save-goes name k to leaf =
      found_then _ _ _ _ λ t e. rw e (one_row _ Busy _ _ (idle-then k t _ _ λ b f.
      refused_then _ _ _ _ _ refl λ few.
      found_then _ _ _ _ λ r live.
      drop_row NoTask (is_none (task_at r.handle d))
      (ap not (found-passes (has_name to) (λ (u : Task). u.handle == r.handle) d.tasks r live (same r.handle)))
      (send-then (save_letter t.handle r.handle (length b.here.bytes) leaf) _ _ λ u.
      refused_then _ _ WrongManner _ _ refl λ plays. done _ refl)))
    where
      same : (h : ℕ) → (h == h) ≡ true
      same h = eqb_same h h refl

  pub repeat-goes : (name : List ℕ) → GoesBy (repeat d name) (conditions d (command.Repeat name))
  unfolding repeat named
  repeat-goes name =
      found_then _ _ _ _ λ t e. rw e (found_then _ _ _ _ λ last f. rw f (send-then (record last.0 { from = t.handle }) _ _ λ u. done _ refl))

  -- ---- polls and cancels

  pub poll-goes : (name : List ℕ) → GoesBy (poll d name) (conditions d (command.Poll name))
  unfolding poll named poll_taken
  poll-goes name = found_then _ _ _ _ λ t e. done _ (taken (with_delivered (post_poll t.handle d.post).0 d) t (post_poll t.handle d.post).1)
    where
      taken : (d : Desk) (t : Task) (m : Option Parcel) → refusal_in (poll_taken d t m).1 ≡ None
      taken d t None = refl
      taken d t (Some m) = refl

  pub cancel_in-goes : (name : List ℕ) (id : Option ℕ)
      → GoesBy (cancel_in d name id) (conditions d (command.CancelIn name id))
  unfolding cancel_in named receiver.cancel_taking
  cancel_in-goes name id =
      found_then _ _ _ _ λ t e. rw e (in_steps _ _ _ _ (found_as _ _ _ _ _ (none-coming id t.taking) λ r f.
      granted_then _ _ _ _ refl (done _ refl)))

  pub cancel_out-goes : (name : List ℕ) (id : Option ℕ)
      → GoesBy (cancel_out d name id) (conditions d (command.CancelOut name id))
  unfolding cancel_out named sender.cancel_sending
  cancel_out-goes name id =
      found_then _ _ _ _ λ t e. rw e (in_steps _ _ _ _ (found_as _ _ _ _ _ (none-open id t.sending) λ x f.
      granted_then _ _ _ _ refl (done _ refl)))
