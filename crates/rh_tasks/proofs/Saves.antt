-- Blocks that are offered to other tasks.
use Rattle.rh_tasks.proofs.Common.{◌≡◌, ℕ, zero, suc, ◌<◌, Bool, true, false, cond, refl, ap, sym, ◌∙◌, arith, List, [], ◌∷◌, length, Some, None, Ok, Err}
use Rattle.rh_tasks.proofs.Common.{find, map, nat_lt, nat_le, ◌==◌, ◌||◌, ◌&&◌, Option, list_any, position, get_or, set, nat_tests, Memory, OnlyArea-self}
use Rattle.rh_tasks.proofs.Common.{FileList, Letter, Refusal, NoName, NoTask, Busy, Granted, ◌>>=◌, ◌>>◌, refuse_if, found_or, answer_of, left_of, in_range}
use Rattle.rh_tasks.proofs.Common.{post_send, is_full, Desk, Task, next_ref, edit_task, idle_block, named, with_task, with_sending, send_letter, Answer}
use Rattle.rh_tasks.proofs.Common.{IsDesk, IsReordered, IsSlotIn, slot_in, Answers, Chains, HasEntry, Seat, MadeArea, Kept, the_module, HasSlot, is_named}
use Rattle.rh_tasks.proofs.Common.{Moves}
use Rattle.rh_tasks.proofs.Common.{
  task_of,
  desk_of,
  IsWorld,
  FoundSeat,
  looked,
  with_last,
  source_block,
  all-at,
  begins,
  ends,
  past,
  stops,
  sits,
  named-is,
  granted-keeps,
}
use Rattle.std.specs.List.{list_all}
use Rattle.rh_defs.proofs.MessageLaws.{name_is}
use Rattle.rh_defs.specs.Forms.{is_graphic, is_leaf}
use Rattle.rh_defs.specs.Pathnames.{is_plain, is_pathname}
use Rattle.rh_defs.specs.declared.command.Command.TheVariants as command
use Rattle.rh_defs.specs.declared.refusal.Refusal.TheVariants.{WrongManner}
use Rattle.rh_defs.specs.declared.reply.Reply.TheVariants as reply
use Rattle.rh_defs.specs.Letters.{save_letter}
use Rattle.rh_defs.specs.Records.{is_open, is_source, is_document}
use Rattle.rh_defs.specs.RawTasks.{is_raw}
use Rattle.rh_defs.specs.Sender as sender
use Rattle.rh_defs.specs.Slot as plain
use Rattle.rh_defs.specs.Desk.{has_name}
use Rattle.rh_defs.specs.Commands.{save}
use Rattle.rh_wimp.specs.QueueCalls.{LeavesChains}
use Rattle.rh_tasks.specs.Inner.RawSteps.{refusal_after}
use Rattle.rh_tasks.proofs.Finding.{find-named, nobody-named}
use Rattle.rh_tasks.proofs.Sends.{desk_then, sent-alike, sent-world}
use Rattle.rh_tasks.proofs.Repeats.{from-live, letter-refused, letter-stopped, letter_then, letter-sent, ref-is}

-- ---- a leafname can stand in a message

both : (a b : Bool) → (a && b) ≡ true → (a ≡ true) × (b ≡ true)
both true true e = (refl, refl)
both true false e = absurd cc
both false b e = absurd cc

plain-graphic : (leaf : List ℕ) → list_all is_graphic leaf ≡ true → is_plain leaf ≡ true
plain-graphic [] e = refl
plain-graphic (b ∷ leaf) e =
    let p = both (is_graphic b) (list_all is_graphic leaf) e in
    let here : nat_lt 0 b ≡ true = grind (arith, nat_tests) in
    let there = plain-graphic leaf p.1 in
    rw (here, there) refl

pub leaf-pathname : (leaf : List ℕ) → is_leaf leaf ≡ true → is_pathname leaf ≡ true
leaf-pathname leaf e =
    let p = both _ (list_all is_graphic leaf) e in
    let q = both (nat_le 1 (length leaf)) (nat_le (length leaf) 10) p.0 in
    name_is leaf (grind (arith, nat_tests)) (plain-graphic leaf p.1)

-- ---- what a task may offer

busy-or-full : {A : Type 0} (g : Granted A) (size : A → ℕ) (busy full : Bool) (n : ℕ) → Ok n ≡ (g >>= (λ a. Ok (size a)))
    → ((g >>= (λ a. refuse_if busy Busy >> Ok a)) >>= (λ a. refuse_if full Busy >> Ok (size a))) ≡ cond busy (Err Busy) (cond full (Err Busy) (Ok n))
unfolding ◌>>=◌ ◌>>◌ refuse_if
busy-or-full (Err r) size busy full n e = absurd cc
busy-or-full (Ok a) size true full n e = refl
busy-or-full (Ok a) size false true n e = refl
busy-or-full (Ok a) size false false n e = let same : n ≡ size a = cc in ap (λ x. Ok x) (sym same)

pub source-is : (m : Memory) (s : Seat) (k n : ℕ) → Ok n ≡ plain.slot_size k (slot_in m s.slot)
    → source_block k (task_of m s) ≡ cond (list_any (is_source k) s.sending || list_any (is_document k) s.taking) (Err Busy)
    (cond (is_full is_open s.sending) (Err Busy) (Ok n))
unfolding plain.slot_size idle_block task_of
source-is m s k n e = busy-or-full (plain.slot_block k (slot_in m s.slot)) _ _ _ n e

pub source-missing : (m : Memory) (s : Seat) (k : ℕ) {r : Refusal} → idle_block k (task_of m s) ≡ Err r → source_block k (task_of m s) ≡ Err r
source-missing m s k e = ends _ e

not-full : {A : Type 0} (g : Granted A) (size : A → ℕ) (full : Bool) (n : ℕ) → (g >>= (λ a. refuse_if full Busy >> Ok (size a))) ≡ Ok n → full ≡ false
unfolding ◌>>=◌ ◌>>◌ refuse_if
not-full (Ok a) size true n e = absurd cc
not-full (Ok a) size false n e = refl
not-full (Err r) size full n e = absurd cc

get_or-any : {A : Type 0} (xs : List A) (i : ℕ) (a b : A) → i < length xs → get_or xs i a ≡ get_or xs i b
get_or-any [] i a b inside = absurd (omega arith)
get_or-any (x ∷ xs) zero a b inside = refl
get_or-any (x ∷ xs) (suc i) a b inside = get_or-any xs i a b (omega arith)

-- a seat that was found, read once more
pub again-found : {name : List ℕ} {seats : List Seat} {i : ℕ} {s t : Seat} → FoundSeat name seats i s → get_or seats i t ≡ t → FoundSeat name seats i t
again-found f is = record { at = f.at; is = is }

pub again-same : {name : List ℕ} {seats : List Seat} {i : ℕ} {s t : Seat} → FoundSeat name seats i s → FoundSeat name seats i t → s ≡ t
again-same {name} {seats} {i} {s} {t} f g = sym f.is ∙ get_or-any seats i s t (sits f).inside ∙ g.is

pub again-given : {B : Type 0} (look : Task → Granted B) (m : Memory) {name : List ℕ} {seats : List Seat} {i : ℕ} {s t : Seat} {b : Granted B}
    → FoundSeat name seats i s → FoundSeat name seats i t → look (task_of m s) ≡ b → look (task_of m t) ≡ b
again-given look m f g e = ap (λ x. look (task_of m x)) (sym (again-same f g)) ∙ e

-- ---- behind the look at the source

module _ {B : Type 0} where
  behind-given : {A : Type 0} (g : Granted A) (size : A → ℕ) (full : Bool) (next : ℕ → Granted B) (n : ℕ)
      → (g >>= (λ a. refuse_if full Busy >> Ok (size a))) ≡ Ok n → (g >>= (λ a. refuse_if full Busy >> next (size a))) ≡ next n
  unfolding ◌>>=◌ ◌>>◌ refuse_if
  behind-given (Ok a) size true next n e = absurd cc
  behind-given (Ok a) size false next n e = let same : size a ≡ n = cc in ap next same
  behind-given (Err r) size full next n e = absurd cc

  behind-refused : {A : Type 0} (g : Granted A) (size : A → ℕ) (full : Bool) (next : ℕ → Granted B) {r : Refusal}
      → (let x : Granted ℕ = (g >>= (λ a. refuse_if full Busy >> Ok (size a))) in x ≡ Err r) → (g >>= (λ a. refuse_if full Busy >> next (size a))) ≡ Err r
  unfolding ◌>>=◌ ◌>>◌ refuse_if
  behind-refused (Ok a) size true next e = let same : Busy ≡ _ = cc in ap (λ x. Err x) same
  behind-refused (Ok a) size false next e = absurd cc
  behind-refused (Err q) size full next e = let same : q ≡ _ = cc in ap (λ x. Err x) same

  look-refused : (first : Granted Task) (k : ℕ) (next : Task → ℕ → Granted B) {r : Refusal} → (first >>= source_block k) ≡ Err r
      → (first >>= (λ t. idle_block k t >>= (λ b. refuse_if (is_full is_open t.sending) Busy >> next t (length b.here.bytes)))) ≡ Err r
  unfolding ◌>>=◌
  look-refused (Ok t) k next e = behind-refused (idle_block k t) (λ b. length b.here.bytes) (is_full is_open t.sending) (next t) e
  look-refused (Err q) k next e = let same : q ≡ _ = cc in ap (λ x. Err x) same

-- ---- one task edited twice

pub edit-twice : (h : ℕ) (first second : Task → Task) → ((t : Task) → (first t).handle ≡ t.handle) → (tasks : List Task)
    → edit_task h second (edit_task h first tasks) ≡ edit_task h (λ t. second (first t)) tasks
edit-twice h first second same [] = refl
edit-twice h first second same (t ∷ tasks) = go (t.handle == h) refl (edit-twice h first second same tasks)
  where
    go : (b : Bool) → (t.handle == h) ≡ b → edit_task h second (edit_task h first tasks) ≡ edit_task h (λ x. second (first x)) tasks
        → edit_task h second (cond b (first t ∷ tasks) (t ∷ edit_task h first tasks)) ≡ cond b (second (first t) ∷ tasks)
        (t ∷ edit_task h (λ x. second (first x)) tasks)
    go true e r = let q : ((first t).handle == h) ≡ true = ap (λ x. x == h) (same t) ∙ e in rw q refl
    go false e r = rw e (ap (λ l. t ∷ l) r)

-- ---- the command

module _ {m : Memory} {seats : List Seat} {made : List MadeArea} {files : FileList} {kept : Kept}
    (w : IsWorld m seats made files kept) (k : ℕ) (to leaf : List ℕ) where
  abbrev d : Desk
  d = desk_of m seats made files kept

  -- what is done with a task and a size
  abbrev then_to : Task → ℕ → Task → Granted Answer
  then_to t n r = send_letter (save_letter t.handle r.handle n leaf) d
      >>= (λ sent. refuse_if (is_raw t.manner) WrongManner
      >> Ok (with_sending t.handle (sender.sending_offered (next_ref d) r.handle k) sent, reply.Sent (next_ref d)))

  abbrev then_sized : Task → ℕ → Granted Answer
  then_sized t n = found_or (find (has_name to) d.tasks) NoTask >>= then_to t n

  pub save-stopped : (name : List ℕ) {r : Refusal} → looked (source_block k) m name seats ≡ Err r → save d name k to leaf ≡ Err r
  unfolding save named
  save-stopped name e = look-refused (found_or (find (has_name name) d.tasks) NoName) k then_sized e

  module _ {name : List ℕ} {i : ℕ} {s : Seat} (f : FoundSeat name seats i s) (n : ℕ) (given : source_block k (task_of m s) ≡ Ok n) where
    save-sized : save d name k to leaf ≡ then_sized (task_of m s) n
    unfolding save
    save-sized = begins _ (named-is m made files kept f) (behind-given (idle_block k (task_of m s)) (λ b. length b.here.bytes)
        (is_full is_open (task_of m s).sending) (then_sized (task_of m s)) n given)

    pub may-open : is_full is_open s.sending ≡ false
    unfolding task_of
    may-open = not-full (idle_block k (task_of m s)) _ _ n given

    pub save-nobody : position (is_named to) seats ≡ None → save d name k to leaf ≡ Err NoTask
    unfolding found_or
    save-nobody none = save-sized ∙ ends _ (no-task (find (has_name to) (map (task_of m) seats)) (nobody-named m to seats none))
      where
        no-task : (o : Option Task) → found_or o NoName ≡ Err NoName → found_or o NoTask ≡ Err NoTask
        no-task None e = refl
        no-task (Some t) e = absurd cc

    module _ {j h : ℕ} {x : Seat} (there : FoundSeat to seats j x) (is : x.handle ≡ h) where
      abbrev pub letter : Letter
      letter = save_letter s.handle h n leaf

      pub save-live : HasEntry letter.from kept.queue
      save-live = from-live w (sits f) letter refl

      task-found : found_or (find (has_name to) (map (task_of m) seats)) NoTask ≡ Ok (task_of m x)
      unfolding found_or
      task-found = let e = find-named m there in rw e refl

      abbrev then_from : ℕ → Granted Answer
      then_from r = send_letter (save_letter s.handle r n leaf) d
          >>= (λ sent. refuse_if (is_raw s.manner) WrongManner
          >> Ok (with_sending s.handle (sender.sending_offered (next_ref d) r k) sent, reply.Sent (next_ref d)))

      save-is : save d name k to leaf ≡ then_from h
      unfolding task_of
      save-is = save-sized ∙ begins _ task-found (ap then_from is)

      pub save-refused : {r : Refusal} → Answers m the_module kept.queue (λ p. answer_of (post_send m.free letter p)) (Err r) → save d name k to leaf ≡ Err r
      save-refused a = save-is ∙ ends _ (letter-refused w (sits f) letter refl a)

      -- the task has code of its own
      pub save-wrong : is_raw s.manner ≡ true → {said : Refusal}
          → Answers m the_module kept.queue (λ p. refusal_after (post_send m.free letter p) WrongManner) said → save d name k to leaf ≡ Err said
      save-wrong raw a = save-is ∙ letter-stopped w (sits f) letter refl _ WrongManner (λ sent. stops _ WrongManner _ raw) a

      module _ {p : Memory} {q : Chains} (played : is_raw s.manner ≡ false) (ref : ℕ)
          (a : Answers m the_module kept.queue (λ p. answer_of (post_send m.free letter p)) (Ok ref))
          (l : LeavesChains m p the_module kept.queue q (λ p. left_of p (post_send m.free letter p)))
          (ranged : in_range (command.Save name k to leaf) ≡ true) where
        abbrev pub saved_seat : Seat
        saved_seat = record (with_last letter ref s) { sending = sender.sending_offered ref h k s.sending }

        abbrev edit : Task → Task
        edit t = record t { last_sent = Some (letter, ref); sending = sender.sending_offered ref h k t.sending }

        has : IsSlotIn m s.slot
        has = all-at (HasSlot m) seats i s w.areas.slots (sits f)

        moves : Moves m m s saved_seat edit
        unfolding task_of
        moves = record { handle = refl; area = refl; still = has; only = OnlyArea-self m s.slot.area.0 has.opened; task = refl }

        abbrev sent : Desk
        sent = letter_then w (sits f) letter refl ref a l

        abbrev then : Desk
        then = desk_then w (sits f) moves l kept.scrap w.scrap

        opened : with_sending s.handle (sender.sending_offered ref h k) sent ≡ then
        unfolding with_task
        opened = ap (λ (tasks : List Task). let y : Desk = record sent { tasks = tasks } in y)
            (edit-twice s.handle (λ t. record t { last_sent = Some (letter, ref) }) (λ t. record t { sending = sender.sending_offered ref h k t.sending })
            (λ t. refl) (map (task_of m) seats))

        saved : save d name k to leaf ≡ Ok (then, reply.Sent ref)
        saved =
            save-is ∙ begins _ (letter-sent w (sits f) letter refl ref a l)
            (past _ WrongManner _ played refl ∙ ap (λ r. let y : Granted Answer = Ok
            (with_sending s.handle (sender.sending_offered r h k) sent, reply.Sent r) in y)
            (sym (ref-is w (sits f) letter refl ref a l))
            ∙ ap (λ (y : Desk). let z : Granted Answer = Ok (y, reply.Sent ref) in z) opened)

        is-desk : IsDesk then
        is-desk = granted-keeps d then (command.Save name k to leaf) (reply.Sent ref) saved ranged w.desk

        pub save-world : IsWorld p (set seats i saved_seat) made files (record kept { queue = q })
        save-world = sent-world w (sits f) moves l kept.scrap w.scrap is-desk

        pub save-done : (y : Desk) × ((save d name k to leaf ≡ Ok (y, reply.Sent ref)) × IsReordered y
            (desk_of p (set seats i saved_seat) made files (record kept { queue = q })))
        save-done = (then, (saved, sent-alike w (sits f) moves l kept.scrap w.scrap is-desk))
