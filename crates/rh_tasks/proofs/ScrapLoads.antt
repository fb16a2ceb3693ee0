-- The scrap file loaded by a task with code of its own, which holds its DataLoad.
use Rattle.rh_tasks.proofs.Common.{◌≡◌, ℕ, ◌+◌, ◌≤◌, Bool, true, false, refl, ap, sym, subst, ◌∙◌, arith, List, length, Option, Some, None, Ok, Err, IsOk, not}
use Rattle.rh_tasks.proofs.Common.{◌==◌, option_map, if◌then◌else◌, Memory, bytes, part, length-part, FileList, Message, Parcel, Refusal, Granted, ◌>>=◌}
use Rattle.rh_tasks.proofs.Common.{found_or, no_answer, outcome_of, Slot, slot_alloc, slot_put, Desk, Task, Scrap, free_pages, in_range, slot_in, LeavesSlotIn}
use Rattle.rh_tasks.proofs.Common.{Answers, Seat, MadeArea, Kept, Shown, the_module, scrap_size, task_of, desk_of, shown_of, IsWorld, FoundSeat}
use Rattle.rh_tasks.proofs.Common.{answer_of, flex_place, IsAbove, IsOpen, IsSome, all-at, sits}
use Rattle.rh_tasks.proofs.Common.{Owns, IsAt, Sits, begins, ends, past, stops, done-refused, granted-same, granted-keeps, named-is, free-is, Slid}
use Rattle.rh_defs.specs.declared.command.Command.TheVariants as command
use Rattle.rh_defs.specs.declared.raw_command.RawCommand.TheVariants as raw
use Rattle.rh_defs.specs.declared.refusal.Refusal.TheVariants.{NoFile, WrongManner}
use Rattle.rh_defs.specs.declared.reply.Reply.TheVariants as reply
use Rattle.rh_defs.specs.Post.{answers_held, held_by}
use Rattle.rh_defs.specs.RawCommands.{file_held, scrap}
use Rattle.rh_defs.specs.RawTasks.{is_raw}
use Rattle.rh_defs.proofs.MemoryLaws.{OnlyArea-both}
use Rattle.rh_slot.specs.declared.slot.Slot as code
use Rattle.rh_tasks.specs.Inner.RawSteps.{held_size}
use Rattle.rh_tasks.proofs.Buffers.{seat-handle}
use Rattle.rh_tasks.proofs.Fixed.{fixed-open}
use Rattle.rh_tasks.proofs.Frames.{bytes-stay}
use Rattle.rh_tasks.proofs.Leaves as leaves
use Rattle.rh_tasks.proofs.Loads.{new-fits, put-answers}
use Rattle.rh_tasks.proofs.Moves.{slid-desk, slid-world}
use Rattle.rh_tasks.proofs.Posts.{is-post}
use Rattle.rh_tasks.proofs.Scraps.{scrap-part}

-- ---- whether a task holds the scrap file's DataLoad

pub answers-none : (ref : ℕ) (o : Option Parcel) → None ≡ option_map (λ (p : Parcel). p.message) o → answers_held ref o ≡ false
answers-none ref None e = refl
answers-none ref (Some p) e = absurd cc

pub answers-some : (ref : ℕ) (message : Message) (o : Option Parcel) → Some message ≡ option_map (λ (p : Parcel). p.message) o
    → answers_held ref o ≡ (message.my_ref == ref)
answers-some ref message None e = absurd cc
answers-some ref message (Some p) e = let same : message ≡ p.message = cc in ap (λ (x : Message). x.my_ref == ref) (sym same)

module _ (d : Desk) (t : Task) where
  abbrev size_if : Option Scrap → Granted ℕ
  size_if o = found_or o NoFile >>= λ (file : Scrap). Ok (length file.bytes)

  pub held-nothing : d.scrap ≡ None → held_size d t ≡ Err NoFile
  unfolding found_or ◌>>=◌
  held-nothing none = ap (λ o. size_if (file_held (held_by t.handle d.post.seats) o)) none

  module _ (file : Scrap) (has : d.scrap ≡ Some file) where
    by-test : {b : Bool} → answers_held file.load (held_by t.handle d.post.seats) ≡ b → held_size d t ≡ size_if (if b then Some file else None)
    by-test e = ap (λ o. size_if (file_held (held_by t.handle d.post.seats) o)) has ∙ ap (λ b. size_if (if b then Some file else None)) e

    pub held-other : answers_held file.load (held_by t.handle d.post.seats) ≡ false → held_size d t ≡ Err NoFile
    unfolding found_or ◌>>=◌
    held-other e = by-test e

    pub held-own : answers_held file.load (held_by t.handle d.post.seats) ≡ true → held_size d t ≡ Ok (length file.bytes)
    unfolding found_or ◌>>=◌
    held-own e = by-test e

-- what the task at a place holds
pub seen-held : {m : Memory} {seats : List Seat} {made : List MadeArea} {files : FileList} {kept : Kept} {old : Shown}
    (w : IsWorld m seats made files kept) (view : shown_of m seats made files kept ≡ old) {i : ℕ} {s : Seat} {t : Task} → Sits seats i s → IsAt i t old.desk
    → {o : Option Message} → Answers m the_module kept.queue (λ post. option_map (λ (p : Parcel). p.message) (held_by s.handle post.seats)) o
    → o ≡ option_map (λ (p : Parcel). p.message) (held_by t.handle old.desk.post.seats)
seen-held {m} {seats} {made} {files} {kept} {old} w view {i} {s} {t} at there a =
    a (desk_of m seats made files kept).post (is-post w)
    ∙ ap (λ h. option_map (λ (p : Parcel). p.message) (held_by h (desk_of m seats made files kept).post.seats)) (seat-handle w view at there)
    ∙ ap (λ (x : Shown). option_map (λ (p : Parcel). p.message) (held_by t.handle x.desk.post.seats)) view

-- ---- the file that is held

record HeldFile (held : Option Parcel) (o : Option Scrap) (n : ℕ) : Type 0 where
  file : Scrap
  found : found_or (file_held held o) NoFile ≡ Ok file
  long : n ≡ length file.bytes
  is : o ≡ Some file

held-file : (held : Option Parcel) (o : Option Scrap) (n : ℕ) → Ok n ≡ (found_or (file_held held o) NoFile >>= λ (file : Scrap). Ok (length file.bytes))
    → HeldFile held o n
unfolding found_or ◌>>=◌
held-file held None n e = absurd cc
held-file held (Some file) n e = go (answers_held file.load held) refl e
  where
    go : (b : Bool) → answers_held file.load held ≡ b → Ok n ≡ (found_or (if b then Some file else None) NoFile >>= λ (file : Scrap). Ok (length file.bytes))
        → HeldFile held (Some file) n
    go true q h = record { file = file; found = rw q refl; long = cc; is = refl }
    go false q h = absurd cc

not-held : {r : Refusal} (g : Granted Scrap) → Err r ≡ (g >>= λ (file : Scrap). Ok (length file.bytes)) → g ≡ Err r
unfolding ◌>>=◌
not-held (Ok file) e = absurd cc
not-held (Err q) e = cc

-- ---- steps that are granted

given-ok : {A : Type 0} (g : Granted A) → Ok tt ≡ outcome_of g → (a : A) × (g ≡ Ok a)
given-ok (Ok a) e = (a, refl)
given-ok (Err r) e = absurd cc

is-ok : {A : Type 0} (g : Granted A) → IsOk g → (a : A) × (g ≡ Ok a)
is-ok (Ok a) e = (a, refl)
is-ok (Err r) e = absurd cc

alloc-ok : {A : Type 0} (g : Granted (Slot × A)) → Ok tt ≡ outcome_of g → IsOk (answer_of g)
alloc-ok (Ok p) e = refl
alloc-ok (Err r) e = absurd cc

pub alloc-answers : {A : Type 0} {m n : Memory} {slot : code.Slot} (g : Granted (Slot × A)) (r : Granted A) → LeavesSlotIn m n slot g r → Ok tt ≡ outcome_of g
    → IsOk r
alloc-answers {A} g r l e = let P : Granted A → Type 0 = λ x. IsOk x in subst P (sym l.answer) (alloc-ok g e)

-- ---- the command

module _ {m : Memory} {seats : List Seat} {made : List MadeArea} {files : FileList} {kept : Kept} {name : List ℕ} {i : ℕ} {s : Seat}
    (w : IsWorld m seats made files kept) (f : FoundSeat name seats i s) (k : ℕ) where
  abbrev d : Desk
  d = desk_of m seats made files kept

  abbrev held : Option Parcel
  held = held_by s.handle d.post.seats

  abbrev owns : Owns name seats s.slot
  owns = record { place = i; seat = s; found = f; slot_is = refl }

  pub scrap-missing : {r : Refusal} → Err r ≡ held_size d (task_of m s) → scrap d name k ≡ Err r
  unfolding scrap task_of
  scrap-missing e = begins _ (named-is m made files kept f) (ends _ (not-held (found_or (file_held held d.scrap) NoFile) e))

  module _ {n : ℕ} (holds : Ok n ≡ held_size d (task_of m s)) where
    the : HeldFile held d.scrap n
    unfolding task_of
    the = held-file held d.scrap n holds

    abbrev calls : Granted (Slot × ℕ)
    calls = slot_alloc m.free k n (slot_in m s.slot)

    alloc-is : slot_alloc (free_pages d) k (length the.file.bytes) (slot_in m s.slot) ≡ calls
    alloc-is =
        ap (λ free. slot_alloc free k (length the.file.bytes) (slot_in m s.slot)) (free-is w)
        ∙ ap (λ x. slot_alloc m.free k x (slot_in m s.slot)) (sym the.long)

    pub scrap-refused : {r : Refusal} → Err r ≡ outcome_of calls → scrap d name k ≡ Err r
    unfolding scrap task_of
    scrap-refused e =
        begins _ (named-is m made files kept f) (begins _ the.found (ends _ (alloc-is ∙ done-refused calls e)))

    fits : (p : Slot × ℕ) → calls ≡ Ok p → IsOk (slot_put k 0 the.file.bytes p.0)
    fits p e = new-fits m.free k n the.file.bytes (slot_in m s.slot) p e (omega (arith, the.long))

    pub scrap-wrong : Ok tt ≡ outcome_of calls → is_raw s.manner ≡ false → scrap d name k ≡ Err WrongManner
    unfolding scrap task_of
    scrap-wrong e played =
        let p = given-ok calls e in
        let q = is-ok (slot_put k 0 the.file.bytes p.0.0) (fits p.0 p.1) in
        begins _ (named-is m made files kept f) (begins _ the.found (begins _ (alloc-is ∙ p.1) (begins _ q.1 (stops (not (is_raw s.manner)) WrongManner _
        (ap not played)))))

    module _ {mid : Memory} {a : ℕ} (l : LeavesSlotIn m mid s.slot calls (Ok a)) where
      above : IsAbove s.slot.area.0
      above = all-at (λ (x : Seat). IsAbove x.slot.area.0) seats i s w.areas.slots_above (sits f)

      -- area 5 has the file still
      there : bytes mid 5 ≡ bytes m 5
      there = bytes-stay 5 (record { others = l.only.others }) (λ q. absurd (omega (arith, above)))

      pub scrap-opened : IsOpen mid 5
      scrap-opened =
          let stays : mid.area 5 ≡ m.area 5 = l.only.others 5 (λ q. absurd (omega (arith, above))) in
          let P : Option (List ℕ) → Type 0 = λ o. IsSome o in
          subst P (sym stays) (fixed-open 5 w.areas (omega arith))

      size-is : n ≡ scrap_size kept.scrap
      size-is = the.long ∙ ap (λ b. length b) (sym (scrap-part m kept.scrap the.file w.scrap the.is)) ∙ length-part (bytes m 5) 0 (scrap_size kept.scrap)

      pub scrap-inside : 0 + n ≤ length (bytes mid 5)
      scrap-inside = omega (arith, size-is, w.scrap, ap (λ b. length b) there)

      pub scrap-below : 5 ≡ s.slot.area.0 → 0 + n ≤ flex_place (slot_in mid s.slot)
      scrap-below q = absurd (omega (arith, above))

      bytes-are : part (bytes mid 5) 0 n ≡ the.file.bytes
      bytes-are = ap (λ b. part b 0 n) there ∙ ap (part (bytes m 5) 0) size-is ∙ scrap-part m kept.scrap the.file w.scrap the.is

      pub scrap-put : {p : Memory} (r : Granted (Unit {0}))
          → LeavesSlotIn mid p s.slot (no_answer (slot_put k 0 (part (bytes mid 5) 0 n) (slot_in mid s.slot))) r → IsOk r
      scrap-put r l2 =
          let P : List ℕ → Type 0 = λ b. IsOk (slot_put k 0 b (slot_in mid s.slot)) in
          put-answers (slot_put k 0 (part (bytes mid 5) 0 n) (slot_in mid s.slot)) r l2
          (subst P (sym bytes-are) (fits (slot_in mid s.slot, a) (leaves.granted l)))

      module _ (own : is_raw s.manner ≡ true) {last : Memory}
          (l2 : LeavesSlotIn mid last s.slot (no_answer (slot_put k 0 (part (bytes mid 5) 0 n) (slot_in mid s.slot))) (Ok tt)) where
        slides : Slid m last s.slot
        slides = record { still = l2.still; only = OnlyArea-both m mid last s.slot.area.0 l.only l2.only }

        puts : slot_put k 0 the.file.bytes (slot_in mid s.slot) ≡ Ok (slot_in last s.slot)
        puts = ap (λ b. slot_put k 0 b (slot_in mid s.slot)) (sym bytes-are) ∙ leaves.changed l2

        pub scrap-done : scrap d name k ≡ Ok (desk_of last seats made files kept, reply.Block a)
        unfolding scrap task_of
        scrap-done =
            begins _ (named-is m made files kept f) (begins _ the.found (begins _ (alloc-is ∙ leaves.granted l) (begins _ puts
            (past (not (is_raw s.manner)) WrongManner _ (ap not own) (granted-same (sym (slid-desk w owns slides)) refl)))))

        pub scrap-world : in_range (command.Raw (raw.Scrap name k)) ≡ true → IsWorld last seats made files kept
        scrap-world ranged =
            slid-world w owns slides (granted-keeps d _ (command.Raw (raw.Scrap name k)) (reply.Block a) scrap-done ranged w.desk)
