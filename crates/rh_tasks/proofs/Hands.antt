-- What a poll hands to a task with code of its own.
use Rattle.rh_tasks.proofs.Common.{◌≡◌, ℕ, Bool, true, false, cond, refl, ap, sym, ◌∙◌, List, [], ◌∷◌, map, Option, Some, None, position, option_map}
use Rattle.rh_tasks.proofs.Common.{if◌then◌else◌, Memory}
use Rattle.rh_tasks.proofs.Common.{FileList, post_poll, Desk, Task, Answers, Seat, MadeArea, Kept, Shown, the_module, task_of, desk_of, shown_of, IsWorld}
use Rattle.rh_tasks.proofs.Common.{FoundSeat}
use Rattle.rh_tasks.proofs.Common.{IsAt, Sits, is_named}
use Rattle.std.specs.Prelude.{find, ◌||◌}
use Rattle.std.specs.List.{list_any}
use Rattle.rh_defs.specs.Desk.{has_name}
use Rattle.rh_defs.specs.RawTasks.{handed_parts, handed_to, is_raw, is_raw_task, next_taken}
use Rattle.rh_tasks.proofs.Buffers.{seat-task}
use Rattle.rh_tasks.proofs.Finding.{find-map, find-named, find-none}
use Rattle.rh_tasks.proofs.Posts.{is-post}

module _ {m : Memory} {seats : List Seat} {made : List MadeArea} {files : FileList} {kept : Kept} {old : Shown}
    (w : IsWorld m seats made files kept) (view : shown_of m seats made files kept ≡ old) {i : ℕ} {s : Seat} {t : Task} (at : Sits seats i s)
    (there : IsAt i t old.desk) where
  abbrev told : Desk → Task → Option (ℕ × List ℕ)
  told d t = option_map handed_parts (next_taken d (Some t))

  same : told (desk_of m seats made files kept) (task_of m s) ≡ told old.desk t
  same = ap (λ (x : Shown). told x.desk (task_of m s)) view ∙ ap (told old.desk) (seat-task w view at there)

  -- a task that the desk plays
  pub handed-none : is_raw s.manner ≡ false → None ≡ told old.desk t
  unfolding task_of
  handed-none e =
      sym (ap (λ b. option_map handed_parts (if b then (post_poll s.handle (desk_of m seats made files kept).post).1 else None)) e) ∙ same

  -- one with code of its own
  pub handed-some : is_raw s.manner ≡ true → {o : Option (ℕ × List ℕ)}
      → Answers m the_module kept.queue (λ post. option_map handed_parts (post_poll s.handle post).1) o → o ≡ told old.desk t
  unfolding task_of
  handed-some e a =
      a (desk_of m seats made files kept).post (is-post w)
      ∙ sym (ap (λ b. option_map handed_parts (if b then (post_poll s.handle (desk_of m seats made files kept).post).1 else None)) e) ∙ same

-- the task with the name
pub hands-some : {m : Memory} {seats : List Seat} {made : List MadeArea} {files : FileList} {kept : Kept} {name : List ℕ} {i : ℕ} {s : Seat}
    → IsWorld m seats made files kept → FoundSeat name seats i s
    → option_map handed_parts (next_taken (desk_of m seats made files kept) (Some (task_of m s)))
    ≡ option_map handed_parts (handed_to name (desk_of m seats made files kept))
hands-some {m} {seats} {made} {files} {kept} w f =
    ap (λ o. option_map handed_parts (next_taken (desk_of m seats made files kept) o)) (sym (find-named m f))

-- whether it has code of its own
pub raw-some : (m : Memory) (seats : List Seat) (made : List MadeArea) (files : FileList) (kept : Kept) {name : List ℕ} {i : ℕ} {s : Seat}
    → FoundSeat name seats i s → is_raw s.manner ≡ is_raw_task (find (has_name name) (desk_of m seats made files kept).tasks)
unfolding task_of
raw-some m seats made files kept f = sym (ap is_raw_task (find-named m f))

pub raw-none : (m : Memory) (seats : List Seat) (made : List MadeArea) (files : FileList) (kept : Kept) (name : List ℕ)
    → position (is_named name) seats ≡ None → false ≡ is_raw_task (find (has_name name) (desk_of m seats made files kept).tasks)
unfolding task_of
raw-none m seats made files kept name e = sym (ap is_raw_task (find-map (task_of m) (has_name name) seats (find-none (is_named name) seats e)))

-- where no task has, it has none
neither : (a b : Bool) → (a || b) ≡ false → (a ≡ false) × (b ≡ false)
neither true b e = absurd cc
neither false b e = (refl, e)

absent : (m : Memory) (name : List ℕ) (seats : List Seat) → list_any (λ (s : Seat). is_raw s.manner) seats ≡ false
    → is_raw_task (find (has_name name) (map (task_of m) seats)) ≡ false
unfolding task_of
absent m name [] e = refl
absent m name (s ∷ seats) e =
    let w = neither (is_raw s.manner) (list_any (λ (s : Seat). is_raw s.manner) seats) e in
    go (has_name name (task_of m s)) w.0 (absent m name seats w.1)
  where
    go : (b : Bool) → is_raw s.manner ≡ false → is_raw_task (find (has_name name) (map (task_of m) seats)) ≡ false
        → is_raw_task (cond b (Some (task_of m s)) (find (has_name name) (map (task_of m) seats))) ≡ false
    go true own rest = own
    go false own rest = rest

pub raw-absent : (m : Memory) (seats : List Seat) (made : List MadeArea) (files : FileList) (kept : Kept) (name : List ℕ)
    → list_any (λ (s : Seat). is_raw s.manner) seats ≡ false
    → false ≡ is_raw_task (find (has_name name) (desk_of m seats made files kept).tasks)
raw-absent m seats made files kept name e = sym (absent m name seats e)

-- no task has it
pub hands-none : (m : Memory) (seats : List Seat) (made : List MadeArea) (files : FileList) (kept : Kept) (name : List ℕ)
    → position (is_named name) seats ≡ None → None ≡ option_map handed_parts (handed_to name (desk_of m seats made files kept))
unfolding task_of
hands-none m seats made files kept name e =
    sym (ap (λ o. option_map handed_parts (next_taken (desk_of m seats made files kept) o))
    (find-map (task_of m) (has_name name) seats (find-none (is_named name) seats e)))
