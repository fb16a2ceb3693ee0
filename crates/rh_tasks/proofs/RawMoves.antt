-- Which places a task opened to another one.
use Rattle.rh_tasks.proofs.Common.{
  ◌≡◌,
  ℕ,
  Bool,
  true,
  false,
  refl,
  ap,
  sym,
  ◌∙◌,
  List,
  Option,
  Some,
  None,
  not,
  ◌&&◌,
  ◌||◌,
  ◌==◌,
  option_map,
  list_any,
  if◌then◌else◌,
  Memory,
}
use Rattle.rh_tasks.proofs.Common.{FileList, Message, Parcel, Desk, Task, task_at, holds, overlap, Answers, slot_in, Seat, MadeArea, Kept, the_module, task_of}
use Rattle.rh_tasks.proofs.Common.{desk_of, IsWorld, IsAt, Sits, mapped-is}
use Rattle.rh_defs.specs.AnyMessage.{read_body}
use Rattle.rh_defs.specs.Post.{held_by}
use Rattle.rh_defs.specs.RawCommands.{is_bad_move, is_shut}
use Rattle.rh_defs.specs.RawTasks.{is_open_to, is_raw, names_range, opens_buffer, opens_range}
use Rattle.rh_tasks.proofs.Posts.{is-post}
use Rattle.rh_tasks.proofs.TransferBlocks.{SeatOf, a-task}

-- ---- by the message that is held

range-none : (from y n : ℕ) (o : Option Parcel) → None ≡ option_map (λ (p : Parcel). p.message) o → false ≡ opens_range from y n o
range-none from y n None e = refl
range-none from y n (Some p) e = absurd cc

-- a message of another task, or of this one
range-other : (from y n : ℕ) (message : Message) (o : Option Parcel) → Some message ≡ option_map (λ (p : Parcel). p.message) o
    → (message.from == from) ≡ false → false ≡ opens_range from y n o
range-other from y n message None e q = absurd cc
range-other from y n message (Some p) e q =
    let same : message ≡ p.message = cc in
    ap (λ b. b && names_range y n (read_body p.message.body)) (sym q ∙ ap (λ (x : Message). x.from == from) same)

range-some : (from y n : ℕ) (message : Message) (o : Option Parcel) → Some message ≡ option_map (λ (p : Parcel). p.message) o
    → (message.from == from) ≡ true → names_range y n (read_body message.body) ≡ opens_range from y n o
range-some from y n message None e q = absurd cc
range-some from y n message (Some p) e q =
    let same : message ≡ p.message = cc in
    ap (λ b. b && names_range y n (read_body message.body)) (sym q) ∙ ap (λ (x : Message). x.from == from && names_range y n (read_body x.body)) same

module _ {m : Memory} {seats : List Seat} {made : List MadeArea} {files : FileList} {kept : Kept} {i : ℕ} {s : Seat}
    (w : IsWorld m seats made files kept) (at : Sits seats i s) (from y n : ℕ) (t : Task) (there : IsAt i t (desk_of m seats made files kept)) where
  abbrev d : Desk
  d = desk_of m seats made files kept

  -- what the task holds
  its-held : {o : Option Message} → Answers m the_module kept.queue (λ post. option_map (λ (p : Parcel). p.message) (held_by s.handle post.seats)) o
      → o ≡ option_map (λ (p : Parcel). p.message) (held_by t.handle d.post.seats)
  unfolding task_of
  its-held a =
      a d.post (is-post w) ∙ ap (λ (x : Task). option_map (λ (p : Parcel). p.message) (held_by x.handle d.post.seats))
      (mapped-is (task_of m) seats i s t at there)

  pub no-fetch : {o : Option Message} → Answers m the_module kept.queue (λ post. option_map (λ (p : Parcel). p.message) (held_by s.handle post.seats)) o
      → None ≡ o → false ≡ opens_range from y n (held_by t.handle d.post.seats)
  no-fetch a e = range-none from y n (held_by t.handle d.post.seats) (e ∙ its-held a)

  module _ (message : Message) {o : Option Message}
      (a : Answers m the_module kept.queue (λ post. option_map (λ (p : Parcel). p.message) (held_by s.handle post.seats)) o) (e : Some message ≡ o) where
    pub other-fetch : (message.from == from) ≡ false → false ≡ opens_range from y n (held_by t.handle d.post.seats)
    other-fetch q = range-other from y n message (held_by t.handle d.post.seats) (e ∙ its-held a) q

    pub some-fetch : (message.from == from) ≡ true → names_range y n (read_body message.body) ≡ opens_range from y n (held_by t.handle d.post.seats)
    some-fetch q = range-some from y n message (held_by t.handle d.post.seats) (e ∙ its-held a) q

-- ---- by the task that the place is of

and-false : (b : Bool) → (b && false) ≡ false
and-false true = refl
and-false false = refl

and-true : (b : Bool) → (b && true) ≡ b
and-true true = refl
and-true false = refl

module _ {m : Memory} {seats : List Seat} {made : List MadeArea} {files : FileList} {kept : Kept} {j : ℕ} {r : Seat}
    (w : IsWorld m seats made files kept) (at : Sits seats j r) (from y n : ℕ) (u : Task) (there : IsAt j u (desk_of m seats made files kept))
    (held : Option Parcel) where
  -- a task that the desk plays
  pub opens-played : is_raw r.manner ≡ false → list_any (opens_buffer from r.buffer y n) r.taking ≡ is_open_to from held u y n
  unfolding task_of
  opens-played e =
      ap (λ b. if b then opens_range r.handle y n held && holds y n (slot_in m r.slot) else list_any (opens_buffer from r.buffer y n) r.taking) (sym e)
      ∙ ap (λ (x : Task). is_open_to from held x y n) (mapped-is (task_of m) seats j r u at there)

  -- one with code of its own
  module _ (raw : is_raw r.manner ≡ true) where
    its-open : (opens_range r.handle y n held && holds y n (slot_in m r.slot)) ≡ is_open_to from held u y n
    unfolding task_of
    its-open =
        ap (λ b. if b then opens_range r.handle y n held && holds y n (slot_in m r.slot) else list_any (opens_buffer from r.buffer y n) r.taking) (sym raw)
        ∙ ap (λ (x : Task). is_open_to from held x y n) (mapped-is (task_of m) seats j r u at there)

    pub opens-nowhere : holds y n (slot_in m r.slot) ≡ false → false ≡ is_open_to from held u y n
    opens-nowhere q = sym (and-false (opens_range r.handle y n held)) ∙ ap (λ b. opens_range r.handle y n held && b) (sym q) ∙ its-open

    pub opens-raw : holds y n (slot_in m r.slot) ≡ true → opens_range r.handle y n held ≡ is_open_to from held u y n
    opens-raw q = sym (and-true (opens_range r.handle y n held)) ∙ ap (λ b. opens_range r.handle y n held && b) (sym q) ∙ its-open

-- ---- whether bytes can be moved

module _ {m : Memory} {seats : List Seat} {made : List MadeArea} {files : FileList} {kept : Kept} {i : ℕ} {s : Seat}
    (w : IsWorld m seats made files kept) (at : Sits seats i s) (x h y n : ℕ) (t : Task) (there : IsAt i t (desk_of m seats made files kept)) where
  abbrev e : Desk
  e = desk_of m seats made files kept

  abbrev bad_of : Task → Bool
  bad_of t = is_bad_move e t x h y n

  its-bad : bad_of (task_of m s) ≡ bad_of t
  its-bad = ap bad_of (mapped-is (task_of m) seats i s t at there)

  pub bad-outside : holds x n (slot_in m s.slot) ≡ false → true ≡ bad_of t
  unfolding task_of
  bad-outside q =
      ap (λ b. not b || (s.handle == h && overlap x n y n) || is_shut s.handle (held_by s.handle e.post.seats) y n (task_at h e)) (sym q) ∙ its-bad

  module _ (inside : holds x n (slot_in m s.slot) ≡ true) where
    pub bad-own : (s.handle == h && overlap x n y n) ≡ true → true ≡ bad_of t
    unfolding task_of
    bad-own q = sym (rw (inside, q) refl) ∙ its-bad

    module _ (free : (s.handle == h && overlap x n y n) ≡ false) where
      rest-is : is_shut s.handle (held_by s.handle e.post.seats) y n (task_at h e) ≡ bad_of t
      unfolding task_of
      rest-is = sym (rw (inside, free) refl) ∙ its-bad

      pub bad-nobody : task_at h e ≡ None → false ≡ bad_of t
      bad-nobody none = sym (ap (is_shut s.handle (held_by s.handle e.post.seats) y n) none) ∙ rest-is

      pub bad-there : {j : ℕ} {r : Seat} → SeatOf seats h j r → (open_ : Bool)
          → open_ ≡ is_open_to s.handle (held_by s.handle e.post.seats) (task_of m r) y n → not open_ ≡ bad_of t
      bad-there b open_ is = ap not is ∙ sym (ap (is_shut s.handle (held_by s.handle e.post.seats) y n) (a-task w b)) ∙ rest-is
