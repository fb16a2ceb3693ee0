-- Commands that are a call on the slot of a named task.
use Rattle.rh_tasks.proofs.Common.{◌≡◌, ℕ, ◌∙◌, sym, ap, refl, List, Ok, Err, IsOk, find, true, Memory, FileList, Command, Refusal, NoName, Reply, Granted}
use Rattle.rh_tasks.proofs.Common.{◌>>=◌, found_or, in_range, Desk, Task, named, free_pages, with_slot, Answer, change, slot_in, Seat, MadeArea, Kept}
use Rattle.rh_tasks.proofs.Common.{desk_of, task_of, IsWorld, Owns, looked, begins, ends, granted-same, free-is, granted-keeps, Slid, found-named}
use Rattle.rh_defs.specs.Slot as plain
use Rattle.rh_defs.specs.Desk.{has_name}
use Rattle.rh_slot.specs.declared.slot.Slot.{Slot}
use Rattle.rh_tasks.proofs.Chains.{skipped, stopped}
use Rattle.rh_tasks.proofs.Moves.{slid-desk, slid-world}

-- what a call on a slot gives becomes the task's slot and the reply
abbrev pub give_back : {A : Type 0} → (A → plain.Slot) → (A → Reply) → ℕ → Desk → Granted A → Granted Answer
give_back out said h d given = given >>= (λ a. Ok (with_slot h (out a) d, said a))

-- a command that is a call on a slot
abbrev pub on_slot : {A : Type 0} → (ℕ → plain.Slot → Granted A) → (A → plain.Slot) → (A → Reply) → List ℕ → Desk → Granted Answer
on_slot call out said name d = named name d >>= (λ t. give_back out said t.handle d (call (free_pages d) t.slot))

-- the same behind a step that looks for what the call is about
abbrev pub on_idle : {A B : Type 0} → (Task → Granted B) → (ℕ → plain.Slot → Granted A) → (A → plain.Slot) → (A → Reply) → List ℕ → Desk → Granted Answer
on_idle look call out said name d = named name d >>= (λ t. look t >>= (λ b. give_back out said t.handle d (call (free_pages d) t.slot)))

module _ {A : Type 0} {m : Memory} {seats : List Seat} {made : List MadeArea} {files : FileList} {kept : Kept} {name : List ℕ} {slot : Slot}
    (call : ℕ → plain.Slot → Granted A) (out : A → plain.Slot) (said : A → Reply) (w : IsWorld m seats made files kept) (o : Owns name seats slot) where
  abbrev d : Desk
  d = desk_of m seats made files kept

  the_call : call (free_pages d) (task_of m o.seat).slot ≡ call m.free (slot_in m slot)
  unfolding task_of
  the_call = ap (λ k. call k (slot_in m o.seat.slot)) (free-is w) ∙ ap (λ x. call m.free (slot_in m x)) o.slot_is

  pub slot-refused : {r : Refusal} → call m.free (slot_in m slot) ≡ Err r → on_slot call out said name d ≡ Err r
  slot-refused refused = begins _ (found-named w o) (ends _ (the_call ∙ refused))

  module _ {n : Memory} (slid : Slid m n slot) {a : A} (granted : call m.free (slot_in m slot) ≡ Ok a) (is : slot_in n slot ≡ out a) where
    pub slot-done : on_slot call out said name d ≡ Ok (desk_of n seats made files kept, said a)
    unfolding task_of
    slot-done = begins _ (found-named w o) (begins _ (the_call ∙ granted)
        (granted-same (sym (slid-desk w o slid ∙ ap (λ s. with_slot o.seat.handle s d) is)) refl))

    pub slot-world : (c : Command) → change d c ≡ on_slot call out said name d → in_range c ≡ true → IsWorld n seats made files kept
    slot-world c same ranged = slid-world w o slid (granted-keeps d _ c (said a) (same ∙ slot-done) ranged w.desk)

  -- behind a step that looks
  pub idle-is : {B : Type 0} (look : Task → Granted B) → IsOk (look (task_of m o.seat)) → on_idle look call out said name d ≡ on_slot call out said name d
  idle-is look is =
      begins _ (found-named w o) (skipped (look (task_of m o.seat)) _ is) ∙ sym (begins _ (found-named w o) refl)

  -- behind a step that is refused only as the call is
  pub first-is : {B : Type 0} (look : Task → Granted B) → ((r : Refusal) → look (task_of m o.seat) ≡ Err r → call m.free (slot_in m slot) ≡ Err r)
      → on_idle look call out said name d ≡ on_slot call out said name d
  first-is {B} look refuses = go (look (task_of m o.seat)) refl
    where
      go : (g : Granted B) → look (task_of m o.seat) ≡ g → on_idle look call out said name d ≡ on_slot call out said name d
      go (Ok b) e = idle-is look (rw e refl)
      go (Err r) e = begins _ (found-named w o) (ends _ e) ∙ sym (slot-refused (refuses r e))

-- the look is refused
pub not-idle : {A B : Type 0} (m : Memory) (seats : List Seat) (made : List MadeArea) (files : FileList) (kept : Kept) (name : List ℕ)
    (look : Task → Granted B) (call : ℕ → plain.Slot → Granted A) (out : A → plain.Slot) (said : A → Reply) {r : Refusal}
    → looked look m name seats ≡ Err r → on_idle look call out said name (desk_of m seats made files kept) ≡ Err r
unfolding named
not-idle m seats made files kept name look call out said e =
    let d = desk_of m seats made files kept in
    stopped (found_or (find (has_name name) d.tasks) NoName) look (λ t b. give_back out said t.handle d (call (free_pages d) t.slot)) e
