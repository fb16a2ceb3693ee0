-- What a save to the scrap file knows of a world at each of its steps.
use Rattle.rh_tasks.proofs.Common.{◌≡◌, ℕ, ◌<◌, ◌≤◌, false, sym, ap, ◌∙◌, arith, List, length, Ok, is_some, get_or, Memory, FileList, Granted}
use Rattle.rh_tasks.proofs.Common.{Letter, slot_size, post_send_pages, Desk, Task, wider, scrap_shortage, slot_in}
use Rattle.rh_tasks.proofs.Common.{Answers, Seat, MadeArea, Shown, Kept, the_module, task_of, shown_of, IsWorld, IsAt, Sits}
use Rattle.rh_defs.specs.declared.transfer_action.SaveFile.{SaveFile}
use Rattle.rh_defs.specs.Letters.{load_letter}
use Rattle.rh_tasks.proofs.Buffers.{sits-there, seat-there, seat-handle}
use Rattle.rh_tasks.proofs.Scraps.{seen-desk, seen-slot, seen-busy, seen-pages, seen-free}
use Rattle.rh_tasks.proofs.ScrapTransfers.{Saves, Widens}

module _ {m : Memory} {seats : List Seat} {made : List MadeArea} {files : FileList} {kept : Kept} {old : Shown}
    (w : IsWorld m seats made files kept) (view : shown_of m seats made files kept ≡ old) where
  -- area 5 is longer
  pub widens : {n k free : ℕ} {first : Desk} → k ≡ scrap_shortage n old.desk → free ≡ m.free → k ≤ free → first ≡ wider k old.desk → Widens old.desk first n
  widens short free room now = record {
    room = omega (arith, short, free, room, seen-free w view);
    widened = now ∙ ap (λ k. wider k old.desk) short;
  }

  module _ {i : ℕ} {s : Seat} (inside : i < length old.desk.tasks) (is : s ≡ get_or seats i s) where
    sits : Sits seats i s
    sits = sits-there w view inside is

    module _ {t : Task} (there : IsAt i t old.desk) (act : SaveFile) where
      -- the source's size
      pub size-is : {r : Granted ℕ} → r ≡ slot_size act.transfer.anchor (slot_in m s.slot) → slot_size act.transfer.anchor t.slot ≡ r
      size-is e = ap (slot_size act.transfer.anchor) (sym (seen-slot w view sits there)) ∙ sym e

      module _ {n : ℕ} {l : Letter} (letter : l ≡ load_letter s.handle act n) where
        letter-is : l ≡ load_letter t.handle act n
        letter-is = letter ∙ ap (λ h. load_letter h act n) (seat-handle w view sits there)

        -- the pages that the letter takes
        pub pages-are : {r : Granted ℕ} → Answers m the_module kept.queue (post_send_pages l) r → post_send_pages (load_letter t.handle act n) old.desk.post ≡ r
        pages-are e = ap (λ l. post_send_pages l old.desk.post) (sym letter-is) ∙ seen-pages w view l e

        pub saves : Ok n ≡ slot_size act.transfer.anchor (slot_in m s.slot) → false ≡ is_some kept.scrap → {k : ℕ}
            → Answers m the_module kept.queue (post_send_pages l) (Ok k) → Saves old.desk i t act n l k
        saves given idle needs = record {
          is = seen-desk w view;
          at = there;
          given = size-is given;
          same = letter-is;
          idle = seen-busy w view ∙ sym idle;
          needs = seen-pages w view l needs;
        }

    -- the task there
    pub own-there : IsAt i (task_of m s) old.desk
    own-there = seat-there w view sits
