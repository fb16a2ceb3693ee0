-- Tasks that start and end, and areas that change, on a desk with its bytes renamed.
use Rattle.rh_laws.proofs.Common.{◌≡◌, ℕ, ◌+◌, Bool, cond, List, [], ◌∷◌, length, map, refl, sym, ap, ◌∙◌, Option, Some, None, ℤ, ◌==◌, nat_le}
use Rattle.rh_laws.proofs.Common.{nat_lt, not, filter, slice_index, option_map, bytes_eq, length-map, map-append, Manner, Reply}
use Rattle.rh_laws.proofs.Common.{Granted, refuse_if, Slot, slot_pages, slot_begin}
use Rattle.rh_laws.proofs.Common.{post_join, Desk, Task, Scrap, free_pages, has_name, with_slot, with_delivered, Answer}
use Rattle.rh_laws.proofs.Common.{start_task, kill}
use Rattle.rh_laws.proofs.Common.{Follows, follows-then, follows-equal, follows-as}
use Rattle.rh_defs.specs.declared.refusal.Refusal.TheVariants.{NameInUse, TooManyTasks}
use Rattle.rh_defs.specs.declared.reply.Reply.TheVariants as reply
use Rattle.rh_defs.specs.Slot.{new_slot}
use Rattle.rh_defs.specs.Module.{module_change}
use Rattle.rh_defs.specs.Post.{post_death}
use Rattle.rh_defs.specs.Desk.{most_tasks, scrap_area, module_area, file_length}
use Rattle.rh_defs.specs.Commands.{least_length, pages_after, change_module, change_pages, change_made}
use Rattle.rh_defs.specs.Commands.{change_area}
use Rattle.rh_defs.proofs.Follows.{follows-same, chosen-both}
use Rattle.rh_laws.specs.Renaming.{renamed_slot, renamed_task, renamed_scrap, renamed}
use Rattle.rh_laws.proofs.RenamedParts.{By, follows-by, follows-test, filter-map}
use Rattle.rh_laws.proofs.RenamedDesks.{renamed_with, any-map, free-renamed, named-renamed}
use Rattle.rh_laws.proofs.RenamedDesks.{with_slot-renamed, with_delivered-renamed}

-- a file with its bytes renamed
abbrev pub renamed_file : (ℕ → ℕ) → List ℕ × List ℕ → List ℕ × List ℕ
renamed_file f file = (file.0, map f file.1)

-- whether a file has the name
abbrev pub is_file : List ℕ → List ℕ × List ℕ → Bool
is_file name file = bytes_eq file.0 name

module _ (f : ℕ → ℕ) where
  abbrev After : Granted Answer → Granted Answer → Type 0
  After x y = Follows (By (renamed_with f)) x y

  -- a slot put back
  pub slot-back : (h : ℕ) (s : Slot) (d : Desk) (r : Reply)
      → ◌≡◌ {A = Answer} (with_slot h (renamed_slot f s) (renamed f d), r) (renamed f (with_slot h s d), r)
  slot-back h s d r = ap (λ (e : Desk). (e, r)) (with_slot-renamed f h s d)

  -- ---- tasks

  pub start_task-renamed : (d : Desk) (name : List ℕ) (buffer : ℕ) (manner : Manner) → After (start_task d name buffer manner) (start_task
      (renamed f d) name buffer manner)
  unfolding start_task slot_begin
  start_task-renamed d name buffer manner =
      follows-as _ _ _ _ (ap (λ b. refuse_if b NameInUse) (any-map (has_name name) (renamed_task f) (λ t. refl) d.tasks))
      (follows-as _ _ _ _ (ap (λ n. refuse_if (nat_le most_tasks n) TooManyTasks) (length-map d.tasks (renamed_task f)))
      (follows-then _ _ _ (follows-by _ _ (begin (free_pages d) (free_pages (renamed f d)) (free-renamed f d)) λ s.
      Follows.both (ap (λ (ts : List Task). (with_tasks ts, reply.Started d.next_handle)) (sym (map-append (renamed_task f) d.tasks (fresh s ∷ [])))))))
    where
      begin : (n m : ℕ) → m ≡ n → Follows (By (renamed_slot f)) (slot_begin n) (slot_begin m)
      begin n m same = follows-test _ _ _ _ _ (ap (λ k. nat_lt k (slot_pages new_slot)) same) (Follows.both refl)

      fresh : Slot → Task
      fresh s = record { handle = d.next_handle; name = name; buffer = buffer; manner = manner; slot = s; sending = []; taking = []; last_sent = None }

      with_tasks : List Task → Desk
      with_tasks ts = record (renamed f d) { tasks = ts; post = post_join d.next_handle d.post; next_handle = d.next_handle + 1 }

  pub kill-renamed : (d : Desk) (name : List ℕ) → After (kill d name) (kill (renamed f d) name)
  unfolding kill
  kill-renamed d name =
      follows-by _ _ (named-renamed f name d) λ t.
      Follows.both (
      ap (λ (e : Desk). (record e { tasks = filter (others t) (map (renamed_task f) d.tasks) }, reply.Done)) (with_delivered-renamed f
      (post_death t.handle d.post) d)
      ∙ ap (λ (ts : List Task). (record (renamed f (with_delivered (post_death t.handle d.post) d)) { tasks = ts }, reply.Done)) (filter-map
      (others t) (renamed_task f) (λ u. refl) d.tasks)
      )
    where
      others : Task → Task → Bool
      others t other = not (other.handle == t.handle)

  -- ---- areas

  file_length-renamed : (o : Option Scrap) → file_length (option_map (renamed_scrap f) o) ≡ file_length o
  file_length-renamed None = refl
  file_length-renamed (Some file) = length-map file.bytes f

  change_module-renamed : (d : Desk) (delta : ℤ) → After (change_module d delta) (change_module (renamed f d) delta)
  unfolding change_module
  change_module-renamed d delta =
      follows-equal _ _ _ _ (ap (λ n. module_change n delta d.post.heap) (free-renamed f d)) λ c. Follows.both refl

  change_pages-renamed : (d : Desk) (k : ℕ) (delta : ℤ) → After (change_pages d k delta) (change_pages (renamed f d) k delta)
  unfolding change_pages
  change_pages-renamed d k delta =
      follows-equal _ _ _ _ (
      ap (λ n. pages_after n (least_length k (renamed f d)) (slice_index d.areas k) delta) (free-renamed f d)
      ∙ ap (λ n. pages_after (free_pages d) (cond (k == scrap_area) n 0) (slice_index d.areas k) delta) (file_length-renamed d.scrap)
      ) λ n. Follows.both refl

  change_made-renamed : (d : Desk) (k : ℕ) (delta : ℤ) → After (change_made d k delta) (change_made (renamed f d) k delta)
  unfolding change_made
  change_made-renamed d k delta =
      follows-same _ _ _ λ m. follows-equal _ _ _ _ (ap (λ n. pages_after n 0 m.pages delta) (free-renamed f d)) λ n. follows-then _ _ _ (Follows.both refl)

  pub change_area-renamed : (d : Desk) (k : ℕ) (delta : ℤ) → After (change_area d k delta) (change_area (renamed f d) k delta)
  change_area-renamed d k delta =
      chosen-both (Follows (By (renamed_with f))) (k == module_area) _ _ _ _ (change_module-renamed d delta)
      (chosen-both (Follows (By (renamed_with f))) (nat_lt k (length d.areas)) _ _ _ _ (change_pages-renamed d k delta) (change_made-renamed d k delta))
