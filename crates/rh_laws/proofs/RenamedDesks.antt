-- Desks with their bytes renamed: what is found in them, and what is edited.
use Rattle.rh_laws.proofs.Common.{◌≡◌, ℕ, ◌+◌, ◌-◌, Bool, true, false, cond, List, [], ◌∷◌, map, refl, sym, ap, subst, ◌∙◌, Option}
use Rattle.rh_laws.proofs.Common.{Some, None, ◌/◌, ◌==◌, ◌||◌, find, list_any, option_map, NoName, NotABlock, Letter, Granted, total}
use Rattle.rh_laws.proofs.Common.{Slot, Post, post_send, Desk, Task, Scrap}
use Rattle.rh_laws.proofs.Common.{free_pages, has_name, named, task_at, idle_block, edit_task, with_task, with_slot, with_post, with_delivered, send_letter}
use Rattle.rh_laws.proofs.Common.{Follows, follows-then, follows-equal}
use Rattle.rh_defs.specs.Chain.{result_or}
use Rattle.rh_defs.specs.Pieces.{page_size}
use Rattle.rh_defs.specs.Post.{post_is_live}
use Rattle.rh_defs.specs.RawTasks.{is_raw_at, is_raw_task}
use Rattle.rh_defs.specs.Desk.{Made, task_pages, idle_buffer, kept_scrap}
use Rattle.rh_laws.specs.Renaming.{renamed_slot, renamed_task, renamed_scrap, renamed}
use Rattle.rh_laws.proofs.RenamedParts.{By, follows-by, found-by, total-map, find-map}
use Rattle.rh_laws.proofs.RenamedHeaps.{renamed_cut}
use Rattle.rh_laws.proofs.RenamedSlots.{renamed_here, pages-renamed, slot_block-renamed, heap_block_at-renamed}

-- a desk with its bytes renamed, and what comes with it
abbrev pub renamed_with : {B : Type 0} → (ℕ → ℕ) → Desk × B → Desk × B
renamed_with f a = (renamed f a.0, a.1)

-- what a call leaves that answers nothing more
pub result-by : {A : Type 0} {g : A → A} {first second : Granted A} (s : A) → Follows (By g) first second → result_or (g s) second ≡ g (result_or s first)
result-by s (Follows.both e) = e
result-by s Follows.neither = refl

pub any-map : {A : Type 0} (test : A → Bool) (g : A → A) → ((x : A) → test (g x) ≡ test x) → (xs : List A) → list_any test (map g xs) ≡ list_any test xs
any-map test g same [] = refl
any-map test g same (x ∷ xs) = ap (λ b. b || list_any test (map g xs)) (same x) ∙ ap (λ b. test x || b) (any-map test g same xs)

module _ (f : ℕ → ℕ) where
  -- ---- finding

  pub free-renamed : (d : Desk) → free_pages (renamed f d) ≡ free_pages d
  free-renamed d =
      ap (λ n. d.pool - (total (λ pages. pages) d.areas + d.post.heap.end / page_size + total (λ (m : Made). m.pages) d.made + n))
      (total-map task_pages (renamed_task f) (λ t. pages-renamed f t.slot) d.tasks)

  -- a call where so many pages are free
  pub where-free : {A : Type 0} {R : A → A → Type 0} {first : Granted A} (d : Desk) (call : ℕ → Granted A) → Follows R first (call (free_pages d)) →
      Follows R first (call (free_pages (renamed f d)))
  where-free {R = R} {first = first} d call h = subst (λ n. Follows R first (call n)) (sym (free-renamed d)) h

  pub named-renamed : (name : List ℕ) (d : Desk) → Follows (By (renamed_task f)) (named name d) (named name (renamed f d))
  unfolding named
  named-renamed name d = found-by (renamed_task f) (find (has_name name) d.tasks) _ NoName (find-map (has_name name) (renamed_task f) (λ t. refl) d.tasks)

  pub task_at-renamed : (h : ℕ) (d : Desk) → task_at h (renamed f d) ≡ option_map (renamed_task f) (task_at h d)
  task_at-renamed h d = find-map (λ (t : Task). t.handle == h) (renamed_task f) (λ t. refl) d.tasks

  -- whether a live task has code of its own
  pub raw-renamed : (h : ℕ) (d : Desk) → is_raw_at h (renamed f d) ≡ is_raw_at h d
  raw-renamed h d = ap is_raw_task (task_at-renamed h d) ∙ same (task_at h d)
    where
      same : (o : Option Task) → is_raw_task (option_map (renamed_task f) o) ≡ is_raw_task o
      same None = refl
      same (Some t) = refl

  pub idle_block-renamed : (k : ℕ) (t : Task) → Follows (By (renamed_here f)) (idle_block k t) (idle_block k (renamed_task f t))
  unfolding idle_block
  idle_block-renamed k t = follows-by _ _ (slot_block-renamed f k t.slot) λ b. follows-then _ _ _ (Follows.both refl)

  pub idle_buffer-renamed : (address : ℕ) (t : Task) → Follows (By (renamed_cut f)) (idle_buffer address t) (idle_buffer address (renamed_task f t))
  unfolding idle_buffer
  idle_buffer-renamed address t =
      follows-by _ _ (found-by (renamed_cut f) _ _ NotABlock (heap_block_at-renamed f address t.slot)) λ b. follows-then _ _ _ (Follows.both refl)

  -- ---- edits

  edit-renamed : (h : ℕ) (edit other : Task → Task) → ((t : Task) → other (renamed_task f t) ≡ renamed_task f (edit t)) → (ts : List Task) →
      edit_task h other (map (renamed_task f) ts) ≡ map (renamed_task f) (edit_task h edit ts)
  edit-renamed h edit other same [] = refl
  edit-renamed h edit other same (t ∷ ts) = go (t.handle == h) (same t) (edit-renamed h edit other same ts)
    where
      go : (b : Bool) → other (renamed_task f t) ≡ renamed_task f (edit t) → edit_task h other (map (renamed_task f) ts)
          ≡ map (renamed_task f) (edit_task h edit ts)
          → cond b (other (renamed_task f t) ∷ map (renamed_task f) ts) (renamed_task f t ∷ edit_task h other (map (renamed_task f) ts))
          ≡ map (renamed_task f) (cond b (edit t ∷ ts) (t ∷ edit_task h edit ts))
      go true e rest = ap (λ u. u ∷ map (renamed_task f) ts) e
      go false e rest = ap (λ l. renamed_task f t ∷ l) rest

  pub with_task-renamed : (h : ℕ) (edit other : Task → Task) (d : Desk) → ((t : Task) → other (renamed_task f t) ≡ renamed_task f (edit t)) →
      with_task h other (renamed f d) ≡ renamed f (with_task h edit d)
  unfolding with_task
  with_task-renamed h edit other d same = ap (λ (ts : List Task). record (renamed f d) { tasks = ts }) (edit-renamed h edit other same d.tasks)

  pub with_slot-renamed : (h : ℕ) (s : Slot) (d : Desk) → with_slot h (renamed_slot f s) (renamed f d) ≡ renamed f (with_slot h s d)
  with_slot-renamed h s d = with_task-renamed h (λ t. record t { slot = s }) (λ t. record t { slot = renamed_slot f s }) d (λ t. refl)

  kept-renamed : (p : Post) (o : Option Scrap) → kept_scrap p (option_map (renamed_scrap f) o) ≡ option_map (renamed_scrap f) (kept_scrap p o)
  kept-renamed p None = refl
  kept-renamed p (Some file) = go (post_is_live file.load p)
    where
      go : (b : Bool) → cond b (Some (renamed_scrap f file)) None ≡ option_map (renamed_scrap f) (cond b (Some file) None)
      go true = refl
      go false = refl

  pub with_delivered-renamed : (p : Post) (d : Desk) → with_delivered p (renamed f d) ≡ renamed f (with_delivered p d)
  unfolding with_delivered
  with_delivered-renamed p d = ap (λ (o : Option Scrap). record (renamed f d) { post = p; scrap = o }) (kept-renamed p d.scrap)

  pub send_letter-renamed : (l : Letter) (d : Desk) → Follows (By (renamed f)) (send_letter l d) (send_letter l (renamed f d))
  unfolding send_letter
  send_letter-renamed l d =
      follows-equal _ _ _ _ (ap (λ n. post_send n l d.post) (free-renamed d)) λ sent.
      Follows.both (with_task-renamed l.from _ _ (with_post sent.0 d) (λ t. refl))
