-- The commands on the module area, from what its call leaves.
use Rattle.rh_tasks.proofs.Common.{◌≡◌, ℕ, ◌-◌, ◌%◌, Bool, true, false, refl, ap, sym, subst, ◌∙◌, List, length, ℤ, Option, Some, None, Ok, Err, IsOk}
use Rattle.rh_tasks.proofs.Common.{is_some, ok_or, option_map, PAGE, Memory, bytes, FileList, Command, Refusal, NotABlock, Reply, Granted, ◌>>=◌, ◌>>◌}
use Rattle.rh_tasks.proofs.Common.{refuse_if, found_or, left_of, no_answer, Split, first_at, Heap, Segment, block_at, block_size, size_of, module_claim}
use Rattle.rh_tasks.proofs.Common.{module_resize, module_change, in_range, Post, Desk, free_pages, IsDesk, Answer, module_start, change, module_heap_in}
use Rattle.rh_tasks.proofs.Common.{IsQueue}
use Rattle.rh_tasks.proofs.Common.{post_in}
use Rattle.rh_tasks.proofs.Common.{Seat, MadeArea, Kept, the_module, desk_of, IsWorld, begins, ends, granted-same, free-is, granted-keeps}
use Rattle.rh_defs.specs.declared.refusal.Refusal.TheVariants.{NotYours}
use Rattle.rh_defs.specs.Blocks.{SameShape}
use Rattle.rh_defs.specs.Heap.{is_block_at, need_found}
use Rattle.rh_defs.specs.declared.heap.HeapRefusal.TheVariants as heap_refusal
use Rattle.rh_defs.proofs.Desks.{with_module-keeps}
use Rattle.rh_defs.proofs.ModuleKeeps.{Fills}
use Rattle.rh_defs.proofs.ModuleLaws.{module_free-none, module_resize-refused}
use Rattle.rh_defs.proofs.ShapeLaws.{blank_cut, block-blank}
use Rattle.rh_defs.specs.Module.{module_free}
use Rattle.rh_defs.specs.Post.{post_is_message}
use Rattle.rh_defs.specs.Desk.{with_module}
use Rattle.rh_defs.specs.Commands.{own_block}
use Rattle.rh_module.specs.ModuleCalls as module_calls
use Rattle.rh_wimp.specs.QueueLaws.{post_with_heap}
use Rattle.rh_wimp.proofs.FrameLaws.{IsOff}
use Rattle.rh_wimp.proofs.BesideLaws.{Beside, off-message, claim-beside, free-beside, resize-beside, change-beside, answers-beside, queue-beside, post_in-calls}
use Rattle.rh_tasks.specs.BlockBytes.{heap_written}
use Rattle.rh_tasks.proofs.BlockWrites.{write-beside}
use Rattle.rh_tasks.proofs.Chains.{skipped, answered, answer-refused}
use Rattle.rh_tasks.proofs.Posts.{small, smaller, is-post}
use Rattle.rh_tasks.proofs.Fixed.{module-desk, module-world}

-- what a call on the heap gives becomes the module area's heap and the reply
abbrev pub on_module : {A : Type 0} → (ℕ → Heap → Granted (Heap × A)) → (A → Reply) → Desk → Granted Answer
on_module call said d = call (free_pages d) d.post.heap >>= (λ c. Ok (with_module c.0 d, said c.1))

-- the same behind the look for a block that holds no message
abbrev pub on_own : {A : Type 0} → ℕ → (ℕ → Heap → Granted (Heap × A)) → (A → Reply) → Desk → Granted Answer
on_own address call said d = own_block address d >>= (λ b. on_module call said d)

-- ---- a block that holds no message

some-mapped : {A B : Type 0} (f : A → B) (o : Option A) → is_some (option_map f o) ≡ is_some o
some-mapped f None = refl
some-mapped f (Some x) = refl

-- heaps of one shape have the same blocks
pub shape-found : (a : ℕ) (h d : Heap) → SameShape h d → is_some (block_at a h) ≡ is_some (block_at a d)
shape-found a h d s =
    sym (some-mapped blank_cut (block_at a h)) ∙ ap is_some (sym (block-blank a 16 h.segments))
    ∙ ap (λ ss. is_some (first_at size_of (is_block_at a) 16 ss)) s.blank
    ∙ ap is_some (block-blank a 16 d.segments) ∙ some-mapped blank_cut (block_at a d)

-- a block's size is answered where a block was found
missing : (o p : Option (Split Segment)) (f : Split Segment → ℕ) (r : Refusal) → is_some o ≡ is_some p → Err r ≡ ok_or (option_map f o) NotABlock
    → found_or p NotABlock ≡ Err r
unfolding found_or
missing None None f r e h = let q : r ≡ NotABlock = cc in rw q refl
missing None (Some s) f r e h = absurd cc
missing (Some t) p f r e h = absurd cc

found : (o p : Option (Split Segment)) (f : Split Segment → ℕ) (n : ℕ) → is_some o ≡ is_some p → Ok n ≡ ok_or (option_map f o) NotABlock
    → IsOk (found_or p NotABlock)
unfolding found_or
found None p f n e h = absurd cc
found (Some t) None f n e h = absurd cc
found (Some t) (Some s) f n e h = refl

yours-if : (g : Granted (Split Segment)) (b : Bool) → IsOk g → b ≡ true
    → (g >>= (λ x. refuse_if b NotYours >> (let r : Granted (Split Segment) = Ok x in r))) ≡ Err NotYours
unfolding ◌>>=◌ ◌>>◌ refuse_if
yours-if (Ok x) b h e = rw e refl
yours-if (Err r) b h e = absurd cc

unmarked : (g : Granted (Split Segment)) (b : Bool) → b ≡ false → (g >>= (λ x. refuse_if b NotYours >> Ok x)) ≡ g
unfolding ◌>>=◌ ◌>>◌ refuse_if
unmarked (Ok x) b e = rw e refl
unmarked (Err r) b e = refl

-- where no message lies, the look is refused only where no block is there
pub unmarked-is : (address : ℕ) (d : Desk) → post_is_message (address - module_start) d.post ≡ false
    → own_block address d ≡ found_or (block_at (address - module_start) d.post.heap) NotABlock
unfolding own_block
unmarked-is address d e = unmarked (found_or (block_at (address - module_start) d.post.heap) NotABlock) (post_is_message (address - module_start) d.post) e

was-found : (o : Option (Split Segment)) (b : Split Segment) → o ≡ Some b → IsOk (found_or o NotABlock)
unfolding found_or
was-found o b e = rw e refl

not-found : (o : Option (Split Segment)) → o ≡ None → found_or o NotABlock ≡ Err NotABlock
unfolding found_or
not-found o e = rw e refl

-- a call on no block
pub free-none : (address : ℕ) (h : Heap) → block_at address h ≡ None → no_answer (module_free address h) ≡ Err NotABlock
free-none address h e = ap no_answer (module_free-none address h e)

pub resize-none : (free address : ℕ) (delta : ℤ) (h : Heap) → block_at address h ≡ None → module_resize free address delta h ≡ Err NotABlock
resize-none free address delta h e = module_resize-refused free address delta h heap_refusal.NotABlock (sym (ap (λ o. need_found delta o h) e))

-- a call that answers nothing
unanswered : {B : Type 0} (g : Granted Heap) (next : Heap → Granted B) → (g >>= next) ≡ (no_answer g >>= (λ c. next c.0))
unfolding ◌>>=◌
unanswered (Ok h) next = refl
unanswered (Err r) next = refl

-- the command that frees a block is a call that answers nothing
pub own-unanswered : (address : ℕ) (call : Heap → Granted Heap) (said : Reply) (d : Desk)
    → (own_block address d >>= (λ b. call d.post.heap >>= (λ h. Ok (with_module h d, said)))) ≡ on_own address (λ free h. no_answer (call h)) (λ a. said) d
own-unanswered address call said d =
    ap (λ (x : Granted Answer). own_block address d >>= (λ b. x)) (unanswered (call d.post.heap) (λ h. Ok (with_module h d, said)))

module _ {m : Memory} {seats : List Seat} {made : List MadeArea} {files : FileList} {kept : Kept} (w : IsWorld m seats made files kept) where
  abbrev d : Desk
  d = desk_of m seats made files kept

  abbrev pub the_post : Post
  the_post = post_in m the_module kept.queue

  abbrev h : Heap
  h = module_heap_in m the_module

  -- ---- the look for a block

  module _ (address : ℕ) where
    abbrev place : ℕ
    place = address - module_start

    same-block : is_some (block_at place h) ≡ is_some (block_at place the_post.heap)
    same-block = shape-found place h the_post.heap (is-post w).linked.shape

    pub own-missing : {r : Refusal} → Err r ≡ ok_or (block_size place h) NotABlock → own_block address d ≡ Err r
    unfolding own_block
    own-missing {r} e = ends _ (missing (block_at place h) (block_at place the_post.heap) _ r same-block e)

    pub own-yours : {n : ℕ} → Ok n ≡ ok_or (block_size place h) NotABlock → post_is_message place the_post ≡ true → own_block address d ≡ Err NotYours
    unfolding own_block
    own-yours {n} e is = yours-if _ _ (found (block_at place h) (block_at place the_post.heap) _ n same-block e) is

  -- ---- calls beside the messages

  pub claims : (n : ℕ) → Beside h kept.queue the_post (module_claim m.free n h) (module_claim m.free n the_post.heap)
  claims n = claim-beside h kept.queue the_post m.free n (is-post w)

  pub changes : (delta : ℤ) → Beside h kept.queue the_post (module_change m.free delta h) (module_change m.free delta the_post.heap)
  changes delta = change-beside h kept.queue the_post m.free delta (is-post w)

  module _ (address : ℕ) (none : post_is_message (address - module_start) the_post ≡ false) where
    off : IsOff (address - module_start) the_post
    off = off-message h kept.queue the_post (address - module_start) (is-post w) none

    pub frees : Beside h kept.queue the_post (no_answer (module_free (address - module_start) h))
        (no_answer (module_free (address - module_start) the_post.heap))
    frees = free-beside h kept.queue the_post (address - module_start) (is-post w) off

    pub writes : (offset : ℕ) (xs : List ℕ) → Beside h kept.queue the_post (no_answer (heap_written (address - module_start) offset xs h))
        (no_answer (heap_written (address - module_start) offset xs the_post.heap))
    writes offset xs = write-beside h kept.queue the_post (address - module_start) offset xs (is-post w) off

    pub resizes : (delta : ℤ)
        → Beside h kept.queue the_post (module_resize m.free (address - module_start) delta h)
        (module_resize m.free (address - module_start) delta the_post.heap)
    resizes delta = resize-beside h kept.queue the_post m.free (address - module_start) delta (is-post w) off

  -- ---- a call

  module _ {A : Type 0} (call : ℕ → Heap → Granted (Heap × A)) (said : A → Reply)
      (beside : Beside h kept.queue the_post (call m.free h) (call m.free the_post.heap)) where
    the_call : call (free_pages d) d.post.heap ≡ call m.free the_post.heap
    the_call = ap (λ f. call f the_post.heap) (free-is w)

    pub area-refused : {n : Memory} {r : Refusal} → module_calls.LeavesModule m n the_module (call m.free h) (Err r) → on_module call said d ≡ Err r
    area-refused {n} {r} l = ends _ (the_call ∙ answer-refused (call m.free the_post.heap)
        (answers-beside m n the_module kept.queue (call m.free h) (Err r) l the_post _ beside))

    module _ {n : Memory} {a : A} (l : module_calls.LeavesModule m n the_module (call m.free h) (Ok a)) where
      abbrev heap : Heap
      heap = left_of the_post.heap (call m.free the_post.heap)

      plain-is : call m.free the_post.heap ≡ Ok (heap, a)
      plain-is = answered heap a the_post.heap (call m.free the_post.heap)
          (answers-beside m n the_module kept.queue (call m.free h) (Ok a) l the_post _ beside) refl

      post-is : post_in n the_module kept.queue ≡ post_with_heap heap the_post
      post-is = post_in-calls m n the_module kept.queue (call m.free h) (Ok a) l (call m.free the_post.heap) (small w) (smaller w l.only) w.queue beside

      still : IsQueue n the_module kept.queue
      still = queue-beside m n the_module kept.queue (call m.free h) (Ok a) l the_post (call m.free the_post.heap) beside

      pub area-done : on_module call said d ≡ Ok (desk_of n seats made files kept, said a)
      area-done = begins _ (the_call ∙ plain-is) (granted-same (sym (module-desk w l.only still post-is)) refl)

      pub area-world : (c : Command) → change d c ≡ on_module call said d → in_range c ≡ true → length (bytes n 1) % PAGE ≡ 0 → IsWorld n seats made files kept
      area-world c same ranged whole = module-world w l.only still post-is whole (granted-keeps d _ c (said a) (same ∙ area-done) ranged w.desk)

      -- the same of a call that is no command
      pub area-keeps : Fills (free_pages d) the_post.heap heap → length (bytes n 1) % PAGE ≡ 0 → IsWorld n seats made files kept
      area-keeps fills whole = module-world w l.only still post-is whole (subst IsDesk (sym (module-desk w l.only still post-is))
          (with_module-keeps heap d fills w.desk))

    -- behind the look for a block, where no message lies
    pub own-is : (address : ℕ) → post_is_message (address - module_start) the_post ≡ false
        → (block_at (address - module_start) the_post.heap ≡ None → call m.free the_post.heap ≡ Err NotABlock)
        → on_own address call said d ≡ on_module call said d
    own-is address none refused = go (block_at (address - module_start) the_post.heap) refl
      where
        go : (o : Option (Split Segment)) → block_at (address - module_start) the_post.heap ≡ o → on_own address call said d ≡ on_module call said d
        go (Some b) e = skipped (own_block address d) (on_module call said d) (subst (λ g. IsOk g) (sym (unmarked-is address d none)) (was-found _ b e))
        go None e = ends _ (unmarked-is address d none ∙ not-found _ e) ∙ sym (ends _ (the_call ∙ refused e))
