-- Edits of blocks that are told by their addresses don't see the order of messages to different tasks.
use Rattle.rh_tasks.proofs.Common.{◌≡◌, ℕ, ◌+◌, refl, ap, List, length, take, drop, nat_lt, Option, Some, None, Ok, Err, BadRange, Granted, ◌>>=◌, ◌>>◌}
use Rattle.rh_tasks.proofs.Common.{refuse_if, Split, Segment, bytes_of, Desk, named}
use Rattle.rh_defs.specs.declared.reply.Reply.TheVariants as reply
use Rattle.rh_defs.specs.Commands.{put}
use Rattle.rh_defs.specs.Desk.{with_task}
use Rattle.rh_defs.specs.Messages.{Parcel}
use Rattle.rh_defs.specs.Order.{SameForEach, with_queue}
use Rattle.rh_defs.specs.Questions.{shown_at}
use Rattle.rh_defs.proofs.Follows.{Follows, follows-equal, follows-same, follows-then}
use Rattle.rh_defs.proofs.OrderSteps.{DeskAlike, SaidAlike, follows-desk, own_block-same}
use Rattle.rh_tasks.specs.BlockBytes.{anchor_at, block_shown, block_written, heap_put, heap_shown, module_written, put_there, shown_there}
use Rattle.rh_tasks.specs.Sights.{module_shown}
use Rattle.rh_tasks.specs.TransferBlock.{transferred}
use Rattle.rh_tasks.specs.WorldLists.{blocks_of}

module _ (d : Desk) (queue : List Parcel) (same : SameForEach d.post.queued queue) where
  put-alike : (name : List ℕ) (k offset : ℕ) (bytes : List ℕ) → Follows SaidAlike (put d name k offset bytes) (put (with_queue queue d) name k offset bytes)
  unfolding put named with_task
  put-alike name k offset bytes =
      follows-same _ _ _ λ t. follows-same _ _ _ λ b. follows-same _ _ _ λ s. Follows.both (SaidAlike.said _ queue _ same refl)

  heap_put-alike : (name : List ℕ) (address offset : ℕ) (bytes : List ℕ)
      → Follows SaidAlike (heap_put d name address offset bytes) (heap_put (with_queue queue d) name address offset bytes)
  unfolding heap_put named with_task
  heap_put-alike name address offset bytes =
      follows-same _ _ _ λ t. follows-same _ _ _ λ b. follows-same _ _ _ λ s. Follows.both (SaidAlike.said _ queue _ same refl)

  put_there-alike : (o : Option ℕ) (name : List ℕ) (address offset : ℕ) (bytes : List ℕ)
      → Follows SaidAlike (put_there o d name address offset bytes) (put_there o (with_queue queue d) name address offset bytes)
  put_there-alike (Some k) name address offset bytes = put-alike name k offset bytes
  put_there-alike None name address offset bytes = heap_put-alike name address offset bytes

  pub block_written-alike : (name : List ℕ) (address offset : ℕ) (bytes : List ℕ)
      → Follows SaidAlike (block_written d name address offset bytes) (block_written (with_queue queue d) name address offset bytes)
  unfolding block_written anchor_at blocks_of named
  block_written-alike name address offset bytes = follows-same _ _ _ λ o. put_there-alike o name address offset bytes

  pub module_written-alike : (address offset : ℕ) (bytes : List ℕ)
      → Follows SaidAlike (module_written d address offset bytes) (module_written (with_queue queue d) address offset bytes)
  unfolding module_written
  module_written-alike address offset bytes =
      follows-equal _ _ _ _ (own_block-same address d queue same) λ b. follows-same _ _ _ λ h. Follows.both (SaidAlike.said _ queue _ same refl)

  moved-alike : (from address to address2 n : ℕ)
      → Follows DeskAlike (transferred d from address to address2 n) (transferred (with_queue queue d) from address to address2 n)
  unfolding transferred with_task
  moved-alike from address to address2 n =
      follows-same _ _ _ λ t. follows-same _ _ _ λ r. follows-then _ _ _ (follows-then _ _ _ (Follows.both (DeskAlike.alike _ queue same)))

  pub transferred-alike : (from address to address2 n : ℕ)
      → Follows SaidAlike (transferred d from address to address2 n >>= λ e. Ok (e, reply.Done))
      (transferred (with_queue queue d) from address to address2 n >>= λ e. Ok (e, reply.Done))
  transferred-alike from address to address2 n =
      follows-desk _ _ (moved-alike from address to address2 n) λ e other s. Follows.both (SaidAlike.said e other _ s refl)

  pub module_shown-same : (address offset n : ℕ) → module_shown (with_queue queue d) address offset n ≡ module_shown d address offset n
  unfolding module_shown
  module_shown-same address offset n =
      ap (λ (g : Granted (Split Segment)). g >>= (λ b. refuse_if (nat_lt (length (bytes_of b.here)) (offset + n)) BadRange
      >> Ok (length (bytes_of b.here), take n (drop offset (bytes_of b.here))))) (own_block-same address d queue same)

-- what is read of a task's block is the same
shown-same : (d : Desk) (queue : List Parcel) (o : Option ℕ) (name : List ℕ) (address offset n : ℕ)
    → shown_there o (with_queue queue d) name address offset n ≡ shown_there o d name address offset n
unfolding shown_at heap_shown named
shown-same d queue (Some k) name address offset n = refl
shown-same d queue None name address offset n = refl

pub block_shown-same : (d : Desk) (queue : List Parcel) (name : List ℕ) (address offset n : ℕ)
    → block_shown (with_queue queue d) name address offset n ≡ block_shown d name address offset n
unfolding block_shown anchor_at blocks_of named ◌>>=◌
block_shown-same d queue name address offset n = go (anchor_at d name address)
  where
    go : (g : Granted (Option ℕ)) → (g >>= λ o. shown_there o (with_queue queue d) name address offset n)
        ≡ (g >>= λ o. shown_there o d name address offset n)
    go (Ok o) = shown-same d queue o name address offset n
    go (Err r) = refl
