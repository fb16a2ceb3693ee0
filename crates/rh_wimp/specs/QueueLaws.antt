-- What holds of every queue over every module area, and of every message block.
use Rattle.std.specs.Prelude.{◌≡◌, ℕ, ◌≤◌, List, length, take, Result, Ok}
use Rattle.rh_defs.specs.declared.sizes.TheConstants.{LONGEST_MESSAGE}
use Rattle.rh_defs.specs.Bytes.{with_part}
use Rattle.rh_defs.specs.Messages.{Fits, encoded, encoded_length}
use Rattle.rh_defs.specs.declared.message.Message.{Message}
use Rattle.rh_defs.specs.declared.message.MessageFault.{MessageFault}
use Rattle.rh_defs.specs.Chain.{Granted, answer_of, left_of}
use Rattle.rh_defs.specs.Heap.{Heap}
use Rattle.rh_defs.specs.Memory.{Memory, bytes}
use Rattle.rh_defs.specs.Post.{Post}
use Rattle.rh_module.specs.ModuleArea.{IsModule, module_heap_in}
use Rattle.rh_module.specs.ModuleCalls as module_calls
use Rattle.rh_module.specs.declared.module.Module.{Module}
use Rattle.rh_wimp.specs.Chains.{Chains, SpellsPostIn}
use Rattle.rh_wimp.specs.PostIn.{in_order, post_in}
use Rattle.rh_store.specs.Limits.{area_limit}

-- the area is so small that its blocks have addresses that are words, as every store's areas are
abbrev pub IsSmallModule : Memory → Module → Type 0
IsSmallModule m module_area = length (bytes m module_area.area.0) ≤ area_limit

-- the post that is read off the area's bytes and the queue's entries is spelled, and it is each one that is, in order of seats
abbrev pub HaveOnePost : Type 0
HaveOnePost =
    (m : Memory) (module_area : Module) (q : Chains) (post : Post) → IsSmallModule m module_area → IsModule m module_area → SpellsPostIn m module_area q post
    → SpellsPostIn m module_area q (post_in m module_area q) × (post_in m module_area q ≡ in_order post)

-- the post with another heap
abbrev pub post_with_heap : Heap → Post → Post
post_with_heap h post = record post { heap = h }

-- Where the queue spells a post on which a call of the module area is allowed, the call answers as it does on the post's heap, and the post has the heap that it leaves.
abbrev pub GoesBeside : {A : Type 0} → (Post → Type 0) → (ℕ → Heap → Granted (Heap × A)) → Type 0
GoesBeside {A} allowed call =
    (m n : Memory) (module_area : Module) (q : Chains) (post : Post) (result : Granted A) → allowed post → SpellsPostIn m module_area q post
    → module_calls.LeavesModule m n module_area (call m.free (module_heap_in m module_area)) result
    → (result ≡ answer_of (call m.free post.heap)) × SpellsPostIn n module_area q (post_with_heap (left_of post.heap (call m.free post.heap)) post)

-- What stands in a message block once an allowed message was encoded there is read as that message: the whole block,
-- whatever was in it before, and each front of it that has the message's length.
abbrev pub ComesBack : (Message → Type 0) → (List ℕ → Result Message MessageFault) → Type 0
ComesBack allowed read =
    (m : Message) (block : List ℕ) (n : ℕ) → Fits m → allowed m → length block ≡ LONGEST_MESSAGE → encoded_length m ≤ n → n ≤ LONGEST_MESSAGE
    → read (take n (with_part block 0 (encoded m))) ≡ Ok m
