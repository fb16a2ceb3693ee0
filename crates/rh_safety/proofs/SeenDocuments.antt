-- A record that ends with its buffer, and a document with more bytes at its end, as they are seen.
use Rattle.rh_safety.proofs.Common.{length-append, drop, ◌≡◌, ℕ, ◌+◌, ◌-◌, true, List, [], ◌∷◌, ◌++◌, length, take, Option, Some, None, refl, sym, ap, ◌∙◌}
use Rattle.rh_safety.proofs.Common.{subst, inl, inr, arith, Ok, Err, option_map, eqb_tells, take_all, length-replicate, append-nil, Body, Taking, Incoming}
use Rattle.rh_safety.proofs.Common.{Granted, ◌>>=◌, found_or, Split, zeros, written, behind, first_at, Segment, Used, Hole, bytes_of, size_of, first_place}
use Rattle.rh_safety.proofs.Common.{is_block_at, released, fitted, Slot, Flex, weight, flex_start, heap_start, heap_block_at, slot_block, slot_extend}
use Rattle.rh_safety.proofs.Common.{slot_put, Parcel, action_of, Desk, Task, free_pages, with_task, with_slot, taking_ended, appended, view, address_in}
use Rattle.rh_safety.proofs.Common.{amount_in}
use Rattle.rh_safety.proofs.Common.{blocks_of, buffers_of, task_of, Letter, put, put_same, Same, live_of, slot_is, slot_at, block_view, buffer_view, ins_view}
use Rattle.std.proofs.lemmas.List.{drop_all}
use Rattle.std.proofs.Math.Seq.{take-append_seam}
use Rattle.rh_defs.specs.Chain.{result_or}
use Rattle.rh_defs.specs.Blocks.{bytes_at}
use Rattle.rh_defs.specs.Slot.{with_heap, slot_release}
use Rattle.rh_defs.specs.IncomingEvents.{without_buffer}
use Rattle.rh_safety.proofs.Sight as sight
use Rattle.rh_safety.proofs.FlexMaps as flex
use Rattle.rh_safety.proofs.SeenTasks.{unput}
use Rattle.rh_safety.proofs.SeenBlocks.{ok_is, the_block, extend_is, put_is, changed_from, changed_map, changed_still, put_over}
use Rattle.rh_safety.proofs.SeenSends.{with_step}
use Rattle.rh_safety.proofs.SeenHeaps.{release_is, gone_map, gone_still}

-- ---- letters

-- the letter of a message with this body
abbrev pub letter_of : Parcel → Body → Letter
letter_of m b = record {
  from = m.message.from;
  me = m.message.my_ref;
  answers = m.message.your_ref;
  kind = action_of b;
  address = address_in b;
  amount = amount_in b;
}

-- ---- buffers

behind_is : (x : Segment) (o : Option (Split Segment)) →
    option_map (λ (b : Split Segment). bytes_of b.here) (option_map (behind x) o) ≡ option_map (λ (b : Split Segment).
    bytes_of b.here) o
behind_is x None = refl
behind_is x (Some b) = refl

-- the block at an address, by either word
pub block_is : (a place : ℕ) (ss : List Segment) →
    option_map (λ (b : Split Segment). bytes_of b.here) (first_at size_of (is_block_at a) place ss) ≡ bytes_at a place
    ss
block_is a place [] = refl
block_is a place (Used bs ∷ ss) = elim (eqb_tells a (place + 4)) [
  | inl w ↦ rw w.0 refl
  | inr w ↦ rw w.0 (behind_is (Used bs) (first_at size_of (is_block_at a) (place + (4 + length bs)) ss) ∙
      block_is a (place + (4 + length bs)) ss)
]
block_is a place (Hole n ∷ ss) = behind_is (Hole n) (first_at size_of (is_block_at a) (place + n) ss) ∙
    block_is a (place + n) ss

pub buffer_is : (a : ℕ) (s : Slot) →
    option_map (λ (b : Split Segment). bytes_of b.here) (heap_block_at a s) ≡ buffers_of s a
buffer_is a s = block_is (a - heap_start) first_place s.heap.segments

-- a slot without a buffer, which may be gone already
pub record IsRid (a : ℕ) (s n : Slot) : Type 0 where
  pub buffers : Same (buffers_of n) (put (buffers_of s) a None)
  pub blocks : Same (blocks_of n) (blocks_of s)

rid_by : (a : ℕ) (s : Slot) (g : Granted Slot) → slot_release a s ≡ g → (o : Option (Split Segment)) →
    heap_block_at a s ≡ o → IsRid a s (result_or s g)
unfolding slot_release found_or ◌>>=◌
rid_by a s (Ok n) e o q = let w = release_is a s n e in record { buffers = gone_map w; blocks = gone_still w }
rid_by a s (Err r) e None q = record {
  buffers = λ k. unput (buffers_of s) a None (sym (buffer_is a s) ∙ ap (option_map (λ (b : Split Segment).
      bytes_of b.here)) q) k;
  blocks = λ k. refl;
}
rid_by a s (Err r) e (Some b) q = absurd (let z : Ok (with_heap (released b s.heap) s) ≡ Err r = rw q at e in (cc))

pub rid_of : (a : ℕ) (s : Slot) → IsRid a s (without_buffer a s)
rid_of a s = rid_by a s (slot_release a s) refl (heap_block_at a s) refl

-- a record that ends
pub ended_view : (d : Desk) (h : ℕ) (f : Taking) (edit : List Incoming → List Incoming) → (view d).live h ≡ true →
    view (taking_ended h f edit d) ≡ record (view d) {
      heap = put (view d).heap h (put ((view d).heap h) f.buffer None);
      taking = put (view d).taking h (edit ((view d).taking h));
    }
unfolding taking_ended
ended_view d h f edit live =
    let s = slot_at d h in
    let w = rid_of f.buffer s in
    let e : Desk = with_task h (λ t. record t { slot = without_buffer f.buffer t.slot }) d in
    let v : view e ≡ sight.with_heap (view d) h f.buffer None = buffer_view d h f.buffer (without_buffer f.buffer)
    None s live refl w.blocks w.buffers in
    ins_view e h edit (ap (λ (y : sight.Desk). y.live h) v ∙ live) ∙
    ap (λ (y : sight.Desk). record y { taking = put y.taking h (edit (y.taking h)) }) v

-- ---- documents

-- a slot's block
pub block_there : (k : ℕ) (s : Slot) (b : Split Flex) → slot_block k s ≡ Ok b → blocks_of s k ≡ Some b.here.bytes
block_there k s b q = (flex.edits weight (flex_start s) k s.blocks).found b (the_block k s b q)

-- a document with more bytes at its end
pub record IsLonger (d : Desk) (t : Task) (k : ℕ) (bytes : List ℕ) (after : Desk) : Type 0 where
  pub document : List ℕ
  pub there : blocks_of t.slot k ≡ Some document
  pub seen : view after ≡ sight.with_block (view d) t.handle k (Some (document ++ bytes))
  pub live : (view after).live t.handle ≡ true
  pub post : after.post ≡ d.post

longer_bytes : (document bytes : List ℕ) →
    written (fitted (length document + length bytes) document) (length document) bytes ≡ document ++ bytes
longer_bytes document bytes =
    let n = length bytes in
    let pad : List ℕ = zeros ((length document + n) - length document) in
    let all : take (length document + n) document ≡ document = take_all (length document + n) document (omega arith) in
    let len : length pad ≡ n = length-replicate ((length document + n) - length document) 0 ∙ (omega arith) in
    let none : drop (length document + n) (document ++ pad) ≡ [] = drop_all (length document + n) (document ++ pad)
    (let e = length-append document pad in omega arith) in
    ap (λ (z : List ℕ). written (z ++ pad) (length document) bytes) all ∙
    ap (λ (z : List ℕ). z ++ (bytes ++ drop (length document + n) (document ++ pad))) (take-append_seam document pad) ∙
    ap (λ (z : List ℕ). document ++ (bytes ++ z)) none ∙ ap (λ (z : List ℕ). document ++ z) (append-nil bytes)

-- a block made longer, and then written
longer_map : (k free : ℕ) (document bytes : List ℕ) (old mid new : Slot) → blocks_of old k ≡ Some document →
    slot_extend free k (length document + length bytes) old ≡ Ok mid →
    slot_put k (length document) bytes mid ≡ Ok new → Same (blocks_of new) (put (blocks_of old) k
    (Some (document ++ bytes)))
longer_map k free document bytes old mid new there e p a =
    let x = extend_is free k (length document + length bytes) old mid e in
    let y = put_is k (length document) bytes mid new p in
    let one : Option.Some x.cut.here.bytes ≡ Some document = sym (changed_from x) ∙ there in
    let was : x.cut.here.bytes ≡ document = cc in
    let two : Option.Some y.cut.here.bytes ≡ Some (fitted (length document + length bytes) x.cut.here.bytes) =
    sym (changed_from y) ∙ changed_map x k ∙ put_same (blocks_of old) k (Some (fitted (length document + length bytes)
    x.cut.here.bytes)) in
    let then_ : y.cut.here.bytes ≡ fitted (length document + length bytes) x.cut.here.bytes = cc in
    let now : written y.cut.here.bytes (length document) bytes ≡ document ++ bytes =
    ap (λ (z : List ℕ). written z (length document) bytes) (then_ ∙ ap (fitted (length document + length bytes))
    was) ∙ longer_bytes document bytes in
    changed_map y a ∙ ap (λ (z : List ℕ). put (blocks_of mid) k (Some z) a) now ∙
    put_over (blocks_of mid) (blocks_of old) k (Some (fitted (length document + length bytes) x.cut.here.bytes))
    (Some (document ++ bytes)) (changed_map x) a

pub longer_is : (d : Desk) (t : Task) (k : ℕ) (bytes : List ℕ) (after : Desk) → task_of t.handle d.tasks ≡ Some t →
    appended d t k bytes ≡ Ok after → IsLonger d t k bytes after
unfolding appended with_task
longer_is d t k bytes after is q =
    with_step (slot_block k t.slot) _ after q (λ b e1 q1.
    with_step (slot_extend (free_pages d) k (length b.here.bytes + length bytes) t.slot) _ after q1 (λ mid e2 q2.
    with_step (slot_put k (length b.here.bytes) bytes mid) _ after q2 (λ new e3 q3.
    let there : blocks_of t.slot k ≡ Some b.here.bytes = block_there k t.slot b e1 in
    let live = live_of d t.handle t is in
    let v : view (with_slot t.handle new d) ≡ sight.with_block (view d) t.handle k (Some (b.here.bytes ++ bytes)) =
    block_view d t.handle k (λ y. new) (Some (b.here.bytes ++ bytes)) t.slot live (slot_is d t.handle t is)
    (longer_map k (free_pages d) b.here.bytes bytes t.slot mid new there e2 e3)
    (λ a. changed_still (put_is k (length b.here.bytes) bytes mid new e3) a ∙ changed_still (extend_is (free_pages d)
    k (length b.here.bytes + length bytes) t.slot mid e2) a) in
    subst (IsLonger d t k bytes) (ok_is (with_slot t.handle new d) after q3)
    (record {
      document = b.here.bytes;
      there = there;
      seen = v;
      live = ap (λ (y : sight.Desk). y.live t.handle) v ∙ live;
      post = refl;
    }))))
