-- Claims on a desk, by the description of the task's heap.
use Rattle.rh_laws.proofs.Common.{◌≡◌, ℕ, zero, suc, ◌+◌, ◌-◌, ◌≤◌, ◌<◌, Bool, true, false, cond, List, [], ◌∷◌, length, inl, inr, refl, sym, ap, subst, ◌∙◌}
use Rattle.rh_laws.proofs.Common.{arith, find, is_none, nat_le, nat_lt, not, ◌==◌, ◌&&◌, Ok, Err, Option, Some, None, IfSome, leb_tells, eqb_tells}
use Rattle.rh_laws.proofs.Common.{length-replicate, NoName, BadSize, NoBudge, NoRoom, Granted, ◌>>=◌, found_or, or_else, Split, lacks_pages, total, zeros}
use Rattle.rh_laws.proofs.Common.{Segment, Used, Hole, Heap, block_room, claim_growing, first_place, free_bytes, hole_for, is_hole_for, largest, need, all-mono}
use Rattle.rh_laws.proofs.Common.{placed_in, raised, segment_size, size_of, Slot, slot_claim, with_placed, Desk, Task, edit_task, free_pages, has_name, named}
use Rattle.rh_laws.proofs.Common.{with_slot, with_task, Answer, claim, heap, IsDesk, OnGrant, granted, granted-unless, eqb_apart, eqb_same, leb_no, leb_yes}
use Rattle.rh_defs.specs.declared.sizes.TheConstants.{PAGE}
use Rattle.rh_defs.specs.declared.question.Numbers.TheVariants as numbers
use Rattle.rh_defs.specs.declared.reply.Reply.TheVariants as reply
use Rattle.rh_defs.specs.Pieces.{round_up}
use Rattle.rh_defs.specs.Heap.{IsHeap, with_hole}
use Rattle.rh_defs.specs.Slot.{IsSlot, is_stuck}
use Rattle.rh_defs.specs.Laws.{Always}
use Rattle.rh_defs.proofs.Chains.{refused, refuse_if-true, refuse_if-false}
use Rattle.rh_defs.proofs.HeapKeeps.{claim_growing-heap}
use Rattle.rh_defs.proofs.HeapLists.{IsCut, first_at-cuts, ltb_no, sum-append}
use Rattle.rh_defs.proofs.Lists.{find-all, number-finds}
use Rattle.rh_defs.proofs.ModuleKeeps.{claim_growing-end}
use Rattle.rh_defs.proofs.Spaced.{always-is}
use Rattle.rh_laws.specs.RefusalOrder.{refusal_in}
use Rattle.rh_laws.specs.HonestHeaps.{ClaimsAsDescribed, HasHonestHeaps, claim_answer, described, free_in, has_size, used_bytes, used_size}
use Rattle.rh_laws.proofs.HonestHeapLaws.{honest, need-none, need-some}

-- ---- a block takes its bytes

used-with_hole : (n : ℕ) (segments : List Segment) → total used_size (with_hole n segments) ≡ total used_size segments
used-with_hole zero segments = refl
used-with_hole (suc n) [] = refl
used-with_hole (suc n) (Hole m ∷ segments) = refl
used-with_hole (suc n) (Used bytes ∷ segments) = omega arith

hole-unused : (t place : ℕ) (g : Segment) → is_hole_for t place g ≡ true → used_size g ≡ 0
hole-unused t place (Used bytes) e = absurd cc
hole-unused t place (Hole n) e = refl

used-placed_in : (t : ℕ) (bytes : List ℕ) (h : Heap) (o : Option (Split Segment))
    → IfSome o (IsCut size_of (is_hole_for t) first_place h.segments)
    → used_bytes (placed_in bytes h o).heap ≡ used_bytes h + (4 + length bytes)
used-placed_in t bytes h None cut = omega (arith, sum-append used_size h.segments (Used bytes ∷ []))
used-placed_in t bytes h (Some s) cut =
    let rest : List Segment = with_hole (size_of s.here - (4 + length bytes)) s.after in
    let none : used_size s.here ≡ 0 = hole-unused t (first_place + total size_of s.before) s.here cut.passes in
    omega (
      arith,
      sum-append used_size s.before (Used bytes ∷ rest),
      sum-append used_size s.before (s.here ∷ s.after),
      ap (total used_size) cut.whole,
      used-with_hole (size_of s.here - (4 + length bytes)) s.after,
    )

-- where a heap isn't short, a claim takes from its free bytes just a segment
claim-takes : (n : ℕ) (h : Heap) → IsHeap h → need n h ≡ 0
    → free_bytes (claim_growing n h).heap + segment_size n ≡ free_bytes h
claim-takes n h is none =
    let bytes : List ℕ = zeros (block_room n) in
    let size : 4 + length bytes ≡ segment_size n = omega (arith, length-replicate {A = ℕ} (block_room n) 0) in
    let before = (honest h is).sums in
    let after = (honest (claim_growing n h).heap (claim_growing-heap n h is)).sums in
    let end : (claim_growing n h).heap.end ≡ h.end = claim_growing-end n h
    ∙ (let e : h.end + round_up PAGE (need n h) ≡ h.end = omega arith in e) in
    let used : used_bytes (claim_growing n h).heap ≡ used_bytes h + (4 + length bytes) =
    used-placed_in (4 + length bytes) bytes (raised (need n h) h) (hole_for (4 + length bytes) h.segments)
    (first_at-cuts size_of (is_hole_for (4 + length bytes)) first_place h.segments) in
    omega arith

-- ---- a claim on a slot

-- whether a claim leaves a heap of so many bytes
abbrev leaves : ℕ → Granted (Slot × ℕ) → Bool
leaves size (Ok p) = p.0.heap.end == size
leaves size (Err r) = false

longer-leaves : (size : ℕ) (g : Granted (Slot × ℕ)) → OnGrant (λ (p : Slot × ℕ). size < p.0.heap.end) g
    → leaves size g ≡ false
longer-leaves size _ (granted {x = p} more) = eqb_apart p.0.heap.end size (omega arith)
longer-leaves size _ refused = refl

module _ (free n : ℕ) (s : Slot) (is : IsHeap s.heap) where
  claim-within : 1 ≤ n → n ≤ largest s.heap → slot_claim free n s ≡ Ok (with_placed (claim_growing n s.heap) s)
  unfolding slot_claim
  claim-within some fits =
      let none : need n s.heap ≡ 0 = need-none n s.heap is some fits in
      refuse_if-false (n == 0) BadSize _ (eqb_apart n 0 (omega arith))
      ∙ refuse_if-false (is_stuck (need n s.heap) s) NoBudge _ (ap (λ (x : ℕ). nat_lt 0 x && not s.budging) none)
      ∙ refuse_if-false (lacks_pages free (need n s.heap)) NoRoom _ (ap (lacks_pages free) none ∙ ltb_no free 0 (omega arith))

  claim-beyond : largest s.heap < n → OnGrant (λ (p : Slot × ℕ). s.heap.end < p.0.heap.end) (slot_claim free n s)
  unfolding slot_claim
  claim-beyond more =
      granted-unless _ _ _ λ some. granted-unless _ _ _ λ may. granted-unless _ _ _ λ room.
      granted (let short = need-some n s.heap is more in let end = claim_growing-end n s.heap in omega arith)

  claim-none : n ≡ 0 → leaves s.heap.end (slot_claim free n s) ≡ false
  unfolding slot_claim
  claim-none e = ap (leaves s.heap.end) (refuse_if-true (n == 0) BadSize _ (eqb_same n 0 e))

  claim-leaves : leaves s.heap.end (slot_claim free n s) ≡ (nat_le 1 n && nat_le n (largest s.heap))
  claim-leaves = elim (eqb_tells n 0) [
    | inl u ↦ claim-none u.1 ∙ sym (ap (λ (b : Bool). b && nat_le n (largest s.heap)) (leb_no 1 n (let none = u.1 in omega arith)))
    | inr u ↦ (let some : 1 ≤ n = (let other = u.1 in omega arith) in
        elim (leb_tells n (largest s.heap)) [
          | inl v ↦ ap (leaves s.heap.end) (claim-within some v.1)
              ∙ eqb_same _ s.heap.end (let none = need-none n s.heap is some v.1 in let end = claim_growing-end n s.heap in omega arith)
              ∙ sym (ap (λ (b : Bool). b && nat_le n (largest s.heap)) (leb_yes 1 n some) ∙ v.0)
          | inr v ↦ longer-leaves s.heap.end (slot_claim free n s) (claim-beyond v.1)
              ∙ sym (ap (λ (b : Bool). b && nat_le n (largest s.heap)) (leb_yes 1 n some) ∙ v.0)
        ])
  ]

-- ---- the task of a name

name-passes : (name : List ℕ) (tasks : List Task) (t : Task) → find (has_name name) tasks ≡ Some t
    → has_name name t ≡ true
name-passes name [] t e = absurd cc
name-passes name (x ∷ tasks) t e = go (has_name name x) refl e (name-passes name tasks t)
  where
    go : (b : Bool) → has_name name x ≡ b → cond b (Some x) (find (has_name name) tasks) ≡ Some t
        → (find (has_name name) tasks ≡ Some t → has_name name t ≡ true) → has_name name t ≡ true
    go true u f rest = let same : x ≡ t = cc in ap (has_name name) (sym same) ∙ u
    go false u f rest = rest f

-- it keeps its name where its slot changes
module _ (name : List ℕ) (t : Task) (s : Slot) where
  abbrev with_it : Task → Task
  with_it u = record u { slot = s }

  named-after : (tasks : List Task) → find (λ (u : Task). u.handle == t.handle) tasks ≡ Some t
      → find (has_name name) tasks ≡ Some t
      → find (has_name name) (edit_task t.handle with_it tasks) ≡ Some (with_it t)
  named-after [] f e = absurd cc
  named-after (x ∷ tasks) f e = go (x.handle == t.handle) (has_name name x) refl refl f e (named-after tasks)
    where
      go : (b c : Bool) → (x.handle == t.handle) ≡ b → has_name name x ≡ c
          → cond b (Some x) (find (λ (u : Task). u.handle == t.handle) tasks) ≡ Some t
          → cond c (Some x) (find (has_name name) tasks) ≡ Some t
          → (find (λ (u : Task). u.handle == t.handle) tasks ≡ Some t → find (has_name name) tasks ≡ Some t
          → find (has_name name) (edit_task t.handle with_it tasks) ≡ Some (with_it t))
          → find (has_name name) (cond b (with_it x ∷ tasks) (x ∷ edit_task t.handle with_it tasks)) ≡ Some (with_it t)
      go true true p q f e rest =
          let same : x ≡ t = cc in
          ap (λ (b : Bool). cond b (Some (with_it x)) (find (has_name name) tasks)) q ∙ ap (λ (y : Task). Some (with_it y)) same
      go true false p q f e rest =
          let same : x ≡ t = cc in
          absurd (let yes : has_name name x ≡ true = ap (has_name name) same ∙ name-passes name tasks t e in
          let no : Bool.true ≡ false = sym yes ∙ q in cc)
      go false true p q f e rest =
          let same : x ≡ t = cc in
          absurd (let one : (x.handle == t.handle) ≡ true = eqb_same x.handle t.handle (ap (λ (y : Task). y.handle) same) in
          let no : Bool.true ≡ false = sym one ∙ p in cc)
      go false false p q f e rest =
          ap (λ (b : Bool). cond b (Some x) (find (has_name name) (edit_task t.handle with_it tasks))) q ∙ rest f e

-- ---- a desk

described-is : (d : Desk) (name : List ℕ) (t : Task) → find (has_name name) d.tasks ≡ Some t
    → described d name ≡ reply.Answered (numbers.HeapSums t.slot.heap.end (largest t.slot.heap) (free_bytes t.slot.heap))
unfolding heap named found_or ◌>>=◌ or_else
described-is d name t e = rw (e, described) refl

-- the task whose heap is described
record IsDescribed (d : Desk) (name : List ℕ) (size most free : ℕ) : Type 0 where
  task : Task
  found : find (has_name name) d.tasks ≡ Some task
  size_is : task.slot.heap.end ≡ size
  most_is : largest task.slot.heap ≡ most
  free_is : free_bytes task.slot.heap ≡ free

described-of : (d : Desk) (name : List ℕ) (size most free : ℕ) → described d name ≡ reply.Answered (numbers.HeapSums size most free)
    → IsDescribed d name size most free
unfolding heap named found_or ◌>>=◌ or_else
described-of d name size most free q = go (find (has_name name) d.tasks) refl
  where
    go : (o : Option Task) → find (has_name name) d.tasks ≡ o → IsDescribed d name size most free
    go None e = absurd (let r : reply.Refused NoName ≡ reply.Answered (numbers.HeapSums size most free) = (rw (e, described) at q) in cc)
    go (Some t) e =
        let r : reply.Answered (numbers.HeapSums t.slot.heap.end (largest t.slot.heap) (free_bytes t.slot.heap))
        ≡ reply.Answered (numbers.HeapSums size most free) =
        sym (described-is d name t e) ∙ q in
        record { task = t; found = e; size_is = cc; most_is = cc; free_is = cc }

module _ (d : Desk) (is : IsDesk d) where
  -- what the task's claim answers and leaves
  abbrev after_claim : Task → Granted (Slot × ℕ) → Answer
  after_claim t g = or_else (g >>= λ p. Ok (with_slot t.handle p.0 d, reply.Block p.1)) (λ r. (d, reply.Refused r))

  claimed-is : (name : List ℕ) (n : ℕ) (t : Task) → find (has_name name) d.tasks ≡ Some t
      → claim_answer d name n ≡ after_claim t (slot_claim (free_pages d) n t.slot)
  unfolding claim named found_or ◌>>=◌
  claimed-is name n t e = rw e refl

  described-after : (name : List ℕ) (t : Task) (s : Slot) → find (has_name name) d.tasks ≡ Some t
      → described (with_slot t.handle s d) name ≡ reply.Answered (numbers.HeapSums s.heap.end (largest s.heap) (free_bytes s.heap))
  unfolding with_task
  described-after name t s e =
      described-is (with_slot t.handle s d) name (record t { slot = s })
      (named-after name t s d.tasks (number-finds (λ (u : Task). u.handle) (has_name name) 0 d.next_handle d.tasks t is.handles e) e)

  within-leaves : (name : List ℕ) (size : ℕ) (t : Task) (g : Granted (Slot × ℕ)) → find (has_name name) d.tasks ≡ Some t
      → (is_none (refusal_in (after_claim t g).1) && has_size size (described (after_claim t g).0 name)) ≡ leaves size g
  unfolding ◌>>=◌ or_else
  within-leaves name size t (Ok p) e = ap (has_size size) (described-after name t p.0 e)
  within-leaves name size t (Err r) e = refl

  described-granted : (name : List ℕ) (t : Task) (p : Slot × ℕ) → find (has_name name) d.tasks ≡ Some t
      → described (after_claim t (Ok p)).0 name ≡ reply.Answered (numbers.HeapSums p.0.heap.end (largest p.0.heap) (free_bytes p.0.heap))
  unfolding ◌>>=◌ or_else
  described-granted name t p e = described-after name t p.0 e

  heap-of : (name : List ℕ) (t : Task) → find (has_name name) d.tasks ≡ Some t → IsHeap t.slot.heap
  heap-of name t e =
      (subst (λ (o : Option Task). IfSome o (λ (u : Task). IsSlot u.slot)) e
      (find-all (λ (u : Task). IsSlot u.slot) (has_name name) d.tasks is.slots)).heap

  claims : ClaimsAsDescribed d
  claims = record {
    granted = λ name size most free n q.
        let t = described-of d name size most free q in
        ap (λ (a : Answer). is_none (refusal_in a.1) && has_size size (described a.0 name)) (claimed-is name n t.task t.found)
        ∙ within-leaves name size t.task (slot_claim (free_pages d) n t.task.slot) t.found
        ∙ ap (λ (k : ℕ). leaves k (slot_claim (free_pages d) n t.task.slot)) (sym t.size_is)
        ∙ claim-leaves (free_pages d) n t.task.slot (heap-of name t.task t.found)
        ∙ ap (λ (k : ℕ). nat_le 1 n && nat_le n k) t.most_is;
    costs = λ name size most free n q some fits.
        let t = described-of d name size most free q in
        let small : n ≤ largest t.task.slot.heap = (let e = t.most_is in omega arith) in
        let heap_is = heap-of name t.task t.found in
        let left : free_in (described (claim_answer d name n).0 name) ≡ free_bytes (claim_growing n t.task.slot.heap).heap =
        ap (λ (a : Answer). free_in (described a.0 name)) (claimed-is name n t.task t.found)
        ∙ ap (λ (g : Granted (Slot × ℕ)). free_in (described (after_claim t.task g).0 name))
        (claim-within (free_pages d) n t.task.slot heap_is some small)
        ∙ ap free_in (described-granted name t.task (with_placed (claim_growing n t.task.slot.heap) t.task.slot) t.found) in
        let took = claim-takes n t.task.slot.heap heap_is (need-none n t.task.slot.heap heap_is some small) in
        let e = t.free_is in
        omega arith;
  }

  honest_heaps : HasHonestHeaps d
  honest_heaps = record {
    slots = all-mono (λ t (slot : IsSlot t.slot). honest t.slot.heap slot.heap) d.tasks is.slots;
    module_area = honest d.post.heap is.post.heap.heap;
  }

pub always-honest : Always HasHonestHeaps
always-honest pool handle ref files commands from ranged = honest_heaps _ (always-is pool handle ref files commands from ranged)

pub always-claimed : Always ClaimsAsDescribed
always-claimed pool handle ref files commands from ranged = claims _ (always-is pool handle ref files commands from ranged)
