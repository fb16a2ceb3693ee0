-- What calls on the module area leave of its blocks.
use Rattle.rh_wimp.proofs.Common.{◌≡◌, ℕ, ◌+◌, ◌≤◌, List, ◌++◌, length, length-append, take, drop, replicate, refl, sym, ap, subst, ◌∙◌, arith, append_assoc}
use Rattle.rh_wimp.proofs.Common.{Ok, Err, with_part, Granted, answer_of, left_of, Memory, zeros, Heap, block_room, release_block, module_claim, OnlyArea-both}
use Rattle.rh_wimp.proofs.Common.{module_heap_in}
use Rattle.rh_wimp.proofs.Common.{Module, Turns, poked, HasBlock, word_bytes, encoded, encoded_length, Message, module_claim-puts, length-word_bytes}
use Rattle.rh_wimp.proofs.Common.{length-encoded}
use Rattle.std.proofs.lemmas.List.{take_at}
use Rattle.rh_defs.specs.Chain.{no_answer}
use Rattle.rh_defs.specs.Module.{module_free}
use Rattle.rh_defs.proofs.BytesLaws.{put-parts}
use Rattle.rh_module.specs.ModuleCalls.{LeavesModule}
use Rattle.rh_module.specs.Writes.{Wrote}
use Rattle.rh_defs.specs.Blocks.{PutsBlock}
use Rattle.rh_defs.proofs.BlockCalls.{module_claim-has, module_free-there}

-- ---- claims
pub record Claimed (m n : Memory) (module_area : Module) (size block : ℕ) : Type 0 where
  pub there : Heap × ℕ
  pub granted : module_claim m.free size (module_heap_in m module_area) ≡ Ok there
  pub block_is : block ≡ there.1
  pub turns : Turns m n module_area there.0
  pub puts : PutsBlock (zeros (block_room size)) (module_heap_in m module_area) there.0 there.1

pub claimed : (m n : Memory) (module_area : Module) (size block : ℕ) → LeavesModule m n module_area (module_claim m.free size (module_heap_in m module_area))
    (Ok block)
    → Claimed m n module_area size block
claimed m n module_area size block w = go (module_claim m.free size (module_heap_in m module_area)) refl w.answer w.heap
  where
    go : (g : Granted (Heap × ℕ)) → module_claim m.free size (module_heap_in m module_area) ≡ g → Ok block ≡ answer_of g → module_heap_in n module_area
        ≡ left_of
        (module_heap_in m module_area) g
        → Claimed m n module_area size block
    go (Err e) eg a h = absurd cc
    go (Ok there) eg a h = record {
      there = there;
      granted = eg;
      block_is = cc;
      turns = record { still = w.still; heap = h; only = w.only };
      puts = module_claim-puts m.free size (module_heap_in m module_area) there eg;
    }

pub claimed-block : (m n : Memory) (module_area : Module) (size block : ℕ) → Claimed m n module_area size block → HasBlock block size
    (module_heap_in n module_area)
claimed-block m n module_area size block c =
    subst (λ (h : Heap). HasBlock block size h) (sym c.turns.heap) (subst (λ a. HasBlock a size c.there.0) (sym c.block_is)
    (module_claim-has m.free size (module_heap_in m module_area) c.there c.granted))

-- ---- the bytes of a parcel: its link and its code, then its message
pub parcel_head : (code : ℕ) (p : List ℕ) → p ≡ with_part (replicate 264 0) 4 (word_bytes code) → take 8 p ≡ word_bytes 0 ++ word_bytes code
unfolding word_bytes
parcel_head code p e =
    let z : List ℕ = replicate 264 0 in
    let l = length-word_bytes code in
    let d : List ℕ = drop (4 + length (word_bytes code)) z in
    let long : length z ≡ 264 = refl in
    let four : length (take 4 z) ≡ 4 = refl in
    let none : take 4 z ≡ word_bytes 0 = refl in
    let q : p ≡ (take 4 z ++ word_bytes code) ++ d = e ∙ put-parts z 4 (word_bytes code) (omega arith) ∙ sym (append_assoc (take 4 z) (word_bytes code) d) in
    ap (take 8) q ∙ take_at (take 4 z ++ word_bytes code) d 8 (omega (arith, length-append (take 4 z) (word_bytes code))) ∙ ap (λ x. x ++ word_bytes code) none

pub parcel_bytes : (b h r : List ℕ) (m : Message) (n : ℕ) (c : List ℕ) → length h ≡ 8 → n ≡ encoded_length m → n ≤ length b → c ≡ with_part b 0 (encoded m)
    → take (8 + n) (h ++ (c ++ r)) ≡ h ++ encoded m
parcel_bytes b h r m n c l e s ec =
    let k = length-encoded m in
    let d : List ℕ = drop (0 + length (encoded m)) b in
    let p : c ≡ encoded m ++ d = ec ∙ put-parts b 0 (encoded m) (omega arith) in
    let q : h ++ (c ++ r) ≡ (h ++ encoded m) ++ (d ++ r) =
    ap (λ x. h ++ (x ++ r)) p ∙ ap (λ x. h ++ x) (append_assoc (encoded m) d r) ∙ sym (append_assoc h (encoded m) (d ++ r)) in
    ap (take (8 + n)) q ∙ take_at (h ++ encoded m) (d ++ r) (8 + n) (omega (arith, length-append h (encoded m)))

pub placed-there : (m n n1 : Memory) (module_area : Module) (size block : ℕ) (xs : List ℕ) → Claimed m n module_area size block
    → Wrote n n1 module_area block 0 xs
    → (there : Heap × ℕ) → module_claim m.free size (module_heap_in m module_area) ≡ Ok there → Turns m n1 module_area (poked there.1 0 xs there.0)
placed-there m n n1 module_area size block xs c w there e =
    let same : ◌≡◌ {A = Heap × ℕ} c.there there = let q : ◌≡◌ {A = Granted (Heap × ℕ)} (Ok c.there) (Ok there) = sym c.granted ∙ e in cc in
    subst (λ (x : Heap × ℕ). Turns m n1 module_area (poked x.1 0 xs x.0)) same (record {
      still = w.still;
      heap = w.heap ∙ ap (poked block 0 xs) c.turns.heap ∙ ap (λ a. poked a 0 xs c.there.0) c.block_is;
      only = OnlyArea-both m n n1 module_area.area.0 c.turns.only w.only;
    })

-- ---- frees
module _ (m n : Memory) (module_area : Module) (a k : ℕ) (result : Granted (Unit {0})) (b : HasBlock a k (module_heap_in m module_area))
    (w : LeavesModule m n module_area (no_answer (module_free a (module_heap_in m module_area))) result) where
  granted : no_answer (module_free a (module_heap_in m module_area)) ≡ Ok (release_block a (module_heap_in m module_area), tt)
  granted = ap no_answer (module_free-there a (module_heap_in m module_area) b.bytes b.found)

  pub free-done : result ≡ Ok tt
  free-done = w.answer ∙ ap answer_of granted

  pub freed : Turns m n module_area (release_block a (module_heap_in m module_area))
  freed = record { still = w.still; heap = w.heap ∙ ap (left_of (module_heap_in m module_area)) granted; only = w.only }
