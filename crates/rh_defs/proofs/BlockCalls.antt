-- What the module area's calls leave of the blocks of its heap.
use Rattle.rh_defs.proofs.Common.{◌≡◌, ℕ, ◌≤◌, Bool, true, false, eqb, ltb, List, refl, sym, subst, ◌∙◌, arith, length-replicate, Option, Some, None, Ok, Err}
use Rattle.rh_defs.proofs.Common.{Granted, ◌>>=◌, ◌>>◌, refuse_if, zeros, pages_for, Split, Heap, Segment, Placed, need, claim_growing, block_room, raised}
use Rattle.rh_defs.proofs.Common.{block_at, release_block, module_claim, module_free, block_bytes, PutsBlock, NotABlock, BadSize, NoRoom}
use Rattle.rh_defs.specs.Blocks.{HasBlock, Frees}
use Rattle.rh_defs.proofs.BlockLaws.{placed-puts, block_at-bytes, bytes_here, release-frees}
use Rattle.rh_defs.proofs.ModuleLaws.{module_free-some, module_free-none}

granted-is : (t u : Bool) (p : Placed) (there : Heap × ℕ)
    → ◌≡◌ {A = Granted (Heap × ℕ)} (refuse_if t BadSize >> (refuse_if u NoRoom >> Ok (p.heap, p.address))) (Ok there)
    → ◌≡◌ {A = Heap × ℕ} there (p.heap, p.address)
unfolding ◌>>=◌ ◌>>◌ refuse_if
granted-is true u p there e = absurd cc
granted-is false true p there e = absurd cc
granted-is false false p there e = cc

-- a block that is claimed is a new one of zeros, and no other changes
pub module_claim-puts : (free n : ℕ) (h : Heap) (there : Heap × ℕ) → module_claim free n h ≡ Ok there → PutsBlock (zeros (block_room n)) h there.0 there.1
unfolding module_claim ◌>>◌
module_claim-puts free n h there e =
    let p = claim_growing n h in
    let is = granted-is (eqb n 0) (ltb free (pages_for (need n h))) p there e in
    let w = placed-puts (zeros (block_room n)) (raised (need n h) h) in
    subst (λ (x : Heap × ℕ). PutsBlock (zeros (block_room n)) h x.0 x.1) (sym is) (record { fresh = w.fresh; here = w.here; others = w.others })

pub room_enough : (n : ℕ) → n ≤ block_room n
room_enough n = omega arith

-- the block that was claimed has the bytes that were asked for
pub module_claim-has : (free n : ℕ) (h : Heap) (there : Heap × ℕ) → module_claim free n h ≡ Ok there → HasBlock there.1 n there.0
module_claim-has free n h there e =
    record {
      bytes = zeros (block_room n);
      found = (module_claim-puts free n h there e).here;
      room = omega (arith, room_enough n, length-replicate {A = ℕ} (block_room n) 0);
    }

-- a block that is there is freed
pub module_free-there : (a : ℕ) (h : Heap) (bs : List ℕ) → block_bytes a h ≡ Some bs → module_free a h ≡ Ok (release_block a h)
module_free-there a h bs b = go (block_at a h) refl (block_at-bytes a h)
  where
    go : (q : Option (Split Segment)) → block_at a h ≡ q → bytes_here q ≡ block_bytes a h → module_free a h ≡ Ok (release_block a h)
    go None e f = let bad : None ≡ Some bs = f ∙ b in absurd cc
    go (Some s) e f = module_free-some a h s e

-- a block that is freed is gone, and no other changes
pub module_free-frees : (a : ℕ) (h k : Heap) → module_free a h ≡ Ok k → Frees a h k
module_free-frees a h k e = go (block_at a h) refl
  where
    go : (q : Option (Split Segment)) → block_at a h ≡ q → Frees a h k
    go None n = let bad : ◌≡◌ {A = Granted Heap} (Err NotABlock) (Ok k) = sym (module_free-none a h n) ∙ e in absurd cc
    go (Some s) f =
        let same : ◌≡◌ {A = Granted Heap} (Ok (release_block a h)) (Ok k) = sym (module_free-some a h s f) ∙ e in
        let is : release_block a h ≡ k = cc in
        subst (λ (x : Heap). Frees a h x) is (release-frees a h)
