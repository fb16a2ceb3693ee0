-- What a claim, a write and a free make of a block of the module area.
use Rattle.std.proofs.Common.{◌≡◌, ℕ, ◌≤◌, List, refl, ◌∙◌, ap, sym, subst}
use Rattle.std.specs.Prelude.{Ok, Err}
use Rattle.rh_defs.specs.Chain.{Granted, answer_of, left_of, no_answer}
use Rattle.rh_defs.specs.Bytes.{with_part}
use Rattle.rh_defs.specs.Pieces.{zeros}
use Rattle.rh_defs.specs.Heap.{Heap, block_room, release_block}
use Rattle.rh_defs.specs.Module.{module_claim, module_free}
use Rattle.rh_defs.specs.Blocks.{HasBlock, PutsBlock, Frees, Pokes, poked}
use Rattle.rh_defs.proofs.BlockLaws.{has-less, has-poked, poked-pokes, release-frees}
use Rattle.rh_defs.proofs.BlockCalls.{module_claim-puts, module_claim-has, module_free-there}

-- the heap and the address that a granted call gives
granted : (h : Heap) (x : ℕ) (called : Granted (Heap × ℕ)) → ◌≡◌ {A = Granted ℕ} (Ok x) (answer_of called) → called ≡ Ok (left_of h called, x)
granted h x (Ok there) e = let is : x ≡ there.1 = cc in rw is refl
granted h x (Err refusal) e = absurd cc

-- the block that was claimed has room for the bytes that were asked for
pub claimed-has : (free n m x : ℕ) (h k : Heap) → ◌≡◌ {A = Granted ℕ} (Ok x) (answer_of (module_claim free n h)) → k ≡ left_of h (module_claim free n h)
    → m ≤ n → HasBlock x m k
claimed-has free n m x h k e is le =
    has-less x n m k le (subst (λ (y : Heap). HasBlock x n y) (sym is) (module_claim-has free n h _ (granted h x (module_claim free n h) e)))

-- and with bytes written into it, it is a new block of these bytes and zeros
pub claimed-puts : (free n x : ℕ) (bytes : List ℕ) (h k l : Heap) → ◌≡◌ {A = Granted ℕ} (Ok x) (answer_of (module_claim free n h))
    → k ≡ left_of h (module_claim free n h) → l ≡ poked x 0 bytes k → PutsBlock (with_part (zeros (block_room n)) 0 bytes) h l x
claimed-puts free n x bytes h k l e is wrote =
    let p : PutsBlock (zeros (block_room n)) h k x =
    subst (λ (y : Heap). PutsBlock (zeros (block_room n)) h y x) (sym is) (module_claim-puts free n h _ (granted h x (module_claim free n h) e)) in
    let w : Pokes x (with_part (zeros (block_room n)) 0 bytes) k l =
    subst (λ (y : Heap). Pokes x (with_part (zeros (block_room n)) 0 bytes) k y) (sym wrote) (poked-pokes x 0 bytes k _ p.here) in
    record { fresh = p.fresh; here = w.here; others = λ a ne. w.others a ne ∙ p.others a ne }

-- it is there, as long as it was claimed
pub kept-has : (a n : ℕ) (bytes : List ℕ) (h k : Heap) → HasBlock a n h → k ≡ poked a 0 bytes h → HasBlock a n k
kept-has a n bytes h k has is = subst (λ (y : Heap). HasBlock a n y) (sym is) (has-poked a n 0 bytes h has)

-- a block that is there is freed, and no other changes
pub free-done : (a n : ℕ) (h : Heap) → HasBlock a n h → module_free a h ≡ Ok (release_block a h)
free-done a n h has = module_free-there a h has.bytes has.found

pub free-left : (a n : ℕ) (h k : Heap) → HasBlock a n h → k ≡ left_of h (no_answer (module_free a h)) → k ≡ release_block a h
free-left a n h k has is = is ∙ ap (λ (q : Granted Heap). left_of h (no_answer q)) (free-done a n h has)

pub free-frees : (a n : ℕ) (h k : Heap) → HasBlock a n h → k ≡ left_of h (no_answer (module_free a h)) → Frees a h k
free-frees a n h k has is = subst (λ (y : Heap). Frees a h y) (sym (free-left a n h k has is)) (release-frees a h)
