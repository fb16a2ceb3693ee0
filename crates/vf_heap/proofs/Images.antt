-- Heaps in the first of some bytes.
use Rattle.std.proofs.Common.{◌≡◌, ℕ, ◌+◌, ◌≤◌, List, length, take, sym, ap, subst, ◌∙◌, arith}
use Rattle.std.proofs.lemmas.Bool.Decides.{nat_tests}
use Rattle.std.proofs.lemmas.List.{length-take}
use Rattle.rh_defs.specs.Bytes.{word, SameIn}
use Rattle.rh_defs.specs.HeapImage.{Spells, IsImage, heap_of, fault_of, special_word}
use Rattle.rh_defs.proofs.BytesLaws.{SameIn-take}
use Rattle.rh_defs.proofs.HeapLaws.{heap_of-Spells}
use Rattle.rh_defs.proofs.ModuleLaws.{Spells-kept}
use Rattle.rh_lent_heap.specs.Heaps.{IsHeapBytes}
use Rattle.rh_store.specs.Limits.{area_limit}
use Rattle.vf_heap.specs.HeapStatus.{found_status, image_status}

same_back : (b c : List ℕ) (lo hi : ℕ) → SameIn b c lo hi → SameIn c b lo hi
same_back b c lo hi s = record { each = λ k l m. sym (s.each k l m) }

-- where the first bytes are an image, all of them spell its heap
pub taken : (b : List ℕ) (e : ℕ) → length b ≤ area_limit → e ≤ length b → IsImage (take e b) (heap_of (take e b) 0)
    → IsHeapBytes b
taken b e few l image =
    let h = heap_of (take e b) 0 in
    let len = length-take e b in
    let whole = image.whole in
    let end : 0 + h.end ≤ e = grind (arith, nat_tests) in
    let same = same_back b (take e b) 0 (0 + h.end) (SameIn-take e b 0 (0 + h.end) end) in
    let spells : Spells b 0 h = Spells-kept (take e b) b 0 h image.spells same (omega arith) in
    record { few = few; spells = subst (λ k. Spells b 0 k) (sym (heap_of-Spells b 0 h spells)) spells }

-- the status is that of the first fault, where there are enough bytes and they begin with the word of a heap
pub looked_at : (b : List ℕ) (e : ℕ) → 16 ≤ length b → length b ≤ area_limit → word b 0 ≡ special_word → e ≡ word b 12
    → e ≤ length b → image_status b ≡ found_status (fault_of (take e b))
unfolding image_status
looked_at b e least few special is l =
    let w : word b 12 ≤ length b = subst (λ k. k ≤ length b) is l in
    let here : image_status b ≡ found_status (fault_of (take (word b 12) b)) = grind (arith, nat_tests) in
    here ∙ ap (λ k. found_status (fault_of (take k b))) (sym is)
