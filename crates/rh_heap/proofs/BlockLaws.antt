-- Blocks of zeros and of old bytes.
use Rattle.rh_heap.proofs.Common.{◌≡◌, ℕ, ◌+◌, ◌-◌, ◌≤◌, List, ◌++◌, length, replicate, sym, ap, subst, ◌∙◌, arith, length-replicate, part, SameOutside}
use Rattle.rh_heap.proofs.Common.{Memory, part_more, length-part, zeros}
use Rattle.rh_defs.specs.Bytes.{with_part}
use Rattle.rh_defs.specs.Memory.{Edited, bytes, with_bytes}
use Rattle.rh_defs.proofs.BytesLaws.{part-put, put_outside}
use Rattle.rh_defs.proofs.MemoryLaws.{bytes-with_bytes, Edited-with_bytes}
use Rattle.rh_heap.proofs.FillLaws.{part_below, part_above}

pub zeros_long : (t : ℕ) → 8 ≤ t → t ≡ 4 + length (zeros (t - 4))
zeros_long t l = let n = length-replicate {A = ℕ} (t - 4) 0 in omega arith

pub zeros_part : (b : List ℕ) (p n : ℕ) → part b p n ≡ replicate n 0 → part b p (length (zeros n)) ≡ zeros n
zeros_part b p n e = ap (part b p) (length-replicate {A = ℕ} n 0) ∙ e

-- a block whose size word is written, and zeros behind its bytes
pub longer_part : (b b1 c : List ℕ) (at place size t : ℕ) → 8 ≤ size → size ≤ t → SameOutside b b1 (at + place) (at + place + 4)
    → SameOutside b1 c (at + (place + size)) (at + (place + size) + (t - size))
    → part c (at + (place + size)) (t - size) ≡ replicate (t - size) 0
    → part c (at + place + 4) (t - 4) ≡ part b (at + place + 4) (size - 4) ++ replicate (t - size) 0
longer_part b b1 c at place size t l g o1 o2 z =
    let p = at + place + 4 in
    let n = size - 4 in
    let e1 : part c p (t - 4) ≡ part c p (n + (t - size)) = ap (part c p) (omega arith) in
    let e2 : part c p n ≡ part b p n = part_below o2 p n (omega arith) ∙ part_above o1 p n (omega arith) in
    let e3 : part c (p + n) (t - size) ≡ replicate (t - size) 0 = ap (λ q. part c q (t - size)) (omega arith) ∙ z in
    e1 ∙ part_more c p n (t - size) ∙ ap (λ l. l ++ part c (p + n) (t - size)) e2 ∙ ap (λ l. part b p n ++ l) e3

-- bytes that slid to another place
pub slid_bytes : (m n : Memory) (id from to k : ℕ) → n ≡ with_bytes m id (with_part (bytes m id) to (part (bytes m id) from k)) → to + k ≤ length (bytes m id)
    → part (bytes n id) to k ≡ part (bytes m id) from k
slid_bytes m n id from to k e h =
    let new = with_part (bytes m id) to (part (bytes m id) from k) in
    ap (λ (r : Memory). part (bytes r id) to k) e ∙ ap (λ b. part b to k) (bytes-with_bytes m id new)
    ∙ part-put (bytes m id) to (part (bytes m id) from k) k (sym (length-part (bytes m id) from k)) h

pub slid_only : (m n : Memory) (id from to k : ℕ) → n ≡ with_bytes m id (with_part (bytes m id) to (part (bytes m id) from k)) → Edited m n id to (to + k)
slid_only m n id from to k e =
    let xs = part (bytes m id) from k in
    subst (λ (r : Memory). Edited m r id to (to + k)) (sym e) (Edited-with_bytes m id to (to + k) (with_part (bytes m id) to xs)
    (put_outside (bytes m id) to xs (to + k) (omega (arith, length-part (bytes m id) from k))))
