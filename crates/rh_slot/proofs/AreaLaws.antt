-- Areas that are edited, and their pages.
use Rattle.rh_slot.proofs.Common.{◌≡◌, ℕ, ◌+◌, ◌-◌, ◌*◌, ◌≤◌, ◌++◌, List, length, length-append, length-replicate, replicate, refl, sym, ap}
use Rattle.rh_slot.proofs.Common.{subst, ◌∙◌, arith, Result, Ok, Err, OnOk, PAGE, part, with_part, Memory}
use Rattle.rh_slot.proofs.Common.{Edited, Resized, bytes, put_outside, length-part, bytes-with_bytes, Carried}
use Rattle.rh_defs.specs.Memory.{with_bytes, grown, shrunk}
use Rattle.rh_defs.proofs.BytesLaws.{put_inside, get-part, part-append_right, part-zeros}
use Rattle.rh_defs.proofs.MemoryLaws.{bytes-grown, Edited-with_bytes, SameIn-grown, SameIn-shrunk, length-grown, length-shrunk, OnlyArea-grown, OnlyArea-shrunk}

-- bytes put into an area
pub Edited-put : (m n : Memory) (id lo hi : ℕ) (xs : List ℕ) → n ≡ with_bytes m id (with_part (bytes m id) lo xs) → lo + length xs ≤ hi → Edited m n id lo hi
Edited-put m n id lo hi xs e h =
    subst (λ (r : Memory). Edited m r id lo hi) (sym e) (Edited-with_bytes m id lo hi (with_part (bytes m id) lo xs) (put_outside (bytes m id) lo xs hi h))

slid : (b : List ℕ) (from to k : ℕ) → to + k ≤ length b → Carried b (with_part b to (part b from k)) from to k
slid b from to k h =
    record { each = λ i u. put_inside b to (part b from k) (to + i) i (omega (arith, length-part b from k)) refl (omega arith) ∙ get-part b from k i u }

-- bytes slid in an area
pub Carried-slid : (m n : Memory) (id from to k : ℕ) → n ≡ with_bytes m id (with_part (bytes m id) to (part (bytes m id) from k)) → to + k ≤ length (bytes m id)
    → Carried (bytes m id) (bytes n id) from to k
Carried-slid m n id from to k e h =
    let xs = with_part (bytes m id) to (part (bytes m id) from k) in
    let q : bytes n id ≡ xs = ap (λ (r : Memory). bytes r id) e ∙ bytes-with_bytes m id xs in
    subst (λ c. Carried (bytes m id) c from to k) (sym q) (slid (bytes m id) from to k h)

pub Resized-grown : (m n : Memory) (id k count : ℕ) → n ≡ grown m id k → k ≤ m.free → length (bytes m id) + PAGE * k ≡ PAGE * count
    → Resized m n id (length (bytes m id)) count
Resized-grown m n id k count e h l =
    subst (λ (r : Memory). Resized m r id (length (bytes m id)) count) (sym e)
    (record { same = SameIn-grown m id k 0 (length (bytes m id)) (omega arith); len = length-grown m id k ∙ l; only = OnlyArea-grown m id k h })

-- the pages that an area was grown by are zeros
pub zeros-grown : (m n : Memory) (id k : ℕ) → n ≡ grown m id k → (place count : ℕ) → length (bytes m id) ≤ place → place + count ≤ length (bytes n id)
    → part (bytes n id) place count ≡ replicate count 0
zeros-grown m n id k e place count le inside =
    let b = bytes m id in let more = replicate (PAGE * k) 0 in let j = place - length b in
    let is : bytes n id ≡ b ++ more = ap (λ (r : Memory). bytes r id) e ∙ bytes-grown m id k in
    let at : place ≡ length b + j = omega arith in
    let long : length (bytes n id) ≡ length (bytes m id) + length (replicate {A = ℕ} (PAGE * k) 0) = ap length is ∙ length-append b more in
    let whole : length (replicate {A = ℕ} (PAGE * k) 0) ≡ PAGE * k = length-replicate {A = ℕ} (PAGE * k) 0 in
    ap (λ l. part l place count) is ∙ ap (λ p. part (b ++ more) p count) at ∙ part-append_right b more j count
    ∙ part-zeros (PAGE * k) j count (omega arith)

pub Resized-shrunk : (m n : Memory) (id keep k count : ℕ) → n ≡ shrunk m id k → keep + PAGE * k ≤ length (bytes m id)
    → length (bytes m id) ≡ PAGE * count + PAGE * k → Resized m n id keep count
Resized-shrunk m n id keep k count e h l =
    subst (λ (r : Memory). Resized m r id keep count) (sym e)
    (record { same = SameIn-shrunk m id k 0 keep h; len = length-shrunk m id k ∙ omega arith; only = OnlyArea-shrunk m id k (omega arith) })

-- what holds where a call was done
pub on_ok : {A E P Q R : Type 0} (r : Result A E) → OnOk r P → OnOk r Q → (P → Q → R) → OnOk r R
on_ok (Ok x) p q f = f p q
on_ok (Err x) p q f = tt
