-- Loops that edit one area: one step more.
use Rattle.rh_pages.proofs.Common.{◌≡◌, ◌≢◌, ℕ, ◌+◌, ◌-◌, ◌*◌, ◌/◌, ◌≤◌, List, [], ◌++◌, length, take, replicate, refl, sym, ap, subst, ◌∙◌, arith}
use Rattle.rh_pages.proofs.Common.{append_assoc, Option, Some, None, IsSome, unwrap_or, length-replicate, PAGE, part, with_part, Memory, IsOpen, area_set}
use Rattle.rh_pages.proofs.Common.{bytes}
use Rattle.rh_pages.proofs.Common.{with_bytes, grown, shrunk, length-part, length-put, length-shrunk}
use Rattle.std.proofs.lemmas.List.{append-nil, replicate-append-replicate, take-take}
use Rattle.std.proofs.Math.Seq.{take-length}
use Rattle.rh_defs.specs.Memory.{closed}
use Rattle.rh_defs.proofs.BytesLaws.{put_none, put_more, part_more, slide_down, slide_up}
use Rattle.rh_defs.proofs.MemoryLaws.{area_set-area_set, area_set-self, bytes-with_bytes, bytes-with_other, area-with_bytes, IsOpen-with_bytes}
use Rattle.rh_defs.proofs.MemoryLaws.{with_bytes-with_bytes, with_bytes-self, bytes-grown, bytes-shrunk}

-- an edit of an area that was edited
pub edited : (m w u : Memory) (id : ℕ) (x : List ℕ) (f : List ℕ → List ℕ) → w ≡ with_bytes m id x → u ≡ with_bytes w id (f (bytes w id))
    → u ≡ with_bytes m id (f x)
edited m w u id x f e g =
    let seen : bytes w id ≡ x = ap (λ k. bytes k id) e ∙ bytes-with_bytes m id x in
    g ∙ ap (λ l. with_bytes w id (f l)) seen ∙ ap (λ k. with_bytes k id (f x)) e ∙ with_bytes-with_bytes m id x (f x)

-- nothing written yet
pub none_written : (m : Memory) (id at : ℕ) (xs : List ℕ) → IsOpen m id → xs ≡ [] → m ≡ with_bytes m id (with_part (bytes m id) at xs)
none_written m id at xs o e =
    sym (ap (λ l. with_bytes m id (with_part (bytes m id) at l)) e ∙ ap (with_bytes m id) (put_none (bytes m id) at) ∙ with_bytes-self m id o)

-- more written behind what was
pub written_more : (m w u : Memory) (id at d : ℕ) (xs ys : List ℕ) → length xs ≡ d → w ≡ with_bytes m id (with_part (bytes m id) at xs)
    → u ≡ with_bytes w id (with_part (bytes w id) (at + d) ys) → u ≡ with_bytes m id (with_part (bytes m id) at (xs ++ ys))
written_more m w u id at d xs ys l e g =
    edited m w u id (with_part (bytes m id) at xs) (λ b. with_part b (at + d) ys) e g
    ∙ ap (λ k. with_bytes m id (with_part (with_part (bytes m id) at xs) (at + k) ys)) (sym l) ∙ ap (with_bytes m id) (sym (put_more (bytes m id) at xs ys))

pub zeroed_more : (m w u : Memory) (id at d n : ℕ) → w ≡ with_bytes m id (with_part (bytes m id) at (replicate d 0))
    → u ≡ with_bytes w id (with_part (bytes w id) (at + d) (replicate n 0)) → u ≡ with_bytes m id (with_part (bytes m id) at (replicate (d + n) 0))
zeroed_more m w u id at d n e g =
    written_more m w u id at d (replicate d 0) (replicate n 0) (length-replicate {A = ℕ} d 0) e g
    ∙ ap (λ l. with_bytes m id (with_part (bytes m id) at l)) (replicate-append-replicate {A = ℕ} d n 0)

-- bytes from elsewhere, d of them written
pub copied_more : (m w u : Memory) (id at d n p : ℕ) (from : List ℕ) → w ≡ with_bytes m id (with_part (bytes m id) at (part from p d))
    → u ≡ with_bytes w id (with_part (bytes w id) (at + d) (part from (p + d) n)) → u ≡ with_bytes m id (with_part (bytes m id) at (part from p (d + n)))
copied_more m w u id at d n p from e g =
    written_more m w u id at d (part from p d) (part from (p + d) n) (length-part from p d) e g
    ∙ ap (λ l. with_bytes m id (with_part (bytes m id) at l)) (sym (part_more from p d n))

pub across_more : (m w u : Memory) (id id2 at at2 d n : ℕ) → id ≢ id2 → w ≡ with_bytes m id2 (with_part (bytes m id2) at2 (part (bytes m id) at d))
    → u ≡ with_bytes w id2 (with_part (bytes w id2) (at2 + d) (part (bytes w id) (at + d) n))
    → u ≡ with_bytes m id2 (with_part (bytes m id2) at2 (part (bytes m id) at (d + n)))
across_more m w u id id2 at at2 d n ne e g =
    let same : bytes w id ≡ bytes m id = ap (λ k. bytes k id) e ∙ bytes-with_other m id2 (with_part (bytes m id2) at2 (part (bytes m id) at d)) id ne in
    copied_more m w u id2 at2 d n at (bytes m id) e (g ∙ ap (λ l. with_bytes w id2 (with_part (bytes w id2) (at2 + d) (part l (at + d) n))) same)

pub down_more : (m w u : Memory) (id from to d n : ℕ) → to ≤ from → from + (d + n) ≤ length (bytes m id)
    → w ≡ with_bytes m id (with_part (bytes m id) to (part (bytes m id) from d))
    → u ≡ with_bytes w id (with_part (bytes w id) (to + d) (part (bytes w id) (from + d) n))
    → u ≡ with_bytes m id (with_part (bytes m id) to (part (bytes m id) from (d + n)))
down_more m w u id from to d n low h e g =
    edited m w u id (with_part (bytes m id) to (part (bytes m id) from d)) (λ b. with_part b (to + d) (part b (from + d) n)) e g
    ∙ ap (with_bytes m id) (slide_down (bytes m id) from to d n low (omega arith))

-- from the upper end: the last k bytes were moved, and n more below them
pub up_more : (m w u : Memory) (id from to left n k : ℕ) → from ≤ to → to + left + n + k ≤ length (bytes m id)
    → w ≡ with_bytes m id (with_part (bytes m id) (to + (left + n)) (part (bytes m id) (from + (left + n)) k))
    → u ≡ with_bytes w id (with_part (bytes w id) (to + left) (part (bytes w id) (from + left) n))
    → u ≡ with_bytes m id (with_part (bytes m id) (to + left) (part (bytes m id) (from + left) (n + k)))
up_more m w u id from to left n k low h e g =
    let a : to + (left + n) ≡ to + left + n = omega arith in let b : from + (left + n) ≡ from + left + n = omega arith in
    let e' = e ∙ ap (λ i. with_bytes m id (with_part (bytes m id) i (part (bytes m id) (from + (left + n)) k))) a
    ∙ ap (λ i. with_bytes m id (with_part (bytes m id) (to + left + n) (part (bytes m id) i k))) b in
    edited m w u id (with_part (bytes m id) (to + left + n) (part (bytes m id) (from + left + n) k))
    (λ l. with_part l (to + left) (part l (from + left) n)) e' g
    ∙ ap (with_bytes m id) (slide_up (bytes m id) (from + left) (to + left) n k (omega arith) h)

same_memory : (area area' : ℕ → Option (List ℕ)) (free free' pages loan : ℕ) → area ≡ area' → free ≡ free'
    → ◌≡◌ {A = Memory} (record { area = area; free = free; pages = pages; loan = loan }) (record { area = area'; free = free'; pages = pages; loan = loan })
same_memory area area' free free' pages loan a f = λ i. record { area = a i; free = f i; pages = pages; loan = loan }

some_bytes : (o : Option (List ℕ)) → IsSome o → Some (unwrap_or o []) ≡ o
some_bytes (Some x) h = refl
some_bytes None h = absurd cc

-- no page grown
pub grown_none : (m : Memory) (id : ℕ) → IsOpen m id → m ≡ grown m id 0
unfolding grown bytes
grown_none m id o =
    let free : m.free ≡ m.free - 0 = omega arith in
    same_memory m.area (area_set m.area id (Some (unwrap_or (m.area id) [] ++ []))) m.free (m.free - 0) m.pages m.loan
    (sym (ap (λ (l : List ℕ). area_set m.area id (Some l)) (append-nil (unwrap_or (m.area id) [])) ∙ ap (area_set m.area id) (some_bytes (m.area id) o)
    ∙ area_set-self m.area id)) free

-- pages grown one after another
pub grown_more : (m : Memory) (id d n : ℕ) → grown (grown m id d) id n ≡ grown m id (d + n)
unfolding grown
grown_more m id d n =
    let b = bytes m id in let x = b ++ replicate (PAGE * d) 0 in
    let all : PAGE * d + PAGE * n ≡ PAGE * (d + n) = omega arith in
    let left : m.free - d - n ≡ m.free - (d + n) = omega arith in
    let joined : x ++ replicate (PAGE * n) 0 ≡ b ++ replicate (PAGE * (d + n)) 0 =
    append_assoc b (replicate (PAGE * d) 0) (replicate (PAGE * n) 0)
    ∙ ap (λ l. b ++ l) (replicate-append-replicate {A = ℕ} (PAGE * d) (PAGE * n) 0 ∙ ap (λ k. replicate {A = ℕ} k 0) all) in
    same_memory _ _ _ _ m.pages m.loan
    (ap (λ (l : List ℕ). area_set (area_set m.area id (Some x)) id (Some (l ++ replicate (PAGE * n) 0))) (bytes-grown m id d)
    ∙ area_set-area_set m.area id (Some x) (Some (x ++ replicate (PAGE * n) 0)) ∙ ap (λ (l : List ℕ). area_set m.area id (Some l)) joined)
    left

-- no page cut off
pub shrunk_none : (m : Memory) (id : ℕ) → IsOpen m id → m ≡ shrunk m id 0
unfolding shrunk bytes
shrunk_none m id o =
    let b = unwrap_or (m.area id) [] in let free : m.free ≡ m.free + 0 = omega arith in let all : length b - PAGE * 0 ≡ length b = omega arith in
    same_memory _ _ _ _ m.pages m.loan
    (sym (ap (λ k. area_set m.area id (Some (take k b))) all ∙ ap (λ (l : List ℕ). area_set m.area id (Some l)) (take-length b)
    ∙ ap (area_set m.area id) (some_bytes (m.area id) o) ∙ area_set-self m.area id))
    free

-- pages cut off one after another
pub shrunk_more : (m : Memory) (id d n : ℕ) → shrunk (shrunk m id d) id n ≡ shrunk m id (d + n)
unfolding shrunk
shrunk_more m id d n =
    let b = bytes m id in let k = length b - PAGE * d in let x = take k b in
    let left : m.free + d + n ≡ m.free + (d + n) = omega arith in
    let long = length-shrunk m id d in
    let less : k - PAGE * n ≡ length b - PAGE * (d + n) = omega arith in
    same_memory _ _ _ _ m.pages m.loan
    (ap (λ (l : List ℕ). area_set (area_set m.area id (Some x)) id (Some (take (length l - PAGE * n) l))) (bytes-shrunk m id d)
    ∙ area_set-area_set m.area id (Some x) (Some (take (length x - PAGE * n) x))
    ∙ ap (λ i. area_set m.area id (Some (take (i - PAGE * n) x))) (sym (ap length (bytes-shrunk m id d)) ∙ long)
    ∙ ap (λ (l : List ℕ). area_set m.area id (Some l)) (take-take (k - PAGE * n) k b (omega arith) ∙ ap (λ i. take i b) less))
    left

-- an area is closed once its pages are cut off
pub closed_shrunk : (m : Memory) (id n : ℕ) → n ≡ length (bytes m id) / PAGE
    → ◌≡◌ {A =
    Memory} (record
    { area = area_set (shrunk m id n).area id None; free = (shrunk m id n).free; pages = (shrunk m id n).pages; loan = (shrunk m id n).loan }) (closed m id)
unfolding shrunk closed
closed_shrunk m id n e =
    same_memory _ _ _ _ m.pages m.loan
    (area_set-area_set m.area id (Some (take (length (bytes m id) - PAGE * n) (bytes m id))) None)
    (ap (λ k. m.free + k) e)

-- one area has other bytes, as many as it had, and all else is as it was
pub record Rewritten (m w : Memory) (id : ℕ) (x : List ℕ) : Type 0 where
  pub memory : w ≡ with_bytes m id x
  pub opened : IsOpen w id
  pub len : length (bytes w id) ≡ length (bytes m id)

pub put_to : (m w : Memory) (id at : ℕ) (xs : List ℕ) → w ≡ with_bytes m id (with_part (bytes m id) at xs) → Rewritten m w id (with_part (bytes m id) at xs)
put_to m w id at xs e = record {
  memory = e;
  opened = subst (λ k. IsOpen k id) (sym e) (IsOpen-with_bytes m id (with_part (bytes m id) at xs));
  len = ap (λ k. length (bytes k id)) e ∙ ap length (bytes-with_bytes m id (with_part (bytes m id) at xs)) ∙ length-put (bytes m id) at xs;
}

-- another area while one has other bytes
pub record Untouched (m w : Memory) (id : ℕ) : Type 0 where
  pub opened : IsOpen w id
  pub len : length (bytes w id) ≡ length (bytes m id)

pub untouched : (m w : Memory) (id id2 : ℕ) (x : List ℕ) → id ≢ id2 → IsOpen m id → w ≡ with_bytes m id2 x → Untouched m w id
untouched m w id id2 x ne o e = record {
  opened = subst (λ (a : Option (List ℕ)). IsSome a) (sym (ap (λ k. k.area id) e ∙ area-with_bytes m id2 x id ne)) o;
  len = ap (λ k. length (bytes k id)) e ∙ ap length (bytes-with_other m id2 x id ne);
}

-- a buffer filled with bytes from elsewhere, d of them
pub filled_more : (buffer t u b : List ℕ) (at d n : ℕ) → t ≡ with_part buffer 0 (part b at d) → u ≡ with_part t d (part b (at + d) n) → u ≡ with_part buffer 0
    (part b at (d + n))
filled_more buffer t u b at d n e g =
    let len = length-part b at d in let here : d ≡ 0 + length (part b at d) = omega arith in
    g ∙ ap (λ l. with_part l d (part b (at + d) n)) e ∙ ap (λ i. with_part (with_part buffer 0 (part b at d)) i (part b (at + d) n)) here
    ∙ sym (put_more buffer 0 (part b at d) (part b (at + d) n)) ∙ ap (with_part buffer 0) (sym (part_more b at d n))
