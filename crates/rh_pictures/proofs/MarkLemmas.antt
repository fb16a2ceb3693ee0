-- Characters of pages, owner by owner.
use Rattle.rh_pictures.proofs.Common.{◌≡◌, ℕ, zero, suc, ◌+◌, ◌<◌, ◌≤◌, Bool, true, false, eq-eqb, refl, ap, ap₂, sym, ◌∙◌, append_assoc, arith, List, [], ◌∷◌}
use Rattle.rh_pictures.proofs.Common.{◌++◌, length, map, set, get_or, Option, Some, None, ◌==◌, ◌&&◌, ◌||◌, find, replicate, if◌then◌else◌, nat_lt, slice_get}
use Rattle.rh_pictures.proofs.Common.{slice_index, enumerate_from, list_any, position, range_with_len, ne_eqb, map-append, Desk, Made, Task, task_pages, IsDesk}
use Rattle.rh_pictures.proofs.Common.{Panel, owner_of, slot_panel, page_mark, Scene, AreaOf, Holding, Owner, Share, SlotOf, fixed_holding, holdings, made_pages}
use Rattle.rh_pictures.proofs.Common.{marked, marked_all, slot_pages_from, slot_panels}
use Rattle.rh_figure.specs.Rows.{letter_at, letters, owner_mark}
use Rattle.rh_pictures.proofs.DrawingLemmas.{is_slot_of, slot-stands}

-- the character of a page behind these of an owner
abbrev pub one : List ℕ → ℕ → ℕ × ℕ → ℕ
one pages mark at = if at.1 == 46 && list_any (λ n. n == at.0) pages then mark else at.1

abbrev pub marked_from : ℕ → List ℕ → ℕ → List ℕ → List ℕ
marked_from n pages mark ms = map (one pages mark) (enumerate_from n ms)

-- ---- page by page

any-split : (ps qs : List ℕ) (n : ℕ) → list_any (λ k. k == n) (ps ++ qs) ≡ (list_any (λ k. k == n) ps || list_any (λ k. k == n) qs)
any-split [] qs n = refl
any-split (p ∷ ps) qs n = go (p == n) (any-split ps qs n)
  where
    go : (b : Bool) → list_any (λ k. k == n) (ps ++ qs) ≡ (list_any (λ k. k == n) ps || list_any (λ k. k == n) qs)
        → (b || list_any (λ k. k == n) (ps ++ qs)) ≡ ((b || list_any (λ k. k == n) ps) || list_any (λ k. k == n) qs)
    go true rest = refl
    go false rest = rest

if_same : {A : Type 0} (b : Bool) (x : A) → (if b then x else x) ≡ x
if_same true x = refl
if_same false x = refl

if_none : {A : Type 0} (b : Bool) (x y : A) → (if b && false then x else y) ≡ y
if_none true x y = refl
if_none false x y = refl

both-at : (m mark : ℕ) (a b t : Bool) → (m == 46) ≡ t
    → (if (m == 46) && (a || b) then mark else m) ≡ (if ((if (m == 46) && a then mark else m) == 46) && b then mark else (if (m == 46) && a then mark else m))
both-at m mark a b false k = simp k
both-at m mark true b true k = simp k (sym (if_same ((mark == 46) && b) mark))
both-at m mark false b true k = simp k

-- first some pages, and then more
pub marked-both : (n : ℕ) (ps qs : List ℕ) (mark : ℕ) (ms : List ℕ) → marked_from n (ps ++ qs) mark ms ≡ marked_from n qs mark (marked_from n ps mark ms)
marked-both n ps qs mark [] = refl
marked-both n ps qs mark (m ∷ ms) =
    ap₂ (λ x xs. x ∷ xs)
    (ap (λ z. if (m == 46) && z then mark else m) (any-split ps qs n) ∙ both-at m mark (list_any (λ k. k == n) ps) (list_any (λ k. k == n) qs) (m == 46) refl)
    (marked-both (n + 1) ps qs mark ms)

pub marked-none : (n mark : ℕ) (ms : List ℕ) → marked_from n [] mark ms ≡ ms
marked-none n mark [] = refl
marked-none n mark (m ∷ ms) = ap₂ (λ x xs. x ∷ xs) (if_none (m == 46) mark m) (marked-none (n + 1) mark ms)

-- another page than the first stays as it is
one-other : (n p mark m : ℕ) → (p == n) ≡ false → one (p ∷ []) mark (n, m) ≡ m
one-other n p mark m e = ap (λ z. if (m == 46) && (z || false) then mark else m) e ∙ if_none (m == 46) mark m

one-past : (n p mark : ℕ) (ms : List ℕ) → p < n → marked_from n (p ∷ []) mark ms ≡ ms
one-past n p mark [] low = refl
one-past n p mark (m ∷ ms) low = ap₂ (λ x xs. x ∷ xs) (one-other n p mark m (ne_eqb p n (λ q. omega arith))) (one-past (n + 1) p mark ms (omega arith))

pub one-off : (n p mark : ℕ) (ms : List ℕ) → n + length ms ≤ p → marked_from n (p ∷ []) mark ms ≡ ms
one-off n p mark [] high = refl
one-off n p mark (m ∷ ms) high =
    ap₂ (λ x xs. x ∷ xs) (one-other n p mark m (ne_eqb p n (λ q. omega (arith, high)))) (one-off (n + 1) p mark ms (omega (arith, high)))

pub one-at : (n k p mark : ℕ) (ms : List ℕ) → p ≡ n + k → k < length ms → (get_or ms k 0 == 46) ≡ true → marked_from n (p ∷ []) mark ms ≡ set ms k mark
one-at n k p mark [] e low free = absurd (omega arith)
one-at n zero p mark (m ∷ ms) e low free =
    let here : (p == n) ≡ true = eq-eqb p n (omega arith) in
    ap₂ (λ x xs. x ∷ xs) (ap₂ (λ y z. if y && (z || false) then mark else m) free here) (one-past (n + 1) p mark ms (omega arith))
one-at n (suc k) p mark (m ∷ ms) e low free =
    ap₂ (λ x xs. x ∷ xs) (one-other n p mark m (ne_eqb p n (λ q. omega arith))) (one-at (n + 1) k p mark ms (omega arith) (omega (arith, low)) free)

pub one-taken : (n k p mark : ℕ) (ms : List ℕ) → p ≡ n + k → k < length ms → (get_or ms k 0 == 46) ≡ false → marked_from n (p ∷ []) mark ms ≡ ms
one-taken n k p mark [] e low taken = refl
one-taken n zero p mark (m ∷ ms) e low taken =
    ap₂ (λ x xs. x ∷ xs) (ap (λ y. if y && list_any (λ j. j == n) (p ∷ []) then mark else m) taken) (one-past (n + 1) p mark ms (omega arith))
one-taken n (suc k) p mark (m ∷ ms) e low taken =
    ap₂ (λ x xs. x ∷ xs) (one-other n p mark m (ne_eqb p n (λ q. omega arith))) (one-taken (n + 1) k p mark ms (omega arith) (omega (arith, low)) taken)

-- ---- owner by owner

pub all-both : (xs ys : List (List ℕ × ℕ)) (ms : List ℕ) → marked_all (xs ++ ys) ms ≡ marked_all ys (marked_all xs ms)
all-both [] ys ms = refl
all-both (x ∷ xs) ys ms = all-both xs ys (marked x.0 x.1 ms)

-- the character that a page has at last
abbrev mark_at : List (List ℕ × ℕ) → ℕ → ℕ → ℕ
mark_at [] k m = m
mark_at (x ∷ xs) k m = mark_at xs k (one x.0 x.1 (k, m))

map-numbered : (g f : ℕ × ℕ → ℕ) (n : ℕ) (ms : List ℕ)
    → map g (enumerate_from n (map f (enumerate_from n ms))) ≡ map (λ at. g (at.0, f at)) (enumerate_from n ms)
map-numbered g f n [] = refl
map-numbered g f n (m ∷ ms) = ap (λ z. g (n, f (n, m)) ∷ z) (map-numbered g f (n + 1) ms)

map-values : (n : ℕ) (ms : List ℕ) → map (λ (at : ℕ × ℕ). at.1) (enumerate_from n ms) ≡ ms
map-values n [] = refl
map-values n (m ∷ ms) = ap (λ z. m ∷ z) (map-values (n + 1) ms)

all-marked : (xs : List (List ℕ × ℕ)) (ms : List ℕ) → marked_all xs ms ≡ map (λ (at : ℕ × ℕ). mark_at xs at.0 at.1) (enumerate_from 0 ms)
all-marked [] ms = sym (map-values 0 ms)
all-marked (x ∷ xs) ms = all-marked xs (marked x.0 x.1 ms) ∙ map-numbered (λ (at : ℕ × ℕ). mark_at xs at.0 at.1) (one x.0 x.1) 0 ms

-- all pages are free at first
map-free : (g : ℕ × ℕ → ℕ) (n : ℕ) (ms : List ℕ) → map g (enumerate_from n (map (λ _. 46) ms)) ≡ map (λ k. g (k, 46)) (range_with_len n (length ms))
map-free g n [] = refl
map-free g n (m ∷ ms) = ap (λ z. g (n, 46) ∷ z) (map-free g (n + 1) ms)

all-free : (ms : List ℕ) → replicate {A = ℕ} (length ms) 46 ≡ map (λ _. 46) ms
all-free [] = refl
all-free (m ∷ ms) = ap (λ z. 46 ∷ z) (all-free ms)

-- a page that is marked stays so
settled : (xs : List (List ℕ × ℕ)) (k m : ℕ) → (m == 46) ≡ false → mark_at xs k m ≡ m
settled [] k m e = refl
settled (x ∷ xs) k m e =
    let same : one x.0 x.1 (k, m) ≡ m = ap (λ z. if z && list_any (λ n. n == k) x.0 then x.1 else m) e in
    ap (mark_at xs k) same ∙ settled xs k m e

-- ---- marks of owners

no-dots : (xs : List ℕ) (i : ℕ) → list_any (λ b. b == 46) xs ≡ false → (slice_index xs i == 46) ≡ false
no-dots [] i e = refl
no-dots (x ∷ xs) zero e = go (x == 46) refl
  where
    go : (b : Bool) → (x == 46) ≡ b → (x == 46) ≡ false
    go false k = k
    go true k = let q : true ≡ false = rw k at e in absurd (cc)
no-dots (x ∷ xs) (suc i) e = no-dots xs i (go (x == 46) refl)
  where
    go : (b : Bool) → (x == 46) ≡ b → list_any (λ c. c == 46) xs ≡ false
    go false k = rw k at e
    go true k = let q : true ≡ false = rw k at e in absurd (cc)

no-dot-letter : (o : Option ℕ) → (letter_at o == 46) ≡ false
no-dot-letter None = refl
no-dot-letter (Some i) = no-dots letters i refl

no-dot : (slots : List Panel) (o : Owner) → (owner_mark slots o == 46) ≡ false
no-dot slots (AreaOf k) = go (nat_lt k 6)
  where
    go : (b : Bool) → ((if b then 48 + k else 77) == 46) ≡ false
    go true = ne_eqb (48 + k) 46 (λ q. omega arith)
    go false = refl
no-dot slots (SlotOf h) = no-dot-letter (position (is_slot_of h) slots)

-- ---- the pool

abbrev pub of_holding : Share → List Panel → Holding → List ℕ × ℕ
of_holding s slots h = (s.pages_of h.0, owner_mark slots h.0)

abbrev has_page : Share → ℕ → Holding → Bool
has_page s k h = list_any (λ n. n == k) (s.pages_of h.0)

abbrev owner_in : Option Holding → Option Owner
owner_in None = None
owner_in (Some h) = Some h.0

owner-found : (x : Scene) (k : ℕ) (o : Option Holding) → find (has_page x.share k) (holdings x.desk) ≡ o → owner_of x k ≡ owner_in o
owner-found x k None e = rw e refl
owner-found x k (Some h) e = rw e refl

first-mark : (s : Share) (slots : List Panel) (k : ℕ) (hs : List Holding)
    → mark_at (map (of_holding s slots) hs) k 46 ≡ page_mark slots (owner_in (find (has_page s k) hs))
first-mark s slots k [] = refl
first-mark s slots k (h ∷ hs) = go (has_page s k h) refl (first-mark s slots k hs)
  where
    go : (b : Bool) → has_page s k h ≡ b → mark_at (map (of_holding s slots) hs) k 46 ≡ page_mark slots (owner_in (find (has_page s k) hs))
        → mark_at (map (of_holding s slots) (h ∷ hs)) k 46 ≡ page_mark slots (owner_in (find (has_page s k) (h ∷ hs)))
    go true e rest =
        ap (λ z. mark_at (map (of_holding s slots) hs) k (if z then owner_mark slots h.0 else 46)) e
        ∙ (settled (map (of_holding s slots) hs) k (owner_mark slots h.0) (no-dot slots h.0)
        ∙ ap (λ z. page_mark slots (owner_in (if z then Some h else find (has_page s k) hs))) (sym e))
    go false e rest =
        ap (λ z. mark_at (map (of_holding s slots) hs) k (if z then owner_mark slots h.0 else 46)) e
        ∙ (rest ∙ ap (λ z. page_mark slots (owner_in (if z then Some h else find (has_page s k) hs))) (sym e))

map-all : {A : Type 0} (f g : ℕ → A) (ks : List ℕ) → ((k : ℕ) → f k ≡ g k) → map f ks ≡ map g ks
map-all f g [] each = refl
map-all f g (k ∷ ks) each = ap₂ (λ x xs. x ∷ xs) (each k) (map-all f g ks each)

pub map-twice : {A B C : Type 0} (f : B → C) (g : A → B) (xs : List A) → map f (map g xs) ≡ map (λ x. f (g x)) xs
map-twice f g [] = refl
map-twice f g (x ∷ xs) = ap (λ z. f (g x) ∷ z) (map-twice f g xs)

abbrev pub fixed_pages : Share → ℕ × ℕ → List ℕ × ℕ
fixed_pages s a = (s.pages_of (AreaOf a.0), owner_mark [] (AreaOf a.0))

fixed-same : (d : Desk) (s : Share) (slots : List Panel) (areas : List (ℕ × ℕ))
    → map (fixed_pages s) areas ≡ map (λ (a : ℕ × ℕ). of_holding s slots (fixed_holding d a)) areas
fixed-same d s slots [] = refl
fixed-same d s slots (a ∷ areas) = ap (λ z. fixed_pages s a ∷ z) (fixed-same d s slots areas)

made-same : (s : Share) (slots : List Panel) (ms : List Made)
    → map (made_pages s) ms ≡ map (λ (m : Made). let h : Holding = (AreaOf m.number, m.pages) in of_holding s slots h) ms
made-same s slots [] = refl
made-same s slots (m ∷ ms) = ap (λ z. made_pages s m ∷ z) (made-same s slots ms)

-- the letters of slots from a place on
slots-are : {d : Desk} (is : IsDesk d) (x : Scene) (s : Share) (i : ℕ) (ts : List Task)
    → ((k : ℕ) (t : Task) → slice_get ts k ≡ Some t → slice_get d.tasks (i + k) ≡ Some t)
    → slot_pages_from s i ts ≡ map (λ (t : Task). let h : Holding = (SlotOf t.handle, task_pages t) in of_holding s (map (slot_panel x) d.tasks) h) ts
slots-are is x s i [] stand = refl
slots-are {d} is x s i (t ∷ ts) stand =
    let here : slice_get d.tasks i ≡ Some t = ap (slice_get d.tasks) (omega arith) ∙ stand 0 t refl in
    let at = slot-stands is x i t here in
    ap₂ (λ m rest. let p : List ℕ × ℕ = (s.pages_of (SlotOf t.handle), m) in p ∷ rest) (ap letter_at (sym at))
    (slots-are is x s (suc i) ts (λ k u e. ap (slice_get d.tasks) (omega arith) ∙ stand (suc k) u e))

module _ {d : Desk} (is : IsDesk d) (x : Scene) (tasks : x.desk.tasks ≡ d.tasks) (hold : holdings x.desk ≡ holdings d) where
  abbrev owners : List (List ℕ × ℕ)
  owners = map (fixed_pages x.share) (enumerate_from 0 d.areas) ++ (map (made_pages x.share) d.made ++ slot_pages_from x.share 0 d.tasks)

  owners-are : owners ≡ map (of_holding x.share (map (slot_panel x) d.tasks)) (holdings d)
  owners-are =
      let of = of_holding x.share (map (slot_panel x) d.tasks) in
      let a = map (fixed_holding d) (enumerate_from 0 d.areas) in
      let b = map (λ (m : Made). let h : Holding = (AreaOf m.number, m.pages) in h) d.made in
      let c = map (λ (t : Task). let h : Holding = (SlotOf t.handle, task_pages t) in h) d.tasks in
      ap₂ (λ u v. u ++ v) (fixed-same d x.share (map (slot_panel x) d.tasks) (enumerate_from 0 d.areas)
      ∙ sym (map-twice of (fixed_holding d) (enumerate_from 0 d.areas)))
      (ap₂ (λ u v. u ++ v) (made-same x.share (map (slot_panel x) d.tasks) d.made
      ∙ sym (map-twice of (λ (m : Made). let h : Holding = (AreaOf m.number, m.pages) in h) d.made))
      (slots-are is x x.share 0 d.tasks (λ k t e. ap (slice_get d.tasks) (omega arith) ∙ e)
      ∙ sym (map-twice of (λ (t : Task). let h : Holding = (SlotOf t.handle, task_pages t) in h) d.tasks)))
      ∙ (sym (append_assoc (map of a) (map of b) (map of c)) ∙ (ap (λ z. z ++ map of c) (sym (map-append of a b)) ∙ sym (map-append of (a ++ b) c)))

  pub pool-marked : (ms : List ℕ)
      → marked_all (slot_pages_from x.share 0 d.tasks) (marked_all (map (made_pages x.share) d.made)
      (marked_all (map (fixed_pages x.share) (enumerate_from 0 d.areas)) (replicate (length ms) 46)))
      ≡ map (λ k. page_mark (slot_panels x) (owner_of x k)) (range_with_len 0 (length ms))
  pool-marked ms =
      let free = map (λ _. 46) ms in
      let start : replicate (length ms) 46 ≡ free = all-free ms in
      let one_by_one =
      all-both (map (fixed_pages x.share) (enumerate_from 0 d.areas)) (map (made_pages x.share) d.made ++ slot_pages_from x.share 0 d.tasks) free in
      let next = all-both (map (made_pages x.share) d.made) (slot_pages_from x.share 0 d.tasks)
      (marked_all (map (fixed_pages x.share) (enumerate_from 0 d.areas)) free) in
      ap (λ z. marked_all (slot_pages_from x.share 0 d.tasks) (marked_all (map (made_pages x.share) d.made)
      (marked_all (map (fixed_pages x.share) (enumerate_from 0 d.areas)) z))) start
      ∙ (sym (one_by_one ∙ next)
      ∙ (all-marked owners free
      ∙ (map-free (λ (at : ℕ × ℕ). mark_at owners at.0 at.1) 0 ms
      ∙ map-all (λ k. mark_at owners k 46) (λ k. page_mark (slot_panels x) (owner_of x k)) (range_with_len 0 (length ms)) (λ k.
      ap (λ z. mark_at z k 46) owners-are
      ∙ (first-mark x.share (map (slot_panel x) d.tasks) k (holdings d)
      ∙ (ap (λ z. page_mark (map (slot_panel x) d.tasks) (owner_in (find (has_page x.share k) z))) (sym hold)
      ∙ (ap (λ z. page_mark (map (slot_panel x) z) (owner_in (find (has_page x.share k) (holdings x.desk)))) (sym tasks)
      ∙ ap (page_mark (slot_panels x)) (sym (owner-found x k (find (has_page x.share k) (holdings x.desk)) refl)))))))))
