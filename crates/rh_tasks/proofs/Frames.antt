-- What stays of a desk where one area of the store has changed.
use Rattle.std.proofs.Common.{◌≡◌, ℕ, zero, suc, ◌/◌, ◌≤◌, ◌≢◌, refl, ap, subst, arith, List, [], ◌∷◌, length, ◌∙◌, sym, inl, inr}
use Rattle.std.specs.Prelude.{Option, Some, None, IsSome, is_some, unwrap_or, map, take, ◌==◌, if◌then◌else◌}
use Rattle.std.proofs.lemmas.Bool.{cases_eq}
use Rattle.std.proofs.lemmas.Bool.Decides.{nat_tests}
use Rattle.std.proofs.Math.ListN.{set}
use Rattle.std.specs.List.{AllByRecursion}
use Rattle.rh_defs.specs.declared.sizes.TheConstants.{PAGE}
use Rattle.rh_defs.specs.Memory.{Memory, IsOpen, bytes, open_below}
use Rattle.rh_defs.proofs.MemoryLaws.{open_below-same}
use Rattle.rh_defs.specs.Slot as plain
use Rattle.rh_defs.specs.Desk.{Task, Made, Scrap, edit_task}
use Rattle.rh_defs.specs.Commands.{with_pages}
use Rattle.rh_module.specs.ModuleArea.{IsModule, module_heap_in}
use Rattle.rh_slot.specs.declared.slot.Slot.{Slot}
use Rattle.rh_slot.specs.SlotArea.{IsSlotIn, slot_in}
use Rattle.rh_wimp.specs.QueueCalls.{IsQueue}
use Rattle.rh_wimp.specs.Chains.{Chains}
use Rattle.rh_wimp.specs.PostIn.{post_in}
use Rattle.rh_wimp.proofs.PostCalls.{post_in-stays, spells-stays}
use Rattle.rh_tasks.specs.declared.seat.Seat.{Seat}
use Rattle.rh_tasks.specs.declared.made.MadeArea.{MadeArea}
use Rattle.rh_tasks.specs.declared.scrap.ScrapFile.{ScrapFile}
use Rattle.rh_tasks.specs.View.{the_module, fixed, pages_at, task_of, made_of, fixed_pages, scrap_size, scrap_of, slot_area, made_area, Avoids}
use Rattle.rh_tasks.specs.Inner.MadeNumbers.{made_number}
use Rattle.rh_tasks.specs.View.{AreDistinct, HasSlot, IsAbove}
use Rattle.rh_tasks.proofs.Lists.{Sits, cons, avoids-at}

pub if_apart : {A : Type 0} (a b : ℕ) (x y : A) → a ≢ b → (if a == b then x else y) ≡ y
if_apart a b x y h = grind (arith, nat_tests)

pub if_same : {A : Type 0} (a b : ℕ) (x y : A) → a ≡ b → (if a == b then x else y) ≡ x
if_same a b x y h = grind (arith, nat_tests)

-- every other area stays
pub record Stay (m n : Memory) (id : ℕ) : Type 0 where
  pub others : (j : ℕ) → j ≢ id → n.area j ≡ m.area j

-- the places behind the first one
step : {A : Type 0} {y : A} {xs : List A} {i : ℕ} {x : A} → Sits (y ∷ xs) (suc i) x → Sits xs i x
step at = record { inside = omega (arith, at.inside); is = at.is }

-- ---- an area that stays

pub bytes-stay : {m n : Memory} {id : ℕ} (j : ℕ) → Stay m n id → j ≢ id → bytes n j ≡ bytes m j
unfolding bytes
bytes-stay j stay h = ap (λ (o : Option (List ℕ)). unwrap_or o []) (stay.others j h)

pub opened-stays : {m n : Memory} {id : ℕ} (j : ℕ) → Stay m n id → j ≢ id → IsOpen m j → IsOpen n j
opened-stays j stay h o = let P : Option (List ℕ) → Type 0 = λ x. IsSome x in subst P (sym (stay.others j h)) o

pub pages-stay : {m n : Memory} {id : ℕ} (j : ℕ) → Stay m n id → j ≢ id → pages_at n j ≡ pages_at m j
unfolding pages_at
pages-stay j stay h = ap (λ (b : List ℕ). length b / PAGE) (bytes-stay j stay h)

pub slot-stays : {m n : Memory} {id : ℕ} (slot : Slot) → Stay m n id → slot.area.0 ≢ id → slot_in n slot ≡ slot_in m slot
slot-stays slot stay h = rw (bytes-stay slot.area.0 stay h) refl

pub has-slot-stays : {m n : Memory} {id : ℕ} (slot : Slot) → Stay m n id → slot.area.0 ≢ id → IsSlotIn m slot → IsSlotIn n slot
has-slot-stays slot stay h has = record {
  opened = opened-stays slot.area.0 stay h has.opened;
  spells = rw (bytes-stay slot.area.0 stay h) has.spells;
}

pub heap-stays : {m n : Memory} {id : ℕ} → Stay m n id → 1 ≢ id → module_heap_in n the_module ≡ module_heap_in m the_module
heap-stays stay h = rw (bytes-stay 1 stay h) refl

pub module-stays : {m n : Memory} {id : ℕ} → Stay m n id → 1 ≢ id → IsModule m the_module → IsModule n the_module
module-stays stay h is = record { opened = opened-stays 1 stay h is.opened; spells = rw (bytes-stay 1 stay h) is.spells }

-- ---- all seats

task-stays : {m n : Memory} {id : ℕ} (s : Seat) → Stay m n id → s.slot.area.0 ≢ id → task_of n s ≡ task_of m s
unfolding task_of
task-stays {m} {n} s stay h = ap (λ (x : plain.Slot). let t : Task = record (task_of m s) { slot = x } in t) (slot-stays s.slot stay h)

pub tasks-stay : {m n : Memory} {id : ℕ} (seats : List Seat) → Stay m n id → Avoids id (map slot_area seats) → map (task_of n) seats ≡ map (task_of m) seats
tasks-stay [] stay all = refl
tasks-stay (s ∷ seats) stay all = cons (task-stays s stay all.0) (tasks-stay seats stay all.1)

pub slots-stay : {m n : Memory} {id : ℕ} (seats : List Seat) → Stay m n id → Avoids id (map slot_area seats) → AllByRecursion (HasSlot m) seats
    → AllByRecursion (HasSlot n) seats
slots-stay [] stay off all = tt
slots-stay (s ∷ seats) stay off all = (has-slot-stays s.slot stay off.0 all.0, slots-stay seats stay off.1 all.1)

-- one seat and its area change: the desk's task changes, and no other
pub tasks-edited : {m n : Memory} (seats : List Seat) (i : ℕ) (s s' : Seat) (edit : Task → Task)
    → Sits seats i s → AreDistinct (map (λ (x : Seat). x.handle) seats) → AreDistinct (map slot_area seats)
    → Stay m n s.slot.area.0 → task_of n s' ≡ edit (task_of m s)
    → map (task_of n) (set seats i s') ≡ edit_task s.handle edit (map (task_of m) seats)
unfolding task_of
tasks-edited [] i s s' edit at handles areas stay same = absurd (omega (arith, at.inside))
tasks-edited {m} {n} (x ∷ seats) zero s s' edit at handles areas stay same =
    let off : Avoids s.slot.area.0 (map slot_area seats) = (let P : ℕ → Type 0 = λ a. Avoids a (map slot_area seats) in subst P (ap slot_area at.is) areas.0) in
    cons (same ∙ ap (λ y. edit (task_of m y)) (sym at.is)) (tasks-stay seats stay off)
    ∙ sym (if_same x.handle s.handle _ _ (ap (λ (y : Seat). y.handle) at.is))
tasks-edited {m} {n} (x ∷ seats) (suc i) s s' edit at handles areas stay same =
    cons (task-stays x stay (λ q. avoids-at slot_area x.slot.area.0 seats i s areas.0 (step at) (sym q)))
    (tasks-edited seats i s s' edit (step at) handles.1 areas.1 stay same)
    ∙ sym (if_apart x.handle s.handle _ _ (λ q. avoids-at (λ (y : Seat). y.handle) x.handle seats i s handles.0 (step at) (sym q)))

pub slots-edited : {m n : Memory} (seats : List Seat) (i : ℕ) (s s' : Seat)
    → Sits seats i s → AreDistinct (map slot_area seats) → AllByRecursion (HasSlot m) seats
    → Stay m n s.slot.area.0 → HasSlot n s' → AllByRecursion (HasSlot n) (set seats i s')
slots-edited [] i s s' at areas all stay has = absurd (omega (arith, at.inside))
slots-edited (x ∷ seats) zero s s' at areas all stay has =
    let off : Avoids s.slot.area.0 (map slot_area seats) = (let P : ℕ → Type 0 = λ a. Avoids a (map slot_area seats) in subst P (ap slot_area at.is) areas.0) in
    (has, slots-stay seats stay off all.1)
slots-edited (x ∷ seats) (suc i) s s' at areas all stay has = (
  has-slot-stays x.slot stay (λ q. avoids-at slot_area x.slot.area.0 seats i s areas.0 (step at) (sym q)) all.0,
  slots-edited seats i s s' (step at) areas.1 all.1 stay has,
)

-- ---- all made areas

made-stays : {m n : Memory} {id : ℕ} (a : MadeArea) → Stay m n id → a.area.0 ≢ id → made_of n a ≡ made_of m a
unfolding made_of
made-stays {m} {n} a stay h = ap (λ (k : ℕ). let x : Made = record (made_of m a) { pages = k } in x) (pages-stay a.area.0 stay h)

pub mades-stay : {m n : Memory} {id : ℕ} (made : List MadeArea) → Stay m n id → Avoids id (map made_area made) → map (made_of n) made ≡ map (made_of m) made
mades-stay [] stay all = refl
mades-stay (a ∷ made) stay all = cons (made-stays a stay all.0) (mades-stay made stay all.1)

pub mades-opened : {m n : Memory} {id : ℕ} (made : List MadeArea) → Stay m n id → Avoids id (map made_area made)
    → AllByRecursion (λ (a : MadeArea). IsOpen m a.area.0) made → AllByRecursion (λ (a : MadeArea). IsOpen n a.area.0) made
mades-opened [] stay off all = tt
mades-opened (a ∷ made) stay off all = (opened-stays a.area.0 stay off.0 all.0, mades-opened made stay off.1 all.1)

-- one of the areas has another number of pages
none-numbered : (k p : ℕ) (m : Memory) (made : List MadeArea) → Avoids k (map made_number made)
    → map (with_pages k p) (map (made_of m) made) ≡ map (made_of m) made
unfolding made_of
none-numbered k p m [] off = refl
none-numbered k p m (a ∷ made) off = cons (if_apart a.number k _ _ off.0) (none-numbered k p m made off.1)

pub mades-edited : {m n : Memory} (made : List MadeArea) (i : ℕ) (a : MadeArea)
    → Sits made i a → AreDistinct (map made_number made) → AreDistinct (map made_area made) → Stay m n a.area.0
    → map (made_of n) made ≡ map (with_pages a.number (pages_at n a.area.0)) (map (made_of m) made)
unfolding made_of
mades-edited [] i a at numbers areas stay = absurd (omega (arith, at.inside))
mades-edited {m} {n} (x ∷ made) zero a at numbers areas stay =
    let P : MadeArea → Type 0 = λ y. map (made_of n) (x ∷ made) ≡ map (with_pages y.number (pages_at n y.area.0)) (map (made_of m) (x ∷ made)) in
    let off : Avoids x.area.0 (map made_area made) = areas.0 in
    let stay' : Stay m n x.area.0 = (let Q : MadeArea → Type 0 = λ y. Stay m n y.area.0 in subst Q (sym at.is) stay) in
    subst P at.is (cons (sym (if_same x.number x.number _ _ refl)) (mades-stay made stay' off
    ∙ sym (none-numbered x.number (pages_at n x.area.0) m made numbers.0)))
mades-edited {m} {n} (x ∷ made) (suc i) a at numbers areas stay =
    cons (made-stays x stay (λ q. avoids-at made_area x.area.0 made i a areas.0 (step at) (sym q))
    ∙ sym (if_apart x.number a.number _ _ (λ q. avoids-at made_number x.number made i a numbers.0 (step at) (sym q))))
    (mades-edited made i a (step at) numbers.1 areas.1 stay)

pub mades-opened-at : {m n : Memory} (made : List MadeArea) (i : ℕ) (a : MadeArea)
    → Sits made i a → AreDistinct (map made_area made) → Stay m n a.area.0 → IsOpen n a.area.0
    → AllByRecursion (λ (x : MadeArea). IsOpen m x.area.0) made → AllByRecursion (λ (x : MadeArea). IsOpen n x.area.0) made
mades-opened-at [] i a at areas stay o all = tt
mades-opened-at {m} {n} (x ∷ made) zero a at areas stay o all =
    let P : MadeArea → Type 0 = λ y. IsOpen n y.area.0 in
    let off : Avoids a.area.0 (map made_area made) = (let Q : ℕ → Type 0 = λ k. Avoids k (map made_area made) in subst Q (ap made_area at.is) areas.0) in
    (subst P (sym at.is) o, mades-opened made stay off all.1)
mades-opened-at (x ∷ made) (suc i) a at areas stay o all = (
  opened-stays x.area.0 stay (λ q. avoids-at made_area x.area.0 made i a areas.0 (step at) (sym q)) all.0,
  mades-opened-at made i a (step at) areas.1 stay o all.1,
)

-- ---- areas 0 to 5, and the post

pub fixed-stay : {m n : Memory} {id : ℕ} → Stay m n id → IsAbove id → fixed_pages n ≡ fixed_pages m
unfolding fixed_pages
fixed-stay {m} {n} {id} stay above =
    cons (pages-stay 0 stay (λ q. absurd (omega arith))) (cons refl (cons (pages-stay 2 stay (λ q. absurd (omega arith)))
    (cons (pages-stay 3 stay (λ q. absurd (omega arith))) (cons (pages-stay 4 stay (λ q. absurd (omega arith)))
    (cons (pages-stay 5 stay (λ q. absurd (omega arith))) refl)))))

all-opened : {m n : Memory} {id : ℕ} (ids : List ℕ) → Stay m n id → IsOpen n id → AllByRecursion (IsOpen m) ids → AllByRecursion (IsOpen n) ids
all-opened [] stay o all = tt
all-opened {m} {n} {id} (j ∷ ids) stay o all = (
  elim (cases_eq j id) [ inl e ↦ (let P : ℕ → Type 0 = λ k. IsOpen n k in subst P (sym e) o) | inr ne ↦ opened-stays j stay ne all.0 ],
  all-opened ids stay o all.1,
)

pub fixed-opened : {m n : Memory} {id : ℕ} → Stay m n id → IsOpen n id → AllByRecursion (IsOpen m) fixed → AllByRecursion (IsOpen n) fixed
fixed-opened stay o all = all-opened fixed stay o all

pub post-stays : {m n : Memory} {id : ℕ} (q : Chains) → Stay m n id → 1 ≢ id → post_in n the_module q ≡ post_in m the_module q
post-stays {m} {n} q stay h = post_in-stays m n the_module q (stay.others 1 h)

pub queue-stays : {m n : Memory} {id : ℕ} {q : Chains} → Stay m n id → 1 ≢ id → IsQueue m the_module q → IsQueue n the_module q
queue-stays {m} {n} {id} {q} stay h is =
    record { area = module-stays stay h is.area; post = is.post; spells = spells-stays m n the_module q is.post (stay.others 1 h) is.spells }

-- ---- the scrap file

-- its bytes stay, so it does
pub scrap-same : (m n : Memory) (scrap : Option ScrapFile) → take (scrap_size scrap) (bytes n 5) ≡ take (scrap_size scrap) (bytes m 5)
    → scrap_of n scrap ≡ scrap_of m scrap
unfolding scrap_of
scrap-same m n None e = refl
scrap-same m n (Some file) e = ap (λ (b : List ℕ). let x : Option Scrap = Some (record { load = file.load; bytes = b }) in x) e

pub scrap-stays : {m n : Memory} {id : ℕ} (scrap : Option ScrapFile) → Stay m n id → 5 ≢ id → scrap_of n scrap ≡ scrap_of m scrap
scrap-stays {m} {n} scrap stay h = scrap-same m n scrap (ap (take (scrap_size scrap)) (bytes-stay 5 stay h))

pub scrap-fits : {m n : Memory} {id : ℕ} (scrap : Option ScrapFile) → Stay m n id → 5 ≢ id → scrap_size scrap ≤ length (bytes m 5)
    → scrap_size scrap ≤ length (bytes n 5)
scrap-fits scrap stay h fits = let P : List ℕ → Type 0 = λ b. scrap_size scrap ≤ length b in subst P (sym (bytes-stay 5 stay h)) fits

-- ---- how many areas are open

both-open : (o p : Option (List ℕ)) → IsSome o → IsSome p → is_some p ≡ is_some o
both-open (Some x) (Some y) h k = refl
both-open None p h k = absurd (cc)
both-open (Some x) None h k = absurd (cc)

pub count-stays : {m n : Memory} {id : ℕ} (k : ℕ) → Stay m n id → IsOpen m id → IsOpen n id → open_below n.area k ≡ open_below m.area k
count-stays {m} {n} {id} k stay o p = open_below-same m n k
    (λ j. elim (cases_eq j id) [ inl e ↦ rw e (both-open (m.area id) (n.area id) o p) | inr ne ↦ ap (λ (x : Option (List ℕ)). is_some x) (stay.others j ne) ])
