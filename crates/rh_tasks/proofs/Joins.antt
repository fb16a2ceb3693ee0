-- A world with one seat or made area more, or one less.
use Rattle.rh_tasks.proofs.Common.{◌≡◌, ℕ, zero, suc, ◌+◌, ◌/◌, ◌<◌, ◌≢◌, true, false, refl, ap, subst, arith, List, [], ◌∷◌, ◌++◌, length, ◌∙◌, sym, inl}
use Rattle.rh_tasks.proofs.Common.{inr, map, filter, not, ◌==◌, Option, Some, None, IsNone, IsSome, is_some, AllByRecursion, remove, length-append}
use Rattle.rh_tasks.proofs.Common.{map-append, cases_eq, nat_tests, Memory, IsOpen, OnlyArea, bytes, opened, closed, open_below, open_below-opened}
use Rattle.rh_tasks.proofs.Common.{area-opened, total, FileList, Desk, Task, task_pages, used_pages, IsDesk, IsSlotIn, MAX_AREAS, PAGE, IsQueue, joined_chains}
use Rattle.rh_tasks.proofs.Common.{post_in, Seat, MadeArea, Kept, the_module, task_of, desk_of, slot_area, made_area, Avoids, AreDistinct, HasSlot, IsAbove}
use Rattle.rh_tasks.proofs.Common.{HasAreas, IsWorld, Sits, all-at, all-map, avoids-at, Stay, tasks-stay, slots-stay, mades-stay, mades-opened, fixed-stay}
use Rattle.rh_tasks.proofs.Common.{fixed-opened, post-stays, queue-stays, scrap-stays, scrap-fits, module-stays, same-desk}
use Rattle.std.proofs.lemmas.List.Edits.{length-remove}
use Rattle.rh_defs.proofs.MemoryLaws.{open_below-same, open_below-closed, open_apart, area-closed, bytes-none, IsOpen-opened}
use Rattle.rh_defs.proofs.Cuts.{total-append}
use Rattle.rh_defs.specs.Post.{post_join}
use Rattle.rh_tasks.proofs.Lists.{all-push, all-removed, avoids-removed, distinct-push, distinct-removed}
use Rattle.rh_tasks.proofs.Frames.{opened-stays}
use Rattle.rh_tasks.proofs.Fixed.{fixed-open}
use Rattle.rh_tasks.proofs.Moves.{slot-pages}
use Rattle.rh_tasks.proofs.Posts.{post-joins}

-- ---- areas that were closed, and are none of the open ones

pub none-is : (o : Option (List ℕ)) → IsNone o → o ≡ None
none-is None h = refl
none-is (Some x) h = absurd (cc)

pub off-open : {A : Type 0} (f : A → ℕ) (m : Memory) (id : ℕ) (xs : List A) → IsNone (m.area id) → AllByRecursion (λ x. IsOpen m (f x)) xs
    → Avoids id (map f xs)
off-open f m id [] none all = tt
off-open f m id (x ∷ xs) none all = ((λ q. open_apart m (f x) id all.0 none (sym q)), off-open f m id xs none all.1)

-- areas 0 to 5 are open, so a closed one is above
pub closed-above : {m : Memory} {seats : List Seat} {made : List MadeArea} (id : ℕ) → HasAreas m seats made → IsNone (m.area id) → IsAbove id
closed-above {m} id w none =
    let p0 = other 0 (omega arith) in
    let p1 = other 1 (omega arith) in
    let p2 = other 2 (omega arith) in
    let p3 = other 3 (omega arith) in
    let p4 = other 4 (omega arith) in
    let p5 = other 5 (omega arith) in
    omega arith
  where
    other : (k : ℕ) → k < 6 → id ≢ k
    other k low = open_apart m k id (fixed-open k w low) none

still-open : (o p : Option (List ℕ)) → IsSome o → IsSome p → is_some p ≡ is_some o
still-open (Some x) (Some y) h k = refl
still-open None p h k = absurd (cc)
still-open (Some x) None h k = absurd (cc)

-- one more area is open
pub count-more : {m n : Memory} {id : ℕ} (k : ℕ) → Stay m n id → IsNone (m.area id) → IsOpen n id → id < k → open_below n.area k ≡ open_below m.area k + 1
count-more {m} {n} {id} k stay none is low =
    open_below-same (opened m id) n k (λ j. elim (cases_eq j id) [
      | inl e ↦ rw e (still-open ((opened m id).area id) (n.area id) (IsOpen-opened m id) is)
      | inr ne ↦ ap (λ (x : Option (List ℕ)). is_some x) (stay.others j ne ∙ sym (area-opened m id j ne))
    ]) ∙ open_below-opened m id k (none-is _ none) low

-- ---- a member taken out of a list by its number

filter-all : {A B : Type 0} (key : A → ℕ) (f : A → B) (number : B → ℕ) → ((x : A) → number (f x) ≡ key x) → (k : ℕ) (xs : List A) → Avoids k (map key xs)
    → filter (λ y. not (number y == k)) (map f xs) ≡ map f xs
filter-all key f number is k [] off = refl
filter-all key f number is k (x ∷ xs) off =
    let other : (number (f x) == k) ≡ false = differs (number (f x)) k (λ q. off.0 (sym (is x) ∙ q)) in
    rw other (ap (λ l. f x ∷ l) (filter-all key f number is k xs off.1))
  where
    differs : (a b : ℕ) → a ≢ b → (a == b) ≡ false
    differs a b h = grind (arith, nat_tests)

pub filter-others : {A B : Type 0} (key : A → ℕ) (f : A → B) (number : B → ℕ) → ((x : A) → number (f x) ≡ key x) → (xs : List A) (i : ℕ) (x : A)
    → Sits xs i x → AreDistinct (map key xs) → filter (λ y. not (number y == key x)) (map f xs) ≡ map f (remove xs i)
filter-others key f number is [] i x at distinct = absurd (omega (arith, at.inside))
filter-others key f number is (y ∷ xs) zero x at distinct =
    let same : (number (f y) == key x) ≡ true = equals (number (f y)) (key x) (is y ∙ ap key at.is) in
    let off : Avoids (key x) (map key xs) = (let P : ℕ → Type 0 = λ k. Avoids k (map key xs) in subst P (ap key at.is) distinct.0) in
    rw same (filter-all key f number is (key x) xs off)
  where
    equals : (a b : ℕ) → a ≡ b → (a == b) ≡ true
    equals a b h = grind (arith, nat_tests)
filter-others key f number is (y ∷ xs) (suc i) x at distinct =
    let rest : Sits xs i x = record { inside = omega (arith, at.inside); is = at.is } in
    let other : (number (f y) == key x) ≡ false = differs (number (f y)) (key x) (λ q. avoids-at key (key y) xs i x distinct.0 rest (sym (sym (is y) ∙ q))) in
    rw other (ap (λ l. f y ∷ l) (filter-others key f number is xs i x rest distinct.1))
  where
    differs : (a b : ℕ) → a ≢ b → (a == b) ≡ false
    differs a b h = grind (arith, nat_tests)

-- a sum without a member
pub total-removed : {A : Type 0} (size : A → ℕ) (xs : List A) (i : ℕ) (x : A) → Sits xs i x → total size (remove xs i) + size x ≡ total size xs
total-removed size [] i x at = absurd (omega (arith, at.inside))
total-removed size (y ∷ xs) zero x at = omega (arith, ap size at.is)
total-removed size (y ∷ xs) (suc i) x at = omega (arith, total-removed size xs i x (record { inside = omega (arith, at.inside); is = at.is }))

pub total-map : {A B : Type 0} (size : B → ℕ) (f : A → B) (xs : List A) → total size (map f xs) ≡ total (λ x. size (f x)) xs
total-map size f [] = refl
total-map size f (x ∷ xs) = ap (λ k. size (f x) + k) (total-map size f xs)

-- ---- a seat comes

module _ {m n : Memory} {seats : List Seat} {made : List MadeArea} {files : FileList} {kept : Kept} (s : Seat)
    (w : IsWorld m seats made files kept) (none : IsNone (m.area s.slot.area.0)) (low : s.slot.area.0 < MAX_AREAS) (only : OnlyArea m n s.slot.area.0)
    (still : IsSlotIn n s.slot) where
  stay : Stay m n s.slot.area.0
  stay = record { others = only.others }

  above : IsAbove s.slot.area.0
  above = closed-above s.slot.area.0 w.areas none

  off-slots : Avoids s.slot.area.0 (map slot_area seats)
  off-slots = off-open slot_area m s.slot.area.0 seats none (all-map (HasSlot m) (λ (x : Seat). IsOpen m x.slot.area.0) seats (λ x h. h.opened) w.areas.slots)

  off-made : Avoids s.slot.area.0 (map made_area made)
  off-made = off-open made_area m s.slot.area.0 made none w.areas.made_open

  not-module : 1 ≢ s.slot.area.0
  not-module q = absurd (omega (arith, above))

  not-scrap : 5 ≢ s.slot.area.0
  not-scrap q = absurd (omega (arith, above))

  -- the next handle is given, and the queue has it
  abbrev pub joined_kept : ℕ → Kept
  joined_kept handle = record kept { next = record kept.next { handle = handle }; queue = joined_chains s.handle kept.queue }

  posts : post_in n the_module (joined_chains s.handle kept.queue) ≡ post_join s.handle (post_in m the_module kept.queue)
  posts = post-joins n kept.queue s.handle ∙ ap (post_join s.handle) (post-stays kept.queue stay not-module)

  pub joined-desk : (handle : ℕ) → desk_of n (seats ++ s ∷ []) made files (joined_kept handle)
      ≡ (let d : Desk =
      record (desk_of m seats made files kept)
      { tasks = map (task_of m) seats ++ task_of n s ∷ []; post = post_join s.handle (post_in m the_module kept.queue); next_handle = handle } in d)
  joined-desk handle = same-desk (let d : Desk = record (desk_of m seats made files kept) { next_handle = handle } in d)
      (map-append (task_of n) seats (s ∷ []) ∙ ap (λ l. l ++ task_of n s ∷ []) (tasks-stay seats stay off-slots)) posts (fixed-stay stay above)
      (mades-stay made stay off-made) only.pages (scrap-stays kept.scrap stay not-scrap)

  joined-areas : HasAreas n (seats ++ s ∷ []) made
  joined-areas = record {
    fixed_open = fixed-opened stay only.opened w.areas.fixed_open;
    module_area = module-stays stay not-module w.areas.module_area;
    slots = all-push (HasSlot n) seats s (slots-stay seats stay off-slots w.areas.slots) still;
    made_open = mades-opened made stay off-made w.areas.made_open;
    slots_above = all-push (λ (x : Seat). IsAbove x.slot.area.0) seats s w.areas.slots_above above;
    made_above = w.areas.made_above;
    slots_apart = distinct-push slot_area seats s w.areas.slots_apart off-slots;
    made_apart = w.areas.made_apart;
    beside = all-push (λ (x : Seat). Avoids x.slot.area.0 (map made_area made)) seats s w.areas.beside off-made;
    count = omega (arith, count-more MAX_AREAS stay none only.opened low, w.areas.count, length-append seats (s ∷ []));
  }

  joined-ledger : (handle : ℕ) → n.free + used_pages (desk_of n (seats ++ s ∷ []) made files (joined_kept handle)) ≡ n.pages
  unfolding task_of post_join
  joined-ledger handle =
      omega (
        arith,
        w.ledger,
        only.ledger,
        only.pages,
        ap used_pages (joined-desk handle),
        slot-pages still,
        ap length (bytes-none m s.slot.area.0 (none-is _ none)),
        total-append task_pages (map (task_of m) seats) (task_of n s ∷ []),
      )

  pub joined-world : (handle : ℕ) → (IsQueue n the_module kept.queue → IsQueue n the_module (joined_chains s.handle kept.queue))
      → IsDesk (desk_of n (seats ++ s ∷ []) made files (joined_kept handle)) → IsWorld n (seats ++ s ∷ []) made files (joined_kept handle)
  joined-world handle joins is = record {
    desk = is;
    areas = joined-areas;
    queue = joins (queue-stays stay not-module w.queue);
    scrap = scrap-fits kept.scrap stay not-scrap w.scrap;
    ledger = joined-ledger handle;
  }

-- ---- a seat goes

pub closed-stay : (m : Memory) (id : ℕ) → Stay m (closed m id) id
closed-stay m id = record { others = λ j ne. area-closed m id j ne }

all-opened-else : (m : Memory) (id : ℕ) (ids : List ℕ) → Avoids id ids → AllByRecursion (IsOpen m) ids → AllByRecursion (IsOpen (closed m id)) ids
all-opened-else m id [] off all = tt
all-opened-else m id (j ∷ ids) off all = (opened-stays j (closed-stay m id) off.0 all.0, all-opened-else m id ids off.1 all.1)

pub fixed-opened-else : (m : Memory) (id : ℕ) → IsAbove id → AllByRecursion (IsOpen m) (0 ∷ 1 ∷ 2 ∷ 3 ∷ 4 ∷ 5 ∷ [])
    → AllByRecursion (IsOpen (closed m id)) (0 ∷ 1 ∷ 2 ∷ 3 ∷ 4 ∷ 5 ∷ [])
fixed-opened-else m id up all =
    all-opened-else m id (0 ∷ 1 ∷ 2 ∷ 3 ∷ 4 ∷ 5 ∷ []) (
      (λ q. absurd (omega arith)),
      (
        (λ q. absurd (omega arith)),
        ((λ q. absurd (omega arith)), ((λ q. absurd (omega arith)), ((λ q. absurd (omega arith)), ((λ q. absurd (omega arith)), tt)))),
      ),
    ) all

module _ {m : Memory} {seats : List Seat} {made : List MadeArea} {i : ℕ} {s : Seat}
    (areas : HasAreas m seats made) (at : Sits seats i s) (low : s.slot.area.0 < MAX_AREAS) where
  abbrev n : Memory
  n = closed m s.slot.area.0

  pub around : Stay m n s.slot.area.0
  around = closed-stay m s.slot.area.0

  pub high : IsAbove s.slot.area.0
  high = all-at (λ (x : Seat). IsAbove x.slot.area.0) seats i s areas.slots_above at

  off-others : Avoids s.slot.area.0 (map slot_area (remove seats i))
  off-others = avoids-removed slot_area seats i s at areas.slots_apart

  pub off-mades : Avoids s.slot.area.0 (map made_area made)
  off-mades = all-at (λ (x : Seat). Avoids x.slot.area.0 (map made_area made)) seats i s areas.beside at

  abbrev handle_of : Seat → ℕ
  handle_of x = x.handle

  pub left-tasks : AreDistinct (map handle_of seats)
      → map (task_of n) (remove seats i) ≡ filter (λ (t : Task). not (t.handle == s.handle)) (map (task_of m) seats)
  unfolding task_of
  left-tasks distinct = tasks-stay (remove seats i) around off-others
      ∙ sym (filter-others handle_of (task_of m) (λ (t : Task). t.handle) (λ x. refl) seats i s at distinct)

  pub left-areas : HasAreas n (remove seats i) made
  left-areas = record {
    fixed_open = fixed-opened-else m s.slot.area.0 high areas.fixed_open;
    module_area = module-stays around (λ q. absurd (omega (arith, high))) areas.module_area;
    slots = slots-stay (remove seats i) around off-others (all-removed (HasSlot m) seats i areas.slots);
    made_open = mades-opened made around off-mades areas.made_open;
    slots_above = all-removed (λ (x : Seat). IsAbove x.slot.area.0) seats i areas.slots_above;
    made_above = areas.made_above;
    slots_apart = distinct-removed slot_area seats i areas.slots_apart;
    made_apart = areas.made_apart;
    beside = all-removed (λ (x : Seat). Avoids x.slot.area.0 (map made_area made)) seats i areas.beside;
    count = omega (
      arith,
      open_below-closed m s.slot.area.0 MAX_AREAS (all-at (HasSlot m) seats i s areas.slots at).opened low,
      areas.count,
      length-remove seats i at.inside,
    );
  }

  -- the pages of the other tasks, and those of the task that goes
  pub left-pages : total task_pages (map (task_of n) (remove seats i)) + length (bytes m s.slot.area.0) / PAGE ≡ total task_pages (map (task_of m) seats)
  unfolding task_of
  left-pages =
      let gone : total task_pages (map (task_of m) (remove seats i)) + task_pages (task_of m s) ≡ total task_pages (map (task_of m) seats) =
      (let r = total-removed (λ (x : Seat). task_pages (task_of m x)) seats i s at in
      omega (arith, r, total-map task_pages (task_of m) seats, total-map task_pages (task_of m) (remove seats i))) in
      omega (
        arith,
        gone,
        slot-pages (all-at (HasSlot m) seats i s areas.slots at),
        ap (total task_pages) (tasks-stay (remove seats i) around off-others),
      )
