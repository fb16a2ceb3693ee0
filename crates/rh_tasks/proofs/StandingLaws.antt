-- The open areas of a world's store, in the order in which they are listed.
use Rattle.rh_tasks.proofs.Common.{◌≡◌, ◌≢◌, ℕ, zero, suc, ◌+◌, ◌<◌, ◌≤◌, refl, ap, sym, subst, ◌∙◌, arith, List, [], ◌∷◌, ◌++◌, length, take, map, drop}
use Rattle.rh_tasks.proofs.Common.{AllByRecursion, length-map, length-take, map-append, take_all, MAX_AREAS, Memory, IsOpen, bytes, FileList, Seat, MadeArea}
use Rattle.rh_tasks.proofs.Common.{Kept, Avoids, AreDistinct, HasSlot, fixed, made_area, slot_area, shown_of, IsWorld, Sits, all-map, avoids-back}
use Rattle.rh_tasks.proofs.Common.{avoids-below, few-made, few-seats}
use Rattle.std.proofs.Common.{get_or}
use Rattle.std.proofs.lemmas.List.{length-append, take_more, append_assoc}
use Rattle.rh_defs.specs.declared.sizes.TheConstants.{FIXED_AREAS}
use Rattle.rh_store.specs.declared.store.AreaId.{AreaId}
use Rattle.rh_tasks.specs.Standing.{StandsIn, numbers}
use Rattle.rh_tasks.specs.View.{ids_of, scrap_size}

-- ---- a list that is filled
module _ {A : Type 0} (f : A → AreaId) (xs : List A) (i : ℕ) (old items : List AreaId) (so_far : items ≡ old ++ map f (take i xs)) where
  pub filled-few : i < length xs → length old + length xs ≤ MAX_AREAS → length items < MAX_AREAS
  filled-few l few = omega (arith, ap length so_far, length-append old (map f (take i xs)), length-map (take i xs) f, length-take i xs)

  pub filled-more : (d : A) → i < length xs → items ++ f (get_or xs i d) ∷ [] ≡ old ++ map f (take (i + 1) xs)
  filled-more d l =
      ap (λ z. z ++ f (get_or xs i d) ∷ []) so_far ∙ append_assoc old (map f (take i xs)) (f (get_or xs i d) ∷ [])
      ∙ ap (λ z. old ++ z) (sym (map-append f (take i xs) (get_or xs i d ∷ [])) ∙ ap (map f) (sym (take_more xs i d l)))

  pub filled-all : length xs ≤ i → items ≡ old ++ map f xs
  filled-all l = so_far ∙ ap (λ z. old ++ map f z) (take_all i xs l)

-- ---- areas 0 to 5
pub fixed-more : (i : ℕ) → i < FIXED_AREAS → take i fixed ++ i ∷ [] ≡ take (i + 1) fixed
fixed-more zero l = refl
fixed-more (suc zero) l = refl
fixed-more (suc (suc zero)) l = refl
fixed-more (suc (suc (suc zero))) l = refl
fixed-more (suc (suc (suc (suc zero)))) l = refl
fixed-more (suc (suc (suc (suc (suc zero))))) l = refl
fixed-more (suc (suc (suc (suc (suc (suc i)))))) l = absurd (omega arith)

pub numbers-more : (i : ℕ) (items : List AreaId) (a : AreaId) → a.0 ≡ i → numbers items ≡ take i fixed → i < FIXED_AREAS
    → numbers (items ++ a ∷ []) ≡ take (i + 1) fixed
numbers-more i items a e so_far l =
    map-append (λ (x : AreaId). x.0) items (a ∷ []) ∙ ap (λ z. z ++ a.0 ∷ []) so_far ∙ ap (λ k. take i fixed ++ k ∷ []) e ∙ fixed-more i l

pub numbers-few : (i : ℕ) (items : List AreaId) → numbers items ≡ take i fixed → i < FIXED_AREAS → length items < MAX_AREAS
numbers-few i items so_far l = omega (arith, ap length so_far, length-map items (λ (x : AreaId). x.0), length-take i fixed)

-- ---- lists
map-twice : {A B C : Type 0} (f : B → C) (g : A → B) (xs : List A) → map f (map g xs) ≡ map (λ x. f (g x)) xs
map-twice f g [] = refl
map-twice f g (x ∷ xs) = ap (λ l. f (g x) ∷ l) (map-twice f g xs)

all-both : {A : Type 0} (P : A → Type 0) (xs ys : List A) → AllByRecursion P xs → AllByRecursion P ys → AllByRecursion P (xs ++ ys)
all-both P [] ys a b = b
all-both P (x ∷ xs) ys a b = (a.0, all-both P xs ys a.1 b)

all-mapped : {A B : Type 0} (P : B → Type 0) (f : A → B) (xs : List A) → AllByRecursion (λ x. P (f x)) xs → AllByRecursion P (map f xs)
all-mapped P f [] a = tt
all-mapped P f (x ∷ xs) a = (a.0, all-mapped P f xs a.1)

all-placed : {A : Type 0} (P : A → Type 0) (xs : List A) → ((i : ℕ) (x : A) → Sits xs i x → P x) → AllByRecursion P xs
all-placed P [] f = tt
all-placed P (x ∷ xs) f =
    (f 0 x (record { inside = omega arith; is = refl }), all-placed P xs (λ i y at. f (suc i) y (record { inside = omega (arith, at.inside); is = at.is })))

distinct-both : (xs ys : List ℕ) → AreDistinct xs → AreDistinct ys → AllByRecursion (λ x. Avoids x ys) xs → AreDistinct (xs ++ ys)
distinct-both [] ys a b c = b
distinct-both (x ∷ xs) ys a b c = (all-both (λ other. other ≢ x) xs ys a.0 c.0, distinct-both xs ys a.1 b c.1)

dropped : {A : Type 0} (xs ys : List A) → drop (length xs) (xs ++ ys) ≡ ys
dropped [] ys = refl
dropped (x ∷ xs) ys = dropped xs ys

-- the first bytes of an area are as many of them
scrap-first : (b : List ℕ) (n : ℕ) → n ≤ length b → take (length (take n b)) b ≡ take n b
scrap-first b n l = ap (λ k. take k b) (let size : length (take n b) ≡ n = omega (arith, length-take n b, l) in size)

-- ---- the areas of a world
module _ {m : Memory} {seats : List Seat} {made : List MadeArea} {files : FileList} {kept : Kept} (w : IsWorld m seats made files kept) where
  abbrev mades : List ℕ
  mades = map made_area made

  abbrev slots : List ℕ
  slots = map slot_area seats

  abbrev pub ids : List ℕ
  ids = ids_of seats made

  all-opened : AllByRecursion (IsOpen m) ids
  all-opened =
      all-both (IsOpen m) (fixed ++ mades) slots
      (all-both (IsOpen m) fixed mades w.areas.fixed_open (all-mapped (IsOpen m) made_area made w.areas.made_open))
      (all-mapped (IsOpen m) slot_area seats (all-map (HasSlot m) (λ (s : Seat). IsOpen m s.slot.area.0) seats (λ s has. has.opened) w.areas.slots))

  -- no area below 6 is a made one or a slot's
  low : (k : ℕ) → k < 6 → Avoids k (mades ++ slots)
  low k l =
      all-both (λ other. other ≢ k) mades slots (avoids-below made_area 6 k made l w.areas.made_above) (avoids-below slot_area 6 k seats l w.areas.slots_above)

  fixed-distinct : AreDistinct fixed
  fixed-distinct =
      let ne : (a b : ℕ) → a < b → b ≢ a = λ a b l q. absurd (omega arith) in
      let four : AreDistinct (4 ∷ 5 ∷ []) = ((ne 4 5 (omega arith), tt), (tt, tt)) in
      let three : AreDistinct (3 ∷ 4 ∷ 5 ∷ []) = ((ne 3 4 (omega arith), (ne 3 5 (omega arith), tt)), four) in
      let two : AreDistinct (2 ∷ 3 ∷ 4 ∷ 5 ∷ []) = ((ne 2 3 (omega arith), (ne 2 4 (omega arith), (ne 2 5 (omega arith), tt))), three) in
      let one : AreDistinct (1 ∷ 2 ∷ 3 ∷ 4 ∷ 5 ∷ []) =
      ((ne 1 2 (omega arith), (ne 1 3 (omega arith), (ne 1 4 (omega arith), (ne 1 5 (omega arith), tt)))), two) in
      ((ne 0 1 (omega arith), (ne 0 2 (omega arith), (ne 0 3 (omega arith), (ne 0 4 (omega arith), (ne 0 5 (omega arith), tt))))), one)

  all-distinct : AreDistinct ids
  all-distinct =
      subst AreDistinct (sym (append_assoc fixed mades slots))
      (distinct-both fixed (mades ++ slots) fixed-distinct
      (distinct-both mades slots w.areas.made_apart w.areas.slots_apart (all-placed (λ id. Avoids id slots) mades
      (λ i id at. avoids-back slot_area mades seats w.areas.beside i id at)))
      (low 0 (omega arith), (low 1 (omega arith), (low 2 (omega arith), (low 3 (omega arith), (low 4 (omega arith), (low 5 (omega arith), tt)))))))

  long : length (fixed ++ mades) ≡ 6 + length made
  long = omega (arith, length-append fixed mades, length-map made made_area)

  pub stands-in : StandsIn m ids (shown_of m seats made files kept)
  stands-in =
      let f : ℕ → ℕ = λ id. length (bytes m id) in
      let made_bytes : MadeArea → ℕ = λ a. length (bytes m a.area.0) in
      let slot_bytes : Seat → List ℕ = λ s. bytes m s.slot.area.0 in
      let behind : 6 + length (map made_bytes made) ≡ length (fixed ++ mades) = omega (arith, long, length-map made made_bytes) in
      record {
        listed = refl;
        fixed = refl;
        apart = all-distinct;
        opened = all-opened;
        count = w.areas.count ∙ omega (arith, long, length-append (fixed ++ mades) slots, length-map seats slot_area);
        lengths =
            ap (map f) (append_assoc fixed mades slots) ∙ map-append f fixed (mades ++ slots)
            ∙ ap (λ l. map f fixed ++ l) (map-append f mades slots ∙ ap (λ l. l ++ map f slots) (map-twice f made_area made)
            ∙ ap (λ l. map made_bytes made ++ l) (map-twice f slot_area seats ∙ sym (map-twice length slot_bytes seats)));
        slots =
            ap (λ n. map (bytes m) (drop n ids)) behind
            ∙ ap (map (bytes m)) (dropped (fixed ++ mades) slots) ∙ map-twice (bytes m) slot_area seats;
        module_bytes = refl;
        scrap = scrap-first (bytes m 5) (scrap_size kept.scrap) w.scrap;
        free = refl;
        pool = refl;
      }

  -- what is listed
  pub numbered : (first second all : List AreaId) → numbers first ≡ fixed → second ≡ first ++ map (λ (a : MadeArea). a.area) made
      → all ≡ second ++ map (λ (s : Seat). s.slot.area) seats → numbers all ≡ ids
  numbered first second all e f g =
      let number : AreaId → ℕ = λ a. a.0 in
      ap numbers g ∙ map-append number second (map (λ (s : Seat). s.slot.area) seats)
      ∙ ap (λ l. l ++ numbers (map (λ (s : Seat). s.slot.area) seats))
      (ap numbers f ∙ map-append number first (map (λ (a : MadeArea). a.area) made) ∙ ap (λ l. l ++ numbers (map (λ (a : MadeArea). a.area) made)) e
      ∙ ap (λ l. fixed ++ l) (map-twice number (λ (a : MadeArea). a.area) made))
      ∙ ap (λ l. (fixed ++ mades) ++ l) (map-twice number (λ (s : Seat). s.slot.area) seats)

  -- there is room for all
  pub room-made : (first : List AreaId) → numbers first ≡ fixed → length first + length made ≤ MAX_AREAS
  room-made first e = omega (arith, ap length e, length-map first (λ (a : AreaId). a.0), few-made w)

  pub room-slots : (first second : List AreaId) → numbers first ≡ fixed → second ≡ first ++ map (λ (a : MadeArea). a.area) made
      → length second + length seats ≤ MAX_AREAS
  room-slots first second e f =
      omega (
        arith,
        ap length e,
        length-map first (λ (a : AreaId). a.0),
        ap length f,
        length-append first (map (λ (a : MadeArea). a.area) made),
        length-map made (λ (a : MadeArea). a.area),
        few-made w,
        few-seats w,
      )
