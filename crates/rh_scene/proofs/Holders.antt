-- Whose pages stand where in the list of all pages: no two owners are one, so each owner's pages stand behind those of
-- the owners before it.
use Rattle.rh_scene.proofs.Common.{◌≡◌, ℕ, zero, suc, ◌+◌, ◌-◌, ◌<◌, ◌≤◌, Bool, true, false, refl, ap, sym, subst, ◌∙◌, arith, eq-eqb, List, [], ◌∷◌, ◌++◌}
use Rattle.rh_scene.proofs.Common.{length, take, drop, Option, Some, None, if◌then◌else◌, ◌==◌, slice_get, slice_index, map, IfSome, IsSome, AllByRecursion}
use Rattle.rh_scene.proofs.Common.{enumerate_from, option_map, ne_eqb, eqb-true, length-append, length-take, take_all, slice_get_within, total, IsDesk, Desk}
use Rattle.rh_scene.proofs.Common.{Task, Made, free_pages, task_pages, total-append, Holding, count_of, fixed_holding, holdings, made_holding, slot_holding}
use Rattle.rh_scene.proofs.Common.{owner_seen}
use Rattle.std.proofs.Math.Seq.{take-append-add}
use Rattle.std.proofs.lemmas.List.{drop-drop, length-drop, length-map, take-append-le, take-map, take_rest}
use Rattle.std.proofs.lemmas.List.FromFn.{length-enumerate_from}
use Rattle.std.proofs.lemmas.Option.{get_or_from_slice_get, slice_get-get_or, slice_get-map}
use Rattle.rh_defs.specs.declared.sizes.TheConstants.{FIXED_AREAS}
use Rattle.rh_defs.specs.Forms.{first_made, most_pages}
use Rattle.rh_defs.specs.Desk.{module_area, most_made, module_pages, used_pages}
use Rattle.rh_defs.specs.Laws.{Rise}
use Rattle.rh_figure.specs.Share.{Owner, AreaOf, SlotOf, IsShared, is_owner}
use Rattle.rh_scene.specs.declared.sight.PagesOf.{PagesOf}
use Rattle.rh_scene.specs.declared.sight.PagesOf.TheVariants as pages
use Rattle.rh_scene.specs.SightPages.{pages_among, share_in}
use Rattle.rh_scene.specs.Inner.OwnerPlaces.{pages_before, owner_place}
use Rattle.rh_scene.proofs.Places.{total-more}

abbrev pub counted : Holding → ℕ
counted h = h.1

-- ---- owners

owner-refl : (o : Owner) → is_owner o o ≡ true
owner-refl (AreaOf k) = eq-eqb k k refl
owner-refl (SlotOf h) = eq-eqb h h refl

owner-same : (a b : Owner) → is_owner a b ≡ true → a ≡ b
owner-same (AreaOf k) (AreaOf n) e = ap AreaOf (eqb-true k n e)
owner-same (AreaOf k) (SlotOf n) e = cc
owner-same (SlotOf k) (AreaOf n) e = cc
owner-same (SlotOf k) (SlotOf n) e = ap SlotOf (eqb-true k n e)

other-way : (a b : Owner) → is_owner a b ≡ false → is_owner b a ≡ false
other-way (AreaOf k) (AreaOf n) e = ne_eqb n k (λ q. let t : false ≡ true = sym e ∙ eq-eqb k n (sym q) in cc)
other-way (AreaOf k) (SlotOf n) e = refl
other-way (SlotOf k) (AreaOf n) e = refl
other-way (SlotOf k) (SlotOf n) e = ne_eqb n k (λ q. let t : false ≡ true = sym e ∙ eq-eqb k n (sym q) in cc)

-- it is none of these
abbrev IsOther : Owner → Holding → Type 0
IsOther o y = is_owner y.0 o ≡ false

-- no later one is an earlier one
abbrev AreApart : List Holding → Type 0
AreApart [] = Unit {0}
AreApart (x ∷ xs) = AllByRecursion (IsOther x.0) xs × AreApart xs

all-both : {A : Type 0} (P : A → Type 0) (xs ys : List A) → AllByRecursion P xs → AllByRecursion P ys → AllByRecursion P (xs ++ ys)
all-both P [] ys a b = b
all-both P (x ∷ xs) ys a b = (a.0, all-both P xs ys a.1 b)

all-get : {A : Type 0} (P : A → Type 0) (xs : List A) (k : ℕ) (x : A) → AllByRecursion P xs → slice_get xs k ≡ Some x → P x
all-get P [] k x all e = cc
all-get P (y ∷ xs) zero x all e = let same : y ≡ x = cc in subst P same all.0
all-get P (y ∷ xs) (suc k) x all e = all-get P xs k x all.1 e

apart-both : (xs ys : List Holding) → AreApart xs → AreApart ys → AllByRecursion (λ (x : Holding). AllByRecursion (IsOther x.0) ys) xs → AreApart (xs ++ ys)
apart-both [] ys a b c = b
apart-both (x ∷ xs) ys a b c = (all-both (IsOther x.0) xs ys a.0 c.0, apart-both xs ys a.1 b c.1)

-- ---- the owners of a desk

fixed-above : (d : Desk) (least n : ℕ) (areas : List ℕ) → n < least → AllByRecursion (IsOther (AreaOf n)) (map (fixed_holding d) (enumerate_from least areas))
fixed-above d least n [] l = tt
fixed-above d least n (a ∷ areas) l = (ne_eqb least n (λ q. omega arith), fixed-above d (least + 1) n areas (omega arith))

fixed-apart : (d : Desk) (n : ℕ) (areas : List ℕ) → AreApart (map (fixed_holding d) (enumerate_from n areas))
fixed-apart d n [] = tt
fixed-apart d n (a ∷ areas) = (fixed-above d (n + 1) n areas (omega arith), fixed-apart d (n + 1) areas)

made-above : (least next n : ℕ) (made : List Made) → Rise (λ (m : Made). m.number) least next made → n < least
    → AllByRecursion (IsOther (AreaOf n)) (map made_holding made)
made-above least next n [] r l = tt
made-above least next n (m ∷ made) r l =
    let low : least ≤ m.number = r.0 in
    (ne_eqb m.number n (λ q. omega arith), made-above (m.number + 1) next n made r.1 (omega arith))

made-apart : (least next : ℕ) (made : List Made) → Rise (λ (m : Made). m.number) least next made → AreApart (map made_holding made)
made-apart least next [] r = tt
made-apart least next (m ∷ made) r = (made-above (m.number + 1) next m.number made r.1 (omega arith), made-apart (m.number + 1) next made r.1)

slots-above : (least next n : ℕ) (tasks : List Task) → Rise (λ (t : Task). t.handle) least next tasks → n < least
    → AllByRecursion (IsOther (SlotOf n)) (map slot_holding tasks)
slots-above least next n [] r l = tt
slots-above least next n (t ∷ tasks) r l =
    let low : least ≤ t.handle = r.0 in
    (ne_eqb t.handle n (λ q. omega arith), slots-above (t.handle + 1) next n tasks r.1 (omega arith))

slots-apart : (least next : ℕ) (tasks : List Task) → Rise (λ (t : Task). t.handle) least next tasks → AreApart (map slot_holding tasks)
slots-apart least next [] r = tt
slots-apart least next (t ∷ tasks) r = (slots-above (t.handle + 1) next t.handle tasks r.1 (omega arith), slots-apart (t.handle + 1) next tasks r.1)

-- no slot is an area
slots-other : (n : ℕ) (tasks : List Task) → AllByRecursion (IsOther (AreaOf n)) (map slot_holding tasks)
slots-other n [] = tt
slots-other n (t ∷ tasks) = (refl, slots-other n tasks)

fixed-beside : (d : Desk) (n : ℕ) (areas : List ℕ) (others : List Holding) → n + length areas ≤ 6
    → ((k : ℕ) → k < 6 → AllByRecursion (IsOther (AreaOf k)) others)
    → AllByRecursion (λ (x : Holding). AllByRecursion (IsOther x.0) others) (map (fixed_holding d) (enumerate_from n areas))
fixed-beside d n [] others l f = tt
fixed-beside d n (a ∷ areas) others l f = (f n (omega arith), fixed-beside d (n + 1) areas others (omega arith) f)

made-beside : (made : List Made) (tasks : List Task)
    → AllByRecursion (λ (x : Holding). AllByRecursion (IsOther x.0) (map slot_holding tasks)) (map made_holding made)
made-beside [] tasks = tt
made-beside (m ∷ made) tasks = (slots-other m.number tasks, made-beside made tasks)

module _ {d : Desk} (is : IsDesk d) where
  abbrev fixed : List Holding
  fixed = map (fixed_holding d) (enumerate_from 0 d.areas)

  abbrev mades : List Holding
  mades = map made_holding d.made

  abbrev slots : List Holding
  slots = map slot_holding d.tasks

  six : length d.areas ≡ 6
  six = is.areas.six

  pub desk-apart : AreApart (holdings d)
  desk-apart =
      let rise = is.made.numbers in
      apart-both (fixed ++ mades) slots
      (apart-both fixed mades (fixed-apart d 0 d.areas) (made-apart first_made d.next_area d.made rise)
      (fixed-beside d 0 d.areas mades (omega (arith, six)) (λ k l. made-above first_made d.next_area k d.made rise (omega arith))))
      (slots-apart 0 d.next_handle d.tasks is.handles)
      (all-both (λ (x : Holding). AllByRecursion (IsOther x.0) slots) fixed mades
      (fixed-beside d 0 d.areas slots (omega (arith, six)) (λ k l. slots-other k d.tasks))
      (made-beside d.made d.tasks))

-- ---- an owner's pages among all

none-among : (o : Owner) (xs : List Holding) (numbers : List ℕ) → AllByRecursion (IsOther o) xs → (pages_among o xs numbers ≡ []) × (count_of o xs ≡ 0)
none-among o [] numbers all = (refl, refl)
none-among o (x ∷ xs) numbers all =
    let off : is_owner o x.0 ≡ false = other-way x.0 o all.0 in
    let rest = none-among o xs (drop x.1 numbers) all.1 in
    (rw off rest.0, rw off rest.1)

pub among-at : (xs : List Holding) (k : ℕ) (x : Holding) (numbers : List ℕ) → AreApart xs → slice_get xs k ≡ Some x
    → (pages_among x.0 xs numbers ≡ take x.1 (drop (total counted (take k xs)) numbers)) × (count_of x.0 xs ≡ x.1)
among-at [] k x numbers apart e = cc
among-at (y ∷ xs) zero x numbers apart e =
    let same : y ≡ x = cc in
    let P : Holding → Type 0 = λ z. (pages_among x.0 (z ∷ xs) numbers ≡ take x.1 numbers) × (count_of x.0 (z ∷ xs) ≡ x.1) in
    subst P (sym same) (rw (owner-refl x.0) refl, rw (owner-refl x.0) refl)
among-at (y ∷ xs) (suc k) x numbers apart e =
    let off : is_owner x.0 y.0 ≡ false = all-get (IsOther y.0) xs k x apart.0 e in
    let rest = among-at xs k x (drop y.1 numbers) apart.1 e in
    (rw off (rest.0 ∙ ap (take x.1) (drop-drop (total counted (take k xs)) y.1 numbers)), rw off rest.1)

later-each : (x : Holding) (xs : List Holding) (numbers : List ℕ) → AreApart (x ∷ xs)
    → ((o : Owner) → length (pages_among o (x ∷ xs) numbers) ≡ count_of o (x ∷ xs))
    → (o : Owner) (b : Bool) → is_owner o x.0 ≡ b → length (pages_among o xs (drop x.1 numbers)) ≡ count_of o xs
later-each x xs numbers apart each o false e = rw e at (each o)
later-each x xs numbers apart each o true e =
    let none = none-among x.0 xs (drop x.1 numbers) apart.0 in
    let P : Owner → Type 0 = λ z. length (pages_among z xs (drop x.1 numbers)) ≡ count_of z xs in
    subst P (sym (owner-same o x.0 e)) (ap length none.0 ∙ sym none.1)

-- where each owner has its pages, there are so many
pub all-among : (xs : List Holding) (numbers : List ℕ) → AreApart xs → ((o : Owner) → length (pages_among o xs numbers) ≡ count_of o xs)
    → total counted xs ≤ length numbers
all-among [] numbers apart each = omega arith
all-among (x ∷ xs) numbers apart each =
    let own : length (take x.1 numbers) ≡ x.1 = rw (owner-refl x.0) at (each x.0) in
    let rest : total counted xs ≤ length (drop x.1 numbers) =
    all-among xs (drop x.1 numbers) apart.1 (λ o. later-each x xs numbers apart each o (is_owner o x.0) refl) in
    omega (arith, length-take x.1 numbers, length-drop x.1 numbers)

pub total-at : (xs : List Holding) (k : ℕ) (x : Holding) → slice_get xs k ≡ Some x → total counted (take k xs) + x.1 ≤ total counted xs
total-at [] k x e = cc
total-at (y ∷ xs) zero x e = let same : y.1 ≡ x.1 = cc in omega arith
total-at (y ∷ xs) (suc k) x e = let rest : total counted (take k xs) + x.1 ≤ total counted xs = total-at xs k x e in omega arith

-- ---- where an owner stands

get-front : {A : Type 0} (xs ys : List A) (i : ℕ) (x : A) → slice_get xs i ≡ Some x → slice_get (xs ++ ys) i ≡ Some x
get-front [] ys i x e = cc
get-front (y ∷ xs) ys zero x e = e
get-front (y ∷ xs) ys (suc i) x e = get-front xs ys i x e

get-behind : {A : Type 0} (xs ys : List A) (n i : ℕ) → length xs ≡ n → slice_get (xs ++ ys) (n + i) ≡ slice_get ys i
get-behind [] ys n i e = ap (slice_get ys) (omega arith)
get-behind (x ∷ xs) ys zero i e = absurd (omega arith)
get-behind (x ∷ xs) ys (suc n) i e =
    let more : suc n + i ≡ suc (n + i) = omega arith in rw more (get-behind xs ys n i (omega arith))

get-numbered : (n : ℕ) (areas : List ℕ) (i : ℕ) → slice_get (enumerate_from n areas) i ≡ option_map (λ a. (n + i, a)) (slice_get areas i)
get-numbered n [] i = refl
get-numbered n (a ∷ areas) zero = let same : n ≡ n + 0 = omega arith in ap (λ z. Some (z, a)) same
get-numbered n (a ∷ areas) (suc i) =
    let same : (n + 1) + i ≡ n + suc i = omega arith in
    get-numbered (n + 1) areas i ∙ ap (λ z. option_map (λ b. (z, b)) (slice_get areas i)) same

-- the owner stands at its place, with so many pages
pub record Stands (d : Desk) (owner : PagesOf) (o : Owner) (n : ℕ) : Type 0 where
  pub is : slice_get (holdings d) (owner_place owner d) ≡ Some (o, n)

module _ {d : Desk} (is : IsDesk d) where
  pub stands-fixed : (number a : ℕ) → slice_get d.areas number ≡ Some a → Stands d (pages.Fixed number) (AreaOf number) (fixed_holding d (number, a)).1
  stands-fixed number a e =
      let here : slice_get (map (fixed_holding d) (enumerate_from 0 d.areas)) number ≡ Some (fixed_holding d (number, a)) =
      slice_get-map (fixed_holding d) (enumerate_from 0 d.areas) number
      ∙ ap (option_map (fixed_holding d)) (get-numbered 0 d.areas number ∙ ap (option_map (λ (b : ℕ). (0 + number, b))) e
      ∙ ap (λ z. Some (z, a)) (omega arith)) in
      record { is = get-front (fixed is ++ mades is) (slots is) number _ (get-front (fixed is) (mades is) number _ here) }

  long : length (fixed is) ≡ length d.areas
  long = length-map (enumerate_from 0 d.areas) (fixed_holding d) ∙ length-enumerate_from 0 d.areas

  pub stands-made : (i : ℕ) (m : Made) → slice_get d.made i ≡ Some m → Stands d (pages.Made i) (AreaOf m.number) m.pages
  stands-made i m e =
      let here : slice_get (mades is) i ≡ Some (made_holding m) = slice_get-map made_holding d.made i ∙ ap (option_map made_holding) e in
      record { is = get-front (fixed is ++ mades is) (slots is) (length d.areas + i) _ (get-behind (fixed is) (mades is) (length d.areas) i long ∙ here) }

  pub stands-slot : (i : ℕ) (t : Task) → slice_get d.tasks i ≡ Some t → Stands d (pages.Slot i) (SlotOf t.handle) (task_pages t)
  stands-slot i t e =
      let here : slice_get (slots is) i ≡ Some (slot_holding t) = slice_get-map slot_holding d.tasks i ∙ ap (option_map slot_holding) e in
      record {
        is = get-behind (fixed is ++ mades is) (slots is) (length d.areas + length d.made) i
            (length-append (fixed is) (mades is) ∙ omega (arith, long, length-map d.made made_holding)) ∙ here;
      }

  -- how many pages the owner has
  pub stands-count : (owner : PagesOf) (o : Owner) (n : ℕ) → Stands d owner o n → count_of o (holdings d) ≡ n
  stands-count owner o n at = (among-at (holdings d) (owner_place owner d) (o, n) [] (desk-apart is) at.is).1

  module _ (numbers : List ℕ) (shared : IsShared (share_in numbers d) d) where
    pub room-free : free_pages d ≤ length numbers
    room-free = omega (arith, shared.free, length-take (free_pages d) numbers)

    pub room-all : free_pages d + total counted (holdings d) ≤ length numbers
    room-all =
        let rest : total counted (holdings d) ≤ length (drop (free_pages d) numbers) =
        all-among (holdings d) (drop (free_pages d) numbers) (desk-apart is) shared.each in
        omega (arith, length-drop (free_pages d) numbers, room-free)

    pub stands-room : (owner : PagesOf) (o : Owner) (n : ℕ) → Stands d owner o n → free_pages d + pages_before owner d + n ≤ length numbers
    stands-room owner o n at =
        let front : total counted (take (owner_place owner d) (holdings d)) + n ≤ total counted (holdings d) =
        total-at (holdings d) (owner_place owner d) (o, n) at.is in
        omega (arith, room-all)

    pub stands-pages : (owner : PagesOf) (o : Owner) (n : ℕ) → Stands d owner o n
        → take n (drop (free_pages d + pages_before owner d) numbers) ≡ (share_in numbers d).pages_of o
    stands-pages owner o n at =
        sym ((among-at (holdings d) (owner_place owner d) (o, n) (drop (free_pages d) numbers) (desk-apart is) at.is).0
        ∙ ap (take n) (drop-drop (pages_before owner d) (free_pages d) numbers))

-- ---- how many pages the owners before have

total-map : {A B : Type 0} (f : B → ℕ) (g : A → B) (xs : List A) → total f (map g xs) ≡ total (λ x. f (g x)) xs
total-map f g [] = refl
total-map f g (x ∷ xs) = ap (λ n. f (g x) + n) (total-map f g xs)

pub total-take : {A : Type 0} (f : A → ℕ) (n : ℕ) (xs : List A) → total f (take n xs) ≤ total f xs
total-take f zero xs = omega arith
total-take f (suc n) [] = omega arith
total-take f (suc n) (x ∷ xs) = let rest : total f (take n xs) ≤ total f xs = total-take f n xs in omega arith

-- areas 0 to 5, of which the list has 0 for the module area
fixed-used : (d : Desk) (areas : List ℕ) → length areas ≡ 6 → slice_index areas 1 ≡ 0
    → total counted (map (fixed_holding d) (enumerate_from 0 areas)) ≡ total (λ (n : ℕ). n) areas + module_pages d
fixed-used d [] six none = absurd (omega arith)
fixed-used d (a ∷ []) six none = absurd (omega arith)
fixed-used d (a ∷ b ∷ []) six none = absurd (omega arith)
fixed-used d (a ∷ b ∷ e ∷ []) six none = absurd (omega arith)
fixed-used d (a ∷ b ∷ e ∷ f ∷ []) six none = absurd (omega arith)
fixed-used d (a ∷ b ∷ e ∷ f ∷ g ∷ []) six none = absurd (omega arith)
fixed-used d (a ∷ b ∷ e ∷ f ∷ g ∷ h ∷ []) six none = let zero-pages : b ≡ 0 = none in omega arith
fixed-used d (a ∷ b ∷ e ∷ f ∷ g ∷ h ∷ i ∷ areas) six none = absurd (omega arith)

module _ {d : Desk} (is : IsDesk d) where
  pub holdings-used : total counted (holdings d) ≡ used_pages d
  holdings-used =
      let fixed-all = fixed-used d d.areas is.areas.six is.areas.module_area in
      let made-all : total counted (mades is) ≡ total (λ (m : Made). m.pages) d.made = total-map counted made_holding d.made in
      let slots-all : total counted (slots is) ≡ total task_pages d.tasks = total-map counted slot_holding d.tasks in
      omega (arith, total-append counted (fixed is ++ mades is) (slots is), total-append counted (fixed is) (mades is))

  pub holdings-few : total counted (holdings d) ≤ most_pages
  holdings-few = let used = is.pages in let pool = is.pool in omega (arith, holdings-used)

  fixed-at : (number a : ℕ) → slice_get d.areas number ≡ Some a → slice_get (fixed is) number ≡ Some (fixed_holding d (number, a))
  fixed-at number a e =
      slice_get-map (fixed_holding d) (enumerate_from 0 d.areas) number
      ∙ ap (option_map (fixed_holding d)) (get-numbered 0 d.areas number ∙ ap (option_map (λ (b : ℕ). (0 + number, b))) e
      ∙ ap (λ z. Some (z, a)) (omega arith))

  pub area-at : (number : ℕ) → number < 6 → slice_get d.areas number ≡ Some (slice_index d.areas number)
  area-at number l = slice_get-get_or d.areas number 0 (omega (arith, is.areas.six))

  pub fixed-more : (number n count : ℕ) → number < 6 → n ≡ (if number == module_area then module_pages d else slice_index d.areas number)
      → count ≡ total counted (take number (fixed is)) → count + n ≡ total counted (take (number + 1) (fixed is))
  fixed-more number n count l e so_far =
      let more = total-more counted (fixed is) number (fixed_holding d (number, slice_index d.areas number)) (fixed-at number _ (area-at number l)) in
      omega arith

  fixed-long : length (fixed is) ≡ 6
  fixed-long = omega (arith, length-map (enumerate_from 0 d.areas) (fixed_holding d), length-enumerate_from 0 d.areas, is.areas.six)

  pub fixed-room : (number : ℕ) → number ≤ FIXED_AREAS → total counted (take number (fixed is)) ≤ most_pages
  fixed-room number l =
      let some = total-take counted number (fixed is) in
      omega (arith, holdings-few, total-append counted (fixed is ++ mades is) (slots is), total-append counted (fixed is) (mades is))

  pub before-fixed : (number : ℕ) → number ≤ FIXED_AREAS → total counted (take number (fixed is)) ≡ pages_before (pages.Fixed number) d
  before-fixed number l =
      ap (total counted) (sym (take-append-le number (fixed is) (mades is) (omega (arith, fixed-long)))
      ∙ sym (take-append-le number (fixed is ++ mades is) (slots is) (omega (arith, fixed-long, length-append (fixed is) (mades is)))))

  front-all : total counted (take 6 (fixed is)) ≡ total counted (fixed is)
  front-all = ap (total counted) (take_all 6 (fixed is) (omega (arith, fixed-long)))

  pub before-made : (i : ℕ) → i ≤ length d.made
      → total counted (take 6 (fixed is)) + total (λ (m : Made). m.pages) (take i d.made) ≡ pages_before (pages.Made i) d
  before-made i l =
      let long-both = length-append (fixed is) (mades is) in
      let long-made = length-map d.made made_holding in
      let same : length d.areas + i ≡ length (fixed is) + i = omega (arith, fixed-long, is.areas.six) in
      let made-part : total counted (take i (mades is)) ≡ total (λ (m : Made). m.pages) (take i d.made) =
      ap (total counted) (take-map made_holding i d.made) ∙ total-map counted made_holding (take i d.made) in
      let whole : total counted (take (length d.areas + i) (holdings d)) ≡ total counted (fixed is) + total counted (take i (mades is)) =
      ap (total counted) (ap (λ n. take n (holdings d)) same
      ∙ take-append-le (length (fixed is) + i) (fixed is ++ mades is) (slots is) (omega arith)
      ∙ take-append-add (fixed is) (mades is) i)
      ∙ total-append counted (fixed is) (take i (mades is)) in
      omega (arith, front-all)

  pub before-slot : (i : ℕ)
      → total counted (take 6 (fixed is)) + total (λ (m : Made). m.pages) d.made + total task_pages (take i d.tasks) ≡ pages_before (pages.Slot i) d
  before-slot i =
      let long-both = length-append (fixed is) (mades is) in
      let long-made = length-map d.made made_holding in
      let same : length d.areas + length d.made + i ≡ length (fixed is ++ mades is) + i = omega (arith, fixed-long, is.areas.six) in
      let made-part : total counted (mades is) ≡ total (λ (m : Made). m.pages) d.made = total-map counted made_holding d.made in
      let slot-part : total counted (take i (slots is)) ≡ total task_pages (take i d.tasks) =
      ap (total counted) (take-map slot_holding i d.tasks) ∙ total-map counted slot_holding (take i d.tasks) in
      let whole : total counted (take (length d.areas + length d.made + i) (holdings d)) ≡ total counted (fixed is ++ mades is) + total counted
      (take i (slots is)) =
      ap (total counted) (ap (λ n. take n (holdings d)) same ∙ take-append-add (fixed is ++ mades is) (slots is) i)
      ∙ total-append counted (fixed is ++ mades is) (take i (slots is)) in
      omega (arith, front-all, total-append counted (fixed is) (mades is))

  -- how many pages areas and slots before have
  pub made-few : (i : ℕ) → total (λ (m : Made). m.pages) (take i d.made) ≤ most_pages
  made-few i = let some = total-take (λ (m : Made). m.pages) i d.made in let used = is.pages in let pool = is.pool in omega arith

  pub slots-few : (i : ℕ) → total task_pages (take i d.tasks) ≤ most_pages
  slots-few i = let some = total-take task_pages i d.tasks in let used = is.pages in let pool = is.pool in omega arith

-- ---- the owner that is looked at

pub if-some : {A : Type 0} (o : Option A) (P : A → Type 0) → ((x : A) → o ≡ Some x → P x) → IfSome o P
if-some None P f = tt
if-some (Some x) P f = f x refl

pub some-of : {A : Type 0} (o : Option A) → IsSome o → (x : A) × (o ≡ Some x)
some-of None s = absurd (cc)
some-of (Some x) s = (x, refl)

module _ {d : Desk} (is : IsDesk d) where
  -- the owner at its place, with its pages
  pub record Found (owner : PagesOf) (o : Owner) : Type 0 where
    pub pages : ℕ
    pub stands : Stands d owner o pages

  pub found : (owner : PagesOf) (o : Owner) → owner_seen owner d ≡ Some o → Found owner o
  found (pages.Fixed number) o e = go (slice_get d.areas number) refl e
    where
      go : (a : Option ℕ) → slice_get d.areas number ≡ a → option_map (λ (b : ℕ). AreaOf number) a ≡ Some o → Found (pages.Fixed number) o
      go None q k = absurd (cc)
      go (Some a) q k =
          let same : AreaOf number ≡ o = cc in
          subst (Found (pages.Fixed number)) same (record { pages = (fixed_holding d (number, a)).1; stands = stands-fixed is number a q })
  found (pages.Made i) o e = go (slice_get d.made i) refl e
    where
      go : (a : Option Made) → slice_get d.made i ≡ a → option_map (λ (m : Made). AreaOf m.number) a ≡ Some o → Found (pages.Made i) o
      go None q k = absurd (cc)
      go (Some m) q k =
          let same : AreaOf m.number ≡ o = cc in
          subst (Found (pages.Made i)) same (record { pages = m.pages; stands = stands-made is i m q })
  found (pages.Slot i) o e = go (slice_get d.tasks i) refl e
    where
      go : (a : Option Task) → slice_get d.tasks i ≡ a → option_map (λ (t : Task). SlotOf t.handle) a ≡ Some o → Found (pages.Slot i) o
      go None q k = absurd (cc)
      go (Some t) q k =
          let same : SlotOf t.handle ≡ o = cc in
          subst (Found (pages.Slot i)) same (record { pages = task_pages t; stands = stands-slot is i t q })

module _ {d : Desk} (is : IsDesk d) where
  pub free-few : free_pages d ≤ most_pages
  free-few = let pool = is.pool in omega arith

  pub made-all-few : total (λ (m : Made). m.pages) d.made ≤ most_pages
  made-all-few = let used = is.pages in let pool = is.pool in omega arith

  pub slots-all-few : total task_pages d.tasks ≤ most_pages
  slots-all-few = let used = is.pages in let pool = is.pool in omega arith

  pub all-made : total (λ (m : Made). m.pages) (take most_made d.made) ≡ total (λ (m : Made). m.pages) d.made
  all-made = let few = is.made.few in ap (total (λ (m : Made). m.pages)) (take_all most_made d.made (omega arith))

  pub within-fixed : (owner : PagesOf) (number : ℕ) → owner ≡ pages.Fixed number → IsSome (owner_seen owner d) → number ≤ FIXED_AREAS
  within-fixed owner number e s =
      let t : IsSome (owner_seen (pages.Fixed number) d) = subst (λ o. IsSome (owner_seen o d)) e s in
      go (slice_get d.areas number) refl t
    where
      go : (a : Option ℕ) → slice_get d.areas number ≡ a → IsSome (option_map (λ (b : ℕ). AreaOf number) a) → number ≤ FIXED_AREAS
      go None q k = absurd (cc)
      go (Some a) q k = omega (arith, slice_get_within d.areas number a q, is.areas.six)

  pub within-made : (owner : PagesOf) (i : ℕ) → owner ≡ pages.Made i → IsSome (owner_seen owner d) → i ≤ length d.made
  within-made owner i e s =
      let t : IsSome (owner_seen (pages.Made i) d) = subst (λ o. IsSome (owner_seen o d)) e s in
      go (slice_get d.made i) refl t
    where
      go : (a : Option Made) → slice_get d.made i ≡ a → IsSome (option_map (λ (m : Made). AreaOf m.number) a) → i ≤ length d.made
      go None q k = absurd (cc)
      go (Some m) q k = omega (arith, slice_get_within d.made i m q)

pub at-some : {A : Type 0} (o : Option A) (P : A → Type 0) (x : A) → o ≡ Some x → IfSome o P → P x
at-some {A = A} o P x e h = let Q : Option A → Type 0 = λ z. IfSome z P in subst Q e h

module _ {d : Desk} (is : IsDesk d) where
  pub before-few : (owner : PagesOf) → pages_before owner d ≤ most_pages
  before-few owner = let some = total-take counted (owner_place owner d) (holdings d) in omega (arith, holdings-few is)

  -- where an owner's pages begin and end in the list
  pub room-of : (numbers : List ℕ) (owner : PagesOf) (o : Owner) → IsShared (share_in numbers d) d → owner_seen owner d ≡ Some o
      → free_pages d + pages_before owner d + count_of o (holdings d) ≤ length numbers
  room-of numbers owner o shared e =
      let f = found is owner o e in
      omega (arith, stands-room is numbers shared owner o f.pages f.stands, stands-count is owner o f.pages f.stands)

  pub pages-are : (numbers : List ℕ) (owner : PagesOf) (o : Owner) (first count : ℕ) → IsShared (share_in numbers d) d → owner_seen owner d ≡ Some o
      → first ≡ free_pages d + pages_before owner d → count ≡ count_of o (holdings d)
      → take count (take (length numbers - first) (drop first numbers)) ≡ (share_in numbers d).pages_of o
  pages-are numbers owner o first count shared e p q =
      let f = found is owner o e in
      ap (take count) (take_rest numbers first)
      ∙ (ap (λ n. take count (drop n numbers)) p
      ∙ (ap (λ n. take n (drop (free_pages d + pages_before owner d) numbers)) (q ∙ stands-count is owner o f.pages f.stands)
      ∙ stands-pages is numbers shared owner o f.pages f.stands))

  -- how many pages an owner has, as its area or slot tells
  pub count-fixed : (owner : PagesOf) (o : Owner) (number n : ℕ) → owner ≡ pages.Fixed number → owner_seen owner d ≡ Some o
      → n ≡ (if number == module_area then module_pages d else slice_index d.areas number) → n ≡ count_of o (holdings d)
  count-fixed owner o number n k e told =
      let t : owner_seen (pages.Fixed number) d ≡ Some o = subst (λ z. owner_seen z d ≡ Some o) k e in
      go (slice_get d.areas number) refl t
    where
      go : (a : Option ℕ) → slice_get d.areas number ≡ a → option_map (λ (b : ℕ). AreaOf number) a ≡ Some o → n ≡ count_of o (holdings d)
      go None q t = absurd (cc)
      go (Some a) q t =
          let same : AreaOf number ≡ o = cc in
          let is_a : slice_index d.areas number ≡ a = get_or_from_slice_get d.areas number a 0 q in
          told ∙ (ap (λ m. if number == module_area then module_pages d else m) is_a
          ∙ sym (ap (λ z. count_of z (holdings d)) (sym same) ∙ stands-count is (pages.Fixed number) (AreaOf number) _ (stands-fixed is number a q)))

  pub count-made : (owner : PagesOf) (o : Owner) (i : ℕ) (m : Made) → owner ≡ pages.Made i → owner_seen owner d ≡ Some o → slice_get d.made i ≡ Some m
      → m.pages ≡ count_of o (holdings d)
  count-made owner o i m k e q =
      let t : owner_seen (pages.Made i) d ≡ Some o = subst (λ z. owner_seen z d ≡ Some o) k e in
      let u : option_map (λ (x : Made). AreaOf x.number) (Some m) ≡ Some o = subst (λ z. option_map (λ (x : Made). AreaOf x.number) z ≡ Some o) q t in
      let same : AreaOf m.number ≡ o = cc in
      sym (ap (λ z. count_of z (holdings d)) (sym same) ∙ stands-count is (pages.Made i) (AreaOf m.number) m.pages (stands-made is i m q))

  pub none-made : (owner : PagesOf) (o : Owner) (i : ℕ) → owner ≡ pages.Made i → owner_seen owner d ≡ Some o → slice_get d.made i ≡ None → ⊥
  none-made owner o i k e q =
      let t : owner_seen (pages.Made i) d ≡ Some o = subst (λ z. owner_seen z d ≡ Some o) k e in
      let u : option_map (λ (x : Made). AreaOf x.number) None ≡ Some o = subst (λ z. option_map (λ (x : Made). AreaOf x.number) z ≡ Some o) q t in
      cc

  pub count-slot : (owner : PagesOf) (o : Owner) (i : ℕ) (t : Task) → owner ≡ pages.Slot i → owner_seen owner d ≡ Some o → slice_get d.tasks i ≡ Some t
      → task_pages t ≡ count_of o (holdings d)
  count-slot owner o i t k e q =
      let r : owner_seen (pages.Slot i) d ≡ Some o = subst (λ z. owner_seen z d ≡ Some o) k e in
      let u : option_map (λ (x : Task). SlotOf x.handle) (Some t) ≡ Some o = subst (λ z. option_map (λ (x : Task). SlotOf x.handle) z ≡ Some o) q r in
      let same : SlotOf t.handle ≡ o = cc in
      sym (ap (λ z. count_of z (holdings d)) (sym same) ∙ stands-count is (pages.Slot i) (SlotOf t.handle) (task_pages t) (stands-slot is i t q))

  pub none-slot : (owner : PagesOf) (o : Owner) (i : ℕ) → owner ≡ pages.Slot i → owner_seen owner d ≡ Some o → slice_get d.tasks i ≡ None → ⊥
  none-slot owner o i k e q =
      let t : owner_seen (pages.Slot i) d ≡ Some o = subst (λ z. owner_seen z d ≡ Some o) k e in
      let u : option_map (λ (x : Task). SlotOf x.handle) None ≡ Some o = subst (λ z. option_map (λ (x : Task). SlotOf x.handle) z ≡ Some o) q t in
      cc
