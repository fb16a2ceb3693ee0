-- The areas that a world lists have as many pages as the owners on its desk.
use Rattle.std.proofs.Common.{◌≡◌, ℕ, zero, suc, ◌+◌, ◌*◌, ◌<◌, ◌≤◌, refl, ap, ap₂, sym, subst, ◌∙◌, arith, List, [], ◌∷◌, ◌++◌, length, get_or, map, take}
use Rattle.std.specs.List.{AllByRecursion, enumerate_from}
use Rattle.std.proofs.lemmas.List.{append-nil, append_assoc, length-append, length-map, map-append, take_all}
use Rattle.rh_defs.specs.Forms.{most_pages}
use Rattle.rh_defs.specs.Desk.{Desk, Made, Task, free_pages}
use Rattle.rh_defs.specs.Laws.{IsDesk}
use Rattle.rh_defs.specs.Memory.{IsOpen, Memory, bytes}
use Rattle.rh_defs.specs.Pieces.{page_size}
use Rattle.rh_figure.specs.Share.{Holding, IsShared, fixed_holding, holdings}
use Rattle.rh_scene.specs.Inner.Holdings.{made_holding, slot_holding}
use Rattle.rh_scene.specs.SightPages.{share_in}
use Rattle.rh_tasks.specs.Shown.{IsSpelled, Shown, SpellSlots, length_of_area}
use Rattle.rh_store.specs.Shares.{SharesOut}
use Rattle.rh_store.specs.declared.store.AreaId.{AreaId}
use Rattle.rh_tasks.specs.Standing.{HaveEachPage, StandsIn, numbers}
use Rattle.rh_run.proofs.PageLaws.{area-long}
use Rattle.rh_run.proofs.ShareLaws.{Match, all_of, length-numbers, shared}

-- ---- lengths in bytes
abbrev size : Holding → ℕ
size h = page_size * h.1

fixed-sizes : (d : Desk) (n : ℕ) (areas : List ℕ)
    → map (length_of_area d) (enumerate_from n areas) ≡ map size (map (fixed_holding d) (enumerate_from n areas))
fixed-sizes d n [] = refl
fixed-sizes d n (a ∷ areas) = ap (λ l. length_of_area d (n, a) ∷ l) (fixed-sizes d (n + 1) areas)

made-sizes : (made : List Made) → map (λ (m : Made). page_size * m.pages) made ≡ map size (map made_holding made)
made-sizes [] = refl
made-sizes (m ∷ made) = ap (λ l. page_size * m.pages ∷ l) (made-sizes made)

slot-sizes : (bs : List (List ℕ)) (tasks : List Task) → SpellSlots bs tasks → map length bs ≡ map size (map slot_holding tasks)
slot-sizes [] [] s = refl
slot-sizes [] (t ∷ tasks) s = absurd s
slot-sizes (b ∷ bs) [] s = absurd s
slot-sizes (b ∷ bs) (t ∷ tasks) s = ap₂ ◌∷◌ s.0.pages (slot-sizes bs tasks s.1)

all-sizes : (s : Shown) → IsSpelled s → s.areas ++ (s.made ++ map length s.slots) ≡ map size (holdings s.desk)
all-sizes s k =
    let d = s.desk in
    let fixed : List Holding = map (fixed_holding d) (enumerate_from 0 d.areas) in
    let made : List Holding = map made_holding d.made in
    let slots : List Holding = map slot_holding d.tasks in
    ap₂ ◌++◌ (k.areas ∙ fixed-sizes d 0 d.areas) (ap₂ ◌++◌ (k.made ∙ made-sizes d.made) (slot-sizes s.slots d.tasks k.slots))
    ∙ sym (map-append size (fixed ++ made) slots ∙ ap (λ l. l ++ map size slots) (map-append size fixed made)
    ∙ append_assoc (map size fixed) (map size made) (map size slots))

matched : (m : Memory) (pages : ℕ → List ℕ) (ids : List ℕ) (xs : List Holding) → ((id : ℕ) → page_size * length (pages id) ≡ length (bytes m id))
    → map (λ id. length (bytes m id)) ids ≡ map size xs → Match pages ids xs
matched m pages [] [] long e = tt
matched m pages [] (x ∷ xs) long e = absurd (cc)
matched m pages (id ∷ ids) [] long e = absurd (cc)
matched m pages (id ∷ ids) (x ∷ xs) long e =
    let here : length (bytes m id) ≡ page_size * x.1 = cc in
    let rest : map (λ id. length (bytes m id)) ids ≡ map size xs = cc in
    (omega (arith, long id), matched m pages ids xs long rest)

-- ---- a list that is filled area by area
module _ (pages : ℕ → List ℕ) where
  pub one-area : (ids : List ℕ) (i d : ℕ) → i < length ids → all_of pages (take (i + 1) ids) ≡ all_of pages (take i ids) ++ pages (get_or ids i d)
  one-area [] i d l = absurd (omega arith)
  one-area (x ∷ ids) zero d l = append-nil (pages x)
  one-area (x ∷ ids) (suc i) d l =
      let more : suc i + 1 ≡ suc (i + 1) = omega arith in
      ap (λ k. all_of pages (take k (x ∷ ids))) more
      ∙ ap (λ l. pages x ++ l) (one-area ids i d (omega arith)) ∙ sym (append_assoc (pages x) (all_of pages (take i ids)) (pages (get_or ids i d)))

  area-room : (ids : List ℕ) (i d : ℕ) → i < length ids → length (all_of pages (take i ids)) + length (pages (get_or ids i d)) ≤ length (all_of pages ids)
  area-room [] i d l = absurd (omega arith)
  area-room (x ∷ ids) zero d l = omega (arith, length-append (pages x) (all_of pages ids))
  area-room (x ∷ ids) (suc i) d l =
      omega (arith, length-append (pages x) (all_of pages (take i ids)), length-append (pages x) (all_of pages ids), area-room ids i d (omega arith))

all-at : (P : ℕ → Type 0) (ids : List ℕ) (i d : ℕ) → i < length ids → AllByRecursion P ids → P (get_or ids i d)
all-at P [] i d l all = absurd (omega arith)
all-at P (x ∷ ids) zero d l all = all.0
all-at P (x ∷ ids) (suc i) d l all = all-at P ids i d (omega arith) all.1

numbers-at : (areas : List AreaId) (i : ℕ) → get_or (numbers areas) i 0 ≡ (get_or areas i (record { 0 = 0 })).0
numbers-at [] i = refl
numbers-at (a ∷ areas) zero = refl
numbers-at (a ∷ areas) (suc i) = numbers-at areas i

-- areas that are gone through are those that were listed
pub same-areas : (m : Memory) (s : Shown) (xs ys : List AreaId) → xs ≡ ys → StandsIn m (numbers ys) s → StandsIn m (numbers xs) s
same-areas m s xs ys e w = subst (λ (areas : List AreaId). StandsIn m (numbers areas) s) (sym e) w

-- ---- the store of a world
module _ (m : Memory) (lists : List (List ℕ)) (free : List ℕ) (shares : SharesOut m lists free) (areas : List AreaId) (s : Shown)
    (w : StandsIn m (numbers areas) s) (k : IsSpelled s) (is : IsDesk s.desk) where
  abbrev pages : ℕ → List ℕ
  pages id = get_or lists id []

  abbrev ids : List ℕ
  ids = numbers areas

  abbrev area : ℕ → ℕ
  area i = (get_or areas i (record { 0 = 0 })).0

  fits-holdings : Match pages ids (holdings s.desk)
  fits-holdings = matched m pages ids (holdings s.desk) (area-long m lists free shares) (w.lengths ∙ all-sizes s k)

  frees : length free ≡ free_pages s.desk
  frees = shares.frees ∙ w.free ∙ k.free

  all-long : length (free ++ all_of pages ids) ≡ s.desk.pool
  all-long = length-numbers pages free ids s.desk is frees fits-holdings

  pub few-pages : m.pages ≤ most_pages
  few-pages = let pool = is.pool in omega (arith, w.pool)

  pub free-fits : m.free ≤ most_pages
  free-fits = let used = is.pages in let pool = is.pool in omega (arith, w.free, k.free)

  -- an area, and the pages that are listed before its own
  module _ (items : List ℕ) (i : ℕ) (so_far : items ≡ free ++ all_of pages (take i ids)) where
    pub area-opened : i < length areas → IsOpen m (area i)
    area-opened l = subst (IsOpen m) (numbers-at areas i)
        (all-at (IsOpen m) ids i 0 (omega (arith, length-map areas (λ (a : AreaId). a.0))) w.opened)

    pub area-fits : i < length areas → page_size * length items + length (bytes m (area i)) ≤ page_size * most_pages
    area-fits l =
        let pool = is.pool in
        let inside : i < length ids = omega (arith, length-map areas (λ (a : AreaId). a.0)) in
        let same : length (pages (get_or ids i 0)) ≡ length (pages (area i)) = ap (λ id. length (pages id)) (numbers-at areas i) in
        omega (
          arith,
          ap length so_far,
          length-append free (all_of pages (take i ids)),
          length-append free (all_of pages ids),
          all-long,
          area-room pages ids i 0 inside,
          area-long m lists free shares (area i),
        )

    pub area-more : i < length areas → items ++ pages (area i) ≡ free ++ all_of pages (take (i + 1) ids)
    area-more l =
        let inside : i < length ids = omega (arith, length-map areas (λ (a : AreaId). a.0)) in
        ap (λ l. l ++ pages (area i)) so_far
        ∙ append_assoc free (all_of pages (take i ids)) (pages (area i))
        ∙ ap (λ l. free ++ l) (ap (λ id. all_of pages (take i ids) ++ pages id) (sym (numbers-at areas i)) ∙ sym (one-area pages ids i 0 inside))

    all-there : length areas ≤ i → items ≡ free ++ all_of pages ids
    all-there l = so_far ∙ ap (λ l. free ++ all_of pages l) (take_all i ids (omega (arith, length-map areas (λ (a : AreaId). a.0))))

    pub list-long : length areas ≤ i → length items ≡ s.desk.pool
    list-long l = ap length (all-there l) ∙ all-long

    pub list-shared : length areas ≤ i → HaveEachPage lists free ids m.pages → IsShared (share_in items s.desk) s.desk
    list-shared l each =
        subst (λ l. IsShared (share_in l s.desk) s.desk) (sym (all-there l))
        (shared pages free ids s.desk is frees fits-holdings (λ n below. each n (omega (arith, w.pool))))
