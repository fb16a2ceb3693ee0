-- An area's pages after it grew or shrank.
use Rattle.rh_tasks.proofs.Common.{◌≡◌, ℕ, ◌+◌, ◌-◌, ◌*◌, ◌/◌, ◌%◌, ◌<◌, ◌≤◌, refl, ap, sym, subst, ◌∙◌, arith, List, length, length-take, take, drop}
use Rattle.rh_tasks.proofs.Common.{replicate, Bool, true, false, Result, Ok, Err, IsOk, IsErr, IsTrue, ◌↔◌, PAGE, Memory, OnlyArea, bytes, grown}
use Rattle.rh_tasks.proofs.Common.{length-grown, OnlyArea-grown, pages_at}
use Rattle.std.proofs.lemmas.List.{take-append-drop, take-append-le}
use Rattle.rh_defs.specs.Memory.{shrunk}
use Rattle.rh_defs.proofs.MemoryLaws.{bytes-shrunk, bytes-grown, length-shrunk, OnlyArea-shrunk}

-- the first bytes of a list's first bytes
take-take : (k j : ℕ) (b : List ℕ) → k ≤ j → k ≤ length b → take k (take j b) ≡ take k b
take-take k j b low inside =
    sym (take-append-le k (take j b) (drop j b) (omega (arith, length-take j b, low, inside))) ∙ ap (take k) (take-append-drop j b)

module _ (m n : Memory) (id pages now : ℕ) (is : now ≡ length (bytes m id)) (whole : length (bytes m id) % PAGE ≡ 0) where
  module _ (e : n ≡ shrunk m id (now / PAGE - pages)) (less : pages < now / PAGE) where
    pub less-pages : pages_at n id ≡ pages
    unfolding pages_at
    less-pages = ap (λ x. length (bytes x id) / PAGE) e ∙ omega (arith, length-shrunk m id (now / PAGE - pages), is, whole, less)

    pub less-only : OnlyArea m n id
    less-only = let P : Memory → Type 0 = λ x. OnlyArea m x id in subst P (sym e) (OnlyArea-shrunk m id (now / PAGE - pages) (omega (arith, is, whole)))

    pub less-first : (k : ℕ) → k ≤ length (bytes m id) → k ≤ PAGE * pages → take k (bytes n id) ≡ take k (bytes m id)
    less-first k inside low =
        ap (λ x. take k (bytes x id)) e ∙ ap (take k) (bytes-shrunk m id (now / PAGE - pages))
        ∙ take-take k (length (bytes m id) - PAGE * (now / PAGE - pages)) (bytes m id) (omega (arith, is, whole, low, less)) inside

  module _ (e : n ≡ grown m id (pages - now / PAGE)) (more : now / PAGE ≤ pages) where
    pub more-pages : pages_at n id ≡ pages
    unfolding pages_at
    more-pages = ap (λ x. length (bytes x id) / PAGE) e ∙ omega (arith, length-grown m id (pages - now / PAGE), is, whole, more)

    pub more-first : (k : ℕ) → k ≤ length (bytes m id) → take k (bytes n id) ≡ take k (bytes m id)
    more-first k inside =
        ap (λ x. take k (bytes x id)) e ∙ ap (take k) (bytes-grown m id (pages - now / PAGE))
        ∙ take-append-le k (bytes m id) (replicate (PAGE * (pages - now / PAGE)) 0) inside

    pub more-only : pages - now / PAGE ≤ m.free → OnlyArea m n id
    more-only room = let P : Memory → Type 0 = λ x. OnlyArea m x id in subst P (sym e) (OnlyArea-grown m id (pages - now / PAGE) room)

  pub room-left : pages ≤ pages_at m id + m.free → pages - now / PAGE ≤ m.free
  unfolding pages_at
  room-left room = omega (arith, room, is)

-- a call that is refused only where too few pages are free
pub not-refused : {A E : Type 0} (r : Result A E) (free more : ℕ) → (IsErr r ↔ (free < more)) → more ≤ free → IsOk r
not-refused (Ok x) free more h room = refl
not-refused (Err e) free more h room = absurd (let q = h.0 refl in omega arith)

-- a test of room that failed
pub lacking : (enough : Bool) (more free : ℕ) → (IsTrue enough ↔ (more ≤ free)) → enough ≡ false → free < more
lacking true more free h is = absurd (cc)
lacking false more free h is = let none : more ≤ free → ⊥ = λ q. (let r = h.1 q in cc) in omega (arith, none)
