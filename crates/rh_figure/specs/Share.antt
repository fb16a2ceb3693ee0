-- Which page of the pool belongs to whom. A desk knows how many pages each owner has; a share says which.
-- Read Desk of rh_defs first. d is a desk, o an owner, s a share, k the number of a page, x one owner's holding.
use Rattle.std.specs.Prelude.{◌≡◌, ℕ, ◌+◌, ◌<◌, ◌==◌, Bool, false, if◌then◌else◌, List, [], ◌∷◌, ◌++◌, length, map}
use Rattle.std.specs.List.{enumerate_from}
use Rattle.rh_defs.specs.Pieces.{total}
use Rattle.rh_defs.specs.Desk.{Desk, Task, Made, task_pages, module_pages, free_pages, module_area}

-- who may have pages: an area by its number, or a task's slot by its handle
pub data Owner : Type 0 where
  AreaOf : (number : ℕ) → Owner
  SlotOf : (handle : ℕ) → Owner

abbrev pub is_owner : Owner → Owner → Bool
is_owner (AreaOf k) (AreaOf n) = k == n
is_owner (SlotOf h) (SlotOf n) = h == n
is_owner _ _ = false

-- an owner and how many pages it has
abbrev pub Holding : Type 0
Holding = Owner × ℕ

-- one of areas 0 to 5, whose pages the list has but for those of the module area
abbrev pub fixed_holding : Desk → ℕ × ℕ → Holding
fixed_holding d area = (AreaOf area.0, if area.0 == module_area then module_pages d else area.1)

-- areas 0 to 5, the made ones, and the slots in order of handle
abbrev pub holdings : Desk → List Holding
holdings d =
    map (fixed_holding d) (enumerate_from 0 d.areas)
    ++ map (λ (m : Made). (AreaOf m.number, m.pages)) d.made
    ++ map (λ (t : Task). (SlotOf t.handle, task_pages t)) d.tasks

-- how many pages an owner has, 0 for one that isn't there
abbrev pub count_of : Owner → List Holding → ℕ
count_of o [] = 0
count_of o (x ∷ xs) = if is_owner o x.0 then x.1 else count_of o xs

-- the numbers of the free pages, in the order in which they were given back, and of each owner's pages from below
pub record Share : Type 0 where
  pub free : List ℕ
  pub pages_of : Owner → List ℕ

-- how often a number stands in a list
abbrev pub times : ℕ → List ℕ → ℕ
times k numbers = total (λ n. if n == k then 1 else 0) numbers

-- the pool is shared out as the desk says: each owner has so many pages, and no page has two owners or none
pub record IsShared (s : Share) (d : Desk) : Type 0 where
  pub each : (o : Owner) → length (s.pages_of o) ≡ count_of o (holdings d)
  pub free : length s.free ≡ free_pages d
  pub once : (k : ℕ) → k < d.pool → times k s.free + total (λ (x : Holding). times k (s.pages_of x.0)) (holdings d) ≡ 1
