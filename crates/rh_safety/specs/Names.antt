-- The names of live tasks. Read Desk of rh_defs first. d is a desk, h and k are handles, t and u their tasks.
use Rattle.std.specs.Prelude.{◌≡◌, ℕ, Some}
use Rattle.rh_defs.specs.Desk.{Desk, Task, task_at}

-- no two live tasks have one name
abbrev pub HaveOwnNames : Desk → Type 0
HaveOwnNames d = (h k : ℕ) (t u : Task) → task_at h d ≡ Some t → task_at k d ≡ Some u → t.name ≡ u.name → h ≡ k
