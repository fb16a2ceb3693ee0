-- The place of an owner of pages among all owners.
use Rattle.std.specs.Prelude.{ℕ, ◌+◌, length, take}
use Rattle.rh_defs.specs.Pieces.{total}
use Rattle.rh_defs.specs.Desk.{Desk}
use Rattle.rh_figure.specs.Share.{Holding, holdings}
use Rattle.rh_scene.specs.declared.sight.PagesOf.{PagesOf}
use Rattle.rh_scene.specs.declared.sight.PagesOf.TheVariants.{Fixed, Made, Slot}

-- the place of an owner among all owners
abbrev pub owner_place : PagesOf → Desk → ℕ
owner_place (Fixed number) d = number
owner_place (Made i) d = length d.areas + i
owner_place (Slot i) d = length d.areas + length d.made + i

-- how many pages the owners before it have
abbrev pub pages_before : PagesOf → Desk → ℕ
pages_before owner d = total (λ (h : Holding). h.1) (take (owner_place owner d) (holdings d))
