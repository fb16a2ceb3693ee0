-- Owners of pages as they are seen.
use Rattle.std.specs.Prelude.{◌≡◌, ℕ, ◌==◌, ◌++◌, if◌then◌else◌, codes, slice_get, Some}
use Rattle.rh_defs.specs.Desk.{Desk, module_area}
use Rattle.rh_elements.specs.declared.tints.Tint.{Tint}
use Rattle.rh_elements.specs.declared.tints.Tint.TheVariants as tint
use Rattle.rh_figure.specs.Phrases.{Text, area_name, owner_name}
use Rattle.rh_figure.specs.Share as share
use Rattle.rh_figure.specs.Share.{Holding, count_of, holdings}
use Rattle.rh_sheet.specs.Owners.{area_tag, slot_tag, owner_tag}
use Rattle.rh_scene.specs.Seen.{owner_seen}
use Rattle.rh_pictures.specs.declared.owners.Named.{Named}
use Rattle.rh_pictures.specs.declared.owners.Named.TheVariants.{Area, Slot}
use Rattle.rh_pictures.specs.declared.owners.OwnerSight.{OwnerSight}

-- who it is
abbrev pub who_seen : Named → share.Owner
who_seen (Area number) = share.AreaOf number
who_seen (Slot handle name) = share.SlotOf handle

-- its name, its tag, and its tint
abbrev pub name_seen : Named → Text
name_seen (Area number) = area_name number
name_seen (Slot handle name) = codes "Slot " ++ name.now

abbrev pub tag_seen : Named → Text
tag_seen (Area number) = area_tag number
tag_seen (Slot handle name) = slot_tag name.now

abbrev pub tint_seen : Named → Tint
tint_seen (Area number) = if number == module_area then tint.Module else tint.Other
tint_seen (Slot handle name) = tint.Slot handle

-- an owner with its pages
abbrev pub holding_seen : OwnerSight → Holding
holding_seen o = (who_seen o.named, o.count)

-- an owner of a desk as it is seen: its pages are found and counted, and its name and tag are right
pub record IsOwnerOf (d : Desk) (o : OwnerSight) : Type 0 where
  pub place : owner_seen o.place d ≡ Some (who_seen o.named)
  pub count : o.count ≡ count_of (who_seen o.named) (holdings d)
  pub name : name_seen o.named ≡ owner_name d (who_seen o.named)
  pub tag : tag_seen o.named ≡ owner_tag d (who_seen o.named)

-- the owner at a place among all
pub record IsOwnerSeen (d : Desk) (k : ℕ) (o : OwnerSight) : Type 0 where
  pub owner : IsOwnerOf d o
  pub stands : slice_get (holdings d) k ≡ Some (holding_seen o)
