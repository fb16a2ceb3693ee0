-- Owners of pages, and how many they had.
use Rattle.std.specs.Prelude.{List, map}
use Rattle.rh_figure.specs.Share as share
use Rattle.rh_scene.specs.declared.kept.Owner.{Owner}
use Rattle.rh_scene.specs.declared.kept.Owner.TheVariants.{Area, Slot}
use Rattle.rh_scene.specs.declared.kept.Holding.{Holding}

abbrev pub shared_owner : Owner → share.Owner
shared_owner (Area number) = share.AreaOf number
shared_owner (Slot handle) = share.SlotOf handle

abbrev pub holding_of : Holding → share.Holding
holding_of h = (shared_owner h.owner, h.pages)

abbrev pub holdings_of : List Holding → List share.Holding
holdings_of items = map holding_of items
