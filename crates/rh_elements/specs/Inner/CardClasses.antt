-- The classes of a card.
use Rattle.std.specs.Prelude.{Bool, [], ◌∷◌, codes}
use Rattle.std.specs.List.{concat}
use Rattle.rh_figure.specs.Phrases.{Text}
use Rattle.rh_sheet.specs.Markup.{fresh_class}
use Rattle.rh_sheet.specs.SheetCards.{card_class}
use Rattle.rh_elements.specs.declared.cards.Look.{Look}
use Rattle.rh_elements.specs.DrawCards.{kind_of}

-- the classes of a card
abbrev pub classes_of_card : Look → Bool → Text
classes_of_card look fresh = concat (codes "card " ∷ card_class (kind_of look) ∷ fresh_class fresh ∷ [])
