-- An item by what is told of it. Read Items first. p is a piece, i its item.
use Rattle.std.specs.Prelude.{◌≡◌}
use Rattle.rh_figure.specs.declared.piece.Piece.{Piece}
use Rattle.rh_map.specs.MapCards.{use_text}
use Rattle.rh_lens.specs.Items.{Item, Lines}
pub use Rattle.rh_lens.specs.declared.contents.Words.{Words}
pub use Rattle.rh_lens.specs.declared.contents.Inside.{Inside}

abbrev pub lines_of : Words → Lines
lines_of l = record { first = l.first; second = l.second; third = l.third }

-- this is what is told of a piece, which makes it the item
pub record IsTold (told : Inside) (p : Piece) (i : Item) : Type 0 where
  pub piece : i.piece ≡ p
  pub bytes : i.bytes ≡ told.bytes.items
  pub used_by : i.used_by ≡ use_text told.usage
  pub message : i.message ≡ lines_of told.message
