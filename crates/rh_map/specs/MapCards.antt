-- The lines of cards, by what is read of a block.
use Rattle.std.specs.Prelude.{◌≡◌, ℕ, nat_lt, List, [], ◌++◌, length, take, codes}
use Rattle.std.specs.Fmt.{decimal}
use Rattle.hex.specs.Hex.{encode_lower}
use Rattle.rh_figure.specs.Phrases.{Text, where_so}
use Rattle.rh_figure.specs.declared.limits.TheConstants.{CARD_BYTES}
use Rattle.rh_map.specs.declared.cards.Usage.{Usage}
use Rattle.rh_map.specs.declared.cards.Usage.TheVariants.{Unused, Out, In}

-- the transfer that uses a block
abbrev pub use_text : Usage → Text
use_text Unused = []
use_text (Out id) = codes ", out " ++ decimal id
use_text (In id) = codes ", in " ++ decimal id

-- the first bytes of a block of so many
abbrev pub front_text : ℕ → List ℕ → Text
front_text size front = encode_lower front ++ where_so (nat_lt CARD_BYTES size) (codes "..")

-- these are the first bytes of a block of this size with these bytes
pub record IsFrontOf (size : ℕ) (front bytes : List ℕ) : Type 0 where
  pub whole : length bytes ≡ size
  pub first : take CARD_BYTES bytes ≡ front
