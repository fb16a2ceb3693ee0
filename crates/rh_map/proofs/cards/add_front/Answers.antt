use Rattle.rh_map.proofs.Common.{arith, ap, length, length-append, codes}
use Rattle.rh_map.proofs.CardLemmas.{digits-length}
use Rattle.rh_map.proofs.cards.add_front.Goals as goal

pub text-requires : goal.text-requires
text-requires c = omega (arith, digits-length _ _ _ c.hex_digits.ensures, c.requires.front, c.requires.room)

pub returns-then-size-gt-CARD_BYTES-clause-few : goal.returns-then-size-gt-CARD_BYTES-clause-few
returns-then-size-gt-CARD_BYTES-clause-few c =
    omega (
      arith,
      digits-length _ _ _ c.hex_digits.ensures,
      ap length c.text.ensures,
      length-append c.hex_digits.new.self (codes ".."),
      c.requires.front,
    )

pub returns-else-size-gt-CARD_BYTES-clause-few : goal.returns-else-size-gt-CARD_BYTES-clause-few
returns-else-size-gt-CARD_BYTES-clause-few c = omega (arith, digits-length _ _ _ c.hex_digits.ensures, c.requires.front)
