use Rattle.std.proofs.Common.{[], ◌∷◌, ap, arith, length, length-append}
use Rattle.rh_lens.proofs.ByteLemmas.{digits-behind}
use Rattle.rh_lens.proofs.byte_words.add_pair.Goals as goal

pub returns-clause-few : goal.returns-clause-few
returns-clause-few c = omega (
  arith,
  ap length c.byte.ensures,
  length-append c.args.row.now (32 ∷ []),
  digits-behind c.byte.new.self c.hex_digits.new.self (c.args.byte ∷ []) c.hex_digits.ensures,
)
