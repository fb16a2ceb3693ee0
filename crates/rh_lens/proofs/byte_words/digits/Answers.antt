use Rattle.std.proofs.Common.{ap, arith, length}
use Rattle.rh_lens.proofs.ByteLemmas.{digits-behind}
use Rattle.rh_lens.proofs.byte_words.digits.Goals as goal

pub returns-clause-few : goal.returns-clause-few
returns-clause-few c = omega (
  arith,
  ap length c.new-row.ensures,
  digits-behind c.new-row.result c.hex_digits.new.self c.args.byte.now c.hex_digits.ensures,
)
