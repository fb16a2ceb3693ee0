use Rattle.rh_lens.proofs.ByteLemmas.{take-before}
use Rattle.rh_lens.proofs.byte_words.before_zero.Goals as goal

pub returns-clause-value : goal.returns-clause-value
returns-clause-value c = rw c.count_before_zero.ensures.value (take-before c.args.bytes.now)
