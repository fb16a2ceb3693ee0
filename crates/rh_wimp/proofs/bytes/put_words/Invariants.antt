use Rattle.rh_wimp.proofs.Common.{◌≡◌, take, with_part, words}
use Rattle.rh_wimp.proofs.bytes.put_words.Given as goal

abbrev pub invariant-loop-i : goal.invariant-loop-i
invariant-loop-i l = l.out ≡ with_part l.initial.out l.at (words (take l.i l.ws))
