-- Laws of decoding.
use Rattle.rh_wimp.proofs.Common.{◌≡◌, ℕ, ◌+◌, ◌<◌, ◌≤◌, true, false, ap, ◌∙◌, List, arith, Option, Some, Result, Err, word, action_at, decoded, Action}
use Rattle.rh_wimp.proofs.Common.{Body, MessageFault, cond_true, cond_false}
use Rattle.rh_defs.specs.MessageImage.{name_length, body_for, message_in, has_length}
use Rattle.rh_defs.specs.declared.message.MessageFault.TheVariants.{BadLength}
use Rattle.rh_defs.proofs.BytesLaws.{length-part}
use Rattle.rh_defs.proofs.MessageImageLaws.{found_spelled}

-- a name that was found ends below the message's end
pub name-within : (b : List ℕ) (end n : ℕ) → 48 ≤ end → name_length b end ≡ Some n → 44 + n < end
name-within b end n low e = let s = (found_spelled b end n low e).3 in omega (arith, length-part b 44 n)

-- the answer, by the action and what was read for it
pub decoded-body : (b : List ℕ) (o : Option Action) (r : Result Body MessageFault) → has_length b ≡ true → action_at (word b 16) ≡ o
    → body_for b (word b 0) o ≡ r → decoded b ≡ message_in b r
unfolding decoded
decoded-body b o r t eo er = cond_true (has_length b) _ _ t ∙ ap (λ a. message_in b (body_for b (word b 0) a)) eo ∙ ap (message_in b) er

pub decoded-short : (b : List ℕ) → has_length b ≡ false → decoded b ≡ Err BadLength
unfolding decoded
decoded-short b f = cond_false (has_length b) _ _ f
