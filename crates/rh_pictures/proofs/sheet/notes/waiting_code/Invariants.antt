use Rattle.rh_pictures.proofs.Common.{◌≡◌, drop, code_among}
use Rattle.rh_pictures.proofs.sheet.notes.waiting_code.Given as goal

-- no message so far waits under the ref
abbrev pub invariant-loop-message : goal.invariant-loop-message
invariant-loop-message l = code_among l.my_ref (drop l.message-index l.messages) ≡ code_among l.my_ref l.messages
