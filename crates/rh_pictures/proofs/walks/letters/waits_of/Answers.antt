use Rattle.rh_pictures.proofs.Common.{take, arith, length-take}
use Rattle.rh_pictures.proofs.PostLemmas.{waits-few}
use Rattle.rh_pictures.proofs.walks.letters.waits_of.Goals as goal

pub note-requires-clause-few : goal.note-requires-clause-few
note-requires-clause-few c =
    let i = c.loop-message.message-index in
    let ms = c.args.messages.now in
    omega (arith, c.requires, c.loop-message-test.true, c.loop-message.invariant.count, waits-few c.args.handle (take i ms), length-take i ms)
