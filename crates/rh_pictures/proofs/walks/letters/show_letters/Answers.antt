use Rattle.std.proofs.Common.{arith}
use Rattle.rh_pictures.proofs.PostLemmas.{waits-few}
use Rattle.rh_pictures.proofs.walks.letters.show_letters.Goals as goal

pub letterbox-requires-clause-few : goal.letterbox-requires-clause-few
letterbox-requires-clause-few g c = omega (arith, c.requires, c.waits_of-waits.ensures.count, waits-few c.args.handle c.args.messages.now)
