use Rattle.std.proofs.Common.{◌++◌, length, ap}
use Rattle.std.proofs.lemmas.List.{drop-replicate}
use Rattle.vf_ram.proofs.message_words.name_array.Goals as goal

pub returns : goal.returns
returns c = rw (c.copy_from_slice.ensures.after) (ap (λ l. c.args.name.now ++ l) (drop-replicate (length c.args.name.now) 212 0))
