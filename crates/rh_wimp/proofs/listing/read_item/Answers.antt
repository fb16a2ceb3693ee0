use Rattle.rh_wimp.proofs.Common.{ap, ◌∙◌, arith, block_within}
use Rattle.rh_defs.specs.Messages.{action_of}
use Rattle.rh_wimp.proofs.ItemLaws.{links-has, same-item}
use Rattle.rh_wimp.proofs.listing.read_item.Goals as goal

pub overflow_cast-result : goal.overflow_cast-result
overflow_cast-result g c =
    let m = g.S.Words.memory c.args.store.now in
    let in_area = block_within m c.args.module_area c.args.block 28 c.requires.module (links-has c.requires.lies.1.1) in
    omega (arith, in_area, g.met.S.Words.small c.args.store.now c.args.module_area.area.0)

pub returns : goal.returns
returns g c = λ link p w.
    let message = c.read_linked-message.ensures link p w in
    same-item
    w.block_is
    (ap (λ m. m.from) message)
    (ap (λ m. m.my_ref) message)
    (c.action.ensures ∙ ap (λ m. action_of m.body) message)
    (c.code_in.ensures link p w)
