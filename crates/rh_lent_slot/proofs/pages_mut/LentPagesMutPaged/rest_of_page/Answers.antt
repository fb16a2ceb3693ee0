use Rattle.rh_lent_slot.proofs.Common.{◌-◌, ◌%◌, ◌∙◌, arith, PAGE}
use Rattle.rh_lent_slot.proofs.Over.{lent_length, part_in}
use Rattle.rh_lent_slot.proofs.pages_mut.LentPagesMutPaged.rest_of_page.Goals as goal

pub part_of-requires : goal.part_of-requires
part_of-requires c =
    omega (arith, lent_length c.args.self.now c.args._id.0 c.requires.opened, c.args.self.now.within, c.requires.within)

pub returns : goal.returns
returns c =
    let s = c.args.self.now in
    c.part_of.ensures ∙ part_in s c.args._id.0 c.requires.opened c.args.at (PAGE - c.args.at % PAGE)
    (omega (arith, lent_length s c.args._id.0 c.requires.opened, c.requires.within))
