use Rattle.rh_pictures.proofs.sheet.slots.print_bytes.Goals as goal

pub returns-in-Some : goal.returns-in-Some
returns-in-Some g c t e = rw c.in-Some.is (c.print_lens_of_slot.ensures t e)

pub returns-in-None : goal.returns-in-None
returns-in-None g c t e = rw c.in-None.is (c.print_figure.ensures t e)
