use Rattle.rh_pictures.proofs.sheet.modules.print_bytes.Goals as goal

pub returns-in-Some : goal.returns-in-Some
returns-in-Some g c = rw c.in-Some.is c.print_lens_of_module.ensures

pub returns-in-None : goal.returns-in-None
returns-in-None g c = rw c.in-None.is c.print_module_figure.ensures
