use Rattle.rh_script.proofs.listed.print_counted.Goals as goal

pub returns : goal.returns
returns g c = rw (c.add_number.ensures, c.new-row.ensures) at c.print_items.ensures
