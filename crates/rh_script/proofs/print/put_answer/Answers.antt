use Rattle.rh_script.proofs.print.put_answer.Goals as goal

pub returns-in-Show : goal.returns-in-Show
returns-in-Show g c = rw (c.in-Show.is) c.print_shown.ensures

pub returns-in-Blocks : goal.returns-in-Blocks
returns-in-Blocks g c = rw (c.in-Blocks.is) c.print_blocks.ensures

pub returns-in-Heap : goal.returns-in-Heap
returns-in-Heap g c = rw (c.in-Heap.is) c.print_heap.ensures

pub returns-in-Status : goal.returns-in-Status
returns-in-Status g c = rw (c.in-Status.is) c.print_status.ensures

pub returns-in-Areas : goal.returns-in-Areas
returns-in-Areas g c = rw (c.in-Areas.is) c.print_areas.ensures

pub returns-in-Read : goal.returns-in-Read
returns-in-Read g c = rw (c.in-Read.is) c.print_read.ensures
