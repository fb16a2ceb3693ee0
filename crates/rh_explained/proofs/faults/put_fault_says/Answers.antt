use Rattle.rh_explained.proofs.faults.put_fault_says.Goals as goal

pub returns-in-TooLong : goal.returns-in-TooLong
returns-in-TooLong g c = rw c.in-TooLong.is c.put.ensures

pub returns-in-Unended : goal.returns-in-Unended
returns-in-Unended g c = rw c.in-Unended.is c.put-in-Unended.ensures
