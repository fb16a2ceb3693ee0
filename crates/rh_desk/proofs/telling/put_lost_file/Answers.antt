use Rattle.std.proofs.Common.{append_assoc}
use Rattle.rh_desk.proofs.telling.put_lost_file.Goals as goal

pub returns : goal.returns
returns g c = simp (c.put-3.ensures, c.put-2.ensures, c.put_path.ensures, c.put.ensures, c.text.ensures, append_assoc)
