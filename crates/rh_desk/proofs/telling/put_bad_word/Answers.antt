use Rattle.std.proofs.Common.{append_assoc}
use Rattle.rh_desk.proofs.telling.put_bad_word.Goals as goal

pub returns : goal.returns
returns g c =
    simp (c.put-3.ensures, c.put-2.ensures, c.put_shown.ensures, c.put.ensures, c.as_bytes.ensures.value, c.text.ensures, c.of.ensures, append_assoc)
