use Rattle.rh_desk.proofs.DoneLemmas.{cut-file}
use Rattle.rh_desk.proofs.files.read_into.Goals as goal

pub returns : goal.returns
returns g c =
    (c.in_ok-file.file, cut-file g.R.File.Read.remaining _ _ _ _ _ c.take.ensures.limit c.take.ensures.inner c.in_ok-read_to_end.ensures.bytes)
