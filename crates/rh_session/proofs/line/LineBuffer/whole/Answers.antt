use Rattle.std.proofs.Common.{◌++◌, ◌∙◌, ap}
use Rattle.rh_session.specs.Lines.{kept}
use Rattle.rh_session.proofs.LineLemmas.{kept_kept}
use Rattle.rh_session.proofs.line.LineBuffer.whole.Goals as goal

pub returns : goal.returns
returns c =
    ap kept (c.as_slice-2.ensures.value ∙ c.add.ensures.value) ∙ kept_kept (c.args.self.now ++ c.args.bytes.now)
