use Rattle.std.proofs.Common.{ap, ◌∙◌, ◌++◌, append_assoc, sym, take}
use Rattle.rh_lines.specs.Pens.{offered_of, output_code, text_of}
use Rattle.rh_lines.proofs.PenLemmas.{coded_more}
use Rattle.rh_lines.proofs.writer_pen.WriterPen.hold.Goals as goal

pub returns : goal.returns
unfolding offered_of
returns g c =
    let s = c.args.self.now in
    let front = s.front.bytes ++ s.back.bytes in
    coded_more s.writer.ghost_name (output_code s.begun.output) (text_of s) _ c.args.bytes.now
    (ap (λ z. front ++ z) c.put_at.ensures.front ∙ sym (append_assoc front (take s.held s.room.now) c.args.bytes.now))
