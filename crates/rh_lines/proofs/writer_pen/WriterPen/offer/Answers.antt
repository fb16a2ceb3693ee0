use Rattle.std.proofs.Common.{ap, ◌∙◌, ◌++◌, append_assoc, sym}
use Rattle.rh_lines.specs.Pens.{offered_of, output_code, text_of}
use Rattle.rh_lines.proofs.PenLemmas.{behind_none, coded_more, offered_more}
use Rattle.rh_lines.proofs.writer_pen.WriterPen.offer.Goals as goal

pub returns-then-self : goal.returns-then-self
unfolding offered_of
returns-then-self g c =
    let s = c.args.self.now in
    coded_more s.writer.ghost_name (output_code s.begun.output) (text_of s) _ c.args.bytes.now
    (offered_more s.front.bytes s.back.bytes s.room.now c.args.bytes.now s.front.bytes c.note.new.self.bytes s.held c.requires
    (ap (λ z. s.front.bytes ++ z) c.note.ensures ∙ sym (append_assoc s.front.bytes s.back.bytes c.args.bytes.now)))

pub returns : goal.returns
unfolding offered_of
returns g c =
    let s = c.args.self.now in
    coded_more s.writer.ghost_name (output_code s.begun.output) (text_of s) _ c.args.bytes.now
    (offered_more s.front.bytes s.back.bytes s.room.now c.args.bytes.now c.note-2.new.self.bytes c.note-3.new.self.bytes s.held c.requires
    (behind_none s.failed s.front.bytes s.back.bytes c.args.bytes.now c.note-2.new.self.bytes c.note-3.new.self.bytes c.put_front-count.result
    c.if-self.false s.none c.note-2.ensures c.note-3.ensures))
