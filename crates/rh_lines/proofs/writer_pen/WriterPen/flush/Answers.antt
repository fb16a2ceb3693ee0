use Rattle.std.proofs.Common.{ap, ◌∙◌, ◌∷◌, ◌++◌, append_assoc, append-nil, length, sym, take}
use Rattle.rh_lines.specs.Pens.{offered_of, output_code}
use Rattle.rh_lines.proofs.PenLemmas.{behind_none}
use Rattle.rh_lines.proofs.writer_pen.WriterPen.flush.Goals as goal

pub returns-then-self-clause-same : goal.returns-then-self-clause-same
unfolding offered_of
returns-then-self-clause-same g c =
    let s = c.args.self.now in
    let head = output_code s.begun.output in
    ap (λ l. s.writer.ghost_name ∷ length head ∷ (head ++ l))
    (append-nil (s.front.bytes ++ c.note.new.self.bytes) ∙ (ap (λ z. s.front.bytes ++ z) c.note.ensures
    ∙ sym (append_assoc s.front.bytes s.back.bytes (take s.held s.room.now))))

pub returns-clause-same : goal.returns-clause-same
unfolding offered_of
returns-clause-same g c =
    let s = c.args.self.now in
    let head = output_code s.begun.output in
    ap (λ l. s.writer.ghost_name ∷ length head ∷ (head ++ l))
    (append-nil (c.note-2.new.self.bytes ++ c.note-3.new.self.bytes)
    ∙ behind_none s.failed s.front.bytes s.back.bytes (take s.held s.room.now) c.note-2.new.self.bytes c.note-3.new.self.bytes c.put_front-count.result
    c.if-self.false s.none c.note-2.ensures c.note-3.ensures)
