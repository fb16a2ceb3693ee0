use Rattle.std.proofs.Common.{◌≡◌, arith, ap, ◌∙◌, ◌+◌, ◌++◌, ◌∷◌, sym, length, take, length-take-le}
use Rattle.std.specs.Prelude.{nat_lt, ◌&&◌}
use Rattle.std.proofs.lemmas.List.{take_rest}
use Rattle.rh_lines.specs.WholeText.{text_offered}
use Rattle.rh_lines.proofs.TextLemmas.{full-later, rest-later, rest-put, counted-later, offered}
use Rattle.rh_lines.proofs.whole_text.WholeText.add_part.Goals as goal

pub invariant_of-self : goal.invariant_of-self
invariant_of-self c =
    let s = c.args.self.now in
    let noted = c.note.ensures ∙ ap (λ l. s.beyond.bytes ++ l) (take_rest c.args.bytes.now c.min-part.result) in
    record {
      fits = omega arith;
      same = s.same;
      rest = rest-later s.bytes.now s.before.bytes s.taken c.min-part.result s.rest;
      full = full-later s.beyond.bytes c.args.bytes.now c.note.new.self.bytes s.taken c.min-part.result (length s.bytes.now) noted c.min-part.ensures s.fits
          s.full;
      counted = counted-later s.beyond.bytes c.args.bytes.now c.note.new.self.bytes s.taken c.min-part.result (length s.bytes.now) s.count
          c.saturating_add-self.result noted c.min-part.ensures s.counted c.saturating_add-self.ensures;
    }

pub invariant_of-self-2 : goal.invariant_of-self-2
invariant_of-self-2 c =
    let s = c.args.self.now in
    let noted = c.note.ensures ∙ ap (λ l. s.beyond.bytes ++ l) (take_rest c.args.bytes.now c.min-part.result) in
    let part : length (take c.min-part.result c.args.bytes.now) ≡ c.min-part.result = length-take-le c.min-part.result c.args.bytes.now (omega arith) in
    record {
      fits = omega arith;
      same = c.put_at.auto.to ∙ s.same;
      rest = rest-put c.put_at.new.to s.bytes.now s.before.bytes s.taken c.min-part.result _ part c.put_at.ensures.rest s.rest;
      full = ap (λ n. nat_lt (s.taken + c.min-part.result) n && nat_lt 0 (length c.note.new.self.bytes)) c.put_at.auto.to
          ∙ full-later s.beyond.bytes c.args.bytes.now c.note.new.self.bytes s.taken c.min-part.result (length s.bytes.now) noted c.min-part.ensures s.fits
          s.full;
      counted = counted-later s.beyond.bytes c.args.bytes.now c.note.new.self.bytes s.taken c.min-part.result (length s.bytes.now) s.count
          c.saturating_add-self.result noted c.min-part.ensures s.counted c.saturating_add-self.ensures;
    }

pub returns : goal.returns
unfolding text_offered
returns c =
    let s = c.args.self.now in
    let noted = c.note.ensures ∙ ap (λ l. s.beyond.bytes ++ l) (take_rest c.args.bytes.now c.min-part.result) in
    let part : length (take c.min-part.result c.args.bytes.now) ≡ c.min-part.result = length-take-le c.min-part.result c.args.bytes.now (omega arith) in
    ap (λ l. s.bytes.ghost_name ∷ length s.before.bytes ∷ l)
    (offered s.before.bytes (take s.taken s.bytes.now) c.args.bytes.now s.beyond.bytes c.note.new.self.bytes
    (take (s.taken + c.min-part.result) c.put_at.new.to) s.taken c.min-part.result (length s.bytes.now) noted c.min-part.ensures s.fits s.full
    (ap (λ n. take (s.taken + n) c.put_at.new.to) (sym part) ∙ c.put_at.ensures.front))
