use Rattle.std.proofs.Common.{arith, rules}
use Rattle.rh_map.proofs.FrontLemmas.{counted-more, kept-more}
use Rattle.rh_map.proofs.front.FrontPen.put.Goals as goal

pub invariant_of-self : goal.invariant_of-self
invariant_of-self c =
    let s = c.self.inside in
    let held = c.self.invariant in (
      omega (arith, held.0, c.min-count.ensures),
      (
        kept-more s.bytes s.text.bytes c.args.bytes.now c.note.new.self.bytes _ s.len c.min-count.result _ c.note.ensures (search (rules, held)) held.1.0
            c.min-count.ensures (search rules),
        counted-more s.text.bytes c.args.bytes.now c.note.new.self.bytes s.lines c.count_lines.result c.saturating_add-self-inside.result _ c.note.ensures
            held.1.1 c.count_lines.ensures c.saturating_add-self-inside.ensures,
      ),
    )
