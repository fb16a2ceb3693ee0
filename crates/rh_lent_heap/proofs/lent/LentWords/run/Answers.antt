use Rattle.rh_lent_heap.proofs.Common.{List, ℕ, ◌-◌, length, sym, ap, ◌∙◌, arith, part}
use Rattle.rh_defs.proofs.BytesLaws.{length-part}
use Rattle.rh_lent_heap.proofs.Over.{shown_bytes}
use Rattle.rh_lent_heap.proofs.lent.LentWords.run.Goals as goal

pub overflow_sub-n : goal.overflow_sub-n
overflow_sub-n c =
    omega (arith, ap length (shown_bytes c.args.self.now c.args._id.0 c.requires.opened), c.requires.within)

pub part_of-requires : goal.part_of-requires
part_of-requires c =
    omega (arith, ap length (shown_bytes c.args.self.now c.args._id.0 c.requires.opened), c.requires.within)

pub returns-clause-bytes : goal.returns-clause-bytes
returns-clause-bytes c =
    let s = c.args.self.now in
    let at = c.args.at in
    let is = shown_bytes s c.args._id.0 c.requires.opened in
    let long = ap length c.part_of.ensures ∙ length-part s.bytes.now at (length s.bytes.now - at) in
    c.part_of.ensures ∙ ap (part s.bytes.now at) (sym long)
    ∙ ap (λ (b : List ℕ). part b at (length c.part_of.result.now)) (sym is)

pub returns-clause-some : goal.returns-clause-some
returns-clause-some c =
    let s = c.args.self.now in
    let is = ap length (shown_bytes s c.args._id.0 c.requires.opened) in
    let long = ap length c.part_of.ensures ∙ length-part s.bytes.now c.args.at (length s.bytes.now - c.args.at) in
    omega (arith, is, c.requires.within, long)
