use Rattle.rh_lent_slot.proofs.Common.{◌≡◌, ◌+◌, ◌-◌, ◌*◌, ◌≤◌, length, sym, ap, ◌∙◌, arith, PAGE, part, bytes, length-part, pages_memory_shown}
use Rattle.rh_lent_slot.proofs.Over.{shown_length, shown_part}
use Rattle.rh_lent_slot.proofs.pages.LentPagesWords.run.Goals as goal

pub overflow_sub-n : goal.overflow_sub-n
overflow_sub-n c =
    omega (arith, shown_length c.args.self.now c.args._id.0 c.requires.opened, c.args.self.now.within, c.requires.within)

pub part_of-requires : goal.part_of-requires
part_of-requires c =
    omega (arith, shown_length c.args.self.now c.args._id.0 c.requires.opened, c.args.self.now.within, c.requires.within)

pub returns-clause-bytes : goal.returns-clause-bytes
returns-clause-bytes c =
    let s = c.args.self.now in
    let id = c.args._id.0 in
    let n = PAGE * s.pages - c.args.at in
    let all : c.args.at + n ≤ length (bytes (pages_memory_shown s) id) =
    omega (arith, shown_length s id c.requires.opened, c.requires.within) in
    let long : length c.part_of.result.now ≡ n = ap length c.part_of.ensures ∙ length-part s.bytes.now c.args.at n in
    c.part_of.ensures ∙ shown_part s id c.requires.opened c.args.at n all
    ∙ ap (part (bytes (pages_memory_shown s) id) c.args.at) (sym long)

pub returns-clause-some : goal.returns-clause-some
returns-clause-some c =
    let s = c.args.self.now in
    let n = PAGE * s.pages - c.args.at in
    let long : length c.part_of.result.now ≡ n = ap length c.part_of.ensures ∙ length-part s.bytes.now c.args.at n in
    omega (arith, shown_length s c.args._id.0 c.requires.opened, c.requires.within, long)
