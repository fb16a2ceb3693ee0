use Rattle.rh_lent_slot.proofs.Common.{◌≡◌, ◌+◌, ◌-◌, ◌*◌, ◌≤◌, length, sym, ap, ◌∙◌, arith, PAGE, part, bytes, length-part, lent_pages_memory}
use Rattle.rh_lent_slot.proofs.Over.{lent_length, part_in}
use Rattle.rh_lent_slot.proofs.pages_mut.LentPagesMutWords.run.Goals as goal

pub overflow_sub-n : goal.overflow_sub-n
overflow_sub-n c =
    omega (arith, lent_length c.args.self.now c.args._id.0 c.requires.opened, c.args.self.now.within, c.requires.within)

pub part_of-requires : goal.part_of-requires
part_of-requires c =
    omega (arith, lent_length c.args.self.now c.args._id.0 c.requires.opened, c.args.self.now.within, c.requires.within)

pub returns-clause-bytes : goal.returns-clause-bytes
returns-clause-bytes c =
    let s = c.args.self.now in
    let id = c.args._id.0 in
    let n = PAGE * s.pages - c.args.at in
    let all : c.args.at + n ≤ length (bytes (lent_pages_memory s) id) =
    omega (arith, lent_length s id c.requires.opened, c.requires.within) in
    let long : length c.part_of.result.now ≡ n = ap length c.part_of.ensures ∙ length-part s.bytes.now c.args.at n in
    c.part_of.ensures ∙ part_in s id c.requires.opened c.args.at n all
    ∙ ap (part (bytes (lent_pages_memory s) id) c.args.at) (sym long)

pub returns-clause-some : goal.returns-clause-some
returns-clause-some c =
    let s = c.args.self.now in
    let n = PAGE * s.pages - c.args.at in
    let long : length c.part_of.result.now ≡ n = ap length c.part_of.ensures ∙ length-part s.bytes.now c.args.at n in
    omega (arith, lent_length s c.args._id.0 c.requires.opened, c.requires.within, long)
