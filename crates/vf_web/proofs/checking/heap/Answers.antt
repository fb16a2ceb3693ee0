use Rattle.std.proofs.Common.{arith, sym, ◌∙◌}
use borrow.Author.Tests.{tests}
use Rattle.rh_lines.proofs.TextLemmas.{writes_all}
use Rattle.vf_web.proofs.Texts.{ended, never}
use Rattle.vf_web.proofs.checking.heap.Goals as goal

pub unwrap-status-requires : goal.unwrap-status-requires
unwrap-status-requires c =
    never c.check_image.result _ c.check_image.ensures.err (λ e h. writes_all c.new-writer.result c.check_image.new.writer h.1)

pub returns : goal.returns
returns c =
    let e = ended c.new-writer.result c.check_image.new.writer _ c.new-writer.ensures.text (rw c.unwrap-status.ensures at c.check_image.ensures.ok)
    (rw c.unwrap-status.ensures at c.check_image.ensures.status) in
    let same = sym (e.same ∙ c.new-writer.ensures.same_reference) in
    let before = e.before ∙ c.new-writer.ensures.before in
    let text = e.text_is in
    let status = e.status_is in
    record { status_is = grind (arith, tests); written = grind arith; length_is = grind arith }
