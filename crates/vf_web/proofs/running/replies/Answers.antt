use Rattle.std.proofs.Common.{arith, sym, ◌∙◌}
use borrow.Author.Tests.{tests}
use Rattle.rh_lines.proofs.TextLemmas.{writes_all}
use Rattle.vf_web.proofs.Texts.{run_ended, never}
use Rattle.vf_web.proofs.running.replies.Goals as goal

pub unwrap-status-requires : goal.unwrap-status-requires
unwrap-status-requires g c =
    never c.replies_of.result _ c.replies_of.ensures.write_failed (λ e b. writes_all c.new-writer.result c.replies_of.new.writer b.written)

pub returns : goal.returns
returns g c =
    let e = run_ended _ c.args.script.now c.new-writer.result c.replies_of.new.writer c.unwrap-status.result c.new-writer.ensures.text
    (rw c.unwrap-status.ensures at c.replies_of.ensures.ok) in
    let same = sym (e.same ∙ c.new-writer.ensures.same_reference) in
    let before = e.before ∙ c.new-writer.ensures.before in
    let text = e.text_is in
    let status = e.status_is in
    record { text = record { status_is = grind (arith, tests); written = grind arith; length_is = grind arith } }
