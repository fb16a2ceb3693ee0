use Rattle.std.proofs.Common.{arith, sym, ◌∙◌}
use borrow.Author.Tests.{tests}
use Rattle.rh_lines.proofs.TextLemmas.{writes_all}
use Rattle.vf_web.proofs.Texts.{sheet_ended, never}
use Rattle.vf_web.proofs.running.sheet.Goals as goal

pub unwrap-status-requires : goal.unwrap-status-requires
unwrap-status-requires g c =
    never c.sheet_of.result _ c.sheet_of.ensures.write_failed (λ e b. writes_all c.new-writer.result c.sheet_of.new.writer b.broken)

pub returns : goal.returns
returns g c =
    let m = sheet_ended c.args.form c.args.name.now _ c.args.script.now c.new-writer.result c.sheet_of.new.writer c.unwrap-status.result
    c.new-writer.ensures.text (rw c.unwrap-status.ensures at c.sheet_of.ensures.ok) in
    let e = m.ends in
    let same = sym (e.same ∙ c.new-writer.ensures.same_reference) in
    let before = e.before ∙ c.new-writer.ensures.before in
    let text = e.text_is in
    let status = e.status_is in
    record {
      text =
          record { text = m.text; sheet = m.sheet; given = record { status_is = grind (arith, tests); written = grind arith; length_is = grind arith } };
    }
