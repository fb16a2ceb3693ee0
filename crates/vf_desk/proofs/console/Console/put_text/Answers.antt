use Rattle.std.proofs.Common.{◌∙◌, ap, min, rules, sym, length, ◌^◌, ◌-◌, ◌++◌}
use Rattle.rh_lines.specs.WholeText.{before_of, filled}
use Rattle.rh_lines.proofs.TextLemmas.{added}
use Rattle.vf_desk.specs.Said.{said_text}
use Rattle.vf_desk.proofs.PrintLaws.{bytes-are}
use Rattle.vf_desk.proofs.console.Console.put_text.Goals as goal

pub returns-clause-length : goal.returns-clause-length
returns-clause-length c = λ d seen.
    let text = said_text d c.args.self.now.said in
    let w = added (c.put.ensures d seen) in
    c.length.ensures.value ∙ ap (λ l. min (length l) (2 ^ 64 - 1)) (w.text ∙ ap (λ l. l ++ text) c.new-text.ensures.text)

pub returns-clause-bytes : goal.returns-clause-bytes
returns-clause-bytes c = λ d seen.
    let text = said_text d c.args.self.now.said in
    let w = added (c.put.ensures d seen) in
    let same = sym (w.same_reference ∙ c.new-text.ensures.same_reference) in
    bytes-are (c.length.ensures.bytes ∙ ap (λ l. filled l (before_of c.put.new.pen)) (w.text ∙ ap (λ l. l ++ text) c.new-text.ensures.text)
    ∙ ap (filled text) (w.before ∙ c.new-text.ensures.before)) (search rules)
