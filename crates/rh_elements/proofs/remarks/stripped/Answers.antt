use Rattle.rh_elements.proofs.Common.{sym, ◌∙◌, remark_byte}
use Rattle.rh_elements.proofs.ListLemmas.{trimmed-kept, trimmed-less}
use Rattle.rh_elements.proofs.remarks.stripped.Goals as goal

pub returns-then-remark_byte-ne32 : goal.returns-then-remark_byte-ne32
returns-then-remark_byte-ne32 c =
    sym (c.loop-last.invariant
    ∙ trimmed-kept remark_byte _ _ _ c.in-Some.ensures.cases.0 (λ e. c.if-remark_byte-ne32.true (c.remark_byte.ensures ∙ e)))

pub loop-last-preserved : goal.loop-last-preserved
loop-last-preserved c =
    c.loop-last.invariant
    ∙ trimmed-less remark_byte _ _ _ c.in-Some.ensures.cases.0 (sym c.remark_byte.ensures ∙ c.if-remark_byte-ne32.false)
