use Rattle.std.proofs.Common.{sym, subst, ◌∙◌}
use Rattle.rh_slot.proofs.AnchorCounts.{WordsTo, words_start, words_on, words_past, words_end}
use Rattle.rh_slot.proofs.image.anchors_in_use.Goals as goal
use Rattle.rh_slot.proofs.image.anchors_in_use.Goals.{then-word_in-ne0, else-word_in-ne0}

pub walk-init : goal.walk-init
walk-init c = words_start _

pub walk-preserved : goal.walk-preserved
walk-preserved c = elim c.if-word_in-ne0.branch [
  | then-word_in-ne0 w ↦ subst (WordsTo _ _) (sym w.used-is) (words_on _ _ _ c.walk.invariant c.walk-test.true
      (λ e. w.if-word_in-ne0.true (c.word_in.ensures ∙ e)))
  | else-word_in-ne0 w ↦ subst (WordsTo _ _) (sym w.used-is) (words_past _ _ _ c.walk.invariant c.walk-test.true
      (sym c.word_in.ensures ∙ w.if-word_in-ne0.false))
]

pub returns : goal.returns
returns c = words_end _ _ _ c.walk.invariant c.walk-test.false
