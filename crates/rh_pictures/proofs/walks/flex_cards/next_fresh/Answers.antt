use Rattle.rh_pictures.proofs.Common.{sym, ◌∙◌, BlockItem, is_fresh_flex, scene_at}
use Rattle.rh_pictures.proofs.CardLemmas.{behind-here, behind-none, behind-on}
use Rattle.rh_pictures.proofs.walks.flex_cards.next_fresh.Goals as goal

pub returns-then-is_fresh_flex : goal.returns-then-is_fresh_flex
returns-then-is_fresh_flex c = λ d.
    let test = λ (b : BlockItem). is_fresh_flex (scene_at d c.args.step.now) c.args.task.now.handle b.anchor b.size in
    behind-here test c.loop-k.k c.args.blocks.now c.index-blocks-k.result c.loop-k-test.true c.index-blocks-k.is
    (sym (c.is_fresh_flex.ensures d) ∙ c.if-is_fresh_flex.true) ∙ c.loop-k.invariant d

pub loop-k-preserved : goal.loop-k-preserved
loop-k-preserved c = λ d.
    let test = λ (b : BlockItem). is_fresh_flex (scene_at d c.args.step.now) c.args.task.now.handle b.anchor b.size in
    behind-on test c.loop-k.k c.args.blocks.now c.index-blocks-k.result c.loop-k-test.true c.index-blocks-k.is
    (sym (c.is_fresh_flex.ensures d) ∙ c.if-is_fresh_flex.false) ∙ c.loop-k.invariant d

pub returns : goal.returns
returns c = λ d.
    let test = λ (b : BlockItem). is_fresh_flex (scene_at d c.args.step.now) c.args.task.now.handle b.anchor b.size in
    behind-none test c.loop-k.k c.args.blocks.now c.loop-k-test.false ∙ c.loop-k.invariant d
