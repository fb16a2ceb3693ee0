use Rattle.rh_map.specs.MapCards.{use_text}
use Rattle.rh_map.proofs.CardLemmas.{flex-line}
use Rattle.rh_map.proofs.cards.print_flex_card.Goals as goal

pub returns : goal.returns
returns g c = λ bytes p.
    let block = c.args.block.now in
    rw (← flex-line block.address c.args.anchor block.size block.front.now (use_text block.usage) bytes
    c.flex_name.result block.fresh p c.flex_name.ensures.value)
    c.print_block.ensures
