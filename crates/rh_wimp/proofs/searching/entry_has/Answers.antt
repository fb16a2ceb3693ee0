use Rattle.rh_wimp.specs.Inner.Searches.{wants}
use Rattle.rh_wimp.proofs.SearchLaws.{chain-decides, held-has_it}
use Rattle.rh_wimp.proofs.searching.entry_has.Goals as goal

pub returns-then-held_has : goal.returns-then-held_has
returns-then-held_has g c = λ r l few. held-has_it (wants c.args.wanted.now) r c.held_has.result (c.held_has.ensures r.held l.held) c.if-held_has.true

pub returns : goal.returns
returns g c = λ r l few. chain-decides (wants c.args.wanted.now) r c.held_has.result c.chain_has.result (c.held_has.ensures r.held l.held)
    c.if-held_has.false (c.chain_has.ensures r.chain l.first l.chain few)
