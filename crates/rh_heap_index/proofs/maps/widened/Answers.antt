use Rattle.rh_heap_index.proofs.KeptLaws.{loosened}
use Rattle.rh_heap_index.proofs.maps.widened.Goals as goal

pub returns-clause-others : goal.returns-clause-others
returns-clause-others c = loosened c.args.maps.now.items _ _ c.args.id c.roomy-map.ensures.others c.put_back.ensures
