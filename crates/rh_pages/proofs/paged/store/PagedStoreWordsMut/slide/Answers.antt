use Rattle.rh_pages.specs.Inner.PagedLaws.{paged_small_law}
use Rattle.rh_pages.proofs.paged.store.PagedStoreWordsMut.slide.Goals as goal

pub slide_down-requires-clause-small : goal.slide_down-requires-clause-small
slide_down-requires-clause-small g c = paged_small_law c.args.self.now c.args.id.0

pub slide_up-requires-clause-small : goal.slide_up-requires-clause-small
slide_up-requires-clause-small g c = paged_small_law c.args.self.now c.args.id.0
