use Rattle.rh_pages.specs.Inner.PagedLaws.{paged_small_law}
use Rattle.rh_pages.proofs.paged.store.PagedStoreStore.copy.Goals as goal

pub copy_across-requires-clause-small : goal.copy_across-requires-clause-small
copy_across-requires-clause-small g c = paged_small_law c.args.self.now c.args.id.0

pub copy_across-requires-clause-small2 : goal.copy_across-requires-clause-small2
copy_across-requires-clause-small2 g c = paged_small_law c.args.self.now c.args.id2.0
