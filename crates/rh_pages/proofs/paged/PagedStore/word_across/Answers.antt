use Rattle.rh_pages.proofs.Common.{ap, ◌∙◌, w32, bytes, paged_memory}
use Rattle.std.specs.Int.{from_le_bytes}
use Rattle.rh_pages.proofs.Regions.{word-part_4}
use Rattle.rh_pages.proofs.paged.PagedStore.word_across.Goals as goal

pub returns : goal.returns
returns g c = c.from_le_bytes.ensures ∙ ap (from_le_bytes w32) c.copy_out.ensures ∙ word-part_4 (bytes (paged_memory c.args.self.now) c.args.id.0) c.args.at
