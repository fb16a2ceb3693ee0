use Rattle.rh_pages.proofs.Common.{ap, ◌∙◌, with_part, bytes, with_bytes, paged_memory}
use Rattle.rh_defs.specs.Bytes.{put_word}
use Rattle.rh_pages.proofs.paged.PagedStore.set_word_across.Goals as goal

pub returns : goal.returns
unfolding put_word
returns g c =
    let m = paged_memory c.args.self.now in let id = c.args.id.0 in
    c.copy_in.ensures ∙ ap (λ l. with_bytes m id (with_part (bytes m id) c.args.at l)) c.to_le_bytes.ensures
