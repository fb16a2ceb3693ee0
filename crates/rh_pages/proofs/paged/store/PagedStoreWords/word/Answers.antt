use Rattle.rh_pages.proofs.Common.{◌∙◌, arith, bytes, paged_memory, region_of}
use Rattle.rh_pages.proofs.Regions.{word_there}
use Rattle.rh_pages.proofs.Seats.{seat, on_from_place}
use Rattle.rh_pages.proofs.paged.store.PagedStoreWords.word.Goals as goal

pub word-requires : goal.word-requires
word-requires g c =
    (seat c.args.self.now c.args.id.0 c.args.at 4 _ c.requires.opened (omega arith) c.requires.within (let t = c.if-offset.true in omega arith)
    (on_from_place c.args.self.now c.args.id.0 c.args.at c.place-start.result c.place-start.ensures.value)).within

pub returns-then-offset : goal.returns-then-offset
returns-then-offset g c =
    let s = c.args.self.now in
    let there = seat s c.args.id.0 c.args.at 4 _ c.requires.opened (omega arith) c.requires.within (let t = c.if-offset.true in omega arith)
    (on_from_place s c.args.id.0 c.args.at c.place-start.result c.place-start.ensures.value) in
    c.word.ensures ∙ word_there (region_of s) (bytes (paged_memory s) c.args.id.0) _ c.args.at there.within there.read
