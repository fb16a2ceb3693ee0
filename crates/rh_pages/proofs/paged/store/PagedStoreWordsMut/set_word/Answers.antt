use Rattle.rh_pages.proofs.Common.{refl, ◌∙◌, arith, w32, paged_memory, region_of}
use Rattle.std.specs.Int.{to_le_bytes}
use Rattle.rh_defs.specs.Bytes.{put_word}
use Rattle.rh_pages.proofs.Regions.{run_put}
use Rattle.rh_pages.proofs.Seats.{seat, still_long, on_from_place}
use Rattle.rh_pages.proofs.paged.store.PagedStoreWordsMut.set_word.Goals as goal

pub set_word-requires : goal.set_word-requires
set_word-requires g c =
    (seat c.args.self.now c.args.id.0 c.args.at 4 _ c.requires.opened (omega arith) c.requires.within (let t = c.if-offset.true in omega arith)
    (on_from_place c.args.self.now c.args.id.0 c.args.at c.place-start.result c.place-start.ensures.value)).within

pub invariant_of-self : goal.invariant_of-self
invariant_of-self g c =
    let s = c.args.self.now in let ws = to_le_bytes w32 c.args.w in
    let there = seat s c.args.id.0 c.args.at 4 _ c.requires.opened (omega arith) c.requires.within (let t = c.if-offset.true in omega arith)
    (on_from_place s c.args.id.0 c.args.at c.place-start.result c.place-start.ensures.value) in
    record {
      few = s.few;
      long = still_long s _ c.set_word.ensures.numbers;
      kept = there.kept _ _ ws (c.set_word.ensures.after ∙ run_put (region_of s) _ 4 ws refl there.within) c.set_word.ensures.numbers refl;
    }

pub returns-then-offset : goal.returns-then-offset
unfolding paged_memory put_word
returns-then-offset g c =
    let s = c.args.self.now in let ws = to_le_bytes w32 c.args.w in
    let there = seat s c.args.id.0 c.args.at 4 _ c.requires.opened (omega arith) c.requires.within (let t = c.if-offset.true in omega arith)
    (on_from_place s c.args.id.0 c.args.at c.place-start.result c.place-start.ensures.value) in
    there.memory _ _ ws (c.set_word.ensures.after ∙ run_put (region_of s) _ 4 ws refl there.within) c.set_word.ensures.numbers refl
