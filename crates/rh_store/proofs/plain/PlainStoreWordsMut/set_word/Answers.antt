use Rattle.rh_store.proofs.Common.{bytes, MAX_AREAS, memory_of, stays, memory-rewritten}
use Rattle.rh_defs.specs.Bytes.{put_word}
use Rattle.rh_defs.proofs.BytesLaws.{length-put_word}
use Rattle.rh_store.proofs.plain.PlainStoreWordsMut.set_word.Goals as goal

pub invariant_of-self : goal.invariant_of-self
unfolding bytes memory_of
invariant_of-self c =
    let s = c.args.self.now in
    let old = bytes (memory_of s) c.args.id.0 in
    record {
      few = s.few;
      kept = stays s.areas.items _ c.args.id.0 (put_word old c.args.at c.args.w) s.free s.pages MAX_AREAS s.kept c.set_word_at.ensures
          c.requires.opened (length-put_word old c.args.at c.args.w);
    }

pub returns : goal.returns
unfolding bytes memory_of
returns c =
    let s = c.args.self.now in
    let old = bytes (memory_of s) c.args.id.0 in
    memory-rewritten s.areas.items _ c.args.id.0 (put_word old c.args.at c.args.w) s.free s.pages c.set_word_at.ensures
