use Rattle.rh_store.proofs.Common.{with_part, bytes, length-put, MAX_AREAS, memory_of, stays, memory-rewritten}
use Rattle.rh_store.proofs.plain.PlainStoreWordsMut.copy_in.Goals as goal

pub invariant_of-self : goal.invariant_of-self
unfolding bytes memory_of
invariant_of-self c =
    let s = c.args.self.now in
    let old = bytes (memory_of s) c.args.id.0 in
    record {
      few = s.few;
      kept = stays s.areas.items _ c.args.id.0 (with_part old c.args.at c.args.from.now) s.free s.pages MAX_AREAS s.kept c.put_at.ensures c.requires.opened
          (length-put old c.args.at c.args.from.now);
    }

pub returns : goal.returns
unfolding bytes memory_of
returns c =
    let s = c.args.self.now in
    let old = bytes (memory_of s) c.args.id.0 in
    memory-rewritten s.areas.items _ c.args.id.0 (with_part old c.args.at c.args.from.now) s.free s.pages c.put_at.ensures
