use Rattle.rh_store.proofs.Common.{subst, Some, with_part, part, bytes, length-put, MAX_AREAS, ChangedAt, memory_of, stays, memory-rewritten}
use Rattle.rh_store.proofs.plain.PlainStoreStore.copy.Goals as goal

pub invariant_of-self : goal.invariant_of-self
unfolding bytes memory_of
invariant_of-self c =
    let s = c.args.self.now in
    let old = bytes (memory_of s) c.args.id.0 in
    record {
      few = s.few;
      kept = stays s.areas.items _ c.args.id.0 (with_part old c.args.at2 (part old c.args.at c.args.n)) s.free s.pages MAX_AREAS s.kept c.slide_at.ensures
          c.requires.opened (length-put old c.args.at2 (part old c.args.at c.args.n));
    }

pub returns-then-id-id2 : goal.returns-then-id-id2
unfolding bytes memory_of
returns-then-id-id2 c =
    let s = c.args.self.now in
    let m = memory_of s in
    let set = subst (λ k. ChangedAt s.areas.items c.slide_at.new.areas.items k
    (Some (with_part (bytes m k) c.args.at2 (part (bytes m c.args.id.0) c.args.at c.args.n)))) c.if-id-id2.true c.slide_at.ensures in
    memory-rewritten s.areas.items _ c.args.id2.0 (with_part (bytes m c.args.id2.0) c.args.at2
    (part (bytes m c.args.id.0) c.args.at c.args.n)) s.free s.pages set

pub invariant_of-self-else-id-id2 : goal.invariant_of-self-else-id-id2
unfolding bytes memory_of
invariant_of-self-else-id-id2 c =
    let s = c.args.self.now in
    let old = bytes (memory_of s) c.args.id2.0 in
    let from = bytes (memory_of s) c.args.id.0 in
    record {
      few = s.few;
      kept = stays s.areas.items _ c.args.id2.0 (with_part old c.args.at2 (part from c.args.at c.args.n)) s.free s.pages MAX_AREAS s.kept c.copy_at.ensures
          c.requires.opened2 (length-put old c.args.at2 (part from c.args.at c.args.n));
    }

pub returns-else-id-id2 : goal.returns-else-id-id2
unfolding bytes memory_of
returns-else-id-id2 c =
    let s = c.args.self.now in
    let m = memory_of s in
    memory-rewritten s.areas.items _ c.args.id2.0 (with_part (bytes m c.args.id2.0) c.args.at2 (part (bytes m c.args.id.0) c.args.at c.args.n)) s.free s.pages
    c.copy_at.ensures
