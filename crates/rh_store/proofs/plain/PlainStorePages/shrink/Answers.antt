use Rattle.rh_store.proofs.Common.{◌+◌, ◌-◌, ◌*◌, length, take, subst, arith, Some, bytes, MAX_AREAS, PAGE, ChangedAt, numbered_areas, memory_of, changed}
use Rattle.std.proofs.lemmas.List.{length-take-le}
use Rattle.rh_store.specs.Inner.Kept.{whole_areas}
use Rattle.rh_store.proofs.AreasLaws.{memory-shrunk}
use Rattle.rh_store.proofs.plain.PlainStorePages.shrink.Goals as goal

pub invariant_of-self : goal.invariant_of-self
unfolding bytes memory_of
invariant_of-self c =
    let s = c.args.self.now in
    let old = bytes (memory_of s) c.args.id.0 in
    let n = length old - PAGE * c.args.pages in
    let set = subst (λ k. ChangedAt s.areas.items c.shorten_at.new.areas.items c.args.id.0 (Some (take (k - PAGE * c.args.pages) old))) c.len.ensures
    c.shorten_at.ensures in
    let len = length-take-le n old (omega arith) in
    let whole = whole_areas s.areas.items s.free s.pages MAX_AREAS c.args.id.0 s.kept in
    let h = numbered_areas s.areas.items s.free s.pages MAX_AREAS c.args.id.0 s.kept c.requires.opened in
    record {
      few = s.few;
      kept = changed s.areas.items _ c.args.id.0 (Some (take n old)) s.free (s.free + c.args.pages) s.pages MAX_AREAS s.kept set h
          (omega (arith, len, whole, c.requires.within)) (omega (arith, len, whole, c.requires.within));
    }

pub returns : goal.returns
unfolding bytes memory_of
returns c =
    let s = c.args.self.now in
    let old = bytes (memory_of s) c.args.id.0 in
    let set = subst (λ k. ChangedAt s.areas.items c.shorten_at.new.areas.items c.args.id.0 (Some (take (k - PAGE * c.args.pages) old))) c.len.ensures
    c.shorten_at.ensures in
    memory-shrunk s.areas.items _ c.args.id.0 c.args.pages s.free s.pages set
