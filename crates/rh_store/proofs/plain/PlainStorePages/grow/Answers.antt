use Rattle.rh_store.proofs.Common.{◌≡◌, ◌+◌, ◌-◌, ◌*◌, ◌++◌, ℕ, length, replicate, subst, ap, ◌∙◌, arith, Some, bytes, MAX_AREAS, PAGE, ChangedAt}
use Rattle.rh_store.proofs.Common.{numbered_areas, memory_of, changed, open_index}
use Rattle.std.proofs.lemmas.List.{length-replicate}
use Rattle.std.proofs.Math.ListN.{length-append}
use Rattle.rh_store.specs.Inner.Kept.{whole_areas, within_pool}
use Rattle.rh_store.proofs.AreasLaws.{memory-grown, room_at-all}
use Rattle.rh_store.proofs.plain.PlainStorePages.grow.Goals as goal

pub overflow_add-n : goal.overflow_add-n
unfolding memory_of
overflow_add-n c =
    let s = c.args.self.now in
    let fits = within_pool s.areas.items s.free s.pages MAX_AREAS c.args.id.0 s.kept in
    omega (arith, fits, c.len.ensures, s.few)

pub lengthen_at-requires-clause-room : goal.lengthen_at-requires-clause-room
unfolding memory_of
lengthen_at-requires-clause-room c =
    let s = c.args.self.now in
    let fits = within_pool s.areas.items s.free s.pages MAX_AREAS c.args.id.0 s.kept in
    let room = room_at-all s.pages s.areas.items c.args.id.0 s.kept.reserved (open_index s.areas.items c.args.id.0 c.requires) in
    omega (arith, fits, room, c.len.ensures)

pub invariant_of-self : goal.invariant_of-self
unfolding bytes memory_of
invariant_of-self c =
    let s = c.args.self.now in
    let n = PAGE * c.args.pages in
    let old = bytes (memory_of s) c.args.id.0 in
    let more : c.len.result + n - length old ≡ n = omega (arith, c.len.ensures) in
    let set = subst (λ k. ChangedAt s.areas.items c.lengthen_at.new.areas.items c.args.id.0 (Some (old ++ replicate k 0))) more c.lengthen_at.ensures in
    let len : length (old ++ replicate n 0) ≡ length old + n = length-append old (replicate n 0) ∙ ap (λ k. length old + k) (length-replicate {A = ℕ} n 0) in
    let whole = whole_areas s.areas.items s.free s.pages MAX_AREAS c.args.id.0 s.kept in
    let h = numbered_areas s.areas.items s.free s.pages MAX_AREAS c.args.id.0 s.kept c.requires in
    record {
      few = s.few;
      kept = changed s.areas.items _ c.args.id.0 (Some (old ++ replicate n 0)) s.free (s.free - c.args.pages) s.pages MAX_AREAS s.kept set h
          (omega (arith, len, whole)) (omega (arith, len, whole));
    }

pub returns-clause-ok : goal.returns-clause-ok
unfolding bytes memory_of
returns-clause-ok c =
    let s = c.args.self.now in
    let n = PAGE * c.args.pages in
    let old = bytes (memory_of s) c.args.id.0 in
    let more : c.len.result + n - length old ≡ n = omega (arith, c.len.ensures) in
    let set = subst (λ k. ChangedAt s.areas.items c.lengthen_at.new.areas.items c.args.id.0 (Some (old ++ replicate k 0))) more c.lengthen_at.ensures in
    memory-grown s.areas.items _ c.args.id.0 c.args.pages s.free s.pages set
