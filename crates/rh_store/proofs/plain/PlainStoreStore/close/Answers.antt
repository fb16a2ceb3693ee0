use Rattle.rh_store.proofs.Common.{◌+◌, ◌/◌, refl, ap, ◌∙◌, arith, None, bytes, MAX_AREAS, PAGE, numbered_areas, memory_of, changed}
use Rattle.rh_store.specs.Areas.{memory_in}
use Rattle.rh_store.proofs.AreasLaws.{memory-closed}
use Rattle.rh_store.proofs.plain.PlainStoreStore.close.Goals as goal

pub invariant_of-self : goal.invariant_of-self
unfolding bytes memory_of
invariant_of-self c =
    let s = c.args.self.now in
    let h = numbered_areas s.areas.items s.free s.pages MAX_AREAS c.args.id.0 s.kept c.requires in
    record {
      few = s.few;
      kept = changed s.areas.items _ c.args.id.0 None s.free (s.free + c.len.result / PAGE) s.pages MAX_AREAS s.kept c.close_at.ensures h refl
          (omega (arith, ap (λ k. s.free + k / PAGE) c.len.ensures));
    }

pub returns : goal.returns
unfolding memory_of
returns c =
    let s = c.args.self.now in
    ap (λ k. memory_in c.close_at.new.areas.items (s.free + k / PAGE) s.pages) c.len.ensures
    ∙ memory-closed s.areas.items _ c.args.id.0 s.free s.pages c.close_at.ensures
