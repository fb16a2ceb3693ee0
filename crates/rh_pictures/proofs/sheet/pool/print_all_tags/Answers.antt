use Rattle.rh_pictures.proofs.Common.{◌≡◌, refl, ap₂, ◌∙◌, arith, flat_map, slice_get_within, holdings, left_less, left_none, scene_at, offered_as, who_seen}
use Rattle.rh_sheet.specs.Owners.{owner_tag}
use Rattle.rh_sheet.specs.Pool.{tag_text, tags_text}
use Rattle.rh_pictures.proofs.OwnerLemmas.{owner-pages}
use Rattle.rh_pictures.proofs.TextWalks.{text-none, text-some}
use Rattle.rh_pictures.proofs.PlaceLemmas.{walk-less}
use Rattle.rh_pictures.proofs.sheet.pool.print_all_tags.Goals as goal

pub overflow_add-k : goal.overflow_add-k
overflow_add-k g c =
    omega (arith, c.in-Some.ensures.few, slice_get_within (holdings (g.S.Sight.desk c.args.sight.now)) c.owners.k _ c.in-Some.ensures.some.stands)

pub owners-smaller : goal.owners-smaller
owners-smaller g c = walk-less (holdings (g.S.Sight.desk c.args.sight.now)) c.owners.k _ c.in-Some.ensures.some.stands

pub owners-preserved : goal.owners-preserved
owners-preserved g c =
    let d = g.S.Sight.desk c.args.sight.now in
    let x = scene_at d c.args.step.now in
    let own = c.in-Some.ensures.some.owner in
    let tag : c.as_slice.result.now ≡ owner_tag d (who_seen c.in-Some.owner.named) = c.as_slice.ensures ∙ (c.tag.ensures.value ∙ own.tag) in
    let pages = owner-pages c.args.step.now.pages.now c.requires.shared own c.pages_of-pages.result.now c.pages_of-pages.ensures in
    left_less _ c.owners.invariant (text-some (flat_map (tags_text x)) (tags_text x) (λ o rest. refl) (holdings d) c.owners.k _ c.in-Some.ensures.some.stands)
    (offered_as _ (ap₂ (λ t ns. flat_map (tag_text t) ns) tag pages) c.print_tags.ensures)

pub returns : goal.returns
returns g c =
    let d = g.S.Sight.desk c.args.sight.now in
    let x = scene_at d c.args.step.now in
    left_none c.owners.invariant (text-none (flat_map (tags_text x)) refl (holdings d) c.owners.k c.in_default.ensures.none)
