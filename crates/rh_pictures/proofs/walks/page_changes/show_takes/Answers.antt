use Rattle.rh_pictures.proofs.Common.{List, refl, arith, flat_map, slice_get_within, Holding, holdings, scene_at}
use Rattle.rh_figure.specs.Changes.{takes_text}
use Rattle.rh_map.proofs.Left.{left_less, left_none}
use Rattle.rh_pictures.proofs.ElementLemmas.{parts-both}
use Rattle.rh_pictures.proofs.TextWalks.{text-none, text-some}
use Rattle.rh_pictures.proofs.PlaceLemmas.{walk-less}
use Rattle.rh_pictures.proofs.walks.page_changes.show_takes.Goals as goal

pub overflow_add-k : goal.overflow_add-k
overflow_add-k g c =
    omega (arith, c.in-Some.ensures.few, slice_get_within (holdings (g.S.Sight.desk c.args.sight.now)) c.owners.k _ c.in-Some.ensures.some.stands)

pub owners-smaller : goal.owners-smaller
owners-smaller g c = walk-less (holdings (g.S.Sight.desk c.args.sight.now)) c.owners.k _ c.in-Some.ensures.some.stands

pub owners-preserved : goal.owners-preserved
owners-preserved g c =
    let d = g.S.Sight.desk c.args.sight.now in
    let element = g.A.Artist.change_text in
    let of = takes_text (scene_at d c.args.step.now) in
    left_less _ c.owners.invariant (text-some (λ (hs : List Holding). flat_map element (flat_map of hs)) (λ h. flat_map element (of h))
    (λ h rest. parts-both element (of h) (flat_map of rest)) (holdings d) c.owners.k _ c.in-Some.ensures.some.stands)
    c.show_owner_takes.ensures

pub returns : goal.returns
returns g c =
    let d = g.S.Sight.desk c.args.sight.now in
    left_none c.owners.invariant (text-none (λ (hs : List Holding). flat_map g.A.Artist.change_text
    (flat_map (takes_text (scene_at d c.args.step.now)) hs)) refl (holdings d) c.owners.k c.in_default.ensures.none)
