use Rattle.rh_pictures.proofs.Common.{refl, arith, flat_map, slice_get_within, holdings, left_less, left_none, scene_at}
use Rattle.rh_sheet.specs.Pool.{owner_squares}
use Rattle.rh_pictures.proofs.TextWalks.{text-none, text-some}
use Rattle.rh_pictures.proofs.PlaceLemmas.{walk-less}
use Rattle.rh_pictures.proofs.sheet.pool.print_all_squares.Goals as goal

pub overflow_add-k : goal.overflow_add-k
overflow_add-k g c =
    omega (arith, c.in-Some.ensures.few, slice_get_within (holdings (g.S.Sight.desk c.args.sight.now)) c.owners.k _ c.in-Some.ensures.some.stands)

pub owners-smaller : goal.owners-smaller
owners-smaller g c = walk-less (holdings (g.S.Sight.desk c.args.sight.now)) c.owners.k _ c.in-Some.ensures.some.stands

pub owners-preserved : goal.owners-preserved
owners-preserved g c =
    let d = g.S.Sight.desk c.args.sight.now in
    let x = scene_at d c.args.step.now in
    left_less _ c.owners.invariant (text-some (flat_map (owner_squares x)) (owner_squares x) (λ o rest. refl) (holdings d) c.owners.k _
    c.in-Some.ensures.some.stands)
    c.print_owner_squares.ensures

pub returns : goal.returns
returns g c =
    let d = g.S.Sight.desk c.args.sight.now in
    let x = scene_at d c.args.step.now in
    left_none c.owners.invariant (text-none (flat_map (owner_squares x)) refl (holdings d) c.owners.k c.in_default.ensures.none)
