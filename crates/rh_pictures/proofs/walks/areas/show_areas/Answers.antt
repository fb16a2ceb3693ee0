use Rattle.rh_pictures.proofs.Common.{◌≡◌, ℕ, ◌+◌, ◌<◌, ◌≤◌, List, ◌++◌, length, drop, map, ap, sym, ◌∙◌, append_assoc, arith, slice_index, enumerate_from}
use Rattle.rh_pictures.proofs.Common.{flat_map, flat_map-append, drop_all, Panel, fixed_panel, made_panel, scene_at, offered_as}
use Rattle.rh_map.proofs.Left.{left_less, left_whole}
use Rattle.rh_pictures.proofs.PageLemmas.{numbered-next}
use Rattle.rh_pictures.proofs.TextPuts.{left_last}
use Rattle.rh_pictures.proofs.walks.areas.show_areas.Goals as goal

-- the panels of one area more, and of those behind it
panels-next : (element : Panel → List ℕ) (f : ℕ × ℕ → List Panel) (i : ℕ) (xs : List ℕ) (behind : List Panel) → i < length xs
    → flat_map element (flat_map f (enumerate_from i (drop i xs)) ++ behind)
    ≡ flat_map element (f (i, slice_index xs i)) ++ flat_map element (flat_map f (enumerate_from (i + 1) (drop (i + 1) xs)) ++ behind)
panels-next element f i xs behind low =
    let first = f (i, slice_index xs i) in
    let rest = flat_map f (enumerate_from (i + 1) (drop (i + 1) xs)) in
    ap (λ ys. flat_map element (flat_map f ys ++ behind)) (numbered-next i xs low)
    ∙ (ap (flat_map element) (append_assoc first rest behind) ∙ flat_map-append element first (rest ++ behind))

pub loop-number-init : goal.loop-number-init
loop-number-init g c = left_whole _ _

pub loop-number-preserved : goal.loop-number-preserved
loop-number-preserved g c =
    let d = g.S.Sight.desk c.args.sight.now in
    let x = scene_at d c.args.step.now in
    let low : c.loop-number.number < length d.areas = omega (arith, c.recall_desk.ensures.areas.six) in
    left_less _ c.loop-number.invariant (panels-next g.A.Artist.area_text (fixed_panel x) c.loop-number.number d.areas (map (made_panel x) d.made) low)
    c.show_fixed.ensures

pub returns : goal.returns
returns g c =
    let d = g.S.Sight.desk c.args.sight.now in
    let x = scene_at d c.args.step.now in
    let past : length d.areas ≤ c.loop-number.number = omega (arith, c.recall_desk.ensures.areas.six) in
    left_last _ c.loop-number.invariant (offered_as _ (ap (λ ys. flat_map g.A.Artist.area_text (flat_map (fixed_panel x)
    (enumerate_from c.loop-number.number ys) ++ map (made_panel x) d.made)) (sym (drop_all c.loop-number.number d.areas past))) c.show_made.ensures)
