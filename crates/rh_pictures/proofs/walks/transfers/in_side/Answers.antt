use Rattle.rh_pictures.proofs.Common.{◌≡◌, ℕ, ◌+◌, List, Option, Some, None, drop, ap, sym, refl, ◌∙◌, ◌==◌, find, flat_map, option_map, Task, in_item, in_id}
use Rattle.rh_pictures.proofs.Common.{Side, has_id}
use Rattle.rh_pictures.proofs.TransferLemmas.{ins, side-told, side-untold}
use Rattle.rh_pictures.proofs.PlaceLemmas.{walk-off, walk-on, walk-to}
use Rattle.rh_pictures.proofs.walks.transfers.in_side.Goals as goal

abbrev in_of : ℕ → List Task → Option Side
in_of id ts = find (has_id id) (flat_map ins ts)

pub returns-in-Some-in_record : goal.returns-in-Some-in_record
returns-in-Some-in_record g c =
    let s = c.in-Some.ensures.some in
    let xs = (g.S.Sight.desk c.args.sight.now).tasks in
    let y = c.in-Some-in_record.record in
    let told : Some y ≡ option_map in_item (find (λ q. in_id q == c.args.id) s.0.taking) =
    c.in-Some-in_record.ensures ∙ ap (λ rs. option_map in_item (find (λ q. in_id q == c.args.id) rs)) s.2.taking in
    ap (λ n. let z : Side = (n, y) in Some z) s.2.name
    ∙ walk-to (in_of c.args.id) xs c.tasks.i c.tasks.invariant s.0 _ s.1 (side-told c.args.id s.0 (drop (c.tasks.i + 1) xs) y told)

pub tasks-preserved : goal.tasks-preserved
tasks-preserved g c =
    let s = c.in-Some.ensures.some in
    let xs = (g.S.Sight.desk c.args.sight.now).tasks in
    let told : None ≡ option_map in_item (find (λ q. in_id q == c.args.id) s.0.taking) =
    sym c.in_default-in_record.is ∙ c.in_record.ensures ∙ ap (λ rs. option_map in_item (find (λ q. in_id q == c.args.id) rs)) s.2.taking in
    walk-on (in_of c.args.id) xs c.tasks.i c.tasks.invariant s.0 s.1 (side-untold c.args.id s.0 (drop (c.tasks.i + 1) xs) told)

pub returns : goal.returns
returns g c = walk-off (in_of c.args.id) (g.S.Sight.desk c.args.sight.now).tasks c.tasks.i c.tasks.invariant None c.in_default.ensures.none refl
