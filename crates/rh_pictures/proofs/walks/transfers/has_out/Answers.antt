use Rattle.rh_pictures.proofs.Common.{◌≡◌, ℕ, ◌+◌, Bool, true, false, List, drop, ap, sym, refl, ◌∙◌, ◌==◌, flat_map, list_any, Task, has_id}
use Rattle.rh_defs.specs.Records.{out_id}
use Rattle.rh_pictures.proofs.TransferLemmas.{out-step, outs}
use Rattle.rh_pictures.proofs.PlaceLemmas.{walk-off, walk-on, walk-to}
use Rattle.rh_pictures.proofs.walks.transfers.has_out.Goals as goal

abbrev out_of : ℕ → List Task → Bool
out_of id ts = list_any (has_id id) (flat_map outs ts)

pub returns-then-has_id : goal.returns-then-has_id
returns-then-has_id g c =
    let s = c.in-Some.ensures.some in
    let xs = (g.S.Sight.desk c.args.sight.now).tasks in
    let e : list_any (λ q. out_id q == c.args.id) s.0.sending ≡ true =
    ap (list_any (λ q. out_id q == c.args.id)) (sym s.2.sending) ∙ (sym c.has_id.ensures ∙ c.if-has_id.true) in
    walk-to (out_of c.args.id) xs c.tasks.i c.tasks.invariant s.0 true s.1 (out-step c.args.id s.0 (drop (c.tasks.i + 1) xs) true e)

pub tasks-preserved : goal.tasks-preserved
tasks-preserved g c =
    let s = c.in-Some.ensures.some in
    let xs = (g.S.Sight.desk c.args.sight.now).tasks in
    let e : list_any (λ q. out_id q == c.args.id) s.0.sending ≡ false =
    ap (list_any (λ q. out_id q == c.args.id)) (sym s.2.sending) ∙ (sym c.has_id.ensures ∙ c.if-has_id.false) in
    walk-on (out_of c.args.id) xs c.tasks.i c.tasks.invariant s.0 s.1 (out-step c.args.id s.0 (drop (c.tasks.i + 1) xs) false e)

pub returns : goal.returns
returns g c = walk-off (out_of c.args.id) (g.S.Sight.desk c.args.sight.now).tasks c.tasks.i c.tasks.invariant false c.in_default.ensures.none refl
