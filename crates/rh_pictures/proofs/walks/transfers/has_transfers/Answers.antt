use Rattle.rh_pictures.proofs.Common.{◌≡◌, ◌+◌, Bool, true, false, List, length, drop, ap₂, sym, refl, ◌∙◌, ◌==◌, ◌||◌, not, flat_map, Task, Incoming, Outgoing}
use Rattle.rh_pictures.proofs.TransferLemmas.{are_some, ins, outs, some-here, some-past}
use Rattle.rh_pictures.proofs.PlaceLemmas.{walk-off, walk-on, walk-to}
use Rattle.rh_pictures.proofs.walks.transfers.has_transfers.Goals as goal

abbrev some_of : List Task → Bool
some_of ts = are_some (flat_map outs ts) (flat_map ins ts)

abbrev has : List Outgoing → List Incoming → Bool
has a b = not (length a == 0) || not (length b == 0)

pub returns-then-has_records : goal.returns-then-has_records
returns-then-has_records g c =
    let s = c.in-Some.ensures.some in
    let xs = (g.S.Sight.desk c.args.sight.now).tasks in
    let e : has s.0.sending s.0.taking ≡ true = ap₂ has (sym s.2.sending) (sym s.2.taking) ∙ (sym c.has_records.ensures ∙ c.if-has_records.true) in
    walk-to some_of xs c.tasks.i c.tasks.invariant s.0 true s.1 (some-here s.0 (drop (c.tasks.i + 1) xs) e)

pub tasks-preserved : goal.tasks-preserved
tasks-preserved g c =
    let s = c.in-Some.ensures.some in
    let xs = (g.S.Sight.desk c.args.sight.now).tasks in
    let e : has s.0.sending s.0.taking ≡ false = ap₂ has (sym s.2.sending) (sym s.2.taking) ∙ (sym c.has_records.ensures ∙ c.if-has_records.false) in
    walk-on some_of xs c.tasks.i c.tasks.invariant s.0 s.1 (some-past s.0 (drop (c.tasks.i + 1) xs) e)

pub returns : goal.returns
returns g c = walk-off some_of (g.S.Sight.desk c.args.sight.now).tasks c.tasks.i c.tasks.invariant false c.in_default.ensures.none refl
