use Rattle.rh_pictures.proofs.Common.{◌≡◌, ◌<◌, ◌≤◌, ◌-◌, length, drop, ap, ap₂, sym, ◌∙◌, arith, rules, length-drop, length-take, taken_line, count_of}
use Rattle.rh_pictures.proofs.Common.{scene_at, offered_as, offered_none}
use Rattle.std.proofs.lemmas.List.{take_rest}
use Rattle.rh_pictures.proofs.OwnerLemmas.{owner-few, owner-pages}
use Rattle.rh_pictures.proofs.PageLemmas.{takes-none, takes-one}
use Rattle.rh_pictures.specs.PaintedOwners.{who_seen}
use Rattle.rh_pictures.proofs.walks.page_changes.show_owner_takes.Goals as goal

pub slice_bounds-takes_row-count : goal.slice_bounds-takes_row-count
slice_bounds-takes_row-count g c =
    let own = c.requires.owner in
    let is = owner-pages c.args.step.now.pages.now c.requires.step.shared own c.pages_of-pages.result.now c.pages_of-pages.ensures in
    omega (arith, ap length is, c.requires.step.shared.each (who_seen c.args.owner.now.named), own.count, c.if-had-owner.false)

pub slice_bounds-takes_row-start : goal.slice_bounds-takes_row-start
slice_bounds-takes_row-start g c =
    let own = c.requires.owner in
    let is = owner-pages c.args.step.now.pages.now c.requires.step.shared own c.pages_of-pages.result.now c.pages_of-pages.ensures in
    let few : c.count-had.result ≤ length c.pages_of-pages.result.now =
    omega (arith, ap length is, c.requires.step.shared.each (who_seen c.args.owner.now.named), own.count, c.if-had-owner.false) in
    search rules

pub takes_row-requires : goal.takes_row-requires
takes_row-requires g c =
    let ps = c.args.step.now.pages.now in
    let found = c.pages_of-pages.result.now in
    let is = owner-pages ps c.requires.step.shared c.requires.owner found c.pages_of-pages.ensures in
    let few = owner-few ps c.requires.step.shared c.requires.owner c.recall_desk.ensures c.requires.step.all in
    omega (arith, few, ap length is, length-take (length found - c.count-had.result) (drop c.count-had.result found), length-drop c.count-had.result found)

pub returns-then-had-owner : goal.returns-then-had-owner
returns-then-had-owner g c =
    let x = scene_at (g.S.Sight.desk c.args.sight.now) c.args.step.now in
    let o = who_seen c.args.owner.now.named in
    let had : c.count-had.result ≡ count_of o x.before.holdings = c.count-had.ensures ∙ ap (λ q. count_of q x.before.holdings) c.owner.ensures in
    offered_as _ (sym (takes-none g.A.Artist.change_text x o c.args.owner.now.count (omega (arith, had, c.if-had-owner.true)))) (offered_none _)

pub returns : goal.returns
returns g c =
    let x = scene_at (g.S.Sight.desk c.args.sight.now) c.args.step.now in
    let owner = c.args.owner.now in
    let o = who_seen owner.named in
    let found = c.pages_of-pages.result.now in
    let is = owner-pages c.args.step.now.pages.now c.requires.step.shared c.requires.owner found c.pages_of-pages.ensures in
    let had : c.count-had.result ≡ count_of o x.before.holdings = c.count-had.ensures ∙ ap (λ q. count_of q x.before.holdings) c.owner.ensures in
    let low : count_of o x.before.holdings < owner.count = omega (arith, had, c.if-had-owner.false) in
    let element = g.A.Artist.change_text in
    offered_as _ (ap element (c.takes_row.ensures.value
    ∙ ap₂ taken_line c.requires.owner.name (take_rest found c.count-had.result ∙ ap₂ drop had is)) ∙ sym (takes-one element x o owner.count low))
    c.change.ensures
