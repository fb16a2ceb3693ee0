use Rattle.rh_scene.proofs.Common.{◌≡◌, ◌≤◌, ◌-◌, ℕ, List, length, take, drop, rules, arith, length-take, count_of, holdings, owner_seen}
use Rattle.std.proofs.lemmas.List.{length-drop}
use Rattle.rh_scene.proofs.Holders.{at-some, before-few, free-few, if-some, pages-are, room-of, some-of}
use Rattle.rh_scene.proofs.pages.pages_of.Goals as goal

pub offset_bounds-pages-first : goal.offset_bounds-pages-first
offset_bounds-pages-first g c = omega (arith, c.first_page-first.ensures, before-few c.recall_desk.ensures c.args.owner, free-few c.recall_desk.ensures)

pub slice_bounds-result-count : goal.slice_bounds-result-count
slice_bounds-result-count g c =
    let o = some-of (owner_seen c.args.owner (g.S.Sight.desk c.args.sight.now)) c.requires.owner in
    let room = room-of c.recall_desk.ensures c.args.pages.now c.args.owner o.0 c.requires.shared o.1 in
    omega (arith, c.first_page-first.ensures)

pub slice_bounds-result-start : goal.slice_bounds-result-start
slice_bounds-result-start g c =
    let o = some-of (owner_seen c.args.owner (g.S.Sight.desk c.args.sight.now)) c.requires.owner in
    let room = room-of c.recall_desk.ensures c.args.pages.now c.args.owner o.0 c.requires.shared o.1 in
    let few : c.first_page-first.result ≤ length c.args.pages.now = omega (arith, c.first_page-first.ensures) in
    search rules

pub slice_bounds-result-end-2 : goal.slice_bounds-result-end-2
slice_bounds-result-end-2 g c =
    let o = some-of (owner_seen c.args.owner (g.S.Sight.desk c.args.sight.now)) c.requires.owner in
    let room = room-of c.recall_desk.ensures c.args.pages.now c.args.owner o.0 c.requires.shared o.1 in
    let count = at-some (owner_seen c.args.owner (g.S.Sight.desk c.args.sight.now))
    (λ x. c.page_count.result ≡ count_of x (holdings (g.S.Sight.desk c.args.sight.now))) o.0 o.1 c.page_count.ensures in
    let rest : List ℕ = drop c.first_page-first.result c.args.pages.now in
    omega (
      arith,
      c.first_page-first.ensures,
      length-take c.page_count.result (take (length c.args.pages.now - c.first_page-first.result) rest),
      length-take (length c.args.pages.now - c.first_page-first.result) rest,
      length-drop c.first_page-first.result c.args.pages.now,
    )

pub returns : goal.returns
returns g c = if-some (owner_seen c.args.owner (g.S.Sight.desk c.args.sight.now)) _ (λ o e.
    pages-are c.recall_desk.ensures c.args.pages.now c.args.owner o c.first_page-first.result c.page_count.result c.requires.shared e c.first_page-first.ensures
    (at-some (owner_seen c.args.owner (g.S.Sight.desk c.args.sight.now)) (λ x. c.page_count.result ≡ count_of x (holdings (g.S.Sight.desk c.args.sight.now)))
    o e c.page_count.ensures))
