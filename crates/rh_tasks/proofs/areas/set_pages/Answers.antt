use Rattle.rh_tasks.proofs.PageLaws.{less-pages, less-only, less-first, more-pages, more-first, more-only, room-left, not-refused}
use Rattle.rh_tasks.proofs.areas.set_pages.Goals as goal

pub returns-then-pages-now-clause-pages : goal.returns-then-pages-now-clause-pages
returns-then-pages-now-clause-pages g c =
    less-pages (g.S.Words.memory c.args.store.now) _ c.args.area.0 c.args.pages _ c.len-now.ensures (g.met.S.Paged.whole c.args.store.now c.args.area.0)
    c.shrink.ensures c.if-pages-now.true

pub returns-then-pages-now-clause-only : goal.returns-then-pages-now-clause-only
returns-then-pages-now-clause-only g c =
    less-only (g.S.Words.memory c.args.store.now) _ c.args.area.0 c.args.pages _ c.len-now.ensures (g.met.S.Paged.whole c.args.store.now c.args.area.0)
    c.shrink.ensures c.if-pages-now.true

pub unwrap-requires : goal.unwrap-requires
unwrap-requires g c =
    not-refused c.grow.result _ _ c.grow.ensures.refused
    (room-left (g.S.Words.memory c.args.store.now) (g.S.Words.memory c.args.store.now) c.args.area.0 c.args.pages _ c.len-now.ensures
    (g.met.S.Paged.whole c.args.store.now c.args.area.0) c.requires.room)

pub returns-clause-pages : goal.returns-clause-pages
returns-clause-pages g c =
    let e = rw c.unwrap.ensures at c.grow.ensures.ok in
    more-pages (g.S.Words.memory c.args.store.now) _ c.args.area.0 c.args.pages _ c.len-now.ensures (g.met.S.Paged.whole c.args.store.now c.args.area.0) e
    c.if-pages-now.false

pub returns-clause-only : goal.returns-clause-only
returns-clause-only g c =
    let m = g.S.Words.memory c.args.store.now in
    let e = rw c.unwrap.ensures at c.grow.ensures.ok in
    more-only m _ c.args.area.0 c.args.pages _ c.len-now.ensures (g.met.S.Paged.whole c.args.store.now c.args.area.0) e c.if-pages-now.false
    (room-left m m c.args.area.0 c.args.pages _ c.len-now.ensures (g.met.S.Paged.whole c.args.store.now c.args.area.0) c.requires.room)

pub returns-then-pages-now-clause-first : goal.returns-then-pages-now-clause-first
returns-then-pages-now-clause-first g c =
    less-first (g.S.Words.memory c.args.store.now) _ c.args.area.0 c.args.pages _ c.len-now.ensures (g.met.S.Paged.whole c.args.store.now c.args.area.0)
    c.shrink.ensures c.if-pages-now.true

pub returns-clause-first : goal.returns-clause-first
returns-clause-first g c =
    let e = rw c.unwrap.ensures at c.grow.ensures.ok in
    λ k inside low. more-first (g.S.Words.memory c.args.store.now) _ c.args.area.0 c.args.pages _ c.len-now.ensures
    (g.met.S.Paged.whole c.args.store.now c.args.area.0) e c.if-pages-now.false k inside
