use Rattle.rh_wimp.proofs.Common.{◌≡◌, ◌<◌, length, true, refl, sym, ap, subst, ◌∙◌, None, option_map, OnlyArea-both, module_heap_in, Chains, SpellsPostIn}
use Rattle.rh_wimp.proofs.Common.{HasEntry, entry_at, Post, held_by, first_for, taken_from, bounce_held, post_poll}
use Rattle.rh_defs.proofs.PostLaws.{post_poll-handles}
use Rattle.rh_wimp.proofs.LeavesLaws.{handles-stay, left}
use Rattle.rh_wimp.specs.Chains.{event_as}
use Rattle.rh_wimp.proofs.PollLaws.{held-after, stays}
use Rattle.rh_wimp.proofs.PostLaws.{found-at, not-found}
use Rattle.rh_wimp.proofs.queue.Queue.poll_read.Goals as goal
use Rattle.rh_wimp.proofs.queue.Queue.poll_read.Goals.{After-bounce_held}
use Rattle.rh_wimp.proofs.queue.Queue.poll_read.Given as given

pub returns-in_default-clause-answer : goal.returns-in_default-clause-answer
returns-in_default-clause-answer g c =
    let q : Chains = record { entries = c.self.inside.entries.items; live = c.self.inside.live; next_ref = c.self.inside.next_ref } in
    let l : HasEntry c.args.handle q = subst (HasEntry c.args.handle) (sym c.self.view_is) c.requires.live in
    absurd (not-found q.entries c.args.handle (sym c.in_default.ensures) l.0 l.1.0 l.1.1)

pub returns-in_default-clause-leaves : goal.returns-in_default-clause-leaves
returns-in_default-clause-leaves g c =
    let q : Chains = record { entries = c.self.inside.entries.items; live = c.self.inside.live; next_ref = c.self.inside.next_ref } in
    let l : HasEntry c.args.handle q = subst (HasEntry c.args.handle) (sym c.self.view_is) c.requires.live in
    absurd (not-found q.entries c.args.handle (sym c.in_default.ensures) l.0 l.1.0 l.1.1)

pub returns-in_default-clause-handles : goal.returns-in_default-clause-handles
returns-in_default-clause-handles g c =
    let q : Chains = record { entries = c.self.inside.entries.items; live = c.self.inside.live; next_ref = c.self.inside.next_ref } in
    let l : HasEntry c.args.handle q = subst (HasEntry c.args.handle) (sym c.self.view_is) c.requires.live in
    absurd (not-found q.entries c.args.handle (sym c.in_default.ensures) l.0 l.1.0 l.1.1)

-- the place of the task
place : (g : given.Over) (c : After-bounce_held g)
    → (c.in-Some.at < length c.args.self.now.entries) × ((entry_at c.args.self.now.entries c.in-Some.at).handle ≡ c.args.handle)
place g c =
    subst (λ (q : Chains). (c.in-Some.at < length q.entries) × ((entry_at q.entries c.in-Some.at).handle ≡ c.args.handle)) c.self.view_is
    (found-at c.self.inside.entries.items c.args.handle c.in-Some.at (sym c.in-Some.ensures))

-- the post after the bounce
abbrev between : (g : given.Over) (c : After-bounce_held g) → Post → Post
between g c post = bounce_held c.args.handle (held_by c.args.handle post.seats) post

spelled : (g : given.Over) (c : After-bounce_held g) (post : Post) → SpellsPostIn (g.S.Words.memory c.args.store.now) c.args.module_area c.args.self.now post
    → SpellsPostIn (g.S.Words.memory c.bounce_held.new.store) c.args.module_area c.bounce_held.new.self (between g c post)
spelled g c post s =
    subst (λ x. SpellsPostIn (g.S.Words.memory c.bounce_held.new.store) c.args.module_area c.bounce_held.new.self (bounce_held x (held_by x post.seats) post))
    (place g c).1 (c.bounce_held.ensures.spells post s)

there : (g : given.Over) (c : After-bounce_held g) (post : Post) → SpellsPostIn (g.S.Words.memory c.args.store.now) c.args.module_area c.args.self.now post
    → (c.in-Some.at < length c.bounce_held.new.self.entries) × ((entry_at c.bounce_held.new.self.entries c.in-Some.at).handle ≡ c.args.handle)
there g c post s =
    let w = stays (module_heap_in (g.S.Words.memory c.args.store.now) c.args.module_area)
    (module_heap_in (g.S.Words.memory c.bounce_held.new.store) c.args.module_area) c.args.self.now
    c.bounce_held.new.self post c.args.handle c.in-Some.at
    (held_by c.args.handle post.seats) s (spelled g c post s) (place g c).0 in
    (w.within, w.handle ∙ (place g c).1)

pub take-requires-clause-within : goal.take-requires-clause-within
take-requires-clause-within g c = (there g (goal.at.take-requires-clause-within g c).After-bounce_held c.requires.queue.post c.requires.queue.spells).0

pub take-requires-clause-post : goal.take-requires-clause-post
take-requires-clause-post g c =
    let o = (goal.at.take-requires-clause-post g c).After-bounce_held in
    let post = c.requires.queue.post in
    let w = there g o post c.requires.queue.spells in (
      between g o post,
      spelled g o post c.requires.queue.spells,
      subst (λ x. held_by x (between g o post).seats ≡ None) (sym w.1) (held-after c.args.handle (held_by c.args.handle post.seats) post refl),
    )

pub returns-clause-answer : goal.returns-clause-answer
unfolding post_poll
returns-clause-answer g c = λ post s.
    let o = (goal.at.returns-clause-answer g c).After-bounce_held in
    let w = there g o post s in
    let none = held-after c.args.handle (held_by c.args.handle post.seats) post refl in
    let before = between g o post in
    c.take.ensures.answer before (spelled g o post s) (subst (λ x. held_by x before.seats ≡ None) (sym w.1) none)
    ∙ ap (λ x. option_map (event_as true) (taken_from x (first_for x before.queued) before).1) w.1

pub returns-clause-leaves : goal.returns-clause-leaves
unfolding post_poll
returns-clause-leaves g c = left c.requires.queue (λ post s.
    let o = (goal.at.returns-clause-leaves g c).After-bounce_held in
    let w = there g o post s in
    let none = held-after c.args.handle (held_by c.args.handle post.seats) post refl in
    let before = between g o post in
    subst (λ x. SpellsPostIn (g.S.Words.memory c.take.new.store) c.args.module_area c.take.new.self (taken_from x (first_for x before.queued) before).0) w.1
    (c.take.ensures.spells before (spelled g o post s) (subst (λ x. held_by x before.seats ≡ None) (sym w.1) none)))
    c.take.ensures.module (OnlyArea-both (g.S.Words.memory c.args.store.now) (g.S.Words.memory c.bounce_held.new.store) (g.S.Words.memory c.take.new.store)
    c.args.module_area.area.0 c.bounce_held.ensures.only c.take.ensures.only)

pub returns-clause-handles : goal.returns-clause-handles
returns-clause-handles g c =
    let post = c.requires.queue.post in
    let l = (returns-clause-leaves g c).spells post c.requires.queue.spells in
    handles-stay (module_heap_in (g.S.Words.memory c.args.store.now) c.args.module_area)
    (module_heap_in (g.S.Words.memory c.take.new.store) c.args.module_area) c.args.self.now
    c.take.new.self post (post_poll c.args.handle post).0 c.requires.queue.spells l (post_poll-handles c.args.handle post)
