use Rattle.rh_wimp.proofs.Common.{◌≡◌, ℕ, ◌<◌, length, sym, ap, subst, ◌∙◌, arith, ◌==◌, filter, not, OnlyArea-both, module_heap_in, Chains, ArePostChains}
use Rattle.rh_wimp.proofs.Common.{SpellsPostIn}
use Rattle.rh_wimp.proofs.Common.{HasEntry, entry_at, settled_from, Post, held_by, post_death}
use Rattle.std.specs.List.{remove}
use Rattle.rh_defs.proofs.PostLaws.{post_death-handles}
use Rattle.rh_wimp.proofs.LeavesLaws.{handles-are, left}
use Rattle.rh_wimp.proofs.EndLaws.{death-done, place-stays, settled-stays}
use Rattle.rh_wimp.proofs.PostLaws.{found-at, not-found, seat_at}
use Rattle.rh_wimp.proofs.queue.Queue.bounce_for_death.Goals as goal
use Rattle.rh_wimp.proofs.queue.Queue.bounce_for_death.Goals.{In-Some, After-end_held, After-end_chain}
use Rattle.rh_wimp.proofs.queue.Queue.bounce_for_death.Given as given

pub returns-in_default-clause-leaves : goal.returns-in_default-clause-leaves
returns-in_default-clause-leaves g c =
    let q : Chains = record { entries = c.self.inside.entries.items; live = c.self.inside.live; next_ref = c.self.inside.next_ref } in
    let l : HasEntry c.args.handle q = subst (HasEntry c.args.handle) (sym c.self.view_is) c.requires.live in
    absurd (not-found q.entries c.args.handle (sym c.in_default.ensures) l.0 l.1.0 l.1.1)

pub returns-in_default-clause-handles : goal.returns-in_default-clause-handles
returns-in_default-clause-handles g c =
    let q : Chains = record { entries = c.self.inside.entries.items; live = c.self.inside.live; next_ref = c.self.inside.next_ref } in
    let l : HasEntry c.args.handle q = subst (HasEntry c.args.handle) (sym c.self.view_is) c.requires.live in
    absurd (not-found q.entries c.args.handle (sym c.in_default.ensures) l.0 l.1.0 l.1.1)

-- the place of the task
place : (g : given.Over) (c : In-Some g)
    → (c.in-Some.at < length c.args.self.now.entries) × ((entry_at c.args.self.now.entries c.in-Some.at).handle ≡ c.args.handle)
place g c =
    subst (λ (q : Chains). (c.in-Some.at < length q.entries) × ((entry_at q.entries c.in-Some.at).handle ≡ c.args.handle)) c.self.view_is
    (found-at c.self.inside.entries.items c.args.handle c.in-Some.at (sym c.in-Some.ensures))

pub end_held-requires-clause-handle : goal.end_held-requires-clause-handle
end_held-requires-clause-handle g c = (place g (goal.at.end_held-requires-clause-handle g c).In-Some).1

abbrev settled : ℕ → Post → Post
settled x post = settled_from x (held_by x post.seats) post

-- the place in a queue
abbrev There : Chains → ℕ → ℕ → Type 0
There q i x = (i < length q.entries) × ((entry_at q.entries i).handle ≡ x)

-- it stays over the bounce
then_there : (g : given.Over) (c : After-end_held g) (post : Post) → There c.args.self.now c.in-Some.at c.args.handle
    → SpellsPostIn (g.S.Words.memory c.args.store.now) c.args.module_area c.args.self.now post → There c.end_held.new.self c.in-Some.at c.args.handle
then_there g c post p s =
    let t = settled-stays (module_heap_in (g.S.Words.memory c.args.store.now) c.args.module_area)
    (module_heap_in (g.S.Words.memory c.end_held.new.store) c.args.module_area)
    c.args.self.now c.end_held.new.self post c.args.handle c.in-Some.at
    (held_by c.args.handle post.seats) s (c.end_held.ensures.spells post s) p.0 in
    (t.within, t.handle ∙ p.1)

pub end_chain-requires-clause-within : goal.end_chain-requires-clause-within
end_chain-requires-clause-within g c =
    let a = goal.at.end_chain-requires-clause-within g c in
    (then_there g a.After-end_held c.requires.queue.post (place g a.In-Some) c.requires.queue.spells).0

pub end_chain-requires-clause-handle : goal.end_chain-requires-clause-handle
end_chain-requires-clause-handle g c =
    let a = goal.at.end_chain-requires-clause-handle g c in
    (then_there g a.After-end_held c.requires.queue.post (place g a.In-Some) c.requires.queue.spells).1

-- and until its chain is empty
at_last : (g : given.Over) (c : After-end_chain g) (post : Post) → There c.end_held.new.self c.in-Some.at c.args.handle
    → SpellsPostIn (g.S.Words.memory c.args.store.now) c.args.module_area c.args.self.now post → There c.end_chain.new.self c.in-Some.at c.args.handle
at_last g c post p s =
    let s1 = c.end_held.ensures.spells post s in
    let d = c.end_chain.ensures.drains (settled c.args.handle post) s1 in
    let e = d.1.seats in
    let t = place-stays (module_heap_in (g.S.Words.memory c.end_held.new.store) c.args.module_area)
    (module_heap_in (g.S.Words.memory c.end_chain.new.store) c.args.module_area)
    c.end_held.new.self c.end_chain.new.self (settled c.args.handle post) d.0 c.in-Some.at
    (ap length e) (ap (λ ss. (seat_at ss c.in-Some.at).handle) e) s1 d.1.spells p.0 in
    (t.within, t.handle ∙ p.1)

pub remove-requires : goal.remove-requires
remove-requires g c =
    let a = goal.at.remove-requires g c in
    let w = at_last g a.After-end_chain c.requires.queue.post (then_there g a.After-end_held c.requires.queue.post (place g a.In-Some)
    c.requires.queue.spells) c.requires.queue.spells in
    let l : c.in-Some.at < length c.self-2.inside.entries.items = subst (λ (q : Chains). c.in-Some.at < length q.entries) (sym c.self-2.view_is) w.0 in
    omega arith

pub returns-clause-leaves : goal.returns-clause-leaves
returns-clause-leaves g c = left c.requires.queue (λ post s.
    let a = goal.at.returns-clause-leaves g c in
    let n = g.S.Words.memory c.end_chain.new.store in
    let w = at_last g a.After-end_chain post (then_there g a.After-end_held post (place g a.In-Some) s) s in
    let d = c.end_chain.ensures.drains (settled c.args.handle post) (c.end_held.ensures.spells post s) in
    let done = death-done n c.args.module_area c.end_chain.new.self post c.args.handle c.in-Some.at w.0 w.1 d in
    subst (λ es. ArePostChains (module_heap_in n c.args.module_area) (record { entries = es; live = c.self-2.inside.live; next_ref = c.self-2.inside.next_ref })
    (post_death c.args.handle post)) (sym c.remove.ensures.items)
    (subst (λ (q : Chains). ArePostChains (module_heap_in n c.args.module_area)
    (record { entries = remove q.entries c.in-Some.at; live = q.live; next_ref = q.next_ref })
    (post_death c.args.handle post)) (sym c.self-2.view_is) done))
    c.end_chain.ensures.module (OnlyArea-both (g.S.Words.memory c.args.store.now) (g.S.Words.memory c.end_held.new.store)
    (g.S.Words.memory c.end_chain.new.store) c.args.module_area.area.0 c.end_held.ensures.only c.end_chain.ensures.only)

pub returns-clause-handles : goal.returns-clause-handles
returns-clause-handles g c =
    let x : ℕ = c.args.handle in
    let post = c.requires.queue.post in
    let m = module_heap_in (g.S.Words.memory c.args.store.now) c.args.module_area in
    let n = module_heap_in (g.S.Words.memory c.end_chain.new.store) c.args.module_area in
    let l = (returns-clause-leaves g c).spells post c.requires.queue.spells in
    handles-are n _ (post_death x post) l ∙ post_death-handles x post
    ∙ ap (filter (λ h. not (h == x))) (sym (handles-are m c.args.self.now post c.requires.queue.spells))
