use Rattle.rh_wimp.proofs.Common.{◌≡◌, ◌<◌, length, sym, ap, subst, ◌∙◌, option_map, held_by, Parcel, module_heap_in, Chains, HasEntry, SpellsPostIn}
use Rattle.rh_wimp.proofs.Common.{entry_at}
use Rattle.rh_defs.specs.Post.{put_down}
use Rattle.rh_wimp.proofs.HoldLaws.{put_down-handles}
use Rattle.rh_wimp.proofs.LeavesLaws.{handles-stay, left}
use Rattle.rh_wimp.proofs.PostLaws.{found-at, not-found}
use Rattle.rh_wimp.proofs.queue.Queue.put_down.Goals as goal
use Rattle.rh_wimp.proofs.queue.Queue.put_down.Goals.{In-Some}
use Rattle.rh_wimp.proofs.queue.Queue.put_down.Given as given

-- the handle is live
pub returns-in_default-clause-answer : goal.returns-in_default-clause-answer
returns-in_default-clause-answer g c =
    let q : Chains = record { entries = c.self.inside.entries.items; live = c.self.inside.live; next_ref = c.self.inside.next_ref } in
    let l : HasEntry c.args.handle q = subst (HasEntry c.args.handle) (sym c.self.view_is) c.requires.live in
    absurd (not-found q.entries c.args.handle (sym c.in_default.ensures) l.0 l.1.0 l.1.1)

pub returns-in_default-clause-leaves : goal.returns-in_default-clause-leaves
returns-in_default-clause-leaves g c =
    let q : Chains = record { entries = c.self.inside.entries.items; live = c.self.inside.live; next_ref = c.self.inside.next_ref } in
    let l : HasEntry c.args.handle q = subst (HasEntry c.args.handle) (sym c.self.view_is) c.requires.live in
    absurd (not-found q.entries c.args.handle (sym c.in_default.ensures) l.0 l.1.0 l.1.1)

pub returns-in_default-clause-handles : goal.returns-in_default-clause-handles
returns-in_default-clause-handles g c =
    let q : Chains = record { entries = c.self.inside.entries.items; live = c.self.inside.live; next_ref = c.self.inside.next_ref } in
    let l : HasEntry c.args.handle q = subst (HasEntry c.args.handle) (sym c.self.view_is) c.requires.live in
    absurd (not-found q.entries c.args.handle (sym c.in_default.ensures) l.0 l.1.0 l.1.1)

-- the place of the task
place : (g : given.Over) (c : In-Some g)
    → (c.in-Some.at < length c.args.self.now.entries) × ((entry_at c.args.self.now.entries c.in-Some.at).handle ≡ c.args.handle)
place g c =
    subst (λ (q : Chains). (c.in-Some.at < length q.entries) × ((entry_at q.entries c.in-Some.at).handle ≡ c.args.handle)) c.self.view_is
    (found-at c.self.inside.entries.items c.args.handle c.in-Some.at (sym c.in-Some.ensures))

pub put_down_at-requires-clause-within : goal.put_down_at-requires-clause-within
put_down_at-requires-clause-within g c = (place g (goal.at.put_down_at-requires-clause-within g c).In-Some).0

pub returns-clause-answer : goal.returns-clause-answer
returns-clause-answer g c = λ post s.
    let w = place g (goal.at.returns-clause-answer g c).In-Some in
    c.put_down_at.ensures.answer post s ∙ ap (λ x. option_map (λ (p : Parcel). p.message.my_ref) (held_by x post.seats)) w.1

pub returns-clause-leaves : goal.returns-clause-leaves
returns-clause-leaves g c = left c.requires.queue (λ post s.
    let w = place g (goal.at.returns-clause-leaves g c).In-Some in
    subst (λ x. SpellsPostIn (g.S.Words.memory c.put_down_at.new.store) c.args.module_area c.put_down_at.new.self (put_down x post)) w.1
    (c.put_down_at.ensures.spells post s)) c.put_down_at.ensures.module c.put_down_at.ensures.only

pub returns-clause-handles : goal.returns-clause-handles
returns-clause-handles g c =
    let post = c.requires.queue.post in
    let l = (returns-clause-leaves g c).spells post c.requires.queue.spells in
    handles-stay (module_heap_in (g.S.Words.memory c.args.store.now) c.args.module_area)
    (module_heap_in (g.S.Words.memory c.put_down_at.new.store) c.args.module_area) c.args.self.now
    c.put_down_at.new.self post (put_down c.args.handle post) c.requires.queue.spells l (put_down-handles c.args.handle post)
