use Rattle.rh_wimp.proofs.Common.{◌≢◌, sym, ap, subst, ◌∙◌, Some, option_map, Parcel, Post, held_by, module_heap_in, Chains, HasEntry}
use Rattle.rh_wimp.proofs.Common.{Holds, SpellsPostIn, Entry}
use Rattle.rh_wimp.proofs.AnswerLaws.{read_entry}
use Rattle.rh_wimp.proofs.ItemLaws.{nothing-held}
use Rattle.rh_wimp.proofs.PeekLaws.{held-there}
use Rattle.rh_wimp.proofs.PostLaws.{found-at, not-found}
use Rattle.rh_wimp.proofs.SearchLaws.{HeldHere, held-some}
use Rattle.rh_wimp.proofs.queue.Queue.held.Goals as goal
use Rattle.rh_wimp.proofs.queue.Queue.held.Goals.{After-index-entry}
use Rattle.rh_wimp.proofs.queue.Queue.held.Given as given

-- the handle is live
pub returns-in_default : goal.returns-in_default
returns-in_default g c =
    let q : Chains = record { entries = c.self.inside.entries.items; live = c.self.inside.live; next_ref = c.self.inside.next_ref } in
    let l : HasEntry c.args.handle q = subst (HasEntry c.args.handle) (sym c.self.view_is) c.requires.live in
    absurd (not-found q.entries c.args.handle (sym c.in_default.ensures) l.0 l.1.0 l.1.1)

seen : (g : given.Over) (c : After-index-entry g) → Chains
seen g c = record { entries = c.self.inside.entries.items; live = c.self.inside.live; next_ref = c.self.inside.next_ref }

-- what the task holds
there : (g : given.Over) (c : After-index-entry g) (post : Post) → SpellsPostIn (g.S.Words.memory c.args.store.now) c.args.module_area c.args.self.now post
    → Holds (module_heap_in (g.S.Words.memory c.args.store.now) c.args.module_area) c.index-entry.result.now.held (held_by c.args.handle post.seats)
unfolding seen
there g c post s =
    let h = module_heap_in (g.S.Words.memory c.args.store.now) c.args.module_area in
    let q : Chains = seen g c in
    let w = found-at q.entries c.args.handle c.in-Some.at (sym c.in-Some.ensures) in
    let k : SpellsPostIn (g.S.Words.memory c.args.store.now) c.args.module_area q post =
    subst (λ (k : Chains). SpellsPostIn (g.S.Words.memory c.args.store.now) c.args.module_area k post) (sym c.self.view_is) s in
    subst (λ (e : Entry). Holds h e.held (held_by c.args.handle post.seats))
    (sym (read_entry q.entries c.in-Some.at c.index-entry.result.now w.0 c.index-entry.ensures))
    (held-there h q post c.args.handle c.in-Some.at k w.0 w.1)

pub returns-then-entry-eq0 : goal.returns-then-entry-eq0
returns-then-entry-eq0 g c = λ post s.
    let o = (goal.at.returns-then-entry-eq0 g c).After-index-entry in
    sym (ap (option_map (λ (p : Parcel). p.message))
    (nothing-held (module_heap_in (g.S.Words.memory c.args.store.now) c.args.module_area) (held_by c.args.handle post.seats) c.index-entry.result.now.held
    (there g o post s) c.if-entry-eq0.true))

-- the message that it holds
message : (g : given.Over) (c : After-index-entry g) (post : Post)
    → SpellsPostIn (g.S.Words.memory c.args.store.now) c.args.module_area c.args.self.now post → c.index-entry.result.now.held ≢ 0
    → HeldHere (module_heap_in (g.S.Words.memory c.args.store.now) c.args.module_area) c.index-entry.result.now.held (held_by c.args.handle post.seats)
message g c post s ne =
    held-some (module_heap_in (g.S.Words.memory c.args.store.now) c.args.module_area) c.index-entry.result.now.held (held_by c.args.handle post.seats)
    (there g c post s) ne

pub read_message-requires-clause-lies : goal.read_message-requires-clause-lies
read_message-requires-clause-lies g c =
    let w = message g (goal.at.read_message-requires-clause-lies g c).After-index-entry c.requires.queue.post c.requires.queue.spells c.if-entry-eq0.false in
    (w.parcel, record { lies = w.lies; block_is = w.block })

pub returns : goal.returns
returns g c = λ post s.
    let w = message g (goal.at.returns g c).After-index-entry post s c.if-entry-eq0.false in
    ap (λ m. Some m) (c.read_message.ensures w.parcel (record { lies = w.lies; block_is = w.block }))
    ∙ sym (ap (option_map (λ (p : Parcel). p.message)) w.is)
