use Rattle.rh_wimp.proofs.Common.{◌≡◌, ◌≢◌, ◌<◌, Bool, List, true, length, sym, ap, subst, ◌∙◌, arith, Option, Some, None, option_map, Parcel, Post, has_seat}
use Rattle.rh_wimp.proofs.Common.{held_by, holds_such, post_poll, module_heap_in, Chains, HasEntry, Holds, SpellsPostIn, entry_at, LinksAt, Entry}
use Rattle.rh_defs.specs.RawTasks.{handed_parts}
use Rattle.rh_wimp.proofs.AnswerLaws.{read_entry}
use Rattle.rh_wimp.proofs.PeekLaws.{HoldsOwn, front, front-is, first_of, held-there, is_own, own-held, poll-none, poll-own, poll-waiting}
use Rattle.rh_wimp.proofs.PollLaws.{Heads, heads, next-small, no-head}
use Rattle.rh_wimp.proofs.PostLaws.{found-at, live-yes, not-found}
use Rattle.rh_wimp.proofs.SendLaws.{seated}
use Rattle.rh_wimp.proofs.queue.Queue.next_parts.Goals as goal
use Rattle.rh_wimp.proofs.queue.Queue.next_parts.Goals.{After-index-entry}
use Rattle.rh_wimp.proofs.queue.Queue.next_parts.Given as given

-- the handle is live
pub returns-in_default : goal.returns-in_default
returns-in_default g c =
    let q : Chains = record { entries = c.self.inside.entries.items; live = c.self.inside.live; next_ref = c.self.inside.next_ref } in
    let l : HasEntry c.args.handle q = subst (HasEntry c.args.handle) (sym c.self.view_is) c.requires.live in
    absurd (not-found q.entries c.args.handle (sym c.in_default.ensures) l.0 l.1.0 l.1.1)

seen : (g : given.Over) (c : After-index-entry g) → Chains
seen g c = record { entries = c.self.inside.entries.items; live = c.self.inside.live; next_ref = c.self.inside.next_ref }

-- the task's entry
place : (g : given.Over) (c : After-index-entry g) → (c.in-Some.at < length (seen g c).entries) ×
    ((entry_at (seen g c).entries c.in-Some.at).handle ≡ c.args.handle) × (c.index-entry.result.now ≡ entry_at (seen g c).entries c.in-Some.at)
unfolding seen
place g c =
    let w = found-at (seen g c).entries c.args.handle c.in-Some.at (sym c.in-Some.ensures) in
    (w.0, w.1, read_entry (seen g c).entries c.in-Some.at c.index-entry.result.now w.0 c.index-entry.ensures)

spelled : (g : given.Over) (c : After-index-entry g) (post : Post) → SpellsPostIn (g.S.Words.memory c.args.store.now) c.args.module_area c.args.self.now post
    → SpellsPostIn (g.S.Words.memory c.args.store.now) c.args.module_area (seen g c) post
unfolding seen
spelled g c post s = subst (λ (k : Chains). SpellsPostIn (g.S.Words.memory c.args.store.now) c.args.module_area k post) (sym c.self.view_is) s

-- ---- a message waits
head : (g : given.Over) (c : After-index-entry g) (post : Post) → SpellsPostIn (g.S.Words.memory c.args.store.now) c.args.module_area c.args.self.now post
    → c.index-entry.result.now.first ≢ 0
    → (t : Parcel × List Parcel) × Heads (g.S.Words.memory c.args.store.now) c.args.module_area (seen g c) post c.args.handle c.in-Some.at t
head g c post s ne =
    let w = place g c in
    heads (g.S.Words.memory c.args.store.now) c.args.module_area (seen g c) post c.args.handle c.in-Some.at (spelled g c post s) w.0 w.1
    (λ z. ne (ap (λ (e : Entry). e.first) w.2 ∙ z))

links : (g : given.Over) (c : After-index-entry g) (post : Post) (s : SpellsPostIn (g.S.Words.memory c.args.store.now) c.args.module_area c.args.self.now post)
    (ne : c.index-entry.result.now.first ≢ 0)
    → LinksAt (g.S.Words.memory c.args.store.now) c.args.module_area c.index-entry.result.now.first (head g c post s ne).1.next (head g c post s ne).0.0
links g c post s ne =
    let w = (head g c post s ne).1 in
    record {
      lies = w.lies;
      block_is = ap (λ (e : Entry). e.first) (place g c).2 ∙ w.block_is;
      small = next-small (g.S.Words.memory c.args.store.now) c.args.module_area w.next c.requires.queue.area
          (g.met.S.Words.small c.args.store.now c.args.module_area.area.0)
          w.next_there;
    }

waits : (g : given.Over) (c : After-index-entry g) (post : Post) (s : SpellsPostIn (g.S.Words.memory c.args.store.now) c.args.module_area c.args.self.now post)
    (ne : c.index-entry.result.now.first ≢ 0)
    → (post_poll c.args.handle post).1 ≡ Some (head g c post s ne).0.0
waits g c post s ne =
    let w = (head g c post s ne).1 in
    poll-waiting c.args.handle post (head g c post s ne).0.0 (sym (front-is c.args.handle post.queued) ∙ ap first_of w.first)

-- ---- none waits
empty : (g : given.Over) (c : After-index-entry g) (post : Post) → SpellsPostIn (g.S.Words.memory c.args.store.now) c.args.module_area c.args.self.now post
    → c.index-entry.result.now.first ≡ 0 → front c.args.handle post.queued ≡ None
empty g c post s z =
    let w = place g c in
    sym (front-is c.args.handle post.queued)
    ∙ ap first_of (no-head (module_heap_in (g.S.Words.memory c.args.store.now) c.args.module_area) (seen g c) post c.args.handle c.in-Some.at
    (spelled g c post s) w.0 w.1
    (sym (ap (λ (e : Entry). e.first) w.2) ∙ z))

-- what the task holds
held : (g : given.Over) (c : After-index-entry g) (post : Post) → SpellsPostIn (g.S.Words.memory c.args.store.now) c.args.module_area c.args.self.now post
    → Holds (module_heap_in (g.S.Words.memory c.args.store.now) c.args.module_area) c.index-entry.result.now.held (held_by c.args.handle post.seats) ×
    (has_seat c.args.handle post.seats ≡ true)
held g c post s =
    let h = module_heap_in (g.S.Words.memory c.args.store.now) c.args.module_area in
    let w = place g c in
    let k = spelled g c post s in
    let t = seated h (seen g c) post c.in-Some.at k w.0 in (
      subst (λ (e : Entry). Holds h e.held (held_by c.args.handle post.seats)) (sym w.2)
          (held-there h (seen g c) post c.args.handle c.in-Some.at k w.0 w.1),
      live-yes post.seats c.in-Some.at c.args.handle t.seat (sym t.handle ∙ w.1),
    )

pub parts_in-requires-clause-lies : goal.parts_in-requires-clause-lies
parts_in-requires-clause-lies g c =
    let o = (goal.at.parts_in-requires-clause-lies g c).After-index-entry in
    let w = head g o c.requires.queue.post c.requires.queue.spells c.if-entry-ne0.true in
    (w.1.next, (w.0.0, links g o c.requires.queue.post c.requires.queue.spells c.if-entry-ne0.true))

pub returns-then-entry-ne0 : goal.returns-then-entry-ne0
returns-then-entry-ne0 g c = λ post s.
    let o = (goal.at.returns-then-entry-ne0 g c).After-index-entry in
    let w = head g o post s c.if-entry-ne0.true in
    ap (λ k. Some k) (c.parts_in.ensures w.1.next w.0.0 (links g o post s c.if-entry-ne0.true))
    ∙ sym (ap (option_map handed_parts) (waits g o post s c.if-entry-ne0.true))

pub holds_own-requires-clause-held : goal.holds_own-requires-clause-held
holds_own-requires-clause-held g c =
    let o = (goal.at.holds_own-requires-clause-held g c).After-index-entry in
    (held_by c.args.handle c.requires.queue.post.seats, (held g o c.requires.queue.post c.requires.queue.spells).0)

-- whether the task holds a message of its own
own : (g : given.Over) (c : After-index-entry g) (post : Post) (s : SpellsPostIn (g.S.Words.memory c.args.store.now) c.args.module_area c.args.self.now post)
    (t : Bool)
    → ((o : Option Parcel) → Holds (module_heap_in (g.S.Words.memory c.args.store.now) c.args.module_area) c.index-entry.result.now.held o
    → t ≡ holds_such (is_own c.args.handle) o) → t ≡ holds_such (is_own c.args.handle) (held_by c.args.handle post.seats)
own g c post s t e = e (held_by c.args.handle post.seats) (held g c post s).0

pub returns-then-not-holds_own : goal.returns-then-not-holds_own
returns-then-not-holds_own g c = λ post s.
    let o = (goal.at.returns-then-not-holds_own g c).After-index-entry in
    let none = poll-none c.args.handle post c.holds_own.result (empty g o post s c.if-entry-ne0.false)
    (own g o post s c.holds_own.result c.holds_own.ensures) c.if-not-holds_own.true in
    sym (ap (option_map handed_parts) none)

-- the message that would come back
back : (g : given.Over) (c : After-index-entry g) (post : Post) (s : SpellsPostIn (g.S.Words.memory c.args.store.now) c.args.module_area c.args.self.now post)
    (w : HoldsOwn c.args.handle post.seats)
    → LinksAt (g.S.Words.memory c.args.store.now) c.args.module_area c.index-entry.result.now.held 0 w.parcel
back g c post s w =
    let h = module_heap_in (g.S.Words.memory c.args.store.now) c.args.module_area in
    let there : Holds h c.index-entry.result.now.held (Some w.parcel) = subst (Holds h c.index-entry.result.now.held) w.held (held g c post s).0 in
    record { lies = there.1; block_is = there.0; small = omega arith }

pub parts_in-requires-2-clause-lies : goal.parts_in-requires-2-clause-lies
parts_in-requires-2-clause-lies g c =
    let o = (goal.at.parts_in-requires-2-clause-lies g c).After-index-entry in
    let post = c.requires.queue.post in
    let s = c.requires.queue.spells in
    let w = own-held c.args.handle post.seats c.holds_own.result (own g o post s c.holds_own.result c.holds_own.ensures) c.if-not-holds_own.false in
    (0, (w.parcel, back g o post s w))

pub returns : goal.returns
returns g c = λ post s.
    let o = (goal.at.returns g c).After-index-entry in
    let w = own-held c.args.handle post.seats c.holds_own.result (own g o post s c.holds_own.result c.holds_own.ensures) c.if-not-holds_own.false in
    ap (λ k. Some k) (c.parts_in-2.ensures 0 w.parcel (back g o post s w))
    ∙ sym (ap (option_map handed_parts) (poll-own c.args.handle post w.parcel (empty g o post s c.if-entry-ne0.false) w.held w.own
    (held g o post s).1))
