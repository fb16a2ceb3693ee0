use Rattle.rh_wimp.proofs.Common.{◌≡◌, ◌≢◌, ℕ, List, ◌-◌, ◌<◌, length, set, refl, sym, ap, subst, ◌∙◌, arith, Some, HasBlock, block_bytes, poked, word}
use Rattle.rh_wimp.proofs.Common.{word_bytes, Parcel, Post, has-less, module_heap_in, Chains, Lifted, SpellsPostIn, entry_at, Entry}
use Rattle.rh_wimp.specs.Chains.{shortened}
use Rattle.rh_wimp.proofs.AnswerLaws.{read_entry}
use Rattle.rh_wimp.proofs.PollLaws.{Heads, first-lifted, head-has, heads, next-of, next-small, no-head}
use Rattle.rh_wimp.proofs.queue.Queue.take_first.Goals as goal
use Rattle.rh_wimp.proofs.queue.Queue.take_first.Goals.{After-index-entry}
use Rattle.rh_wimp.proofs.queue.Queue.take_first.Given as given

seen : (g : given.Over) (c : After-index-entry g) → Chains
seen g c = record { entries = c.self.inside.entries.items; live = c.self.inside.live; next_ref = c.self.inside.next_ref }

entry_is : (g : given.Over) (c : After-index-entry g)
    → (c.args.at < length (seen g c).entries) × (c.index-entry.result.now ≡ entry_at (seen g c).entries c.args.at)
unfolding seen
entry_is g c =
    let l : c.args.at < length (seen g c).entries = subst (λ (q : Chains). c.args.at < length q.entries) (sym c.self.view_is) c.requires.within in
    (l, read_entry (seen g c).entries c.args.at c.index-entry.result.now l c.index-entry.ensures)

entry_now : (g : given.Over) (c : After-index-entry g) → c.index-entry.result.now ≡ entry_at c.args.self.now.entries c.args.at
unfolding seen
entry_now g c = subst (λ (q : Chains). c.index-entry.result.now ≡ entry_at q.entries c.args.at) c.self.view_is (entry_is g c).1

pub returns-then-block-eq0-clause-lifts : goal.returns-then-block-eq0-clause-lifts
returns-then-block-eq0-clause-lifts g c = λ post s.
    let h = module_heap_in (g.S.Words.memory c.args.store.now) c.args.module_area in
    let o = (goal.at.returns-then-block-eq0-clause-lifts g c).After-index-entry in
    let x : ℕ = (entry_at c.args.self.now.entries c.args.at).handle in
    (no-head h c.args.self.now post x c.args.at s c.requires.within refl (sym (ap (λ (e : Entry). e.first) (entry_now g o)) ∙ c.if-block-eq0.true), s)

-- the first message
before : (g : given.Over) (c : After-index-entry g) (post : Post) → SpellsPostIn (g.S.Words.memory c.args.store.now) c.args.module_area c.args.self.now post
    → SpellsPostIn (g.S.Words.memory c.args.store.now) c.args.module_area (seen g c) post
unfolding seen
before g c post s = subst (λ (k : Chains). SpellsPostIn (g.S.Words.memory c.args.store.now) c.args.module_area k post) (sym c.self.view_is) s

named : (g : given.Over) (c : After-index-entry g) → (entry_at (seen g c).entries c.args.at).handle ≡ (entry_at c.args.self.now.entries c.args.at).handle
unfolding seen
named g c = ap (λ (k : Chains). (entry_at k.entries c.args.at).handle) c.self.view_is

head : (g : given.Over) (c : After-index-entry g) (post : Post) → SpellsPostIn (g.S.Words.memory c.args.store.now) c.args.module_area c.args.self.now post
    → c.index-entry.result.now.first ≢ 0
    → (t : Parcel × List Parcel) × Heads (g.S.Words.memory c.args.store.now) c.args.module_area (seen g c) post
    (entry_at c.args.self.now.entries c.args.at).handle
    c.args.at t
head g c post s ne =
    heads (g.S.Words.memory c.args.store.now) c.args.module_area (seen g c) post (entry_at c.args.self.now.entries c.args.at).handle c.args.at
    (before g c post s)
    (entry_is g c).0 (named g c)
    (λ z. ne (ap (λ (e : Entry). e.first) (entry_is g c).1 ∙ z))

pub read_word-next-requires-clause-block : goal.read_word-next-requires-clause-block
read_word-next-requires-clause-block g c =
    let m = g.S.Words.memory c.args.store.now in
    let o = (goal.at.read_word-next-requires-clause-block g c).After-index-entry in
    let w = head g o c.requires.post.0 c.requires.post.1 c.if-block-eq0.false in
    has-less c.index-entry.result.now.first 24 4 (module_heap_in m c.args.module_area) (omega arith)
    (subst (λ (e : Entry). HasBlock e.first 24 (module_heap_in m c.args.module_area)) (sym (entry_is g o).1)
    (head-has m c.args.module_area (seen g o) c.requires.post.0 (entry_at c.args.self.now.entries c.args.at).handle c.args.at w.0 w.1))

pub write_word-requires-clause-block : goal.write_word-requires-clause-block
write_word-requires-clause-block g c =
    let m = g.S.Words.memory c.args.store.now in
    let o = (goal.at.write_word-requires-clause-block g c).After-index-entry in
    let w = head g o c.requires.post.0 c.requires.post.1 c.if-block-eq0.false in
    has-less c.index-entry.result.now.first 24 4 (module_heap_in m c.args.module_area) (omega arith)
    (subst (λ (e : Entry). HasBlock e.first 24 (module_heap_in m c.args.module_area)) (sym (entry_is g o).1)
    (head-has m c.args.module_area (seen g o) c.requires.post.0 (entry_at c.args.self.now.entries c.args.at).handle c.args.at w.0 w.1))

pub overflow_sub-self : goal.overflow_sub-self
unfolding seen
overflow_sub-self g c = (head g (goal.at.overflow_sub-self g c).After-index-entry c.requires.post.0 c.requires.post.1 c.if-block-eq0.false).1.live

pub returns-clause-lifts : goal.returns-clause-lifts
unfolding seen
returns-clause-lifts g c = λ post s.
    let m = g.S.Words.memory c.args.store.now in
    let n = g.S.Words.memory c.write_word.new.store in
    let o = (goal.at.returns-clause-lifts g c).After-index-entry in
    let x : ℕ = (entry_at c.args.self.now.entries c.args.at).handle in
    let q : Chains = seen g o in
    let e = entry_is g o in
    let w = head g o post s c.if-block-eq0.false in
    let first : c.index-entry.result.now.first ≡ (entry_at q.entries c.args.at).first = ap (λ (y : Entry). y.first) e.1 in
    let small = next-small m c.args.module_area w.1.next c.requires.module (g.met.S.Words.small c.args.store.now c.args.module_area.area.0) w.1.next_there in
    let next = next-of m c.args.module_area q post x c.args.at w.0 w.1 c.read_word-next.result small
    (subst (λ a. (bs : List ℕ) → block_bytes a (module_heap_in m c.args.module_area) ≡ Some bs → c.read_word-next.result
    ≡ word bs 0) first c.read_word-next.ensures) in
    let done = first-lifted m c.args.module_area q post x c.args.at w.0 w.1 n c.read_word-next.result (before g o post s) e.0 (named g o) next
    (c.write_word.ensures.heap ∙ ap (λ a. poked a 0 (word_bytes 0) (module_heap_in m c.args.module_area)) first) in
    let entry : shortened c.read_word-next.result (entry_at q.entries c.args.at) ≡ c.shortened.result =
    sym (c.shortened.ensures ∙ ap (shortened c.read_word-next.result) e.1) in (
      w.0,
      subst (λ b. Lifted n c.args.module_area
          (record { entries = set q.entries c.args.at c.shortened.result; live = q.live - 1; next_ref = q.next_ref }) post x b
          w.0) (sym first)
          (subst (λ (y : Entry). Lifted n c.args.module_area (record { entries = set q.entries c.args.at y; live = q.live - 1; next_ref = q.next_ref }) post x
          (entry_at q.entries c.args.at).first w.0) entry done),
    )
