use Rattle.rh_wimp.proofs.Common.{◌≡◌, ℕ, ◌≢◌, refl, sym, ap, subst, ◌∙◌, arith, Some, None, option_map, has-less, block_bytes, padded, ref_read, Parcel, Post}
use Rattle.rh_wimp.proofs.Common.{HasBlock, held_by, module_heap_in, release_block, Chains, ArePostChains, Holds, SpellsPostIn, entry_at}
use Rattle.rh_defs.specs.Post.{put_down}
use Rattle.rh_wimp.proofs.AnswerLaws.{held-has}
use Rattle.rh_wimp.proofs.HoldLaws.{put-nothing}
use Rattle.rh_wimp.proofs.PeekLaws.{held-there}
use Rattle.rh_wimp.proofs.PollLaws.{holds-none, holds-one}
use Rattle.rh_wimp.proofs.SearchLaws.{held-some}
use Rattle.rh_wimp.proofs.SendLaws.{put-down}
use Rattle.rh_wimp.proofs.queue.Queue.put_down_at.Goals as goal
use Rattle.rh_wimp.proofs.queue.Queue.put_down_at.Goals.{In-Some, In_default}
use Rattle.rh_wimp.proofs.queue.Queue.put_down_at.Given as given

-- ---- nothing is held
none : (g : given.Over) (c : In_default g) (post : Post) → SpellsPostIn (g.S.Words.memory c.args.store.now) c.args.module_area c.args.self.now post
    → held_by (entry_at c.args.self.now.entries c.args.at).handle post.seats ≡ None
none g c post s =
    holds-none (module_heap_in (g.S.Words.memory c.args.store.now) c.args.module_area) c.args.self.now post
    (entry_at c.args.self.now.entries c.args.at).handle c.args.at s c.requires.within refl c.in_default.ensures.none.0

pub returns-in_default-clause-answer : goal.returns-in_default-clause-answer
returns-in_default-clause-answer g c = λ post s.
    sym (ap (option_map (λ (p : Parcel). p.message.my_ref)) (none g (goal.at.returns-in_default-clause-answer g c).In_default post s))

pub returns-in_default-clause-spells : goal.returns-in_default-clause-spells
returns-in_default-clause-spells g c = λ post s.
    let h = module_heap_in (g.S.Words.memory c.args.store.now) c.args.module_area in
    let x : ℕ = (entry_at c.args.self.now.entries c.args.at).handle in
    let e = none g (goal.at.returns-in_default-clause-spells g c).In_default post s in
    subst (λ (k : Chains). ArePostChains h k (put_down x post)) (sym c.in_default.ensures.none.1)
    (subst (λ (p : Post). ArePostChains h c.args.self.now p) (sym (put-nothing x post e)) s)

-- ---- a message is held
there : (g : given.Over) (c : In-Some g) (post : Post) → SpellsPostIn (g.S.Words.memory c.args.store.now) c.args.module_area c.args.self.now post
    → Holds (module_heap_in (g.S.Words.memory c.args.store.now) c.args.module_area) c.in-Some.block
    (held_by (entry_at c.args.self.now.entries c.args.at).handle post.seats)
there g c post s =
    let h = module_heap_in (g.S.Words.memory c.args.store.now) c.args.module_area in
    let x : ℕ = (entry_at c.args.self.now.entries c.args.at).handle in
    subst (λ b. Holds h b (held_by x post.seats)) (sym c.in-Some.ensures.held.0)
    (held-there h c.args.self.now post x c.args.at s c.requires.within refl)

above : (g : given.Over) (c : In-Some g) → c.in-Some.block ≢ 0
above g c = λ z. c.in-Some.ensures.held.1 (sym c.in-Some.ensures.held.0 ∙ z)

has : (g : given.Over) (c : In-Some g) → HasBlock c.in-Some.block 24 (module_heap_in (g.S.Words.memory c.args.store.now) c.args.module_area)
has g c =
    held-has (module_heap_in (g.S.Words.memory c.args.store.now) c.args.module_area) c.in-Some.block
    (held_by (entry_at c.args.self.now.entries c.args.at).handle c.requires.post.0.seats) (there g c c.requires.post.0 c.requires.post.1) (above g c)

pub read_word-requires-clause-block : goal.read_word-requires-clause-block
read_word-requires-clause-block g c =
    has-less c.in-Some.block 24 20 (module_heap_in (g.S.Words.memory c.args.store.now) c.args.module_area) (omega arith)
    (has g (goal.at.read_word-requires-clause-block g c).In-Some)

pub free-requires-clause-block : goal.free-requires-clause-block
free-requires-clause-block g c =
    has-less c.in-Some.block 24 4 (module_heap_in (g.S.Words.memory c.args.store.now) c.args.module_area) (omega arith)
    (has g (goal.at.free-requires-clause-block g c).In-Some)

pub returns-clause-answer : goal.returns-clause-answer
returns-clause-answer g c = λ post s.
    let h = module_heap_in (g.S.Words.memory c.args.store.now) c.args.module_area in
    let o = (goal.at.returns-clause-answer g c).In-Some in
    let x : ℕ = (entry_at c.args.self.now.entries c.args.at).handle in
    let w = held-some h c.in-Some.block (held_by x post.seats) (there g o post s) (above g o) in
    ap (λ n. Some n) (c.read_word.ensures (padded 0 w.parcel) (ap (λ a. block_bytes a h) w.block ∙ w.lies.block)
    ∙ ref_read 0 w.parcel (omega arith) w.lies.fits)
    ∙ sym (ap (option_map (λ (p : Parcel). p.message.my_ref)) w.is)

pub returns-clause-spells : goal.returns-clause-spells
returns-clause-spells g c = λ post s.
    let h = module_heap_in (g.S.Words.memory c.args.store.now) c.args.module_area in
    let k = module_heap_in (g.S.Words.memory c.free.new.store) c.args.module_area in
    let q = c.args.self.now in
    let x : ℕ = (entry_at q.entries c.args.at).handle in
    let e = c.in-Some.ensures.held in
    let w = holds-one h q post x c.args.at s c.requires.within refl e.1 in
    subst (λ (r : Chains). ArePostChains k r (put_down x post)) (sym e.2)
    (put-down h k q post x c.args.at w.parcel s c.requires.within refl w.held (c.free.ensures.heap ∙ ap (λ b. release_block b h) e.0))
