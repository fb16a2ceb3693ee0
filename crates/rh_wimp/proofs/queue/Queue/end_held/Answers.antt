use Rattle.rh_wimp.proofs.Common.{ℕ, sym, subst, module_heap_in, Chains, ArePostChains, SpellsPostIn, MayBounce, emptied_chains, lifted, settled_from, Post}
use Rattle.rh_wimp.proofs.Common.{held_by}
use Rattle.rh_wimp.proofs.PollLaws.{HoldsOne, holds-one, holds-none, may-bounce}
use Rattle.rh_wimp.proofs.queue.Queue.end_held.Goals as goal
use Rattle.rh_wimp.proofs.queue.Queue.end_held.Goals.{In-Some}
use Rattle.rh_wimp.proofs.queue.Queue.end_held.Given as given

-- the message that was held may bounce
may : (g : given.Over) (c : In-Some g) (post : Post) → SpellsPostIn (g.S.Words.memory c.args.store.now) c.args.module_area c.args.self.now post
    → (w : HoldsOne (module_heap_in (g.S.Words.memory c.args.store.now) c.args.module_area) c.args.self.now post c.args.dying c.args.at)
    × MayBounce (g.S.Words.memory c.args.store.now) c.args.module_area c.lift_held.new.self (lifted c.args.dying post) w.parcel c.in-Some.block
may g c post s =
    let m = g.S.Words.memory c.args.store.now in
    let q = c.args.self.now in
    let x : ℕ = c.args.dying in
    let e = c.in-Some.ensures.held in
    let w = holds-one (module_heap_in m c.args.module_area) q post x c.args.at s c.requires.within c.requires.handle e.1 in (
      w,
      subst (λ (k : Chains). MayBounce m c.args.module_area k (lifted x post) w.parcel c.in-Some.block) (sym e.2)
          (subst (λ b. MayBounce m c.args.module_area (emptied_chains c.args.at q) (lifted x post) w.parcel b) (sym e.0)
          (may-bounce m c.args.module_area q post x c.args.at s c.requires.within c.requires.handle w)),
    )

pub bounce_from-requires-clause-loose : goal.bounce_from-requires-clause-loose
bounce_from-requires-clause-loose g c =
    let w = may g (goal.at.bounce_from-requires-clause-loose g c).In-Some c.requires.post.0 c.requires.post.1 in
    (lifted c.args.dying c.requires.post.0, (w.0.parcel, w.1))

pub returns-in-Some-clause-spells : goal.returns-in-Some-clause-spells
returns-in-Some-clause-spells g c = λ post s.
    let k = g.S.Words.memory c.bounce_from.new.store in
    let x : ℕ = c.args.dying in
    let w = may g (goal.at.returns-in-Some-clause-spells g c).In-Some post s in
    subst (λ o. ArePostChains (module_heap_in k c.args.module_area) c.bounce_from.new.self (settled_from x o post)) (sym w.0.held)
    (c.bounce_from.ensures.spells (lifted x post) w.0.parcel w.1)

pub returns-in_default-clause-spells : goal.returns-in_default-clause-spells
returns-in_default-clause-spells g c = λ post s.
    let h = module_heap_in (g.S.Words.memory c.args.store.now) c.args.module_area in
    let x : ℕ = c.args.dying in
    let e = c.in_default.ensures.none in
    let none = holds-none h c.args.self.now post x c.args.at s c.requires.within c.requires.handle e.0 in
    subst (λ (k : Chains). ArePostChains h k (settled_from x (held_by x post.seats) post)) (sym e.1)
    (subst (λ b. ArePostChains h c.args.self.now (settled_from x b post)) (sym none) s)
