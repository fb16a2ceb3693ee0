use Rattle.rh_wimp.proofs.Common.{ℕ, ◌+◌, ◌≤◌, length, List, ap, subst, ◌∙◌, arith, Option, Some, None, Parcel, Post, most_messages, OnlyArea-both}
use Rattle.rh_wimp.proofs.Common.{module_heap_in}
use Rattle.rh_wimp.proofs.Common.{Lifted, SpellsPostIn, entry_at, ended_from, queue_to}
use Rattle.rh_defs.proofs.MemoryLaws.{OnlyArea-self}
use Rattle.rh_wimp.specs.Inner.LooseMessages.{TakesFirst}
use Rattle.rh_wimp.proofs.DeathLaws.{seats-ended}
use Rattle.rh_wimp.proofs.EndLaws.{drained-end, drained-start, drained-step, place-stays}
use Rattle.rh_wimp.proofs.PostLaws.{seat_at}
use Rattle.rh_wimp.proofs.TakeLaws.{rest_of}
use Rattle.rh_wimp.proofs.queue.Queue.end_chain.Goals as goal
use Rattle.rh_wimp.proofs.queue.Queue.end_chain.Goals.{After-take_first, In-Some}
use Rattle.rh_wimp.proofs.queue.Queue.end_chain.Given as given

pub loop-turn-init : goal.loop-turn-init
loop-turn-init g c =
    let m = g.S.Words.memory c.args.store.now in
    record {
      still = c.requires.module;
      only = OnlyArea-self m c.args.module_area.area.0 c.requires.module.opened;
      within = c.requires.within;
      handle = c.requires.handle;
      drains = λ post s. drained-start m c.args.module_area c.args.self.now post c.args.dying s;
    }

pub take_first-requires-clause-module : goal.take_first-requires-clause-module
take_first-requires-clause-module g c = c.loop-turn.invariant.still

pub take_first-requires-clause-within : goal.take_first-requires-clause-within
take_first-requires-clause-within g c = c.loop-turn.invariant.within

pub take_first-requires-clause-post : goal.take_first-requires-clause-post
take_first-requires-clause-post g c = let d = c.loop-turn.invariant.drains c.requires.post.0 c.requires.post.1 in (d.0, d.1.spells)

-- what the call took off
lifts : (g : given.Over) (c : After-take_first g) (now : Post) → SpellsPostIn (g.S.Words.memory c.loop-turn.store) c.args.module_area c.loop-turn.self now
    → TakesFirst (g.S.Words.memory c.take_first.new.store) c.args.module_area c.take_first.new.self now c.args.dying c.take_first.result
lifts g c now s =
    subst (λ y. TakesFirst (g.S.Words.memory c.take_first.new.store) c.args.module_area c.take_first.new.self now y c.take_first.result)
    c.loop-turn.invariant.handle
    (c.take_first.ensures.lifts now s)

pub returns-in_default-clause-drains : goal.returns-in_default-clause-drains
returns-in_default-clause-drains g c = λ post s.
    let o = (goal.at.returns-in_default-clause-drains g c).After-take_first in
    let m = g.S.Words.memory c.loop-turn.store in
    let n = g.S.Words.memory c.take_first.new.store in
    let d = c.loop-turn.invariant.drains post s in
    let w : TakesFirst n c.args.module_area c.take_first.new.self d.0 c.args.dying None =
    subst (λ (r : Option ℕ). TakesFirst n c.args.module_area c.take_first.new.self d.0 c.args.dying r) c.in_default.is (lifts g o d.0 d.1.spells) in
    drained-end m n c.args.module_area c.loop-turn.self c.take_first.new.self post d.0 c.args.dying c.loop-turn._turn d.1 w

pub returns-in_default-clause-only : goal.returns-in_default-clause-only
returns-in_default-clause-only g c =
    OnlyArea-both (g.S.Words.memory c.args.store.now) (g.S.Words.memory c.loop-turn.store) (g.S.Words.memory c.take_first.new.store) c.args.module_area.area.0
    c.loop-turn.invariant.only c.take_first.ensures.only

-- the message that was taken off
first : (g : given.Over) (c : In-Some g) (now : Post) → SpellsPostIn (g.S.Words.memory c.loop-turn.store) c.args.module_area c.loop-turn.self now
    → (t : Parcel × List Parcel) × Lifted (g.S.Words.memory c.take_first.new.store) c.args.module_area c.take_first.new.self now c.args.dying c.in-Some.block t
first g c now s =
    let w : TakesFirst (g.S.Words.memory c.take_first.new.store) c.args.module_area c.take_first.new.self now
    (entry_at c.loop-turn.self.entries c.args.at).handle
    (Some c.in-Some.block) = c.in-Some.ensures.lifts now s in
    subst (λ y. TakesFirst (g.S.Words.memory c.take_first.new.store) c.args.module_area c.take_first.new.self now y (Some c.in-Some.block))
    c.loop-turn.invariant.handle w

pub end_message-requires-clause-loose : goal.end_message-requires-clause-loose
end_message-requires-clause-loose g c =
    let o = (goal.at.end_message-requires-clause-loose g c).In-Some in
    let d = c.loop-turn.invariant.drains c.requires.post.0 c.requires.post.1 in
    let w = first g o d.0 d.1.spells in
    (rest_of w.0.1 d.0, (w.0.0, w.1.may))

pub loop-turn-preserved : goal.loop-turn-preserved
loop-turn-preserved g c =
    let o = (goal.at.loop-turn-preserved g c).In-Some in
    let a = g.S.Words.memory c.args.store.now in
    let m = g.S.Words.memory c.loop-turn.store in
    let n = g.S.Words.memory c.take_first.new.store in
    let k = g.S.Words.memory c.end_message.new.store in
    let i = c.loop-turn.invariant in
    let x : ℕ = c.args.dying in
    let d = i.drains c.requires.post.0 c.requires.post.1 in
    let w = first g o d.0 d.1.spells in
    let e = seats-ended x w.0.0 (rest_of w.0.1 d.0) in
    let t = place-stays (module_heap_in m c.args.module_area) (module_heap_in k c.args.module_area) c.loop-turn.self c.end_message.new.self d.0
    (ended_from x w.0.0 (rest_of w.0.1 d.0))
    c.args.at (ap length e) (ap (λ ss. (seat_at ss c.args.at).handle) e)
    d.1.spells (c.end_message.ensures.spells (rest_of w.0.1 d.0) w.0.0 w.1.may) i.within in
    record {
      still = c.end_message.ensures.module;
      only = OnlyArea-both a m k c.args.module_area.area.0 i.only
          (OnlyArea-both m n k c.args.module_area.area.0 c.take_first.ensures.only c.end_message.ensures.only);
      within = t.within;
      handle = t.handle ∙ i.handle;
      drains = λ post s.
          let f = i.drains post s in
          let v = first g o f.0 f.1.spells in
          drained-step m n k c.args.module_area c.loop-turn.self c.take_first.new.self c.end_message.new.self post f.0 x c.loop-turn._turn c.in-Some.block v.0
          f.1
          v.1 (c.end_message.ensures.spells (rest_of v.0.1 f.0) v.0.0 v.1.may);
    }

pub returns-clause-drains : goal.returns-clause-drains
returns-clause-drains g c = λ post s.
    let d = c.loop-turn.invariant.drains post s in
    let few : length (queue_to c.args.dying d.0.queued) + most_messages ≤ most_messages = let f = d.1.few in let t = c.loop-turn-test.false in omega arith in
    (d.0, record { spells = d.1.spells; same = d.1.same; few = few; seats = d.1.seats })

pub returns-clause-module : goal.returns-clause-module
returns-clause-module g c = c.loop-turn.invariant.still

pub returns-clause-only : goal.returns-clause-only
returns-clause-only g c = c.loop-turn.invariant.only
