use Rattle.rh_wimp.proofs.Common.{ℕ, List, refl, sym, ap, subst, ◌∙◌, arith, has-less, Parcel, is_recorded, Post, taken, module_heap_in, Chains, ArePostChains}
use Rattle.rh_wimp.proofs.Common.{Lifted}
use Rattle.rh_wimp.proofs.Common.{LiesAt, SpellsPostIn, entry_at}
use Rattle.rh_wimp.proofs.PollLaws.{Stays, lies-has, seats-stay, take-freed, take-held}
use Rattle.rh_wimp.proofs.TakeLaws.{rest_of}
use Rattle.rh_wimp.proofs.queue.Queue.take.Goals as goal
use Rattle.rh_wimp.proofs.queue.Queue.take.Goals.{In-Some, then-is_recorded, else-is_recorded}
use Rattle.rh_wimp.proofs.queue.Queue.take.Given as given

-- the first message, which belongs to no row now
first : (g : given.Over) (c : In-Some g) (post : Post) → SpellsPostIn (g.S.Words.memory c.args.store.now) c.args.module_area c.args.self.now post
    → (t : Parcel × List Parcel) × Lifted (g.S.Words.memory c.take_first.new.store) c.args.module_area c.take_first.new.self post
    (entry_at c.args.self.now.entries c.args.at).handle c.in-Some.block t
first g c post s = c.in-Some.ensures.lifts post s

lies : (g : given.Over) (c : In-Some g) (post : Post) (s : SpellsPostIn (g.S.Words.memory c.args.store.now) c.args.module_area c.args.self.now post)
    → LiesAt (g.S.Words.memory c.take_first.new.store) c.args.module_area c.in-Some.block (first g c post s).0.0
lies g c post s = let w = (first g c post s).1.may in record { lies = w.loose.lies; block_is = w.block_is }

pub free-requires : goal.free-requires
free-requires g c =
    let o = (goal.at.free-requires g c).In-Some in
    let n = g.S.Words.memory c.take_first.new.store in
    record {
      «module» = c.in-Some.ensures.module;
      block = has-less c.in-Some.block 24 4 (module_heap_in n c.args.module_area) (omega arith)
          (lies-has n c.args.module_area c.in-Some.block (first g o c.requires.post.0 c.requires.post.1).0.0 (lies g o c.requires.post.0 c.requires.post.1));
    }

pub returns-clause-spells : goal.returns-clause-spells
returns-clause-spells g c = λ post s none.
    let o = (goal.at.returns-clause-spells g c).In-Some in
    let m = g.S.Words.memory c.args.store.now in
    let n = g.S.Words.memory c.take_first.new.store in
    let x : ℕ = (entry_at c.args.self.now.entries c.args.at).handle in
    let q = c.take_first.new.self in
    let w = first g o post s in
    let code = c.read_code-code.ensures w.0.0 (lies g o post s) in
    elim c.if-is_recorded.branch [
      | then-is_recorded v ↦
          let t : Stays c.args.self.now q c.args.at = seats-stay (module_heap_in m c.args.module_area)
          (module_heap_in n c.args.module_area) c.args.self.now q post
          (rest_of w.0.1 post)
          c.args.at refl s w.1.may.spells c.requires.within in
          rw (v.self-is, v.store-is) (subst (λ (k : Chains). ArePostChains (module_heap_in n c.args.module_area) k (taken x post).0) (sym v.hold.ensures)
          (take-held n c.args.module_area q post x c.args.at c.in-Some.block w.0 w.1 t.within t.handle none
          (ap is_recorded (sym code) ∙ sym c.is_recorded.ensures ∙ v.if-is_recorded.true)))
      | else-is_recorded v ↦
          rw (v.self-is, v.store-is) (take-freed n c.args.module_area q post x c.in-Some.block w.0
          (module_heap_in (g.S.Words.memory v.free.new.store) c.args.module_area) w.1
          (ap is_recorded (sym code) ∙ sym c.is_recorded.ensures ∙ v.if-is_recorded.false) v.free.ensures.heap)
    ]
