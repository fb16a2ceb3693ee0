use Rattle.rh_tasks.proofs.Common.{refl, ap, arith, err_from_is_err_and, slot_put, slot_in, kept_of, shown_of, ends, nobody, owned, granted}
use Rattle.rh_defs.specs.Commands.{load}
use Rattle.rh_tasks.proofs.Ranges.{load-anchor}
use Rattle.rh_tasks.proofs.Addresses.{grant-of, slot_alloc-low}
use Rattle.rh_tasks.proofs.Loads.{put-answers, load-missing, load-refused, load-fits, load-done, load-world}
use Rattle.rh_tasks.proofs.world.World.load.Goals as goal

pub returns-in_err-slot : goal.returns-in_err-slot
unfolding load
returns-in_err-slot g c =
    let p = err_from_is_err_and c.from_residual.result c.from_residual.ensures.1 in
    rw (p.1, p.2, c.in_err-slot.ensures.err.0, ← c.self.view_is) (ends _ (nobody _ _ _ _ _ _ c.in_err-slot.ensures.err.1), refl)

pub returns-in_default : goal.returns-in_default
returns-in_default g c = rw (← c.self.view_is) (load-missing c.self.invariant c.in_ok-slot.ensures.ok _ _ c.in_default.ensures.value, refl)

pub alloc-requires-clause-anchor : goal.alloc-requires-clause-anchor
alloc-requires-clause-anchor g c = load-anchor c.args.name.now c.args.anchor c.args.file.now c.requires

pub returns-in_err-address : goal.returns-in_err-address
returns-in_err-address g c =
    let p = err_from_is_err_and c.from_residual-in_err-address.result c.from_residual-in_err-address.ensures.1 in
    let same = ap (λ m. shown_of m c.self.inside.seats.items c.self.inside.made.items (g.F.NamedFiles.contents c.self.inside.files)
    (kept_of c.self.inside.next c.self.inside.queue c.self.inside.scrap)) c.in_err-address.ensures.err in
    rw (p.1, p.2, ← c.self.view_is)
    (load-refused c.self.invariant c.in_ok-slot.ensures.ok _ _ c.in-Some.bytes.now c.in-Some.ensures.value c.in_err-address.ensures, same)

pub put-requires-clause-slot : goal.put-requires-clause-slot
put-requires-clause-slot g c = c.in_ok-address.ensures.still

pub put-requires-clause-anchor : goal.put-requires-clause-anchor
put-requires-clause-anchor g c = load-anchor c.args.name.now c.args.anchor c.args.file.now c.requires

pub unwrap-requires : goal.unwrap-requires
unwrap-requires g c =
    put-answers (slot_put c.args.anchor 0 c.in-Some.bytes.now (slot_in (g.S.Words.memory c.alloc.new.store) c.in_ok-slot.slot)) _ c.put.ensures
    (load-fits c.self.invariant c.in_ok-slot.ensures.ok c.args.anchor c.args.file.now c.in-Some.bytes.now c.in-Some.ensures.value c.in_ok-address.ensures)

pub overflow_cast-result : goal.overflow_cast-result
overflow_cast-result g c =
    let is = owned c.self.invariant c.in_ok-slot.ensures.ok in
    let low = grant-of (slot_alloc-low _ _ _ _) (granted c.in_ok-address.ensures) in
    omega (
      arith,
      low,
      is.spells.words.within,
      is.spells.words.heap.within,
      is.spells.words.heap.heap.fits,
      g.met.S.Words.small c.self.inside.store c.in_ok-slot.slot.area.0,
    )

pub invariant_of-self-2 : goal.invariant_of-self-2
invariant_of-self-2 g c =
    let l = rw c.unwrap.ensures at c.put.ensures in
    load-world c.self.invariant c.in_ok-slot.ensures.ok c.args.anchor c.args.file.now c.in-Some.bytes.now c.in-Some.ensures.value c.in_ok-address.ensures l
    c.requires

pub returns : goal.returns
returns g c =
    let l = rw c.unwrap.ensures at c.put.ensures in
    rw (← c.self.view_is) (load-done c.self.invariant c.in_ok-slot.ensures.ok c.args.anchor c.args.file.now c.in-Some.bytes.now c.in-Some.ensures.value
    c.in_ok-address.ensures l)
