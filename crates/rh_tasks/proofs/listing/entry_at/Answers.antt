use Rattle.rh_tasks.proofs.Common.{ap, sym, ◌∙◌, arith, slice_get, IsOpen, Seat, HasSlot, all-map}
use Rattle.rh_tasks.specs.Inner.ItemsByOwner.{slot_items}
use Rattle.rh_tasks.proofs.ItemLaws.{item-made, item-slot}
use Rattle.rh_tasks.proofs.listing.entry_at.Goals as goal

pub returns-then-behind-len : goal.returns-then-behind-len
returns-then-behind-len g c =
    rw c.pages_in-then-behind-len.ensures
    (sym (item-made (g.S.Words.memory c.args.store.now) c.args.seats.now.items c.args.made.now.items c.args.i c.index-area.result.now
    c.if-i-lt-FIXED_AREAS.false
    (omega (arith, c.if-behind-len.true, c.len.ensures.value)) (sym c.index-area.ensures)))

pub slot_entry-requires : goal.slot_entry-requires
slot_entry-requires g c =
    let m = g.S.Words.memory c.args.store.now in
    all-map (HasSlot m) (λ (s : Seat). IsOpen m s.slot.area.0) c.args.seats.now.items (λ s has. has.opened) c.requires.slots

pub returns : goal.returns
returns g c =
    let m = g.S.Words.memory c.args.store.now in
    c.slot_entry.ensures
    ∙ ap (slice_get (slot_items m c.args.seats.now.items)) (omega (arith, c.len-2.ensures.value))
    ∙ sym (item-slot m c.args.seats.now.items c.args.made.now.items c.args.i c.if-i-lt-FIXED_AREAS.false
    (omega (arith, c.if-behind-len.false, c.len.ensures.value)))
