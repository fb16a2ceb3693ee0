use Rattle.rh_tasks.proofs.Common.{refl, sym, arith, w32, to_z-of_z, pages_at}
use Rattle.rh_tasks.proofs.PageLaws.{lacking}
use Rattle.rh_tasks.proofs.AreaCommands.{after-more, after-full, after-less, after-short}
use Rattle.rh_tasks.proofs.areas.pages_after.Goals as goal

pub returns-then-now-least : goal.returns-then-now-least
unfolding pages_at
returns-then-now-least g c =
    let z = to_z-of_z w32 c.args.delta c.ranges.delta in
    let down = rw z at c.if-delta-lt0.true in
    let more = rw z at c.pages_of-more.ensures in
    sym (after-short _ _ _ c.pages_of-more.result c.args.delta down more (omega (arith, c.if-now-least.true, c.len-now.ensures)))

pub returns-then-delta-lt0 : goal.returns-then-delta-lt0
unfolding pages_at
returns-then-delta-lt0 g c =
    let z = to_z-of_z w32 c.args.delta c.ranges.delta in
    let down = rw z at c.if-delta-lt0.true in
    let more = rw z at c.pages_of-more.ensures in
    rw c.len-now.ensures (sym (after-less _ _ _ c.pages_of-more.result c.args.delta down more (omega (arith, c.if-now-least.false, c.len-now.ensures))))

pub returns-then-not-grow_check : goal.returns-then-not-grow_check
unfolding pages_at
returns-then-not-grow_check g c =
    let z = to_z-of_z w32 c.args.delta c.ranges.delta in
    let up = rw z at c.if-delta-lt0.false in
    let more = rw z at c.pages_of-more.ensures in
    sym (after-full _ _ _ c.pages_of-more.result c.args.delta up more (lacking c.grow_check.result _ _ c.grow_check.ensures c.if-not-grow_check.true))

pub returns : goal.returns
unfolding pages_at
returns g c =
    let z = to_z-of_z w32 c.args.delta c.ranges.delta in
    let up = rw z at c.if-delta-lt0.false in
    let more = rw z at c.pages_of-more.ensures in
    let room = rw c.if-not-grow_check.false at c.grow_check.ensures in
    rw c.len-now.ensures (sym (after-more _ _ _ c.pages_of-more.result c.args.delta up more (room.0 refl)))
