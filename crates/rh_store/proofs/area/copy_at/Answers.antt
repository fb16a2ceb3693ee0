use Rattle.rh_store.proofs.Common.{◌<◌, ◌≤◌, [], length, take, drop, ap, ◌∙◌, arith, unwrap_or, with_part, part, length-put, contents, open_index}
use Rattle.rh_store.proofs.AreasLaws.{read_slice, in_front, in_back, written_front, written_back}
use Rattle.rh_store.proofs.area.copy_at.Goals as goal

pub split_at_mut-front-requires : goal.split_at_mut-front-requires
split_at_mut-front-requires c = omega (arith, open_index c.args.areas.now.items c.args.j c.requires.opened2)

pub bounds-back-0 : goal.bounds-back-0
bounds-back-0 c = omega (arith, open_index c.args.areas.now.items c.args.j c.requires.opened2, c.split_at_mut-front.ensures.back_len)

pub copy_over-requires-clause-source : goal.copy_over-requires-clause-source
copy_over-requires-clause-source c =
    let list = c.args.areas.now.items in
    let x = c.index-front-i.result in
    let front = c.split_at_mut-front.ensures.front ∙ ap (take c.args.j) c.deref_mut.ensures.value in
    let read = read_slice list c.args.i x _ c.deref.result.now c.requires.opened (in_front list _ c.args.i c.args.j x front c.if-i-j.true c.index-front-i.is)
    c.index-front-i.is c.deref.ensures.value in
    omega (arith, ap length read, c.requires.source)

pub copy_over-requires-clause-target : goal.copy_over-requires-clause-target
copy_over-requires-clause-target c =
    let list = c.args.areas.now.items in
    let x = c.index-back-0.result in
    let back = c.split_at_mut-front.ensures.back ∙ ap (drop c.args.j) c.deref_mut.ensures.value in
    let read = read_slice list c.args.j x _ c.deref_mut-then-i-j.result.now c.requires.opened2 (in_back list _ c.args.j x back c.index-back-0.is)
    c.index-back-0.is c.deref_mut-then-i-j.ensures.value in
    omega (arith, ap length read, c.requires.target)

pub returns-then-i-j : goal.returns-then-i-j
returns-then-i-j c =
    let list = c.args.areas.now.items in
    let x = c.index-front-i.result in
    let y = c.index-back-0.result in
    let old = unwrap_or (contents list c.args.j) [] in
    let from = unwrap_or (contents list c.args.i) [] in
    let front = c.split_at_mut-front.ensures.front ∙ ap (take c.args.j) c.deref_mut.ensures.value in
    let back = c.split_at_mut-front.ensures.back ∙ ap (drop c.args.j) c.deref_mut.ensures.value in
    let source = read_slice list c.args.i x _ c.deref.result.now c.requires.opened
    (in_front list _ c.args.i c.args.j x front c.if-i-j.true c.index-front-i.is) c.index-front-i.is c.deref.ensures.value in
    let target = read_slice list c.args.j y _ c.deref_mut-then-i-j.result.now c.requires.opened2 (in_back list _ c.args.j y back c.index-back-0.is)
    c.index-back-0.is c.deref_mut-then-i-j.ensures.value in
    let h : c.args.j ≤ length list = omega (arith, open_index list c.args.j c.requires.opened2) in
    written_back c.args.areas.now _ _ c.args.j y c.copy_over.new.to (with_part old c.args.at2 (part from c.args.at c.args.n)) front back h c.index-back-0.is
    c.requires.opened2
    (c.copy_over.ensures ∙ ap (λ l. with_part l c.args.at2 (part c.deref.result.now c.args.at c.args.n)) target
    ∙ ap (λ l. with_part old c.args.at2 (part l c.args.at c.args.n)) source)
    (length-put old c.args.at2 (part from c.args.at c.args.n))

pub split_at_mut-front-requires-else-i-j : goal.split_at_mut-front-requires-else-i-j
split_at_mut-front-requires-else-i-j c = omega (arith, open_index c.args.areas.now.items c.args.i c.requires.opened)

pub bounds-back-0-else-i-j : goal.bounds-back-0-else-i-j
bounds-back-0-else-i-j c = omega (arith, open_index c.args.areas.now.items c.args.i c.requires.opened, c.split_at_mut-front-else-i-j.ensures.back_len)

pub copy_over-requires-else-i-j-clause-source : goal.copy_over-requires-else-i-j-clause-source
copy_over-requires-else-i-j-clause-source c =
    let list = c.args.areas.now.items in
    let x = c.index-back-0-else-i-j.result in
    let back = c.split_at_mut-front-else-i-j.ensures.back ∙ ap (drop c.args.i) c.deref_mut-else-i-j.ensures.value in
    let read = read_slice list c.args.i x _ c.deref-else-i-j.result.now c.requires.opened (in_back list _ c.args.i x back c.index-back-0-else-i-j.is)
    c.index-back-0-else-i-j.is c.deref-else-i-j.ensures.value in
    omega (arith, ap length read, c.requires.source)

pub copy_over-requires-else-i-j-clause-target : goal.copy_over-requires-else-i-j-clause-target
copy_over-requires-else-i-j-clause-target c =
    let list = c.args.areas.now.items in
    let x = c.index-front-j.result in
    let below : c.args.j < c.args.i = omega (arith, c.if-i-j.false, c.requires.apart) in
    let front = c.split_at_mut-front-else-i-j.ensures.front ∙ ap (take c.args.i) c.deref_mut-else-i-j.ensures.value in
    let read = read_slice list c.args.j x _ c.deref_mut-else-i-j-2.result.now c.requires.opened2
    (in_front list _ c.args.j c.args.i x front below c.index-front-j.is) c.index-front-j.is c.deref_mut-else-i-j-2.ensures.value in
    omega (arith, ap length read, c.requires.target)

pub returns-else-i-j : goal.returns-else-i-j
returns-else-i-j c =
    let list = c.args.areas.now.items in
    let x = c.index-back-0-else-i-j.result in
    let y = c.index-front-j.result in
    let old = unwrap_or (contents list c.args.j) [] in
    let from = unwrap_or (contents list c.args.i) [] in
    let below : c.args.j < c.args.i = omega (arith, c.if-i-j.false, c.requires.apart) in
    let front = c.split_at_mut-front-else-i-j.ensures.front ∙ ap (take c.args.i) c.deref_mut-else-i-j.ensures.value in
    let back = c.split_at_mut-front-else-i-j.ensures.back ∙ ap (drop c.args.i) c.deref_mut-else-i-j.ensures.value in
    let source = read_slice list c.args.i x _ c.deref-else-i-j.result.now c.requires.opened (in_back list _ c.args.i x back c.index-back-0-else-i-j.is)
    c.index-back-0-else-i-j.is c.deref-else-i-j.ensures.value in
    let target = read_slice list c.args.j y _ c.deref_mut-else-i-j-2.result.now c.requires.opened2
    (in_front list _ c.args.j c.args.i y front below c.index-front-j.is) c.index-front-j.is c.deref_mut-else-i-j-2.ensures.value in
    let h : c.args.i ≤ length list = omega (arith, open_index list c.args.i c.requires.opened) in
    written_front c.args.areas.now _ _ c.args.j c.args.i y c.copy_over-else-i-j.new.to
    (with_part old c.args.at2 (part from c.args.at c.args.n)) front back below h
    c.index-front-j.is c.requires.opened2
    (c.copy_over-else-i-j.ensures ∙ ap (λ l. with_part l c.args.at2 (part c.deref-else-i-j.result.now c.args.at c.args.n)) target
    ∙ ap (λ l. with_part old c.args.at2 (part l c.args.at c.args.n)) source)
    (length-put old c.args.at2 (part from c.args.at c.args.n))
