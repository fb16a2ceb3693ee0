use Rattle.rh_store.proofs.Common.{◌≡◌, ◌-◌, ◌++◌, [], length, replicate, take, refl, sym, ap, ◌∙◌, arith, unwrap_or, vec_capacity, Area, contents}
use Rattle.rh_store.proofs.Common.{open_index, open_read}
use Rattle.std.proofs.lemmas.List.{take_all}
use Rattle.rh_store.proofs.AreasLaws.{rewritten, room_at-get}
use Rattle.rh_store.proofs.area.lengthen_at.Goals as goal

pub index_mut-area-requires : goal.index_mut-area-requires
index_mut-area-requires c = omega (arith, open_index c.args.areas.now.items c.args.i c.requires.opened)

pub unwrap-requires : goal.unwrap-requires
unwrap-requires c =
    let list = c.args.areas.now.items in
    let a = c.index_mut-area.result.now in
    let room = room_at-get list c.args.i a (open_index list c.args.i c.requires.opened)
    ∙ ap (λ (x : Area). vec_capacity x.bytes) (sym c.index_mut-area.ensures.value) in
    c.resize.ensures.succeeds (omega (arith, room, c.requires.room))

pub returns : goal.returns
returns c =
    let list = c.args.areas.now.items in
    let a = c.index_mut-area.result.now in
    let n = c.args.n in
    let old = unwrap_or (contents list c.args.i) [] in
    let was : old ≡ a.bytes.items = (open_read list c.args.i a c.requires.opened c.index_mut-area.ensures.value).1 in
    let all : take n a.bytes.items ≡ a.bytes.items = take_all n a.bytes.items (omega (arith, ap length was, c.requires.more)) in
    let items : c.resize.new.self.items ≡ take n a.bytes.items ++ replicate (n - a.bytes.len) 0 = rw c.unwrap.ensures at c.resize.ensures.items in
    rewritten list c.args.i a _ (old ++ replicate (n - length old) 0) c.requires.opened c.index_mut-area.ensures.value refl
    (items ∙ ap (λ l. l ++ replicate (n - a.bytes.len) 0) (all ∙ sym was) ∙ ap (λ k. old ++ replicate (n - k) 0) (a.bytes.ok.0 ∙ ap length (sym was)))
    c.resize.ensures.capacity
