use Rattle.rh_pages.proofs.Common.{◌*◌, ◌++◌, ◌∷◌, [], length, set, refl, sym, ap, ◌∙◌, arith, length_push, MAX_AREAS, LISTS, list_at, paged_memory, region_of}
use Rattle.rh_pages.proofs.Common.{pages_of, free_of, paged_numbered_law, lists_of}
use Rattle.rh_pages.proofs.Passing.{same_free}
use Rattle.rh_pages.proofs.Seats.{area_below, list_read, table_of, table_long}
use Rattle.rh_pages.proofs.Shifts.{shrunk_is_kept, shrunk_is_memory}
use Rattle.rh_pages.proofs.Tables.{length_lists}
use Rattle.rh_pages.proofs.Turns.{room_left}
use Rattle.rh_pages.proofs.paged.PagedStore.shrink_page.Goals as goal

pub pop-k-requires : goal.pop-k-requires
pop-k-requires g c =
    let s = c.args.self.now in let long = table_long s c.args.id.0 c.requires.opened in let some = c.requires.some in
    record { list = area_below s c.args.id.0 c.requires.opened; long = s.long; some = omega arith }

pub push-requires : goal.push-requires
unfolding paged_memory
push-requires g c =
    let s = c.args.self.now in let id = c.args.id.0 in let numbers = g.G.Backing.numbers s.site in let k = c.pop-k.result in
    let mid = lists_of numbers c.pop-k.new.self in
    let same = ap length (same_free (table_of s) mid (set mid MAX_AREAS (list_at mid MAX_AREAS ++ k ∷ [])) MAX_AREAS id k
    (paged_numbered_law s id c.requires.opened) c.pop-k.ensures.lists refl) in
    let room = room_left (region_of s) (pages_of s) s.opened (free_of s) s.table.room MAX_AREAS s.kept id c.requires.opened in
    let a = ap length (sym (list_read s id c.requires.opened) ∙ c.pop-k.ensures.last) in let b = length_push (list_at mid id) k in
    record {
      list = omega arith;
      long = omega (arith, ap (λ n. LISTS * n) c.pop-k.ensures.room, s.long);
      room = omega (arith, c.pop-k.ensures.room);
    }

pub invariant_of-self : goal.invariant_of-self
invariant_of-self g c =
    let s = c.args.self.now in let id = c.args.id.0 in let numbers = g.G.Backing.numbers s.site in let k = c.pop-k.result in
    let mid = lists_of numbers c.pop-k.new.self in
    let room = c.push.ensures.room ∙ c.pop-k.ensures.room in let last = sym (list_read s id c.requires.opened) ∙ c.pop-k.ensures.last in
    record {
      few = omega (arith, room, s.few);
      long = omega (arith, c.push.ensures.len, ap (λ n. LISTS * n) room, s.long);
      kept = shrunk_is_kept s id k _ mid _ c.requires.opened room last c.pop-k.ensures.lists c.push.ensures.lists
          (omega (arith, length_lists numbers c.pop-k.new.self)) _ c.push.ensures.bytes;
    }

pub returns : goal.returns
unfolding paged_memory
returns g c =
    let s = c.args.self.now in let id = c.args.id.0 in let numbers = g.G.Backing.numbers s.site in let k = c.pop-k.result in
    let mid = lists_of numbers c.pop-k.new.self in
    let room = c.push.ensures.room ∙ c.pop-k.ensures.room in let last = sym (list_read s id c.requires.opened) ∙ c.pop-k.ensures.last in
    shrunk_is_memory s id k _ mid _ c.requires.opened room last c.pop-k.ensures.lists c.push.ensures.lists
    (omega (arith, length_lists numbers c.pop-k.new.self)) _ c.push.ensures.bytes
