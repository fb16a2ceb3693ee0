use Rattle.rh_pages.proofs.Common.{ℕ, ◌*◌, ◌∷◌, [], ◌++◌, List, length, set, replicate, refl, ap, ◌∙◌, arith, length-replicate, length_push, MAX_AREAS, PAGE}
use Rattle.rh_pages.proofs.Common.{LISTS, free_in, list_at, paged_memory, region_of, pages_of, free_of, paged_numbered_law, lists_of}
use Rattle.rh_pages.proofs.Passing.{same_area}
use Rattle.rh_pages.proofs.Regions.{zeroed}
use Rattle.rh_pages.proofs.Seats.{area_below, table_of}
use Rattle.rh_pages.proofs.Shifts.{free_within, grown_is_kept, grown_is_memory}
use Rattle.rh_pages.proofs.Turns.{page_free, room_left}
use Rattle.rh_pages.proofs.paged.PagedStore.grow_page.Goals as goal

pub pop-k-requires : goal.pop-k-requires
unfolding paged_memory
pop-k-requires g c = record { list = omega arith; long = c.args.self.now.long; some = c.requires.some }

pub overflow_mul-k : goal.overflow_mul-k
unfolding paged_memory
overflow_mul-k g c =
    let s = c.args.self.now in let free = free_in (lists_of (g.G.Backing.numbers s.site) c.pop-k.new.self) in
    let a = page_free (region_of s) (pages_of s) s.opened (free_of s) s.table.room MAX_AREAS s.kept c.args.id.0 c.requires.opened free c.pop-k.result
    c.pop-k.ensures.last in let b = s.few in omega arith

pub zero-requires : goal.zero-requires
zero-requires g c =
    let s = c.args.self.now in
    free_within s c.args.id.0 c.pop-k.result (free_in (lists_of (g.G.Backing.numbers s.site) c.pop-k.new.self)) c.requires.opened c.pop-k.ensures.last

pub push-requires : goal.push-requires
unfolding paged_memory
push-requires g c =
    let s = c.args.self.now in let id = c.args.id.0 in let numbers = g.G.Backing.numbers s.site in let mid = lists_of numbers c.pop-k.new.self in
    let same = ap length (same_area (table_of s) mid (set mid id (list_at mid id ++ c.pop-k.result ∷ [])) MAX_AREAS id c.pop-k.result
    (paged_numbered_law s id c.requires.opened) c.pop-k.ensures.lists refl) in
    let room = room_left (region_of s) (pages_of s) s.opened (free_of s) s.table.room MAX_AREAS s.kept id c.requires.opened in
    let a = ap length c.pop-k.ensures.last in let b = length_push (free_in mid) c.pop-k.result in
    let there = ap (λ l. length (list_at (lists_of l c.pop-k.new.self) id)) c.zero.ensures.numbers in
    record {
      list = area_below s id c.requires.opened;
      long = omega (arith, ap (λ l. length l) c.zero.ensures.numbers, ap (λ n. LISTS * n) c.pop-k.ensures.room, s.long);
      room = omega (arith, c.pop-k.ensures.room);
    }

pub invariant_of-self : goal.invariant_of-self
invariant_of-self g c =
    let s = c.args.self.now in let id = c.args.id.0 in let numbers = g.G.Backing.numbers s.site in let k = c.pop-k.result in
    let mid = lists_of numbers c.pop-k.new.self in
    let on = c.push.ensures.lists
    ∙ ap (λ (l : List ℕ). set (lists_of l c.pop-k.new.self) id (list_at (lists_of l c.pop-k.new.self) id ++ k ∷ [])) c.zero.ensures.numbers in
    let room = c.push.ensures.room ∙ c.pop-k.ensures.room in
    let written = c.push.ensures.bytes ∙ c.zero.ensures.after
    ∙ zeroed (region_of s) (PAGE * k) PAGE (free_within s id k (free_in mid) c.requires.opened c.pop-k.ensures.last) in
    record {
      few = omega (arith, room, s.few);
      long = omega (arith, c.push.ensures.len, ap (λ l. length l) c.zero.ensures.numbers, ap (λ n. LISTS * n) room, s.long);
      kept = grown_is_kept s id k _ mid _ c.requires.opened room c.pop-k.ensures.last c.pop-k.ensures.lists on _ (replicate PAGE 0) written
          (length-replicate {A = ℕ} PAGE 0);
    }

pub returns : goal.returns
unfolding paged_memory
returns g c =
    let s = c.args.self.now in let id = c.args.id.0 in let numbers = g.G.Backing.numbers s.site in let k = c.pop-k.result in
    let mid = lists_of numbers c.pop-k.new.self in
    let on = c.push.ensures.lists
    ∙ ap (λ (l : List ℕ). set (lists_of l c.pop-k.new.self) id (list_at (lists_of l c.pop-k.new.self) id ++ k ∷ [])) c.zero.ensures.numbers in
    let written = c.push.ensures.bytes ∙ c.zero.ensures.after
    ∙ zeroed (region_of s) (PAGE * k) PAGE (free_within s id k (free_in mid) c.requires.opened c.pop-k.ensures.last) in
    grown_is_memory s id k _ mid _ c.requires.opened (c.push.ensures.room ∙ c.pop-k.ensures.room) c.pop-k.ensures.last c.pop-k.ensures.lists on _
    (replicate PAGE 0) written (length-replicate {A = ℕ} PAGE 0) refl
