use Rattle.rh_tasks.proofs.Common.{ap, ◌∙◌, fetch_letter}
use Rattle.rh_tasks.proofs.Slides.{seat-sits}
use Rattle.rh_tasks.proofs.AcceptRooms.{room-no_buffer, room-no_fetch, room-rest, room-short}
use Rattle.rh_tasks.proofs.world.World.has_room.Goals as goal

pub returns-in_default : goal.returns-in_default
returns-in_default g c =
    let at = seat-sits _ _ _ _ _ c.self.view_is c.requires c.index-seat.ensures in
    rw (← c.self.view_is) (λ t k here free. room-no_buffer c.self.invariant at c.args.a.now t k here free c.in_default.ensures)

pub returns-in_default-send_pages : goal.returns-in_default-send_pages
returns-in_default-send_pages g c =
    let at = seat-sits _ _ _ _ _ c.self.view_is c.requires c.index-seat.ensures in
    rw (← c.self.view_is) (λ t k here free. room-no_fetch c.self.invariant at c.args.a.now t k here free
    (c.fetch_letter-letter.ensures ∙ ap (fetch_letter c.index-seat.result.now.handle) c.first_fetch.ensures)
    c.in_default-send_pages.ensures)

pub returns-then-pages-free : goal.returns-then-pages-free
returns-then-pages-free g c =
    let at = seat-sits _ _ _ _ _ c.self.view_is c.requires c.index-seat.ensures in
    rw (← c.self.view_is) (λ t k here free. room-rest c.self.invariant at c.args.a.now t k here free c.in-Ok.ensures
    (c.fetch_letter-letter.ensures ∙ ap (fetch_letter c.index-seat.result.now.handle) c.first_fetch.ensures)
    c.in-Ok-send_pages.ensures c.free_pages-free.ensures c.if-pages-free.true)

pub returns-else-pages-free : goal.returns-else-pages-free
returns-else-pages-free g c =
    let at = seat-sits _ _ _ _ _ c.self.view_is c.requires c.index-seat.ensures in
    rw (← c.self.view_is) (λ t k here free. room-short c.self.invariant at c.args.a.now t k here free c.in-Ok.ensures
    (c.fetch_letter-letter.ensures ∙ ap (fetch_letter c.index-seat.result.now.handle) c.first_fetch.ensures)
    c.in-Ok-send_pages.ensures c.free_pages-free.ensures c.if-pages-free.false)
