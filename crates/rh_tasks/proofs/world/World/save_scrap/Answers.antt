use Rattle.std.proofs.Common.{rules}
use Rattle.rh_tasks.proofs.Common.{◌≡◌, refl, sym, ◌∙◌, arith, err_from_is_err_and, free_pages, scrap_shortage, task_of}
use Rattle.rh_tasks.proofs.Scraps.{seen-busy, seen-free, seen-shortage}
use Rattle.rh_tasks.proofs.ScrapTransfers.{save-missing, save-busy, save-unsendable, full-is, short-is, sends-ok, own, first-at, first-sends, second-inside}
use Rattle.rh_tasks.proofs.ScrapTransfers.{Saves, Widens, second-room, second-block, third-inside, saved-records, save-all}
use Rattle.rh_defs.specs.declared.transfer_action.SendAction.TheVariants as send
use Rattle.rh_tasks.proofs.Dues.{still-sends}
use Rattle.rh_tasks.proofs.SaveScenes.{own-there, size-is, pages-are, saves, widens}
use Rattle.rh_defs.specs.Sender as sender
use Rattle.rh_tasks.proofs.world.World.save_scrap.Goals as goal
use Rattle.rh_tasks.proofs.world.World.save_scrap.Goals.{After-widen_scrap}
use Rattle.rh_tasks.proofs.world.World.save_scrap.Given as given

-- what is known once area 5 is longer
saving : (g : given.Over) (c : After-widen_scrap g)
    → Saves c.args.self.now.desk c.args.i (task_of (g.S.Words.memory c.self.inside.store) c.index-seat.result.now) c.args.a.now c.in_ok-size.size
    c.load_letter-letter.result c.in_ok-more.more
saving g c =
    let w = c.self.invariant in
    let at = own-there w c.self.view_is c.requires.place c.index-seat.ensures in
    saves w c.self.view_is c.requires.place c.index-seat.ensures at c.args.a.now c.load_letter-letter.ensures c.in_ok-size.ensures c.if-is_some.ensures
    c.in_ok-more.ensures

shortage : (g : given.Over) (c : After-widen_scrap g) → c.saturating_sub-wider.result ≡ scrap_shortage c.in_ok-size.size c.args.self.now.desk
shortage g c =
    omega (arith, c.saturating_sub-wider.ensures, c.pages_for.ensures, c.len.ensures, seen-shortage c.self.invariant c.self.view_is c.in_ok-size.size)

widened : (g : given.Over) (c : After-widen_scrap g) → Widens c.args.self.now.desk c.widen_scrap.new.self.desk c.in_ok-size.size
widened g c =
    widens c.self.invariant c.self.view_is (shortage g c) c.free_pages-free.ensures c.if-free-wider.false c.widen_scrap.ensures

pub returns-in_err-size : goal.returns-in_err-size
returns-in_err-size g c =
    let p = err_from_is_err_and c.from_residual.result c.from_residual.ensures.1 in
    rw (p.1, p.2) (λ t at. (
      save-missing c.args.self.now.desk t c.args.a.now (size-is c.self.invariant c.self.view_is c.requires.place c.index-seat.ensures at c.args.a.now
          c.in_err-size.ensures),
      refl,
    ))

pub returns-then-is_some : goal.returns-then-is_some
returns-then-is_some g c = λ t at.
    let given = size-is c.self.invariant c.self.view_is c.requires.place c.index-seat.ensures at c.args.a.now c.in_ok-size.ensures in
    (save-busy c.args.self.now.desk t c.args.a.now c.in_ok-size.size given (seen-busy c.self.invariant c.self.view_is ∙ sym c.if-is_some.ensures), refl)

pub returns-in_err-more : goal.returns-in_err-more
returns-in_err-more g c =
    let w = c.self.invariant in
    let p = err_from_is_err_and c.from_residual-in_err-more.result c.from_residual-in_err-more.ensures.1 in
    rw (p.1, p.2) (λ t at.
    let given = size-is w c.self.view_is c.requires.place c.index-seat.ensures at c.args.a.now c.in_ok-size.ensures in (
      save-unsendable c.args.self.now.desk t c.args.a.now c.in_ok-size.size given (seen-busy w c.self.view_is ∙ sym c.if-is_some.ensures)
          (pages-are w c.self.view_is c.requires.place c.index-seat.ensures at c.args.a.now c.load_letter-letter.ensures c.in_err-more.ensures),
      refl,
    ))

pub returns-then-free-wider : goal.returns-then-free-wider
returns-then-free-wider g c = λ t at.
    let w = c.self.invariant in
    let a = saves w c.self.view_is c.requires.place c.index-seat.ensures at c.args.a.now c.load_letter-letter.ensures c.in_ok-size.ensures c.if-is_some.ensures
    c.in_ok-more.ensures in (
      full-is a (omega (
        arith,
        c.saturating_sub-wider.ensures,
        c.pages_for.ensures,
        c.len.ensures,
        seen-shortage w c.self.view_is c.in_ok-size.size,
        c.free_pages-free.ensures,
        seen-free w c.self.view_is,
        c.if-free-wider.true,
      )),
      refl,
    )

pub returns-then-free-wider-2 : goal.returns-then-free-wider-2
returns-then-free-wider-2 g c = λ t at.
    let w = c.self.invariant in
    let a = saves w c.self.view_is c.requires.place c.index-seat.ensures at c.args.a.now c.load_letter-letter.ensures c.in_ok-size.ensures c.if-is_some.ensures
    c.in_ok-more.ensures in
    let short : c.saturating_sub-wider.result ≡ scrap_shortage c.in_ok-size.size c.args.self.now.desk =
    omega (arith, c.saturating_sub-wider.ensures, c.pages_for.ensures, c.len.ensures, seen-shortage w c.self.view_is c.in_ok-size.size) in
    let free : c.free_pages-free.result ≡ free_pages c.args.self.now.desk = c.free_pages-free.ensures ∙ sym (seen-free w c.self.view_is) in
    (short-is a (omega (arith, short, free, c.if-free-wider.false)) (omega (arith, short, free, c.if-free-wider-2.true)), refl)

pub send_from-requires : goal.send_from-requires
send_from-requires g c =
    let o = (goal.at.send_from-requires g c).After-widen_scrap in
    (_, (first-at (saving g o) (widened g o), own (saving g o)))

pub unwrap-load-requires : goal.unwrap-load-requires
unwrap-load-requires g c =
    let o = (goal.at.unwrap-load-requires g c).After-widen_scrap in
    sends-ok c.load_letter-letter.result c.widen_scrap.new.self c.send_from.new.self c.send_from.result c.send_from.ensures
    (first-sends (saving g o) (widened g o)
    (omega (arith, shortage g o, c.free_pages-free.ensures, seen-free c.self.invariant c.self.view_is, c.if-free-wider-2.false)))

pub fill_scrap-requires-clause-place : goal.fill_scrap-requires-clause-place
fill_scrap-requires-clause-place g c =
    let o = (goal.at.fill_scrap-requires-clause-place g c).After-widen_scrap in
    let sent = rw c.unwrap-load.ensures at c.send_from.ensures in
    second-inside (saving g o) (widened g o) sent.1

pub fill_scrap-requires-clause-room : goal.fill_scrap-requires-clause-room
fill_scrap-requires-clause-room g c =
    let o = (goal.at.fill_scrap-requires-clause-room g c).After-widen_scrap in
    let sent = rw c.unwrap-load.ensures at c.send_from.ensures in
    second-room (saving g o) (widened g o) sent.1

pub fill_scrap-requires-clause-block : goal.fill_scrap-requires-clause-block
fill_scrap-requires-clause-block g c =
    let o = (goal.at.fill_scrap-requires-clause-block g c).After-widen_scrap in
    let sent = rw c.unwrap-load.ensures at c.send_from.ensures in
    second-block (saving g o) (widened g o) sent.1

pub edit_sending-requires-clause-place : goal.edit_sending-requires-clause-place
edit_sending-requires-clause-place g c =
    let o = (goal.at.edit_sending-requires-clause-place g c).After-widen_scrap in
    let sent = rw c.unwrap-load.ensures at c.send_from.ensures in
    third-inside (saving g o) (widened g o) sent.1 c.unwrap-load.result c.fill_scrap.ensures

pub edit_sending-requires-clause-taken : goal.edit_sending-requires-clause-taken
edit_sending-requires-clause-taken g c =
    let o = (goal.at.edit_sending-requires-clause-taken g c).After-widen_scrap in
    let sent = rw c.unwrap-load.ensures at c.send_from.ensures in
    let due =
    still-sends (saved-records (saving g o) (widened g o) sent.1 c.unwrap-load.result c.fill_scrap.ensures) c.args.i (send.SaveFile c.args.a.now)
    c.requires.due in
    λ u there said new p. let is = due u there in search rules

pub returns : goal.returns
returns g c = λ t at.
    let w = c.self.invariant in
    let a = saves w c.self.view_is c.requires.place c.index-seat.ensures at c.args.a.now c.load_letter-letter.ensures c.in_ok-size.ensures c.if-is_some.ensures
    c.in_ok-more.ensures in
    let b = widened g (goal.at.returns g c).After-widen_scrap in
    let sent = rw c.unwrap-load.ensures at c.send_from.ensures in
    save-all a b sent.1 c.unwrap-load.result c.fill_scrap.ensures sent.0
    (λ u there. c.edit_sending.ensures u (sender.saved c.args.a.now c.unwrap-load.result) there (λ new p. search rules))
