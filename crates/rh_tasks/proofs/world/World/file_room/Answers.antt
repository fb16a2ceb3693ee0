use Rattle.rh_tasks.proofs.Common.{◌≡◌, ℕ, ap, sym, ◌∙◌, arith, Ok, err_from_is_err_and, Granted, free_pages, scrap_shortage}
use Rattle.rh_tasks.proofs.Scraps.{seen-desk, seen-free, seen-pages, seen-shortage}
use Rattle.rh_tasks.proofs.Spools.{room-full, room-refused, room-short, room-there}
use Rattle.rh_tasks.proofs.world.World.file_room.Goals as goal

pub returns-in_err-more : goal.returns-in_err-more
returns-in_err-more g c =
    let p = err_from_is_err_and c.from_residual.result c.from_residual.ensures.1 in
    rw (p.1, p.2) (sym (room-refused c.args.self.now.desk c.args.letter.now c.args.size
    (seen-pages c.self.invariant c.self.view_is c.args.letter.now c.in_err-more.ensures)))

pub returns-then-free-wider : goal.returns-then-free-wider
returns-then-free-wider g c =
    let w = c.self.invariant in
    let short : c.saturating_sub-wider.result ≡ scrap_shortage c.args.size c.args.self.now.desk =
    omega (arith, c.saturating_sub-wider.ensures, c.pages_for.ensures, c.len.ensures, seen-shortage w c.self.view_is c.args.size) in
    let free : c.free_pages-free.result ≡ free_pages c.args.self.now.desk = c.free_pages-free.ensures ∙ sym (seen-free w c.self.view_is) in
    let needs = seen-pages w c.self.view_is c.args.letter.now c.in_ok-more.ensures in
    sym (room-full c.args.self.now.desk c.args.letter.now c.args.size c.in_ok-more.more needs (omega (arith, short, free, c.if-free-wider.true)))

pub returns-then-free-wider-2 : goal.returns-then-free-wider-2
returns-then-free-wider-2 g c =
    let w = c.self.invariant in
    let short : c.saturating_sub-wider.result ≡ scrap_shortage c.args.size c.args.self.now.desk =
    omega (arith, c.saturating_sub-wider.ensures, c.pages_for.ensures, c.len.ensures, seen-shortage w c.self.view_is c.args.size) in
    let free : c.free_pages-free.result ≡ free_pages c.args.self.now.desk = c.free_pages-free.ensures ∙ sym (seen-free w c.self.view_is) in
    let needs = seen-pages w c.self.view_is c.args.letter.now c.in_ok-more.ensures in
    sym (room-short c.args.self.now.desk c.args.letter.now c.args.size c.in_ok-more.more needs (seen-desk w c.self.view_is)
    (omega (arith, short, free, c.if-free-wider.false)) (omega (arith, short, free, c.if-free-wider-2.true)))

pub returns : goal.returns
returns g c =
    let w = c.self.invariant in
    let short : c.saturating_sub-wider.result ≡ scrap_shortage c.args.size c.args.self.now.desk =
    omega (arith, c.saturating_sub-wider.ensures, c.pages_for.ensures, c.len.ensures, seen-shortage w c.self.view_is c.args.size) in
    let free : c.free_pages-free.result ≡ free_pages c.args.self.now.desk = c.free_pages-free.ensures ∙ sym (seen-free w c.self.view_is) in
    let needs = seen-pages w c.self.view_is c.args.letter.now c.in_ok-more.ensures in
    ap (λ (k : ℕ). let r : Granted ℕ = Ok k in r) short
    ∙ sym (room-there c.args.self.now.desk c.args.letter.now c.args.size c.in_ok-more.more needs (seen-desk w c.self.view_is)
    (omega (arith, short, free, c.if-free-wider.false)) (omega (arith, short, free, c.if-free-wider-2.false)))
