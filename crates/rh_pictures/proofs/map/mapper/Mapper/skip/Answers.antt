use Rattle.rh_pictures.proofs.Common.{◌≡◌, ◌∙◌, Bool, true, false, ◌||◌, [], ◌++◌, append-nil, ap, ap₂, sym, ◌&&◌}
use Rattle.rh_pictures.proofs.Common.{if◌then◌else◌, not, is_mark, written_lines, Mapper}
use Rattle.rh_figure.specs.Map.{remark_lines}
use Rattle.rh_pictures.proofs.ShareLemmas.{is_shared}
use Rattle.rh_pictures.proofs.MapStepLemmas.{mark-hidden, mark-shown, skipped-none}
use Rattle.rh_pictures.proofs.map.mapper.Mapper.skip.Goals as goal

pub returns-then-and_not-clause-drew : goal.returns-then-and_not-clause-drew
returns-then-and_not-clause-drew g c =
    let m = c.args.self.now in
    let b = c.count_line-wanted.new.self in
    let next = c.count_line-wanted.ensures.next in
    let line = c.args.line.now in
    let o = g.P.Pen.offered c.args.pen.now in
    let wanted = c.is_wanted-self.ensures ∙ ap (λ w. w || is_mark line) c.count_line-wanted.ensures.wanted in
    let marked = ap (λ (z : Mapper g.row.D.Denot). z.marked) next in
    let test : (m.marked && not (m.wanted || is_mark line)) ≡ true = ap₂ (λ k w. k && not w) (sym marked) (sym wanted)
    ∙ (sym c.and_not.ensures ∙ c.if-and_not.true) in
    let lines = ap (λ (q : Bool). if q then remark_lines line else []) (mark-hidden m.marked m.wanted (is_mark line) test) in
    skipped-none g.D.Sight.desk m line o b c.is_wanted-self.result next wanted o _ (is_shared (g.D.Sight.desk b.drawn) c.recall_desk.ensures)
    (sym (append-nil o) ∙ ap (λ z. o ++ written_lines z) (sym lines))

pub returns-clause-drew : goal.returns-clause-drew
returns-clause-drew g c =
    let m = c.args.self.now in
    let b = c.count_line-wanted.new.self in
    let next = c.count_line-wanted.ensures.next in
    let line = c.args.line.now in
    let o = g.P.Pen.offered c.args.pen.now in
    let wanted = c.is_wanted-self.ensures ∙ ap (λ w. w || is_mark line) c.count_line-wanted.ensures.wanted in
    let marked = ap (λ (z : Mapper g.row.D.Denot). z.marked) next in
    let test : (m.marked && not (m.wanted || is_mark line)) ≡ false = ap₂ (λ k w. k && not w) (sym marked) (sym wanted)
    ∙ (sym c.and_not.ensures ∙ c.if-and_not.false) in
    let lines = ap (λ (q : Bool). if q then remark_lines line else []) (mark-shown m.marked m.wanted (is_mark line) test) in
    skipped-none g.D.Sight.desk m line o b c.is_wanted-self.result next wanted _ _ (is_shared (g.D.Sight.desk b.drawn) c.recall_desk.ensures)
    (c.print_remark.ensures ∙ ap (λ z. o ++ written_lines z) (sym lines))
