use Rattle.rh_pictures.proofs.Common.{◌∙◌, true, ap, refl, sym, fault_text, shown_lines, share_in, Mapper, offered_as}
use Rattle.rh_pictures.proofs.ShareLemmas.{is_shared}
use Rattle.rh_pictures.proofs.MapStepLemmas.{fault-from, fault-text, hidden-fault, told-fault}
use Rattle.rh_pictures.proofs.map.mapper.Mapper.refuse.Goals as goal

pub returns-then-and_not-clause-drew : goal.returns-then-and_not-clause-drew
returns-then-and_not-clause-drew g c =
    let desk = g.D.Sight.desk in
    let m = record c.args.self.now { has_bad_line = true } in
    let b = c.count_line-wanted.new.self in
    fault-from (hidden-fault desk m b c.args.line.now (g.P.Pen.offered c.args.pen.now) c.count_line-wanted.result c.count_line-wanted.ensures.wanted
    c.count_line-wanted.ensures.next
    c.args.fault.now _ _ (sym c.and_not.ensures ∙ c.if-and_not.true) refl refl refl refl
    (ap (λ (z : Mapper g.row.D.Denot). z.has_bad_line) c.count_line-wanted.ensures.next) (is_shared (desk b.drawn) c.recall_desk.ensures))

pub returns : goal.returns
returns g c =
    let desk = g.D.Sight.desk in
    let m = record c.args.self.now { has_bad_line = true } in
    let b = c.count_line-wanted.new.self in
    let o = g.P.Pen.offered c.args.pen.now in
    let w = c.count_line-wanted.result in
    let was = c.count_line-wanted.ensures.wanted in
    let next = c.count_line-wanted.ensures.next in
    let s = share_in c.show.new.self.pages.items (desk b.drawn) in
    let test = sym c.and_not.ensures ∙ c.if-and_not.false in
    let text = fault-text desk m b c.args.line.now o w was next c.args.fault.now s b c.new-kept.result test refl c.new-kept.ensures refl in
    record {
      drew = fault-from (told-fault desk m b c.args.line.now o w was next _ _ _ s c.show.ensures.same c.show.ensures.shared c.args.fault.now refl refl refl refl
          (ap (λ (z : Mapper g.row.D.Denot). z.has_bad_line) next)
          (offered_as o (ap shown_lines text) (c.show.ensures.text (fault_text c.args.fault.now) c.excerpt_fault-count.ensures)));
      lines = c.show.ensures.same.lines ∙ ap (λ (z : Mapper g.row.D.Denot). z.lines) next;
    }
