use Rattle.rh_pictures.proofs.Common.{◌∙◌, ap, refl, sym, shown_lines, share_in, Mapper, reply_to, offered_as}
use Rattle.rh_pictures.proofs.ShareLemmas.{is_shared}
use Rattle.rh_pictures.proofs.MapStepLemmas.{command-text, hidden-command, rest-as, told-command}
use Rattle.rh_pictures.proofs.map.mapper.Mapper.carry_out.Goals as goal

pub returns-then-and_not-clause-drew : goal.returns-then-and_not-clause-drew
returns-then-and_not-clause-drew g c =
    let desk = g.D.Sight.desk in
    let b = c.count_line-wanted.new.self in
    hidden-command desk c.args.self.now b c.args.line.now (g.P.Pen.offered c.args.pen.now) c.count_line-wanted.result c.count_line-wanted.ensures.wanted
    c.count_line-wanted.ensures.next
    c.args.command.now _ _ (sym c.and_not.ensures ∙ c.if-and_not.true) c.change.ensures
    (rest-as {b = b} (record b { drawn = c.change.new.drawn }) refl) (is_shared (desk c.change.new.drawn) c.recall_desk.ensures)

pub returns : goal.returns
returns g c =
    let desk = g.D.Sight.desk in
    let m = c.args.self.now in
    let b = c.count_line-wanted.new.self in
    let a = record b { drawn = c.answer-reply.new.drawn; messages = c.messages.new.list; front = c.answer-reply.new.front } in
    let o = g.P.Pen.offered c.args.pen.now in
    let w = c.count_line-wanted.result in
    let was = c.count_line-wanted.ensures.wanted in
    let next = c.count_line-wanted.ensures.next in
    let s = share_in c.show.new.self.pages.items (desk a.drawn) in
    let test = sym c.and_not.ensures ∙ c.if-and_not.false in
    let text = command-text desk m b c.args.line.now o w was next c.args.command.now s a _ _ test c.answer-reply.ensures.desk c.answer-reply.ensures.reply
    c.new-kept.ensures refl in
    record {
      drew = told-command desk m b c.args.line.now o w was next a _ _ s c.show.ensures.same c.show.ensures.shared c.args.command.now
          c.answer-reply.ensures.desk
          (rest-as {b = b} a refl)
          (offered_as o (ap shown_lines text) (c.show.ensures.text (reply_to (desk b.drawn) c.args.command.now) c.answer-reply.ensures.excerpt));
      lines = c.show.ensures.same.lines ∙ ap (λ (z : Mapper g.row.D.Denot). z.lines) next;
    }
