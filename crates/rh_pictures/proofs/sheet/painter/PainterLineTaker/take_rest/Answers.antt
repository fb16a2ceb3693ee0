use Rattle.rh_pictures.proofs.TakeLemmas.{empty-drew, rest-took, some-drew}
use Rattle.rh_pictures.proofs.sheet.painter.PainterLineTaker.take_rest.Goals as goal

pub returns-then-is_empty : goal.returns-then-is_empty
returns-then-is_empty g c = rest-took (empty-drew g.D.Sight.desk c.args.self.now c.args.rest.now c.if-is_empty.ensures c.end.ensures)

pub returns : goal.returns
returns g c =
    rest-took (some-drew g.D.Sight.desk c.args.self.now c.args.rest.now c.if-is_empty.ensures c.rest_fault-fault.result c.rest_fault-fault.ensures
    c.refuse.ensures.drew c.end-2.ensures)
