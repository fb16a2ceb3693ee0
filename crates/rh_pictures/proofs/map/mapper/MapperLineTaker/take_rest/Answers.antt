use Rattle.rh_pictures.proofs.Common.{Meaning, Option, Command, subst, sym}
use Rattle.rh_pictures.specs.Inner.StepsShown.{Offers}
use Rattle.rh_pictures.proofs.MapStepLemmas.{rest-none, took-rest}
use Rattle.rh_pictures.proofs.map.mapper.MapperLineTaker.take_rest.Goals as goal

pub returns-then-is_empty : goal.returns-then-is_empty
returns-then-is_empty g c = rest-none g.D.Sight.desk c.args.self.now (g.P.Pen.offered c.args.pen.now) c.args.rest.now c.if-is_empty.ensures

pub returns : goal.returns
returns g c =
    let rest = c.args.rest.now in
    let P : Meaning (Option Command) → Type 0 = λ z.
    Offers g.D.Sight.desk c.args.self.now rest z c.refuse.new.self (g.P.Pen.offered c.args.pen.now) (g.P.Pen.offered c.refuse.new.pen) in
    took-rest rest c.if-is_empty.ensures (subst P (sym c.rest_fault-fault.ensures) c.refuse.ensures.drew)
