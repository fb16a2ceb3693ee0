use Rattle.rh_pictures.proofs.Common.{refl, subst, sym, Command, Desk, IsReordered, step}
use Rattle.rh_defs.proofs.QuestionLaws.{asked-stays}
use Rattle.rh_pictures.proofs.deeds.change.Goals as goal

pub returns-in-Ask : goal.returns-in-Ask
returns-in-Ask g c =
    let d = g.D.Sight.desk c.args.drawn.now in
    let P : Command → Type 0 = λ z. IsReordered (step d z).0 d in
    let Q : Desk → Type 0 = λ z. IsReordered z d in
    subst P (sym c.in-Ask.is) (subst Q (sym (asked-stays d _)) (record { same = record { each = λ h. refl }; rest = refl }))
