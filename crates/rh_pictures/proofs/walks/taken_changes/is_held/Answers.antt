use Rattle.rh_pictures.proofs.Common.{◌∙◌, ap}
use Rattle.std.specs.List.{list_any}
use Rattle.rh_pictures.specs.Inner.Notes.{holds_as}
use Rattle.rh_pictures.proofs.NoteLemmas.{held-is}
use Rattle.rh_pictures.proofs.walks.taken_changes.is_held.Goals as goal

pub returns : goal.returns
returns g c =
    c.holds_ref.ensures
    ∙ (ap (list_any (holds_as c.args.my_ref)) c.requires.messages ∙ held-is (g.S.Sight.desk c.args.sight.now) c.args.my_ref)
