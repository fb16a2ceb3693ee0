use Rattle.rh_pictures.proofs.Common.{◌∙◌}
use Rattle.rh_pictures.proofs.ReturnLemmas.{live-are}
use Rattle.rh_pictures.proofs.walks.post_changes.is_live.Goals as goal

pub returns : goal.returns
returns g c =
    c.has_ref.ensures ∙ live-are (g.S.Sight.desk c.args.sight.now) c.args.my_ref c.args.step.now.messages.now c.requires.messages
