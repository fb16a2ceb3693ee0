use Rattle.rh_pictures.proofs.Common.{ap, sym, ◌∙◌, flat_map, task_name, scene_of, offered_as}
use Rattle.rh_figure.specs.Changes.{bytes_line, bytes_sent_text}
use Rattle.rh_pictures.proofs.ElementLemmas.{parts-one}
use Rattle.rh_pictures.proofs.walks.post_changes.show_bytes.Goals as goal

pub returns-in-RamTransmit : goal.returns-in-RamTransmit
returns-in-RamTransmit g c = λ s b m.
    let d = g.S.Sight.desk c.args.sight.now in
    let x = scene_of d s b m in
    let element = g.A.Artist.change_text in
    let line = bytes_line c.in-RamTransmit.written (task_name d c.args.letter.now.to) c.in-RamTransmit.buffer in
    offered_as _ (ap element (c.bytes_sent.ensures.value ∙ ap (λ w. bytes_line c.in-RamTransmit.written w c.in-RamTransmit.buffer) c.who_of-to.ensures)
    ∙ (sym (parts-one element line) ∙ ap (λ body. flat_map element (bytes_sent_text x c.args.letter.now body)) (sym c.in-RamTransmit.is))) c.change.ensures
