use Rattle.rh_pictures.proofs.Common.{ap, sym, flat_map-append, module_cards, shown_cards, AreaOf, escape, escaped_byte, scene_at, offered_as}
use Rattle.rh_sheet.specs.SheetAreas.{pages_sentence}
use Rattle.rh_sheet.specs.SheetCards.{cards_sentences}
use Rattle.rh_pictures.proofs.BandLemmas.{told-all}
use Rattle.rh_pictures.proofs.TextPuts.{text_then}
use Rattle.rh_pictures.proofs.sheet.modules.print_description.Goals as goal

pub returns : goal.returns
returns g c =
    let d = g.S.Sight.desk c.args.sight.now in
    let x = scene_at d c.args.step.now in
    let first = pages_sentence (x.share.pages_of (AreaOf 1)) in
    offered_as _ (sym (flat_map-append escaped_byte first (cards_sentences (module_cards x))))
    (text_then _ _ _ (offered_as _ (ap (λ z. escape (pages_sentence z)) c.requires.pages) c.put_pages.ensures)
    (offered_as _ (told-all 0 (shown_cards (module_cards x))) c.show_heap_cards.ensures))
