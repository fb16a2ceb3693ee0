use Rattle.rh_pictures.proofs.Common.{◌≡◌, ℕ, ◌-◌, List, [], ◌∷◌, length, take, ap₂, sym, subst, ◌∙◌, arith, length-take, SeesBlock, heap_seen, heap_start_of}
use Rattle.rh_pictures.proofs.Common.{offered_as}
use Rattle.rh_figure.specs.Cards.{used_card}
use Rattle.rh_pictures.proofs.CardLemmas.{front-is}
use Rattle.rh_pictures.proofs.walks.heap_cards.show_used.Goals as goal

pub returns : goal.returns
returns g c = λ d bytes step block size.
    let a = c.args.address in
    let heap = c.args.band.now.heap in
    let zeros : List ℕ = (0 ∷ 0 ∷ 0 ∷ 0 ∷ 0 ∷ 0 ∷ 0 ∷ []) in
    let n = c.front_length.result in
    let here : a - heap_start_of heap - 4 ≡ a - 4 - c.heap_address.result = omega (arith, c.heap_address.ensures) in
    let P : ℕ → Type 0 = λ z. SeesBlock (heap_seen heap (g.S.Sight.desk c.args.sight.now)) z bytes in
    let first = front-is c.args.size (length (take n zeros)) bytes size (omega (arith, c.front_length.ensures, length-take n zeros))
    ∙ sym (c.read_heap.ensures bytes (subst P here block)) in
    offered_as _ (ap₂ (λ u f. g.A.CardArtist.card_text c.args.artist.now (c.args.at, used_card a bytes u f)) c.use_of_buffer.ensures (c.is_changed.ensures d))
    (c.used_card.ensures bytes (record { whole = size; first = first }))
