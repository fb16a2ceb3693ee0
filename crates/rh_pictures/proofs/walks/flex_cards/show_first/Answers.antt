use Rattle.rh_pictures.proofs.Common.{◌≡◌, ◌<◌, Some, length, take, ap, sym, ◌∙◌, arith, slice_get, length-take, block_items, flex_start, flex_cards, scene_at}
use Rattle.rh_map.proofs.Left.{left_less, left_none, left_whole}
use Rattle.rh_pictures.proofs.CardLemmas.{flex-long, card-at, get-front, cards-end, cards-some}
use Rattle.rh_pictures.proofs.DrawingLemmas.{seen-same}
use Rattle.std.proofs.lemmas.Option.{slice_get-get_or}
use Rattle.rh_pictures.proofs.walks.flex_cards.show_first.Goals as goal

pub loop-k-init : goal.loop-k-init
loop-k-init g c = λ t e. left_whole _ _

pub loop-k-preserved : goal.loop-k-preserved
loop-k-preserved g c = λ t e.
    let text = g.A.CardArtist.card_text c.args.artist.now in
    let d = g.S.Sight.desk c.args.sight.now in
    let x = scene_at d c.args.step.now in
    let k = c.loop-k.k in
    let cs = flex_cards x t in
    let r = c.requires.task in
    let are : c.args.blocks.now ≡ block_items t.slot = seen-same (λ u. c.args.blocks.now ≡ block_items u.slot) d.tasks c.args.i r.0 t r.1 e r.3 in
    let low : k < length cs = omega (arith, flex-long x t (flex_start t.slot) t.slot.blocks, ap length are, c.requires.few, c.loop-k-test.true) in
    let q = card-at k cs low in
    let at : slice_get (take c.args.shown cs) k ≡ Some q.card = get-front c.args.shown k cs c.loop-k-test.true ∙ q.is in
    left_less _ (c.loop-k.invariant t e) (cards-some text (take c.args.shown cs) k q.card at) (c.show_flex.ensures t k q.card e (ap
    (λ bs. slice_get bs k) (sym are) ∙ (slice_get-get_or c.args.blocks.now k c.index-blocks-k.result (omega (arith, c.requires.few, c.loop-k-test.true)) ∙ ap
    (λ z. Some z) (sym c.index-blocks-k.is))) q.is)

pub returns : goal.returns
returns g c = λ t e.
    let text = g.A.CardArtist.card_text c.args.artist.now in
    let cs = take c.args.shown (flex_cards (scene_at (g.S.Sight.desk c.args.sight.now) c.args.step.now) t) in
    left_none (c.loop-k.invariant t e) (cards-end text cs c.loop-k.k (omega (
      arith,
      length-take c.args.shown (flex_cards (scene_at
          (g.S.Sight.desk c.args.sight.now) c.args.step.now) t),
      c.loop-k-test.false,
    )))
