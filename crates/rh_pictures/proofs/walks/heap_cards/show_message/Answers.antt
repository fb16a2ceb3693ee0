use Rattle.rh_pictures.proofs.Common.{◌≡◌, ℕ, Bool, Some, ap, ◌∙◌, ◌==◌, action_of, Text, task_name, scene_at, offered_as}
use Rattle.rh_defs.specs.declared.message.Action.{Action}
use Rattle.rh_defs.specs.declared.message.EventCode.{EventCode}
use Rattle.rh_figure.specs.Cards.{chain_text, message_card}
use Rattle.rh_figure.specs.Layout.{is_new_message}
use Rattle.rh_scene.specs.SightMessages.{message_place}
use Rattle.rh_pictures.specs.Inner.BandItems.{place_seen}
use Rattle.rh_pictures.proofs.PostLemmas.{chain-is}
use Rattle.rh_pictures.proofs.walks.heap_cards.show_message.Goals as goal

-- a card, by its parts
card-same : (ref ref2 : ℕ) (action action2 : Action) (code code2 : EventCode) (from from2 to to2 place place2 : Text) (fresh fresh2 : Bool)
    → ref ≡ ref2 → action ≡ action2 → code ≡ code2 → from ≡ from2 → to ≡ to2 → place ≡ place2 → fresh ≡ fresh2
    → message_card ref action code from to place fresh ≡ message_card ref2 action2 code2 from2 to2 place2 fresh2
card-same ref ref2 action action2 code code2 from from2 to to2 place place2 fresh fresh2 a b c d e f h =
    ap (λ z. message_card z action code from to place fresh) a
    ∙ (ap (λ z. message_card ref2 z code from to place fresh) b
    ∙ (ap (λ z. message_card ref2 action2 z from to place fresh) c
    ∙ (ap (λ z. message_card ref2 action2 code2 z to place fresh) d
    ∙ (ap (λ z. message_card ref2 action2 code2 from2 z place fresh) e
    ∙ (ap (λ z. message_card ref2 action2 code2 from2 to2 z fresh) f
    ∙ ap (λ z. message_card ref2 action2 code2 from2 to2 place2 z) h)))))

pub returns : goal.returns
returns g c = λ p found is.
    let d = g.S.Sight.desk c.args.sight.now in
    let x = scene_at d c.args.step.now in
    let place = c.chain_place-place.ensures ∙ (ap place_seen (c.place_of.ensures ∙ ap (λ ms. message_place ms c.args.message.now) c.requires.step.messages)
    ∙ chain-is c.recall_desk.ensures p.to p.message.my_ref c.args.message.now is.to is.my_ref) in
    offered_as _ (ap (λ z. g.A.CardArtist.card_text c.args.artist.now (c.args.at, z))
    (card-same _ p.message.my_ref _ (action_of p.message.body) _ p.code _ (task_name x.desk p.message.from) _ (task_name x.desk p.to) _ (chain_text x p) _
    (is_new_message x (Some p))
    is.my_ref is.action is.code (c.who_of-sender.ensures ∙ ap (task_name d) is.from) (c.who_of-receiver.ensures ∙ ap (task_name d) is.to) place
    (c.is_new_ref-fresh.ensures ∙ ap (λ n. n == x.before.next_ref) is.my_ref)))
    c.message_card.ensures
