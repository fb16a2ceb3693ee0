use Rattle.rh_map.specs.MapMessages.{place_text}
use Rattle.rh_map.specs.MapTasks.{who_text}
use Rattle.rh_map.proofs.CardLemmas.{message-line}
use Rattle.rh_map.proofs.messages.print_message_card.Goals as goal

pub returns : goal.returns
returns g c =
    let m = c.args.message.now in
    rw (← message-line m.my_ref m.action m.code (who_text m.from) (who_text m.to) (place_text m.place)
    c.message_name-name.result c.message_way-way.result c.message_place-place.result m.fresh c.message_name-name.ensures.some
    c.message_name-name.ensures.value c.message_way-way.ensures.value c.message_place-place.ensures.value)
    c.print_card.ensures
