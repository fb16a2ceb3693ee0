use Rattle.rh_pictures.proofs.Common.{◌≡◌, ◌∙◌, ℕ, ◌+◌, ◌-◌, ◌++◌, Option, Some, None, ap, sym, subst, arith, ◌==◌, find, Parcel, MessageItem, held_on}
use Rattle.rh_pictures.proofs.Common.{message_items, waiting_on, heap_seen, heap_start_of, scene_at, offered_as}
use Rattle.rh_defs.specs.Post.{post_is_message}
use Rattle.rh_figure.specs.Cards.{hole_card}
use Rattle.rh_figure.specs.Scene.{live, message_of_scene}
use Rattle.rh_scene.specs.declared.sight.HeapOf.{HeapOf}
use Rattle.rh_scene.specs.SightMessages.{lies_in}
use Rattle.rh_scene.specs.Seen.{SeesBlock, SeesFree}
use Rattle.rh_pictures.proofs.HeapLemmas.{block-free, has-block, hole-card, hole-here, module-is, posted-is, task-is, told-none, told-some, used-here}
use Rattle.rh_pictures.proofs.PostLemmas.{Told, message-told, stands_in}
use Rattle.rh_pictures.proofs.walks.heap_cards.show_segment.Goals as goal

pub show_used-requires-in-None-clause-free : goal.show_used-requires-in-None-clause-free
show_used-requires-in-None-clause-free g c =
    let d = g.S.Sight.desk c.args.sight.now in
    let b = c.args.band.now in
    let a = c.in-Used.address in
    let r = c.requires.segment in
    let q = used-here (heap_start_of b.heap + r.0) a c.in-Used.size r.1 (sym r.3 ∙ c.in-Used.is) in
    let at = a - 25165824 in
    let here : find (lies_in at) (message_items d) ≡ None = ap (find (lies_in at)) (sym c.requires.step.messages) ∙ (sym c.message_at.ensures ∙ c.in-None.is) in
    let T : Option MessageItem → Type 0 = λ z. Told at z (find (stands_in at) (waiting_on d ++ held_on d)) in
    let free = block-free c.recall_desk.ensures at (told-none at (find (stands_in at) (waiting_on d ++ held_on d)) (subst T here (message-told at d))) in
    let same : at ≡ at - 4 + 4 = omega (arith, q.at, ap heap_start_of c.in-Module.is) in
    let P : HeapOf → Type 0 = λ o. SeesFree o (a - heap_start_of o - 4) d in
    subst P (sym c.in-Module.is) (ap (λ z. post_is_message z d.post) (sym same) ∙ free)

pub returns-in-Task : goal.returns-in-Task
returns-in-Task g c = λ place segment has is.
    let text = g.A.CardArtist.card_text c.args.artist.now in
    let d = g.S.Sight.desk c.args.sight.now in
    let x = scene_at d c.args.step.now in
    let b = c.args.band.now in
    let start = heap_start_of b.heap in
    let a = c.in-Used.address in
    let q = used-here (start + place) a c.in-Used.size segment (sym is ∙ c.in-Used.is) in
    let at : place ≡ a - start - 4 = omega (arith, q.at) in
    let P : ℕ → Type 0 = λ z. SeesBlock (heap_seen b.heap d) z q.bytes in
    offered_as _ (ap (λ z. text (c.args.at, z)) (task-is x d b c.in-Task.field-0
    (start + place) a c.in-Used.size segment c.in-Task.is c.requires.band q))
    (c.show_used.ensures d q.bytes c.requires.step (subst P at (has-block q.bytes has q.is)) q.size)

pub returns-in-Some : goal.returns-in-Some
returns-in-Some g c = λ place segment has is.
    let text = g.A.CardArtist.card_text c.args.artist.now in
    let d = g.S.Sight.desk c.args.sight.now in
    let x = scene_at d c.args.step.now in
    let b = c.args.band.now in
    let start = heap_start_of b.heap in
    let a = c.in-Used.address in
    let q = used-here (start + place) a c.in-Used.size segment (sym is ∙ c.in-Used.is) in
    let at = a - 25165824 in
    let here : find (lies_in at) (message_items d) ≡ Some c.in-Some.message = ap (find (lies_in at)) (sym c.requires.step.messages) ∙
    (sym c.message_at.ensures ∙ c.in-Some.is) in
    let T : Option MessageItem → Type 0 = λ z. Told at z (message_of_scene x at) in
    let w = told-some at c.in-Some.message (message_of_scene x at) (subst T here (message-told at d)) in
    offered_as _ (ap (λ z. text (c.args.at, z)) (posted-is x d b (start + place) a c.in-Used.size segment w.parcel c.in-Module.is w.is q))
    (c.show_message.ensures w.parcel (ap (λ n. find (λ (z : Parcel). z.block == n) (live x)) w.at ∙ w.is) w.item)

pub returns-in-None : goal.returns-in-None
returns-in-None g c = λ place segment has is.
    let text = g.A.CardArtist.card_text c.args.artist.now in
    let d = g.S.Sight.desk c.args.sight.now in
    let x = scene_at d c.args.step.now in
    let b = c.args.band.now in
    let start = heap_start_of b.heap in
    let a = c.in-Used.address in
    let q = used-here (start + place) a c.in-Used.size segment (sym is ∙ c.in-Used.is) in
    let at = a - 25165824 in
    let here : find (lies_in at) (message_items d) ≡ None = ap (find (lies_in at)) (sym c.requires.step.messages) ∙ (sym c.message_at.ensures ∙ c.in-None.is) in
    let T : Option MessageItem → Type 0 = λ z. Told at z (message_of_scene x at) in
    let none = told-none at (message_of_scene x at) (subst T here (message-told at d)) in
    let there : place ≡ a - start - 4 = omega (arith, q.at) in
    let P : ℕ → Type 0 = λ z. SeesBlock (heap_seen b.heap d) z q.bytes in
    offered_as _
    (ap (λ z. text (c.args.at, z)) (module-is x d b (start + place) a c.in-Used.size segment c.in-Module.is c.requires.band none q))
    (c.show_used-in-None.ensures d q.bytes c.requires.step (subst P there (has-block q.bytes has q.is)) q.size)

pub returns-in-Hole : goal.returns-in-Hole
returns-in-Hole g c = λ place segment has is.
    let text = g.A.CardArtist.card_text c.args.artist.now in
    let d = g.S.Sight.desk c.args.sight.now in
    let x = scene_at d c.args.step.now in
    let b = c.args.band.now in
    let start = heap_start_of b.heap in
    let a = c.in-Hole.address in
    let n = c.in-Hole.size in
    let q = hole-here (start + place) a n segment (sym is ∙ c.in-Hole.is) in
    offered_as _ (ap (λ z. text (c.args.at, z)) (ap (hole_card a n) (c.is_vacated_in-fresh.ensures d)
    ∙ hole-card x d b (start + place) a n segment c.requires.band q)) c.hole_card.ensures
