use Rattle.rh_pictures.proofs.Common.{◌≡◌, ℕ, ◌-◌, Option, Some, None, ap, refl, subst, sym, ◌∙◌, ◌==◌, find, Parcel, Scene, message_of_scene, MessageItem}
use Rattle.rh_pictures.proofs.Common.{lies_in, message_items, scene_at, is_fresh_card}
use Rattle.rh_pictures.specs.Inner.Surveys.{is_fresh_at, is_fresh_or_posted}
use Rattle.rh_pictures.proofs.PostLemmas.{Told, message-told}
use Rattle.rh_pictures.proofs.walks.heap_cards.is_fresh.Goals as goal

told-fresh : (x : Scene) (b address : ℕ) (m : MessageItem) (o : Option Parcel) → Told b (Some m) o
    → (m.my_ref == x.before.next_ref) ≡ is_fresh_or_posted x address o
told-fresh x b address m None t = absurd t
told-fresh x b address m (Some p) t = ap (λ n. n == x.before.next_ref) t.0.my_ref

told-none : (x : Scene) (b address : ℕ) (o : Option Parcel) → Told b None o → (x.marks.module_block == address) ≡ is_fresh_or_posted x address o
told-none x b address None t = refl
told-none x b address (Some p) t = absurd t

pub returns-in-Task : goal.returns-in-Task
returns-in-Task c = λ d step.
    let x = scene_at d c.args.step.now in
    let band = c.args.band.now in
    c.is_fresh_block.ensures d ∙ sym (ap (is_fresh_card x band) c.in-Used.is ∙ ap (λ h. is_fresh_at x band.handle h c.in-Used.address) c.in-Task.is)

pub returns-in-Some : goal.returns-in-Some
returns-in-Some c = λ d step.
    let x = scene_at d c.args.step.now in
    let band = c.args.band.now in
    let b = c.in-Used.address - 25165824 in
    let here : find (lies_in b) (message_items d) ≡ Some c.in-Some.message =
    ap (find (lies_in b)) (sym step.messages) ∙ (sym c.message_at.ensures ∙ c.in-Some.is) in
    let T : Option MessageItem → Type 0 = λ z. Told b z (message_of_scene x b) in
    c.is_new_ref.ensures ∙ (told-fresh x b c.in-Used.address c.in-Some.message (message_of_scene x b) (subst T here (message-told b d))
    ∙ sym (ap (is_fresh_card x band) c.in-Used.is ∙ ap (λ h. is_fresh_at x band.handle h c.in-Used.address) c.in-Module.is))

pub returns-in-None : goal.returns-in-None
returns-in-None c = λ d step.
    let x = scene_at d c.args.step.now in
    let band = c.args.band.now in
    let b = c.in-Used.address - 25165824 in
    let here : find (lies_in b) (message_items d) ≡ None = ap (find (lies_in b)) (sym step.messages) ∙ (sym c.message_at.ensures ∙ c.in-None.is) in
    let T : Option MessageItem → Type 0 = λ z. Told b z (message_of_scene x b) in
    told-none x b c.in-Used.address (message_of_scene x b) (subst T here (message-told b d))
    ∙ sym (ap (is_fresh_card x band) c.in-Used.is ∙ ap (λ h. is_fresh_at x band.handle h c.in-Used.address) c.in-Module.is)

pub returns-in-Hole : goal.returns-in-Hole
returns-in-Hole c = λ d step.
    c.is_vacated_in.ensures d ∙ sym (ap (is_fresh_card (scene_at d c.args.step.now) c.args.band.now) c.in-Hole.is)
