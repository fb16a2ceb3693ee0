use Rattle.rh_scene.proofs.Common.{◌≡◌, ◌∙◌, ◌-◌, Bool, true, false, ap, ap₂, sym, refl, eq-eqb, ◌||◌, ◌==◌, find, option_map, ne_eqb}
use Rattle.rh_scene.proofs.Common.{MessageItem, lies_in, scene_at}
use Rattle.rh_figure.specs.declared.piece.Kind.{Kind}
use Rattle.rh_figure.specs.declared.piece.Kind.TheVariants.{Posted}
use Rattle.rh_figure.specs.Layout.{is_new_message}
use Rattle.rh_figure.specs.Scene.{message_of_scene}
use Rattle.rh_scene.proofs.Posts.{claimed-kind, claimed-new, posted-kind, posted-new, ref-in-block}
use Rattle.rh_scene.proofs.pieces.module_kind.Goals as goal

-- a kind and whether it has changed
both : {k j : Kind} {a b : Bool} → k ≡ j → a ≡ b → (let p : Kind × Bool = (k, a) in p) ≡ (j, b)
both p q = ap₂ (λ (k : Kind) (a : Bool). let r : Kind × Bool = (k, a) in r) p q

or-none : (b : Bool) → (b || false) ≡ b
or-none true = refl
or-none false = refl

pub returns-then-changed : goal.returns-then-changed
returns-then-changed c = λ d is.
    let b = c.args.address - 25165824 in
    let x = scene_at d c.args.step.now in
    let mine = ap (λ (m : MessageItem). m.my_ref) c.message.view_is in
    let known = ap (option_map (λ (m : MessageItem). m.my_ref)) (sym c.in-Some.is ∙ c.message_in.ensures)
    ∙ (ap (λ ms. option_map (λ (m : MessageItem). m.my_ref) (find (lies_in b) ms)) is.messages ∙ ref-in-block b d) in
    let t = eq-eqb c.args.step.now.marks.module_block c.args.address c.if-changed.true in
    both (ap Posted mine ∙ posted-kind c.args.size c.in-Some.message.my_ref (message_of_scene x b) known)
    (t ∙ sym (ap (λ (z : Bool). z || is_new_message x (message_of_scene x b)) t))

pub returns-else-changed : goal.returns-else-changed
returns-else-changed c = λ d is.
    let b = c.args.address - 25165824 in
    let x = scene_at d c.args.step.now in
    let mine = ap (λ (m : MessageItem). m.my_ref) c.message.view_is in
    let known = ap (option_map (λ (m : MessageItem). m.my_ref)) (sym c.in-Some.is ∙ c.message_in.ensures)
    ∙ (ap (λ ms. option_map (λ (m : MessageItem). m.my_ref) (find (lies_in b) ms)) is.messages ∙ ref-in-block b d) in
    let f = ne_eqb c.args.step.now.marks.module_block c.args.address c.if-changed.false in
    both (ap Posted mine ∙ posted-kind c.args.size c.in-Some.message.my_ref (message_of_scene x b) known)
    (c.is_new_ref.ensures ∙ (posted-new x c.in-Some.message.my_ref (message_of_scene x b) known ∙ sym
    (ap (λ (z : Bool). z || is_new_message x (message_of_scene x b)) f)))

pub returns-in-None : goal.returns-in-None
returns-in-None c = λ d is.
    let b = c.args.address - 25165824 in
    let x = scene_at d c.args.step.now in
    let known = ap (option_map (λ (m : MessageItem). m.my_ref)) (sym c.in-None.is ∙ c.message_in.ensures)
    ∙ (ap (λ ms. option_map (λ (m : MessageItem). m.my_ref) (find (lies_in b) ms)) is.messages ∙ ref-in-block b d) in
    let changed : Bool = c.args.step.now.marks.module_block == c.args.address in
    both (claimed-kind c.args.size (message_of_scene x b) known)
    (sym (or-none changed) ∙ ap (λ (z : Bool). changed || z) (claimed-new x (message_of_scene x b) known))
