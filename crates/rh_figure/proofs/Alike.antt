-- Desks that differ in the order of messages to different tasks alone have the same pictures.
use Rattle.std.proofs.Common.{ℕ, ◌+◌, ◌≡◌, refl, sym, ap, ap₂, ◌∙◌, Bool, true, false, List, [], ◌∷◌, ◌++◌}
use Rattle.std.specs.Prelude.{Option, Some, None, Ok, Err, ◌&&◌, ◌||◌, not, if◌then◌else◌, map}
use Rattle.std.specs.List.{flat_map}
use Rattle.rh_defs.specs.declared.command.Command.{Command}
use Rattle.rh_defs.specs.declared.command.Command.TheVariants as command
use Rattle.rh_defs.specs.declared.reply.Reply.{Reply}
use Rattle.rh_defs.specs.declared.fault.LineFault.{LineFault}
use Rattle.rh_defs.specs.declared.message.MessageItem.{MessageItem}
use Rattle.rh_defs.specs.Messages.{Parcel}
use Rattle.rh_defs.specs.Post.{Seat}
use Rattle.rh_defs.specs.Desk.{Desk, Task}
use Rattle.rh_defs.specs.Questions.{Nothing, begins}
use Rattle.rh_defs.specs.Range.{can_be_asked}
use Rattle.rh_defs.specs.Order.{with_queue, IsReordered}
use Rattle.rh_defs.specs.Commands.{step}
use Rattle.rh_defs.specs.Text.{answer_text, first_line, reply_text, with_taken, fault_text}
use Rattle.rh_defs.specs.Script.{meaning_text}
use Rattle.rh_defs.proofs.HandedLaws.{taken-alike}
use Rattle.rh_defs.proofs.QuestionLaws.{asked-requeued}
use Rattle.rh_defs.proofs.Steps.{order-ignored}
use Rattle.rh_figure.specs.Share.{Share}
use Rattle.rh_figure.specs.Scene.{Before, Marks, no_marks, is_still, before_of, acknowledged_by, held_in, before_task, task_in, handle_of, size_named}
use Rattle.rh_figure.specs.Scene.{seen_item, held_on, message_items}
use Rattle.rh_figure.specs.Scene.{marks_of, scene_of}
use Rattle.rh_figure.specs.Map.{step_lines, command_lines, fault_lines, is_mark, remark_lines}
use Rattle.rh_figure.specs.FigureLaws.{ShowsNoOrder}

-- a function by its values
same-values : {A : Type 0} {f g : ℕ → A} → ((n : ℕ) → f n ≡ g n) → f ≡ g
same-values e = λ i n. e n i

pub scene-alike : {a b : Desk} → IsReordered a b → (s : Share) (f : Before) (m : Marks)
    → scene_of b s f m ≡ scene_of a s f m
scene-alike {a} {b} is s f m =
    ap (λ d. scene_of d s f m) is.rest
    ∙ ap (λ waits. record { desk = with_queue [] a; waits = waits; share = s; before = f; marks = m }) (same-values
    (λ h. sym (is.same.each h)))

-- all messages, by those that wait for each handle
abbrev items_by : (ℕ → List Parcel) → Desk → List MessageItem
items_by waits d =
    map (seen_item false) (flat_map (λ (s : Seat). waits s.handle) d.post.seats) ++ map (seen_item true) (held_on d)

messages-alike : {a b : Desk} → IsReordered a b → message_items b ≡ message_items a
messages-alike {a} {b} is =
    ap message_items is.rest ∙ ap (λ waits. items_by waits a) (same-values (λ h. sym (is.same.each h)))

-- what is kept but for the messages
abbrev with_messages : List MessageItem → Before → Before
with_messages messages f = record f { messages = messages }

before-requeued : (queue : List Parcel) (ref n : ℕ) (d : Desk) (t : Option Task)
    → before_task ref n (with_queue queue d) t ≡ with_messages (message_items (with_queue queue d)) (before_task ref n d t)
before-requeued queue ref n d None = refl
before-requeued queue ref n d (Some t) = refl

before-kept : (ref n : ℕ) (d : Desk) (t : Option Task)
    → with_messages (message_items d) (before_task ref n d t) ≡ before_task ref n d t
before-kept ref n d None = refl
before-kept ref n d (Some t) = refl

held-requeued : (queue : List Parcel) (d : Desk) (t : Option Task) → held_in (with_queue queue d) t ≡ held_in d t
held-requeued queue d None = refl
held-requeued queue d (Some t) = refl

-- what is kept of a desk with a task, where the command names it
abbrev before_with : Option Command → Desk → Option Task → Before
before_with c d t = before_task (acknowledged_by c (held_in d t)) (size_named (handle_of t) c d) d t

task_in-requeued : (queue : List Parcel) (d : Desk) (c : Option Command) → task_in c (with_queue queue d) ≡ task_in c d
task_in-requeued queue d None = refl
task_in-requeued queue d (Some c) = refl

size-requeued : (queue : List Parcel) (d : Desk) (h : ℕ) (c : Option Command)
    → size_named h c (with_queue queue d) ≡ size_named h c d
size-requeued queue d h None = refl
size-requeued queue d h (Some (command.Release name a)) = refl
size-requeued queue d h (Some (command.Resize name a delta)) = refl
size-requeued queue d h (Some (command.RmaFree a)) = refl
size-requeued queue d h (Some (command.RmaResize a delta)) = refl
size-requeued queue d h (Some c) = refl

-- what is kept of a desk with another queue
kept-requeued : (queue : List Parcel) (d : Desk) (c : Option Command)
    → before_of (with_queue queue d) c ≡ with_messages (message_items (with_queue queue d)) (before_of d c)
kept-requeued queue d c =
    let t = task_in c d in
    ap (before_with c (with_queue queue d)) (task_in-requeued queue d c)
    ∙ (
    ap₂ (λ held n. before_task (acknowledged_by c held) n (with_queue queue d) t)
    (held-requeued queue d t) (size-requeued queue d (handle_of t) c)
    ∙ before-requeued queue (acknowledged_by c (held_in d t)) (size_named (handle_of t) c d) d t
    )

pub before-alike : {a b : Desk} → IsReordered a b → (c : Option Command) → before_of b c ≡ before_of a c
before-alike {a} {b} is c =
    ap (λ d. before_of d c) is.rest
    ∙ (
    kept-requeued b.post.queued a c
    ∙ (
    ap (λ messages. with_messages messages (before_of a c)) (sym (ap message_items is.rest) ∙ messages-alike is)
    ∙ before-kept (acknowledged_by c (held_in a (task_in c a))) (size_named (handle_of (task_in c a)) c a) a (task_in c a)
    )
    )

marks-requeued : (queue : List Parcel) (d : Desk) (f : Before) (c : Option Command) (r : Reply)
    → marks_of (with_queue queue d) f c r ≡ marks_of d f c r
marks-requeued queue d f None r = refl
marks-requeued queue d f (Some c) r = refl

pub marks-alike : {a b : Desk} → IsReordered a b → (f : Before) (c : Option Command) (r : Reply)
    → marks_of b f c r ≡ marks_of a f c r
marks-alike {a} {b} is f c r = ap (λ d. marks_of d f c r) is.rest ∙ marks-requeued b.post.queued a f c r

-- no reply shows the queue
text-requeued : (queue : List Parcel) (d : Desk) (c : Command) (r : Reply)
    → reply_text (with_queue queue d) c r ≡ reply_text d c r
unfolding reply_text
text-requeued queue d (command.Ask q) r =
    ap (λ told. if can_be_asked q && begins told r then answer_text told else first_line r Nothing)
    (asked-requeued queue d q)
text-requeued queue d c r = refl

text-alike : {a b : Desk} → IsReordered a b → (c : Command) (r : Reply) → reply_text b c r ≡ reply_text a c r
text-alike {a} {b} is c r = ap (λ d. reply_text d c r) is.rest ∙ text-requeued b.post.queued a c r

-- the same is answered to a command
pub said-alike : {a b : Desk} → IsReordered a b → (c : Command) → meaning_text b (Ok (Some c)) ≡ meaning_text a (Ok (Some c))
said-alike {a} {b} is c =
    let steps = order-ignored a b c is in
    ap₂ with_taken
    (ap (reply_text (step b c).0 c) steps.reply ∙ text-alike steps.desks c (step a c).1)
    (taken-alike is c)

-- ---- lines

-- the lines of one reply on the desk after it
lines-alike : {x y : Desk} → IsReordered x y
    → (wanted : Bool) (s : Share) (n : ℕ) (line : List ℕ) (c : Command) (said : List ℕ) (f : Before) (r : Reply)
    → command_lines wanted s n line c said f (y, r) ≡ command_lines wanted s n line c said f (x, r)
lines-alike {x} {y} is wanted s n line c said f r =
    ap (step_lines (is_still (Some c) r && not wanted) n line said)
    (ap (scene_of y s f) (marks-alike is f (Some c) r) ∙ scene-alike is s f (marks_of x f (Some c) r))

-- those of a command
pub command-alike : {a b : Desk} → IsReordered a b → (wanted : Bool) (s : Share) (n : ℕ) (line : List ℕ) (c : Command)
    → command_lines wanted s n line c (meaning_text b (Ok (Some c))) (before_of b (Some c)) (step b c)
    ≡ command_lines wanted s n line c (meaning_text a (Ok (Some c))) (before_of a (Some c)) (step a c)
command-alike {a} {b} is wanted s n line c =
    let steps = order-ignored a b c is in
    let said = meaning_text a (Ok (Some c)) in
    ap₂ (λ t f. command_lines wanted s n line c t f (step b c)) (said-alike is c) (before-alike is (Some c))
    ∙ (
    ap (λ r. command_lines wanted s n line c said (before_of a (Some c)) ((step b c).0, r)) steps.reply
    ∙ lines-alike steps.desks wanted s n line c said (before_of a (Some c)) (step a c).1
    )

-- those of a bad line
pub fault-alike : {a b : Desk} → IsReordered a b
    → (wanted : Bool) (s : Share) (n : ℕ) (line : List ℕ) (fault : LineFault)
    → fault_lines wanted s n line fault b ≡ fault_lines wanted s n line fault a
fault-alike {a} {b} is wanted s n line fault =
    ap (λ f. step_lines (not wanted) n line (fault_text fault) (scene_of b s f no_marks)) (before-alike is None)
    ∙ ap (step_lines (not wanted) n line (fault_text fault)) (scene-alike is s (before_of a None) no_marks)

pub no-order : ShowsNoOrder
no-order marked a b n wanted [] is = refl
no-order marked a b n wanted (((line, Ok None), s) ∷ rest) is =
    ap (λ ls. (if not marked || wanted || is_mark line then remark_lines line else []) ++ ls)
    (no-order marked a b (n + 1) (wanted || is_mark line) rest is)
no-order marked a b n wanted (((line, Ok (Some c)), s) ∷ rest) is =
    ap₂ (λ here ls. (if not marked || wanted then here else []) ++ ls)
    (command-alike is wanted s (n + 1) line c)
    (no-order marked (step a c).0 (step b c).0 (n + 1) false rest (order-ignored a b c is).desks)
no-order marked a b n wanted (((line, Err fault), s) ∷ rest) is =
    ap₂ (λ here ls. (if not marked || wanted then here else []) ++ ls)
    (fault-alike is wanted s (n + 1) line fault)
    (no-order marked a b (n + 1) false rest is)
