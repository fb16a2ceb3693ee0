-- What is told of an id that isn't theirs is what was offered.
use Rattle.rh_safety.proofs.Common.{◌≡◌, ◌≢◌, ℕ, Bool, true, false, if◌then◌else◌, List, [], Option, Some, None, refl, sym, ap, ◌∙◌, inl, inr}
use Rattle.rh_safety.proofs.Common.{eqb_tells, find, has_name, option_map, Body, Command, Outcome, Reply, Parcel, post_poll, Desk, Scrap, Task, Asked, Incoming}
use Rattle.rh_safety.proofs.Common.{Offers, Edits, put, put_same, put_other, latest, field_is, live_of, task_of, view, seen_letter, seen_last, Fits}
use Rattle.rh_defs.specs.declared.command.Command.TheVariants as command
use Rattle.rh_defs.specs.declared.message.Body.TheVariants as body
use Rattle.rh_defs.specs.declared.message.Letter.{Letter}
use Rattle.rh_defs.specs.declared.raw_command.RawCommand.TheVariants as raw
use Rattle.rh_defs.specs.declared.reply.Reply.TheVariants as reply
use Rattle.rh_defs.specs.declared.transfer.Incoming.TheVariants as incoming
use Rattle.rh_defs.specs.AnyMessage.{read_body}
use Rattle.rh_defs.specs.Desk.{kept_scrap}
use Rattle.rh_defs.specs.RawTasks.{is_raw, is_raw_task}
use Rattle.rh_defs.specs.Receiver.{is_answer, is_load}
use Rattle.rh_defs.specs.Records.{active_of, asking_of}
use Rattle.rh_safety.specs.Given.{is_bounce, takes_bytes, takes_file}
use Rattle.rh_safety.specs.Offered.{last_of, offered_again, offered_last, offers_next, repeated_next, saved_next}
use Rattle.rh_safety.specs.RawIds.{Gave, gave_next, gave_sent}
use Rattle.rh_safety.proofs.Keeps.{Stands}
use Rattle.rh_safety.proofs.Masks.{mask_knows}
use Rattle.rh_safety.proofs.SeenTasks.{found_task}
use Rattle.rh_safety.proofs.Tolds.{told_by, told_bytes, told_event, told_file, told_next, told_polled, told_sent}

-- what is taken of theirs changes no other id
module _ (p : Offers) (R : Gave) (i : ℕ) (mine : R i ≡ false) where
  other : (b : Bool) (j : ℕ) (x : Option (List ℕ)) → R j ≡ b → (if b then put p j x else p) i ≡ p i
  other true j x q = put_other p j x i (λ eq. let z : true ≡ false = sym q ∙ ap R (sym eq) ∙ mine in (cc))
  other false j x q = refl

  bytes_off : (t : Task) (v : Option Incoming) (n : ℕ) → told_bytes p R t v n i ≡ p i
  bytes_off t None n = refl
  bytes_off t (Some (incoming.Fetching f)) n = other (R f.id) f.id _ refl
  bytes_off t (Some w) n = refl

  file_off : (v : Option Asked) (s : Option Scrap) → told_file p R v s i ≡ p i
  file_off None s = refl
  file_off (Some q) None = refl
  file_off (Some q) (Some s) = other (R q.id) q.id _ refl

  by_off : (t : Task) (file : Option Scrap) (m : Parcel) (back : Bool) (b : Body) (o : Outcome) → told_by p R t file m back b o i ≡ p i
  by_off t file m false (body.RamTransmit buffer n) o = go (takes_bytes o)
    where
      go : (c : Bool) → (if c then told_bytes p R t (active_of (is_answer t.buffer m.message.from m.message.your_ref buffer n) t.taking) n else p) i ≡ p i
      go true = bytes_off t _ n
      go false = refl
  by_off t file m false (body.DataLoad f) o = go (takes_file o)
    where
      go : (c : Bool) → (if c then told_file p R (asking_of (is_load m.message.from m.message.your_ref) t.taking) file else p) i ≡ p i
      go true = file_off _ file
      go false = refl
  by_off t file m back b o = refl

  event_off : (t : Task) (file : Option Scrap) (v : Option Parcel) (r : Reply) → told_event p R t file v r i ≡ p i
  event_off t file (Some m) (reply.Event code action mine yours o) = by_off t file m (is_bounce m.code) (read_body m.message.body) o
  event_off t file v r = refl

  polled_off : (d : Desk) (v : Option Task) (r : Reply) → told_polled p R d v r i ≡ p i
  polled_off d None r = refl
  polled_off d (Some t) r = event_off t (kept_scrap (post_poll t.handle d.post).0 d.scrap) (post_poll t.handle d.post).1 r

-- a message of theirs
sent_off : (p : Offers) (R : Gave) (r : Reply) (i : ℕ) → gave_sent R r i ≡ false → (told_sent p r i ≡ p i) × (R i ≡ false)
sent_off p R (reply.Sent ref) i q = elim (eqb_tells i ref) [
  | inl w ↦ absurd (let z : true ≡ false = sym (put_same R ref true) ∙ ap (put R ref true) (sym w.1) ∙ q in (cc))
  | inr w ↦ (put_other p ref (Some []) i w.1, sym (put_other R ref true i w.1) ∙ q)
]
sent_off p R r i q = (refl, q)

-- an id that is offered anew
put_off : (p o : Offers) (ref : ℕ) (x y : Option (List ℕ)) (i : ℕ) → x ≡ y → p i ≡ o i → put p ref x i ≡ put o ref y i
put_off p o ref x y i e q = elim (eqb_tells i ref) [ inl w ↦ rw w.0 e | inr w ↦ rw w.0 q ]

saved_off : (p o : Offers) (d : Desk) (name : List ℕ) (k : ℕ) (r : Reply) (i : ℕ) → p i ≡ o i → saved_next p d name k r i ≡ saved_next o d name k r i
saved_off p o d name k (reply.Sent ref) i q = put_off p o ref _ _ i refl q
saved_off p o d name k r i q = q

again_off : (p o : Offers) (ref old : ℕ) (b : Body) (i : ℕ) → p old ≡ o old → p i ≡ o i → offered_again p ref old b i ≡ offered_again o ref old b i
again_off p o ref old (body.DataSave x) i e q = put_off p o ref _ _ i e q
again_off p o ref old b i e q = q

last_off : (p o : Offers) (ref : ℕ) (last : Option (Letter × ℕ)) (i : ℕ) → ((l : Letter × ℕ) → last ≡ Some l → p l.1 ≡ o l.1) → p i ≡ o i →
    offered_last p ref last i ≡ offered_last o ref last i
last_off p o ref None i old q = q
last_off p o ref (Some l) i old q = again_off p o ref l.1 l.0.body i (old l refl) q

repeated_off : (p o : Offers) (d : Desk) (name : List ℕ) (r : Reply) (i : ℕ) →
    ((l : Letter × ℕ) → last_of (find (has_name name) d.tasks) ≡ Some l → p l.1 ≡ o l.1) → p i ≡ o i → repeated_next p d name r i ≡ repeated_next o d name r i
repeated_off p o d name (reply.Sent ref) i old q = last_off p o ref (last_of (find (has_name name) d.tasks)) i old q
repeated_off p o d name r i old q = q

-- a letter that only its task's manner tells
again_other : (o : Offers) (n old : ℕ) (b : Body) (i : ℕ) → i ≢ n → offered_again o n old b i ≡ o i
again_other o n old (body.DataSave x) i ne = put_other o n (o old) i ne
again_other o n old b i ne = refl

pub last_other : (o : Offers) (n : ℕ) (last : Option (Letter × ℕ)) (i : ℕ) → i ≢ n → offered_last o n last i ≡ o i
last_other o n None i ne = refl
last_other o n (Some l) i ne = again_other o n l.1 l.0.body i ne

module _ {o : Offers} {e : Edits} {R : Gave} (d : Desk) (g : Stands o e R (view d)) (f : Fits d) where
  -- what a task that the desk plays sent last isn't theirs
  last_mine : (t : Task) (last : Letter × ℕ) → task_of t.handle d.tasks ≡ Some t → t.last_sent ≡ Some last → is_raw t.manner ≡ false → R last.1 ≡ false
  last_mine t last is kept plays =
      let there : (view d).last t.handle ≡ Some (seen_last last) = field_is (λ x. option_map seen_last x.last_sent) _
      t.handle d.tasks t is ∙ ap (option_map seen_last) kept in
      let l : Letter = record last.0 { from = t.handle } in
      let known = mask_knows R (view d) (seen_letter l last.1).letter (latest t.handle (seen_last last) there refl) in
      g.raws.letters _ known ∙ sym (g.raws.manners t.handle (live_of d t.handle t is)) ∙
      field_is (λ x. is_raw x.manner) false t.handle d.tasks t is ∙ plays

  -- the last letter of the task with the name
  old_same : (v : Option Task) (name : List ℕ) → find (has_name name) d.tasks ≡ v → is_raw_task v ≡ false → (l : Letter × ℕ) → last_of v ≡ Some l →
      g.offers l.1 ≡ o l.1
  old_same None name found plays l q = absurd (let z : None ≡ Some l = q in cc)
  old_same (Some t) name found plays l q = g.same l.1 (last_mine t l (found_task (has_name name) d.tasks t f.handles found) q plays)

  repeat_off : (name : List ℕ) (r : Reply) (i : ℕ) (b : Bool) → is_raw_task (find (has_name name) d.tasks) ≡ b →
      (if b then gave_sent R r else R) i ≡ false →
      (if b then told_sent g.offers r else repeated_next g.offers d name r) i ≡ repeated_next o d name r i
  repeat_off name r i false plays mine =
      repeated_off g.offers o d name r i (old_same (find (has_name name) d.tasks) name refl plays) (g.same i mine)
  repeat_off name (reply.Sent ref) i true its mine = elim (eqb_tells i ref) [
    | inl w ↦ absurd (let z : true ≡ false = sym (put_same R ref true) ∙ ap (put R ref true) (sym w.1) ∙ mine in (cc))
    | inr w ↦ put_other g.offers ref (Some []) i w.1 ∙ g.same i (sym (put_other R ref true i w.1) ∙ mine) ∙
        sym (last_other o ref (last_of (find (has_name name) d.tasks)) i w.1)
  ]
  repeat_off name r i true its mine = g.same i mine

  pub told_off : (c : Command) (r : Reply) (i : ℕ) → gave_next R d c r i ≡ false → told_next g.offers R d c r i ≡ offers_next o d c r i
  told_off (command.Save name k to leaf) r i mine = saved_off g.offers o d name k r i (g.same i mine)
  told_off (command.Repeat name) r i mine = repeat_off name r i (is_raw_task (find (has_name name) d.tasks)) refl mine
  told_off (command.Raw (raw.Send name recorded h ref a bytes)) r i mine = let w = sent_off g.offers R r i mine in w.0 ∙ g.same i w.1
  told_off (command.Raw (raw.Spool name k h ref)) r i mine = let w = sent_off g.offers R r i mine in w.0 ∙ g.same i w.1
  told_off (command.Poll name) r i mine = polled_off g.offers R i mine d (find (has_name name) d.tasks) r ∙ g.same i mine
  told_off c r i mine = g.same i mine
