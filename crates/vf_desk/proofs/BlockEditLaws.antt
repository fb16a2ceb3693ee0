-- What edits of blocks come to, on each desk that a handle may be seen as.
use Rattle.vf_desk.proofs.Common.{◌≡◌, ◌≢◌, ℕ, Bool, true, false, List, Option, Some, None, Result, Ok, Err, refl, sym, ap, subst}
use Rattle.vf_desk.proofs.Common.{◌∙◌, Desk, Console, CallOutcome}
use Rattle.vf_desk.proofs.Common.{OpenDesk, in_range, length, if◌then◌else◌, nat_le, status_of, KeepsRest, SeenBy, console_in}
use Rattle.std.specs.Option.{option_map}
use Rattle.std.specs.Prelude.{◌&&◌}
use Rattle.rh_defs.specs.declared.command.Command.TheVariants as command
use Rattle.rh_defs.specs.declared.refusal.Refusal.{Refusal}
use Rattle.rh_defs.specs.declared.reply.Reply.{Reply}
use Rattle.rh_defs.specs.declared.reply.Reply.TheVariants as reply
use Rattle.rh_defs.specs.Chain.{Granted, ◌>>=◌, or_else}
use Rattle.rh_defs.specs.Commands.{Answer, is_refused}
use Rattle.rh_defs.specs.Forms.{is_number}
use Rattle.rh_defs.specs.Messages.{Parcel}
use Rattle.rh_defs.specs.Order.{IsReordered, SameForEach, with_queue}
use Rattle.rh_defs.proofs.Follows.{Follows}
use Rattle.rh_defs.proofs.OrderSteps.{SaidAlike}
use Rattle.rh_tasks.specs.Answer.{Gives}
use Rattle.rh_tasks.specs.BlockBytes.{block_written, module_written}
use Rattle.rh_tasks.specs.Inner.CommandAnswers.{reply_of}
use Rattle.rh_tasks.specs.Shown.{Shown}
use Rattle.rh_tasks.specs.TransferBlock.{transferred}
use Rattle.rh_tasks.proofs.BlockOrders.{transferred-alike}
use Rattle.rh_tasks.proofs.Chains.{begins, ends}
use Rattle.vf_desk.specs.declared.call_outcome.CallOutcome.TheVariants.{Closed, BadArgument, Said}
use Rattle.vf_desk.specs.declared.desk.VfDesk.{VfDesk}
use Rattle.vf_desk.specs.BlockEdits.{DoesEdit, Edit, answer_by, block_edit, called_by, edited_by, is_write, module_edit, transfer_edit}
use Rattle.vf_desk.specs.DeskForms.{name_read}
use Rattle.vf_desk.specs.Inner.BlockSteps.{Edits}
use Rattle.vf_desk.specs.SeenDesk.{said_in}
use Rattle.vf_desk.proofs.FormLaws.{a-name, put-good}
use Rattle.vf_desk.proofs.SeenLaws.{empty-seen, held-by, held-desk, held-same, in-handle, none-by, stays-rest}

-- ---- on a world

-- an edit that doesn't see the order of messages to different tasks
abbrev pub IsUnordered : Edit → Type 0
IsUnordered edit = (d : Desk) (queue : List Parcel) → SameForEach d.post.queued queue → Follows SaidAlike (edit d) (edit (with_queue queue d))

-- two desks with the same reply, which differ in that order alone; the reply is no refusal where the edit is granted
record AnswersAlike (a b : Desk) (x y : Granted Answer) : Type 0 where
  said : (or_else y (λ refusal. (b, reply.Refused refusal))).1 ≡ (or_else x (λ refusal. (a, reply.Refused refusal))).1
  desks : IsReordered (or_else x (λ refusal. (a, reply.Refused refusal))).0 (or_else y (λ refusal. (b, reply.Refused refusal))).0

follows-alike : (d : Desk) (queue : List Parcel) → SameForEach d.post.queued queue → {x y : Granted Answer} → Follows SaidAlike x y
    → AnswersAlike d (with_queue queue d) x y
unfolding or_else
follows-alike d queue same (Follows.both (SaidAlike.said e q r s other)) = record { said = refl; desks = record { same = s; rest = refl } }
follows-alike d queue same Follows.neither = record { said = refl; desks = record { same = same; rest = refl } }

edit-alike : (edit : Edit) → IsUnordered edit → {a b : Desk} → IsReordered a b → AnswersAlike a b (edit a) (edit b)
edit-alike edit all {a} {b} r = subst (λ (e : Desk). AnswersAlike a e (edit a) (edit e)) (sym r.rest)
    (follows-alike a b.post.queued r.same (all a b.post.queued r.same))

-- a granted edit answers no refusal
never-refused : {x y : Granted Answer} {e : Desk} {r : Reply} → Follows SaidAlike x y → x ≡ Ok (e, r) → is_refused r ≡ false
never-refused {e = e} {r = r} (Follows.both (SaidAlike.said d queue said same other)) is =
    let both : (let a : Answer = (d, said) in a) ≡ (e, r) = cc in
    subst (λ (a : Reply). is_refused a ≡ false) (ap (λ (a : Answer). a.1) both) other
never-refused Follows.neither is = absurd cc

done-zero : (r : Reply) → is_refused r ≡ false → status_of (Said r) ≡ 0
done-zero (reply.Refused refusal) other = absurd cc
done-zero _ other = refl

-- what a world gives is what the edit comes to there
as-given : (g : Granted Answer) (old new : Shown) (result : Result Reply Refusal) → Gives g old new result
    → or_else g (λ refusal. (old.desk, reply.Refused refusal)) ≡ (new.desk, reply_of result)
unfolding or_else
as-given g old new (Ok answer) h = rw h refl
as-given g old new (Err refusal) h = rw (h.0, h.1) refl

stays-refused : (edit : Edit) → IsUnordered edit → (old new : Shown) (result : Result Reply Refusal) → Gives (edit old.desk) old new result
    → status_of (Said (reply_of result)) ≢ 0 → new ≡ old
stays-refused edit all old new (Ok answer) h bad =
    absurd (bad (done-zero answer (never-refused (all old.desk old.desk.post.queued (record { each = λ handle. refl })) h)))
stays-refused edit all old new (Err refusal) h bad = h.1

pub edits-done : (edit : Edit) → IsUnordered edit → {old new : Shown} (result : Result Reply Refusal) → Gives (edit old.desk) old new result
    → Edits (Some edit) old new (Said (reply_of result))
edits-done edit all {old} {new} result h =
    let e = as-given (edit old.desk) old new result h in
    record {
      said_is = λ d seen. ap Said (sym (ap (λ (a : Answer). a.1) e) ∙ (edit-alike edit all seen).said);
      desk = λ d seen. subst (IsReordered (answer_by edit d).0) (ap (λ (a : Answer). a.0) e) (edit-alike edit all seen).desks;
      refused = stays-refused edit all old new result h;
    }

pub edits-none : (world : Shown) → Edits None world world BadArgument
edits-none world = record { said_is = λ d seen. refl; desk = λ d seen. seen; refused = λ _. refl }

-- ---- on a open desk

module _ (open_desk : OpenDesk) {old : Console} (is : open_desk.console ≡ Some old) {edit : Option Edit} {world : Shown} {said : CallOutcome}
    (edits : Edits edit old.world world said) where
  abbrev console_now : Console
  console_now = record { world = world; said = old.said; command = old.command }

  abbrev station_now : OpenDesk
  station_now = record { files = open_desk.files; console = Some console_now; held = open_desk.held }

  pub edited-said : (s : Option Desk) → SeenBy open_desk.console s → said ≡ called_by s edit
  edited-said s seen = go s (subst (λ h. SeenBy h s) is seen)
    where
      go : (s : Option Desk) → SeenBy (Some old) s → said ≡ called_by s edit
      go None seen = absurd seen
      go (Some d) seen = edits.said_is d seen

  pub edited-desk : (s : Option Desk) → SeenBy open_desk.console s → SeenBy (Some console_now) (edited_by s edit)
  edited-desk s seen = go s (subst (λ h. SeenBy h s) is seen)
    where
      go : (s : Option Desk) → SeenBy (Some old) s → SeenBy (Some console_now) (edited_by s edit)
      go None seen = absurd seen
      go (Some d) seen = edits.desk d seen

  pub edited-rest : KeepsRest (Some open_desk) (Some station_now)
  edited-rest = record { files = refl; said = ap said_in (sym is) }

  pub edited-refused : status_of said ≢ 0 → station_now ≡ open_desk
  edited-refused bad =
      let with_world : Shown → OpenDesk = λ w.
      record { files = open_desk.files; console = Some (record { world = w; said = old.said; command = old.command }); held = open_desk.held } in
      let with_console : Option Console → OpenDesk = λ h. record { files = open_desk.files; console = h; held = open_desk.held } in
      ap with_world (edits.refused bad) ∙ ap with_console (sym is)

-- ---- where the desk isn't open

module _ {held : Option Console} (is : held ≡ None) (edit : Option Edit) where
  pub unopened-said : (s : Option Desk) → SeenBy held s → Closed ≡ called_by s edit
  unopened-said s seen = go s (subst (λ h. SeenBy h s) is seen)
    where
      go : (s : Option Desk) → SeenBy None s → Closed ≡ called_by s edit
      go None seen = refl
      go (Some d) seen = absurd seen

  pub unopened-desk : (s : Option Desk) → SeenBy held s → SeenBy held (edited_by s edit)
  unopened-desk s seen = go s (subst (λ h. SeenBy h s) is seen)
    where
      go : (s : Option Desk) → SeenBy None s → SeenBy held (edited_by s edit)
      go None seen = subst (λ h. SeenBy h None) (sym is) tt
      go (Some d) seen = absurd seen

-- ---- on what a handle has

pub edited-none : {old new : VfDesk} {status : ℕ} → None ≡ old.handle.open_desk → new.handle.open_desk ≡ None → status ≡ status_of Closed
    → (edit : Option Edit) → DoesEdit edit old new status
edited-none {old} {new} taken left told edit = record {
  status_is = λ s seen. told ∙ ap status_of (unopened-said refl edit s (empty-seen (sym taken) s seen));
  desk = λ s seen. subst (λ h. SeenBy (console_in h) (edited_by s edit)) (sym left) (unopened-desk refl edit s (empty-seen (sym taken) s seen));
  rest = none-by taken left KeepsRest (stays-rest None);
  refused = λ bad. left ∙ taken;
}

module _ {old new : VfDesk} {before behind : OpenDesk} (held : Some before ≡ old.handle.open_desk) (put : new.handle.open_desk ≡ Some behind)
    {edit : Option Edit} {said : CallOutcome} {status : ℕ} (told : status ≡ status_of said)
    (says : (s : Option Desk) → SeenBy before.console s → said ≡ called_by s edit)
    (desk : (s : Option Desk) → SeenBy before.console s → SeenBy behind.console (edited_by s edit)) where
  pub edited-held : KeepsRest (Some before) (Some behind) → (status_of said ≢ 0 → behind ≡ before) → DoesEdit edit old new status
  edited-held rest refused = record {
    status_is = λ s seen. told ∙ ap status_of (in-handle held says s seen);
    desk = held-desk held put (λ s. edited_by s edit) desk;
    rest = held-by held put KeepsRest rest;
    refused = λ bad. held-same held put (refused (λ zero. bad (told ∙ zero)));
  }

-- ---- edits by their arguments

and-first : (a b : Bool) → (a && b) ≡ true → a ≡ true
and-first true b e = refl
and-first false b e = absurd cc

and-second : (a b : Bool) → (a && b) ≡ true → b ≡ true
and-second true b e = e
and-second false b e = absurd cc

-- what may be written by a `put`, whatever the anchor
pub put-ranged : (bytes name xs : List ℕ) (offset : ℕ) → Some name ≡ name_read bytes → is_write offset xs ≡ true
    → in_range (command.Put name 0 offset xs) ≡ true
put-ranged bytes name xs offset named good =
    let is = a-name bytes name named in
    subst (λ k. in_range (command.Put k 0 offset xs) ≡ true) (sym is.0)
    (put-good bytes xs 0 offset is.1 refl (and-first (is_number offset) (nat_le 1 (length xs)) good)
    (and-second (is_number offset) (nat_le 1 (length xs)) good))

module _ (address offset : ℕ) (xs : List ℕ) where
  abbrev written_to : Option (List ℕ) → Option Edit
  written_to name = option_map (λ known d. block_written d known address offset xs) name

  pub bad-block-edit : (name : List ℕ) → is_write offset xs ≡ false → None ≡ block_edit name address offset xs
  bad-block-edit name bad = sym (ap (λ (b : Bool). if b then written_to (name_read name) else None) bad)

  pub bad-module-edit : is_write offset xs ≡ false → None ≡ module_edit address offset xs
  bad-module-edit bad = sym (ap (λ (b : Bool). if b then Some (λ (d : Desk). module_written d address offset xs) else None) bad)

  module _ (good : is_write offset xs ≡ true) where
    pub nameless-edit : (name : List ℕ) → None ≡ name_read name → None ≡ block_edit name address offset xs
    nameless-edit name none = ap written_to none ∙ sym (ap (λ (b : Bool). if b then written_to (name_read name) else None) good)

    pub named-edit : (name known : List ℕ) → Some known ≡ name_read name
        → Some (λ (d : Desk). block_written d known address offset xs) ≡ block_edit name address offset xs
    named-edit name known named = ap written_to named ∙ sym (ap (λ (b : Bool). if b then written_to (name_read name) else None) good)

    pub good-module-edit : Some (λ (d : Desk). module_written d address offset xs) ≡ module_edit address offset xs
    good-module-edit = sym (ap (λ (b : Bool). if b then Some (λ (d : Desk). module_written d address offset xs) else None) good)

pub edits-bad : (edit : Option Edit) (world : Shown) → None ≡ edit → Edits edit world world BadArgument
edits-bad edit world e = subst (λ x. Edits x world world BadArgument) e (edits-none world)

pub edits-good : {edit : Option Edit} (word : Edit) → Some word ≡ edit → IsUnordered word → {old new : Shown} (result : Result Reply Refusal)
    → Gives (word old.desk) old new result → {said : CallOutcome} → said ≡ Said (reply_of result) → Edits edit old new said
edits-good word e all {old} {new} result h {said} told =
    subst (λ x. Edits x old new said) e (subst (λ s. Edits (Some word) old new s) (sym told) (edits-done word all result h))

-- bytes that a world has moved
pub edits-moved : (from address to address2 n : ℕ) {old new : Shown} → transferred old.desk from address to address2 n ≡ Ok new.desk
    → Edits (transfer_edit from address to address2 n) old new (Said reply.Done)
edits-moved from address to address2 n {old} {new} e =
    edits-done (λ d. transferred d from address to address2 n >>= λ e. Ok (e, reply.Done))
    (λ d queue same. transferred-alike d queue same from address to address2 n) (Ok reply.Done) (begins _ e refl)

pub edits-unmoved : (from address to address2 n : ℕ) (refusal : Refusal) {old new : Shown} → transferred old.desk from address to address2 n ≡ Err refusal
    → new ≡ old → Edits (transfer_edit from address to address2 n) old new (Said (reply.Refused refusal))
edits-unmoved from address to address2 n refusal {old} {new} e same =
    edits-done (λ d. transferred d from address to address2 n >>= λ e. Ok (e, reply.Done))
    (λ d queue same. transferred-alike d queue same from address to address2 n) (Err refusal) (ends _ e, same)
