-- No ref of a task with code of its own is offered: what is offered isn't theirs, and is safe.
use Rattle.rh_safety.proofs.Common.{◌≡◌, ℕ, Bool, true, false, not, List, [], ◌∷◌, Option, Some, None, refl, sym, ap, ◌∙◌, subst, arith}
use Rattle.rh_safety.proofs.Common.{if◌then◌else◌, Refusal, find, has_name, found_or, Body, Command, Desk, Task, named, send_letter, save, repeat, step}
use Rattle.rh_safety.proofs.Common.{start_with, after, task_at, view, seen_letter, seen_last, Offers, Edits, put, put_other, latest, field_is}
use Rattle.rh_safety.proofs.Common.{option_map, task_of, Taking, Has, has_of, Answer, live_of, Fits, bind, test, done, is_found, instead_of, the_task}
use Rattle.rh_safety.proofs.Common.{Incoming, inl, inr, eqb_tells}
use Rattle.std.specs.Prelude.{is_some}
use Rattle.rh_defs.specs.declared.refusal.Refusal.TheVariants.{NothingSent}
use Rattle.rh_defs.specs.declared.message.Body.TheVariants as body
use Rattle.rh_defs.specs.declared.command.Command.TheVariants as command
use Rattle.rh_defs.specs.declared.raw_command.RawCommand.TheVariants as raw
use Rattle.rh_defs.specs.declared.transfer.Incoming.TheVariants as incoming
use Rattle.rh_defs.specs.declared.message.Letter.{Letter}
use Rattle.rh_defs.specs.Records.{in_id}
use Rattle.rh_defs.specs.RawCommands.{send, spool}
use Rattle.rh_defs.specs.RawTasks.{is_raw, is_raw_task}
use Rattle.rh_defs.specs.Files.{FileList}
use Rattle.rh_defs.specs.Laws.{IsStart, IsDesk}
use Rattle.rh_defs.specs.Range.{all_in_range, in_range}
use Rattle.rh_defs.proofs.Steps.{step-keeps, start-is}
use Rattle.rh_safety.specs.Offered.{offered, offered_again, offers_from, offers_next, saved_next}
use Rattle.rh_safety.specs.Held.{is_edited}
use Rattle.rh_safety.specs.RawIds.{Gave, gave_from, gave_next, gave_sent, is_raw_id}
use Rattle.rh_safety.specs.Counts.{AlwaysCounts}
use Rattle.rh_safety.specs.Safe.{AreFlagged, AreOffersSafe}
use Rattle.rh_safety.proofs.Basics.{and_left, and_right, contains_of, either, none_some}
use Rattle.rh_safety.proofs.HeldCounts.{always_counts_offered}
use Rattle.rh_safety.proofs.Keeps.{Stands}
use Rattle.rh_safety.proofs.Masks.{mask_knows}
use Rattle.rh_safety.proofs.SeenBlocks.{found_name}
use Rattle.rh_safety.proofs.SeenDesks.{fits}
use Rattle.rh_safety.proofs.SeenLaws.{always_safe, keeps, stands_after, start_stands}

-- nothing is offered under a ref of theirs
abbrev pub Blank : Offers → Gave → Type 0
Blank o R = (i : ℕ) → R i ≡ true → o i ≡ None

-- one more id that isn't theirs
blank_offered : (o : Offers) (R : Gave) (n : ℕ) (x : Option (List ℕ)) → R n ≡ false → Blank o R → Blank (put o n x) R
blank_offered o R n x off blank i theirs =
    put_other o n x i (λ eq. let z : true ≡ false = sym theirs ∙ ap R eq ∙ off in (cc)) ∙ blank i theirs

-- one more that is
blank_theirs : (o : Offers) (R : Gave) (n : ℕ) → o n ≡ None → Blank o R → Blank o (put R n true)
blank_theirs o R n none blank i theirs = elim (eqb_tells i n) [
  | inl w ↦ ap o w.1 ∙ none
  | inr w ↦ blank i (sym (put_other R n true i w.1) ∙ theirs)
]

-- an old one of theirs that is offered again
blank_again : (o : Offers) (R : Gave) (n old : ℕ) (b : Body) → R n ≡ false → Blank o R → Blank (offered_again o n old b) R
blank_again o R n old (body.DataSave x) off blank = blank_offered o R n (o old) off blank
blank_again o R n old b off blank = blank

again_none : (o : Offers) (n old : ℕ) (b : Body) → o old ≡ None → o n ≡ None → (i : ℕ) → o i ≡ None → offered_again o n old b i ≡ None
again_none o n old (body.DataSave x) none new i q = elim (eqb_tells i n) [ inl w ↦ rw w.0 none | inr w ↦ rw w.0 q ]
again_none o n old b none new i q = q

blank_again_theirs : (o : Offers) (R : Gave) (n old : ℕ) (b : Body) → o old ≡ None → o n ≡ None → Blank o R →
    Blank (offered_again o n old b) (put R n true)
blank_again_theirs o R n old b none new blank i theirs =
    again_none o n old b none new i (blank_theirs o R n new blank i theirs)

module _ {o : Offers} {e : Edits} {R : Gave} (d : Desk) (f : Fits d) (g : Stands o e R (view d)) (blank : Blank o R) where
  -- the next ref
  fresh : R d.post.next_ref ≡ false
  fresh = g.raws.refs d.post.next_ref (omega arith)

  unborn : o d.post.next_ref ≡ None
  unborn = sym (g.same d.post.next_ref fresh) ∙ g.good.born d.post.next_ref (omega arith)

  save_blank : (name : List ℕ) (k : ℕ) (to leaf : List ℕ) →
      let c = command.Save name k to leaf in Blank (offers_next o d c (step d c).1) (gave_next R d c (step d c).1)
  unfolding save
  save_blank name k to leaf =
      let P : Answer → Type 0 = λ a. Blank (saved_next o d name k a.1) R in
      bind P _ _ (instead_of d) (λ r. blank) (λ t q. bind P _ _ (instead_of d) (λ r. blank) (λ b s.
      test P _ _ (instead_of d) (λ r. blank) (λ u v. bind P _ _ (instead_of d) (λ r. blank) (λ r z.
      bind P _ _ (instead_of d) (λ r. blank) (λ sent y. test P _ _ (instead_of d) (λ r. blank) (λ m n.
      done P _ (instead_of d) (blank_offered o R d.post.next_ref _ fresh blank)))))))

  send_blank : (name : List ℕ) (recorded : Bool) (h ref a : ℕ) (bytes : Option (List ℕ)) →
      let c = command.Raw (raw.Send name recorded h ref a bytes) in Blank (offers_next o d c (step d c).1) (gave_next R d c (step d c).1)
  unfolding send
  send_blank name recorded h ref a bytes =
      let P : Answer → Type 0 = λ a. Blank o (gave_sent R a.1) in
      bind P _ _ (instead_of d) (λ r. blank) (λ t q. bind P _ _ (instead_of d) (λ r. blank) (λ sent y.
      test P _ _ (instead_of d) (λ r. blank) (λ u v. test P _ _ (instead_of d) (λ r. blank) (λ m n.
      done P _ (instead_of d) (blank_theirs o R d.post.next_ref unborn blank)))))

  spool_blank : (name : List ℕ) (k h ref : ℕ) →
      let c = command.Raw (raw.Spool name k h ref) in Blank (offers_next o d c (step d c).1) (gave_next R d c (step d c).1)
  unfolding spool
  spool_blank name k h ref =
      let P : Answer → Type 0 = λ a. Blank o (gave_sent R a.1) in
      bind P _ _ (instead_of d) (λ r. blank) (λ t q. bind P _ _ (instead_of d) (λ r. blank) (λ b w.
      test P _ _ (instead_of d) (λ r. blank) (λ u1 v1. test P _ _ (instead_of d) (λ r. blank) (λ u2 v2.
      test P _ _ (instead_of d) (λ r. blank) (λ u3 v3. bind P _ _ (instead_of d) (λ r. blank) (λ sent y.
      test P _ _ (instead_of d) (λ r. blank) (λ m n. test P _ _ (instead_of d) (λ r. blank) (λ u4 v4.
      done P _ (instead_of d) (blank_theirs o R d.post.next_ref unborn blank)))))))))

  -- what a task with code of its own sent last is theirs
  last_theirs : (t : Task) (last : Letter × ℕ) → task_of t.handle d.tasks ≡ Some t → t.last_sent ≡ Some last → is_raw t.manner ≡ true →
      R last.1 ≡ true
  last_theirs t last is kept its =
      let l : Letter = record last.0 { from = t.handle } in
      let there : (view d).last t.handle ≡ Some (seen_last last) = field_is (λ x. option_map seen_last x.last_sent) _
      t.handle d.tasks t is ∙ ap (option_map seen_last) kept in
      let known = mask_knows R (view d) (seen_letter l last.1).letter (latest t.handle (seen_last last) there refl) in
      g.raws.letters _ known ∙ sym (g.raws.manners t.handle (live_of d t.handle t is)) ∙
      field_is (λ x. is_raw x.manner) false t.handle d.tasks t is ∙ its

  repeat_blank : (name : List ℕ) → let c = command.Repeat name in Blank (offers_next o d c (step d c).1) (gave_next R d c (step d c).1)
  unfolding repeat
  repeat_blank name =
      let P : Answer → Type 0 = λ a. let c = command.Repeat name in Blank (offers_next o d c a.1) (gave_next R d c a.1) in
      bind P (named name d) _ (instead_of d) (λ r. none r) (λ t q. bind P (found_or t.last_sent NothingSent) _ (instead_of d)
      (λ r. none r) (λ last w. bind P (send_letter (record last.0 { from = t.handle }) d) _ (instead_of d) (λ r. none r) (λ sent y.
      done P _ (instead_of d) (
      let is = the_task d name t f q in
      let kept = is_found t.last_sent NothingSent last w in
      let n = d.post.next_ref in
      let by_manner : (b : Bool) → is_raw t.manner ≡ b → Blank (offered_again o n last.1 last.0.body) (if b then put R n true else R) = λ b.
      elim b as (λ b. is_raw t.manner ≡ b → Blank (offered_again o n last.1 last.0.body) (if b then put R n true else R)) [
        | true ↦ λ its. blank_again_theirs o R n last.1 last.0.body (blank last.1 (last_theirs t last is kept its)) unborn blank
        | false ↦ λ plays. blank_again o R n last.1 last.0.body fresh blank
      ] in
      rw (found_name d name t q, kept) (by_manner (is_raw t.manner) refl)))))
    where
      none : (r : Refusal) → let c = command.Repeat name in Blank (offers_next o d c (instead_of d r).1) (gave_next R d c (instead_of d r).1)
      none r = either (λ (S : Gave). Blank o S) (is_raw_task (find (has_name name) d.tasks)) R R (λ b. blank) (λ b. blank)

  -- each command
  step_blank : (c : Command) → Blank (offers_next o d c (step d c).1) (gave_next R d c (step d c).1)
  step_blank (command.Save name k to leaf) = save_blank name k to leaf
  step_blank (command.Repeat name) = repeat_blank name
  step_blank (command.Raw (raw.Send name recorded h ref a bytes)) = send_blank name recorded h ref a bytes
  step_blank (command.Raw (raw.Spool name k h ref)) = spool_blank name k h ref
  step_blank c = blank

-- all commands
blank_after : (cs : List Command) → all_in_range cs ≡ true → (d : Desk) {o : Offers} {e : Edits} {R : Gave} → Stands o e R (view d) →
    IsDesk d → Blank o R → Blank (offers_from o d cs) (gave_from R d cs)
blank_after [] p d g f blank = blank
blank_after (c ∷ cs) p d g f blank =
    let in_c : in_range c ≡ true = and_left (in_range c) _ p in
    blank_after cs (and_right (in_range c) _ p) (step d c).0 (keeps c in_c d g (fits d f)) (step-keeps d c in_c f)
    (step_blank d (fits d f) g blank c)

-- ---- the laws

-- whether an id is theirs, by what it offers
not_theirs : (b : Bool) (x : Option (List ℕ)) (file : List ℕ) → x ≡ Some file → (b ≡ true → x ≡ None) → b ≡ false
not_theirs true x file is none = absurd (none_some x (none refl) is)
not_theirs false x file is none = refl

some_offered : (x : Option (List ℕ)) (file : List ℕ) → x ≡ Some file → is_some x ≡ true
some_offered x file is = ap is_some is

module _ (pool handle ref : ℕ) (files : FileList) (cs : List Command) (from : IsStart pool handle ref)
    (ranged : all_in_range cs ≡ true) where
  abbrev d0 : Desk
  d0 = start_with pool files handle ref

  abbrev d : Desk
  d = after d0 cs

  abbrev R : Gave
  R = is_raw_id d0 cs

  pub blanks : Blank (offered d0 cs) R
  blanks = blank_after cs ranged d0 (start_stands handle ref (omega (arith, from.first_ref))) (start-is pool handle ref files from)
      (λ i theirs. refl)

  offers_safe : AreOffersSafe d0 cs
  offers_safe id h file is =
      always_safe pool handle ref files cs from ranged id h (not_theirs (R id) (offered d0 cs id) file is (blanks id))

  s : Stands (offered d0 cs) (is_edited d0 cs) R (view d)
  s = stands_after pool handle ref files cs from ranged

  -- a record that isn't theirs was offered
  mine_offered : (h : ℕ) (t : Task) (w : Incoming) → task_at h d ≡ Some t → Has w t.taking → R (in_id w) ≡ false →
      is_some (offered d0 cs (in_id w)) ≡ true
  mine_offered h t w at has mine =
      let c = always_counts_offered pool handle ref files cs from ranged h t w at (contains_of t.taking w has) mine in
      some_offered _ c.file c.is

  seen : (h : ℕ) (t : Task) (w : Incoming) → task_at h d ≡ Some t → Has w t.taking → Has w ((view d).taking h)
  seen h t w at has = subst (λ (y : List Incoming). Has w y) (sym (field_is (λ y. y.taking) [] h d.tasks t at)) has

  flagged_as : (h : ℕ) (t : Task) (f : Taking) → task_at h d ≡ Some t → Has (incoming.Fetching f) t.taking → (b : Bool) → R f.id ≡ b →
      is_some (offered d0 cs f.id) ≡ not b
  flagged_as h t f at has true q = ap is_some (blanks f.id q)
  flagged_as h t f at has false q = mine_offered h t (incoming.Fetching f) at has q

  flags : AreFlagged d0 cs
  flags = record {
    fetches = λ h t f at has. let in_ = has_of t.taking (incoming.Fetching f) has in
        flagged_as h t f at in_ (R f.id) refl ∙ ap not (sym (s.raws.flags h f (seen h t (incoming.Fetching f) at in_)));
    drains = λ h t f at has. let in_ = has_of t.taking (incoming.Draining f) has in
        mine_offered h t (incoming.Draining f) at in_ (s.raws.drains h f (seen h t (incoming.Draining f) at in_));
  }

pub always_offers_safe : AlwaysCounts AreOffersSafe
always_offers_safe pool handle ref files cs from ranged = offers_safe pool handle ref files cs from ranged

pub always_flagged : AlwaysCounts AreFlagged
always_flagged pool handle ref files cs from ranged = flags pool handle ref files cs from ranged
