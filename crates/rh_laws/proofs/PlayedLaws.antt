-- After any commands each record waits that isn't of a transfer of theirs and doesn't go out to one of them; so at rest none waits.
use Rattle.rh_laws.proofs.Common.{Bool, Command, Desk, Has, Incoming, List, Some, Task, [], after, all_in_range, and_left, and_right, ap, false, field_is, fits}
use Rattle.rh_laws.proofs.Common.{has_of, if◌then◌else◌, in_id, in_range, inl, inr, keeps, none_some, refl, start-is, start_with, step, step-keeps, subst, sym}
use Rattle.rh_laws.proofs.Common.{Answer, Edits, IsDesk, None, Offers, Sending, Taking, arith, task_of, true, view, ℕ, ◌++◌, ◌<◌, ◌&&◌, ◌==◌, ◌∙◌, ◌∷◌}
use Rattle.rh_laws.proofs.Common.{◌≡◌}
use Rattle.rh_defs.specs.declared.command.Command.TheVariants as command
use Rattle.rh_defs.specs.Files.{FileList}
use Rattle.rh_defs.specs.Laws.{IsStart}
use Rattle.rh_defs.specs.Records.{is_going}
use Rattle.rh_safety.specs.Held.{edits_next}
use Rattle.rh_safety.specs.Offered.{offers_next}
use Rattle.std.specs.List.{Contains}
use Rattle.rh_defs.specs.declared.reply.Reply.{Reply}
use Rattle.rh_defs.specs.declared.reply.Reply.TheVariants as reply
use Rattle.rh_safety.specs.RawIds.{Gave, gave_from, gave_next, has_raw, is_raw_id, starts_raw}
use Rattle.rh_safety.proofs.Played.{neither, no_raw_id}
use Rattle.rh_safety.proofs.Ends.{Asking, Draining, Fetching, In_done, In_failed, Open}
use Rattle.rh_safety.proofs.Invariant.{IsLive}
use Rattle.rh_safety.proofs.Keeps.{Stands}
use Rattle.rh_safety.proofs.Numbers.{always-own-refs}
use Rattle.rh_safety.proofs.SeenLaws.{start_stands}
use Rattle.rh_laws.specs.Beside.{AlwaysHasLiveEndsBeside, AlwaysSettlesBeside}
use Rattle.rh_laws.specs.Cancels.{CancelsEnd}
use Rattle.rh_laws.specs.Addressed.{Addresses, addresses_next}
use Rattle.rh_laws.specs.LiveEnds.{AlwaysHasLiveEnds, ComesAlive, GoesAlive}
use Rattle.rh_laws.specs.Progress.{IsAtRest, polls, rounds_of}
use Rattle.rh_laws.specs.RawHandles.{RawHandles, is_raw_handle, raw_from, raw_next}
use Rattle.rh_laws.specs.Rest.{AlwaysSettles, IsOffered}
use Rattle.rh_laws.proofs.DonePairs.{Agreed, pairs, step-agreed}
use Rattle.rh_laws.proofs.Dones.{Matched}
use Rattle.rh_laws.proofs.PlayedPolls.{Goes_on}
use Rattle.rh_laws.proofs.Common.{Outgoing, eqb_tells}
use Rattle.rh_laws.proofs.AtRest.{none-waits, offered_only}
use Rattle.rh_laws.proofs.CancelLaws.{always-cancels-end}
use Rattle.rh_laws.proofs.LiveLaws.{file_alive, part_alive, reply_alive}
use Rattle.rh_laws.proofs.PlayedDeeds.{Mute, PlayedWait}
use Rattle.rh_laws.proofs.PlayedSteps.{step-played}
use Rattle.rh_laws.proofs.ProgressLaws.{after-both, always-progresses}
use Rattle.rh_laws.proofs.Wants.{HasWant, WaitsFor, Want, Wants, reply, want_in}

-- ---- runs

-- what is known of each desk that is reached
pub record PlayedReach (C : RawHandles) (R : Gave) (d : Desk) : Type 0 where
  pub offers : Offers
  pub edits : Edits
  pub addresses : Addresses
  pub stands : Stands offers edits R (view d)
  pub is : IsDesk d
  pub agreed : Agreed addresses R d
  pub goes : Goes_on addresses C R (view d)

step-reach : {C : RawHandles} {R : Gave} (d : Desk) (c : Command) → in_range c ≡ true → PlayedReach C R d →
    PlayedReach (raw_next C c (step d c).1) (gave_next R d c (step d c).1) (step d c).0
step-reach d c in_c w =
    let fit = fits d w.is in
    let x : Answer = step d c in
    record {
      offers = offers_next w.offers d c x.1;
      edits = edits_next w.edits d c x.1;
      addresses = addresses_next w.addresses d c x.1;
      stands = keeps c in_c d w.stands fit;
      is = step-keeps d c in_c w.is;
      agreed = step-agreed d fit w.stands w.agreed c in_c;
      goes = step-played d fit w.stands w.goes (pairs d w.agreed w.stands.raws.lasts) (w.agreed.refs [] refl) c;
    }

pub after-reach : (cs : List Command) → all_in_range cs ≡ true → (C : RawHandles) (R : Gave) (d : Desk) → PlayedReach C R d →
    PlayedReach (raw_from C d cs) (gave_from R d cs) (after d cs)
after-reach [] ranged C R d w = w
after-reach (c ∷ cs) ranged C R d w =
    let in_c : in_range c ≡ true = and_left (in_range c) _ ranged in
    after-reach cs (and_right (in_range c) _ ranged) (raw_next C c (step d c).1) (gave_next R d c (step d c).1) (step d c).0 (step-reach d c in_c w)

-- the first desk has no task and no message
start-played : (pool handle ref : ℕ) (files : FileList) → PlayedWait (λ h. false) (λ i. false) (view (start_with pool files handle ref))
start-played pool handle ref files = record {
  waits = λ h w x mine. nothing h w x;
  apart = λ h w x i j a b e. absurd a.has;
  mute = λ ref mine live. silent ref live;
  seated = λ k m is. absurd (none_some None refl is);
  codes = record { manners = λ h live. absurd (let z : Bool.false ≡ true = live in (cc)); unborn = λ h le. refl };
  senders = λ l kn. refl;
}
  where
    nothing : (h : ℕ) (w : Want) → Wants (view (start_with pool files handle ref)) h w → WaitsFor (view (start_with pool files handle ref)) h w
    nothing h w (HasWant.comes x) = absurd x.has
    nothing h w (HasWant.goes x) = absurd x.has

    silent : (i : ℕ) → IsLive (view (start_with pool files handle ref)).queue (view (start_with pool files handle ref)).held i →
        Mute (λ i. false) (view (start_with pool files handle ref)) i
    silent i (IsLive.waits m has e) = absurd has
    silent i (IsLive.rests j m is e) = absurd (none_some None refl is)

start-matched : {P : ℕ → Type 0} (pool handle ref : ℕ) (files : FileList) → Matched P (λ i. false) (view (start_with pool files handle ref))
start-matched pool handle ref files = record {
  unbegun = λ i q live s v has b. absurd has;
  first = λ r t act mine l k kn kl me from same. elim act [ inl z ↦ absurd z | inr z ↦ absurd z ];
  ends = λ s i n r w done. absurd done;
}

start-agreed : (pool handle ref : ℕ) (files : FileList) → IsStart pool handle ref → Agreed (λ i. None) (λ i. false) (start_with pool files handle ref)
start-agreed pool handle ref files from = record {
  addressed = record { born = λ i low. refl; of_tasks = tt; mail = tt };
  marks = record { of_ref = λ i. None; loaded = []; raw = λ i. false };
  raw = refl;
  loaded = record { born = λ i low. refl; unloaded = λ r i low has. has; of_tasks = λ h. tt; mail = tt };
  refs = λ commands ranged. always-own-refs pool handle ref files commands from ranged;
}

pub always-reach : (pool handle ref : ℕ) (files : FileList) (commands : List Command) → IsStart pool handle ref → all_in_range commands ≡ true →
    PlayedReach (is_raw_handle (start_with pool files handle ref) commands) (is_raw_id (start_with pool files handle ref) commands)
    (after (start_with pool files handle ref) commands)
always-reach pool handle ref files commands from ranged =
    let positive : 0 < ref = omega (arith, from.first_ref) in
    after-reach commands ranged (λ h. false) (λ i. false) (start_with pool files handle ref) (record {
      offers = λ i. None;
      edits = λ k i. false;
      addresses = λ i. None;
      stands = start_stands handle ref positive;
      is = start-is pool handle ref files from;
      agreed = start-agreed pool handle ref files from;
      goes = record { played = start-played pool handle ref files; matched = start-matched pool handle ref files };
    })

-- ---- polls give no handle and no ref of theirs

polls-raw : (C : RawHandles) (d : Desk) (names : List (List ℕ)) (cs : List Command) → raw_from C d (polls names ++ cs) ≡ raw_from C (after d (polls names)) cs
polls-raw C d [] cs = refl
polls-raw C d (name ∷ names) cs = polls-raw C (step d (command.Poll name)).0 names cs

polls-gave : (R : Gave) (d : Desk) (names : List (List ℕ)) (cs : List Command) → gave_from R d (polls names ++ cs) ≡ gave_from R (after d (polls names)) cs
polls-gave R d [] cs = refl
polls-gave R d (name ∷ names) cs = polls-gave R (step d (command.Poll name)).0 names cs

rounds-raw : (C : RawHandles) (d : Desk) (rounds : List (List (List ℕ))) → raw_from C d (rounds_of rounds) ≡ C
rounds-raw C d [] = refl
rounds-raw C d (names ∷ rounds) = polls-raw C d names (rounds_of rounds) ∙ rounds-raw C (after d (polls names)) rounds

rounds-gave : (R : Gave) (d : Desk) (rounds : List (List (List ℕ))) → gave_from R d (rounds_of rounds) ≡ R
rounds-gave R d [] = refl
rounds-gave R d (names ∷ rounds) = polls-gave R d names (rounds_of rounds) ∙ rounds-gave R (after d (polls names)) rounds

-- the same tasks and ids after rounds
pub rounds-reach : {C : RawHandles} {R : Gave} (rounds : List (List (List ℕ))) → all_in_range (rounds_of rounds) ≡ true → (d : Desk) → PlayedReach C R d →
    PlayedReach C R (after d (rounds_of rounds))
rounds-reach {C} {R} rounds ranged d w =
    subst (λ (S : Gave). PlayedReach C S (after d (rounds_of rounds))) (rounds-gave R d rounds)
    (subst (λ (S : RawHandles). PlayedReach S (gave_from R d (rounds_of rounds)) (after d (rounds_of rounds))) (rounds-raw C d rounds)
    (after-reach (rounds_of rounds) ranged C R d w))

-- ---- what is known of each record

module _ {C : RawHandles} {R : Gave} (d : Desk) (w : PlayedReach C R d) (h : ℕ) (t : Task) (at : task_of h d.tasks ≡ Some t) where
  there : (v : Incoming) → Has v t.taking → Has v ((view d).taking h)
  there v has = subst (Has v) (sym (field_is (λ y. y.taking) [] h d.tasks t at)) has

  opened : (x : Sending) → Has (Open x) t.sending → Has (Open x) ((view d).sending h)
  opened x has = subst (Has (Open x)) (sym (field_is (λ y. y.sending) [] h d.tasks t at)) has

  in-waits : (v : Incoming) (z : Want) → Has v t.taking → want_in v ≡ Some z → R (in_id v) ≡ false → WaitsFor (view d) h z
  in-waits v z has wants mine = w.goes.played.waits h z (HasWant.comes (record { one = v; has = there v has; wants = wants; id = refl })) mine

  out-waits : (x : Sending) → Has (Open x) t.sending → ((view d).file h && x.last == x.id) ≡ false → C x.recipient ≡ false →
      WaitsFor (view d) h (reply x.last x.recipient)
  out-waits x has more mine = w.goes.played.waits h _ (HasWant.goes (record {
    one = Open x;
    has = opened x has;
    wants = ap (λ c. if c then None else Some (reply x.last x.recipient)) more;
  })) mine

  only-offered : (x : Sending) → Has (Open x) t.sending → ((view d).file h && x.last == x.id) ≡ true → IsOffered t x
  only-offered x has only = offered_only d h t at x (w.stands.good.inv.outs.source h x (opened x has)).unread only

  -- ---- before rest

  comes-alive : (v : Incoming) → Has v t.taking → R (in_id v) ≡ false → ComesAlive d h t v
  comes-alive (Fetching f) has mine = part_alive d h t at f.fetch f.sender f.buffer (in-waits (Fetching f) _ has refl mine)
  comes-alive (Draining f) has mine = part_alive d h t at f.fetch f.sender f.buffer (in-waits (Draining f) _ has refl mine)
  comes-alive (Asking q) has mine = file_alive d h t at q.ack q.sender (in-waits (Asking q) _ has refl mine)
  comes-alive _ has mine = tt

  goes-alive : (x : Sending) → Has (Open x) t.sending → C x.recipient ≡ false → GoesAlive d h t (Open x)
  goes-alive x has mine = by ((view d).file h && x.last == x.id) refl
    where
      by : (c : Bool) → ((view d).file h && x.last == x.id) ≡ c → GoesAlive d h t (Open x)
      by true only = inl (only-offered x has only)
      by false more = inr (reply_alive d h t at x.last x.recipient (out-waits x has more mine))

  -- ---- at rest

  module _ (rest : IsAtRest d.post) where
    none-in : (v : Incoming) (z : Want) → Has v t.taking → want_in v ≡ Some z → R (in_id v) ≡ false → ⊥
    none-in v z has wants mine = none-waits d rest h z (in-waits v z has wants mine)

    rest-comes : (v : Incoming) → Has v t.taking → R (in_id v) ≡ false → is_going v ≡ false
    rest-comes (Fetching f) has mine = absurd (none-in (Fetching f) _ has refl mine)
    rest-comes (Draining f) has mine = absurd (none-in (Draining f) _ has refl mine)
    rest-comes (Asking q) has mine = absurd (none-in (Asking q) _ has refl mine)
    rest-comes (In_done i a n) has mine = refl
    rest-comes (In_failed i a n) has mine = refl

    rest-drains : (f : Taking) → Has (Draining f) t.taking → ⊥
    rest-drains f has = none-in (Draining f) _ has refl (w.stands.raws.drains h f (there (Draining f) has))

    rest-fetches : (f : Taking) → Has (Fetching f) t.taking → f.raw ≡ true
    rest-fetches f has = w.stands.raws.flags h f (there (Fetching f) has) ∙ by (R f.id) refl
      where
        by : (b : Bool) → R f.id ≡ b → b ≡ true
        by true e = refl
        by false e = absurd (none-in (Fetching f) _ has refl e)

    rest-goes : (x : Sending) → Has (Open x) t.sending → C x.recipient ≡ false → IsOffered t x
    rest-goes x has mine = by ((view d).file h && x.last == x.id) refl
      where
        by : (c : Bool) → ((view d).file h && x.last == x.id) ≡ c → IsOffered t x
        by true only = only-offered x has only
        by false more = absurd (none-waits d rest h (reply x.last x.recipient) (out-waits x has more mine))

-- ---- the laws

pub always-has-live-ends-beside : AlwaysHasLiveEndsBeside
always-has-live-ends-beside pool handle ref files commands from ranged =
    let d : Desk = after (start_with pool files handle ref) commands in
    let w = always-reach pool handle ref files commands from ranged in
    record {
      comes = λ h t v at has. comes-alive d w h t at v (has_of t.taking v has);
      goes = λ h t x at has. goes-alive d w h t at x (has_of t.sending (Open x) has);
    }

pub always-settles-beside : AlwaysSettlesBeside
always-settles-beside pool handle ref files commands from ranged rounds in_rounds names few =
    let start : Desk = start_with pool files handle ref in
    let d : Desk = after start commands in
    let end : Desk = after d (rounds_of rounds) in
    let w = rounds-reach rounds in_rounds d (always-reach pool handle ref files commands from ranged) in
    let rest = (always-progresses pool handle ref files commands from ranged).rests rounds in_rounds names few in
    record {
      comes = λ h t v at has. rest-comes end w h t at rest v (has_of t.taking v has);
      drains = λ h t f at has. rest-drains end w h t at rest f (has_of t.taking (Draining f) has);
      fetches = λ h t f at has. rest-fetches end w h t at rest f (has_of t.taking (Fetching f) has);
      goes = λ h t x at has. rest-goes end w h t at rest x (has_of t.sending (Open x) has);
      cancels = subst CancelsEnd (after-both start commands (rounds_of rounds))
          (always-cancels-end pool handle ref files (commands ++ rounds_of rounds) from (both-ranged commands (rounds_of rounds) ranged in_rounds));
    }
  where
    both-ranged : (cs ds : List Command) → all_in_range cs ≡ true → all_in_range ds ≡ true → all_in_range (cs ++ ds) ≡ true
    both-ranged [] ds p q = q
    both-ranged (c ∷ cs) ds p q =
        let first : in_range c ≡ true = and_left (in_range c) _ p in
        let rest = both-ranged cs ds (and_right (in_range c) _ p) q in rw (first, rest) refl

-- ---- where no command starts a task with code of its own

none-started : (C : RawHandles) (c : Command) (r : Reply) → starts_raw c ≡ false → ((h : ℕ) → C h ≡ false) → (h : ℕ) → raw_next C c r h ≡ false
none-started C (command.Task name buffer manner) (reply.Started k) q none h = elim (eqb_tells h k) [ inl z ↦ rw z.0 q | inr z ↦ rw z.0 (none h) ]
none-started C (command.Task name buffer manner) r q none h = none h
none-started C c r q none h = none h

none-from : (cs : List Command) → has_raw cs ≡ false → (C : RawHandles) (d : Desk) → ((h : ℕ) → C h ≡ false) → (h : ℕ) → raw_from C d cs h ≡ false
none-from [] q C d none h = none h
none-from (c ∷ cs) q C d none h =
    let w = neither (starts_raw c) (has_raw cs) q in
    none-from cs w.1 (raw_next C c (step d c).1) (step d c).0 (λ k. none-started C c (step d c).1 w.0 none k) h

pub no-raw-handle : (pool handle ref : ℕ) (files : FileList) (cs : List Command) → has_raw cs ≡ false → (h : ℕ) →
    is_raw_handle (start_with pool files handle ref) cs h ≡ false
no-raw-handle pool handle ref files cs q h = none-from cs q (λ k. false) (start_with pool files handle ref) (λ k. refl) h

pub always-settles : AlwaysSettles
always-settles pool handle ref files cs from ranged q rounds in_rounds names few =
    let w = always-settles-beside pool handle ref files cs from ranged rounds in_rounds names few in
    record {
      comes = λ h t v at has. w.comes h t v at has (no_raw_id pool handle ref files cs q (in_id v));
      goes = λ h t x at has. w.goes h t x at has (no-raw-handle pool handle ref files cs q x.recipient);
    }

pub always-has-live-ends : AlwaysHasLiveEnds
always-has-live-ends pool handle ref files cs from ranged q =
    let w = always-has-live-ends-beside pool handle ref files cs from ranged in
    record {
      comes = λ h t v at has. w.comes h t v at has (no_raw_id pool handle ref files cs q (in_id v));
      goes = goes-alive-all (after (start_with pool files handle ref) cs) (λ h t x at has.
          w.goes h t x at has (no-raw-handle pool handle ref files cs q x.recipient));
    }
  where
    goes-alive-all : (d : Desk) → ((h : ℕ) (t : Task) (x : Sending) → task_of h d.tasks ≡ Some t → Contains t.sending (Open x) → GoesAlive d h t (Open x)) →
        (h : ℕ) (t : Task) (x : Outgoing) → task_of h d.tasks ≡ Some t → Contains t.sending x → GoesAlive d h t x
    goes-alive-all d open_ h t (Open x) at has = open_ h t x at has
    goes-alive-all d open_ h t x at has = tt
