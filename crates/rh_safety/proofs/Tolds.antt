-- What each id offers once what was taken of tasks with code of their own counts as offered by them: told by the commands and their replies.
use Rattle.rh_safety.proofs.Common.{◌≡◌, ℕ, Bool, true, false, if◌then◌else◌, List, [], ◌∷◌, ◌++◌, take, Option, Some, None, refl}
use Rattle.rh_safety.proofs.Common.{find}
use Rattle.rh_safety.proofs.Common.{Body, Command, Outcome, Reply, Parcel, post_poll, Desk, Scrap, Task, has_name, Asked, Incoming, Taking}
use Rattle.rh_safety.proofs.Common.{Offers, Has}
use Rattle.rh_safety.proofs.Common.{active_is, asking_is, fetches, FoundActive, and_left, is_equal, nat_eq}
use Rattle.std.specs.Prelude.{unwrap_or}
use Rattle.rh_defs.specs.declared.command.Command.TheVariants as command
use Rattle.rh_defs.specs.declared.message.Body.TheVariants as body
use Rattle.rh_defs.specs.declared.raw_command.RawCommand.TheVariants as raw
use Rattle.rh_defs.specs.declared.reply.Reply.TheVariants as reply
use Rattle.rh_defs.specs.declared.transfer.Incoming.TheVariants as incoming
use Rattle.rh_defs.specs.AnyMessage.{read_body}
use Rattle.rh_defs.specs.Commands.{step}
use Rattle.rh_defs.specs.Desk.{kept_scrap}
use Rattle.rh_defs.specs.RawTasks.{is_raw_task}
use Rattle.rh_defs.specs.Receiver.{is_answer, is_load}
use Rattle.rh_defs.specs.Records.{active_of, asking_of}
use Rattle.rh_safety.specs.Buffers.{bytes_of_buffer}
use Rattle.rh_safety.specs.Given.{is_bounce, takes_bytes, takes_file}
use Rattle.rh_safety.specs.Offered.{at_place, repeated_next, saved_next}
use Rattle.rh_safety.specs.RawIds.{Gave, gave_next}

-- ---- by a message

-- what a record of theirs took
abbrev pub told_bytes : Offers → Gave → Task → Option Incoming → ℕ → Offers
told_bytes p R t (Some (incoming.Fetching f)) n =
    if R f.id then at_place p f.id (Some (unwrap_or (p f.id) [] ++ take n (unwrap_or (bytes_of_buffer t.slot f.buffer) []))) else p
told_bytes p R t _ n = p

abbrev pub told_file : Offers → Gave → Option Asked → Option Scrap → Offers
told_file p R (Some q) (Some file) = if R q.id then at_place p q.id (Some (unwrap_or (p q.id) [] ++ file.bytes)) else p
told_file p R _ _ = p

abbrev pub told_by : Offers → Gave → Task → Option Scrap → Parcel → Bool → Body → Outcome → Offers
told_by p R t file m false (body.RamTransmit buffer n) o =
    if takes_bytes o then told_bytes p R t (active_of (is_answer t.buffer m.message.from m.message.your_ref buffer n) t.taking) n else p
told_by p R t file m false (body.DataLoad f) o =
    if takes_file o then told_file p R (asking_of (is_load m.message.from m.message.your_ref) t.taking) file else p
told_by p R t file m back b o = p

-- ---- by a command

abbrev pub told_event : Offers → Gave → Task → Option Scrap → Option Parcel → Reply → Offers
told_event p R t file (Some m) (reply.Event code action mine yours o) = told_by p R t file m (is_bounce m.code) (read_body m.message.body) o
told_event p R t file _ _ = p

abbrev pub told_polled : Offers → Gave → Desk → Option Task → Reply → Offers
told_polled p R d None r = p
told_polled p R d (Some t) r = told_event p R t (kept_scrap (post_poll t.handle d.post).0 d.scrap) (post_poll t.handle d.post).1 r

-- a message of theirs offers nothing yet
abbrev pub told_sent : Offers → Reply → Offers
told_sent p (reply.Sent ref) = at_place p ref (Some [])
told_sent p _ = p

abbrev pub told_next : Offers → Gave → Desk → Command → Reply → Offers
told_next p R d (command.Save name k to leaf) r = saved_next p d name k r
told_next p R d (command.Repeat name) r = if is_raw_task (find (has_name name) d.tasks) then told_sent p r else repeated_next p d name r
told_next p R d (command.Raw (raw.Send name recorded to ref a bytes)) r = told_sent p r
told_next p R d (command.Raw (raw.Spool name k to ref)) r = told_sent p r
told_next p R d (command.Poll name) r = told_polled p R d (find (has_name name) d.tasks) r
told_next p R d _ r = p

abbrev pub told_from : Offers → Gave → Desk → List Command → Offers
told_from p R d [] = p
told_from p R d (c ∷ commands) = told_from (told_next p R d c (step d c).1) (gave_next R d c (step d c).1) (step d c).0 commands

-- ---- where nothing of theirs is taken

module _ (p : Offers) (R : Gave) (t : Task) (file : Option Scrap) (m : Parcel) where
  -- by what was done
  pub told_none : (back : Bool) (b : Body) (o : Outcome) → takes_bytes o ≡ false → takes_file o ≡ false → told_by p R t file m back b o ≡ p
  told_none false (body.RamTransmit buffer n) o bytes load = rw bytes refl
  told_none false (body.DataLoad f) o bytes load = rw load refl
  told_none back b o bytes load = refl

  -- of a message that came back
  pub told_back : (b : Body) (o : Outcome) → told_by p R t file m true b o ≡ p
  told_back b o = refl

  bytes_mine : (v : Option Incoming) (n : ℕ) → ((f : Taking) → v ≡ Some (incoming.Fetching f) → R f.id ≡ false) → told_bytes p R t v n ≡ p
  bytes_mine None n mine = refl
  bytes_mine (Some (incoming.Fetching f)) n mine = rw (mine f refl) refl
  bytes_mine (Some w) n mine = refl

  file_mine : (v : Option Asked) (s : Option Scrap) → ((q : Asked) → v ≡ Some q → R q.id ≡ false) → told_file p R v s ≡ p
  file_mine None s mine = refl
  file_mine (Some q) None mine = refl
  file_mine (Some q) (Some s) mine = rw (mine q refl) refl

  -- of a message of the desk's own
  module _ (active : (f : Taking) → Has (incoming.Fetching f) t.taking → m.message.from ≡ f.sender → R f.id ≡ false)
      (asking : (q : Asked) → Has (incoming.Asking q) t.taking → m.message.from ≡ q.sender → R q.id ≡ false) where
    found_mine : (buffer n : ℕ) (f : Taking) →
        active_of (is_answer t.buffer m.message.from m.message.your_ref buffer n) t.taking ≡ Some (incoming.Fetching f) → R f.id ≡ false
    found_mine buffer n f q = by (active_is (is_answer t.buffer m.message.from m.message.your_ref buffer n) t.taking (incoming.Fetching f) q)
      where
        by : FoundActive (is_answer t.buffer m.message.from m.message.your_ref buffer n) t.taking (incoming.Fetching f) → R f.id ≡ false
        by (fetches x has passes) = active x has (is_equal _ _ (and_left _ _ (and_left _ (nat_eq buffer x.buffer) (and_left _ _ passes))))

    pub told_mine : (back : Bool) (b : Body) (o : Outcome) → told_by p R t file m back b o ≡ p
    told_mine false (body.RamTransmit buffer n) o = go (takes_bytes o)
      where
        go : (c : Bool) → (if c then told_bytes p R t (active_of (is_answer t.buffer m.message.from m.message.your_ref buffer n) t.taking) n else p) ≡ p
        go true = bytes_mine _ n (found_mine buffer n)
        go false = refl
    told_mine false (body.DataLoad f) o = go (takes_file o)
      where
        go : (c : Bool) → (if c then told_file p R (asking_of (is_load m.message.from m.message.your_ref) t.taking) file else p) ≡ p
        go true = file_mine _ file (λ q found.
            let w = asking_is (is_load m.message.from m.message.your_ref) t.taking q found in
            asking q w.0 (is_equal _ _ (and_left _ _ w.1)))
        go false = refl
    told_mine back b o = refl
