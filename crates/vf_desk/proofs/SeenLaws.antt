-- What follows for each desk that a handle may be seen as.
use Rattle.vf_desk.proofs.Common.{◌≡◌, refl, sym, ap, subst, ◌∙◌, ◌≢◌, true, false, Option, Some, None, Command, Desk, Console, in_range, CallOutcome, OpenDesk}
use Rattle.vf_desk.proofs.Common.{IsAsked, called, desk_by, in_form, status_of, KeepsRest, SeenBy, console_in}
use Rattle.rh_defs.specs.declared.command.Command.TheVariants as command
use Rattle.rh_defs.specs.declared.reply.Reply.{Reply}
use Rattle.rh_defs.specs.declared.reply.Reply.TheVariants as reply
use Rattle.rh_tasks.specs.Answer.{StaysIfAsked, StaysIfRefused, StepsTo}
use Rattle.rh_tasks.specs.Inner.CommandAnswers.{Does}
use Rattle.rh_tasks.specs.Shown.{Shown}
use Rattle.vf_desk.specs.declared.call_outcome.CallOutcome.TheVariants.{Closed, BadArgument, Said}
use Rattle.vf_desk.specs.Inner.DeskSteps.{Steps}
use Rattle.vf_desk.proofs.FormLaws.{in-its-form, out-of-form}
use Rattle.vf_desk.specs.SeenDesk.{said_in}

-- ---- a closed desk

pub closed-said : (s : Option Desk) (command : Option Command) → SeenBy None s → Closed ≡ called s command
closed-said None command seen = refl
closed-said (Some d) command seen = absurd seen

pub closed-desk : (s : Option Desk) (command : Option Command) → SeenBy None s → SeenBy None (desk_by s command)
closed-desk None command seen = tt
closed-desk (Some d) command seen = absurd seen

-- ---- a command that the world has done

-- a reply whose status isn't 0 is a refusal
pub refused-stays : (old new : Shown) (r : Reply) → StaysIfRefused old new r → status_of (Said r) ≢ 0 → new ≡ old
refused-stays old new (reply.Refused refusal) stays bad = stays refusal refl
refused-stays old new _ stays bad = absurd (bad refl)

pub asked-stays : (old new : Shown) (c : Command) → StaysIfAsked c old new → IsAsked (Some c) → new ≡ old
asked-stays old new (command.Ask q) stays asked = stays q refl
asked-stays old new _ stays asked = absurd asked

-- ---- what a handle has

-- what is said of the open desk in a handle is said of the handle
pub in-handle : {held : Option OpenDesk} {open_desk : OpenDesk} {P : Option Desk → Type 0} → Some open_desk ≡ held
    → ((s : Option Desk) → SeenBy open_desk.console s → P s) → (s : Option Desk) → SeenBy (console_in held) s → P s
in-handle is holds s seen = holds s (subst (λ h. SeenBy (console_in h) s) (sym is) seen)

-- an empty handle is seen as a closed desk
pub empty-seen : {held : Option OpenDesk} → held ≡ None → (s : Option Desk) → SeenBy (console_in held) s → SeenBy None s
empty-seen is s seen = subst (λ h. SeenBy (console_in h) s) is seen

-- ---- what is done on a world

pub steps-none : (world : Shown) → Steps None world world BadArgument
steps-none world = record { said_is = λ d seen. refl; desk = λ d seen. seen; refused = λ _. refl; asked = λ _. refl }

pub steps-done : (c : Command) {old new : Shown} {r : Reply} → StepsTo c old.desk new.desk r → StaysIfRefused old new r → StaysIfAsked c old new
    → Steps (Some c) old new (Said r)
steps-done c {old} {new} {r} steps refused asked = record {
  said_is = λ d seen. ap Said (sym (steps d seen).0);
  desk = λ d seen. (steps d seen).1;
  refused = refused-stays old new r refused;
  asked = asked-stays old new c asked;
}

pub steps-bad : (c : Command) (world : Shown) → in_range c ≡ false → Steps (in_form c) world world BadArgument
steps-bad c world bad = subst (λ f. Steps f world world BadArgument) (out-of-form c bad) (steps-none world)

pub steps-ranged : (c : Command) {old new : Shown} {r : Reply} → in_range c ≡ true → StepsTo c old.desk new.desk r → StaysIfRefused old new r
    → StaysIfAsked c old new → Steps (in_form c) old new (Said r)
steps-ranged c {old} {new} {r} good steps refused asked =
    subst (λ f. Steps f old new (Said r)) (in-its-form c good) (steps-done c steps refused asked)

pub steps-good : (c : Command) {old new : Shown} {r : Reply} → in_range c ≡ true → Does c old new r → Steps (in_form c) old new (Said r)
steps-good c good does = steps-ranged c good does.steps does.refused does.asked

-- ---- a open desk that has been left as it was

pub stays-rest : (held : Option OpenDesk) → KeepsRest held held
stays-rest held = record { files = refl; said = refl }

-- ---- a open desk on whose desk a command was done

module _ (open_desk : OpenDesk) {old : Console} (is : open_desk.console ≡ Some old) {command : Option Command} {world : Shown} {said : CallOutcome}
    (steps : Steps command old.world world said) where
  abbrev pub console_now : Console
  console_now = record { world = world; said = old.said; command = old.command }

  abbrev pub station_now : OpenDesk
  station_now = record { files = open_desk.files; console = Some console_now; held = open_desk.held }

  pub done-said : (s : Option Desk) → SeenBy open_desk.console s → said ≡ called s command
  done-said s seen = go s (subst (λ h. SeenBy h s) is seen)
    where
      go : (s : Option Desk) → SeenBy (Some old) s → said ≡ called s command
      go None seen = absurd seen
      go (Some d) seen = steps.said_is d seen

  pub done-desk : (s : Option Desk) → SeenBy open_desk.console s → SeenBy (Some console_now) (desk_by s command)
  done-desk s seen = go s (subst (λ h. SeenBy h s) is seen)
    where
      go : (s : Option Desk) → SeenBy (Some old) s → SeenBy (Some console_now) (desk_by s command)
      go None seen = absurd seen
      go (Some d) seen = steps.desk d seen

  pub done-rest : KeepsRest (Some open_desk) (Some station_now)
  done-rest = record { files = refl; said = ap said_in (sym is) }

  done-same : world ≡ old.world → station_now ≡ open_desk
  done-same same =
      let with_world : Shown → OpenDesk = λ w.
      record { files = open_desk.files; console = Some (record { world = w; said = old.said; command = old.command }); held = open_desk.held } in
      let with_console : Option Console → OpenDesk = λ h. record { files = open_desk.files; console = h; held = open_desk.held } in
      ap with_world same ∙ ap with_console (sym is)

  pub done-refused : status_of said ≢ 0 → station_now ≡ open_desk
  done-refused bad = done-same (steps.refused bad)

  pub done-asked : IsAsked command → station_now ≡ open_desk
  done-asked asked = done-same (steps.asked asked)

-- one whose desk isn't open
module _ {held : Option Console} (is : held ≡ None) where
  pub shut-said : (command : Option Command) (s : Option Desk) → SeenBy held s → Closed ≡ called s command
  shut-said command s seen = closed-said s command (subst (λ h. SeenBy h s) is seen)

  pub shut-desk : (command : Option Command) (s : Option Desk) → SeenBy held s → SeenBy held (desk_by s command)
  shut-desk command s seen =
      subst (λ h. SeenBy h (desk_by s command)) (sym is) (closed-desk s command (subst (λ h. SeenBy h s) is seen))

-- ---- a handle whose open desk was taken out, changed, and put back

module _ {held now : Option OpenDesk} {old new : OpenDesk} (is : Some old ≡ held) (put : now ≡ Some new) where
  -- what is said of the stations is said of the handles
  pub held-by : (R : Option OpenDesk → Option OpenDesk → Type 0) → R (Some old) (Some new) → R held now
  held-by R r = subst (λ h. R h now) is (subst (λ h. R (Some old) h) (sym put) r)

  pub held-desk : (f : Option Desk → Option Desk) → ((s : Option Desk) → SeenBy old.console s → SeenBy new.console (f s))
      → (s : Option Desk) → SeenBy (console_in held) s → SeenBy (console_in now) (f s)
  held-desk f desk s seen = subst (λ h. SeenBy (console_in h) (f s)) (sym put) (desk s (subst (λ h. SeenBy (console_in h) s) (sym is) seen))

  pub held-same : new ≡ old → now ≡ held
  held-same same = put ∙ ap Some same ∙ is

-- one that had none
module _ {held now : Option OpenDesk} (is : None ≡ held) (left : now ≡ None) where
  pub none-by : (R : Option OpenDesk → Option OpenDesk → Type 0) → R None None → R held now
  none-by R r = subst (λ h. R h now) is (subst (λ h. R None h) (sym left) r)

  pub none-said : (command : Option Command) (s : Option Desk) → SeenBy (console_in held) s → Closed ≡ called s command
  none-said command s seen = closed-said s command (empty-seen (sym is) s seen)

  pub none-desk : (command : Option Command) (s : Option Desk) → SeenBy (console_in held) s → SeenBy (console_in now) (desk_by s command)
  none-desk command s seen =
      subst (λ h. SeenBy (console_in h) (desk_by s command)) (sym left) (closed-desk s command (empty-seen (sym is) s seen))
