-- No scrap file is left behind.
use Rattle.rh_laws.proofs.Common.{◌≡◌, ℕ, true, false, List, [], ◌∷◌, Option, Some, None, refl, sym, ap, subst, ◌∙◌, inl, inr, arith, IfSome}
use Rattle.rh_laws.proofs.Common.{AllByRecursion, Parcel, Seat, Desk, Scrap, after, start_with, IsDesk, after-is, start-is, has_of}
use Rattle.rh_laws.proofs.Common.{none_some}
use Rattle.rh_defs.specs.Laws.{IsQueued, seat_handles, task_handles}
use Rattle.rh_safety.specs.ScrapFile.{IsLiveMessage}
use Rattle.rh_laws.specs.Progress.{IsAtRest, rounds_of}
use Rattle.rh_laws.specs.ScrapEnds.{AlwaysLeavesNone, HasLoad}
use Rattle.rh_laws.proofs.Addresses.{all-has}
use Rattle.rh_laws.proofs.LiveMail.{OfParcel, held-mail, none-live}
use Rattle.rh_laws.proofs.ProgressLaws.{always-progresses}
use Rattle.rh_laws.proofs.ScrapKept.{kept-after}
use Rattle.rh_laws.proofs.ScrapRefs.{IsFine, Kept, kept}

module _ (d : Desk) (k : Kept d) where
  -- what is known of a live message
  fine : (p : Parcel) → IsLiveMessage d.post p → IsFine k.next k.file p.message
  fine p (inl queued) =
      all-has (OfParcel (IsFine k.next k.file)) d.post.queued p k.stays.holds.mail.queued (has_of d.post.queued p queued)
  fine p (inr held) =
      subst (λ v. IfSome v (OfParcel (IsFine k.next k.file))) held.1
      (held-mail (IsFine k.next k.file) held.0 d.post.seats k.stays.holds.mail.held)

  has-load : (file : Scrap) → d.scrap ≡ Some file → HasLoad d file
  has-load file there =
      let is : k.file ≡ Some file = sym k.stays.holds.file ∙ there in
      record {
        given = let lt = (k.stays.holds.given file is).1 in let next = k.stays.holds.next in omega (arith, lt, next);
        live = k.stays.live file is;
        loads = λ p live same. (fine p live).says file is same;
      }

  rest-none : IsAtRest d.post → d.scrap ≡ None
  rest-none rest = by d.scrap refl
    where
      by : (v : Option Scrap) → d.scrap ≡ v → d.scrap ≡ None
      by None there = there
      by (Some file) there =
          absurd (let z : true ≡ false = sym (has-load file there).live ∙ none-live file.load d.post rest.queue rest.held in (cc))

  -- nothing is queued or held where no task is live
  alone-none : IsDesk d → d.tasks ≡ [] → d.scrap ≡ None
  alone-none is none = rest-none (record {
    queue = no-queue d.post.next_ref d.post.queued (subst (λ ss. AllByRecursion (IsQueued d.post.next_ref ss) d.post.queued) empty is.post.queued);
    held = subst (AllByRecursion (λ (s : Seat). s.holds ≡ None)) (sym empty) tt;
  })
    where
      no-seats : (ss : List Seat) → seat_handles ss ≡ [] → ss ≡ []
      no-seats [] e = refl
      no-seats (s ∷ ss) e = absurd (cc)

      no-queue : (next : ℕ) (ps : List Parcel) → AllByRecursion (IsQueued next []) ps → ps ≡ []
      no-queue next [] all = refl
      no-queue next (p ∷ ps) all = absurd (let z : false ≡ true = all.0.live in (cc))

      empty : d.post.seats ≡ []
      empty = no-seats d.post.seats (is.seats ∙ ap task_handles none)

pub always-leaves-none : AlwaysLeavesNone
always-leaves-none pool handle ref files commands from ranged =
    let start : Desk = start_with pool files handle ref in
    let first : IsDesk start = start-is pool handle ref files from in
    let d : Desk = after start commands in
    let k : Kept d = kept-after commands ranged start first (kept {n = ref} {o = None} (record {
      holds = record {
        next = refl;
        file = refl;
        low = omega (arith, from.first_ref);
        given = λ file q. absurd (none_some None refl q);
        refs = tt;
        mail = record { queued = tt; held = tt };
      };
      live = λ file q. absurd (none_some None refl q);
    })) in
    record {
      load = has-load d k;
      rest = rest-none d k;
      alone = alone-none d k (after-is start commands ranged first);
      goes = λ rounds in_range all few.
          let e : Desk = after d (rounds_of rounds) in
          let k2 : Kept e = kept-after (rounds_of rounds) in_range d (after-is start commands ranged first) k in
          rest-none e k2 ((always-progresses pool handle ref files commands from ranged).rests rounds in_range all few);
    }
